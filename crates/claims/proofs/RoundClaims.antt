-- The rounds are undone whatever stands in the place of f: a round takes only what it leaves as it is into f.
use Rattle.standard.proofs.Prelude.{◌≡◌, refl, ap, ◌∙◌, List, ◌++◌, ℕ, zero, suc, ◌-◌, ◌≤◌, arith, length}
use Rattle.standard.specs.Bytes.{◌!◌, table, part, xors}
use Rattle.standard.specs.Hurdle.{f, Halves, round, rounds, crypt, schedule, round_key, encrypt, decrypt}
use Rattle.standard.proofs.BytesLaws.{spelled}
use Rattle.standard.proofs.XorLaws.{xor_cancel_r}
use Rattle.claims.specs.Reasons.{rounds_by, crypt_by, WhateverF}

-- ---- with f itself

rounds_by_f : (k : ℕ → List ℕ) (n : ℕ) (h : Halves) → rounds_by f k n h ≡ rounds k n h
unfolding rounds round
rounds_by_f k zero h = refl
rounds_by_f k (suc n) h = ap (round (k n)) (rounds_by_f k n h)

crypt_by_f : (k : ℕ → List ℕ) (b : List ℕ) → crypt_by f k b ≡ crypt k b
unfolding crypt_by crypt
crypt_by_f k b = ap (λ (h : Halves). h.1 ++ h.0) (rounds_by_f k 16 (part 0 4 b, part 4 4 b))

-- ---- with any g

abbrev exchanged : Halves → Halves
exchanged h = (h.1, h.0)

abbrev Fours : Halves → Type 0
Fours h = (length h.0 ≡ 4) × (length h.1 ≡ 4)

module _ (g : List ℕ → List ℕ → List ℕ) where
  -- one round
  abbrev step : List ℕ → Halves → Halves
  step k h = (h.1, xors 4 h.0 (g h.1 k))

  step_undone : (k : List ℕ) (h : Halves) → Fours h → step k (exchanged (step k h)) ≡ exchanged h
  step_undone k h p = ap (λ (l : List ℕ). (h.1, l)) (simp xor_cancel_r (spelled 4 h.0 p.0))

  all_fours : (k : ℕ → List ℕ) (n : ℕ) (h : Halves) → Fours h → Fours (rounds_by g k n h)
  all_fours k zero h p = p
  all_fours k (suc n) h p = ((all_fours k n h p).1, refl)

  -- m of n rounds undone, the last first
  undone_by : (n : ℕ) (k : ℕ → List ℕ) (h : Halves) → Fours h → (m : ℕ) → m ≤ n
      → rounds_by g (λ i. k (n - suc i)) m (exchanged (rounds_by g k n h)) ≡ exchanged (rounds_by g k (n - m) h)
  undone_by n k h p zero l = let e : n - 0 ≡ n = omega arith in rw e
  undone_by n k h p (suc m) l =
      let q : ℕ = n - suc m in
      let e : n - m ≡ suc q = omega arith in
      ap (step (k q)) (undone_by n k h p m (omega arith) ∙ ap (λ (j : ℕ). exchanged (rounds_by g k j h)) e)
      ∙ step_undone (k q) (rounds_by g k q h) (all_fours k q h p)

-- ---- a block

abbrev start : List ℕ → Halves
start b = (part 0 4 b, part 4 4 b)

start_of : (x y : List ℕ) → length x ≡ 4 → length y ≡ 4 → start (x ++ y) ≡ (x, y)
start_of x y hx hy =
    let p : table 4 (λ i. x ! i) ≡ x = spelled 4 x hx in
    let q : table 4 (λ i. y ! i) ≡ y = spelled 4 y hy in
    rw (← p, ← q)

block_undone : (g : List ℕ → List ℕ → List ℕ) (k : ℕ → List ℕ) (b : List ℕ) → length b ≡ 8 → crypt_by g (λ i. k (15 - i)) (crypt_by g k b) ≡ b
unfolding crypt_by
block_undone g k b hb =
    let end : Halves = rounds_by g k 16 (start b) in
    let n : Fours end = all_fours g k 16 (start b) (refl, refl) in
    ap (λ (h : Halves). let z : Halves = rounds_by g (λ i. k (15 - i)) 16 h in z.1 ++ z.0) (start_of end.1 end.0 n.1 n.0)
    ∙ ap (λ (h : Halves). h.1 ++ h.0) (undone_by g 16 k (start b) (refl, refl) 16 (omega arith))
    ∙ spelled 8 b hb

pub whatever_f : WhateverF
unfolding encrypt decrypt
whatever_f = record {
  encrypts = λ key b. crypt_by_f (λ i. round_key (schedule key) i) b;
  decrypts = λ key b. crypt_by_f (λ i. round_key (schedule key) (15 - i)) b;
  undone = block_undone;
}
