-- HURDLE-II: S and its inverse undo each other; decryption undoes encryption, and encryption decryption.
use Rattle.standard.proofs.Prelude.{◌≡◌, refl, ap, ◌∙◌, Bool, true, ◌&&◌, List, ◌++◌, ℕ, zero, suc, ◌-◌, ◌<◌, arith, eqb, ltb, length}
use Rattle.standard.proofs.Prelude.{length-append, eqb-true, ltb-true}
use Rattle.standard.specs.Bytes.{◌!◌, bit, table, part, Bytes}
use Rattle.standard.specs.Hurdle.{S, S⁻¹, T, Y, f, Halves, round, rounds, crypt, round_key, schedule, encrypt, decrypt}
use Rattle.standard.proofs.XorLaws.{xor_cancel_r}
use Rattle.standard.proofs.BytesLaws.{spelled, bytes_nil, bytes_cons, bytes_append, bytes_part, bytes_xors, and_split, every, every_at}

-- ---- S: one computed test over the two tables, and what it gives at each entry

right : ℕ → Bool
right i = ltb (S ! i) 256 && ltb (S⁻¹ ! i) 256 && eqb (S⁻¹ ! (S ! i)) i && eqb (S ! (S⁻¹ ! i)) i

all_right : every 256 right ≡ true
unfolding right S S⁻¹
all_right = refl

pub record Permuted (i : ℕ) : Type 0 where
  pub s_byte : S ! i < 256
  pub inverse_byte : S⁻¹ ! i < 256
  pub inverse_s : S⁻¹ ! (S ! i) ≡ i
  pub s_inverse : S ! (S⁻¹ ! i) ≡ i

pub permuted : (i : ℕ) → i < 256 → Permuted i
unfolding right
permuted i h =
    let e = and_split _ _ (every_at 256 right all_right i h) in
    let g = and_split _ _ e.0 in
    let k = and_split _ _ g.0 in
    record {
      s_byte = ltb-true _ _ k.0;
      inverse_byte = ltb-true _ _ k.1;
      inverse_s = eqb-true _ _ g.1;
      s_inverse = eqb-true _ _ e.1;
    }

-- ---- f gives four bytes

bit_lt : (n x : ℕ) → bit n x < 2
unfolding bit
bit_lt n x = omega arith

Y_lt : (x k : List ℕ) (n : ℕ) → Y x k n < 256
Y_lt x k n =
    omega (
      arith,
      bit_lt n (T x k 4),
      bit_lt n (T x k 5),
      bit_lt n (T x k 6),
      bit_lt n (T x k 7),
      bit_lt n (T x k 8),
      bit_lt n (T x k 9),
      bit_lt n (T x k 10),
      bit_lt n (T x k 11),
    )

pub f_bytes : (x k : List ℕ) → Bytes 4 (f x k)
unfolding f
f_bytes x k =
    bytes_cons (Y_lt x k 3) (bytes_cons (Y_lt x k 2) (bytes_cons (Y_lt x k 1) (bytes_cons (Y_lt x k 0) bytes_nil)))

-- ---- rounds

abbrev swap : Halves → Halves
swap h = (h.1, h.0)

abbrev Lengths : Halves → Type 0
Lengths h = (length h.0 ≡ 4) × (length h.1 ≡ 4)

rounds_lengths : (k : ℕ → List ℕ) (n : ℕ) (h : Halves) → Lengths h → Lengths (rounds k n h)
unfolding rounds round
rounds_lengths k zero h p = p
rounds_lengths k (suc n) h p = ((rounds_lengths k n h p).1, refl)

-- a round on the halves exchanged undoes the round
round_undone : (k : List ℕ) (h : Halves) → Lengths h → round k (swap (round k h)) ≡ swap h
unfolding round
round_undone k h p = ap (λ (l : List ℕ). (h.1, l)) (simp xor_cancel_r (spelled 4 h.0 p.0))

-- the first round apart
rounds_first : (k : ℕ → List ℕ) (n : ℕ) (h : Halves) → rounds k (suc n) h ≡ rounds (λ i. k (suc i)) n (round (k 0) h)
unfolding rounds
rounds_first k zero h = refl
rounds_first k (suc n) h = ap (round (k (suc n))) (rounds_first k n h)

rounds_undone : (n : ℕ) (k k' : ℕ → List ℕ) → ((i : ℕ) → i < n → k' i ≡ k (n - suc i)) → (h : Halves) → Lengths h
    → rounds k' n (swap (rounds k n h)) ≡ swap h
unfolding rounds round
rounds_undone zero k k' e h p = refl
rounds_undone (suc n) k k' e h p =
    ap (λ (g : Halves). round (k' n) (rounds k' n (swap g))) (rounds_first k n h)
    ∙ ap (round (k' n)) (rounds_undone n (λ i. k (suc i)) k' (λ i l. e i (omega arith) ∙ ap k (omega arith)) (round (k 0) h) (p.1, refl))
    ∙ ap (λ (q : List ℕ). round q (swap (round (k 0) h))) (e n (omega arith) ∙ ap k (omega arith))
    ∙ round_undone (k 0) h p

-- ---- the block

abbrev start : List ℕ → Halves
start b = (part 0 4 b, part 4 4 b)

-- the keys in reverse order undo it
crypt_undone : (k k' : ℕ → List ℕ) → ((i : ℕ) → i < 16 → k' i ≡ k (15 - i)) → (b : List ℕ) → length b ≡ 8 → crypt k' (crypt k b) ≡ b
unfolding crypt
crypt_undone k k' e b h =
    let end : Halves = rounds k 16 (start b) in
    let n : Lengths end = rounds_lengths k 16 (start b) (refl, refl) in
    let again : rounds k' 16 (start (end.1 ++ end.0)) ≡ swap (start b) =
    rw (halves_of end.1 end.0 n.1 n.0) (rounds_undone 16 k k' (λ i l. e i l ∙ ap k (omega arith)) (start b) (refl, refl)) in
    ap (λ (g : Halves). g.1 ++ g.0) again ∙ spelled 8 b h
  where
    halves_of : (x y : List ℕ) → length x ≡ 4 → length y ≡ 4 → start (x ++ y) ≡ (x, y)
    halves_of x y m n =
        let p : table 4 (λ i. x ! i) ≡ x = spelled 4 x m in
        let q : table 4 (λ i. y ! i) ≡ y = spelled 4 y n in
        rw (← p, ← q)

rounds_bytes : (k : ℕ → List ℕ) (n : ℕ) (h : Halves) → Bytes 4 h.0 → Bytes 4 h.1 → Bytes 4 (rounds k n h).0 × Bytes 4 (rounds k n h).1
unfolding rounds round
rounds_bytes k zero h p q = (p, q)
rounds_bytes k (suc n) h p q =
    let e = rounds_bytes k n h p q in (e.1, bytes_xors 4 e.0 (f_bytes (rounds k n h).1 (k n)))

crypt_bytes : (k : ℕ → List ℕ) (b : List ℕ) → Bytes 8 b → Bytes 8 (crypt k b)
unfolding crypt
crypt_bytes k b h = let e = rounds_bytes k 16 (start b) (bytes_part 0 4 h) (bytes_part 4 4 h) in bytes_append e.1 e.0

pub length_crypt : (k : ℕ → List ℕ) (b : List ℕ) → length (crypt k b) ≡ 8
unfolding crypt
length_crypt k b = let n = rounds_lengths k 16 (start b) (refl, refl) in simp length-append (rw (n.0, n.1))

-- ---- for every key and block

pub decrypt_encrypt : (key b : List ℕ) → length b ≡ 8 → decrypt key (encrypt key b) ≡ b
unfolding encrypt decrypt
decrypt_encrypt key b h = crypt_undone (λ i. round_key (schedule key) i) (λ i. round_key (schedule key) (15 - i)) (λ i l. refl) b h

pub encrypt_decrypt : (key b : List ℕ) → length b ≡ 8 → encrypt key (decrypt key b) ≡ b
unfolding encrypt decrypt
encrypt_decrypt key b h =
    crypt_undone (λ i. round_key (schedule key) (15 - i)) (λ i. round_key (schedule key) i) (λ i l. ap (round_key (schedule key)) (omega arith)) b h

pub encrypt_bytes : (key b : List ℕ) → Bytes 8 b → Bytes 8 (encrypt key b)
unfolding encrypt
encrypt_bytes key b h = crypt_bytes (λ i. round_key (schedule key) i) b h

pub decrypt_bytes : (key b : List ℕ) → Bytes 8 b → Bytes 8 (decrypt key b)
unfolding decrypt
decrypt_bytes key b h = crypt_bytes (λ i. round_key (schedule key) (15 - i)) b h
