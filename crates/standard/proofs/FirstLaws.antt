-- `first`, the number of the first test that fails: it is 0 exactly if every test passes, and of two lists of tests the first goes
-- before the second.
use Rattle.standard.proofs.Prelude.{◌≡◌, refl, sym, ap, ◌∙◌, Bool, true, false, not, ◌&&◌, List, [], ◌∷◌, ◌++◌, ℕ, zero, suc, eqb, eqb-false}
use Rattle.standard.proofs.Prelude.{not-true}
use Rattle.standard.specs.Bytes.{choose}
use Rattle.standard.specs.Refusals.{first}
use Rattle.standard.proofs.BytesLaws.{and_split}

-- no test has the number 0, which stands for no refusal
abbrev pub numbered : List (Bool × ℕ) → Bool
numbered [] = true
numbered (t ∷ ts) = not (eqb t.1 0) && numbered ts

-- test i of a list; after the last, all pass
abbrev pub test_at : List (Bool × ℕ) → ℕ → Bool
test_at [] i = true
test_at (t ∷ ts) zero = t.0
test_at (t ∷ ts) (suc i) = test_at ts i

passed : (t : Bool) (k rest : ℕ) → not (eqb k 0) ≡ true → choose t rest k ≡ 0 → (t ≡ true) × (rest ≡ 0)
passed true k rest h e = (refl, e)
passed false k rest h e = absurd (eqb-false k 0 (not-true _ h) e)

pub all_pass : (ts : List (Bool × ℕ)) → numbered ts ≡ true → first ts ≡ 0 → (i : ℕ) → test_at ts i ≡ true
all_pass [] n e i = refl
all_pass (t ∷ ts) n e zero = (passed t.0 t.1 (first ts) (and_split _ (numbered ts) n).0 e).0
all_pass (t ∷ ts) n e (suc i) =
    let s = and_split (not (eqb t.1 0)) (numbered ts) n in
    all_pass ts s.1 (passed t.0 t.1 (first ts) s.0 e).1 i

-- no test has the number k
abbrev pub lacks : ℕ → List (Bool × ℕ) → Bool
lacks k [] = not (eqb k 0)
lacks k (t ∷ ts) = not (eqb t.1 k) && lacks k ts

pub not_first : (k : ℕ) (ts : List (Bool × ℕ)) → lacks k ts ≡ true → first ts ≡ k → ⊥
not_first k [] h e = eqb-false k 0 (not-true _ h) (sym e)
not_first k (t ∷ ts) h e = go t.0 (not_first k ts s.1) e
  where
    s : (not (eqb t.1 k) ≡ true) × (lacks k ts ≡ true)
    s = and_split _ (lacks k ts) h

    go : (b : Bool) → (first ts ≡ k → ⊥) → choose b (first ts) t.1 ≡ k → ⊥
    go true ih e = ih e
    go false ih e = eqb-false t.1 k (not-true _ s.0) e

pub none_fails : (ts : List (Bool × ℕ)) → ((i : ℕ) → test_at ts i ≡ true) → first ts ≡ 0
none_fails [] h = refl
none_fails (t ∷ ts) h = ap (λ (b : Bool). choose b (first ts) t.1) (h zero) ∙ none_fails ts (λ i. h (suc i))

pub first_append : (ts us : List (Bool × ℕ)) → numbered ts ≡ true → first (ts ++ us) ≡ choose (eqb (first ts) 0) (first us) (first ts)
first_append [] us n = refl
first_append (t ∷ ts) us n = go t.0 (first_append ts us s.1)
  where
    s : (not (eqb t.1 0) ≡ true) × (numbered ts ≡ true)
    s = and_split (not (eqb t.1 0)) (numbered ts) n

    go : (b : Bool) → first (ts ++ us) ≡ choose (eqb (first ts) 0) (first us) (first ts)
        → choose b (first (ts ++ us)) t.1 ≡ choose (eqb (choose b (first ts) t.1) 0) (first us) (choose b (first ts) t.1)
    go true e = e
    go false e = let z : eqb t.1 0 ≡ false = not-true _ s.0 in rw z
