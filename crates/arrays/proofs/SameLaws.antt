-- Two strings compared byte by byte; `==` is the same test.
use Rattle.standard.proofs.Prelude.{◌≡◌, refl, sym, ap, ap₂, ◌∙◌, Bool, true, false, ◌&&◌, List, [], ◌∷◌, ℕ, ◌+◌, ◌<◌, add-one, eqb, length, drop}
use lib.Seq.{drop-cons, drop-length}
use Rattle.standard.proofs.BytesLaws.{same_eq}
use Rattle.std.proofs.Math.Bool.{and_assoc}
use lib.Pointwise.{pointwise}
use Rattle.standard.specs.Bytes.{◌!◌, same_on, same}

and_true : (t : Bool) → t && true ≡ t
and_true true = refl
and_true false = refl

and_false : (t : Bool) → t && false ≡ false
and_false true = refl
and_false false = refl

pub same_is : (t : Bool) (a b : List ℕ) → t && pointwise eqb a b ≡ same_on t a b
same_is t [] [] = and_true t
same_is t [] (y ∷ ys) = and_false t
same_is t (x ∷ xs) [] = and_false t
same_is t (x ∷ xs) (y ∷ ys) = sym (and_assoc t (eqb x y) (pointwise eqb xs ys)) ∙ same_is (t && eqb x y) xs ys

-- one byte less is left to compare
pub same_next : (t : Bool) (a b : List ℕ) (i : ℕ) → i < length a → i < length b
    → same_on t (drop i a) (drop i b) ≡ same_on (t && eqb (a ! i) (b ! i)) (drop (i + 1) a) (drop (i + 1) b)
same_next t a b i h k = rw (drop-cons a i 0 h, drop-cons b i 0 k, add-one)

pub same_end : (t : Bool) (a b : List ℕ) (i : ℕ) → i ≡ length a → i ≡ length b → same_on t (drop i a) (drop i b) ≡ t
same_end t a b i h k = ap₂ (same_on t) (ap (λ (n : ℕ). drop n a) h ∙ drop-length a) (ap (λ (n : ℕ). drop n b) k ∙ drop-length b)

-- strings of different lengths are not the same
pub same_not : (a b : List ℕ) → (length a ≡ length b → ⊥) → false ≡ same a b
same_not a b h = go (same a b) refl
  where
    go : (t : Bool) → same a b ≡ t → false ≡ t
    go true e = absurd (h (ap length (same_eq a b e)))
    go false e = refl
