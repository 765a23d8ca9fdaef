-- What a group with erasures can have been, for groups of any length whose ⊕ is 0; and tests that decide whether exactly one string has a
-- property.
use Rattle.standard.proofs.Prelude.{◌≡◌, refl, sym, ap, ap₂, ◌∙◌, subst, Bool, true, false, not, ◌&&◌, ◌⊎◌, inl, inr, List, [], ◌∷◌, ◌++◌, ℕ}
use Rattle.standard.proofs.Prelude.{zero, suc, ◌≤◌, ◌<◌, suc_inj, suc-ne-zero, arith, xor_comm, xor_self, xor_zero_r, eqb, leb, length, take}
use Rattle.standard.proofs.Prelude.{drop, take_at, drop_at, eqb-true, eqb-false, eq-eqb, leb-true}
use mathlib.Core.Bool.{◌||◌}
use borrow.Author.Tests.{leb-false}
use Rattle.standard.specs.Bytes.{◌!◌, ◌⊕◌, choose}
use Rattle.standard.specs.CardsFacts.{OnlyOne, None, Several}
use Rattle.standard.proofs.XorLaws.{xor_assoc, xor_cancel_r, xor_byte}

-- ---- a group: for each byte whether it is unreadable, and the byte

pub data Group : Type 0 where
  end : Group
  place : Bool → (x : ℕ) → x < 256 → Group → Group

-- how many are unreadable
abbrev pub count : Group → ℕ
count end = 0
count (place u x b g) = choose u (suc (count g)) (count g)

-- the ⊕ of s and the readable bytes
abbrev pub rest : ℕ → Group → ℕ
rest s end = s
rest s (place u x b g) = rest (s ⊕ choose u 0 x) g

-- the group with v at each unreadable place
abbrev pub filled : ℕ → Group → List ℕ
filled v end = []
filled v (place u x b g) = choose u v (choose u 0 x) ∷ filled v g

-- y is a byte, and x where that is readable; and so on
pub record At (u : Bool) (x y : ℕ) (Rest : Type 0) : Type 0 where
  pub bound : y < 256
  pub read : choose u 0 y ≡ choose u 0 x
  pub more : Rest

-- the strings that have the group's readable bytes, and of which and of s the ⊕ is 0
abbrev pub Fits : Group → ℕ → List ℕ → Type 0
Fits end s [] = s ≡ 0
Fits end s (y ∷ ys) = ⊥
Fits (place u x b g) s [] = ⊥
Fits (place u x b g) s (y ∷ ys) = At u x y (Fits g (s ⊕ y) ys)

abbrev pub size : Group → ℕ
size end = 0
size (place u x b g) = suc (size g)

pub fits_length : (g : Group) (s : ℕ) (ys : List ℕ) → Fits g s ys → length ys ≡ size g
fits_length end s [] f = refl
fits_length end s (y ∷ ys) f = absurd f
fits_length (place u x b g) s [] f = absurd f
fits_length (place u x b g) s (y ∷ ys) f = ap suc (fits_length g (s ⊕ y) ys f.more)

xor_swap : (a b c : ℕ) → a ⊕ b ⊕ c ≡ a ⊕ c ⊕ b
xor_swap a b c = xor_assoc a b c ∙ ap (◌⊕◌ a) (xor_comm b c) ∙ sym (xor_assoc a c b)

rest_add : (g : Group) (s y : ℕ) → rest (s ⊕ y) g ≡ rest s g ⊕ y
rest_add end s y = refl
rest_add (place u x b g) s y = ap (λ (n : ℕ). rest n g) (xor_swap s y (choose u 0 x)) ∙ rest_add g (s ⊕ choose u 0 x) y

rest_byte : (g : Group) (s : ℕ) → s < 256 → rest s g < 256
rest_byte end s h = h
rest_byte (place true x b g) s h = rest_byte g (s ⊕ 0) (xor_byte s 0 h (omega arith))
rest_byte (place false x b g) s h = rest_byte g (s ⊕ x) (xor_byte s x h b)

-- the ⊕ of the readable bytes, put in an erased place, makes the ⊕ 0
rest_closes : (g : Group) (s : ℕ) → rest (s ⊕ rest s g) g ≡ 0
rest_closes g s = rest_add g s (rest s g) ∙ xor_self (rest s g)

rest_zero : (g : Group) (s : ℕ) → rest (s ⊕ 0) g ≡ rest s g
rest_zero g s = ap (λ (n : ℕ). rest n g) (xor_zero_r s)

-- zeros in the erased places
zeros_fit : (g : Group) (s : ℕ) → rest s g ≡ 0 → Fits g s (filled 0 g)
zeros_fit end s e = e
zeros_fit (place true x b g) s e = record { bound = omega arith; read = refl; more = zeros_fit g (s ⊕ 0) e }
zeros_fit (place false x b g) s e = record { bound = b; read = refl; more = zeros_fit g (s ⊕ x) e }

-- no erasure: the readable bytes alone, if their ⊕ is right
no_erasure : (g : Group) (v w : ℕ) → count g ≡ 0 → filled v g ≡ filled w g
no_erasure end v w e = refl
no_erasure (place true x b g) v w e = absurd (suc-ne-zero (count g) e)
no_erasure (place false x b g) v w e = ap (◌∷◌ x) (no_erasure g v w e)

no_erasure_only : (g : Group) (s : ℕ) (ys : List ℕ) → count g ≡ 0 → Fits g s ys → (ys ≡ filled 0 g) × (rest s g ≡ 0)
no_erasure_only end s [] e f = (refl, f)
no_erasure_only end s (y ∷ ys) e f = absurd f
no_erasure_only (place u x b g) s [] e f = absurd f
no_erasure_only (place true x b g) s (y ∷ ys) e f = absurd (suc-ne-zero (count g) e)
no_erasure_only (place false x b g) s (y ∷ ys) e f =
    let i = no_erasure_only g (s ⊕ y) ys e f.more in
    (ap₂ ◌∷◌ f.read i.0, ap (λ (n : ℕ). rest (s ⊕ n) g) (sym f.read) ∙ i.1)

-- one erasure: the ⊕ of the readable bytes, and nothing else
one_erasure : (g : Group) (s : ℕ) → count g ≡ 1 → s < 256 → Fits g s (filled (rest s g) g)
one_erasure end s e h = absurd (suc-ne-zero 0 (sym e))
one_erasure (place true x b g) s e h =
    let v : ℕ = rest (s ⊕ 0) g in
    let z : rest (s ⊕ v) g ≡ 0 = ap (λ (n : ℕ). rest (s ⊕ n) g) (rest_zero g s) ∙ rest_closes g s in
    record {
      bound = rest_byte g (s ⊕ 0) (xor_byte s 0 h (omega arith));
      read = refl;
      more = subst (Fits g (s ⊕ v)) (no_erasure g 0 v (suc_inj e)) (zeros_fit g (s ⊕ v) z);
    }
one_erasure (place false x b g) s e h = record { bound = b; read = refl; more = one_erasure g (s ⊕ x) e (xor_byte s x h b) }

one_erasure_only : (g : Group) (s : ℕ) (ys : List ℕ) → count g ≡ 1 → Fits g s ys → ys ≡ filled (rest s g) g
one_erasure_only end s ys e f = absurd (suc-ne-zero 0 (sym e))
one_erasure_only (place u x b g) s [] e f = absurd f
one_erasure_only (place true x b g) s (y ∷ ys) e f =
    let i = no_erasure_only g (s ⊕ y) ys (suc_inj e) f.more in
    let z : rest s g ⊕ y ≡ 0 = sym (rest_add g s y) ∙ i.1 in
    let q : rest s g ≡ y = sym (xor_cancel_r (rest s g) y) ∙ ap (λ (n : ℕ). n ⊕ y) z in
    ap₂ ◌∷◌ (sym q ∙ sym (rest_zero g s)) (i.0 ∙ no_erasure g 0 (rest (s ⊕ 0) g) (suc_inj e))
one_erasure_only (place false x b g) s (y ∷ ys) e f =
    ap₂ ◌∷◌ f.read (one_erasure_only g (s ⊕ y) ys e f.more ∙ ap (λ (n : ℕ). filled (rest (s ⊕ n) g) g) f.read)

-- an erasure or more: something fits
some_erasure : (g : Group) (s : ℕ) → 0 < count g → s < 256 → (ys : List ℕ) × Fits g s ys
some_erasure end s k h = absurd (omega arith)
some_erasure (place true x b g) s k h =
    (rest s g ∷ filled 0 g, record { bound = rest_byte g s h; read = refl; more = zeros_fit g (s ⊕ rest s g) (rest_closes g s) })
some_erasure (place false x b g) s k h =
    let i = some_erasure g (s ⊕ x) k (xor_byte s x h b) in
    (x ∷ i.0, record { bound = b; read = refl; more = i.1 })

-- two erasures or more: the first of them may be 0 or 1
two_erasures : (g : Group) (s : ℕ) → 1 < count g → s < 256 → Several (Fits g s)
two_erasures end s k h = absurd (omega arith)
two_erasures (place true x b g) s k h =
    let i = some_erasure g (s ⊕ 0) (omega arith) (xor_byte s 0 h (omega arith)) in
    let j = some_erasure g (s ⊕ 1) (omega arith) (xor_byte s 1 h (omega arith)) in
    record {
      one = 0 ∷ i.0;
      other = 1 ∷ j.0;
      one_has = record { bound = omega arith; read = refl; more = i.1 };
      other_has = record { bound = omega arith; read = refl; more = j.1 };
      differ = λ e. suc-ne-zero 0 (sym (ap (λ (l : List ℕ). l ! 0) e));
    }
two_erasures (place false x b g) s k h =
    let i = two_erasures g (s ⊕ x) k (xor_byte s x h b) in
    record {
      one = x ∷ i.one;
      other = x ∷ i.other;
      one_has = record { bound = b; read = refl; more = i.one_has };
      other_has = record { bound = b; read = refl; more = i.other_has };
      differ = λ e. i.differ (ap (drop 1) e);
    }

-- ---- a test that decides whether exactly one string has a property: then it is y, else there is none or there are several

abbrev pub Decides : Bool → (List ℕ → Type 0) → List ℕ → Type 0
Decides true P y = OnlyOne P y
Decides false P y = None P ⊎ Several P

one_of : (n : ℕ) → n ≤ 1 → (n ≡ 0 → ⊥) → n ≡ 1
one_of zero h z = absurd (z refl)
one_of (suc zero) h z = refl
one_of (suc (suc n)) h z = omega arith

pub group_decided : (g : Group) → Decides (leb (count g) 1 && (not (eqb (count g) 0) || eqb (rest 0 g) 0)) (Fits g 0) (filled (rest 0 g) g)
group_decided g = go (leb (count g) 1) refl (eqb (count g) 0) refl (eqb (rest 0 g) 0) refl
  where
    go : (a : Bool) → leb (count g) 1 ≡ a → (b : Bool) → eqb (count g) 0 ≡ b → (c : Bool) → eqb (rest 0 g) 0 ≡ c
        → Decides (a && (not b || c)) (Fits g 0) (filled (rest 0 g) g)
    go true ea true eb true ec =
        let none : count g ≡ 0 = eqb-true _ 0 eb in
        record {
          has = subst (Fits g 0) (no_erasure g 0 (rest 0 g) none) (zeros_fit g 0 (eqb-true _ 0 ec));
          only = λ z f. (no_erasure_only g 0 z none f).0 ∙ no_erasure g 0 (rest 0 g) none;
        }
    go true ea true eb false ec = inl (λ z f. eqb-false _ 0 ec (no_erasure_only g 0 z (eqb-true _ 0 eb) f).1)
    go true ea false eb c ec =
        let one : count g ≡ 1 = one_of (count g) (leb-true _ 1 ea) (eqb-false _ 0 eb) in
        record { has = one_erasure g 0 one (omega arith); only = λ z f. one_erasure_only g 0 z one f }
    go false ea b eb c ec = inr (two_erasures g 0 (leb-false _ 1 ea) (omega arith))

-- where something fits a group without erasures, the ⊕ is right
pub fits_right : (g : Group) (ys : List ℕ) → Fits g 0 ys → not (eqb (count g) 0) || eqb (rest 0 g) 0 ≡ true
fits_right g ys f = go (eqb (count g) 0) refl
  where
    go : (b : Bool) → eqb (count g) 0 ≡ b → not b || eqb (rest 0 g) 0 ≡ true
    go true e = eq-eqb (rest 0 g) 0 (no_erasure_only g 0 ys (eqb-true (count g) 0 e) f).1
    go false e = refl

-- the strings in two parts
pub record Appended (P Q : List ℕ → Type 0) (z : List ℕ) : Type 0 where
  pub left : List ℕ
  pub right : List ℕ
  pub cut : left ++ right ≡ z
  pub left_has : P left
  pub right_has : Q right

pub join : {P Q : List ℕ → Type 0} (y z : List ℕ) → P y → Q z → Appended P Q (y ++ z)
join y z p q = record { left = y; right = z; cut = refl; left_has = p; right_has = q }

module _ (P Q : List ℕ → Type 0) (n : ℕ) (long : (y : List ℕ) → P y → length y ≡ n) where
  several_left : Several P → (z : List ℕ) → Q z → Several (Appended P Q)
  several_left s z q = record {
    one = s.one ++ z;
    other = s.other ++ z;
    one_has = join s.one z s.one_has q;
    other_has = join s.other z s.other_has q;
    differ = λ e. s.differ (sym (take_at s.one z n (long _ s.one_has)) ∙ ap (take n) e ∙ take_at s.other z n (long _ s.other_has));
  }

  several_right : (y : List ℕ) → P y → Several Q → Several (Appended P Q)
  several_right y p s = record {
    one = y ++ s.one;
    other = y ++ s.other;
    one_has = join y s.one p s.one_has;
    other_has = join y s.other p s.other_has;
    differ = λ e. s.differ (sym (drop_at y s.one (length y) refl) ∙ ap (drop (length y)) e ∙ drop_at y s.other (length y) refl);
  }

  pub both_decided : (a b : Bool) (y z : List ℕ) → Decides a P y → Decides b Q z → Decides (a && b) (Appended P Q) (y ++ z)
  both_decided true true y z p q = record {
    has = join y z p.has q.has;
    only = λ x h. sym h.cut ∙ ap₂ ◌++◌ (p.only h.left h.left_has) (q.only h.right h.right_has);
  }
  both_decided true false y z p (inl none) = inl (λ x h. none h.right h.right_has)
  both_decided true false y z p (inr s) = inr (several_right y p.has s)
  both_decided false b y z (inl none) q = inl (λ x h. none h.left h.left_has)
  both_decided false true y z (inr s) q = inr (several_left s z q.has)
  both_decided false false y z (inr s) (inl none) = inl (λ x h. none h.right h.right_has)
  both_decided false false y z (inr s) (inr t) = inr (several_left s t.one t.one_has)

pub same_decided : {P Q : List ℕ → Type 0} → ((z : List ℕ) → P z → Q z) → ((z : List ℕ) → Q z → P z)
    → (a : Bool) (y : List ℕ) → Decides a P y → Decides a Q y
same_decided to from true y d = record { has = to y d.has; only = λ z q. d.only z (from z q) }
same_decided to from false y (inl none) = inl (λ z q. none z (from z q))
same_decided to from false y (inr s) =
    inr (record { one = s.one; other = s.other; one_has = to _ s.one_has; other_has = to _ s.other_has; differ = s.differ })
