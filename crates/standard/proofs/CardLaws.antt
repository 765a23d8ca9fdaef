-- A card of four groups: what it can have been, and what the call answers.
use Rattle.standard.proofs.Prelude.{◌≡◌, refl, sym, ap, ap₂, ◌∙◌, subst, Bool, true, false, not, ◌&&◌, ◌⊎◌, inl, inr, List, [], ◌∷◌, ◌++◌, ℕ}
use Rattle.standard.proofs.Prelude.{zero, suc, ◌+◌, ◌-◌, ◌/◌, ◌^◌, ◌<◌, mod-lt, suc-ne-zero, zero-lt-suc, arith, xor_self, eqb, leb, eqb-false}
use Rattle.standard.proofs.Prelude.{eq-eqb, ne_eqb}
use mathlib.Core.Bool.{◌||◌}
use Rattle.standard.specs.Bytes.{◌!◌, bit, ◌⊕◌, part, choose, Bytes}
use Rattle.standard.specs.Cards.{unreadable, readable, erasures_on, erasures, at_most_one, agrees, every_group, restored, key_of, restore_call}
use Rattle.standard.specs.CardsFacts.{SameReadable, FormOf, OnlyOne, None, Several, CardLaw}
use Rattle.standard.specs.Mixing.{tb7}
use Rattle.standard.specs.Refusals.{wrong_length, group_unreadable, group_disagrees, has_length, first}
use Rattle.standard.proofs.BytesLaws.{table_at, table_same, spell, bytes_append, bytes_cons, bytes_nil, bytes_part, and_split, and_join}
use Rattle.standard.proofs.FirstLaws.{all_pass, not_first}
use Rattle.standard.proofs.ErasureLaws.{Group, end, place, count, rest, filled, Fits, fits_length, Decides, group_decided, fits_right}
use Rattle.standard.proofs.ErasureLaws.{Appended, join, both_decided, same_decided}
use Rattle.standard.proofs.XorLaws.{xor_cancel_r, xor_byte}

-- ---- the readable bytes, by the mask's bits and as a string

bit_two : (i m : ℕ) → bit i m < 2
unfolding bit
bit_two i m = mod-lt (m / 2 ^ i) (zero-lt-suc 1)

bit_zero : (i m : ℕ) → eqb (bit i m) 1 ≡ false → bit i m ≡ 0
bit_zero i m e = go (bit i m) (bit_two i m) (eqb-false _ 1 e)
  where
    go : (b : ℕ) → b < 2 → (b ≡ 1 → ⊥) → b ≡ 0
    go zero h n = refl
    go (suc zero) h n = absurd (n refl)
    go (suc (suc b)) h n = omega arith

same_string : (m : ℕ) (x y : List ℕ) → SameReadable m x y → readable y m ≡ readable x m
unfolding readable
same_string m x y h =
    table_same 16 (λ i. choose (unreadable m i) 0 (y ! i)) (λ i. choose (unreadable m i) 0 (x ! i)) (λ i k. go i k (unreadable m i) refl)
  where
    go : (i : ℕ) → i < 16 → (t : Bool) → unreadable m i ≡ t → choose t 0 (y ! i) ≡ choose t 0 (x ! i)
    go i k true e = refl
    go i k false e =
        let q : 16 - suc (15 - i) ≡ i = omega arith in
        rw q at (h (15 - i) (omega arith) (bit_zero (15 - i) m e))

entry : {xs ys : List ℕ} → xs ≡ ys → (i : ℕ) → xs ! i ≡ ys ! i
entry e i = ap (λ (l : List ℕ). l ! i) e

readable_at : (m : ℕ) (x : List ℕ) (i : ℕ) → i < 16 → readable x m ! i ≡ choose (unreadable m i) 0 (x ! i)
unfolding readable
readable_at m x i k = table_at 16 (λ j. choose (unreadable m j) 0 (x ! j)) i k

same_bytes : (m : ℕ) (x y : List ℕ) → readable y m ≡ readable x m → SameReadable m x y
same_bytes m x y e i k z =
    let j : ℕ = 16 - suc i in
    let q : 15 - j ≡ i = omega arith in
    let t : unreadable m j ≡ false = ne_eqb _ 1 (λ o. suc-ne-zero 0 (sym o ∙ ap (λ (n : ℕ). bit n m) q ∙ z)) in
    rw t at (sym (readable_at m y j (omega arith)) ∙ entry e j ∙ readable_at m x j (omega arith))

-- ---- a card of 16 bytes

every_group_lem : (t : ℕ → Bool) → every_group t ≡ true → (t 0 ≡ true) × (t 4 ≡ true) × (t 8 ≡ true) × (t 12 ≡ true)
every_group_lem t e =
    let a = and_split (t 0 && t 4 && t 8) (t 12) e in
    let b = and_split (t 0 && t 4) (t 8) a.0 in
    let c = and_split (t 0) (t 4) b.0 in
    (c.0, c.1, b.1, a.1)

zero_or : (n : ℕ) → ((n ≡ 0 → ⊥) → ⊥) → n ≡ 0
zero_or zero h = refl
zero_or (suc n) h = absurd (h (suc-ne-zero n))

-- a bit of the mask counts for a byte
bit_counts : (i m n : ℕ) → choose (eqb (bit i m) 1) (suc n) n ≡ bit i m + n
bit_counts i m n = go (bit i m) (bit_two i m)
  where
    go : (b : ℕ) → b < 2 → choose (eqb b 1) (suc n) n ≡ b + n
    go zero h = omega arith
    go (suc zero) h = omega arith
    go (suc (suc b)) h = omega arith

-- the key of a form is the only one
key_of_lem : (k y : List ℕ) → Bytes 12 k → tb7 k ≡ y → k ≡ key_of y
key_of_lem k y b e = sym (spell b) ∙ ap key_of e

module _ (x : List ℕ) (m : ℕ) (h : Bytes 16 x) where
  -- the n bytes from index a on
  abbrev group_on : ℕ → ℕ → Group
  group_on a zero = end
  group_on a (suc n) = place (unreadable m a) (x ! a) (h.bound a) (group_on (suc a) n)

  abbrev group : ℕ → Group
  group a = group_on a 4

  counted : (n a : ℕ) → count (group_on a n) ≡ erasures_on m a n
  counted zero a = refl
  counted (suc n) a = bit_counts (15 - a) m (count (group_on (suc a) n)) ∙ ap (◌+◌ (bit (15 - a) m)) (counted n (suc a))

  -- three bytes and their ⊕, of which the readable ones are the card's
  pub record Four (a : ℕ) (ys : List ℕ) : Type 0 where
    pub p : ℕ
    pub q : ℕ
    pub r : ℕ
    pub bytes : Bytes 3 (p ∷ q ∷ r ∷ [])
    pub is : p ∷ q ∷ r ∷ (p ⊕ q ⊕ r) ∷ [] ≡ ys
    pub reads : choose (unreadable m a) 0 p ∷ choose (unreadable m (suc a)) 0 q ∷ choose (unreadable m (suc (suc a))) 0 r
        ∷ choose (unreadable m (suc (suc (suc a)))) 0 (p ⊕ q ⊕ r) ∷ []
        ≡ choose (unreadable m a) 0 (x ! a) ∷ choose (unreadable m (suc a)) 0 (x ! suc a) ∷ choose (unreadable m (suc (suc a))) 0 (x ! suc (suc a))
        ∷ choose (unreadable m (suc (suc (suc a)))) 0 (x ! suc (suc (suc a))) ∷ []

  fits_four : (a : ℕ) (ys : List ℕ) → Four a ys → Fits (group a) 0 ys
  fits_four a ys f =
      let b = f.bytes.bound in
      let e = f.reads in
      subst (Fits (group a) 0) f.is
      (record {
        bound = b 0;
        read = entry e 0;
        more = record {
          bound = b 1;
          read = entry e 1;
          more = record {
            bound = b 2;
            read = entry e 2;
            more = record {
              bound = xor_byte (f.p ⊕ f.q) f.r (xor_byte f.p f.q (b 0) (b 1)) (b 2);
              read = entry e 3;
              more = xor_self (f.p ⊕ f.q ⊕ f.r);
            };
          };
        };
      })

  four_fits : (a : ℕ) (ys : List ℕ) → Fits (group a) 0 ys → Four a ys
  four_fits a [] f = absurd f
  four_fits a (p ∷ []) f = absurd f.more
  four_fits a (p ∷ q ∷ []) f = absurd f.more.more
  four_fits a (p ∷ q ∷ r ∷ []) f = absurd f.more.more.more
  four_fits a (p ∷ q ∷ r ∷ t ∷ y ∷ ys) f = absurd f.more.more.more.more
  four_fits a (p ∷ q ∷ r ∷ t ∷ []) f =
      let f₂ = f.more.more in
      let z : p ⊕ q ⊕ r ⊕ t ≡ 0 = f₂.more.more in
      let e : p ⊕ q ⊕ r ≡ t = sym (xor_cancel_r (p ⊕ q ⊕ r) t) ∙ ap (λ (n : ℕ). n ⊕ t) z in
      record {
        p = p;
        q = q;
        r = r;
        bytes = bytes_cons f.bound (bytes_cons f.more.bound (bytes_cons f₂.bound bytes_nil));
        is = ap (λ (n : ℕ). p ∷ q ∷ r ∷ n ∷ []) e;
        reads = rw e (ap₂ ◌∷◌ f.read (ap₂ ◌∷◌ f.more.read (ap₂ ◌∷◌ f₂.read (ap (λ (n : ℕ). n ∷ []) f₂.more.read))));
      }

  abbrev G : ℕ → List ℕ → Type 0
  G a = Fits (group a) 0

  abbrev Forms : List ℕ → Type 0
  Forms = Appended (G 0) (Appended (G 4) (Appended (G 8) (G 12)))

  -- the forms are the strings of four such groups
  tb7_forms : (k : List ℕ) → Bytes 12 k → readable (tb7 k) m ≡ readable x m → Forms (tb7 k)
  unfolding readable
  tb7_forms k b e =
      join (part 0 4 (tb7 k)) (part 4 12 (tb7 k))
      (fits_four 0 _ (record { p = k ! 0; q = k ! 1; r = k ! 2; bytes = bytes_part 0 3 b; is = refl; reads = ap (part 0 4) e }))
      (join (part 4 4 (tb7 k)) (part 8 8 (tb7 k))
      (fits_four 4 _ (record { p = k ! 3; q = k ! 4; r = k ! 5; bytes = bytes_part 3 3 b; is = refl; reads = ap (part 4 4) e }))
      (join (part 8 4 (tb7 k)) (part 12 4 (tb7 k))
      (fits_four 8 _ (record { p = k ! 6; q = k ! 7; r = k ! 8; bytes = bytes_part 6 3 b; is = refl; reads = ap (part 8 4) e }))
      (fits_four 12 _ (record { p = k ! 9; q = k ! 10; r = k ! 11; bytes = bytes_part 9 3 b; is = refl; reads = ap (part 12 4) e }))))

  to_forms : (z : List ℕ) → FormOf x m z → Forms z
  to_forms z f =
      let e = f.form.2 in
      subst Forms e (tb7_forms f.form.0 f.form.1 (ap (λ (l : List ℕ). readable l m) e ∙ same_string m x z f.same))

  from_forms : (z : List ℕ) → Forms z → FormOf x m z
  unfolding readable
  from_forms z f =
      let g = f.right_has in
      let i = g.right_has in
      let f₀ = four_fits 0 f.left f.left_has in
      let f₄ = four_fits 4 g.left g.left_has in
      let f₈ = four_fits 8 i.left i.left_has in
      let f₁₂ = four_fits 12 i.right i.right_has in
      let k : List ℕ =
      f₀.p ∷ f₀.q ∷ f₀.r ∷ f₄.p ∷ f₄.q ∷ f₄.r ∷ f₈.p ∷ f₈.q ∷ f₈.r ∷ f₁₂.p ∷ f₁₂.q ∷ f₁₂.r ∷ [] in
      let e : tb7 k ≡ z = ap₂ ◌++◌ f₀.is (ap₂ ◌++◌ f₄.is (ap₂ ◌++◌ f₈.is f₁₂.is ∙ i.cut) ∙ g.cut) ∙ f.cut in
      let r : readable (tb7 k) m ≡ readable x m = ap₂ ◌++◌ f₀.reads (ap₂ ◌++◌ f₄.reads (ap₂ ◌++◌ f₈.reads f₁₂.reads)) in
      record {
        form = (k, bytes_append f₀.bytes (bytes_append f₄.bytes (bytes_append f₈.bytes f₁₂.bytes)), e);
        same = same_bytes m x z (subst (λ (l : List ℕ). readable l m ≡ readable x m) e r);
      }

  -- ---- the tests decide

  abbrev right : ℕ → Bool
  right a = at_most_one m a && agrees (readable x m) m a

  abbrev all : Bool
  all = right 0 && (right 4 && (right 8 && right 12))

  group_tested : (a : ℕ) → let g = group a in
      Decides (at_most_one m a && (not (eqb (erasures m a) 0) || eqb (rest 0 g) 0)) (G a) (filled (rest 0 g) g)
  group_tested a =
      subst (λ (n : ℕ). Decides (leb n 1 && (not (eqb n 0) || eqb (rest 0 (group a)) 0)) (G a) (filled (rest 0 (group a)) (group a)))
      (counted 4 a) (group_decided (group a))

  decided : Decides all (FormOf x m) (restored (readable x m) m)
  unfolding readable restored
  decided =
      same_decided from_forms to_forms all (restored (readable x m) m)
      (both_decided (G 0) _ 4 (fits_length (group 0) 0) (right 0) _ _ _ (group_tested 0)
      (both_decided (G 4) _ 4 (fits_length (group 4) 0) (right 4) _ _ _ (group_tested 4)
      (both_decided (G 8) _ 4 (fits_length (group 8) 0) (right 8) _ _ _ (group_tested 8) (group_tested 12))))

  abbrev tests : List (Bool × ℕ)
  tests = (has_length 16 x, wrong_length) ∷ (every_group (at_most_one m), group_unreadable) ∷ (every_group (agrees (readable x m) m), group_disagrees) ∷ []

  all_right : first tests ≡ 0 → all ≡ true
  all_right z =
      let f = every_group_lem (at_most_one m) (all_pass tests refl z 1) in
      let g = every_group_lem (agrees (readable x m) m) (all_pass tests refl z 2) in
      and_join (and_join f.0 g.0) (and_join (and_join f.1 g.1) (and_join (and_join f.2 g.2) (and_join f.3 g.3)))

  none_refuses : all ≡ true → first tests ≡ 0
  none_refuses e =
      let s₀ = and_split (right 0) _ e in
      let s₄ = and_split (right 4) _ s₀.1 in
      let s₈ = and_split (right 8) (right 12) s₄.1 in
      let g₀ = and_split (at_most_one m 0) _ s₀.0 in
      let g₄ = and_split (at_most_one m 4) _ s₄.0 in
      let g₈ = and_split (at_most_one m 8) _ s₈.0 in
      let g₁₂ = and_split (at_most_one m 12) _ s₈.1 in
      let f : every_group (at_most_one m) ≡ true = and_join (and_join (and_join g₀.0 g₄.0) g₈.0) g₁₂.0 in
      let a : every_group (agrees (readable x m) m) ≡ true = and_join (and_join (and_join g₀.1 g₄.1) g₈.1) g₁₂.1 in
      rw (eq-eqb _ _ h.len, f, a)

  -- a form of the card agrees in every group that is readable
  group_right : (a : ℕ) (ys : List ℕ) → G a ys → not (eqb (erasures m a) 0) || eqb (rest 0 (group a)) 0 ≡ true
  group_right a ys f =
      subst (λ (n : ℕ). not (eqb n 0) || eqb (rest 0 (group a)) 0 ≡ true) (counted 4 a) (fits_right (group a) ys f)

  forms_agree : (z : List ℕ) → Forms z → every_group (agrees (readable x m) m) ≡ true
  unfolding readable
  forms_agree z f =
      let g = f.right_has in
      let i = g.right_has in
      and_join (and_join (and_join (group_right 0 f.left f.left_has) (group_right 4 g.left g.left_has)) (group_right 8 i.left i.left_has))
      (group_right 12 i.right i.right_has)

  -- so where a readable group disagrees there is none
  no_form : first tests ≡ group_disagrees → None (FormOf x m)
  no_form e z f =
      not_first group_disagrees ((has_length 16 x, wrong_length) ∷ (every_group (at_most_one m), group_unreadable) ∷ []) refl
      (rw (forms_agree z (to_forms z f)) at e)

  -- exactly one form where nothing is refused, none or several where something is
  one_form : first tests ≡ 0 → OnlyOne (FormOf x m) (restored (readable x m) m)
  one_form z = subst (λ (b : Bool). Decides b (FormOf x m) (restored (readable x m) m)) (all_right z) decided

  not_one : (first tests ≡ 0 → ⊥) → None (FormOf x m) ⊎ Several (FormOf x m)
  not_one n = go all refl decided
    where
      go : (b : Bool) → all ≡ b → Decides b (FormOf x m) (restored (readable x m) m) → None (FormOf x m) ⊎ Several (FormOf x m)
      go true e d = absurd (n (none_refuses e))
      go false e d = d

-- one is neither none nor several
one_alone : {P : List ℕ → Type 0} {y : List ℕ} → OnlyOne P y → None P ⊎ Several P → ⊥
one_alone {P} {y} o (inl none) = none y o.has
one_alone {P} {y} o (inr s) = s.differ (o.only s.one s.one_has ∙ sym (o.only s.other s.other_has))

pub card_law : CardLaw
unfolding restore_call
card_law = record {
  restores = λ x m h. (λ z. (restored (readable x m) m, one_form x m h z), λ o. zero_or (first (tests x m h)) (λ n. one_alone o.1 (not_one x m h n)));
  answers = λ x m h z.
      let o = one_form x m h z in
      let f = o.has.form in
      let e = key_of_lem f.0 (restored (readable x m) m) f.1 f.2 in
      rw z (o, record { has = (subst (Bytes 12) e f.1, ap tb7 (sym e) ∙ f.2); only = λ k q. key_of_lem k (restored (readable x m) m) q.0 q.1 });
  refuses = λ x m h. (λ n. not_one x m h n, λ s z. one_alone (one_form x m h z) s);
  disagrees = λ x m h e. no_form x m h e;
  unseen = λ x y m hx hy s. rw (eq-eqb _ _ hx, eq-eqb _ _ hy, same_string m x y s);
}
