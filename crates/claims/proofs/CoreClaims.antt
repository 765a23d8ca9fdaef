-- BL1 without byte 8: nothing is lost as long as the input ends in a zero byte.
use Rattle.standard.proofs.Prelude.{◌≡◌, refl, sym, ap, ap₂, ◌∙◌, ◌↔◌, List, [], ◌∷◌, ◌++◌, ℕ, ◌+◌, ◌-◌, ◌≤◌, ◌<◌, arith}
use mathlib.Core.Logic.Iff
use Rattle.standard.specs.Bytes.{◌!◌, part, xors, Bytes}
use Rattle.standard.specs.Cores.{bl1_with, bl1}
use Rattle.standard.specs.Hurdle.{encrypt, decrypt}
use Rattle.standard.specs.Seals.{without8, opened}
use Rattle.standard.proofs.BytesLaws.{table_at, spell, bytes_append, bytes_cons, bytes_part, bytes_zero}
use Rattle.standard.proofs.CoreLaws.{seal_core, unseal_core, core}
use Rattle.standard.proofs.InverseLaws.{Inverse}
use Rattle.claims.specs.Entries.{Count, with_inserted, ZeroAt, SameText}
use Rattle.claims.specs.Reasons.{FewerInputs}
use Rattle.claims.specs.TrueClaims.{ended_by, CipherNotUndone, NothingLost, Shared, Chaining}
use Rattle.claims.specs.Variants.{bl1_unchained, bl1_by}
use Rattle.claims.proofs.BlockLaws.{bl1_back, bl1_inverse, unchained_back, unchained_inverse}
use Rattle.claims.proofs.NumberLaws.{numbered}
use Rattle.claims.proofs.OnlyLaws.{inverse_same, counted, counted_then}
use Rattle.claims.proofs.PlaceLaws.{zero_put_in, zeros_put_in}

-- ---- with the zero byte

ends_in_zero : (x : List ℕ) → Bytes 16 x → x ! 15 ≡ 0 → part 0 15 x ++ 0 ∷ [] ≡ x
ends_in_zero x h z = cc (spell h, z)

zero_after : (u : List ℕ) → Bytes 15 u → part 0 15 u ++ 0 ∷ [] ≡ u ++ 0 ∷ []
zero_after u h = ap (λ (y : List ℕ). y ++ 0 ∷ []) (spell h)

pub nothing_lost : NothingLost
unfolding seal_core unseal_core opened
nothing_lost k t h =
    let u = unseal_core k t in
    let ub = (core k).from t h in
    let z = zero_after u ub in
    record {
      has = (bytes_append ub bytes_zero, ap (λ (y : List ℕ). y ! 15) (sym z), ap (λ (y : List ℕ). without8 (bl1 k y)) (sym z) ∙ (core k).forth t h);
      only = λ x p.
          let e : part 0 15 x ++ 0 ∷ [] ≡ x = ends_in_zero x p.0 p.1 in
          let c : seal_core k (part 0 15 x) ≡ t = ap (λ (y : List ℕ). without8 (bl1 k y)) e ∙ p.2 in
          let m : part 0 15 x ≡ u = sym ((core k).back (part 0 15 x) (bytes_part 0 15 p.0)) ∙ ap (unseal_core k) c in
          sym e ∙ ap (λ (y : List ℕ). y ++ 0 ∷ []) m;
    }

-- ---- without it, by any core that can be undone on sixteen bytes: one input for each value of the dropped byte

with_bytes : (d : ℕ) (t : List ℕ) → d < 256 → Bytes 15 t → Bytes 16 (with_inserted d t)
with_bytes d t l h = bytes_append (bytes_part 0 7 h) (bytes_cons l (bytes_part 7 8 h))

rebuilt : (w t : List ℕ) (d : ℕ) → Bytes 16 w → without8 w ≡ t → w ! 7 ≡ d → with_inserted d t ≡ w
rebuilt w t d h e z = ap₂ with_inserted (sym z) (sym e) ∙ spell h

module _ {core back : List ℕ → List ℕ} (m : Inverse (Bytes 16) (Bytes 16) core back) where
  shared_by : (t : List ℕ) → Bytes 15 t
      → Inverse (λ d. d < 256) (λ x. Bytes 16 x × (without8 (core x) ≡ t)) (λ d. back (with_inserted d t)) (λ x. core x ! 7)
  shared_by t h =
      let again : (d : ℕ) → d < 256 → core (back (with_inserted d t)) ≡ with_inserted d t = λ d l. m.forth (with_inserted d t) (with_bytes d t l h) in
      record {
        to = λ d l. (m.from (with_inserted d t) (with_bytes d t l h), ap without8 (again d l) ∙ spell h);
        from = λ x s. (m.to x s.0).bound 7;
        back = λ d l. ap (λ (y : List ℕ). y ! 7) (again d l);
        forth = λ x s. ap back (rebuilt (core x) t (core x ! 7) (m.to x s.0) s.1 refl) ∙ m.back x s.0;
      }

  -- what the text decides of an input tells none of them apart
  no_help : (S : List ℕ → Type 0) (x : List ℕ) → Bytes 16 x → ((y : List ℕ) → (Bytes 16 y × (without8 (core y) ≡ without8 (core x))) ↔ S y) → Count 256 S
  no_help S x h same =
      let w = m.to x h in
      counted (inverse_same (λ d. Iff.rfl) same (shared_by (without8 (core x)) (bytes_append (bytes_part 0 7 w) (bytes_part 8 8 w))))

  -- as a zero byte at a place
  no_help_at : (p : ℕ) → ((x y : List ℕ) → Bytes 16 x → Bytes 16 y → without8 (core x) ≡ without8 (core y) → x ! p ≡ y ! p)
      → (x : List ℕ) → ZeroAt p x → Count 256 (SameText core p x)
  no_help_at p same x z =
      no_help (SameText core p x) x z.0 (λ y. (λ s. ((s.0, same y x s.0 z.0 s.1 ∙ z.1), s.1), λ s. (s.0.0, s.1)))

pub shared : Shared
shared = record {
  one_each = λ k t h d l.
      let i = shared_by (bl1_inverse k) t h in (
        bl1_back k (with_inserted d t),
        record {
          has = ((i.to d l).0, (i.to d l).1, i.back d l);
          only = λ x p. sym (i.forth x (p.0, p.1)) ∙ ap (λ (e : ℕ). bl1_back k (with_inserted e t)) p.2;
        },
      );
  in_all = λ k t h. counted (shared_by (bl1_inverse k) t h);
}

-- ---- without chaining the text has the whole right block

right_unchained : (k x : List ℕ) → Bytes 16 x → x ! 15 ≡ decrypt k (part 7 8 (without8 (bl1_unchained k x))) ! 7
unfolding unchained_back
right_unchained k x h = ap (λ (y : List ℕ). y ! 15) (sym ((unchained_inverse k).back x h))

pub chaining : Chaining
chaining = record {
  chained = λ k x z.
      let w = (bl1_inverse k).to x z.0 in
      let o = nothing_lost k (without8 (bl1 k x)) (bytes_append (bytes_part 0 7 w) (bytes_part 8 8 w)) in
      record { has = (z, refl); only = λ y s. o.only y (s.0.0, s.0.1, s.1) ∙ sym (o.only x (z.0, z.1, refl)) };
  unchained = λ k.
      no_help_at (unchained_inverse k) 15
      (λ x y hx hy e. right_unchained k x hx ∙ ap (λ (t : List ℕ). decrypt k (part 7 8 t) ! 7) e ∙ sym (right_unchained k y hy));
}

-- ---- with it the text has seven bytes of the right block

right_part : (k x : List ℕ) → Bytes 16 x → part 8 7 x ≡ xors 7 (decrypt k (part 7 8 (without8 (bl1 k x)))) (without8 (bl1 k x))
unfolding bl1_back
right_part k x h = ap (part 8 7) (sym ((bl1_inverse k).back x h))

right_byte : (p : ℕ) (x : List ℕ) → 8 ≤ p → p < 15 → part 8 7 x ! (p - 8) ≡ x ! p
right_byte p x l h =
    let e : 8 + (p - 8) ≡ p = omega arith in
    table_at 7 (λ i. x ! (8 + i)) (p - 8) (omega arith) ∙ ap (λ (i : ℕ). x ! i) e

right_same : (k : List ℕ) (p : ℕ) → 8 ≤ p → p < 15 → (x y : List ℕ) → Bytes 16 x → Bytes 16 y → without8 (bl1 k x) ≡ without8 (bl1 k y) → x ! p ≡ y ! p
right_same k p l h x y hx hy e =
    sym (right_byte p x l h)
    ∙ ap (λ (z : List ℕ). z ! (p - 8)) (right_part k x hx ∙ ap (λ (t : List ℕ). xors 7 (decrypt k (part 7 8 t)) t) e ∙ sym (right_part k y hy))
    ∙ right_byte p y l h

pub fewer_inputs : FewerInputs
fewer_inputs = record {
  texts = counted (numbered 15);
  inputs = λ p h. counted_then (counted (numbered 15)) (zero_put_in 15 p h);
  shared = λ k p l h. no_help_at (bl1_inverse k) p (right_same k p l h);
  fewer = λ p q l h. counted_then (counted (numbered 14)) (zeros_put_in p q l h);
  still_shared = λ k p q l m h x z₁ z₂.
      let first = right_same k p l (omega arith) in
      let second = right_same k q (omega arith) h in
      no_help (bl1_inverse k) (λ y. SameText (bl1 k) p x y × (y ! q ≡ 0)) x z₁.0 (λ y. (
        λ s. (((s.0, first y x s.0 z₁.0 s.1 ∙ z₁.1), s.1), second y x s.0 z₁.0 s.1 ∙ z₂),
        λ s. (s.0.0.0, s.0.1),
      ));
}

-- ---- over an encryption that takes two blocks to one

left_block : (b s : List ℕ) → Bytes 8 b → part 0 8 (b ++ s) ≡ b
left_block b s h = ap (λ (x : List ℕ). part 0 8 (x ++ s)) (sym (spell h)) ∙ spell h

right_block : (b c s : List ℕ) → Bytes 8 b → Bytes 8 c → part 8 8 (b ++ s) ≡ part 8 8 (c ++ s)
right_block b c s hb hc = ap (λ (x : List ℕ). part 8 8 (x ++ s)) (sym (spell hb)) ∙ ap (λ (x : List ℕ). part 8 8 (x ++ s)) (spell hc)

last_zero : (b r : List ℕ) → Bytes 8 b → Bytes 7 r → ZeroAt 15 (ended_by r b)
last_zero b r hb hr =
    let right : Bytes 8 (r ++ 0 ∷ []) = bytes_append hr bytes_zero in
    (bytes_append hb right, ap₂ (λ (x y : List ℕ). ended_by y x ! 15) (sym (spell hb)) (sym (spell hr)))

same_output : (e : List ℕ → List ℕ) (b c s : List ℕ) → Bytes 8 b → Bytes 8 c → e b ≡ e c → bl1_by e (c ++ s) ≡ bl1_by e (b ++ s)
unfolding bl1_by
same_output e b c s hb hc q =
    ap₂ (λ (left right : List ℕ). part 0 8 left ++ part 0 8 (e (xors 8 right left))) (ap e (left_block c s hc) ∙ sym q ∙ sym (ap e (left_block b s hb)))
    (right_block c b s hc hb)

pub cipher_not_undone : CipherNotUndone
unfolding bl1_by bl1 bl1_with encrypt
cipher_not_undone = record {
  right = λ k x. refl;
  shared = λ e b c r hb hc hr n q.
      record {
        ends = last_zero b r hb hr;
        same = (last_zero c r hc hr, ap without8 (same_output e b c (r ++ 0 ∷ []) hb hc q));
        other = λ p. n (sym (left_block b _ hb) ∙ ap (part 0 8) p ∙ left_block c _ hc);
      };
}
