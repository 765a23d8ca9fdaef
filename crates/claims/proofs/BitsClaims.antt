-- Kinds 2 and 5: the three zero bits of the number byte. EXP3 takes any number byte, so that without their check eight would do.
use Rattle.standard.proofs.Prelude.{◌≡◌, refl, sym, ap, ◌∙◌, Bool, true, false, ◌↔◌, List, [], ◌∷◌, ◌++◌, ℕ, ◌+◌, ◌-◌, ◌*◌, ◌/◌, ◌%◌, ◌≤◌, ◌<◌, arith}
use Rattle.standard.proofs.Prelude.{eqb, length, eqb-true, eqb-false, eq-eqb, ne_eqb, le-leb}
use mathlib.Core.Logic.Iff
use Rattle.standard.specs.Bytes.{◌!◌, part, zeros, same, choose, Bytes}
use Rattle.standard.specs.Expansions.{grouped, inserted, expected, exp3_groups, exp3, shr2}
use Rattle.standard.specs.Seals.{form51, checks, failed, key16, sealed, opened, seal, unseal, fails, seal_call, unseal_call, ta51_call, ta52_call}
use Rattle.standard.specs.declared.KeyNumber.{KeyNumber}
use Rattle.standard.specs.declared.UnsealedNumbered.{UnsealedNumbered}
use Rattle.standard.specs.declared.Version.{Version}
use Rattle.standard.proofs.BytesLaws.{spell, bytes_append, bytes_one, bytes_part, same_eq, same_refl}
use Rattle.standard.proofs.CallPairLaws.{ta51_opens}
use Rattle.standard.proofs.CheckLaws.{none_failed, failed_below}
use Rattle.standard.proofs.CoreLaws.{seal_core, unseal_core, core}
use Rattle.standard.proofs.ExpansionLaws.{bytes_grouped, bytes_ungrouped}
use Rattle.standard.proofs.InverseLaws.{Inverse}
use Rattle.claims.specs.Reasons.{OneResult}
use Rattle.claims.specs.TrueClaims.{fifth_alone, SevenOthers, EightWithout}
use Rattle.claims.specs.Variants.{form_without_bits, ta52_without_bits, BitsUnchecked}
use Rattle.claims.proofs.OnlyLaws.{inverse_then, inverse_same, inverse_where, counted}
use Rattle.claims.proofs.TermLaws.{literal_bytes, pair}

-- ---- the four inserted bytes are right

abbrev pub Four : List ℕ → Type 0
Four u = same (inserted exp3_groups 0 u) (expected exp3_groups 0 u) ≡ true

-- exactly on the expansions of eleven bytes
expanded : Inverse (Bytes 11) (λ u. Bytes 15 u × Four u) exp3 shr2
expanded = record {
  to = λ x h. (bytes_grouped h exp3_groups 0, same_refl (expected exp3_groups 0 (grouped exp3_groups 0 x)));
  from = λ u h. bytes_ungrouped h.0 exp3_groups 0;
  back = λ x h. spell h;
  forth = λ u h. cc (spell h.0, same_eq (inserted exp3_groups 0 u) (expected exp3_groups 0 u) h.1);
}

-- eleven bytes and their texts
texts : (k : List ℕ) → Inverse (Bytes 11) (λ t. Bytes 15 t × Four (unseal_core k t)) (λ x. seal_core k (exp3 x)) (λ t. shr2 (unseal_core k t))
texts k = inverse_then expanded (inverse_where Four (core k))

-- ---- number bytes whose five low bits are n, from `low` thirty-twos on

abbrev Like : List ℕ → (n low : ℕ) → List ℕ → Type 0
Like ck n low x = (part 0 10 x ≡ ck) × (x ! 10 % 32 ≡ n) × (low ≤ x ! 10 / 32)

module _ (ck : List ℕ) (n low : ℕ) (hk : Bytes 10 ck) (hn : n ≤ 31) (hl : low ≤ 8) where
  bytes_like : Inverse (λ j. j < 8 - low) (λ x. Bytes 11 x × Like ck n low x) (λ j. part 0 10 ck ++ (n + 32 * (low + j)) ∷ []) (λ x. x ! 10 / 32 - low)
  bytes_like = record {
    to = λ j h. (bytes_append (bytes_part 0 10 hk) (bytes_one (omega arith)), (spell hk, omega arith, omega arith));
    from = λ x h. omega (arith, h.0.bound 10, h.1.2);
    back = λ j h. omega arith;
    forth = λ x h.
        let e : n + 32 * (low + (x ! 10 / 32 - low)) ≡ x ! 10 = omega (arith, h.1.1, h.1.2) in
        rw (e, ← h.1.0) (spell h.0);
  }

  texts_like : (k : List ℕ)
      → Inverse (λ j. j < 8 - low) (λ t. (Bytes 15 t × Four (unseal_core k t)) × Like ck n low (shr2 (unseal_core k t)))
      (λ j. seal_core k (exp3 (part 0 10 ck ++ (n + 32 * (low + j)) ∷ []))) (λ t. shr2 (unseal_core k t) ! 10 / 32 - low)
  texts_like k = inverse_then bytes_like (inverse_where (Like ck n low) (texts k))

-- ---- the checks

pub four_pass : (u : List ℕ) → (failed form_without_bits u ≡ 0) ↔ Four u
four_pass u =
    let e = none_failed (inserted exp3_groups 0 u) (expected exp3_groups 0 u) refl in
    (λ z. sym e ∙ eq-eqb _ 0 z, λ f. eqb-true _ 0 (e ∙ f))

-- the fifth check has the fifth bit
pub fifth : (u : List ℕ) → failed form51 u ≡ failed form_without_bits u + 16 * choose (eqb (u ! 13 / 32) 0) 0 1
fifth u = omega arith

only_fifth : (u : List ℕ) → (failed form51 u ≡ fifth_alone) ↔ (Four u × (1 ≤ u ! 13 / 32))
only_fifth u = (
  λ e. go (eqb (u ! 13 / 32) 0) refl (sym (fifth u) ∙ e),
  λ h.
      let other : u ! 13 / 32 ≡ 0 → ⊥ = λ z. omega (arith, z, h.1) in
      fifth u ∙ rw ((four_pass u).1 h.0, ne_eqb (u ! 13 / 32) 0 other),
)
  where
    go : (z : Bool) → eqb (u ! 13 / 32) 0 ≡ z → failed form_without_bits u + 16 * choose (eqb (u ! 13 / 32) 0) 0 1 ≡ 16 → Four u × (1 ≤ u ! 13 / 32)
    go true z e =
        let f : failed form_without_bits u + 16 * 0 ≡ 16 = rw z at e in
        absurd (omega (arith, failed_below (checks form_without_bits u), f))
    go false z e =
        let f : failed form_without_bits u + 16 * 1 ≡ 16 = rw z at e in
        let other = eqb-false (u ! 13 / 32) 0 z in
        ((four_pass u).0 (omega (arith, f)), omega (arith, other))

-- ---- in the terms of the calls

abbrev answer : List ℕ → ℕ → ℕ → UnsealedNumbered
answer k n f = record { refusal = 0; key = k; number = n; failed_checks = f }

-- an answer is another exactly if its fields are
by_fields : {x : UnsealedNumbered} {k k' : List ℕ} {n n' f f' : ℕ} → x ≡ answer k n f → (x ≡ answer k' n' f') ↔ ((k ≡ k') × (n ≡ n') × (f ≡ f'))
by_fields e = (
  λ y.
      let z = sym e ∙ y in
      (ap (λ (a : UnsealedNumbered). a.key) z, ap (λ (a : UnsealedNumbered). a.number) z, ap (λ (a : UnsealedNumbered). a.failed_checks) z),
  λ h. e ∙ (λ i. answer (h.0 i) (h.1 i) (h.2 i)),
)

module _ (s : List ℕ) (v : Version) (hs : length s ≡ 16) where
  abbrev core_key : List ℕ
  core_key = key16 s (pair v)

  module _ (t : List ℕ) (ht : length t ≡ 15) where
    answered : ta52_call t s v ≡ answer (part 0 10 (shr2 (unseal_core core_key t))) (shr2 (unseal_core core_key t) ! 10 % 32) (failed form51 (unseal_core core_key t))
    unfolding ta52_call unseal_call unseal fails opened unseal_core
    answered = rw (eq-eqb _ _ ht, eq-eqb _ _ hs)

    answered_without : ta52_without_bits t s v
        ≡ answer (part 0 10 (shr2 (unseal_core core_key t))) (shr2 (unseal_core core_key t) ! 10 % 32) (failed form_without_bits (unseal_core core_key t))
    unfolding ta52_without_bits unseal fails opened unseal_core
    answered_without = rw (eq-eqb _ _ ht, eq-eqb _ _ hs)

  module _ (ck : List ℕ) (n : ℕ) (hk : Bytes 10 ck) (hn : n ≤ 31) where
    -- the texts of such bytes, by the call's answer
    abbrev Texts : ℕ → List ℕ → Type 0
    Texts low t = (Bytes 15 t × Four (unseal_core core_key t)) × Like ck n low (shr2 (unseal_core core_key t))

    by_call : (t : List ℕ) → Texts 1 t ↔ (Bytes 15 t × (ta52_call t s v ≡ answer ck n fifth_alone))
    by_call t = (
      λ h. (h.0.0, (by_fields (answered t h.0.0.len)).1 (h.1.0, h.1.1, (only_fifth (unseal_core core_key t)).1 (h.0.1, h.1.2))),
      λ h.
          let y = (by_fields (answered t h.0.len)).0 h.1 in
          let f = (only_fifth (unseal_core core_key t)).0 y.2 in
          ((h.0, f.0), (y.0, y.1, f.1)),
    )

    by_variant : (t : List ℕ) → Texts 0 t ↔ (Bytes 15 t × (ta52_without_bits t s v ≡ answer ck n 0))
    by_variant t = (
      λ h. (h.0.0, (by_fields (answered_without t h.0.0.len)).1 (h.1.0, h.1.1, (four_pass (unseal_core core_key t)).1 h.0.1)),
      λ h. let y = (by_fields (answered_without t h.0.len)).0 h.1 in ((h.0, (four_pass (unseal_core core_key t)).0 y.2), (y.0, y.1, omega arith)),
    )

pub seven_others : SevenOthers
seven_others s v ck n hs hk hn =
    counted (inverse_same (λ i. Iff.rfl) (by_call s v hs ck n hk hn) (texts_like ck n 1 hk hn (omega arith) (core_key s v hs)))

pub eight_without : EightWithout
eight_without = record {
  eight = λ s v ck n hs hk hn.
      counted (inverse_same (λ i. Iff.rfl) (by_variant s v hs ck n hk hn) (texts_like ck n 0 hk hn (omega arith) (core_key s v hs)));
  not_back = λ s v t hs e ck n hk hn z.
      let o : ta52_call t s v ≡ answer ck n.0 0 = ap (λ (x : List ℕ). ta52_call x s v) (sym z) ∙ ta51_opens s v hs ck n hk hn in
      omega (arith, sym e ∙ ap (λ (x : UnsealedNumbered). x.failed_checks) o);
}

pub bits_unchecked : BitsUnchecked
bits_unchecked s v hs =
    let c = seven_others s v (zeros 10) 0 hs (literal_bytes (zeros 10) refl) (omega arith) in
    let t = c.nth 0 in
    let h = c.has 0 (omega arith) in
    let e : (ta52_call t s v).failed_checks ≡ fifth_alone = ap (λ (x : UnsealedNumbered). x.failed_checks) h.1 in
    let u = unseal_core (core_key s v hs) t in
    let f : failed form51 u ≡ fifth_alone = sym (ap (λ (x : UnsealedNumbered). x.failed_checks) (answered s v hs t h.0.len)) ∙ e in (
      t,
      record {
        bytes = h.0;
        right = λ z. omega (arith, sym z ∙ e);
        wrong = ap (λ (x : UnsealedNumbered). x.failed_checks) (answered_without s v hs t h.0.len) ∙ (four_pass u).1 ((only_fifth u).0 f).0;
        seals_none = eight_without.not_back s v t hs e;
      },
    )

-- ---- a function, and yet not all that opens was sealed

sealed_length : (ck : List ℕ) (v : Version) (s : List ℕ) (n : KeyNumber) → length ck ≡ 10 → length s ≡ 16 → n.0 ≤ 31
    → length (ta51_call ck v s n).bytes ≡ 15
unfolding ta51_call seal_call seal sealed
sealed_length ck v s n hk hs hn = rw (eq-eqb _ _ hk, eq-eqb _ _ hs, le-leb _ _ hn)

pub one_result : OneResult
one_result = record {
  one = λ t s v. record { has = refl; only = λ u e. sym e };
  back = λ s v ck n hs hk hn.
      let t = (ta51_call ck v s n).bytes in
      let ht = sealed_length ck v s n hk.len hs hn in
      let u = unseal_core (core_key s v hs) t in
      let y = (by_fields (answered s v hs t ht)).0 (ta51_opens s v hs ck n hk hn) in
      let none : failed form_without_bits u ≡ 0 = omega (arith, fifth u, y.2) in
      (by_fields (answered_without s v hs t ht)).1 (y.0, y.1, none);
  not_sealed = bits_unchecked;
}
