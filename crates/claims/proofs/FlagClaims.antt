-- What the flag says of a text, and what it does not.
use Rattle.standard.proofs.Prelude.{◌≡◌, refl, sym, ap, ◌∙◌, subst, List, [], ◌∷◌, ◌++◌, ℕ, ◌+◌, ◌%◌, arith}
use Rattle.standard.proofs.Prelude.{xor_self, length, eqb-true, eq-eqb, le-leb}
use Rattle.standard.specs.Bytes.{◌!◌, ◌⊕◌, part, xors, Bytes}
use Rattle.standard.specs.Cores.{bl2}
use Rattle.standard.specs.Expansions.{exp1_groups, exp3_groups, x16_groups, shr2}
use Rattle.standard.specs.Hurdle.{decrypt}
use Rattle.standard.specs.Seals.{sealing_size, unseal_call, form_of, failed, seal, unseal, fails, opened}
use Rattle.standard.specs.SealsFacts.{groups_of}
use Rattle.standard.specs.declared.Algorithm.{Algorithm}
use Rattle.standard.specs.declared.Algorithm.TheVariants.{Ta31, Ta51, Ta81, Ta91}
use Rattle.standard.specs.Refusals.{UnsealedBody}
use Rattle.standard.specs.declared.Version.{Version}
use Rattle.standard.proofs.BytesLaws.{table_same, bytes_append, bytes_cons, bytes_part, bytes_one, bytes_zero}
use Rattle.standard.proofs.CallPairLaws.{unsealed_by}
use Rattle.standard.proofs.CheckLaws.{clear_same}
use Rattle.standard.proofs.CoreLaws.{seal_core, unseal_core, core}
use Rattle.standard.proofs.ExpansionLaws.{full, bytes_ungrouped}
use Rattle.standard.proofs.SealLaws.{form_law, sealing}
use Rattle.standard.proofs.XorLaws.{xor_cancel_l, xor_byte}
use Rattle.claims.specs.Entries.{Legal}
use Rattle.claims.specs.TrueClaims.{Another, UnsealsAllTheSame, changed, Carried, Noticed, noticed_from}
use Rattle.claims.proofs.ChangeLaws.{changed_elsewhere, changed_xors}
use Rattle.claims.proofs.GroupLaws.{Even, no_change, groups_even}
use Rattle.claims.proofs.TermLaws.{pair, legal_body, unsealing_size, text_by, opened_bytes, failed_by}

-- ---- the last inserted byte changed

-- it is no part of the body, whatever the kind
last_left_out : (a : Algorithm) (u : List ℕ) (x : ℕ) → (form_of a).shrink (part 0 14 u ++ x ∷ []) ≡ (form_of a).shrink u
last_left_out Ta31 u x = refl
last_left_out Ta51 u x = refl
last_left_out Ta81 u x = refl
last_left_out Ta91 u x = refl

-- x ⊕ 1 is not x
pub not_itself : (x : ℕ) → x ≡ x ⊕ 1 → ⊥
not_itself x e =
    let z : ◌≡◌ {A = ℕ} 0 1 = sym (xor_self x) ∙ ap (◌⊕◌ x) e ∙ xor_cancel_l x 1 in
    omega arith

module _ (a : Algorithm) (k b : List ℕ) (h : Legal a b) where
  abbrev expansion : List ℕ
  expansion = part 0 15 ((form_of a).input b)

  abbrev spoilt : List ℕ
  spoilt = part 0 14 expansion ++ (expansion ! 14 ⊕ 1) ∷ []

  spoilt_bytes : Bytes 15 spoilt
  spoilt_bytes =
      let e = ((form_law a).checks.to b ((legal_body a b).0 h)).bytes in
      bytes_append (bytes_part 0 14 e) (bytes_one (xor_byte (expansion ! 14) 1 (e.bound 14) (omega arith)))

  spoilt_body : (form_of a).shrink spoilt ≡ b
  spoilt_body = last_left_out a expansion _ ∙ (form_law a).checks.back b ((legal_body a b).0 h)

  -- were no check to fail, it would be the expansion
  spoilt_fails : failed (form_of a) spoilt ≡ 0 → ⊥
  spoilt_fails e =
      let c = (form_law a).checks.forth spoilt (record { bytes = spoilt_bytes; passed = sym (clear_same a spoilt) ∙ eq-eqb _ 0 e }) in
      let same : expansion ≡ spoilt = ap (λ (x : List ℕ). part 0 15 ((form_of a).input x)) (sym spoilt_body) ∙ c in
      not_itself (expansion ! 14) (ap (λ (x : List ℕ). x ! 14) same)

another : (a : Algorithm) (s : List ℕ) (v : Version) (b : List ℕ) → length s ≡ sealing_size a → Legal a b → (t : List ℕ) × Another a s v b t
unfolding unseal fails opened unseal_core
another a s v b hs h =
    let k = (form_of a).key s (pair v) in
    let u = spoilt a k b h in
    let ub = spoilt_bytes a k b h in
    let t = seal_core k u in
    let tb = (core k).to u ub in
    let e : unseal_core k t ≡ u = (core k).back u ub in
    let c = unsealed_by a s v hs t tb.len in
    let set : (unseal_call a t s v).failed_checks ≡ 0 → ⊥ =
    λ z. spoilt_fails a k b h (ap (failed (form_of a)) (sym e) ∙ sym (ap (λ (x : UnsealedBody). x.failed_checks) c) ∙ z) in (
      t,
      record {
        bytes = tb;
        accepted = ap (λ (x : UnsealedBody). x.refusal) c;
        same = ap (λ (x : UnsealedBody). x.body) c ∙ ap (form_of a).shrink e ∙ spoilt_body a k b h;
        set = set;
        other = λ z.
            let y : seal (form_of a) s (pair v) b ≡ t = sym (text_by a s v hs b h) ∙ z in
            let p = ((sealing a s (pair v)).to b ((legal_body a b).0 h)).passed in
            set (ap (λ (x : UnsealedBody). x.failed_checks) c ∙ ap (fails (form_of a) s (pair v)) (sym y) ∙ eqb-true _ 0 p);
      },
    )

-- whatever the text, shrinking gives a legal body
shrunk_legal : (a : Algorithm) (u : List ℕ) → Bytes 15 u → Legal a ((form_of a).shrink u)
shrunk_legal Ta31 u h = record { bytes = bytes_append (bytes_ungrouped h exp1_groups 0) (bytes_cons (omega arith) bytes_zero); accepted = refl }
shrunk_legal Ta51 u h =
    let n = bytes_ungrouped h exp3_groups 0 in
    record {
      bytes = bytes_append (bytes_part 0 10 n) (bytes_cons (omega arith) (bytes_one (omega arith)));
      accepted = rw (le-leb (shr2 u ! 10 % 32) 31 (omega arith));
    }
shrunk_legal Ta81 u h = record { bytes = bytes_ungrouped h x16_groups 0; accepted = refl }
shrunk_legal Ta91 u h = record { bytes = bytes_ungrouped h x16_groups 0; accepted = refl }

pub unseals_all_the_same : UnsealsAllTheSame
unfolding unseal
unseals_all_the_same = record {
  every = λ a s v t hs h.
      let e = unsealed_by a s v hs t h.len in (
        ap (λ (x : UnsealedBody). x.refusal) e,
        rw (ap (λ (x : UnsealedBody). x.body) e) (shrunk_legal a (opened ((form_of a).key s (pair v)) t) (opened_bytes ((form_of a).key s (pair v)) t h)),
      );
  other = another;
}

-- ---- one byte changed

right_part : (k t : List ℕ) → part 8 7 (opened k t) ≡ xors 7 (decrypt k (part 7 8 t)) t
unfolding opened bl2
right_part k t = refl

pub carried : Carried
carried k t i d h =
    let same : part 7 8 (changed 15 i d t) ≡ part 7 8 t =
    table_same 8 (λ j. changed 15 i d t ! (7 + j)) (λ j. t ! (7 + j)) (λ j l. changed_elsewhere 15 i d t (7 + j) (omega arith) (λ e. omega (arith, e))) in
    right_part k (changed 15 i d t)
    ∙ ap (λ (r : List ℕ). xors 7 (decrypt k r) (changed 15 i d t)) same
    ∙ changed_xors 7 15 i d (decrypt k (part 7 8 t)) t (omega arith)
    ∙ ap (changed 7 i d) (sym (right_part k t))

-- the sizes of the groups that stand wholly in the right part; the first starts at the first byte whose change is noticed
abbrev right_groups : Algorithm → List ℕ
right_groups Ta31 = 2 ∷ 2 ∷ []
right_groups Ta51 = 3 ∷ []
right_groups Ta81 = 4 ∷ []
right_groups Ta91 = 4 ∷ []

to_the_end : (a : Algorithm) → noticed_from a + full (right_groups a) ≡ 7
to_the_end Ta31 = refl
to_the_end Ta51 = refl
to_the_end Ta81 = refl
to_the_end Ta91 = refl

-- the last two of kind 1's groups, and the last of the others'
right_groups_lem : (a : Algorithm) (u : List ℕ) → Even (groups_of a) 0 u → Even (right_groups a) (noticed_from a) (part 8 7 u)
right_groups_lem Ta31 u e = e.1.1.1
right_groups_lem Ta51 u e = e.1.1.1
right_groups_lem Ta81 u e = e.1.1
right_groups_lem Ta91 u e = e.1.1

pub noticed : Noticed
unfolding fails
noticed a s v t i d o l h other z =
    let hs = unsealing_size a s v t o.accepted in
    let k = (form_of a).key s (pair v) in
    let w = part 8 7 (opened k t) in
    let before = right_groups_lem a (opened k t) (groups_even a (opened k t) (sym (failed_by a s v t hs o.bytes.len) ∙ o.clear)) in
    let t' = changed 15 i d t in
    let after = right_groups_lem a (opened k t') (groups_even a (opened k t') (sym (failed_by a s v t' hs refl) ∙ z)) in
    other (no_change 7 i d w (right_groups a) (noticed_from a) before (subst (Even (right_groups a) (noticed_from a)) (carried k t i d h) after) l
    (rw (to_the_end a) h) (rw (to_the_end a) (omega arith)))
