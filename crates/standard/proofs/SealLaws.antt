-- Sealing, over the form of an algorithm. For every sealing key and version, a text's flag is clear exactly if the text is the sealed form of
-- a legal body (`is_image` of `sealing`), of that one alone, which is the one unsealed (`of_one`), and sealing it gives the text again.
use Rattle.standard.proofs.Prelude.{◌≡◌, refl, sym, ap, ◌∙◌, Bool, ◌&&◌, List, [], ◌∷◌, ◌++◌, ℕ, ◌/◌, ◌%◌, ◌≤◌, ◌<◌, mod-eq_of_lt, arith, eqb}
use Rattle.standard.proofs.Prelude.{leb, eqb-true, leb-true, le-leb}
use Rattle.standard.specs.Bytes.{◌!◌, part, same, choose}
use Rattle.standard.proofs.BytesLaws.{Passed}
use Rattle.standard.specs.Cores.{bl1}
use Rattle.standard.specs.Expansions.{grouped, inserted, expected, exp1_groups, exp3_groups, x16_groups}
use Rattle.standard.specs.Seals.{Form, clear, form31, form51, form81, form_of, without8, sealed, opened, seal, unseal, fails, clears}
use Rattle.standard.specs.Refusals.{wrong_number, not_zero}
use Rattle.standard.specs.declared.Algorithm.{Algorithm}
use Rattle.standard.specs.declared.Algorithm.TheVariants.{Ta31, Ta51, Ta81, Ta91}
use Rattle.standard.proofs.BytesLaws.{spell, bytes_cons, bytes_one, bytes_zero, bytes_append, bytes_part, and_split, same_eq, same_refl}
use Rattle.standard.proofs.CheckLaws.{clear_same}
use Rattle.standard.proofs.CoreLaws.{seal_core, unseal_core, core}
use Rattle.standard.proofs.ExpansionLaws.{bytes_grouped, bytes_ungrouped}
use Rattle.standard.proofs.FirstLaws.{all_pass}
use Rattle.standard.proofs.InverseLaws.{Inverse}

-- a body that may be sealed, and a text whose flag is clear
abbrev pub Body : Form → List ℕ → Type 0
Body F = Passed 12 (λ b. eqb (F.fault b) 0)

abbrev pub Clear : Form → List ℕ → List ℕ → List ℕ → Type 0
Clear F s v = Passed 15 (clears F s v)

-- what is asked of a form: the input ends in a zero byte; before it, the check finds what it wants exactly on the expansions of legal
-- bodies, and shrinking gives the body
pub record FormLaw (F : Form) : Type 0 where
  pub ends : (b : List ℕ) → F.input b ≡ part 0 15 (F.input b) ++ 0 ∷ []
  pub checks : Inverse (Body F) (Passed 15 (λ u. same (F.found u) (F.wanted u))) (λ b. part 0 15 (F.input b)) F.shrink

-- ---- the forms

pub body31_zeros : (b : List ℕ) → Body form31 b → (b ! 10 ≡ 0) × (b ! 11 ≡ 0)
body31_zeros b h =
    let t = all_pass ((eqb (b ! 10) 0 && eqb (b ! 11) 0, not_zero) ∷ []) refl (eqb-true _ 0 h.passed) in
    let z = and_split (eqb (b ! 10) 0) (eqb (b ! 11) 0) (t 0) in
    (eqb-true (b ! 10) 0 z.0, eqb-true (b ! 11) 0 z.1)

pub body51_number : (b : List ℕ) → Body form51 b → (b ! 10 ≡ 0) × (b ! 11 ≤ 31)
body51_number b h =
    let t = all_pass ((eqb (b ! 10) 0, not_zero) ∷ (leb (b ! 11) 31, wrong_number) ∷ []) refl (eqb-true _ 0 h.passed) in
    (eqb-true (b ! 10) 0 (t 0), leb-true (b ! 11) 31 (t 1))

law31 : FormLaw form31
law31 = record {
  ends = λ b. refl;
  checks = record {
    to = λ b h. record { bytes = bytes_grouped h.bytes exp1_groups 0; passed = same_refl (expected exp1_groups 0 (grouped exp1_groups 0 b)) };
    from = λ u h. record {
      bytes = bytes_append (bytes_ungrouped h.bytes exp1_groups 0) (bytes_cons (omega arith) bytes_zero);
      passed = refl;
    };
    back = λ b h. cc (spell h.bytes, (body31_zeros b h).0, (body31_zeros b h).1);
    forth = λ u h. cc (spell h.bytes, same_eq (inserted exp1_groups 0 u) (expected exp1_groups 0 u) h.passed);
  };
}

law51 : FormLaw form51
law51 = record {
  ends = λ b. refl;
  checks = record {
    to = λ b h. record {
      bytes = bytes_grouped (bytes_append (bytes_part 0 10 h.bytes) (bytes_one (h.bytes.bound 11))) exp3_groups 0;
      passed =
          let bits : b ! 11 / 32 ≡ 0 = omega (arith, (body51_number b h).1) in
          rw bits (same_refl (expected exp3_groups 0 (grouped exp3_groups 0 (part 0 10 b ++ b ! 11 ∷ [])) ++ 0 ∷ []));
    };
    from = λ u h. record {
      bytes = bytes_append (bytes_part 0 10 (bytes_ungrouped h.bytes exp3_groups 0)) (bytes_cons (omega arith) (bytes_one (omega arith)));
      passed = ap (λ (t : Bool). eqb (choose t 0 5) 0) (le-leb (u ! 13 % 32) 31 (omega arith));
    };
    back = λ b h.
        let n : b ! 11 < 32 = omega (arith, (body51_number b h).1) in
        cc (spell h.bytes, (body51_number b h).0, mod-eq_of_lt n);
    forth = λ u h.
        let e = same_eq (form51.found u) (form51.wanted u) h.passed in
        let bits : u ! 13 / 32 ≡ 0 = ap (λ (l : List ℕ). l ! 4) e in
        let n : u ! 13 < 32 = omega arith in
        cc (spell h.bytes, e, mod-eq_of_lt n);
  };
}

law81 : FormLaw form81
law81 = record {
  ends = λ b. refl;
  checks = record {
    to = λ b h. record { bytes = bytes_grouped h.bytes x16_groups 0; passed = same_refl (expected x16_groups 0 (grouped x16_groups 0 b)) };
    from = λ u h. record { bytes = bytes_ungrouped h.bytes x16_groups 0; passed = refl };
    back = λ b h. spell h.bytes;
    forth = λ u h. cc (spell h.bytes, same_eq (inserted x16_groups 0 u) (expected x16_groups 0 u) h.passed);
  };
}

pub form_law : (a : Algorithm) → FormLaw (form_of a)
form_law Ta31 = law31
form_law Ta51 = law51
form_law Ta81 = law81
form_law Ta91 = law81

-- ---- sealed texts

-- what holds of the form and of the core holds of both, one after the other
sealing_by : (F : Form) → FormLaw F → ((u : List ℕ) → clear F u ≡ same (F.found u) (F.wanted u)) → (s v : List ℕ)
    → Inverse (Body F) (Clear F s v) (seal F s v) (unseal F s v)
unfolding seal unseal fails sealed opened seal_core unseal_core
sealing_by F law flag s v =
    let k = F.key s v in
    let c = core k in
    let L = law.checks in
    let u : List ℕ → List ℕ = λ b. part 0 15 (F.input b) in
    let whole : (b : List ℕ) → without8 (bl1 k (F.input b)) ≡ seal_core k (u b) = λ b. ap (λ (d : List ℕ). without8 (bl1 k d)) (law.ends b) in
    let found : (t : List ℕ) → Clear F s v t → Passed 15 (λ w. same (F.found w) (F.wanted w)) (unseal_core k t) =
    λ t h. record { bytes = c.from t h.bytes; passed = sym (flag (unseal_core k t)) ∙ h.passed } in
    record {
      to = λ b h. rw (whole b) (record {
        bytes = c.to (u b) (L.to b h).bytes;
        passed = ap (clear F) (c.back (u b) (L.to b h).bytes) ∙ flag (u b) ∙ (L.to b h).passed;
      });
      from = λ t h. L.from (unseal_core k t) (found t h);
      back = λ b h. rw (whole b) (ap F.shrink (c.back (u b) (L.to b h).bytes) ∙ L.back b h);
      forth = λ t h.
          whole (F.shrink (unseal_core k t))
          ∙ ap (seal_core k) (L.forth (unseal_core k t) (found t h))
          ∙ c.forth t h.bytes;
    }

pub sealing : (a : Algorithm) (s v : List ℕ) → Inverse (Body (form_of a)) (Clear (form_of a) s v) (seal (form_of a) s v) (unseal (form_of a) s v)
sealing a s v = sealing_by (form_of a) (form_law a) (clear_same a) s v
