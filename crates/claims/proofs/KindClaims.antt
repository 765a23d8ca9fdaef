-- Kinds that open the same texts.
use Rattle.standard.proofs.Prelude.{◌≡◌, refl, sym, ap, ◌∙◌, Bool, true, false, List, [], ◌∷◌, ℕ, arith, length, eqb-true, eq-eqb}
use Rattle.standard.specs.Bytes.{Bytes}
use Rattle.standard.specs.Expansions.{x16_groups}
use Rattle.standard.specs.Refusals.{has_length}
use Rattle.standard.specs.Seals.{form81, key16, seal, sealed, opened, unseal, body_of, seal_call, unseal_call, ta51_call, ta52_call, ta81_call, ta82_call, ta91_call, ta92_call}
use Rattle.standard.specs.declared.Algorithm.TheVariants.{Ta81, Ta91}
use Rattle.standard.specs.declared.Bytes15.{Bytes15}
use Rattle.standard.specs.declared.KeyNumber.{KeyNumber}
use Rattle.standard.specs.declared.Version.{Version}
use Rattle.standard.proofs.CallPairLaws.{body_again, sealed_by, unsealed_by, ta51_opens, ta81_opens, ta91_opens}
use Rattle.standard.proofs.ExpansionLaws.{bytes_ungrouped}
use Rattle.standard.proofs.SealLaws.{Body, sealing}
use Rattle.claims.specs.Entries.{Legal}
use Rattle.claims.specs.FalseClaims.{ThreeAndFour, AsThreeKinds}
use Rattle.claims.proofs.TermLaws.{literal_bytes, pair, legal_body, opened_bytes}

-- ---- kinds 3 and 4

-- the answers where the sealing key has its length, and where it has not
taken : (t s : List ℕ) (v : Version) → Bytes 15 t → length s ≡ 16
    → ta92_call t s v
    ≡ record { refusal = (ta82_call t s v).refusal; key = body_of Ta81 (ta82_call t s v).key (ta82_call t s v).number; failed_checks = (ta82_call t s v).failed_checks }
unfolding ta82_call ta92_call unseal
taken t s v h hs =
    let legal : Body form81 (form81.shrink (opened (key16 s (pair v)) t)) = record {
      bytes = bytes_ungrouped (opened_bytes (key16 s (pair v)) t h) x16_groups 0;
      passed = refl;
    } in
    rw (unsealed_by Ta81 s v hs t h.len, unsealed_by Ta91 s v hs t h.len, body_again Ta81 _ legal)

both : (t s : List ℕ) (v : Version) → Bytes 15 t → (z : Bool) → has_length 16 s ≡ z
    → ta92_call t s v
    ≡ record { refusal = (ta82_call t s v).refusal; key = body_of Ta81 (ta82_call t s v).key (ta82_call t s v).number; failed_checks = (ta82_call t s v).failed_checks }
unfolding ta82_call ta92_call unseal_call
both t s v h true e = taken t s v h (eqb-true (length s) 16 e)
both t s v h false e = rw (eq-eqb _ _ h.len, e)

pub three_and_four : ThreeAndFour
three_and_four t s v h = both t s v h (has_length 16 s) refl

-- ---- kinds 2, 3 and 4: one input of BL1

abbrev key₂ : List ℕ
key₂ = 0x01 ∷ 0x02 ∷ 0x04 ∷ 0x04 ∷ 0x05 ∷ 0x06 ∷ 0x07 ∷ 0x01 ∷ 0x08 ∷ 0x09 ∷ []

abbrev key₃ : List ℕ
key₃ = 0x01 ∷ 0x02 ∷ 0x03 ∷ 0x04 ∷ 0x05 ∷ 0x05 ∷ 0x06 ∷ 0x07 ∷ 0x00 ∷ 0x08 ∷ []

abbrev key₄ : List ℕ
key₄ = 0x01 ∷ 0x02 ∷ 0x03 ∷ 0x04 ∷ 0x05 ∷ 0x05 ∷ 0x06 ∷ 0x07 ∷ 0x00 ∷ 0x08 ∷ 0x09 ∷ 0x03 ∷ []

abbrev number₂ : KeyNumber
number₂ = record { 0 = 3 }

abbrev number₃ : KeyNumber
number₃ = record { 0 = 0x0903 }

same_input : (s : List ℕ) (v : Version) → length s ≡ 16 → (ta51_call key₂ v s number₂ ≡ ta91_call key₄ v s) × (ta81_call key₃ v s number₃ ≡ ta91_call key₄ v s)
unfolding ta51_call ta81_call ta91_call seal_call seal sealed
same_input s v hs = rw (eq-eqb _ _ hs) (refl, refl)

pub as_three_kinds : AsThreeKinds
unfolding ta91_call
as_three_kinds s v hs =
    let t = (ta91_call key₄ v s).bytes in
    let e = same_input s v hs in
    let h : Bytes 12 key₄ = literal_bytes key₄ refl in
    let l : Legal Ta91 key₄ = record { bytes = h; accepted = refl } in (
      t,
      record {
        bytes = rw (sealed_by Ta91 s v hs key₄ ((legal_body Ta91 key₄).0 l)) ((sealing Ta91 s (pair v)).to key₄ ((legal_body Ta91 key₄).0 l)).bytes;
        kind2 = ap (λ (x : Bytes15). ta52_call x.bytes s v) (sym e.0) ∙ ta51_opens s v hs key₂ number₂ (literal_bytes key₂ refl) (omega arith);
        kind3 = ap (λ (x : Bytes15). ta82_call x.bytes s v) (sym e.1) ∙ ta81_opens s v hs key₃ number₃ (literal_bytes key₃ refl) (omega arith);
        kind4 = ta91_opens s v hs key₄ h;
      },
    )
