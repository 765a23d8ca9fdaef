-- Texts that open twice: examples, by computation. BL2's output is computed once for each; the call's answer is read off it.
use Rattle.standard.proofs.Prelude.{◌≡◌, refl, ap, ◌∙◌, List, [], ◌∷◌, ◌++◌, ℕ, length, eq-eqb}
use Rattle.standard.specs.Bytes.{bit, part}
use Rattle.standard.specs.Expansions.{grouped, x16_groups}
use Rattle.standard.specs.Hurdle.{S, D, a, Q, laid, schedule}
use Rattle.standard.specs.Seals.{form81, failed, key16, with8, opened, unseal, fails, body_number, unseal_call, ta82_call}
use Rattle.standard.specs.declared.Algorithm.TheVariants.{Ta81}
use Rattle.standard.specs.declared.Version.{Version}
use Rattle.claims.specs.Entries.{upward, version7}
use Rattle.claims.specs.FalseClaims.{version5075, text, other_o, text', of_second, TwoRings, TwoVersions, OneBit}
use Rattle.claims.proofs.ComputedCipher.{bl2_chained, bl2_chained_lem, rounds_chained, chain}
use Rattle.claims.proofs.TermLaws.{pair}

-- what BL2 takes a text to
abbrev opened_text : List ℕ → List ℕ → List ℕ
opened_text k t = bl2_chained (schedule k) (with8 t)

opened_text_lem : (k t : List ℕ) → opened k t ≡ opened_text k t
unfolding opened
opened_text_lem k t = bl2_chained_lem k (with8 t)

-- what TA82 answers to a text that BL2 takes to u
answered : (t s : List ℕ) (v : Version) (u : List ℕ) → length t ≡ 15 → length s ≡ 16 → opened_text (key16 s (pair v)) t ≡ u
    → ta82_call t s v
    ≡ record { refusal = 0; key = part 0 10 (form81.shrink u); number = body_number Ta81 (form81.shrink u); failed_checks = failed form81 u }
unfolding ta82_call unseal_call unseal fails
answered t s v u ht hs e = rw (eq-eqb _ _ ht, eq-eqb _ _ hs, opened_text_lem (key16 s (pair v)) t, e)

-- the expansion of twelve bytes
abbrev spread : List ℕ → List ℕ
spread b = grouped x16_groups 0 b

abbrev body₁ : List ℕ
body₁ = upward 1 10 ++ 0x12 ∷ 0x34 ∷ []

abbrev body₂ : List ℕ
body₂ = 0x8b ∷ 0xdb ∷ 0x11 ∷ 0x10 ∷ 0x04 ∷ 0x77 ∷ 0xf1 ∷ 0x21 ∷ 0x7a ∷ 0xb0 ∷ 0xfd ∷ 0x9b ∷ []

abbrev body₃ : List ℕ
body₃ = 0x01 ∷ 0x02 ∷ 0x03 ∷ 0x04 ∷ 0x05 ∷ 0x06 ∷ 0x00 ∷ 0x00 ∷ 0x00 ∷ 0x0c ∷ 0x12 ∷ 0x34 ∷ []

abbrev body₄ : List ℕ
body₄ = 0xa2 ∷ 0x4f ∷ 0x5a ∷ 0x19 ∷ 0x8f ∷ 0xec ∷ 0xb3 ∷ 0xee ∷ 0x72 ∷ 0xa6 ∷ 0x96 ∷ 0x1c ∷ []

abbrev body₅ : List ℕ
body₅ = 0x6e ∷ 0x2e ∷ 0xad ∷ 0x0a ∷ 0x89 ∷ 0x46 ∷ 0xc9 ∷ 0x08 ∷ 0x09 ∷ 0x0a ∷ 0x12 ∷ 0x34 ∷ []

abbrev body₆ : List ℕ
body₆ = 0x00 ∷ 0x00 ∷ 0x11 ∷ 0xe2 ∷ 0x05 ∷ 0x06 ∷ 0x07 ∷ 0x08 ∷ 0x09 ∷ 0x0a ∷ 0x12 ∷ 0x34 ∷ []

record Computed : Type 0 where
  ring₁ : opened_text (key16 (upward 0 16) (pair version7)) text ≡ spread body₁
  ring₂ : opened_text (key16 other_o (pair version7)) text ≡ spread body₂
  version₁ : opened_text (key16 (upward 0 16) (pair version7)) text' ≡ spread body₃
  version₂ : opened_text (key16 (upward 0 16) (pair version5075)) text' ≡ spread body₄
  bit₁ : opened_text (key16 (upward 0 16) (pair version7)) (of_second 0b10) ≡ spread body₅
  bit₂ : opened_text (key16 (upward 0 16) (pair version7)) (of_second 0b00) ≡ spread body₆

computed : Computed
unfolding key16 bl2_chained rounds_chained chain S bit laid Q D a
computed = record { ring₁ = refl; ring₂ = refl; version₁ = refl; version₂ = refl; bit₁ = refl; bit₂ = refl }

pub two_rings : TwoRings
two_rings = record {
  first = λ r e. ap (λ (s : List ℕ). ta82_call text s version7) e ∙ answered text (upward 0 16) version7 (spread body₁) refl refl computed.ring₁;
  second = λ r e. ap (λ (s : List ℕ). ta82_call text s version7) e ∙ answered text other_o version7 (spread body₂) refl refl computed.ring₂;
}

pub two_versions : TwoVersions
two_versions = record {
  first = answered text' (upward 0 16) version7 (spread body₃) refl refl computed.version₁;
  second = answered text' (upward 0 16) version5075 (spread body₄) refl refl computed.version₂;
}

pub one_bit : OneBit
one_bit = record {
  first = answered (of_second 0b10) (upward 0 16) version7 (spread body₅) refl refl computed.bit₁;
  second = answered (of_second 0b00) (upward 0 16) version7 (spread body₆) refl refl computed.bit₂;
}
