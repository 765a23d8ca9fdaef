-- The mistakes that 01 lists: where each answers otherwise, and what would be false of it.
use Rattle.standard.proofs.Prelude.{◌≡◌, refl, sym, ap, ◌∙◌, List, [], ◌∷◌, ◌++◌, ℕ, suc, ◌<◌, arith, length, eq-eqb}
use lib.Count.{ones, ones_in}
use Rattle.standard.specs.Bytes.{◌!◌, bit, zeros, Bytes}
use Rattle.standard.specs.Cores.{bl1}
use Rattle.standard.specs.Keys.{core, chosen, split, ring, ta12_call, ta41_call}
use Rattle.standard.specs.Expansions.{xor_of, exp1_groups, exp2}
use Rattle.standard.specs.Hurdle.{S, D, a, Q, laid, schedule}
use Rattle.standard.specs.Seals.{key16, ta82_call}
use Rattle.standard.specs.declared.Bytes15.{Bytes15}
use Rattle.standard.specs.declared.Bytes16.{Bytes16}
use Rattle.standard.specs.declared.UnsealedNumbered.{UnsealedNumbered}
use Rattle.standard.proofs.BytesLaws.{bytes_append, bytes_one}
use Rattle.standard.proofs.CallPairLaws.{ta81_opens, ta82_seals}
use Rattle.standard.proofs.Demand3Laws.{demand3}
use Rattle.standard.proofs.ExpansionLaws.{bytes_grouped}
use Rattle.standard.proofs.XorLaws.{xor_byte}
use Rattle.claims.specs.Entries.{upward, version7}
use Rattle.claims.specs.FalseClaims.{text}
use Rattle.claims.specs.Variants.{with_zero_at_end, opened_at_end, ta82_at_end, sealed_text, reversed, exp2_by_xor, ta41_by_xor, ring_with}
use Rattle.claims.specs.Variants.{ZeroAtEnd, ChallengeReversed, LastByteXored, StillHolds}
use Rattle.claims.proofs.BlockLaws.{bl1_back, bl1_inverse}
use Rattle.claims.proofs.ComputedCipher.{bl1_chained, bl1_chained_lem, bl2_chained, bl2_chained_lem, rounds_chained, chain}
use Rattle.claims.proofs.ExampleClaims.{two_rings}
use Rattle.claims.proofs.RecipeLaws.{reversed_bytes, ring_bytes}
use Rattle.claims.proofs.TermLaws.{literal_bytes, pair}

-- ---- the zero byte at the end

-- the sealed text of the example is the one of `TwoRings`, under a ring whose O is 00 01 .. 0f
sealed_text_lem : sealed_text ≡ text
sealed_text_lem =
    let o : ta82_call text (upward 0 16) version7 ≡ record { refusal = 0; key = upward 1 10; number = 0x1234; failed_checks = 0 } =
    two_rings.first (zeros 10 ++ upward 0 16) refl in
    let s = ta82_seals (upward 0 16) version7 refl text (literal_bytes text refl) (ap (λ (x : UnsealedNumbered). x.failed_checks) o) in
    ap (λ (x : Bytes15). x.bytes) (rw o at s)

abbrev wrong_output : List ℕ
wrong_output = 0x78 ∷ 0x78 ∷ 0xe6 ∷ 0x31 ∷ 0xcf ∷ 0x1b ∷ 0x44 ∷ 0x5f ∷ 0x7c ∷ 0x28 ∷ 0x5a ∷ 0xad ∷ 0xd7 ∷ 0xab ∷ 0x72 ∷ []

opened_wrongly : bl2_chained (schedule (key16 (upward 0 16) (pair version7))) (with_zero_at_end text) ≡ wrong_output
unfolding key16 bl2_chained rounds_chained chain S bit laid Q D a
opened_wrongly = refl

opened_at_end_lem : opened_at_end (key16 (upward 0 16) (pair version7)) text ≡ wrong_output
unfolding opened_at_end
opened_at_end_lem = bl2_chained_lem (key16 (upward 0 16) (pair version7)) (with_zero_at_end text) ∙ opened_wrongly

pub zero_at_end : ZeroAtEnd
unfolding ta82_at_end
zero_at_end = record {
  right = ta81_opens (upward 0 16) version7 refl (upward 1 10) (record { 0 = 0x1234 }) (literal_bytes (upward 1 10) refl) (omega arith);
  wrong = rw (sealed_text_lem, opened_at_end_lem);
}

-- ---- TA22's challenge reversed

abbrev output : List ℕ
output = 0x5e ∷ 0x4c ∷ 0x3e ∷ 0x42 ∷ 0x46 ∷ 0xfc ∷ 0x16 ∷ 0xfd ∷ 0xdd ∷ 0x29 ∷ 0x1b ∷ 0x0c ∷ 0xc9 ∷ 0x0a ∷ 0x4e ∷ 0xc3 ∷ []

abbrev output_reversed : List ℕ
output_reversed = 0xe6 ∷ 0xf4 ∷ 0x19 ∷ 0x5c ∷ 0x04 ∷ 0x27 ∷ 0x25 ∷ 0xfe ∷ 0xd7 ∷ 0x12 ∷ 0x60 ∷ 0x17 ∷ 0xf6 ∷ 0xc8 ∷ 0xb0 ∷ 0x0e ∷ []

abbrev core_chained : List ℕ → List ℕ
core_chained c = bl1_chained (schedule (upward 0 16)) (exp2 c)

outputs : (core_chained (upward 1 10) ≡ output) × (core_chained (reversed (upward 1 10)) ≡ output_reversed)
unfolding exp2 bl1_chained rounds_chained chain S bit laid Q D a
outputs = (refl, refl)

-- split by the masks 000f and 3ff0
split_alike : (c o : List ℕ) → length c ≡ 10 → core (upward 0 16) c ≡ o → ta12_call (upward 0 16) c 0x000f 0x3ff0 ≡ split 0x000f 0x3ff0 o
unfolding ta12_call ones ones_in
split_alike c o h e = rw (eq-eqb _ _ h, e)

pub challenge_reversed : ChallengeReversed
unfolding chosen bit
challenge_reversed = record {
  right = split_alike (upward 1 10) output refl (bl1_chained_lem (upward 0 16) (exp2 (upward 1 10)) ∙ outputs.0);
  wrong = split_alike (reversed (upward 1 10)) output_reversed refl (bl1_chained_lem (upward 0 16) (exp2 (reversed (upward 1 10))) ∙ outputs.1);
}

-- ---- EXP2's last byte as a ⊕

by_xor_bytes : (b : List ℕ) → Bytes 10 b → Bytes 16 (exp2_by_xor b)
unfolding exp2_by_xor
by_xor_bytes b h =
    let x : (from : ℕ) → xor_of from 2 b < 256 = λ from. xor_byte (b ! from) (b ! (suc from)) (h.bound from) (h.bound (suc from)) in
    bytes_append (bytes_grouped h exp1_groups 0) (bytes_one
    (xor_byte _ (xor_of 8 2 b) (xor_byte _ (xor_of 6 2 b) (xor_byte _ (xor_of 4 2 b) (xor_byte (xor_of 0 2 b) (xor_of 2 2 b) (x 0) (x 2)) (x 4)) (x 6)) (x 8)))

exp2_bytes : (b : List ℕ) → Bytes 10 b → Bytes 16 (exp2 b)
unfolding exp2
exp2_bytes b h = bytes_append (bytes_grouped h exp1_groups 0) (bytes_one (omega arith))

pub last_byte_xored : LastByteXored
unfolding exp2 exp2_by_xor ta41_call ta41_by_xor
last_byte_xored = record {
  right = refl;
  wrong = refl;
  otherwise = λ root hr e.
      let i = bl1_inverse root in
      let h : Bytes 10 (upward 1 10) = literal_bytes (upward 1 10) refl in
      let o : bl1 root (exp2_by_xor (upward 1 10)) ≡ bl1 root (exp2 (upward 1 10)) = ap (λ (x : Bytes16). x.bytes) (rw (eq-eqb _ _ hr) at e) in
      let same : exp2_by_xor (upward 1 10) ≡ exp2 (upward 1 10) =
      sym (i.back _ (by_xor_bytes (upward 1 10) h)) ∙ ap (bl1_back root) o ∙ i.back _ (exp2_bytes (upward 1 10) h) in
      let z : ◌≡◌ {A = ℕ} 0x0b 0x1f = ap (λ (l : List ℕ). l ! 15) same in
      omega arith;
}

-- ---- demand 3 is of every ring

pub still_holds : StillHolds
unfolding ring_with ring
still_holds = record {
  right = λ x. refl;
  challenge_reversed = λ x h s out hs room. demand3 _ (ring_bytes exp2 reversed exp2_bytes reversed_bytes x h) s hs out room;
  last_byte_xored = λ x h s out hs room. demand3 _ (ring_bytes exp2_by_xor (λ c. c) by_xor_bytes (λ c k. k) x h) s hs out room;
}
