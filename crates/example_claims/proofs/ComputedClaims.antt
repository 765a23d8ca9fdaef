-- The examples, by computation: BL2's output is computed for each text, and the call's answer is read off it.
use Rattle.standard.proofs.Prelude.{◌≡◌, refl, sym, ap, ◌∙◌, List, [], ◌∷◌, ◌++◌, ℕ, zero, suc, ◌≤◌, arith}
use Rattle.standard.specs.Books.{ring_key, open_fault, open_record}
use Rattle.standard.specs.Bytes.{bit, part, zeros}
use Rattle.standard.specs.Expansions.{exp4}
use Rattle.standard.specs.Hurdle.{S, T, f, D, a, Q, laid, schedule}
use Rattle.standard.specs.Keys.{ta12_call}
use Rattle.standard.specs.Mixing.{tb7_call}
use Rattle.standard.specs.Seals.{kind, kind_of, key10, key16, form_of, failed, with8, opened, unseal, fails, key_answer, number_answer}
use Rattle.standard.specs.Seals.{unseal_call, ta32_call, ta52_call, ta82_call}
use Rattle.standard.specs.Sizes.{ring_size}
use Rattle.standard.specs.declared.Algorithm.{Algorithm}
use Rattle.standard.specs.declared.Algorithm.TheVariants.{Ta31, Ta51, Ta81, Ta91}
use Rattle.standard.specs.declared.RingKey.{RingKey}
use Rattle.standard.specs.declared.RingKey.TheVariants.{D as ring_d, O as ring_o, G as ring_g}
use Rattle.claims.specs.Entries.{upward, version7}
use Rattle.claims.specs.FalseClaims.{other_o}
use Rattle.claims.specs.Variants.{with_zero_at_end, opened_at_end, ta82_at_end}
use Rattle.claims.proofs.ComputedCipher.{bl2_chained, bl2_chained_lem, rounds_chained, chain}
use Rattle.claims.proofs.ExampleClaims.{two_rings}
use Rattle.claims.proofs.TermLaws.{pair}
use Rattle.example_claims.specs.Examples.{of_first, of_third, OneByte, of_two_kinds, of_six_kinds, record_of_six, OtherKinds}
use Rattle.example_claims.specs.Examples.{of_two_and_five, other_g, ConfusedKinds, ends_in_zeros, EitherWay, Palindrome, FBytes}
use Rattle.example_claims.proofs.UnsealingLaws.{answered}

-- ---- the cipher

abbrev bl2_of : Algorithm → List ℕ → List ℕ → List ℕ
bl2_of k t s = bl2_chained (schedule ((form_of k).key s (pair version7))) (with8 t)

record Computed : Type 0 where
  kind1 : bl2_of Ta31 (of_first 0x54) (upward 0 10)
      ≡ 0xd5 ∷ 0x1a ∷ 0xcf ∷ 0x64 ∷ 0x9e ∷ 0xfa ∷ 0x8d ∷ 0x4d ∷ 0xc0 ∷ 0x00 ∷ 0x00 ∷ 0x00 ∷ 0x00 ∷ 0x00 ∷ 0x00 ∷ []
  kind1_changed : bl2_of Ta31 (of_first 0xd4) (upward 0 10)
      ≡ 0xa2 ∷ 0xdc ∷ 0x7e ∷ 0x8f ∷ 0x6a ∷ 0xe5 ∷ 0x59 ∷ 0x19 ∷ 0x40 ∷ 0x00 ∷ 0x00 ∷ 0x00 ∷ 0x00 ∷ 0x00 ∷ 0x00 ∷ []
  kind2 : bl2_of Ta51 (of_third 0x28) (upward 0 16)
      ≡ 0xdc ∷ 0xc0 ∷ 0x1c ∷ 0x12 ∷ 0x46 ∷ 0x23 ∷ 0x77 ∷ 0xa0 ∷ 0x00 ∷ 0x00 ∷ 0xa0 ∷ 0x00 ∷ 0x00 ∷ 0x00 ∷ 0x00 ∷ []
  kind2_changed : bl2_of Ta51 (of_third 0xdc) (upward 0 16)
      ≡ 0x72 ∷ 0x33 ∷ 0x41 ∷ 0xc8 ∷ 0x68 ∷ 0x58 ∷ 0xf8 ∷ 0x54 ∷ 0x00 ∷ 0x00 ∷ 0x54 ∷ 0x00 ∷ 0x00 ∷ 0x00 ∷ 0x00 ∷ []
  two_kinds_as_1 : bl2_of Ta31 of_two_kinds (upward 0 10)
      ≡ 0x01 ∷ 0xda ∷ 0xdb ∷ 0xdf ∷ 0x69 ∷ 0xb6 ∷ 0xa1 ∷ 0xae ∷ 0x0f ∷ 0xd9 ∷ 0xf2 ∷ 0x2b ∷ 0x79 ∷ 0x1b ∷ 0x62 ∷ []
  two_kinds_as_3 : bl2_of Ta81 of_two_kinds (upward 0 16)
      ≡ 0xaa ∷ 0x87 ∷ 0x39 ∷ 0xbf ∷ 0xab ∷ 0x61 ∷ 0x1b ∷ 0x37 ∷ 0x2b ∷ 0x66 ∷ 0x77 ∷ 0x2d ∷ 0xb5 ∷ 0xd0 ∷ 0x3f ∷ []
  two_and_five_as_2 : bl2_of Ta51 of_two_and_five (upward 0 16)
      ≡ 0xc1 ∷ 0xdb ∷ 0x1a ∷ 0x89 ∷ 0x28 ∷ 0x6c ∷ 0xcd ∷ 0xec ∷ 0x29 ∷ 0x1e ∷ 0xdb ∷ 0x01 ∷ 0x68 ∷ 0x06 ∷ 0x6f ∷ []
  two_and_five_as_5 : bl2_of Ta51 of_two_and_five other_g
      ≡ 0xc7 ∷ 0x19 ∷ 0xde ∷ 0x60 ∷ 0xcf ∷ 0x15 ∷ 0xba ∷ 0x5a ∷ 0x8c ∷ 0x2a ∷ 0xfc ∷ 0xc6 ∷ 0x90 ∷ 0x03 ∷ 0x55 ∷ []
  ends_in_zeros_lem : bl2_of Ta81 ends_in_zeros (upward 0 16)
      ≡ 0xa7 ∷ 0x28 ∷ 0x53 ∷ 0xdc ∷ 0x00 ∷ 0x09 ∷ 0x67 ∷ 0xc8 ∷ 0xf3 ∷ 0x55 ∷ 0xcf ∷ 0xd0 ∷ 0x5c ∷ 0x32 ∷ 0x71 ∷ []
  six_kinds : bl2_chained (schedule (zeros 16)) (with8 of_six_kinds) ≡ zeros 15

computed : Computed
unfolding key10 key16 exp4 bl2_chained rounds_chained chain S bit laid Q D a
computed = record {
  kind1 = refl;
  kind1_changed = refl;
  kind2 = refl;
  kind2_changed = refl;
  two_kinds_as_1 = refl;
  two_kinds_as_3 = refl;
  two_and_five_as_2 = refl;
  two_and_five_as_5 = refl;
  ends_in_zeros_lem = refl;
  six_kinds = refl;
}

pub f_bytes : FBytes
unfolding f T S bit
f_bytes = record { first = refl; second = refl }

-- ---- changes of one byte

pub one_byte : OneByte
unfolding ta32_call ta52_call
one_byte = record {
  kind1 = ap (key_answer Ta31) (answered Ta31 (of_first 0x54) (upward 0 10) version7 _ refl refl computed.kind1);
  kind1_changed = ap (key_answer Ta31) (answered Ta31 (of_first 0xd4) (upward 0 10) version7 _ refl refl computed.kind1_changed);
  kind2 = ap (number_answer Ta51) (answered Ta51 (of_third 0x28) (upward 0 16) version7 _ refl refl computed.kind2);
  kind2_changed = ap (number_answer Ta51) (answered Ta51 (of_third 0xdc) (upward 0 16) version7 _ refl refl computed.kind2_changed);
}

-- ---- kinds

-- under a ring of zeros, a kind whose core's key is then zeros, and that opens zeros to zeros
abbrev AsKind : ℕ → List ℕ → Type 0
AsKind k x = (open_fault (zeros ring_size) (record_of_six k x) ≡ 0) × (part 6 12 (open_record (zeros ring_size) (record_of_six k x)) ≡ zeros 12)

as_kind : (k : ℕ) (by : Algorithm) (u : RingKey) → kind_of k ≡ kind by u → (form_of by).key (ring_key u (zeros ring_size)) (zeros 2) ≡ zeros 16
    → failed (form_of by) (zeros 15) ≡ 0 → (form_of by).shrink (zeros 15) ≡ zeros 12 → (x : List ℕ) → AsKind k x
unfolding open_fault open_record unseal fails opened
as_kind k by u e-kind e-key e-failed e-shrunk x =
    rw (e-kind, e-key, bl2_chained_lem (zeros 16) (with8 of_six_kinds), computed.six_kinds, e-failed, e-shrunk) (refl, refl)

all_six : (k : ℕ) (x : List ℕ) → 1 ≤ k → k ≤ 6 → AsKind k x
unfolding kind_of key10 key16 exp4
all_six zero x h l = absurd (omega arith)
all_six (suc zero) x h l = as_kind 1 Ta31 ring_d refl refl refl refl x
all_six (suc (suc zero)) x h l = as_kind 2 Ta51 ring_o refl refl refl refl x
all_six (suc (suc (suc zero))) x h l = as_kind 3 Ta81 ring_o refl refl refl refl x
all_six (suc (suc (suc (suc zero)))) x h l = as_kind 4 Ta91 ring_o refl refl refl refl x
all_six (suc (suc (suc (suc (suc zero))))) x h l = as_kind 5 Ta51 ring_g refl refl refl refl x
all_six (suc (suc (suc (suc (suc (suc zero)))))) x h l = as_kind 6 Ta81 ring_g refl refl refl refl x
all_six (suc (suc (suc (suc (suc (suc (suc k))))))) x h l = absurd (omega (arith, l))

pub other_kinds : OtherKinds
unfolding ta32_call ta82_call
other_kinds = record {
  kind1 = ap (key_answer Ta31) (answered Ta31 of_two_kinds (upward 0 10) version7 _ refl refl computed.two_kinds_as_1);
  kind3 = ap (number_answer Ta81) (answered Ta81 of_two_kinds (upward 0 16) version7 _ refl refl computed.two_kinds_as_3);
  all_six = all_six;
}

pub confused_kinds : ConfusedKinds
unfolding ta52_call tb7_call
confused_kinds = record {
  group_key₅ = refl;
  kind2 = ap (number_answer Ta51) (answered Ta51 of_two_and_five (upward 0 16) version7 _ refl refl computed.two_and_five_as_2);
  kind5 = ap (number_answer Ta51) (answered Ta51 of_two_and_five other_g version7 _ refl refl computed.two_and_five_as_5);
  group_key₆ = refl;
  kind3 = two_rings.second (zeros 10 ++ other_o) refl;
  kind6 = two_rings.first (zeros 10 ++ upward 0 16) refl;
}

-- ---- where two mistakes do no harm

same_place : (t : List ℕ) → part 7 8 t ≡ zeros 8 → with_zero_at_end t ≡ with8 t
same_place t e = ap (λ (l : List ℕ). part 0 7 t ++ l ++ 0 ∷ []) e ∙ sym (ap (λ (l : List ℕ). part 0 7 t ++ 0 ∷ l) e)

pub either_way : EitherWay
unfolding ta82_call ta82_at_end opened_at_end unseal_call unseal fails opened
either_way = record {
  same = λ t s v e. rw (same_place t e);
  opens = ap (number_answer Ta81) (answered Ta81 ends_in_zeros (upward 0 16) version7 _ refl refl computed.ends_in_zeros_lem);
}

pub palindrome : Palindrome
palindrome = record { same = λ ks c rm km e. ap (λ (l : List ℕ). ta12_call ks l rm km) e; one = refl }
