-- The flag without branches (02, 3) and part marks for redundancy (02, 6), stated. The proofs are in proofs/FactLaws.
use Rattle.std.specs.Prelude.{Bool, true, ◌&&◌, List, ◌↔◌, ◌≡◌, ℕ, ◌/◌, ◌^◌, ◌<◌, eqb, length}
use Rattle.standard.specs.Bytes.{◌!◌, bit, bytes_of, same}
use Rattle.standard.specs.Expansions.{inserted, expected, exp1_groups, exp3_groups, x16_groups}
use Rattle.standard.specs.Seals.{checks, or_of, sealing_size, form_of, form, opened, fails, body_key, body_number, seal_call, unseal_call, ta52_call}
use Rattle.standard.specs.declared.Algorithm.{Algorithm}
use Rattle.standard.specs.declared.Algorithm.TheVariants.{Ta31, Ta51, Ta81, Ta91}
use Rattle.standard.specs.declared.Bytes15.{Bytes15}
use Rattle.standard.specs.declared.Kind.{Kind}
use Rattle.standard.specs.declared.Version.{Version}

-- sealing a body: its key, and its number where it has one
abbrev pub seal_body : Algorithm → List ℕ → Version → List ℕ → Bytes15
seal_body a b v s = seal_call a (body_key a b) v s (record { 0 = body_number a b })

-- ---- the flag without branches (02, 3)

-- 01's flag is clear: each inserted byte is the ⊕ of its group, and the number byte that TA52 finds is below 32
abbrev pub flag_clear : Algorithm → List ℕ → Bool
flag_clear Ta31 u = same (inserted exp1_groups 0 u) (expected exp1_groups 0 u)
flag_clear Ta51 u = same (inserted exp3_groups 0 u) (expected exp3_groups 0 u) && eqb (u ! 13 / 32) 0
flag_clear Ta81 u = same (inserted x16_groups 0 u) (expected x16_groups 0 u)
flag_clear Ta91 u = same (inserted x16_groups 0 u) (expected x16_groups 0 u)

-- for every kind, sealing key, version and text the or of the checks is 0 exactly if 01's flag is clear
abbrev pub OrIsFlag : Type 0
OrIsFlag = (k : Kind) (s v t : List ℕ)
    → (or_of (form k) (opened ((form k).key s v) t) ≡ 0) ↔ (flag_clear k.algorithm (opened ((form k).key s v) t) ≡ true)

-- ---- part marks for redundancy (02, 6)

-- the sizes of the groups after which an algorithm inserts their ⊕: EXP1, EXP3, and X16 twice
abbrev pub groups_of : Algorithm → List ℕ
groups_of Ta31 = exp1_groups
groups_of Ta51 = exp3_groups
groups_of Ta81 = x16_groups
groups_of Ta91 = x16_groups

-- how many checks there are: one for each inserted byte, and for TA52 one more, for the three zero bits
abbrev pub check_count : Algorithm → ℕ
check_count Ta31 = 5
check_count Ta51 = 5
check_count Ta81 = 3
check_count Ta91 = 3

-- the 15 bytes that BL2 gives for a text, in which the inserted bytes stand
abbrev pub opened_by : Algorithm → (t s : List ℕ) → Version → List ℕ
opened_by a t s v = opened ((form_of a).key s (bytes_of 2 v.0)) t

-- of every text of 15 bytes, sealing key of its length and version
pub record FailedChecks : Type 0 where
  -- there are 5 checks for TA32, 5 for TA52, 3 for TA82 and 3 for TA92 ..
  pub many : (a : Algorithm) (u : List ℕ) → length (checks (form_of a) u) ≡ check_count a
  -- .. and no bit is set but theirs, whatever the inputs
  pub no_other : (a : Algorithm) (t s : List ℕ) (v : Version) → (unseal_call a t s v).failed_checks < 2 ^ check_count a
  -- bit i, from 0 at the leftmost inserted byte, is set exactly if inserted byte i is not the ⊕ of its group
  pub inserted_bit : (a : Algorithm) (t s : List ℕ) (v : Version) → length t ≡ 15 → length s ≡ sealing_size a → (i : ℕ) → i < length (groups_of a)
      → let u = opened_by a t s v in
      (bit i (unseal_call a t s v).failed_checks ≡ 1) ↔ (inserted (groups_of a) 0 u ! i ≡ expected (groups_of a) 0 u ! i → ⊥)
  -- bit 4 of TA52 is set exactly if the top three bits of the number byte, which stands before the last inserted one, are not zero
  pub number_bit : (t s : List ℕ) (v : Version) → length t ≡ 15 → length s ≡ 16
      → (bit 4 (ta52_call t s v).failed_checks ≡ 1) ↔ (opened_by Ta51 t s v ! 13 / 32 ≡ 0 → ⊥)

-- for every kind, sealing key, version and text the number is 0 exactly if 01's flag is clear
abbrev pub FlagIsNonzero : Type 0
FlagIsNonzero = (k : Kind) (s v t : List ℕ) → (fails (form k) s v t ≡ 0) ↔ (flag_clear k.algorithm (opened ((form k).key s v) t) ≡ true)
