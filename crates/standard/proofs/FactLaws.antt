-- The facts that the requests ask for (02), and one of 01's, proved.
use Rattle.standard.proofs.Prelude.{◌≡◌, refl, sym, ap, ap₂, ◌∙◌, subst, Bool, true, false, ◌&&◌, ◌↔◌, List, [], ◌∷◌, ◌++◌, ℕ, zero, suc, ◌*◌}
use Rattle.standard.proofs.Prelude.{◌/◌, ◌^◌, ◌<◌, suc-ne-zero, arith, eqb, length, drop, pow_pos, eqb-true, eqb-false, eq-eqb, ne_eqb, le-leb}
use mathlib.Core.Path.{fun_ext}
use lib.ListN.{get_or-append}
use Rattle.standard.specs.Books.{record_kind, sealing_key, plain_fault, open_record, open_fault, inspection_runs, book_call, seal_book, open_book, check_plain}
use Rattle.standard.specs.Bytes.{◌!◌, bit, part, zeros, bytes_of, choose}
use Rattle.standard.specs.Classes.{class_record, ta12_class_call}
use Rattle.standard.specs.Cores.{bl1_with, bl1}
use Rattle.standard.specs.Keys.{core, ta11, ta21, ta41, chosen, ta12_call, sides_test, ring, have_lengths, ring_call}
use Rattle.standard.specs.Expansions.{inserted, expected, exp3_groups}
use Rattle.standard.specs.KeysFacts.{BothSides, OneSide, IdleChallenge}
use Rattle.standard.specs.ClassesFacts.{SingleCalls}
use Rattle.standard.specs.BooksFacts.{SameBooks, SameChecks}
use Rattle.standard.specs.SealsFacts.{groups_of, check_count, opened_by, flag_clear}
use Rattle.standard.specs.BooksFacts.{flag_fault}
use Rattle.standard.specs.SealsFacts.{OrIsFlag, FailedChecks, FlagIsNonzero}
use Rattle.standard.specs.Lists.{record_at, each, length_tests, list_tests, records_call}
use Rattle.standard.specs.Mixing.{tb4, tb7}
use Rattle.standard.specs.Refusals.{wrong_length, has_length, mask_tests, first, ring_made}
use Rattle.standard.specs.Seals.{checks, failed, clear, or_of, sealing_size, form_of, form, opened, fails, unseal_call, ta52_call}
use Rattle.standard.specs.Sizes.{plain_size, sealed_size, challenge_size, authentication_size}
use Rattle.standard.specs.declared.Algorithm.{Algorithm}
use Rattle.standard.specs.declared.Algorithm.TheVariants.{Ta31, Ta51, Ta81, Ta91}
use Rattle.standard.specs.declared.Authentication.{Authentication}
use Rattle.standard.specs.declared.Kind.{Kind}
use Rattle.standard.specs.declared.Version.{Version}
use Rattle.standard.proofs.AnswerLaws.{is_accepted, accepted, answer_alike}
use Rattle.standard.proofs.BookLaws.{joined_front}
use Rattle.standard.proofs.BytesLaws.{spelled, length_spelled}
use Rattle.standard.proofs.CheckLaws.{as_many, clear_same, or_clear, failed_bit, failed_below, failed_at}
use Rattle.standard.proofs.KeysLaws.{masks_ones, length_chosen, lengths_split}
use Rattle.standard.proofs.FirstLaws.{test_at, all_pass, none_fails}

-- ---- one-sided authentication (02, 1)

-- what a refused recipe answers depends on the number alone
ring_same : (r : ℕ) (k k' s s' t t' : List ℕ) → (r ≡ 0 → (k ≡ k') × (s ≡ s') × (t ≡ t')) → ring_made r k s t ≡ ring_made r k' s' t'
ring_same zero k k' s s' t t' h = let e = h refl in rw (e.0, e.1, e.2)
ring_same (suc r) k k' s s' t t' h = rw (ne_eqb (suc r) 0 (suc-ne-zero r))

-- TA12 under a session key of 16 bytes, where its challenge and the masks pass
ta12_passes : (ks rand : List ℕ) (rm km : ℕ) → has_length 16 ks ≡ true → has_length 10 rand ≡ true → first (mask_tests rm km) ≡ 0
    → ta12_call ks rand rm km ≡ record { refusal = 0; response = chosen rm (core ks rand); key = chosen km (core ks rand) }
unfolding ta12_call
ta12_passes ks rand rm km l₁ l₂ m = rw (l₁, l₂, m)

-- a session key has 16 bytes
core_length : (k seed : List ℕ) → has_length 16 (core k seed) ≡ true
unfolding bl1 bl1_with
core_length k seed = refl

core_spelled : (k seed : List ℕ) → part 0 16 (core k seed) ≡ core k seed
core_spelled k seed = length_spelled 16 (core k seed) (core_length k seed)

abbrev recipe_tests : (root rs rso rand1 rand2 c gk : List ℕ) (sides rm km : ℕ) → List (Bool × ℕ)
recipe_tests root rs rso rand1 rand2 c gk sides rm km = (have_lengths root rs rso rand1 rand2 c gk, wrong_length) ∷ sides_test sides ∷ mask_tests rm km

-- an accepted recipe
module _ (root rs rso rand1 rand2 c gk : List ℕ) (sides rm km : ℕ) (z : first (recipe_tests root rs rso rand1 rand2 c gk sides rm km) ≡ 0) where
  passed : (i : ℕ) → test_at (recipe_tests root rs rso rand1 rand2 c gk sides rm km) i ≡ true
  passed = all_pass (recipe_tests root rs rso rand1 rand2 c gk sides rm km) refl z

  masks : first (mask_tests rm km) ≡ 0
  masks = none_fails (mask_tests rm km) (λ i. passed (suc (suc i)))

  -- each side's call passes too, and gives what its half gives
  side1 : let o = core (ta11 root rs) rand1 in ta12_call (ta11 root rs) rand1 rm km ≡ record { refusal = 0; response = chosen rm o; key = chosen km o }
  side1 = ta12_passes (ta11 root rs) rand1 rm km (core_length root rs) (lengths_split root rs rso rand1 rand2 c gk (passed 0)).3 masks

  side2 : let o = core (ta21 root rs) rand2 in ta12_call (ta21 root rs) rand2 rm km ≡ record { refusal = 0; response = chosen rm o; key = chosen km o }
  side2 = ta12_passes (ta21 root rs) rand2 rm km (core_length root _) (lengths_split root rs rso rand1 rand2 c gk (passed 0)).4 masks

  -- the other keys after D
  keys_after_d : (d : List ℕ) → d ++ part 0 16 (ta41 root rso) ++ part 0 10 c ++ tb7 gk ≡ d ++ ta41 root rso ++ c ++ tb7 gk
  keys_after_d d =
      ap₂ (λ (o k : List ℕ). d ++ o ++ k ++ tb7 gk) (core_spelled root rso)
      (length_spelled 10 c (lengths_split root rs rso rand1 rand2 c gk (passed 0)).5)

pub both_sides : BothSides
unfolding ring_call ring
both_sides root rs rso rand1 rand2 c gk rm km =
    ring_same (first ((have_lengths root rs rso rand1 rand2 c gk, wrong_length) ∷ mask_tests rm km)) _ _ _ _ _ _
    (λ z.
    let d = tb4 (chosen km (core (ta11 root rs) rand1)) (chosen km (core (ta21 root rs) rand2)) in
    rw (side1 root rs rso rand1 rand2 c gk 3 rm km z, side2 root rs rso rand1 rand2 c gk 3 rm km z)
    (keys_after_d root rs rso rand1 rand2 c gk 3 rm km z d, refl, refl))

pub one_side : OneSide
unfolding ring_call ring
one_side = record {
  ta12_alone = λ root rs rso rand1 rand2 c gk rm km.
      ring_same (first ((have_lengths root rs rso rand1 rand2 c gk, wrong_length) ∷ mask_tests rm km)) _ _ _ _ _ _
      (λ z.
      let d = tb4 (chosen km (core (ta11 root rs) rand1)) (zeros 10) in
      rw (side1 root rs rso rand1 rand2 c gk 1 rm km z) (keys_after_d root rs rso rand1 rand2 c gk 1 rm km z d, refl, refl));
  ta22_alone = λ root rs rso rand1 rand2 c gk rm km.
      ring_same (first ((have_lengths root rs rso rand1 rand2 c gk, wrong_length) ∷ mask_tests rm km)) _ _ _ _ _ _
      (λ z.
      let d = tb4 (zeros 10) (chosen km (core (ta21 root rs) rand2)) in
      rw (side2 root rs rso rand1 rand2 c gk 2 rm km z) (keys_after_d root rs rso rand1 rand2 c gk 2 rm km z d, refl, refl));
}

pub idle_challenge : IdleChallenge
unfolding ring_call ring
idle_challenge = record {
  ta12_alone = λ root rs rso rand1 c gk rm km x y h. rw h;
  ta22_alone = λ root rs rso rand2 c gk rm km x y h. rw h;
}

-- ---- a whole class of challenges (02, 2)

class_record_length : (ks : List ℕ) (rm km : ℕ) (x : List ℕ) → length (class_record ks rm km x) ≡ authentication_size
unfolding class_record
class_record_length ks rm km x = refl

-- an accepted class
module _ (ks xs : List ℕ) (rm km : ℕ) (out : List ℕ) (z : (ta12_class_call ks xs rm km out).0.refusal ≡ 0) where
  abbrev n : ℕ
  n = length xs / challenge_size

  abbrev tests : List (Bool × ℕ)
  tests = (has_length 16 ks, wrong_length) ∷ list_tests challenge_size authentication_size (length xs) (length out) ++ mask_tests rm km

  none_refuses : first tests ≡ 0
  unfolding ta12_class_call records_call
  none_refuses = (is_accepted (first tests) n (λ i. 0) (authentication_size * n) z).0

  class_masks : first (mask_tests rm km) ≡ 0
  class_masks = none_fails (mask_tests rm km) (λ i. all_pass tests refl none_refuses (suc (suc (suc (suc i)))))

  all_written : (ta12_class_call ks xs rm km out).1 ≡ each n challenge_size (class_record ks rm km) xs ++ drop (authentication_size * n) out
  unfolding ta12_class_call records_call
  all_written = rw (accepted (first tests) n (λ i. 0) (authentication_size * n) none_refuses (λ i h. refl))

  class_record_lem : (i : ℕ) → i < n → record_at authentication_size (ta12_class_call ks xs rm km out).1 i ≡ class_record ks rm km (record_at challenge_size xs i)
  class_record_lem i h =
      let made : ℕ → List ℕ = λ j. class_record ks rm km (record_at challenge_size xs j) in
      rw all_written (joined_front authentication_size made n (λ j k. class_record_length ks rm km _) (drop (authentication_size * n) out) i h)

  single : (i : ℕ) → let x = record_at challenge_size xs i in
      ta12_call ks x rm km ≡ record { refusal = 0; response = chosen rm (core ks x); key = chosen km (core ks x) }
  single i = ta12_passes ks (record_at challenge_size xs i) rm km (all_pass tests refl none_refuses 0) refl class_masks

  -- masks of sixteen bits choose four bytes and ten
  spelled4 : (o : List ℕ) → rm < 2 ^ 16 → part 0 4 (chosen rm o) ≡ chosen rm o
  spelled4 o h = spelled 4 (chosen rm o) (length_chosen rm o h ∙ (masks_ones rm km class_masks).0)

  spelled10 : (o : List ℕ) → km < 2 ^ 16 → part 0 10 (chosen km o) ≡ chosen km o
  spelled10 o h = spelled 10 (chosen km o) (length_chosen km o h ∙ (masks_ones rm km class_masks).1)

pub single_calls : SingleCalls
unfolding class_record
single_calls = record {
  answers = λ ks xs rm km out z i h. (ap (λ (a : Authentication). a.refusal) (single ks xs rm km out z i), class_record_lem ks xs rm km out z i h);
  whole = λ ks xs rm km out hr hk z i h.
      class_record_lem ks xs rm km out z i h
      ∙ rw (single ks xs rm km out z i) (ap₂ ◌++◌ (spelled4 ks xs rm km out z _ hr) (spelled10 ks xs rm km out z _ hk));
}

-- ---- the flag without branches (02, 3)

-- the flag by the number is 01's
flag_same : (a : Algorithm) (u : List ℕ) → clear (form_of a) u ≡ flag_clear a u
flag_same Ta31 u = clear_same Ta31 u
flag_same Ta51 u = clear_same Ta51 u
flag_same Ta81 u = clear_same Ta81 u
flag_same Ta91 u = clear_same Ta91 u

pub or_is_flag : OrIsFlag
or_is_flag k s v t =
    let u = opened ((form k).key s v) t in
    let e = or_clear k.algorithm u ∙ flag_same k.algorithm u in
    (λ z. sym e ∙ eq-eqb _ 0 z, λ c. eqb-true _ 0 (e ∙ c))

-- ---- part marks for redundancy (02, 6)

-- a bit that is 1 exactly where two numbers differ
one_where : (b x y : ℕ) → b ≡ choose (eqb x y) 0 1 → (b ≡ 1) ↔ (x ≡ y → ⊥)
one_where b x y e = go (eqb x y) refl e
  where
    go : (t : Bool) → eqb x y ≡ t → b ≡ choose t 0 1 → (b ≡ 1) ↔ (x ≡ y → ⊥)
    go true z h = (λ o. absurd (suc-ne-zero 0 (sym o ∙ h)), λ n. absurd (n (eqb-true x y z)))
    go false z h = (λ o. eqb-false x y z, λ n. h)

-- of every kind and every output of BL2: bit i is 1 exactly if check i fails, and no other bit is set
pub record ChecksBits : Type 0 where
  pub bits : (k : Kind) (u : List ℕ) (i : ℕ) → i < length (checks (form k) u) → (bit i (failed (form k) u) ≡ 1) ↔ (checks (form k) u ! i ≡ 0 → ⊥)
  pub below : (k : Kind) (u : List ℕ) → failed (form k) u < 2 ^ length (checks (form k) u)

pub checks_bits : ChecksBits
checks_bits = record {
  bits = λ k u i h. one_where _ (checks (form k) u ! i) 0 (failed_bit (checks (form k) u) i h);
  below = λ k u. failed_below (checks (form k) u);
}

-- how many checks there are
check_count_lem : (a : Algorithm) (u : List ℕ) → length (checks (form_of a) u) ≡ check_count a
check_count_lem Ta31 u = refl
check_count_lem Ta51 u = refl
check_count_lem Ta81 u = refl
check_count_lem Ta91 u = refl

-- the test of an unsealing call
abbrev passes : Algorithm → (t s : List ℕ) → Bool
passes a t s = eqb (first ((has_length 15 t && has_length (sealing_size a) s, wrong_length) ∷ [])) 0

-- an answer's number, and 0 in a refusal
below_both : (t : Bool) (n k : ℕ) → n < 2 ^ k → choose t n 0 < 2 ^ k
below_both true n k h = h
below_both false n k h = pow_pos k

fails_below : (a : Algorithm) (s v t : List ℕ) → fails (form_of a) s v t < 2 ^ check_count a
unfolding fails
fails_below a s v t =
    let u = opened ((form_of a).key s v) t in
    subst (λ (k : ℕ). failed (form_of a) u < 2 ^ k) (check_count_lem a u) (failed_below (checks (form_of a) u))

no_other : (a : Algorithm) (t s : List ℕ) (v : Version) → (unseal_call a t s v).failed_checks < 2 ^ check_count a
unfolding unseal_call
no_other a t s v = below_both (passes a t s) _ (check_count a) (fails_below a s (bytes_of 2 v.0) t)

-- where the lengths pass, a call answers the number of its form
failed_by : (a : Algorithm) (t s : List ℕ) (v : Version) → length t ≡ 15 → length s ≡ sealing_size a
    → (unseal_call a t s v).failed_checks ≡ failed (form_of a) (opened_by a t s v)
unfolding unseal_call fails
failed_by a t s v ht hs = rw (eq-eqb _ _ ht, eq-eqb _ _ hs)

-- the inserted bytes are the first that a form looks at, each against the ⊕ of its group
pub record Looks (a : Algorithm) (u : List ℕ) (i : ℕ) : Type 0 where
  pub within : i < length ((form_of a).found u)
  pub found : (form_of a).found u ! i ≡ inserted (groups_of a) 0 u ! i
  pub wanted : (form_of a).wanted u ! i ≡ expected (groups_of a) 0 u ! i

looks_inserted : (a : Algorithm) (u : List ℕ) (i : ℕ) → i < length (groups_of a) → Looks a u i
looks_inserted Ta31 u i h = record { within = h; found = refl; wanted = refl }
looks_inserted Ta51 u i h = record {
  within = omega arith;
  found = get_or-append (inserted exp3_groups 0 u) (u ! 13 / 32 ∷ []) 0 i h;
  wanted = get_or-append (expected exp3_groups 0 u) (0 ∷ []) 0 i h;
}
looks_inserted Ta81 u i h = record { within = h; found = refl; wanted = refl }
looks_inserted Ta91 u i h = record { within = h; found = refl; wanted = refl }

-- bit i of a call's number, by what its form finds and wants
bit_of : (a : Algorithm) (t s : List ℕ) (v : Version) → length t ≡ 15 → length s ≡ sealing_size a → (i : ℕ)
    → let u = opened_by a t s v in
    i < length ((form_of a).found u) → (bit i (unseal_call a t s v).failed_checks ≡ 1) ↔ ((form_of a).found u ! i ≡ (form_of a).wanted u ! i → ⊥)
bit_of a t s v ht hs i h =
    let u = opened_by a t s v in
    one_where _ _ _ (ap (bit i) (failed_by a t s v ht hs) ∙ failed_at ((form_of a).found u) ((form_of a).wanted u) (as_many a u) i h)

pub failed_checks : FailedChecks
unfolding ta52_call
failed_checks = record {
  many = check_count_lem;
  no_other = no_other;
  inserted_bit = λ a t s v ht hs i h.
      let l = looks_inserted a (opened_by a t s v) i h in
      rw (l.found, l.wanted) at (bit_of a t s v ht hs i l.within);
  number_bit = λ t s v ht hs. bit_of Ta51 t s v ht hs 4 (omega arith);
}

pub flag_is_nonzero : FlagIsNonzero
unfolding fails
flag_is_nonzero k s v t =
    let u = opened ((form k).key s v) t in
    let e = flag_same k.algorithm u in
    (λ z. sym e ∙ eq-eqb _ 0 z, λ c. eqb-true _ 0 (e ∙ c))

-- the or of the checks is 0 exactly if the number is
abbrev pub OrIsZero : Type 0
OrIsZero = (k : Kind) (s v t : List ℕ) → (or_of (form k) (opened ((form k).key s v) t) ≡ 0) ↔ (fails (form k) s v t ≡ 0)

pub or_is_zero : OrIsZero
unfolding fails
or_is_zero k s v t =
    let e = or_clear k.algorithm (opened ((form k).key s v) t) in
    (λ z. eqb-true _ 0 (sym e ∙ eq-eqb _ 0 z), λ z. eqb-true _ 0 (e ∙ eq-eqb _ 0 z))

same_fault : (r t : List ℕ) → open_fault r t ≡ flag_fault r t
unfolding open_fault fails
same_fault r t = rw (flag_same (record_kind t).algorithm (opened ((form (record_kind t)).key (sealing_key (record_kind t) r) (part 4 2 t)) (part 6 15 t)))

pub same_books : SameBooks
unfolding open_book
same_books r s out =
    ap (λ (g : List ℕ → ℕ). book_call (record {
      size = sealed_size;
      output_size = plain_size;
      fault = g;
      inspection = inspection_runs;
      convert = open_record r;
    }) r s out)
    (fun_ext (same_fault r))

-- ---- plainlist's checks (01)

pub same_checks : SameChecks
unfolding seal_book book_call check_plain records_call
same_checks r p out hr room =
    rw (eq-eqb _ _ hr, le-leb _ _ room)
    (answer_alike (first (length_tests plain_size (length p))) (length p / plain_size) (λ i. plain_fault (record_at plain_size p i)) _ 0)
