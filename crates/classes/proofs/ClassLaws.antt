-- A class's records are those of single calls, and its tests as code makes them one after the other.
use Rattle.standard.proofs.Prelude.{◌≡◌, refl, sym, ap, ap₂, ◌∙◌, Bool, true, false, List, [], ◌∷◌, ◌++◌, append-nil, ℕ, zero, suc, ◌+◌, ◌-◌, ◌*◌, ◌/◌, ◌^◌, ◌<◌, ◌≤◌, mul-suc, arith, length, take, drop}
use Rattle.standard.proofs.Prelude.{add-sub_cancel_left, length-append, length-drop, drop_of_length-le, take_all, take_at, drop_at, eq-eqb, eqb-true}
use lib.Count.{ones}
use borrow.Rule.Slice.PartMut.{mid_of, put_mid}
use Rattle.hurdle.specs.Lanes.{lane}
use Rattle.lists.proofs.WalkLaws.{chunk_at, PrefixWritten, prefix_replaced, prefix_from}
use Rattle.lists.specs.Walks.{replace_at, replace_from}
use lib.ListN.{get_or}
use Rattle.std.proofs.lemmas.List.{get_or-take, get_or-drop}
use Rattle.std.specs.Simd.{first_chunks}
use Rattle.keys.proofs.MaskLaws.{part_filled, front_filled}
use Rattle.keys.specs.Masks.{Counted}
use Rattle.lists.proofs.ListReturnLaws.{call_refused, call_done}
use Rattle.standard.proofs.BookLaws.{each_same, joined_same}
use Rattle.standard.proofs.FirstLaws.{first_append}
use Rattle.standard.proofs.RefusalLaws.{not_zero}
use Rattle.standard.specs.Answers.{refusal_number}
use Rattle.standard.specs.Classes.{class_record, ta12_class_call}
use Rattle.standard.specs.Cores.{bl1}
use Rattle.standard.specs.Hurdle.{schedule}
use Rattle.standard.specs.Lists.{record_at, joined, each, list_tests, refused}
use Rattle.standard.specs.Refusals.{wrong_length, has_length, mask_tests, first}
use Rattle.standard.specs.declared.Refusal.{Refusal}
use Rattle.standard.specs.declared.Refusal.TheVariants.{WrongLength}
use Rattle.standard.proofs.BytesLaws.{spelled}
use Rattle.standard.proofs.KeysLaws.{length_chosen}
use Rattle.standard.specs.Keys.{chosen, ta12_call}
use Rattle.standard.specs.Sizes.{challenge_size, authentication_size}
use Rattle.classes.specs.ClassRecords.{record_from, record_with, record_of}
use Rattle.classes.specs.declared.Session.{Session}

-- the response in the front of the part, and the key in the rest of it
module _ (rm km : ℕ) (o out r₁ r₂ : List ℕ) (hr : rm < 2 ^ 16) (hk : km < 2 ^ 16) (counted : Counted rm km) (l : length out ≡ authentication_size)
    (e₁ : r₁ ≡ take (length (take (ones rm) out)) (chosen rm o) ++ drop (length (chosen rm o)) (take (ones rm) out)) where
  abbrev rest : List ℕ
  rest = drop (ones rm) out

  pub rest_length : length (r₁ ++ rest) ≡ authentication_size
  rest_length =
      let responded : r₁ ≡ chosen rm o = front_filled rm o out r₁ hr (omega (arith, l, counted.0)) e₁ in
      length-append r₁ rest ∙ omega (arith, ap length responded, length_chosen rm o hr, length-drop (ones rm) out, l, counted.0)

  abbrev mid : List ℕ
  mid = mid_of (ones rm) (ones rm + ones km - ones rm) (r₁ ++ rest)

  pub record_filled : r₂ ≡ take (length mid) (chosen km o) ++ drop (length (chosen km o)) mid
      → put_mid (ones rm) (ones rm + ones km - ones rm) (r₁ ++ rest) r₂ ≡ record_from rm km o
  unfolding record_from
  record_filled e₂ =
      let responded : r₁ ≡ chosen rm o = front_filled rm o out r₁ hr (omega (arith, l, counted.0)) e₁ in
      let lr : length r₁ ≡ ones rm = ap length responded ∙ length_chosen rm o hr in
      let lk : length rest ≡ ones km = length-drop (ones rm) out ∙ omega (arith, l, counted.0, counted.1) in
      let here : mid ≡ rest =
      rw (add-sub_cancel_left (ones rm) (ones km), drop_at r₁ rest (ones rm) lr) (take_all (ones km) rest (omega (arith, lk))) in
      let keyed : r₂ ≡ chosen km o = part_filled km o mid r₂ hk (ap length here ∙ lk) e₂ in
      rw (
        add-sub_cancel_left (ones rm) (ones km),
        take_at r₁ rest (ones rm) lr,
        drop_at r₁ rest (ones rm) lr,
        drop_of_length-le rest {i = ones km} (omega (arith, lk)),
        append-nil,
        keyed,
        responded,
      )
      (sym (ap₂ ◌++◌ (spelled 4 (chosen rm o) (length_chosen rm o hr ∙ counted.0)) (spelled 10 (chosen km o) (length_chosen km o hk ∙ counted.1))))

-- ---- the loops: the records of the first i challenges stand at their places in an output that was out₀

abbrev pub Recorded : Session → List (List ℕ) → List ℕ → ℕ → List ℕ → Type 0
Recorded s cs out₀ i out = PrefixWritten authentication_size (λ j. record_of s (lane cs j)) out₀ i out

record_length : (keys : List ℕ) (rm km : ℕ) (x : List ℕ) → length (record_with keys rm km x) ≡ authentication_size
unfolding record_with record_from
record_length keys rm km x = refl

-- challenge j of chunk k of four
in_chunk : {A : Type 0} (w n : ℕ) (cs : List A) (k j : ℕ) (d : A) → k < n → j < w → get_or (get_or (first_chunks w n cs) k []) j d ≡ get_or cs (w * k + j) d
in_chunk w zero cs k j d h l = absurd (omega arith)
in_chunk w (suc n) cs zero j d h l = get_or-take w cs j d l ∙ ap (λ (i : ℕ). get_or cs i d) (omega arith)
in_chunk w (suc n) cs (suc k) j d h l =
    in_chunk w n (drop w cs) k j d (omega arith) l ∙ get_or-drop w cs (w * k + j) d ∙ ap (λ (i : ℕ). get_or cs i d) (omega (arith, mul-suc w k))

replaced_same : (v i n : ℕ) (g h : ℕ → List ℕ) (out : List ℕ) → ((j : ℕ) → j < n → g j ≡ h j) → replace_from v i g n out ≡ replace_from v i h n out
replaced_same v i zero g h out e = refl
replaced_same v i (suc n) g h out e = ap₂ (λ (x o : List ℕ). replace_at v (i + n) x o) (e n (omega arith)) (replaced_same v i n g h out (λ j l. e j (omega arith)))

module _ (s : Session) (cs : List (List ℕ)) (out₀ : List ℕ) (room : authentication_size * length cs ≤ length out₀) where
  abbrev made : ℕ → List ℕ
  made i = record_of s (lane cs i)

  made_length : (i : ℕ) → length (made i) ≡ authentication_size
  made_length i = record_length s.keys s.masks.response s.masks.key (lane cs i)

  module _ {fours : List (List (List ℕ))} (e : fours ≡ first_chunks 4 (length cs / 4) cs) (l : length fours ≡ length cs / 4) where
    pub recorded_x4 : (k : ℕ) → k < length fours → {four : List (List ℕ)} → four ≡ get_or fours k [] → {out exit : List ℕ}
        → Recorded s cs out₀ (4 * k) out → exit ≡ replace_from authentication_size (4 * k) (λ j. record_of s (lane four j)) 4 out
        → Recorded s cs out₀ (4 * (k + 1)) exit
    recorded_x4 k h {four} f {out} before x =
        let same = replaced_same authentication_size (4 * k) 4 (λ j. record_of s (lane four j)) (λ j. made (4 * k + j)) out
        (λ j m. ap (record_of s) (ap (λ (c : List (List ℕ)). get_or c j []) (f ∙ ap (λ (c : List (List (List ℕ))). get_or c k []) e) ∙ in_chunk 4 (length cs / 4) cs k j [] (omega arith) m)) in
        let next : 4 * (k + 1) ≡ 4 * k + 4 = omega arith in
        rw (next, x, same) (prefix_from authentication_size made made_length out₀ (4 * k) 4 (omega arith) out before)

    pub recorded_one : {rest : List (List ℕ)} → rest ≡ drop (length cs / 4 * 4) cs → (j : ℕ) → j < length rest → {challenge : List ℕ}
        → challenge ≡ lane rest j → {out exit : List ℕ} → Recorded s cs out₀ (4 * length fours + j) out
        → exit ≡ replace_at authentication_size (4 * length fours + j) (record_of s challenge) out → Recorded s cs out₀ (4 * length fours + (j + 1)) exit
    recorded_one {rest} d j h f {out} before x =
        let at : length cs / 4 * 4 + j ≡ 4 * length fours + j = omega arith in
        let here : lane rest j ≡ lane cs (4 * length fours + j) =
        ap (λ (c : List (List ℕ)). lane c j) d ∙ get_or-drop (length cs / 4 * 4) cs j [] ∙ ap (lane cs) at in
        let fits : 4 * length fours + j < length cs = omega (arith, ap length d ∙ length-drop (length cs / 4 * 4) cs) in
        rw (x, f, here) (prefix_replaced authentication_size made made_length out₀ (4 * length fours + j) (4 * length fours + (j + 1)) (omega arith) out before (omega arith))

module _ (ks xs : List ℕ) (rm km : ℕ) (h : length ks ≡ 16) (m : 0 ≡ first (mask_tests rm km)) where
  -- under the session key's round keys, and masks that no test refuses, the record of a challenge is what TA12 answers
  same_record : (x : List ℕ) → length x ≡ 10 → record_with (schedule ks) rm km x ≡ class_record ks rm km x
  unfolding record_with record_from class_record ta12_call bl1
  same_record x l = rw (eq-eqb _ _ h, eq-eqb _ _ l, ← m)

  pub same_records : (n : ℕ) → each n challenge_size (record_with (schedule ks) rm km) xs ≡ each n challenge_size (class_record ks rm km) xs
  same_records n =
      each_same n challenge_size challenge_size (record_with (schedule ks) rm km) (class_record ks rm km) xs xs
      (λ i k. same_record (record_at challenge_size xs i) refl)

  -- of the challenges as the call finds them, in whole chunks
  pub same_chunks : {cs : List (List ℕ)} → cs ≡ first_chunks challenge_size (length xs / challenge_size) xs → length cs ≡ length xs / challenge_size
      → joined (length cs) (λ i. record_with (schedule ks) rm km (lane cs i)) ≡ each (length xs / challenge_size) challenge_size (class_record ks rm km) xs
  same_chunks {cs} e l =
      joined_same (length cs) (λ i. record_with (schedule ks) rm km (lane cs i)) (λ i. record_with (schedule ks) rm km (record_at challenge_size xs i))
      (λ i k. ap (record_with (schedule ks) rm km) (chunk_at challenge_size xs e l i k))
      ∙ ap (λ (n : ℕ). each n challenge_size (record_with (schedule ks) rm km) xs) l
      ∙ same_records (length xs / challenge_size)

-- ---- the ways in which the call returns: its tests are the key's length, those of the lengths, and those of the masks

module _ (ks xs : List ℕ) (rm km : ℕ) (out : List ℕ) where
  abbrev lengths : List (Bool × ℕ)
  lengths = list_tests challenge_size authentication_size (length xs) (length out)

  abbrev masks : List (Bool × ℕ)
  masks = mask_tests rm km

  abbrev tests : List (Bool × ℕ)
  tests = (has_length 16 ks, wrong_length) ∷ lengths ++ masks

  abbrev n : ℕ
  n = length xs / challenge_size

  tests_refused : (refusal : Refusal) → refusal_number refusal ≡ first tests → (refused (refusal_number refusal) 0, out) ≡ ta12_class_call ks xs rm km out
  unfolding ta12_class_call
  tests_refused refusal e = call_refused tests n (λ i. 0) authentication_size (each n challenge_size (class_record ks rm km) xs) out refusal e

  pub key_refused : has_length 16 ks ≡ false → (refused wrong_length 0, out) ≡ ta12_class_call ks xs rm km out
  key_refused h = tests_refused WrongLength (rw h refl)

  module _ (h : has_length 16 ks ≡ true) where
    pub lengths_refused : (refusal : Refusal) → refusal_number refusal ≡ first lengths → (refused (refusal_number refusal) 0, out) ≡ ta12_class_call ks xs rm km out
    lengths_refused refusal e = tests_refused refusal (rw (h, first_append lengths masks refl, ← e, not_zero refusal) refl)

    module _ (z : 0 ≡ first lengths) where
      masks_last : {mask : ℕ} → mask ≡ first masks → mask ≡ first tests
      masks_last m = rw (h, first_append lengths masks refl, ← z) m

      pub masks_refused : (refusal : Refusal) → refusal_number refusal ≡ first masks → (refused (refusal_number refusal) 0, out) ≡ ta12_class_call ks xs rm km out
      masks_refused refusal e = tests_refused refusal (masks_last e)

      pub all_written : 0 ≡ first masks → {key keys exit : List ℕ} {r k count : ℕ} {cs : List (List ℕ)} → key ≡ ks → keys ≡ schedule key → r ≡ rm → k ≡ km
          → count ≡ n → cs ≡ first_chunks challenge_size n xs → length cs ≡ n
          → exit ≡ joined (length cs) (λ i. record_with keys r k (lane cs i)) ++ drop (authentication_size * length cs) out
          → (record { refusal = 0; index = count; written = authentication_size * count }, exit) ≡ ta12_class_call ks xs rm km out
      unfolding ta12_class_call
      all_written m eq es er ek en ec l e =
          rw (e, es, eq, er, ek, en, same_chunks ks xs rm km (eqb-true _ _ h) m ec l, l)
          (call_done tests n (λ i. 0) authentication_size (each n challenge_size (class_record ks rm km) xs) out
          (rw (h, first_append lengths masks refl, ← z) m) (λ j l. refl))
