-- The steps of the two loops over a list, for records of any size: a scan that looks for a fault, and a pass that writes.
use Rattle.standard.proofs.Prelude.{◌≡◌, refl, sym, ap, ◌∙◌, subst, ◌⊎◌, inl, inr, List, [], ◌++◌, append-nil, ℕ, zero, suc, ◌+◌, ◌-◌, ◌*◌, ◌/◌, ◌≤◌, ◌<◌}
use Rattle.standard.proofs.Prelude.{add-sub_cancel_left, mul-zero, mul-suc, mul-le-mul_left, le_of_suc-le-suc, eq-or-lt_of_le, add-zero, add-one, arith, length}
use Rattle.standard.proofs.Prelude.{take, drop, length-append, length-take, length-drop, drop_of_length-le, take_all, take_at, drop_at, drop-drop}
use mathlib.Core.List.{append_assoc}
use native.Mathlib.Nat.{div-add-mod}
use lib.ListN.{get_or}
use Rattle.std.proofs.lemmas.List.{get_or-drop}
use Rattle.std.specs.Simd.{first_chunks}
use Rattle.standard.proofs.BookLaws.{joined_length, joined_at}
use Rattle.standard.proofs.BytesLaws.{lent_part, part_left, part_lent, table_same}
use Rattle.standard.specs.Bytes.{◌!◌, part}
use Rattle.standard.specs.Lists.{record_at, joined}
use Rattle.lists.specs.Walks.{Clean, replace_at, replace_from}

-- the end of record i of n
pub ends : (w i n : ℕ) → i < n → w * i + w ≤ w * n
ends w i n h = subst (λ (k : ℕ). k ≤ w * n) (mul-suc w i) (mul-le-mul_left w h)

-- it lies within what has room for n, and so do the first i records
pub end_fits : (w i n most : ℕ) → i < n → w * n ≤ most → w * i + w ≤ most
end_fits w i n most h room = omega (arith, room, ends w i n h)

pub first_fit : (w i n most : ℕ) → i ≤ n → w * n ≤ most → w * i ≤ most
first_fit w i n most h room = omega (arith, room, mul-le-mul_left w h)

-- the part that a turn lends, from w * i to w * i + w, is record i
pub lent : (w i : ℕ) (xs : List ℕ) → w * i + w ≤ length xs → take (w * i + w - w * i) (drop (w * i) xs) ≡ record_at w xs i
lent w i xs h = lent_part (w * i) w xs h

-- and has w bytes
pub lent_length : (w i : ℕ) (xs : List ℕ) → w * i + w ≤ length xs → length (take (w * i + w - w * i) (drop (w * i) xs)) ≡ w
lent_length w i xs h = simp (length-take, length-drop) (omega (arith, h))

-- chunk i of a string's whole chunks of w bytes is record i
pub chunk_at : (w : ℕ) (xs : List ℕ) {chunks : List (List ℕ)} → chunks ≡ first_chunks w (length xs / w) xs → length chunks ≡ length xs / w
    → (i : ℕ) → i < length chunks → get_or chunks i [] ≡ record_at w xs i
chunk_at w xs e l i h =
    ap (λ (c : List (List ℕ)). get_or c i []) e ∙ go (length xs / w) xs i (omega (arith, l, h)) (omega (arith, div-add-mod (length xs) w))
  where
    go : (n : ℕ) (ys : List ℕ) (i : ℕ) → i < n → w * n ≤ length ys → get_or (first_chunks w n ys) i [] ≡ record_at w ys i
    go zero ys i k m = absurd (omega arith)
    go (suc n) ys zero k m =
        part_lent 0 w ys (omega (arith, m, mul-suc w n)) ∙ ap (λ (a : ℕ). part a w ys) (sym (mul-zero w))
    go (suc n) ys (suc i) k m =
        go n (drop w ys) i (le_of_suc-le-suc k) (omega (arith, m, mul-suc w n, length-drop w ys))
        ∙ table_same w (λ j. drop w ys ! (w * i + j)) (λ j. ys ! (w * suc i + j))
        (λ j q. get_or-drop w ys (w * i + j) 0 ∙ ap (◌!◌ ys) (omega (arith, mul-suc w i)))

-- a part of v bytes is overwritten whole by a string of as many
overwritten : (v : ℕ) (own y exit : List ℕ) → length own ≡ v → length y ≡ v → exit ≡ take (length own) y ++ drop v own → exit ≡ y
overwritten v own y exit h l e = e ∙ rw (drop_of_length-le own {i = v} (omega (arith, h)), append-nil) (take_all (length own) y (omega (arith, h, l)))

-- ---- the scan

pub clean_none : (g : ℕ → ℕ) → Clean g 0
clean_none g j h = omega arith

pub clean_more : (g : ℕ → ℕ) (i : ℕ) → Clean g i → g i ≡ 0 → Clean g (i + 1)
clean_more g i h e j k = go (eq-or-lt_of_le (le_of_suc-le-suc (subst (λ (n : ℕ). j < n) (add-one i) k)))
  where
    go : (j ≡ i) ⊎ (j < i) → g j ≡ 0
    go (inl q) = ap g q ∙ e
    go (inr q) = h j q

-- ---- the pass that writes: g 0, g 1, .. , v bytes each

-- the first i are written, and after them the output is as it was
pub record PrefixWritten (v : ℕ) (g : ℕ → List ℕ) (out₀ : List ℕ) (i : ℕ) (out : List ℕ) : Type 0 where
  pub bytes : out ≡ joined i g ++ drop (v * i) out₀
  pub kept : length out ≡ length out₀

module _ (v : ℕ) (g : ℕ → List ℕ) (long : (i : ℕ) → length (g i) ≡ v) (out₀ : List ℕ) where
  length_joined : (n : ℕ) → length (joined n g) ≡ v * n
  length_joined n = joined_length v g n (λ i h. long i)

  pub prefix_none : PrefixWritten v g out₀ 0 out₀
  prefix_none = record { bytes = rw mul-zero; kept = refl }

  module _ (i : ℕ) (out : List ℕ) (h : PrefixWritten v g out₀ i out) where
    -- part j of what is written
    pub prefix_at : (j : ℕ) → j < i → record_at v out j ≡ g j
    prefix_at j k =
        rw h.bytes
        (part_left (v * j) v (joined i g) (drop (v * i) out₀) (omega (arith, length_joined i, ends v j i k))
        ∙ joined_at v g i (λ l m. long l) j k)

  module _ (i : ℕ) (out : List ℕ) (h : PrefixWritten v g out₀ i out) (room : v * i + v ≤ length out₀) where
    -- the output's own part for string i
    abbrev own : List ℕ
    own = take (v * i + v - v * i) (drop (v * i) out)

    pub own_length : length own ≡ v
    own_length = lent_length v i out (omega (arith, room, h.kept))

    -- string i in its own part
    pub prefix_next : (exit : List ℕ) → exit ≡ g i
        → PrefixWritten v g out₀ (i + 1) (take (v * i) out ++ (exit ++ drop (v * i + v - v * i) (drop (v * i) out)))
    prefix_next exit made = record { bytes = bytes; kept = ap length bytes ∙ lengths }
      where
        next : v * i + v ≡ v * (i + 1)
        next = rw add-one (sym (mul-suc v i))

        bytes : take (v * i) out ++ (exit ++ drop (v * i + v - v * i) (drop (v * i) out)) ≡ joined (i + 1) g ++ drop (v * (i + 1)) out₀
        bytes =
            rw (
              h.bytes,
              take_at (joined i g) (drop (v * i) out₀) (v * i) (length_joined i),
              drop_at (joined i g) (drop (v * i) out₀) (v * i) (length_joined i),
              add-sub_cancel_left (v * i) v,
              drop-drop v (v * i) out₀,
              next,
              made,
              ← append_assoc,
            )
            (ap (λ (n : ℕ). joined n g ++ drop (v * (i + 1)) out₀) (sym (add-one i)))

        lengths : length (joined (i + 1) g ++ drop (v * (i + 1)) out₀) ≡ length out₀
        lengths = rw (length-append, length_joined (i + 1), length-drop) (omega (arith, room, next))

    -- string i put into its own part
    pub prefix_more : (y exit : List ℕ) → y ≡ g i → exit ≡ take (length own) y ++ drop v own
        → PrefixWritten v g out₀ (i + 1) (take (v * i) out ++ (exit ++ drop (v * i + v - v * i) (drop (v * i) out)))
    prefix_more y exit q e = prefix_next exit (overwritten v own y exit own_length (ap length q ∙ long i) e ∙ q)

-- ---- strings put at their places

-- the part from v * i on, lent and made y, puts y at place i
pub replaced_by : (v i : ℕ) (out y exit : List ℕ) → exit ≡ y → take (v * i) out ++ (exit ++ drop (v * i + v - v * i) (drop (v * i) out)) ≡ replace_at v i y out
replaced_by v i out y exit e = rw (e, add-sub_cancel_left (v * i) v, drop-drop v (v * i) out)

-- and so if y is copied over it
pub replaced_lent : (v i : ℕ) (out y exit : List ℕ) → v * i + v ≤ length out → length y ≡ v
    → exit ≡ take (length (take (v * i + v - v * i) (drop (v * i) out))) y ++ drop v (take (v * i + v - v * i) (drop (v * i) out))
    → take (v * i) out ++ (exit ++ drop (v * i + v - v * i) (drop (v * i) out)) ≡ replace_at v i y out
replaced_lent v i out y exit room l e =
    replaced_by v i out y exit (overwritten v (take (v * i + v - v * i) (drop (v * i) out)) y exit (lent_length v i out room) l e)

-- n strings from place i on stand in an output that was out₀
pub record ReplacedFrom (v i : ℕ) (g : ℕ → List ℕ) (out₀ : List ℕ) (n : ℕ) (out : List ℕ) : Type 0 where
  pub bytes : out ≡ replace_from v i g n out₀
  pub kept : length out ≡ length out₀

pub replaced_none : (v i : ℕ) (g : ℕ → List ℕ) (out₀ : List ℕ) → ReplacedFrom v i g out₀ 0 out₀
replaced_none v i g out₀ = record { bytes = refl; kept = refl }

pub replaced_more : (v i n : ℕ) (g : ℕ → List ℕ) (out₀ : List ℕ) {out next : List ℕ} → length (g n) ≡ v → v * (i + n) + v ≤ length out₀
    → ReplacedFrom v i g out₀ n out → next ≡ replace_at v (i + n) (g n) out → ReplacedFrom v i g out₀ (n + 1) next
replaced_more v i n g out₀ {out} long room h e = record {
  bytes = rw (add-one n, e, h.bytes);
  kept = ap length e ∙ simp (length-append, length-take, length-drop) (omega (arith, long, room, h.kept));
}

-- string i at its place; then n strings from i on at theirs
module _ (v : ℕ) (g : ℕ → List ℕ) (long : (i : ℕ) → length (g i) ≡ v) (out₀ : List ℕ) where
  pub prefix_replaced : (i j : ℕ) → j ≡ i + 1 → (out : List ℕ) → PrefixWritten v g out₀ i out → v * i + v ≤ length out₀
      → PrefixWritten v g out₀ j (replace_at v i (g i) out)
  prefix_replaced i j e out h room =
      rw e (rw (add-sub_cancel_left (v * i) v, drop-drop v (v * i) out) at (prefix_next v g long out₀ i out h room (g i) refl))

  pub prefix_from : (i n : ℕ) → v * (i + n) ≤ length out₀ → (out : List ℕ) → PrefixWritten v g out₀ i out
      → PrefixWritten v g out₀ (i + n) (replace_from v i (λ j. g (i + j)) n out)
  prefix_from i zero room out h = rw add-zero h
  prefix_from i (suc n) room out h =
      let before = prefix_from i n (first_fit v (i + n) (i + suc n) _ (omega arith) room) out h in
      prefix_replaced (i + n) (i + suc n) (omega arith) _ before (end_fits v (i + n) (i + suc n) _ (omega arith) room)

-- ---- where f makes the records of v bytes from records of w

abbrev pub Wrote : (w v : ℕ) → (List ℕ → List ℕ) → (xs out₀ : List ℕ) → ℕ → List ℕ → Type 0
Wrote w v f xs out₀ i out = PrefixWritten v (λ j. f (record_at w xs j)) out₀ i out

module _ (w v : ℕ) (f : List ℕ → List ℕ) (long : (x : List ℕ) → length (f x) ≡ v) (xs out₀ : List ℕ) where
  pub wrote_none : Wrote w v f xs out₀ 0 out₀
  wrote_none = prefix_none v (λ j. f (record_at w xs j)) (λ j. long (record_at w xs j)) out₀

  -- record i at its place; then n of them
  pub wrote_one : (i : ℕ) → v * i + v ≤ length out₀ → (out : List ℕ) → Wrote w v f xs out₀ i out
      → {exit : List ℕ} → exit ≡ replace_at v i (f (record_at w xs i)) out → Wrote w v f xs out₀ (i + 1) exit
  wrote_one i room out k e =
      rw e (prefix_replaced v (λ j. f (record_at w xs j)) (λ j. long (record_at w xs j)) out₀ i (i + 1) refl out k room)

  pub wrote_from : (i n : ℕ) → v * (i + n) ≤ length out₀ → (out : List ℕ) → Wrote w v f xs out₀ i out
      → {exit : List ℕ} → exit ≡ replace_from v i (λ j. f (record_at w xs (i + j))) n out → Wrote w v f xs out₀ (i + n) exit
  wrote_from i n room out k e = rw e (prefix_from v (λ j. f (record_at w xs j)) (λ j. long (record_at w xs j)) out₀ i n room out k)
