-- A copy over the front of an output: of a string's end, and of two strings, one after the other.
use Rattle.standard.proofs.Prelude.{◌≡◌, refl, sym, ap, ap₂, ◌∙◌, List, [], ◌∷◌, ◌++◌, append-nil, ℕ, zero, suc, ◌+◌, ◌-◌, ◌≤◌, ◌<◌}
use Rattle.standard.proofs.Prelude.{zero-add, arith, length, take, drop, length-append, length-drop, drop_of_length-le, take_all, take_at, drop_at}
use lib.ListN.{get_or-eq_default, replicate, length-replicate}
use Rattle.std.proofs.lemmas.List.{drop-replicate}
use lib.Seq.{get_or-drop, get_or-append-add}
use borrow.Rule.Slice.PartMut.{mid_of, put_mid}
use Rattle.std.specs.Array.{IsFirstChunk}
use Rattle.standard.proofs.BytesLaws.{length_table, table_same, table_add, part_left, part_whole, part_lent, spelled}
use Rattle.standard.specs.Bytes.{◌!◌, table, part, zeros}

-- what `copy` makes of `out`
abbrev pub over : List ℕ → List ℕ → List ℕ
over s out = take (length out) s ++ drop (length s) out

pub zeros_made : (n : ℕ) → replicate n 0 ≡ zeros n
zeros_made zero = refl
zeros_made (suc n) = ap (◌∷◌ 0) (zeros_made n)

-- over zeros: the string as far as it goes, then zeros
pub over_zeros : (n : ℕ) (s : List ℕ) → take n s ++ drop (length s) (zeros n) ≡ table n (λ i. s ! i)
over_zeros zero s = drop_of_length-le [] {i = length s} (omega arith)
over_zeros (suc n) [] = refl
over_zeros (suc n) (x ∷ s) = ap (◌∷◌ x) (over_zeros n s)

over_made : (n : ℕ) (s : List ℕ) → over s (replicate n 0) ≡ part 0 n s
over_made n s =
    rw zeros_made
    (rw length_table (over_zeros n s ∙ table_same n (λ i. s ! i) (λ i. s ! (0 + i)) (λ i h. ap (◌!◌ s) (sym (zero-add i)))))

-- from index `from` on, over zeros: what is lent of the string, and its part
pub read_zeros : (from n : ℕ) (s : List ℕ) → over (take (length s - from) (drop from s)) (replicate n 0) ≡ part from n s
read_zeros from n s =
    rw (take_all (length s - from) (drop from s) (omega (arith, length-drop from s)))
    (over_made n (drop from s) ∙ table_same n (λ i. drop from s ! (0 + i)) (λ i. s ! (from + i)) (λ i h. ap (◌!◌ (drop from s)) (zero-add i) ∙ get_or-drop from s i 0))

-- and of a string that has so many bytes there the first of them
pub read_whole : (from n : ℕ) (s w : List ℕ) → from < length s → IsFirstChunk (take (length s - from) (drop from s)) w n → w ≡ part from n s
read_whole from n s w h c =
    let all : take (length s - from) (drop from s) ≡ drop from s = take_all (length s - from) (drop from s) (omega (arith, length-drop from s)) in
    c.same ∙ ap (take n) all ∙ part_lent from n s (omega (arith, h, c.enough, ap length all, length-drop from s))

-- past the end
pub zeros_past : (n from : ℕ) (s : List ℕ) → length s ≤ from → replicate n 0 ≡ part from n s
zeros_past n from s h =
    zeros_made n ∙ table_same n (λ i. 0) (λ i. s ! (from + i)) (λ i k. sym (get_or-eq_default s 0 {n = from + i} (omega arith)))

-- ---- two copied one after the other, over zeros

-- what stands where the first ends
seam : (m k : ℕ) (a b : List ℕ) → length a ≡ m → table k (λ i. (a ++ b) ! (0 + (m + i))) ≡ part 0 k b
seam m k a b ha =
    simp zero-add
    (table_same k (λ i. (a ++ b) ! (m + i)) (λ i. b ! i) (λ i h. ap (λ (z : ℕ). (a ++ b) ! (z + i)) (sym ha) ∙ get_or-append-add a b i 0))

first_and_part : (m k : ℕ) (a b : List ℕ) → length a ≡ m → part 0 (m + k) (a ++ b) ≡ a ++ part 0 k b
first_and_part m k a b ha =
    table_add m k (λ i. (a ++ b) ! (0 + i)) ∙ ap₂ ◌++◌ (part_left 0 m a b (omega arith) ∙ part_whole m a ha) (seam m k a b ha)

module _ (m l : ℕ) (a b : List ℕ) (ha : length a ≡ m) where
  -- where the first leaves no room, it stands there alone
  pub first_fills : l ≤ m → over a (replicate l 0) ≡ part 0 l (a ++ b)
  first_fills h = over_made l a ∙ sym (part_left 0 l a b (omega arith))

  front_made : m < l → over a (replicate l 0) ≡ a ++ replicate (l - m) 0
  front_made h = rw length-replicate (ap₂ ◌++◌ (take_all l a (omega arith)) (ap (λ (k : ℕ). drop k (replicate l 0)) ha ∙ drop-replicate m l 0))

  pub both_copied : m < l → (r₁ r₂ : List ℕ) → r₁ ≡ over a (replicate l 0) → r₂ ≡ over b (mid_of m (length r₁ - m) r₁)
      → put_mid m (length r₁ - m) r₁ r₂ ≡ part 0 l (a ++ b)
  both_copied h r₁ r₂ e₁ e₂ =
      let z : List ℕ = replicate (l - m) 0 in
      let f₁ : r₁ ≡ a ++ z = e₁ ∙ front_made h in
      let k : length z ≡ l - m = length-replicate (l - m) 0 in
      let n : length r₁ - m ≡ l - m = omega (arith, ap length f₁ ∙ length-append a z, k) in
      let f₂ : r₂ ≡ part 0 (l - m) b = e₂ ∙ (rw (n, f₁, drop_at a z m ha, take_all (l - m) z (omega (arith, k))) (over_made (l - m) b)) in
      let past : drop (l - m) z ≡ [] = drop_of_length-le z {i = l - m} (omega (arith, k)) in
      rw (n, f₁, f₂, take_at a z m ha, drop_at a z m ha, past, append-nil)
      (sym (first_and_part m (l - m) a b ha) ∙ ap (λ (j : ℕ). part 0 j (a ++ b)) (omega arith))

-- both whole, where there is room for both and no more
pub both_whole : (m n l : ℕ) (a b : List ℕ) → length a ≡ m → length b ≡ n → m + n ≡ l → part 0 l (a ++ b) ≡ part 0 m a ++ part 0 n b
both_whole m n l a b ha hb h =
    ap (λ (j : ℕ). part 0 j (a ++ b)) (sym h) ∙ first_and_part m n a b ha ∙ ap (λ (z : List ℕ). z ++ part 0 n b) (sym (part_whole m a ha))

-- ---- two copied one after the other, over whatever stood there

module _ (m : ℕ) (a b out : List ℕ) (ha : length a ≡ m) (h : length out ≡ m + length b) where
  pub over_front : over a out ≡ a ++ drop m out
  over_front = ap₂ ◌++◌ (take_all (length out) a (omega arith)) (ap (λ (k : ℕ). drop k out) ha)

  rest : length (drop m out) ≡ length b
  rest = rw (length-drop, h) (omega arith)

  over_rest : over b (drop m out) ≡ b
  over_rest =
      rw (rest, drop_of_length-le (drop m out) {i = length b} (omega (arith, rest)), append-nil) (take_all (length b) b (omega arith))

  pub two_copied : (n : ℕ) (r₁ r₂ : List ℕ) → n ≡ length b → r₁ ≡ over a out → r₂ ≡ over b (mid_of m n r₁) → put_mid m n r₁ r₂ ≡ a ++ b
  two_copied n r₁ r₂ k e₁ e₂ =
      let f₁ : r₁ ≡ a ++ drop m out = e₁ ∙ over_front in
      let f₂ : r₂ ≡ b =
      (rw (f₁, drop_at a (drop m out) m ha, take_all n (drop m out) (omega (arith, rest))) at e₂) ∙ over_rest in
      rw (f₁, f₂, take_at a (drop m out) m ha, drop_at a (drop m out) m ha, drop_of_length-le (drop m out) {i = n} (omega (arith, rest)), append-nil)

  -- the same, where the second takes all that is left
  pub both_copied_over : (r₁ r₂ : List ℕ) → r₁ ≡ over a out → r₂ ≡ over b (mid_of m (length r₁ - m) r₁)
      → put_mid m (length r₁ - m) r₁ r₂ ≡ part 0 m a ++ part 0 (length out - m) b
  both_copied_over r₁ r₂ e₁ e₂ =
      let l : length r₁ ≡ length a + length (drop m out) = ap length (e₁ ∙ over_front) ∙ length-append a (drop m out) in
      simp zero-add
      (two_copied (length r₁ - m) r₁ r₂ (omega (arith, rest)) e₁ e₂
      ∙ ap₂ ◌++◌ (sym (spelled m a ha)) (sym (spelled (length out - m) b (omega arith))))
