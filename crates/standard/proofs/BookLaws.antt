-- Books: what is inverse on records is inverse on books of them, for any record sizes.
use Rattle.standard.proofs.Prelude.{◌≡◌, refl, sym, ap, ap₂, ◌∙◌, Bool, true, ◌⊎◌, inl, inr, List, ◌++◌, append-nil, ℕ, zero, suc, ◌+◌, ◌*◌}
use Rattle.standard.proofs.Prelude.{◌/◌, ◌≤◌, ◌<◌, add-zero, add-suc, mul-zero, mul-suc, mul-le-mul_left, mul-div_cancel_left}
use Rattle.standard.proofs.Prelude.{le_of_suc-le-suc, eq-or-lt_of_le, arith, length, length-append}
use mathlib.Core.List.{append_assoc}
use Rattle.standard.specs.Bytes.{◌!◌, part, table, Bytes}
use Rattle.standard.proofs.BytesLaws.{Passed}
use Rattle.standard.specs.Lists.{record_at, joined, each}
use Rattle.standard.specs.Sizes.{most_records}
use Rattle.standard.proofs.InverseLaws.{Inverse, reversed}
use Rattle.standard.proofs.BytesLaws.{spelled, bytes_nil, bytes_append, bytes_part, table_add, part_left, part_seam}

-- at most 1,024 whole records of w bytes, each of which passes
pub record Book (w : ℕ) (ok : List ℕ → Bool) (xs : List ℕ) : Type 0 where
  pub bytes : Bytes (w * (length xs / w)) xs
  pub few : length xs / w ≤ most_records
  pub pass : (i : ℕ) → i < length xs / w → ok (record_at w xs i) ≡ true

-- ---- strings one after the other

pub joined_same : (n : ℕ) (g h : ℕ → List ℕ) → ((i : ℕ) → i < n → g i ≡ h i) → joined n g ≡ joined n h
joined_same zero g h e = refl
joined_same (suc n) g h e = ap₂ ◌++◌ (joined_same n g h (λ i k. e i (omega arith))) (e n (omega arith))

pub joined_add : (m n : ℕ) (g : ℕ → List ℕ) → joined (m + n) g ≡ joined m g ++ joined n (λ j. g (m + j))
joined_add m zero g = rw add-zero (sym (append-nil (joined m g)))
joined_add m (suc n) g =
    rw add-suc (ap (λ (r : List ℕ). r ++ g (m + n)) (joined_add m n g) ∙ append_assoc (joined m g) (joined n (λ j. g (m + j))) (g (m + n)))

-- of v bytes each
module _ (v : ℕ) (g : ℕ → List ℕ) where
  pub joined_bytes : (n : ℕ) → ((i : ℕ) → i < n → Bytes v (g i)) → Bytes (v * n) (joined n g)
  joined_bytes zero h = rw mul-zero bytes_nil
  joined_bytes (suc n) h = rw mul-suc (bytes_append (joined_bytes n (λ i k. h i (omega arith))) (h n (omega arith)))

  pub joined_length : (n : ℕ) → ((i : ℕ) → i < n → length (g i) ≡ v) → length (joined n g) ≡ v * n
  joined_length zero h = sym (mul-zero v)
  joined_length (suc n) h =
      length-append (joined n g) (g n) ∙ ap₂ ◌+◌ (joined_length n (λ i k. h i (omega arith))) (h n (omega arith)) ∙ sym (mul-suc v n)

  -- string i of them
  pub joined_at : (n : ℕ) → ((i : ℕ) → i < n → length (g i) ≡ v) → (i : ℕ) → i < n → part (v * i) v (joined n g) ≡ g i
  joined_at zero h i k = absurd (omega arith)
  joined_at (suc n) h i k = go (eq-or-lt_of_le (le_of_suc-le-suc k)) (joined_at n h' i)
    where
      h' : (j : ℕ) → j < n → length (g j) ≡ v
      h' j l = h j (omega arith)

      go : (i ≡ n) ⊎ (i < n) → (i < n → part (v * i) v (joined n g) ≡ g i) → part (v * i) v (joined n g ++ g n) ≡ g i
      go (inl e) ih = rw e (part_seam (v * n) v (joined n g) (g n) (joined_length n h') (h n (omega arith)))
      go (inr l) ih =
          part_left (v * i) v (joined n g) (g n) (omega (arith, joined_length n h', mul-le-mul_left v l, mul-suc v i)) ∙ ih l

  -- and with something after them
  pub joined_front : (n : ℕ) → ((i : ℕ) → i < n → length (g i) ≡ v) → (rest : List ℕ) (i : ℕ) → i < n → part (v * i) v (joined n g ++ rest) ≡ g i
  joined_front n h rest i k =
      part_left (v * i) v (joined n g) rest (omega (arith, joined_length n h, mul-le-mul_left v k, mul-suc v i)) ∙ joined_at n h i k

-- ---- a book, record by record

pub each_same : (n w v : ℕ) (f g : List ℕ → List ℕ) (xs ys : List ℕ)
    → ((i : ℕ) → i < n → f (part (w * i) w xs) ≡ g (part (v * i) v ys)) → each n w f xs ≡ each n v g ys
each_same n w v f g xs ys h = joined_same n (λ i. f (record_at w xs i)) (λ i. g (record_at v ys i)) h

each_table : (n w : ℕ) (xs : List ℕ) → each n w (λ x. x) xs ≡ table (w * n) (λ i. xs ! i)
each_table zero w xs = rw mul-zero
each_table (suc n) w xs =
    ap (λ (r : List ℕ). r ++ part (w * n) w xs) (each_table n w xs)
    ∙ sym (table_add (w * n) w (λ i. xs ! i)) ∙ ap (λ (k : ℕ). table k (λ i. xs ! i)) (sym (mul-suc w n))

-- records of v bytes each
pub length_each : (w v : ℕ) (f : List ℕ → List ℕ) → ((x : List ℕ) → length (f x) ≡ v) → (xs : List ℕ) (n : ℕ) → length (each n w f xs) ≡ v * n
length_each w v f long xs n = joined_length v (λ i. f (record_at w xs i)) n (λ i h. long (record_at w xs i))

-- the records of a book, as they are
pub each_self : (n w : ℕ) (xs : List ℕ) → length xs ≡ w * n → each n w (λ x. x) xs ≡ xs
each_self n w xs e = each_table n w xs ∙ spelled (w * n) xs e

module _ (w v : ℕ) (f : List ℕ → List ℕ) (xs : List ℕ) where
  each_bytes : (n : ℕ) → ((i : ℕ) → i < n → Bytes v (f (part (w * i) w xs))) → Bytes (v * n) (each n w f xs)
  each_bytes n h = joined_bytes v (λ i. f (record_at w xs i)) n h

  -- record i of what was made is made of record i
  pub each_at : (n : ℕ) → ((i : ℕ) → i < n → Bytes v (f (part (w * i) w xs)))
      → (i : ℕ) → i < n → part (v * i) v (each n w f xs) ≡ f (part (w * i) w xs)
  each_at n h i k = joined_at v (λ j. f (record_at w xs j)) n (λ j l. (h j l).len) i k

-- ---- what is inverse on records of w and v bytes is inverse on books of them

abbrev mapped : ℕ → (List ℕ → List ℕ) → List ℕ → List ℕ
mapped w f xs = each (length xs / w) w f xs

module _ {w v : ℕ} (hw : zero < w) (hv : zero < v) {ok ok' : List ℕ → Bool} {f g : List ℕ → List ℕ} (m : Inverse (Passed w ok) (Passed v ok') f g)
    (p : List ℕ) (b : Book w ok p) where
  n : ℕ
  n = length p / w

  passes : (i : ℕ) → i < n → Passed w ok (part (w * i) w p)
  unfolding n
  passes i h = record { bytes = bytes_part (w * i) w b.bytes; passed = b.pass i h }

  made : (i : ℕ) → i < n → Bytes v (f (part (w * i) w p))
  made i h = (m.to (part (w * i) w p) (passes i h)).bytes

  bytes_mapped : Bytes (v * n) (mapped w f p)
  unfolding n
  bytes_mapped = each_bytes w v f p n made

  -- as many records
  count : length (mapped w f p) / v ≡ n
  count = ap (λ (l : ℕ). l / v) bytes_mapped.len ∙ mul-div_cancel_left n hv

  book_to : Book v ok' (mapped w f p)
  unfolding n
  book_to = record {
    bytes = rw count bytes_mapped;
    few = rw count b.few;
    pass = λ i h.
        let k : i < n = rw count at h in
        rw (each_at w v f p n made i k) (m.to (part (w * i) w p) (passes i k)).passed;
  }

  book_back : mapped v g (mapped w f p) ≡ p
  unfolding n
  book_back =
      rw count
      (each_same n v w g (λ x. x) (mapped w f p) p
      (λ i h. ap g (each_at w v f p n made i h) ∙ m.back (part (w * i) w p) (passes i h))
      ∙ each_self n w p b.bytes.len)

pub books : {w v : ℕ} → zero < w → zero < v → {ok ok' : List ℕ → Bool} {f g : List ℕ → List ℕ}
    → Inverse (Passed w ok) (Passed v ok') f g → Inverse (Book w ok) (Book v ok') (mapped w f) (mapped v g)
books hw hv m = record {
  to = book_to hw hv m;
  from = book_to hv hw (reversed m);
  back = book_back hw hv m;
  forth = book_back hv hw (reversed m);
}

pub mapped_length : {w v : ℕ} → zero < w → zero < v → {ok ok' : List ℕ → Bool} {f g : List ℕ → List ℕ} → Inverse (Passed w ok) (Passed v ok') f g
    → (p : List ℕ) → Book w ok p → length (mapped w f p) ≡ v * (length p / w)
unfolding n
mapped_length hw hv m p b = (bytes_mapped hw hv m p b).len
