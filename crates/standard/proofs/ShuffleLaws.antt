-- Shuffled and joined books (02, 14): what is true of every call that treats each record by itself.
use Rattle.standard.proofs.Prelude.{◌≡◌, refl, sym, ap, ap₂, ◌∙◌, Bool, true, false, List, ◌++◌, ℕ, ◌+◌, ◌-◌, ◌*◌, ◌/◌, ◌≤◌, ◌<◌, mul-suc}
use Rattle.standard.proofs.Prelude.{mul-le-mul_left, mul-div_cancel_left, arith, eqb, ltb, length, drop, length-append, eq-eqb, lt-leb}
use Rattle.standard.proofs.Prelude.{ltb-true, ltb-false}
use native.Mathlib.Nat.{mul-add}
use lib.Seq.{get_or-append-add}
use Rattle.standard.specs.Books.{seal_record, open_record, WellFormed, sealed_form, Conversion, sealing, opening, book_call, seal_book, open_book}
use Rattle.standard.specs.Bytes.{◌!◌, Bytes}
use Rattle.standard.specs.Lists.{record_at, each, answer, records_call}
use Rattle.standard.specs.Refusals.{book_too_long}
use Rattle.standard.specs.RunsFacts.{accepted_runs}
use Rattle.standard.specs.ShufflesFacts.{Reordering, reordered, Shuffled, BooksJoined, NoReordering, TooManyJoined}
use Rattle.standard.specs.Sizes.{ring_size, plain_size, sealed_size, most_records}
use Rattle.standard.proofs.AnswerLaws.{call_accepts}
use Rattle.standard.proofs.BookLaws.{Book, joined_same, joined_add, joined_bytes, joined_at, each_at, each_self, mapped_length}
use Rattle.standard.proofs.BytesLaws.{bytes_append, bytes_part, part_left, table_same}
use Rattle.standard.proofs.Demand3Laws.{book, well_formed, book_law}
use Rattle.standard.proofs.RecordLaws.{record_law}
use Rattle.standard.proofs.RunLaws.{inspection_clear}

-- ---- n records of w bytes, each of which passes; a book, with its count by name

record Records (w n : ℕ) (ok : List ℕ → Bool) (xs : List ℕ) : Type 0 where
  bytes : Bytes (w * n) xs
  few : n ≤ most_records
  pass : (i : ℕ) → i < n → ok (record_at w xs i) ≡ true

module _ {w n : ℕ} {ok : List ℕ → Bool} {xs : List ℕ} where
  count : 0 < w → Records w n ok xs → length xs / w ≡ n
  count hw b = ap (λ (k : ℕ). k / w) b.bytes.len ∙ mul-div_cancel_left n hw

  to_book : 0 < w → Records w n ok xs → Book w ok xs
  to_book hw b =
      let e = count hw b in
      record { bytes = rw e b.bytes; few = rw e b.few; pass = λ i h. b.pass i (rw e at h) }

  of_book : Book w ok xs → length xs / w ≡ n → Records w n ok xs
  of_book b e = record { bytes = rw (← e) b.bytes; few = rw (← e) b.few; pass = λ i h. b.pass i (rw (← e) at h) }

-- ---- in another order

module _ {w n : ℕ} {ok : List ℕ → Bool} {xs : List ℕ} (b : Records w n ok xs) (π : ℕ → ℕ) (within : (i : ℕ) → i < n → π i < n) where
  taken : (i : ℕ) → i < n → Bytes w (record_at w xs (π i))
  taken i h = bytes_part (w * π i) w b.bytes

  reordered_at : (i : ℕ) → i < n → record_at w (reordered n w π xs) i ≡ record_at w xs (π i)
  reordered_at i h = joined_at w (λ j. record_at w xs (π j)) n (λ j l. (taken j l).len) i h

  reorder : Records w n ok (reordered n w π xs)
  reorder = record {
    bytes = joined_bytes w (λ j. record_at w xs (π j)) n taken;
    few = b.few;
    pass = λ i h. rw (reordered_at i h) (b.pass (π i) (within i h));
  }

  -- what is made of each record by itself is reordered alike
  each_reordered : (v : ℕ) (f : List ℕ → List ℕ) → ((i : ℕ) → i < n → Bytes v (f (record_at w xs i)))
      → each n w f (reordered n w π xs) ≡ reordered n v π (each n w f xs)
  each_reordered v f made =
      joined_same n (λ i. f (record_at w (reordered n w π xs) i)) (λ i. record_at v (each n w f xs) (π i))
      (λ i h. ap f (reordered_at i h) ∙ sym (each_at w v f xs n made (π i) (within i h)))

-- back into the first order
undone_by : {w n : ℕ} {ok : List ℕ → Bool} {xs : List ℕ} (b : Records w n ok xs) (π : ℕ → ℕ) (ρ : Reordering n π)
    → reordered n w ρ.inverse (reordered n w π xs) ≡ xs
undone_by {w} {n} {ok} {xs} b π ρ =
    joined_same n (λ i. record_at w (reordered n w π xs) (ρ.inverse i)) (λ i. record_at w xs i)
    (λ i h. reordered_at b π ρ.within (ρ.inverse i) (ρ.within_back i h) ∙ ap (λ (k : ℕ). record_at w xs k) (ρ.forth i h))
    ∙ each_self n w xs b.bytes.len

-- ---- joined

module _ {w m n : ℕ} {ok : List ℕ → Bool} {xs ys : List ℕ} (a : Records w m ok xs) (b : Records w n ok ys) where
  joined_left : (i : ℕ) → i < m → record_at w (xs ++ ys) i ≡ record_at w xs i
  joined_left i h = part_left (w * i) w xs ys (omega (arith, a.bytes.len, mul-le-mul_left w h, mul-suc w i))

  joined_right : (j : ℕ) → record_at w (xs ++ ys) (m + j) ≡ record_at w ys j
  joined_right j = table_same w (λ i. (xs ++ ys) ! (w * (m + j) + i)) (λ i. ys ! (w * j + i)) (λ i h. at i)
    where
      at : (i : ℕ) → (xs ++ ys) ! (w * (m + j) + i) ≡ ys ! (w * j + i)
      at i =
          let e : w * (m + j) + i ≡ length xs + (w * j + i) = omega (arith, mul-add w m j, a.bytes.len) in
          ap (λ (k : ℕ). (xs ++ ys) ! k) e ∙ get_or-append-add xs ys (w * j + i) 0

  join : m + n ≤ most_records → Records w (m + n) ok (xs ++ ys)
  join few = record { bytes = rw mul-add (bytes_append a.bytes b.bytes); few = few; pass = λ i h. go i h (ltb i m) refl }
    where
      go : (i : ℕ) → i < m + n → (t : Bool) → ltb i m ≡ t → ok (record_at w (xs ++ ys) i) ≡ true
      go i h true e = let l = ltb-true i m e in rw (joined_left i l) (a.pass i l)
      go i h false e =
          let l = ltb-false i m e in
          let q : m + (i - m) ≡ i = omega (arith, l) in
          ap (λ (k : ℕ). ok (record_at w (xs ++ ys) k)) (sym q) ∙ ap ok (joined_right (i - m)) ∙ b.pass (i - m) (omega (arith, h, l))

  -- what is made of each record by itself is joined alike
  each_joined : (f : List ℕ → List ℕ) → each (m + n) w f (xs ++ ys) ≡ each m w f xs ++ each n w f ys
  each_joined f =
      joined_add m n (λ i. f (record_at w (xs ++ ys) i))
      ∙ ap₂ ◌++◌
      (joined_same m (λ i. f (record_at w (xs ++ ys) i)) (λ i. f (record_at w xs i)) (λ i h. ap f (joined_left i h)))
      (joined_same n (λ j. f (record_at w (xs ++ ys) (m + j))) (λ j. f (record_at w ys j)) (λ j h. ap f (joined_right j)))

-- ---- a call on such records, where an inspection of one takes c cipher runs

abbrev Good : Conversion → ℕ → List ℕ → Type 0
Good C n xs = Records C.size n (λ x. eqb (C.fault x) 0) xs

called : (C : Conversion) (r : List ℕ) (n c : ℕ) → 0 < C.size → ((x : List ℕ) → C.fault x ≡ 0 → C.inspection x ≡ c) → length r ≡ ring_size
    → (xs : List ℕ) → Good C n xs → (out : List ℕ) → C.output_size * n ≤ length out → (made : List ℕ) → each n C.size C.convert xs ≡ made
    → book_call C r xs out
    ≡ (
      record { refusal = 0; index = n; written = C.output_size * n; runs = accepted_runs (c + 2) n },
      made ++ drop (C.output_size * n) out,
    )
called C r n c hw inspection hr xs b out room made e =
    let k = count hw b in
    rw (k, e) at (call_accepts C r xs out b.bytes.bound c inspection hr (rw k room) (to_book hw b))

-- ---- a well-formed book and its sealed form

module _ (r : List ℕ) (hr : Bytes ring_size r) (p : List ℕ) (w : WellFormed p) where
  abbrev n : ℕ
  n = length p / plain_size

  plain_records : Good (sealing r) n p
  plain_records = of_book (book w) refl

  sealed_records : Good (opening r) n (sealed_form r p)
  unfolding sealed_form
  sealed_records = of_book ((book_law r hr).to p (book w)) sealed_count
    where
      sealed_count : length (each n plain_size (seal_record r) p) / sealed_size ≡ n
      sealed_count =
          ap (λ (k : ℕ). k / sealed_size) (mapped_length (omega arith) (omega arith) (record_law r hr) p (book w)) ∙ mul-div_cancel_left n (omega arith)

  opened_back : each n sealed_size (open_record r) (sealed_form r p) ≡ p
  unfolding sealed_form
  opened_back = rw (count (omega arith) sealed_records) at ((book_law r hr).back p (book w))

  sealed_bytes : (i : ℕ) → i < n → Bytes sealed_size (seal_record r (record_at plain_size p i))
  sealed_bytes i h =
      ((record_law r hr).to (record_at plain_size p i)
      (record { bytes = bytes_part (plain_size * i) plain_size plain_records.bytes; passed = plain_records.pass i h })).bytes

  opened_bytes : (i : ℕ) → i < n → Bytes plain_size (open_record r (record_at sealed_size (sealed_form r p) i))
  opened_bytes i h =
      ((record_law r hr).from (record_at sealed_size (sealed_form r p) i)
      (record { bytes = bytes_part (sealed_size * i) sealed_size sealed_records.bytes; passed = sealed_records.pass i h })).bytes

-- ---- the facts

pub shuffled : Shuffled
unfolding seal_book open_book sealed_form
shuffled r hr p w π ρ =
    let k = n r hr p w in
    let b = plain_records r hr p w in
    let s = sealed_records r hr p w in
    let q = reorder b π ρ.within in
    let form = each_reordered b π ρ.within sealed_size (seal_record r) (sealed_bytes r hr p w) in
    record {
      formed = well_formed (to_book (omega arith) q);
      form = rw (count (omega arith) q) form;
      seals = λ out room. called (sealing r) r k 0 (omega arith) (λ x e. refl) hr.len _ q out room _ form;
      opens = λ out room. called (opening r) r k 2 (omega arith) (inspection_clear r) hr.len _ (reorder s π ρ.within) out room _
          (each_reordered s π ρ.within plain_size (open_record r) (opened_bytes r hr p w) ∙ ap (reordered k plain_size π) (opened_back r hr p w));
      undone = undone_by b π;
    }

pub books_joined : BooksJoined
unfolding seal_book open_book sealed_form
books_joined r hr p q w v few =
    let m = n r hr p w in
    let k = n r hr q v in
    let a = plain_records r hr p w in
    let b = plain_records r hr q v in
    let j = join a b few in
    let form = each_joined a b (seal_record r) in
    record {
      formed = well_formed (to_book (omega arith) j);
      form = rw (count (omega arith) j) form;
      seals = λ out room. called (sealing r) r (m + k) 0 (omega arith) (λ x e. refl) hr.len (p ++ q) j out room _ form;
      opens = λ out room.
          let s = sealed_records r hr p w in
          let t = sealed_records r hr q v in
          called (opening r) r (m + k) 2 (omega arith) (inspection_clear r) hr.len _ (join s t few) out room _
          (each_joined s t (open_record r) ∙ ap₂ ◌++◌ (opened_back r hr p w) (opened_back r hr q v));
    }

-- ---- where they end

pub no_reordering : NoReordering
no_reordering = record {
  twice = λ n π i j hi hj other e ρ. other (sym (ρ.back i hi) ∙ ap ρ.inverse e ∙ ρ.back j hj);
  left_out = λ n π k h none ρ. none (ρ.inverse k) (ρ.within_back k h) (ρ.forth k h);
}

too_long : (C : Conversion) (r xs out : List ℕ) → length r ≡ ring_size → C.size * most_records < length xs
    → book_call C r xs out ≡ (record { refusal = book_too_long; index = 0; written = 0; runs = 0 }, out)
unfolding book_call records_call answer
too_long C r xs out hr h = rw (eq-eqb _ _ hr, lt-leb _ _ h)

-- longer than so many records of w bytes
longer : {w m n : ℕ} {ok : List ℕ → Bool} {xs ys : List ℕ} → 0 < w → Records w m ok xs → Records w n ok ys → most_records < m + n
    → w * most_records < length (xs ++ ys)
longer {w} {m} {n} {ok} {xs} {ys} hw a b many =
    omega (arith, length-append xs ys, a.bytes.len, b.bytes.len, mul-add w m n, mul-suc w most_records, mul-le-mul_left w many, hw)

pub too_many_joined : TooManyJoined
unfolding seal_book open_book
too_many_joined r hr p q w v many out = (
  too_long (sealing r) r (p ++ q) out hr.len (longer (omega arith) (plain_records r hr p w) (plain_records r hr q v) many),
  too_long (opening r) r (sealed_form r p ++ sealed_form r q) out hr.len (longer (omega arith) (sealed_records r hr p w) (sealed_records r hr q v) many),
)
