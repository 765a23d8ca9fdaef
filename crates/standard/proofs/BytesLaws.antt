-- Strings of a known length: `table`, and what `Bytes` gives.
use Rattle.standard.proofs.Prelude.{◌≡◌, refl, sym, ap, ap₂, ◌∙◌, Bool, true, false, not, ◌&&◌, true≢false, List, [], ◌∷◌, ◌++◌, ℕ, zero, suc}
use Rattle.standard.proofs.Prelude.{◌+◌, ◌-◌, ◌*◌, ◌/◌, ◌%◌, ◌^◌, ◌≤◌, ◌<◌, add-zero, zero-add, add-suc, add-sub_cancel_left, suc_inj}
use Rattle.standard.proofs.Prelude.{suc-ne-zero, le_of_suc-le-suc, arith, eqb, length, take, drop, length-append, eqb-true, eq-eqb, not-true}
use Rattle.standard.proofs.Prelude.{not-false}
use native.Mathlib.Nat.{not-suc-le-zero, suc-add}
use lib.ListN.{get_or-append}
use lib.Seq.{drop-cons, get_or-append-add}
use Rattle.standard.specs.Bytes.{◌!◌, ◌⊕◌, table, part, xors, bytes_of, same_on, same, Bytes}
use Rattle.standard.specs.Refusals.{has_length}
use Rattle.standard.proofs.XorLaws.{xor_byte}

-- a string of n bytes that passes a test
pub record Passed (n : ℕ) (ok : List ℕ → Bool) (xs : List ℕ) : Type 0 where
  pub bytes : Bytes n xs
  pub passed : ok xs ≡ true

-- ---- tables

pub length_table : (n : ℕ) (f : ℕ → ℕ) → length (table n f) ≡ n
length_table zero f = refl
length_table (suc n) f = ap suc (length_table n (λ i. f (suc i)))

pub table_at : (n : ℕ) (f : ℕ → ℕ) (i : ℕ) → i < n → table n f ! i ≡ f i
table_at zero f i h = absurd (not-suc-le-zero h)
table_at (suc n) f zero h = refl
table_at (suc n) f (suc i) h = table_at n (λ j. f (suc j)) i (le_of_suc-le-suc h)

-- tables that agree below n are the same
pub table_same : (n : ℕ) (f g : ℕ → ℕ) → ((i : ℕ) → i < n → f i ≡ g i) → table n f ≡ table n g
table_same zero f g h = refl
table_same (suc n) f g h =
    ap₂ ◌∷◌ (h zero (omega arith)) (table_same n (λ i. f (suc i)) (λ i. g (suc i)) (λ i k. h (suc i) (omega arith)))

-- one entry more, at the end
pub table_snoc : (n : ℕ) (f : ℕ → ℕ) → table (suc n) f ≡ table n f ++ (f n ∷ [])
table_snoc zero f = refl
table_snoc (suc n) f = ap (◌∷◌ (f zero)) (table_snoc n (λ i. f (suc i)))

pub table_add : (m n : ℕ) (f : ℕ → ℕ) → table (m + n) f ≡ table m f ++ table n (λ i. f (m + i))
table_add zero n f = rw zero-add (table_same n f (λ i. f (0 + i)) (λ i h. ap f (sym (zero-add i))))
table_add (suc m) n f =
    rw suc-add
    (ap (◌∷◌ (f zero)) (table_add m n (λ i. f (suc i)))
    ∙ ap (λ (r : List ℕ). f zero ∷ (table m (λ i. f (suc i)) ++ r))
    (table_same n (λ i. f (suc (m + i))) (λ i. f (suc m + i)) (λ i h. ap f (sym (suc-add m i)))))

-- a string of n bytes is the table of its bytes
pub spelled : (n : ℕ) (xs : List ℕ) → length xs ≡ n → table n (λ i. xs ! i) ≡ xs
spelled zero [] e = refl
spelled zero (x ∷ xs) e = absurd (suc-ne-zero (length xs) e)
spelled (suc n) [] e = absurd (suc-ne-zero n (sym e))
spelled (suc n) (x ∷ xs) e = ap (◌∷◌ x) (spelled n xs (suc_inj e))

-- a string that passes the test of its length
pub length_spelled : (n : ℕ) (xs : List ℕ) → has_length n xs ≡ true → table n (λ i. xs ! i) ≡ xs
length_spelled n xs t = spelled n xs (eqb-true (length xs) n t)

-- ---- strings of bytes

pub spell : {n : ℕ} {xs : List ℕ} → Bytes n xs → table n (λ i. xs ! i) ≡ xs
spell {n} {xs} h = spelled n xs h.len

table_bound : (n : ℕ) (f : ℕ → ℕ) → ((i : ℕ) → f i < 256) → (i : ℕ) → table n f ! i < 256
table_bound zero f h i = omega arith
table_bound (suc n) f h zero = h zero
table_bound (suc n) f h (suc i) = table_bound n (λ j. f (suc j)) (λ j. h (suc j)) i

pub bytes_table : (n : ℕ) (f : ℕ → ℕ) → ((i : ℕ) → f i < 256) → Bytes n (table n f)
bytes_table n f h = record { len = length_table n f; bound = table_bound n f h }

pub bytes_nil : Bytes 0 []
bytes_nil = record { len = refl; bound = λ i. omega arith }

cons_bound : (x : ℕ) (xs : List ℕ) → x < 256 → ((i : ℕ) → xs ! i < 256) → (i : ℕ) → (x ∷ xs) ! i < 256
cons_bound x xs h k zero = h
cons_bound x xs h k (suc i) = k i

pub bytes_cons : {n x : ℕ} {xs : List ℕ} → x < 256 → Bytes n xs → Bytes (suc n) (x ∷ xs)
bytes_cons {n} {x} {xs} h b = record { len = ap suc b.len; bound = cons_bound x xs h b.bound }

pub bytes_append : {m n : ℕ} {xs ys : List ℕ} → Bytes m xs → Bytes n ys → Bytes (m + n) (xs ++ ys)
bytes_append {m} {n} {xs} {ys} a b =
    record { len = length-append xs ys ∙ ap₂ ◌+◌ a.len b.len; bound = go xs a.bound }
  where
    go : (zs : List ℕ) → ((i : ℕ) → zs ! i < 256) → (i : ℕ) → (zs ++ ys) ! i < 256
    go [] h i = b.bound i
    go (z ∷ zs) h zero = h zero
    go (z ∷ zs) h (suc i) = go zs (λ j. h (suc j)) i

pub bytes_part : {m : ℕ} {xs : List ℕ} (from n : ℕ) → Bytes m xs → Bytes n (part from n xs)
bytes_part {m} {xs} from n h = bytes_table n (λ i. xs ! (from + i)) (λ i. h.bound (from + i))

pub bytes_xors : {l m : ℕ} {xs ys : List ℕ} (n : ℕ) → Bytes l xs → Bytes m ys → Bytes n (xors n xs ys)
bytes_xors {l} {m} {xs} {ys} n a b =
    bytes_table n (λ i. xs ! i ⊕ ys ! i) (λ i. xor_byte (xs ! i) (ys ! i) (a.bound i) (b.bound i))

pub bytes_one : {x : ℕ} → x < 256 → Bytes 1 (x ∷ [])
bytes_one h = bytes_cons h bytes_nil

pub bytes_zero : Bytes 1 (0 ∷ [])
bytes_zero = bytes_one (omega arith)

-- the bytes of a number
pub bytes_of_lem : (n x : ℕ) → Bytes n (bytes_of n x)
bytes_of_lem zero x = bytes_nil
bytes_of_lem (suc n) x = bytes_cons (omega arith) (bytes_of_lem n x)

-- the bytes of the number that two bytes spell
pub pair_bytes : (x y : ℕ) → x < 256 → y < 256 → bytes_of 2 (256 * x + y) ≡ x ∷ y ∷ []
pair_bytes x y hx hy =
    let high : (256 * x + y) / 2 ^ 8 % 256 ≡ x = omega arith in
    let low : (256 * x + y) / 2 ^ 0 % 256 ≡ y = omega arith in
    cc

-- ---- parts

-- of the first of two strings, and the second of them
pub part_left : (a n : ℕ) (xs ys : List ℕ) → a + n ≤ length xs → part a n (xs ++ ys) ≡ part a n xs
part_left a n xs ys h =
    table_same n (λ i. (xs ++ ys) ! (a + i)) (λ i. xs ! (a + i)) (λ i k. get_or-append xs ys 0 (a + i) (omega arith))

pub part_seam : (m n : ℕ) (xs ys : List ℕ) → length xs ≡ m → length ys ≡ n → part m n (xs ++ ys) ≡ ys
part_seam m n xs ys h k =
    table_same n (λ i. (xs ++ ys) ! (m + i)) (λ i. ys ! i)
    (λ i l. ap (λ (z : ℕ). (xs ++ ys) ! (z + i)) (sym h) ∙ get_or-append-add xs ys i 0)
    ∙ spelled n ys k

pub part_whole : (n : ℕ) (xs : List ℕ) → length xs ≡ n → part 0 n xs ≡ xs
part_whole n xs h = simp zero-add (spelled n xs h)

-- what is lent is the part of the definitions: n bytes from a on, and `&xs[a..a + n]`
pub part_lent : (a n : ℕ) (xs : List ℕ) → a + n ≤ length xs → take n (drop a xs) ≡ part a n xs
part_lent a zero xs h = refl
part_lent a (suc n) xs h =
    rw (drop-cons xs a 0 (omega arith))
    (ap₂ ◌∷◌ (ap (λ (k : ℕ). xs ! k) (sym (add-zero a)))
    (part_lent (suc a) n xs (omega arith)
    ∙ table_same n (λ i. xs ! (suc a + i)) (λ i. xs ! (a + suc i)) (λ i k. ap (λ (j : ℕ). xs ! j) (suc-add a i ∙ sym (add-suc a i)))))

pub lent_part : (a n : ℕ) (xs : List ℕ) → a + n ≤ length xs → take (a + n - a) (drop a xs) ≡ part a n xs
lent_part a n xs h = ap (λ (k : ℕ). take k (drop a xs)) (add-sub_cancel_left a n) ∙ part_lent a n xs h

-- ---- tests

and_left : (a b : Bool) → a && b ≡ true → a ≡ true
and_left true b e = refl
and_left false b e = e

and_right : (a b : Bool) → a && b ≡ true → b ≡ true
and_right true b e = e
and_right false b e = absurd (true≢false (sym e))

-- two tests that both pass
pub and_split : (a b : Bool) → a && b ≡ true → (a ≡ true) × (b ≡ true)
and_split a b e = (and_left a b e, and_right a b e)

pub and_join : {a b : Bool} → a ≡ true → b ≡ true → a && b ≡ true
and_join {a} {b} p q = ap₂ ◌&&◌ p q

-- a test that a function answered: what it tests failed, or passed
pub test_failed : {r t : Bool} → r ≡ t → not r ≡ true → t ≡ false
test_failed {r} e h = sym e ∙ not-true r h

pub test_passed : {r t : Bool} → r ≡ t → not r ≡ false → t ≡ true
test_passed {r} e h = sym e ∙ not-false r h

-- two strings that pass the tests of their lengths
pub both_spelled : (m n : ℕ) (a b : List ℕ) → has_length m a && has_length n b ≡ true → (table m (λ i. a ! i) ≡ a) × (table n (λ i. b ! i) ≡ b)
both_spelled m n a b t = let s = and_split _ _ t in (length_spelled m a s.0, length_spelled n b s.1)

same_on_split : (t : Bool) (xs ys : List ℕ) → same_on t xs ys ≡ true → (t ≡ true) × (xs ≡ ys)
same_on_split t [] [] e = (e, refl)
same_on_split t [] (y ∷ ys) e = absurd (true≢false (sym e))
same_on_split t (x ∷ xs) [] e = absurd (true≢false (sym e))
same_on_split t (x ∷ xs) (y ∷ ys) e =
    let p = same_on_split (t && eqb x y) xs ys e in
    (and_left t (eqb x y) p.0, ap₂ ◌∷◌ (eqb-true x y (and_right t (eqb x y) p.0)) p.1)

-- strings that pass the test are the same, and the same string passes
pub same_eq : (xs ys : List ℕ) → same xs ys ≡ true → xs ≡ ys
same_eq xs ys e = (same_on_split true xs ys e).1

pub same_refl : (xs : List ℕ) → same xs xs ≡ true
same_refl [] = refl
same_refl (x ∷ xs) = ap (λ (t : Bool). same_on t xs xs) (eq-eqb x x refl) ∙ same_refl xs

-- a test at each number below n, computed once, gives the test at each
abbrev pub every : ℕ → (ℕ → Bool) → Bool
every zero f = true
every (suc n) f = f zero && every n (λ i. f (suc i))

pub every_at : (n : ℕ) (f : ℕ → Bool) → every n f ≡ true → (i : ℕ) → i < n → f i ≡ true
every_at zero f e i h = absurd (not-suc-le-zero h)
every_at (suc n) f e zero h = and_left (f zero) (every n (λ i. f (suc i))) e
every_at (suc n) f e (suc i) h = every_at n (λ j. f (suc j)) (and_right (f zero) (every n (λ j. f (suc j))) e) i (le_of_suc-le-suc h)
