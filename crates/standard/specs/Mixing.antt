-- TB1 to TB7 (01, Responses and derived keys; 000, 5.19 to the end of clause 5).
use Rattle.std.specs.Prelude.{◌&&◌, List, [], ◌∷◌, ℕ, ◌+◌, ◌-◌, ◌*◌, ◌/◌, ◌%◌, ◌^◌, replicate}
use Rattle.standard.specs.Bytes.{part, xors, bytes_of}
use Rattle.standard.specs.Expansions.{grouped}
use Rattle.standard.specs.Refusals.{wrong_length, wrong_width, value_wide, has_length, valid_width, fits, first, answer10, answer16}
use Rattle.standard.specs.declared.Bytes10.{Bytes10}
use Rattle.standard.specs.declared.Bytes16.{Bytes16}

-- numbers of given widths in bits, written one after the other: (width, number), leftmost first
abbrev pub join_on : ℕ → List (ℕ × ℕ) → ℕ
join_on acc [] = acc
join_on acc (f ∷ fs) = join_on (acc * 2 ^ f.0 + f.1) fs

abbrev pub join : List (ℕ × ℕ) → ℕ
join fs = join_on 0 fs

-- the value repeated until 128 bits are obtained: the leftmost 128 bits of eight copies
unfoldable pub tb1 : ℕ → ℕ → List ℕ
tb1 v w = bytes_of 16 (join (replicate 8 (w, v)) / 2 ^ (8 * w - 128))

-- the input
abbrev pub tb2 : List ℕ → List ℕ
tb2 x = part 0 16 x

-- Input 1 ⊕ the repeated Input 2
unfoldable pub tb3 : List ℕ → ℕ → ℕ → List ℕ
tb3 x v w = xors 16 x (tb1 v w)

-- Input 1 ⊕ Input 2
abbrev pub tb4 : List ℕ → List ℕ → List ℕ
tb4 x y = xors 10 x y

-- location area (14 bits), carrier (12) and colour code (6), then carrier and colour code repeated
unfoldable pub tb5 : List ℕ → ℕ → ℕ → ℕ → List ℕ
tb5 ck la cn cc =
    xors 10 ck (bytes_of 10 (join ((14, la) ∷ (12, cn) ∷ (6, cc) ∷ (12, cn) ∷ (6, cc) ∷ (12, cn) ∷ (6, cc) ∷ (12, cn) ∷ [])))

-- carrier (12 bits), identity (24), both again, and the identity's lowest 8 bits
unfoldable pub tb6 : List ℕ → ℕ → ℕ → List ℕ
tb6 ck cn ssi = xors 10 ck (bytes_of 10 (join ((12, cn) ∷ (24, ssi) ∷ (12, cn) ∷ (24, ssi) ∷ (8, ssi % 256) ∷ [])))

-- 12 to 16: after each three bytes, their ⊕
abbrev pub tb7 : List ℕ → List ℕ
tb7 b = grouped (3 ∷ 3 ∷ 3 ∷ 3 ∷ []) 0 b

-- ---- the calls

unfoldable pub tb1_call : ℕ → ℕ → Bytes16
tb1_call v w = answer16 (first ((valid_width w, wrong_width) ∷ (fits w v, value_wide) ∷ [])) (tb1 v w)

unfoldable pub tb2_call : List ℕ → Bytes16
tb2_call x = answer16 (first ((has_length 16 x, wrong_length) ∷ [])) (tb2 x)

unfoldable pub tb3_call : List ℕ → ℕ → ℕ → Bytes16
tb3_call x v w = answer16 (first ((has_length 16 x, wrong_length) ∷ (valid_width w, wrong_width) ∷ (fits w v, value_wide) ∷ [])) (tb3 x v w)

unfoldable pub tb4_call : List ℕ → List ℕ → Bytes10
tb4_call x y = answer10 (first ((has_length 10 x && has_length 10 y, wrong_length) ∷ [])) (tb4 x y)

unfoldable pub tb5_call : List ℕ → ℕ → ℕ → ℕ → Bytes10
tb5_call ck la cn cc =
    answer10 (first ((has_length 10 ck, wrong_length) ∷ (fits 14 la && fits 12 cn && fits 6 cc, value_wide) ∷ [])) (tb5 ck la cn cc)

unfoldable pub tb6_call : List ℕ → ℕ → ℕ → Bytes10
tb6_call ck cn ssi = answer10 (first ((has_length 10 ck, wrong_length) ∷ (fits 12 cn && fits 24 ssi, value_wide) ∷ [])) (tb6 ck cn ssi)

unfoldable pub tb7_call : List ℕ → Bytes16
tb7_call b = answer16 (first ((has_length 12 b, wrong_length) ∷ [])) (tb7 b)
