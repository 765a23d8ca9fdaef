-- Expansions and shrinkings (01, Expansions; 000, 5.4, 5.5 and Figure 16).
-- Those that insert ⊕ bytes have one shape: groups of bytes, and after each group its ⊕. `ns` has the groups' sizes.
use Rattle.std.specs.Prelude.{List, [], ◌∷◌, ◌++◌, ℕ, zero, suc, ◌+◌}
use Rattle.standard.specs.Bytes.{◌!◌, ◌⊕◌, ◌⊞◌, part}

-- the ⊕ of the n bytes from index `from` on
abbrev pub xor_on : ℕ → ℕ → ℕ → List ℕ → ℕ
xor_on x from zero xs = x
xor_on x from (suc n) xs = xor_on (x ⊕ xs ! from) (suc from) n xs

abbrev pub xor_of : ℕ → ℕ → List ℕ → ℕ
xor_of from n xs = xor_on 0 from n xs

-- each group, from index `from` on, and after it its ⊕
abbrev pub grouped : List ℕ → ℕ → List ℕ → List ℕ
grouped [] from b = []
grouped (n ∷ ns) from b = part from n b ++ xor_of from n b ∷ grouped ns (from + n) b

-- the groups alone
abbrev pub ungrouped : List ℕ → ℕ → List ℕ → List ℕ
ungrouped [] from u = []
ungrouped (n ∷ ns) from u = part from n u ++ ungrouped ns (suc (from + n)) u

-- the inserted bytes, and what they should be
abbrev pub inserted : List ℕ → ℕ → List ℕ → List ℕ
inserted [] from u = []
inserted (n ∷ ns) from u = u ! (from + n) ∷ inserted ns (suc (from + n)) u

abbrev pub expected : List ℕ → ℕ → List ℕ → List ℕ
expected [] from u = []
expected (n ∷ ns) from u = xor_of from n u ∷ expected ns (suc (from + n)) u

-- ---- the groups of EXP1, EXP3 and X16 (Figure 16)

abbrev pub exp1_groups : List ℕ
exp1_groups = 2 ∷ 2 ∷ 2 ∷ 2 ∷ 2 ∷ []

abbrev pub exp3_groups : List ℕ
exp3_groups = 2 ∷ 3 ∷ 3 ∷ 3 ∷ []

abbrev pub x16_groups : List ℕ
x16_groups = 4 ∷ 4 ∷ 4 ∷ []

-- ---- expansions (5.4)

-- EXP1: after each pair stands its ⊕. 10 bytes become 15
abbrev pub exp1 : List ℕ → List ℕ
exp1 b = grouped exp1_groups 0 b

-- EXP2: EXP1, and after it the sum of the five inserted bytes, modulo 256. 10 bytes become 16
unfoldable pub exp2 : List ℕ → List ℕ
exp2 b = exp1 b ++ (xor_of 0 2 b ⊞ xor_of 2 2 b ⊞ xor_of 4 2 b ⊞ xor_of 6 2 b ⊞ xor_of 8 2 b) ∷ []

-- EXP3: a pair, then three bytes three times, and after each group its ⊕. 11 bytes become 15
abbrev pub exp3 : List ℕ → List ℕ
exp3 b = grouped exp3_groups 0 b

-- the byte sum of a pair
abbrev pub sum_at : List ℕ → ℕ → ℕ
sum_at b i = b ! i ⊞ b ! (i + 1)

-- EXP4: in front of each pair stands its sum, and in front of all the ⊕ of those sums. 10 bytes become 16
unfoldable pub exp4 : List ℕ → List ℕ
exp4 b =
    (sum_at b 0 ⊕ sum_at b 2 ⊕ sum_at b 4 ⊕ sum_at b 6 ⊕ sum_at b 8)
    ∷ sum_at b 0 ∷ part 0 2 b ++ sum_at b 2 ∷ part 2 2 b ++ sum_at b 4 ∷ part 4 2 b ++ sum_at b 6 ∷ part 6 2 b ++ sum_at b 8 ∷ part 8 2 b

-- X16: after each four bytes stands their ⊕, and at the end a zero byte. 12 bytes become 16
abbrev pub x16 : List ℕ → List ℕ
x16 b = grouped x16_groups 0 b ++ 0 ∷ []

-- ---- shrinkings (5.5)

-- 15 to 10, 15 to 11: the inserted bytes left out
abbrev pub shr1 : List ℕ → List ℕ
shr1 u = ungrouped exp1_groups 0 u

abbrev pub shr2 : List ℕ → List ℕ
shr2 u = ungrouped exp3_groups 0 u

-- 16 to 10: without the three leftmost and the three rightmost bytes
unfoldable pub shr3 : List ℕ → List ℕ
shr3 o = part 3 10 o
