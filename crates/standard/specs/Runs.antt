-- Counted cipher runs (02, 8): how often a book call runs the block cipher, step by step.
use Rattle.std.specs.Prelude.{ℕ, zero, suc, ◌+◌, ◌*◌, eqb}
use Rattle.standard.specs.Bytes.{choose}
use Rattle.standard.specs.Lists.{first_fault}

-- sealing a text, by BL1, and unsealing one, by BL2
abbrev pub text_runs : ℕ
text_runs = 2

-- making the identity strings of a ring
abbrev pub identity_runs : ℕ
identity_runs = 1

-- The first pass, which inspects the records up to the first fault: record n is inspected if none of those before it has one, and that
-- takes `inspection n`.
abbrev pub first_pass : ℕ → (fault inspection : ℕ → ℕ) → ℕ
first_pass zero fault inspection = 0
first_pass (suc n) fault inspection = first_pass n fault inspection + choose (eqb (first_fault n fault) n) (inspection n) 0

-- The second pass, which writes: the identity strings are made once, but not for an empty book, and each record has its text sealed or
-- unsealed.
abbrev pub second_pass : ℕ → ℕ
second_pass n = choose (eqb n 0) 0 identity_runs + text_runs * n

-- A call on n records: no pass if the tests refuse with `head`, and no second one if a record has a fault.
abbrev pub call_runs : (head n : ℕ) (fault inspection : ℕ → ℕ) → ℕ
call_runs head n fault inspection =
    choose (eqb head 0) (first_pass n fault inspection + choose (eqb (first_fault n fault) n) (second_pass n) 0) 0
