-- Where a walk over the records of a list stops, and what it writes.
use Rattle.std.specs.Prelude.{List, ◌++◌, ◌≡◌, ℕ, zero, suc, ◌+◌, ◌*◌, ◌<◌, take, drop}
use Rattle.standard.specs.Answers.{refusal_number}
use Rattle.standard.specs.declared.Refusal.{Refusal}

-- none of the first n records has a fault
abbrev pub Clean : (ℕ → ℕ) → ℕ → Type 0
Clean g n = (j : ℕ) → j < n → g j ≡ 0

-- the first of n records that has a fault, and the refusal that it causes
pub record FirstFault (n : ℕ) (g : ℕ → ℕ) (refusal : Refusal) (index : ℕ) : Type 0 where
  pub within : index < n
  pub before : Clean g index
  pub fault : refusal_number refusal ≡ g index

-- the string x at place i of an output of strings of v bytes
abbrev pub replace_at : (v i : ℕ) → List ℕ → List ℕ → List ℕ
replace_at v i x out = take (v * i) out ++ (x ++ drop (v * i + v) out)

-- the index j places after i, as code says it: i itself for 0
abbrev pub after : ℕ → ℕ → ℕ
after i zero = i
after i (suc j) = i + suc j

-- n strings, from place i on
abbrev pub replace_from : (v i : ℕ) → (ℕ → List ℕ) → ℕ → List ℕ → List ℕ
replace_from v i g zero out = out
replace_from v i g (suc n) out = replace_at v (i + n) (g n) (replace_from v i g n out)
