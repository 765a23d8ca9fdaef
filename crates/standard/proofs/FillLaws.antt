-- A loop that fills a list with a table from the front, one store a turn: after j turns the first j elements are the table's.
use Rattle.standard.proofs.Prelude.{◌≡◌, sym, ap, ◌∙◌, List, ℕ, ◌+◌, ◌<◌, add-one, arith, length, take, set, take_all}
use lib.Seq.{take-suc-set}
use Rattle.standard.specs.Bytes.{table}
use Rattle.standard.proofs.BytesLaws.{table_snoc}

-- one store more
pub fill_next : (out : List ℕ) (f : ℕ → ℕ) (j v : ℕ) → j < length out → v ≡ f j → take j out ≡ table j f
    → take (j + 1) (set out j v) ≡ table (j + 1) f
fill_next out f j v l q e = rw (add-one, take-suc-set out j v l, table_snoc, e, q)

-- all stored
pub filled : (out : List ℕ) (f : ℕ → ℕ) (n j : ℕ) → length out ≡ n → j ≡ n → take j out ≡ table j f → out ≡ table n f
filled out f n j l q e = sym (take_all j out (omega arith)) ∙ e ∙ ap (λ (k : ℕ). table k f) q
