-- The value of a record, from the values written for its parents.
use Rattle.std.specs.Prelude.{List, ℕ}
use Rattle.standard.specs.Lineage.{parent1, parent2, value_from}
use Rattle.standard.specs.Lists.{record_at}
use Rattle.standard.specs.Sizes.{sheet_size, value_size}

unfoldable pub from_values : (s values : List ℕ) → ℕ → List ℕ
from_values s values i =
    let p = record_at sheet_size s i in
    value_from p (record_at value_size values (parent1 p)) (record_at value_size values (parent2 p))
