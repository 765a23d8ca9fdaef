-- Lane j of four outputs of a core.
use Rattle.std.specs.Prelude.{List, [], ℕ, get_or}
use Rattle.cores.specs.declared.CoreOutput.{CoreOutput}

abbrev pub output_lane : {n : ℕ} → List (CoreOutput n) → ℕ → CoreOutput n
output_lane o j = get_or o j (record { output = []; runs = 0 })
