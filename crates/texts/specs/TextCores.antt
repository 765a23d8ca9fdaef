-- The core of a sealed text.
use Rattle.std.specs.Prelude.{List, ℕ}
use Rattle.cores.specs.declared.CoreOutput.{CoreOutput}
use Rattle.standard.specs.Cores.{bl1}
use Rattle.standard.specs.Seals.{without8}

-- BL1's output made a sealed text, its cipher runs kept
abbrev pub shortened : CoreOutput 16 → CoreOutput 15
shortened o = record { output = without8 o.output; runs = o.runs }

-- the sealed text, from the core's key and BL1's input
abbrev pub seal_core : (k x : List ℕ) → List ℕ
seal_core k x = without8 (bl1 k x)
