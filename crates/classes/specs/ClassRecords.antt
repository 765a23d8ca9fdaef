-- What TA12 answers to a challenge, under round keys laid out first.
use Rattle.std.specs.Prelude.{List, ◌++◌, ℕ}
use Rattle.standard.specs.Bytes.{part}
use Rattle.standard.specs.Cores.{bl1_with}
use Rattle.standard.specs.Keys.{chosen}
use Rattle.standard.specs.Expansions.{exp2}
use Rattle.classes.specs.declared.Session.{Session}

-- of an output of the core: the response and the key that the masks choose
unfoldable pub record_from : (rm km : ℕ) → List ℕ → List ℕ
record_from rm km o = part 0 4 (chosen rm o) ++ part 0 10 (chosen km o)

-- of a challenge
unfoldable pub record_with : (keys : List ℕ) (rm km : ℕ) → List ℕ → List ℕ
record_with keys rm km x = record_from rm km (bl1_with keys (exp2 x))

-- of a challenge, in a session
abbrev pub record_of : Session → List ℕ → List ℕ
record_of s x = record_with s.keys s.masks.response s.masks.key x
