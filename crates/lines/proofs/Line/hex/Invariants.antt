-- After i turns the digits of the first i bytes are there.
use Rattle.std.proofs.Common.{◌≡◌, take}
use Rattle.standard.specs.Lines.{hex}
use Rattle.lines.specs.LineStates.{◌▸◌}
use Rattle.lines.proofs.Line.hex.Given as goal

abbrev pub invariant-loop-b : goal.invariant-loop-b
invariant-loop-b l = l.r ≡ l.initial.r ▸ hex (take l.b-index l.s)
