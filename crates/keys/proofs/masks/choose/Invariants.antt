-- What the first j bits of the mask from the left choose stands at the front, k bytes.
use Rattle.std.proofs.Common.{◌-◌}
use Rattle.keys.proofs.MaskLaws.{Gathered}
use Rattle.keys.proofs.masks.choose.Given as goal

abbrev pub invariant-loop-j : goal.invariant-loop-j
invariant-loop-j l = Gathered l.mask l.output l.initial.out (16 - l.j) l.k l.out
