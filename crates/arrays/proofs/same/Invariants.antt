-- The strings are the same if they agree so far and their rests are.
use Rattle.std.proofs.Common.{◌≡◌, drop}
use Rattle.standard.specs.Bytes.{same, same_on}
use Rattle.arrays.proofs.same.Given as goal

abbrev pub invariant-loop-i : goal.invariant-loop-i
invariant-loop-i l = same l.a l.b ≡ same_on l.t (drop l.i l.a) (drop l.i l.b)
