-- The first places of the output have the records of the first challenges.
use Rattle.std.proofs.Common.{◌+◌, ◌*◌, length}
use Rattle.classes.proofs.ClassLaws.{Recorded}
use Rattle.classes.proofs.Session.write.Given as goal

abbrev pub invariant-loop-k : goal.invariant-loop-k
invariant-loop-k l = Recorded l.self l.challenges l.initial.out (4 * l.k) l.out

abbrev pub invariant-loop-j : goal.invariant-loop-j
invariant-loop-j l = Recorded l.self l.challenges l.fn.out (4 * length l.fours + l.j) l.out
