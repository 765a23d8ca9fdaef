-- The register has made i steps.
use Rattle.std.proofs.Common.{◌≡◌}
use Rattle.standard.specs.Register.{turned}
use Rattle.register.proofs.turned.Given as goal

abbrev pub invariant-loop-i : goal.invariant-loop-i
invariant-loop-i l = l.q ≡ turned l.fn.key l.i
