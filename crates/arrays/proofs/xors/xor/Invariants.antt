-- The first i bytes of the output are the ⊕ of those of the two strings.
use Rattle.std.proofs.Common.{◌≡◌, length, take}
use Rattle.standard.specs.Bytes.{xors}
use Rattle.arrays.proofs.xors.xor.Given as goal

abbrev pub invariant-loop-i : goal.invariant-loop-i
invariant-loop-i g l = record { len : length l.out ≡ g.row.N; filled : take l.i l.out ≡ xors l.i l.fn.a l.fn.b }
