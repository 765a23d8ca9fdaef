-- The first i sums are written, and the sum so far is the last of them.
use Rattle.std.proofs.Common.{◌≡◌, suc, length, take}
use Rattle.standard.specs.Bytes.{table}
use Rattle.standard.specs.PrintedTables.{turn}
use Rattle.printed_tables.proofs.rotations.Given as goal

abbrev pub invariant-loop-i : goal.invariant-loop-i
invariant-loop-i l = record {
  long : length l.out ≡ 16;
  so_far : l.sum ≡ turn l.i;
  written : take l.i l.out ≡ table l.i (λ j. turn (suc j));
}
