use Rattle.std.proofs.Common.{◌≡◌, refl, sym, ap, ◌∙◌, ℕ, suc, ◌+◌, ◌%◌, add-one, arith, length-set}
use Rattle.standard.proofs.FillLaws.{fill_next, filled}
use Rattle.standard.proofs.ScheduleLaws.{turn_next}
use Rattle.standard.specs.Bytes.{◌!◌}
use Rattle.standard.specs.Hurdle.{a}
use Rattle.standard.specs.PrintedTables.{running_sum, turn, rotations}
use Rattle.printed_tables.proofs.rotations.Goals as goal

-- the sum after one rotation more
next : (i sum : ℕ) → sum ≡ turn i → (sum + a ! i) % 16 ≡ turn (suc i)
next i sum e = rw e (sym (turn_next i))

pub loop-i-init : goal.loop-i-init
unfolding running_sum
loop-i-init c = record { long = refl; so_far = refl; written = refl }

pub loop-i-preserved : goal.loop-i-preserved
unfolding a
loop-i-preserved c =
    let at = c.loop-i in
    let sum = next at.i at.sum at.invariant.so_far in
    record {
      long = length-set at.out _ _ ∙ at.invariant.long;
      so_far = sum ∙ ap turn (sym (add-one at.i));
      written = fill_next at.out (λ j. turn (suc j)) at.i _ (omega arith) sum at.invariant.written;
    }

pub returns : goal.returns
unfolding rotations
returns c =
    filled c.loop-i.out (λ j. turn (suc j)) 16 c.loop-i.i c.loop-i.invariant.long (omega arith) c.loop-i.invariant.written
