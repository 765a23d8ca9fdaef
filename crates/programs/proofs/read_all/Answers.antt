use Rattle.std.proofs.Common.{rules, sym, subst}
use Rattle.std.specs.Io.KnownBytes.{Consumes}
use Rattle.std.proofs.KnownBytes.{Consumes-trans}
use Rattle.programs.proofs.ReadLaws.{piece_front, piece_rest}
use Rattle.programs.proofs.read_all.Goals as goal

pub loop-n-preserved : goal.loop-n-preserved
loop-n-preserved g c =
    let before = c.loop-n.invariant in
    let piece = c.in_ok-m.ensures in
    record {
      within = search rules;
      rest = piece_rest _ _ _ _ before.within _ before.rest piece.left.rest;
      front = subst (Consumes _ _) (sym (piece_front _ _ _ _ before.within piece.left.counts.0)) (Consumes-trans _ _ _ _ _ before.front piece.known.0);
    }
