use Rattle.std.proofs.Common.{◌≡◌, ◌+◌, ◌-◌, List, ◌++◌, ℕ, arith, length, take, drop, sym, subst, length-take, length-drop}
use Rattle.std.proofs.lemmas.List.{take_rest}
use Rattle.std.proofs.Math.Seq.{take-add}
use Rattle.std.specs.Io.KnownBytes.{Appends}
use Rattle.std.proofs.KnownBytes.{Appends-trans}
use Rattle.programs.proofs.write_whole.Goals as goal

-- n bytes more, of those that are left
more : (done n : ℕ) (s : List ℕ) → take done s ++ take n (take (length s - done) (drop done s)) ≡ take (done + n) s
more done n s = rw (take_rest s done) (sym (take-add done n s))

pub loop-done-preserved : goal.loop-done-preserved
loop-done-preserved g c =
    record {
      within = omega (arith, c.in_ok-n.ensures.bound, length-take {A = ℕ}, length-drop {A = ℕ});
      written = subst (Appends _ _) (more _ _ _) (Appends-trans _ _ _ _ _ c.loop-done.invariant.written c.in_ok-n.ensures.bytes);
    }
