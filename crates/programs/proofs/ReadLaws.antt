-- Pieces of input, one after the other, in the front of a buffer.
use Rattle.std.proofs.Common.{◌≡◌, List, ◌++◌, ℕ, ◌+◌, ◌-◌, ◌≤◌, length, take, drop, sym, ap, ◌∙◌, append-nil, drop_at, length-take-le}
use Rattle.std.proofs.Math.Seq.{take-append-add, take-append-le}
use Rattle.standard.proofs.Prelude.{drop-drop}
use Rattle.lines.proofs.LineLaws.{lent_rest, lent_none}
use borrow.Rule.Slice.PartMut.{put_mid, post_of}

-- what a piece leaves of the part from index n on, in which its m bytes are the first
module _ (n m : ℕ) (buf ys : List ℕ) (within : n ≤ length buf) where
  pub piece_front : m ≤ length ys → take (n + m) (put_mid n (length buf - n) buf ys) ≡ take n buf ++ take m ys
  piece_front h =
      ap (λ j. take (j + m) (put_mid n (length buf - n) buf ys)) (sym (length-take-le n buf within))
      ∙ take-append-add (take n buf) (ys ++ post_of n (length buf - n) buf) m
      ∙ ap (λ l. take n buf ++ l) (take-append-le m ys (post_of n (length buf - n) buf) h)

  pub piece_rest : (start : List ℕ) → drop n buf ≡ drop n start → drop m ys ≡ drop m (take (length buf - n) (drop n buf))
      → drop (n + m) (put_mid n (length buf - n) buf ys) ≡ drop (n + m) start
  piece_rest start e f =
      rw (lent_none n buf, append-nil, ← drop-drop m n (take n buf ++ ys), drop_at (take n buf) ys n (length-take-le n buf within))
      (f ∙ ap (drop m) (lent_rest n buf ∙ e) ∙ drop-drop m n start)
