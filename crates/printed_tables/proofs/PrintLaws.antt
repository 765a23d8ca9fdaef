-- The lines of the tables one after the other, and the ways in which the call returns.
use Rattle.standard.proofs.Prelude.{◌≡◌, refl, ap, ◌∙◌, List, [], ◌∷◌, ◌++◌, ℕ, ◌+◌, ◌-◌, ◌≤◌, ◌<◌, arith, length, take, drop}
use Rattle.standard.proofs.PrintedTablesLaws.{inverse_made, line_length, text_length}
use Rattle.standard.specs.Bytes.{◌!◌, part}
use Rattle.standard.specs.Hurdle.{S, S⁻¹}
use Rattle.standard.specs.PrintedTables.{inverse, rotations, spaced, table_line, table_lines, tables_text, tables_call}
use Rattle.standard.specs.Lines.{ascii, hex_byte, text_call}
use Rattle.lines.proofs.LineLaws.{line_none, line_append, line_after, line_next, line_whole, over_next}
use Rattle.standard.proofs.Prelude.{lt-ltb}
use Rattle.lines.specs.LineStates.{◌▸◌, Over, put_call}

-- ---- entries, with a space after each

pub spaced_none : (l : List ℕ) → l ≡ l ▸ spaced []
unfolding spaced
spaced_none l = line_none l

spaced_step : (t : List ℕ) (x : ℕ) → spaced (t ++ (x ∷ [])) ≡ spaced t ++ (hex_byte x ++ ascii " ")
unfolding spaced
spaced_step [] x = refl
spaced_step (y ∷ t) x = ap (λ (w : List ℕ). (hex_byte y ++ ascii " ") ++ w) (spaced_step t x)

pub spaced_next : (l t : List ℕ) (i : ℕ) (r u v : List ℕ) → i < length t → r ≡ l ▸ spaced (take i t) → u ≡ r ▸ hex_byte (t ! i) → v ≡ u ▸ ascii " "
    → v ≡ l ▸ spaced (take (i + 1) t)
spaced_next l t i r u v h e f g =
    line_next spaced (λ x. hex_byte x ++ ascii " ") spaced_step l t i h e (line_after r (hex_byte (t ! i)) (ascii " ") f g)

pub ruleset spaced_steps = (spaced_none, spaced_next)

-- a whole line, from the fifteen entries that are lent
pub line_shown : (t s : List ℕ) {l : List ℕ} → s ≡ part 0 15 t → l ≡ [] ▸ spaced s ▸ hex_byte (t ! 15) ▸ ascii "\n" → l ≡ table_line t
unfolding table_line
line_shown t s {l} e f =
    line_whole (table_line t) {l = l}
    (f ∙ ap (λ (w : List ℕ). [] ▸ spaced w ▸ hex_byte (t ! 15) ▸ ascii "\n") e ∙ simp line_append refl)
    (omega (arith, line_length t))

-- ---- the call

module _ (out : List ℕ) where
  pub short : length out < 816 → (record { refusal = 12; written = 0 }, out) ≡ tables_call out
  unfolding text_call
  short h = rw (lt-ltb (length out) (length tables_text) (omega (arith, h, text_length)))

  -- the last line after those of the inverse
  pub whole : {at n : ℕ} {line out₁ exit : List ℕ} → 816 ≤ length out → Over (table_lines 16 S⁻¹) out at out₁ → line ≡ table_line rotations
      → (n, exit) ≡ put_call line (take (length out₁ - at) (drop at out₁))
      → Over tables_text out (at + n) (take at out₁ ++ (exit ++ drop (length out₁ - at) (drop at out₁)))
  unfolding tables_text
  whole {at} {out₁ = out₁} h a e b =
      let lines : Over (table_lines 16 (inverse S)) out at out₁ = rw inverse_made a in
      over_next (table_lines 16 (inverse S)) (table_line rotations) out (omega (arith, h, text_length)) lines refl (rw e at b)
