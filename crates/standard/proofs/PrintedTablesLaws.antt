-- The printed tables: the inverse made is the stored one, and each rotation stands once (02, 13).
use Rattle.standard.proofs.Prelude.{◌≡◌, refl, sym, ap, ◌∙◌, Bool, true, false, ◌&&◌, List, [], ◌∷◌, ℕ, ◌+◌, ◌*◌, ◌≤◌, ◌<◌, arith, eqb, ltb}
use Rattle.standard.proofs.Prelude.{length, set, length-append, length-set, eqb-true, ltb-true, ltb-false}
use lib.Seq.{get_or-set_same, get_or-set_other}
use Rattle.standard.specs.Bytes.{◌!◌, part}
use Rattle.standard.specs.Hurdle.{S, S⁻¹, a}
use Rattle.standard.specs.PrintedTables.{place_of, inverse, running_sum, rotations, spaced, table_line, table_lines, tables_text}
use Rattle.standard.specs.PrintedTablesFacts.{InverseMade, Rotations, LastLine}
use Rattle.standard.specs.Lines.{hex_digit}
use Rattle.standard.proofs.BookLaws.{length_each}
use Rattle.standard.proofs.BytesLaws.{table_same, spelled, and_split, every_at}
use Rattle.standard.proofs.HurdleLaws.{permuted}

-- ---- the tables

pub inverse_made : InverseMade
unfolding inverse S S⁻¹
inverse_made = refl

made_inverse_length : length (inverse S) ≡ 256
unfolding inverse
made_inverse_length = refl

-- the rotations have a place for k: there stands k, and entry k's place is its own
abbrev once_at : ℕ → Bool
once_at k = ltb (place_of k rotations) 16 && eqb (rotations ! place_of k rotations) k && eqb (place_of (rotations ! k) rotations) k

-- the rotations' places: what stands at a value's place is the value, and an entry's place is its own
places : (v : ℕ) → v < 16 → (place_of v rotations < 16) × (rotations ! place_of v rotations ≡ v) × (place_of (rotations ! v) rotations ≡ v)
unfolding rotations running_sum a
places v h =
    let e = and_split _ _ (every_at 16 once_at refl v h) in
    let f = and_split _ _ e.0 in
    (ltb-true _ _ f.0, eqb-true _ _ f.1, eqb-true _ _ e.1)

once : (v : ℕ) → v < 16 → (i : ℕ) × (i < 16) × (rotations ! i ≡ v) × ((j : ℕ) → j < 16 → rotations ! j ≡ v → j ≡ i)
once v h =
    let p = places v h in
    (place_of v rotations, p.0, p.1, λ j k e. sym (places j k).2 ∙ ap (λ (w : ℕ). place_of w rotations) e)

are : rotations ≡ 5 ∷ 10 ∷ 15 ∷ 4 ∷ 7 ∷ 14 ∷ 3 ∷ 8 ∷ 13 ∷ 2 ∷ 9 ∷ 12 ∷ 1 ∷ 6 ∷ 11 ∷ 0 ∷ []
unfolding rotations running_sum a
are = refl

pub rotations_once : Rotations
rotations_once = record { are = are; once = once }

pub last_line : LastLine
unfolding table_line spaced rotations running_sum a hex_digit
last_line = refl

-- ---- a loop that stores each index at what S has there

-- the places of S's first i bytes have their indexes
pub record Placed (out : List ℕ) (i : ℕ) : Type 0 where
  pub long : length out ≡ 256
  pub at : (j : ℕ) → j < i → out ! (S ! j) ≡ j

-- S has no byte twice
apart : (i j : ℕ) → i < 256 → j < 256 → S ! i ≡ S ! j → i ≡ j
apart i j h k e = sym (permuted i h).inverse_s ∙ ap (◌!◌ S⁻¹) e ∙ (permuted j k).inverse_s

pub placed_none : (out : List ℕ) → length out ≡ 256 → Placed out 0
placed_none out l = record { long = l; at = λ j h. omega arith }

pub placed_more : (out : List ℕ) (i : ℕ) → i < 256 → Placed out i → Placed (set out (S ! i) i) (i + 1)
placed_more out i h p = record { long = length-set out (S ! i) i ∙ p.long; at = λ j k. go j (omega arith) (ltb j i) refl }
  where
    go : (j : ℕ) → j ≤ i → (t : Bool) → ltb j i ≡ t → set out (S ! i) i ! (S ! j) ≡ j
    go j k true e =
        let l : j < i = ltb-true j i e in
        get_or-set_other out (S ! i) (S ! j) i 0 (λ (f : S ! j ≡ S ! i). omega (arith, apart j i (omega arith) h f)) ∙ p.at j l
    go j k false e =
        let same : j ≡ i = omega (arith, ltb-false j i e) in
        ap (λ (m : ℕ). set out (S ! i) i ! (S ! m)) same
        ∙ get_or-set_same out (S ! i) i 0 (omega (arith, (permuted i h).s_byte, p.long))
        ∙ sym same

-- all of them: the table is the stored inverse
pub placed_all : (out : List ℕ) → Placed out 256 → out ≡ S⁻¹
placed_all out p =
    sym (spelled 256 out p.long)
    ∙ table_same 256 (λ y. out ! y) (λ y. S⁻¹ ! y) (λ y h. ap (◌!◌ out) (sym (permuted y h).s_inverse) ∙ p.at (S⁻¹ ! y) (permuted y h).inverse_byte)
    ∙ spelled 256 S⁻¹ stored_inverse_length
  where
    stored_inverse_length : length S⁻¹ ≡ 256
    stored_inverse_length = ap length (sym inverse_made) ∙ made_inverse_length

-- ---- the lengths of the text

spaced_length : (t : List ℕ) → length (spaced t) ≡ 3 * length t
unfolding spaced
spaced_length [] = refl
spaced_length (x ∷ t) = omega (arith, spaced_length t)

pub line_length : (t : List ℕ) → length (table_line t) ≡ 48
unfolding table_line
line_length t = simp length-append (omega (arith, spaced_length (part 0 15 t)))

pub lines_length : (n : ℕ) (t : List ℕ) → length (table_lines n t) ≡ 48 * n
unfolding table_lines
lines_length n t = length_each 16 48 table_line line_length t n

pub text_length : length tables_text ≡ 816
unfolding tables_text
text_length = simp length-append (omega (arith, lines_length 16 (inverse S), line_length rotations))
