-- The line about an answer: none is longer than a line may be; and the ways in which the line is made.
use Rattle.standard.proofs.Prelude.{◌≡◌, refl, sym, ap, ◌∙◌, Bool, true, false, ◌&&◌, List, [], ◌∷◌, ◌++◌, ℕ, ◌≤◌, arith, eqb, leb, length, length-append}
use Rattle.standard.proofs.Prelude.{eq-eqb, ne_eqb, leb-true}
use Rattle.standard.proofs.BytesLaws.{and_split}
use Rattle.standard.specs.Bytes.{choose}
use Rattle.standard.specs.Programs.{beside, meanings, meaning, meaning_text, wrote_text, answer_text, answer_line, counted_line}
use Rattle.standard.specs.declared.BookAnswer.{BookAnswer}
use Rattle.standard.specs.declared.CountedAnswer.{CountedAnswer}
use Rattle.lines.proofs.TextLaws.{digits_few}
use Rattle.lines.proofs.LineLaws.{line_none, line_cons, line_append, line_whole}
use Rattle.lines.specs.LineStates.{room, ◌▸◌}

-- ---- lengths

abbrev all_short : List (ℕ × List ℕ) → Bool
all_short [] = true
all_short (t ∷ ts) = leb (length t.1) 34 && all_short ts

beside_short : (n : ℕ) (ts : List (ℕ × List ℕ)) → all_short ts ≡ true → length (beside n ts) ≤ 34
beside_short n [] e = omega arith
beside_short n (t ∷ ts) e = go (eqb n t.0) (and_split _ _ e) (λ h. beside_short n ts h)
  where
    go : (b : Bool) → (leb (length t.1) 34 ≡ true) × (all_short ts ≡ true) → (all_short ts ≡ true → length (beside n ts) ≤ 34)
        → length (choose b t.1 (beside n ts)) ≤ 34
    go true s k = leb-true _ _ s.0
    go false s k = k s.1

meaning_short : (n : ℕ) → length (meaning n) ≤ 34
unfolding meaning
meaning_short n = beside_short n meanings refl

answer_short : (refusal index written : ℕ) → length (answer_text refusal index written) ≤ 89
unfolding answer_text meaning_text wrote_text
answer_short refusal index written = go (eqb refusal 0)
  where
    go : (b : Bool) → length (choose b (wrote_text written) (meaning_text refusal index)) ≤ 89
    go true = simp length-append (omega (arith, digits_few 20 written))
    go false = simp length-append (omega (arith, digits_few 20 refusal, digits_few 20 index, meaning_short refusal))

pub answer_line_short : (a : BookAnswer) → length (answer_line a) ≤ room
unfolding answer_line
answer_line_short a = simp length-append (omega (arith, answer_short a.refusal a.index a.written))

pub counted_line_short : (a : CountedAnswer) → length (counted_line a) ≤ room
unfolding counted_line
counted_line_short a = simp length-append (omega (arith, answer_short a.refusal a.index a.written, digits_few 20 a.runs))

-- what such a line follows from
pub ruleset line_steps = (line_none, line_cons, line_append, line_whole, answer_line_short, counted_line_short)

-- ---- the meaning

-- the text beside a number that the code knows
pub said : (ts : List (ℕ × List ℕ)) (l : List ℕ) (n k : ℕ) {t r : List ℕ} → n ≡ k → r ≡ l ▸ t → t ≡ beside k ts → r ≡ l ▸ beside n ts
said ts l n k e f g = f ∙ ap (λ (t : List ℕ). l ▸ t) (g ∙ ap (λ (j : ℕ). beside j ts) (sym e))

-- what a `match` over the list's numbers knows in its last arm: what was known before, and for each number that n is another
abbrev pub Rest : Type 0 → ℕ → List (ℕ × List ℕ) → Type 0
Rest K n [] = K
Rest K n (t ∷ ts) = Rest (K × (n ≡ t.0 → ⊥)) n ts

before : (K : Type 0) (n : ℕ) (ts : List (ℕ × List ℕ)) → Rest K n ts → K
before K n [] r = r
before K n (t ∷ ts) r = (before (K × (n ≡ t.0 → ⊥)) n ts r).0

beside_rest : (K : Type 0) (n : ℕ) (ts us : List (ℕ × List ℕ)) → Rest K n ts → beside n (ts ++ us) ≡ beside n us
beside_rest K n [] us r = refl
beside_rest K n (t ∷ ts) us r =
    let other = (before (K × (n ≡ t.0 → ⊥)) n ts r).1 in
    ap (λ (b : Bool). choose b t.1 (beside n (ts ++ us))) (ne_eqb n t.0 other) ∙ beside_rest (K × (n ≡ t.0 → ⊥)) n ts us r

-- the text beside a number that is not in the list's front
pub unsaid : (ts us : List (ℕ × List ℕ)) (K : Type 0) (l : List ℕ) (n : ℕ) {r : List ℕ} → Rest K n ts → r ≡ l ▸ beside n us → r ≡ l ▸ beside n (ts ++ us)
unsaid ts us K l n u f = f ∙ ap (λ (t : List ℕ). l ▸ t) (sym (beside_rest K n ts us u))

-- ---- refused or not

module _ (refusal index written : ℕ) where
  pub answer_refused : (refusal ≡ 0 → ⊥) → answer_text refusal index written ≡ meaning_text refusal index
  unfolding answer_text
  answer_refused r = rw (ne_eqb _ _ r)

  pub answer_wrote : refusal ≡ 0 → answer_text refusal index written ≡ wrote_text written
  unfolding answer_text
  answer_wrote z = rw (eq-eqb _ _ z)
