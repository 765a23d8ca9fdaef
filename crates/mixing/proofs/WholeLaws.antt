-- What TB2 answers is its input.
use Rattle.standard.proofs.Prelude.{◌≡◌, refl, sym, ap, Bool, true, false, List, ℕ}
use Rattle.std.specs.Prelude.{Result, Ok, Err}
use Rattle.standard.proofs.BytesLaws.{length_spelled}
use Rattle.standard.specs.Answers.{bytes16, exactly}
use Rattle.standard.specs.Bytes.{choose, part}
use Rattle.standard.specs.Mixing.{tb2_call}
use Rattle.standard.specs.Refusals.{has_length, wrong_length, answer16}
use Rattle.standard.specs.declared.Refusal.{Refusal}
use Rattle.standard.specs.declared.Refusal.TheVariants.{WrongLength}

by_length : (xs : List ℕ) (t : Bool) → has_length 16 xs ≡ t → bytes16 (choose t (Ok xs) (Err WrongLength)) ≡ answer16 (choose t 0 wrong_length) (part 0 16 xs)
by_length xs true h = ap (λ (b : List ℕ). bytes16 (Ok b)) (sym (length_spelled 16 xs h))
by_length xs false h = refl

pub input_answered : (xs : List ℕ) {r : Result (List ℕ) Refusal} → r ≡ exactly 16 xs → bytes16 r ≡ tb2_call xs
unfolding tb2_call
input_answered xs e = rw e (by_length xs _ refl)
