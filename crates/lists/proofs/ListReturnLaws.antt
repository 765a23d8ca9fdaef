-- The ways in which a call on a list returns: `head` is the refusal by its tests, g the fault of each of n records.
use Rattle.standard.proofs.Prelude.{◌≡◌, sym, ap, ◌∙◌, Bool, List, ◌++◌, ℕ, ◌*◌, ◌<◌, arith, drop, ne_eqb, eqb-false}
use Rattle.standard.proofs.AnswerLaws.{accepted, first_fault_lem, first_one}
use Rattle.standard.proofs.RefusalLaws.{not_zero}
use Rattle.standard.specs.Answers.{refusal_number}
use Rattle.standard.specs.Lists.{refused, answer, records_call, first_fault}
use Rattle.standard.specs.Refusals.{first}
use Rattle.standard.specs.declared.Refusal.{Refusal}
use Rattle.lists.specs.Walks.{Clean, FirstFault}

no_zero : (refusal : Refusal) → refusal_number refusal ≡ 0 → ⊥
no_zero refusal = eqb-false _ _ (not_zero refusal)

-- where a walk stopped is the first fault
number_first : (n : ℕ) (g : ℕ → ℕ) {index : ℕ} → index < n → Clean g index → (g index ≡ 0 → ⊥) → index ≡ first_fault n g
number_first n g within before some =
    first_one (record { within = omega (arith, within); below = before; stop = λ l z. some z }) (first_fault_lem n g)

pub stopped_first : (n : ℕ) (g : ℕ → ℕ) {refusal : Refusal} {index : ℕ} → FirstFault n g refusal index → index ≡ first_fault n g
stopped_first n g {refusal} s = number_first n g s.within s.before (λ z. no_zero refusal (s.fault ∙ z))

-- of any number that is not 0, and then of a refusal's
module _ (head n : ℕ) (g : ℕ → ℕ) (bytes : ℕ) where
  pub number_refused : (head ≡ 0 → ⊥) → refused head 0 ≡ answer head n g bytes
  unfolding answer
  number_refused z = rw (ne_eqb head 0 z)

  pub answer_refused : (refusal : Refusal) → refusal_number refusal ≡ head → refused (refusal_number refusal) 0 ≡ answer head n g bytes
  answer_refused refusal e = ap (λ (m : ℕ). refused m 0) e ∙ number_refused (λ z. no_zero refusal (e ∙ z))

  pub number_stopped : 0 ≡ head → (fault index : ℕ) → index < n → Clean g index → fault ≡ g index → (fault ≡ 0 → ⊥)
      → refused fault index ≡ answer head n g bytes
  unfolding answer
  number_stopped z fault index within before e some =
      let at : index ≡ first_fault n g = number_first n g within before (λ y. some (e ∙ y)) in
      rw (← z, ← at, ne_eqb index n (λ y. omega (arith, within)), e)

  pub answer_stopped : 0 ≡ head → (refusal : Refusal) (index : ℕ) → FirstFault n g refusal index
      → refused (refusal_number refusal) index ≡ answer head n g bytes
  answer_stopped z refusal index s = number_stopped z (refusal_number refusal) index s.within s.before s.fault (no_zero refusal)

  pub answer_done : 0 ≡ head → Clean g n → record { refusal = 0; index = n; written = bytes } ≡ answer head n g bytes
  answer_done z none = sym (accepted head n g bytes (sym z) none)

-- the same of a call that writes
module _ (tests : List (Bool × ℕ)) (n : ℕ) (g : ℕ → ℕ) (v : ℕ) (made out : List ℕ) where
  pub number_call_refused : (number : ℕ) → number ≡ first tests → (number ≡ 0 → ⊥) → (refused number 0, out) ≡ records_call tests n g v made out
  unfolding records_call
  number_call_refused number e z =
      rw e (rw (← number_refused (first tests) n g (v * n) (λ y. z (e ∙ y)), ne_eqb (first tests) 0 (λ y. z (e ∙ y))))

  pub call_refused : (refusal : Refusal) → refusal_number refusal ≡ first tests
      → (refused (refusal_number refusal) 0, out) ≡ records_call tests n g v made out
  call_refused refusal e = number_call_refused (refusal_number refusal) e (no_zero refusal)

  pub number_call_stopped : 0 ≡ first tests → (fault index : ℕ) → index < n → Clean g index → fault ≡ g index → (fault ≡ 0 → ⊥)
      → (refused fault index, out) ≡ records_call tests n g v made out
  unfolding records_call
  number_call_stopped z fault index within before e some =
      rw (← number_stopped (first tests) n g (v * n) z fault index within before e some, ne_eqb fault 0 some)

  pub call_stopped : 0 ≡ first tests → (refusal : Refusal) (index : ℕ) → FirstFault n g refusal index
      → (refused (refusal_number refusal) index, out) ≡ records_call tests n g v made out
  call_stopped z refusal index s = number_call_stopped z (refusal_number refusal) index s.within s.before s.fault (no_zero refusal)

  pub call_done : 0 ≡ first tests → Clean g n
      → (record { refusal = 0; index = n; written = v * n }, made ++ drop (v * n) out) ≡ records_call tests n g v made out
  unfolding records_call
  call_done z none = rw (← answer_done (first tests) n g (v * n) z none)
