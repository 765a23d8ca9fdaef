-- What the rounds of the cipher with one register keep, and what they compute on their way to the definitions.
use Rattle.std.specs.Prelude.{List, ℕ, ◌-◌}
use Rattle.hurdle.specs.RoundSteps.{half_bytes}
use Rattle.hurdle.specs.declared.round.Direction.{Direction}
use Rattle.hurdle.specs.declared.round.Direction.TheVariants.{Encrypting, Decrypting}
use Rattle.register.specs.declared.State.{State as Kept}
use Rattle.standard.specs.Register.{State, step, step_back, round_under, onward, backward}

-- a register, and halves that are words
abbrev pub state_of : Kept → State
state_of s = record { register = s.register; halves = half_bytes s.halves }

-- round n + 1 of those of `onward` or `backward`
abbrev pub turn : Direction → ℕ → State → State
turn Encrypting n s = record { register = step n s.register; halves = round_under s.register s.halves }
turn Decrypting n s =
    let q : List ℕ = step_back (15 - n) s.register in
    record { register = q; halves = round_under q s.halves }

-- n rounds
abbrev pub turns : Direction → ℕ → State → State
turns Encrypting n s = onward n s
turns Decrypting n s = backward n s
