-- What masks that no test refuses have.
use Rattle.std.specs.Prelude.{◌≡◌, ℕ}
use Rattle.std.specs.Int.Count.{ones}

-- four ones for the response, ten for the key
abbrev pub Counted : ℕ → ℕ → Type 0
Counted rm km = (ones rm ≡ 4) × (ones km ≡ 10)
