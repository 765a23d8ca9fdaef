-- Four lanes side by side.
use Rattle.standard.proofs.Prelude.{◌≡◌, List, ℕ, zero, suc, ◌<◌, arith, length}
use Rattle.std.specs.Prelude.{slice_index_or}
use Rattle.std.proofs.lemmas.List.{ext_get_or}
use Rattle.hurdle.specs.Lanes.{lanes, each_lane}

-- four values are known by the value in each lane
pub by_lanes : {A : Type 0} (d : A) (xs : List A) (g : ℕ → A) → length xs ≡ 4 → each_lane (λ j. slice_index_or xs j d ≡ g j) → xs ≡ lanes g
by_lanes d xs g n e = ext_get_or d xs (lanes g) n at
  where
    at : (i : ℕ) → i < length xs → slice_index_or xs i d ≡ slice_index_or (lanes g) i d
    at zero h = e.0
    at (suc zero) h = e.1
    at (suc (suc zero)) h = e.2
    at (suc (suc (suc zero))) h = e.3
    at (suc (suc (suc (suc i)))) h = absurd (omega (arith, n))
