-- Four lanes side by side: a value in each.
use Rattle.std.specs.Prelude.{ℕ, List, [], ◌∷◌, slice_index_or}
use Rattle.std.specs.Borrow.{Bor}

-- the array that has g j in lane j
abbrev pub lanes : {A : Type 0} → (ℕ → A) → List A
lanes g = g 0 ∷ g 1 ∷ g 2 ∷ g 3 ∷ []

-- the string in lane j
abbrev pub lane : List (List ℕ) → ℕ → List ℕ
lane xs j = slice_index_or xs j []

-- what holds in each lane
abbrev pub each_lane : (ℕ → Type 0) → Type 0
each_lane P = P 0 × P 1 × P 2 × P 3

-- of four strings that are lent, lane j's
abbrev pub lent : List (Bor (List ℕ)) → ℕ → List ℕ
lent ks j = (slice_index_or ks j (record { ref_ptr = (0, 0); now = [] })).now
