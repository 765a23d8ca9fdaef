-- One-sided authentication (02, 1): the ring recipe by its sides, stated. The proofs are in proofs/FactLaws.
use Rattle.std.specs.Prelude.{List, ◌∷◌, ◌++◌, ◌≡◌, ℕ, length}
use Rattle.standard.specs.Bytes.{zeros}
use Rattle.standard.specs.Keys.{ta11, ta21, ta41, ta12_call, ta22_call, have_lengths, ring_call}
use Rattle.standard.specs.Mixing.{tb4, tb7}
use Rattle.standard.specs.Refusals.{wrong_length, mask_tests, first, ring_made}
use Rattle.standard.specs.declared.Authentication.{Authentication}

-- with 3 sides the whole answer is 01's recipe: the ring is TB4 of both sides' keys, TA41 of the root and RSO, C, and the group key's TB7
-- form (02, 4), and each side's response stands beside it
abbrev pub BothSides : Type 0
BothSides = (root rs rso rand1 rand2 c gk : List ℕ) (rm km : ℕ)
    → let a : Authentication = ta12_call (ta11 root rs) rand1 rm km in
    let b : Authentication = ta22_call (ta21 root rs) rand2 rm km in
    ring_call root rs rso rand1 rand2 c gk 3 rm km
    ≡ ring_made (first ((have_lengths root rs rso rand1 rand2 c gk, wrong_length) ∷ mask_tests rm km))
    (tb4 a.key b.key ++ ta41 root rso ++ c ++ tb7 gk) a.response b.response

-- with one side, the whole answer is the same recipe, but that the other side gives ten zero bytes to TB4 and a response of four
pub record OneSide : Type 0 where
  pub ta12_alone : (root rs rso rand1 rand2 c gk : List ℕ) (rm km : ℕ)
      → let a : Authentication = ta12_call (ta11 root rs) rand1 rm km in
      ring_call root rs rso rand1 rand2 c gk 1 rm km
      ≡ ring_made (first ((have_lengths root rs rso rand1 rand2 c gk, wrong_length) ∷ mask_tests rm km))
      (tb4 a.key (zeros 10) ++ ta41 root rso ++ c ++ tb7 gk) a.response (zeros 4)
  pub ta22_alone : (root rs rso rand1 rand2 c gk : List ℕ) (rm km : ℕ)
      → let b : Authentication = ta22_call (ta21 root rs) rand2 rm km in
      ring_call root rs rso rand1 rand2 c gk 2 rm km
      ≡ ring_made (first ((have_lengths root rs rso rand1 rand2 c gk, wrong_length) ∷ mask_tests rm km))
      (tb4 (zeros 10) b.key ++ ta41 root rso ++ c ++ tb7 gk) (zeros 4) b.response

-- with one side, nothing but the length of the other side's challenge is looked at: two that are equally long give the same answer
pub record IdleChallenge : Type 0 where
  pub ta12_alone : (root rs rso rand1 c gk : List ℕ) (rm km : ℕ) (x y : List ℕ) → length x ≡ length y
      → ring_call root rs rso rand1 x c gk 1 rm km ≡ ring_call root rs rso rand1 y c gk 1 rm km
  pub ta22_alone : (root rs rso rand2 c gk : List ℕ) (rm km : ℕ) (x y : List ℕ) → length x ≡ length y
      → ring_call root rs rso x rand2 c gk 2 rm km ≡ ring_call root rs rso y rand2 c gk 2 rm km
