-- The ring recipe with any expansion of ten bytes to sixteen gives a ring of bytes.
use Rattle.standard.proofs.Prelude.{refl, Bool, true, false, not, List, [], ◌∷◌, ℕ, zero, suc, ◌-◌, ◌<◌, arith, eqb, length}
use Rattle.standard.specs.Bytes.{◌!◌, byte, bit, choose, Bytes}
use Rattle.standard.specs.Cores.{bl1}
use Rattle.standard.specs.Keys.{chosen_of, chosen, half}
use Rattle.standard.specs.Sizes.{ring_size}
use Rattle.standard.specs.declared.RingInputs.{RingInputs}
use Rattle.standard.proofs.BytesLaws.{bytes_table, bytes_append, bytes_part, bytes_xors}
use Rattle.standard.proofs.ExpansionLaws.{bytes_grouped}
use Rattle.claims.specs.Variants.{reversed, ring_with, InputBytes}
use Rattle.claims.proofs.BlockLaws.{bl1_inverse}

-- ---- what a mask chooses of bytes is bytes

cons_choose : (t : Bool) (x : ℕ) (xs : List ℕ) → x < 256 → ((i : ℕ) → xs ! i < 256) → (i : ℕ) → choose t (x ∷ xs) xs ! i < 256
cons_choose true x xs h k zero = h
cons_choose true x xs h k (suc i) = k i
cons_choose false x xs h k i = k i

chosen_of_lem : (n m : ℕ) (o : List ℕ) → ((i : ℕ) → o ! i < 256) → (i : ℕ) → chosen_of n m o ! i < 256
chosen_of_lem zero m o h i = omega arith
chosen_of_lem (suc n) m o h i = cons_choose (eqb (bit n m) 1) (byte 16 o n) (chosen_of n m o) (h (16 - suc n)) (chosen_of_lem n m o h) i

half_bytes_lem : (t : Bool) (rm km : ℕ) (o : List ℕ) → Bytes 16 o → Bytes (length (half t rm km o).key) (half t rm km o).key
unfolding chosen
half_bytes_lem true rm km o h = record { len = refl; bound = chosen_of_lem 16 km o h.bound }
half_bytes_lem false rm km o h = bytes_table 10 (λ j. 0) (λ j. omega arith)

-- ---- the ring

pub reversed_bytes : (c : List ℕ) → Bytes 10 c → Bytes 10 (reversed c)
reversed_bytes c h = bytes_table 10 (λ i. c ! (9 - i)) (λ i. h.bound (9 - i))

pub ring_bytes : (expand turn : List ℕ → List ℕ) → ((b : List ℕ) → Bytes 10 b → Bytes 16 (expand b)) → ((c : List ℕ) → Bytes 10 c → Bytes 10 (turn c))
    → (x : RingInputs) → InputBytes x → Bytes ring_size (ring_with expand turn x)
unfolding ring_with
ring_bytes expand turn he ht x h =
    let core : (k b : List ℕ) → Bytes 10 b → Bytes 16 (bl1 k (expand b)) = λ k b hb. (bl1_inverse k).to (expand b) (he b hb) in
    let half₁ = core (bl1 x.root (expand x.rs)) x.rand1 h.rand1 in
    let half₂ = core (bl1 x.root (expand (reversed x.rs))) (turn x.rand2) (ht x.rand2 h.rand2) in
    bytes_append (bytes_append (bytes_append
    (bytes_xors 10
    (half_bytes_lem (not (eqb x.sides 2)) x.response_mask x.key_mask _ half₁)
    (half_bytes_lem (not (eqb x.sides 1)) x.response_mask x.key_mask _ half₂))
    (bytes_part 0 16 (core x.root x.rso h.rso))) (bytes_part 0 10 h.c))
    (bytes_grouped h.group_key (3 ∷ 3 ∷ 3 ∷ 3 ∷ []) 0)
