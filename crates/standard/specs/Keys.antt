-- Responses and derived keys (01, Responses and derived keys; 000, 5.6, 5.7, 5.13, 5.18).
use Rattle.std.specs.Prelude.{Bool, ◌&&◌, not, List, [], ◌∷◌, ◌++◌, ℕ, zero, suc, ◌+◌, ◌-◌, eqb, leb}
use Rattle.standard.specs.Bytes.{◌!◌, byte, bit, ◌⊕◌, table, part, xors, zeros, bytes_of, choose}
use Rattle.standard.specs.Cores.{bl1}
use Rattle.standard.specs.Expansions.{exp2, shr3}
use Rattle.standard.specs.Mixing.{tb4, tb7}
use Rattle.standard.specs.Refusals.{wrong_length, wrong_sides, value_wide, has_length, fits, mask_tests, first, answer10, answer16, authentication, ring_made}
use Rattle.standard.specs.declared.Authentication.{Authentication}
use Rattle.standard.specs.declared.Bytes10.{Bytes10}
use Rattle.standard.specs.declared.Bytes16.{Bytes16}
use Rattle.standard.specs.declared.RingInputs.{RingInputs}
use Rattle.standard.specs.declared.RingMade.{RingMade}

-- ---- TA11, TA21, TA41 (5.6)

-- BL1 of EXP2(seed) under a key of 16 bytes
abbrev pub core : List ℕ → List ℕ → List ℕ
core k seed = bl1 k (exp2 seed)

abbrev pub ta11 : List ℕ → List ℕ → List ℕ
ta11 root seed = core root seed

-- with the seed reversed
abbrev pub ta21 : List ℕ → List ℕ → List ℕ
ta21 root seed = core root (table 10 (λ i. seed ! (9 - i)))

abbrev pub ta41 : List ℕ → List ℕ → List ℕ
ta41 root seed = core root seed

-- ---- TA12, TA22 (5.7): the same core under a session key, the challenge not reversed, split by two masks

-- of the bytes B(n−1)..B0 of sixteen, those whose bit is set in the mask, higher bytes first
abbrev pub chosen_of : ℕ → ℕ → List ℕ → List ℕ
chosen_of zero m o = []
chosen_of (suc i) m o = choose (eqb (bit i m) 1) (byte 16 o i ∷ chosen_of i m o) (chosen_of i m o)

unfoldable pub chosen : ℕ → List ℕ → List ℕ
chosen m o = chosen_of 16 m o

-- the response and the key of an output
abbrev pub split : ℕ → ℕ → List ℕ → Authentication
split rm km o = authentication 0 (chosen rm o) (chosen km o)

-- ---- TA71 (5.13)

-- A9..A4, A3 ⊕ B9 .. A0 ⊕ B6, B5..B0
unfoldable pub ta71_key : List ℕ → List ℕ → List ℕ
ta71_key a b = part 0 6 a ++ table 4 (λ i. a ! (6 + i) ⊕ b ! i) ++ part 4 6 b

unfoldable pub ta71 : List ℕ → List ℕ → List ℕ
ta71 a b = shr3 (core (ta71_key a b) (xors 10 a b))

-- ---- TA101 (5.18): GCK0 ⊕ three copies of the 24-bit network identity and a zero byte

unfoldable pub int : List ℕ → ℕ → List ℕ
int gck0 mni = xors 10 gck0 (bytes_of 3 mni ++ bytes_of 3 mni ++ bytes_of 3 mni ++ 0 ∷ [])

abbrev pub ta101 : List ℕ → List ℕ → ℕ → List ℕ
ta101 ks gck0 mni = core ks (int gck0 mni)

-- ---- the ring recipe: D, O, C, G, and both responses. G is the group key's TB7 form (02, 4). The sides say who proves itself (02, 1):
-- 1 runs TA12 alone, 2 TA22 alone, 3 both

abbrev pub sides_test : ℕ → Bool × ℕ
sides_test sides = (leb 1 sides && leb sides 3, wrong_sides)

-- the outputs of TA12 and TA22 before their split
abbrev pub output1 : RingInputs → List ℕ
output1 x = core (ta11 x.root x.rs) x.rand1

abbrev pub output2 : RingInputs → List ℕ
output2 x = core (ta21 x.root x.rs) x.rand2

-- a half that runs gives its output's response and key, one that does not run zero bytes
abbrev pub half : Bool → ℕ → ℕ → List ℕ → Authentication
half runs rm km o = choose runs (split rm km o) (authentication 0 (zeros 4) (zeros 10))

abbrev pub half1 : RingInputs → Authentication
half1 x = half (not (eqb x.sides 2)) x.response_mask x.key_mask (output1 x)

abbrev pub half2 : RingInputs → Authentication
half2 x = half (not (eqb x.sides 1)) x.response_mask x.key_mask (output2 x)

unfoldable pub ring : RingInputs → List ℕ
ring x = tb4 (half1 x).key (half2 x).key ++ part 0 16 (ta41 x.root x.rso) ++ part 0 10 x.c ++ tb7 x.group_key

-- the tests of the inputs besides their lengths
abbrev pub ring_tests : RingInputs → List (Bool × ℕ)
ring_tests x = sides_test x.sides ∷ mask_tests x.response_mask x.key_mask

abbrev pub ring_answer : ℕ → RingInputs → RingMade
ring_answer r x = ring_made r (ring x) (half1 x).response (half2 x).response

-- the recipe on inputs of the right lengths
unfoldable pub ring_of : RingInputs → RingMade
ring_of x = ring_answer (first (ring_tests x)) x

-- ---- the calls

unfoldable pub ta11_call : List ℕ → List ℕ → Bytes16
ta11_call root seed = answer16 (first ((has_length 16 root && has_length 10 seed, wrong_length) ∷ [])) (ta11 root seed)

unfoldable pub ta21_call : List ℕ → List ℕ → Bytes16
ta21_call root seed = answer16 (first ((has_length 16 root && has_length 10 seed, wrong_length) ∷ [])) (ta21 root seed)

unfoldable pub ta41_call : List ℕ → List ℕ → Bytes16
ta41_call root seed = answer16 (first ((has_length 16 root && has_length 10 seed, wrong_length) ∷ [])) (ta41 root seed)

-- session key, challenge, response mask, key mask
unfoldable pub ta12_call : List ℕ → List ℕ → ℕ → ℕ → Authentication
ta12_call ks rand rm km =
    authentication (first ((has_length 16 ks && has_length 10 rand, wrong_length) ∷ mask_tests rm km)) (chosen rm (core ks rand)) (chosen km (core ks rand))

-- the same under TA21's session key
abbrev pub ta22_call : List ℕ → List ℕ → ℕ → ℕ → Authentication
ta22_call ks rand rm km = ta12_call ks rand rm km

unfoldable pub ta71_call : List ℕ → List ℕ → Bytes10
ta71_call a b = answer10 (first ((has_length 10 a && has_length 10 b, wrong_length) ∷ [])) (ta71 a b)

unfoldable pub ta101_call : List ℕ → List ℕ → ℕ → Bytes16
ta101_call ks gck0 mni =
    answer16 (first ((has_length 16 ks && has_length 10 gck0, wrong_length) ∷ (fits 24 mni, value_wide) ∷ [])) (ta101 ks gck0 mni)

-- the seven strings have their lengths
abbrev pub have_lengths : (root rs rso rand1 rand2 c gk : List ℕ) → Bool
have_lengths root rs rso rand1 rand2 c gk =
    has_length 16 root && has_length 10 rs && has_length 10 rso && has_length 10 rand1 && has_length 10 rand2 && has_length 10 c && has_length 12 gk

unfoldable pub ring_call : (root rs rso rand1 rand2 c gk : List ℕ) (sides rm km : ℕ) → RingMade
ring_call root rs rso rand1 rand2 c gk sides rm km =
    let x : RingInputs = record {
      root = root;
      rs = rs;
      rso = rso;
      rand1 = rand1;
      rand2 = rand2;
      c = c;
      group_key = gk;
      sides = sides;
      response_mask = rm;
      key_mask = km;
    } in
    ring_answer (first ((have_lengths root rs rso rand1 rand2 c gk, wrong_length) ∷ ring_tests x)) x
