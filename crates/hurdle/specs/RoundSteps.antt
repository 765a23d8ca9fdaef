-- What the steps of a round compute, on words of 32 bits, on their way to the definitions.
use Rattle.std.specs.Prelude.{◌≡◌, ℕ, zero, suc, ◌+◌, ◌-◌, ◌*◌, ◌/◌, ◌%◌, ◌^◌, ◌&&◌, List, [], ◌∷◌, map, slice_index_or}
use Rattle.hurdle.specs.declared.round.Direction.{Direction}
use Rattle.hurdle.specs.declared.round.Direction.TheVariants.{Encrypting, Decrypting}
use Rattle.hurdle.specs.declared.round.Halves.{Halves as Words}
use Rattle.hurdle.specs.declared.round.Part.{Part}
use Rattle.standard.specs.Bytes.{◌!◌, byte, bit, ◌⊕◌, ◌⊞◌, table, part}
use Rattle.standard.specs.Hurdle.{S, E, Halves, crypt, schedule, round_key}
use Rattle.standard.specs.Refusals.{wrong_length, has_length, first, answer8}
use Rattle.standard.specs.declared.Bytes8.{Bytes8}

-- the four bytes of a word, leftmost first
abbrev pub bytes4 : ℕ → List ℕ
bytes4 w = w / 2 ^ 24 % 256 ∷ w / 2 ^ 16 % 256 ∷ w / 2 ^ 8 % 256 ∷ w % 256 ∷ []

-- the place of the round key that round i takes
abbrev pub place : Direction → ℕ → ℕ
place Encrypting i = i
place Decrypting i = 15 - i

-- the lowest bit of byte n is bit n of t
abbrev pub spread_of : ℕ → ℕ
spread_of t = bit 0 t + 256 * bit 1 t + 65536 * bit 2 t + 16777216 * bit 3 t

-- S's entries, spread
unfoldable pub spreads : List ℕ
spreads = map spread_of S

-- ---- f over tables s and w in the places of S and of its spread bits, which the code lends

-- the index in s of link j, of those after the byte t: each takes s at the index before
abbrev pub linked : (s : List ℕ) (t : ℕ) (e k : ℕ → ℕ) → ℕ → ℕ
linked s t e k zero = (e 0 ⊞ k 0) ⊕ t
linked s t e k (suc j) = (e (suc j) ⊞ k (suc j)) ⊕ s ! (linked s t e k j)

-- the indexes of links n to n + 3 of f's chain, after the byte t
unfoldable pub links_over : (s : List ℕ) (t : ℕ) (x k : List ℕ) → ℕ → List ℕ
links_over s t x k n = table 4 (linked s t (λ j. E x (j + n)) (λ j. byte 12 k (j + n)))

-- s and w at the index i
abbrev pub link_over : (s w : List ℕ) → ℕ → Part
link_over s w i = record { t = s ! i; y = w ! i }

-- the byte of the chain after four links
abbrev pub last_over : (s i : List ℕ) → ℕ
last_over s i = s ! (i ! 3)

-- the sum of w at four indexes, each one bit further left
abbrev pub nibbles_over : (w i : List ℕ) → ℕ
nibbles_over w i = (w ! (i ! 0) + 2 * w ! (i ! 1) + 4 * w ! (i ! 2) + 8 * w ! (i ! 3)) % 4294967296

-- both
abbrev pub four_over : (s w i : List ℕ) → Part
four_over s w i = record { t = last_over s i; y = nibbles_over w i }

-- T3
abbrev pub first_over : (s x k : List ℕ) → ℕ
first_over s x k = last_over s (links_over s 0 x k 0)

-- T7 and the bits of T4 to T7, after t
unfoldable pub second_over : (s w : List ℕ) (t : ℕ) (x k : List ℕ) → Part
second_over s w t x k = four_over s w (links_over s t x k 4)

-- with the bits of T8 to T11
unfoldable pub third_over : (s w : List ℕ) → Part → (x k : List ℕ) → ℕ
third_over s w p x k = (p.y + 16 * nibbles_over w (links_over s p.t x k 8)) % 4294967296

unfoldable pub f_over : (s w x k : List ℕ) → ℕ
f_over s w x k = third_over s w (second_over s w (first_over s x k) x k) x k

-- the halves exchanged, after the left one ⊕ y
abbrev pub exchanged_by : Words → ℕ → Words
exchanged_by h y = record { l = h.r; r = h.l ⊕ y }

abbrev pub round_over : (s w k : List ℕ) → Words → Words
round_over s w k h = exchanged_by h (f_over s w (bytes4 h.r) k)

-- n rounds
unfoldable pub rounds_over : Direction → List ℕ → ℕ → Words → Words
rounds_over d keys zero h = h
rounds_over d keys (suc n) h = round_over S spreads (round_key keys (place d n)) (rounds_over d keys n h)

-- of four pairs of halves, lane j's
abbrev pub halves_at : List Words → ℕ → Words
halves_at hs j = slice_index_or hs j (record { l = 0; r = 0 })

-- the bytes of both halves
abbrev pub half_bytes : Words → Halves
half_bytes h = (bytes4 h.l, bytes4 h.r)

-- the words are the halves of a block
pub record HalvesOf (b : List ℕ) (h : Words) : Type 0 where
  pub left : bytes4 h.l ≡ part 0 4 b
  pub right : bytes4 h.r ≡ part 4 4 b

-- the call in either direction
unfoldable pub crypt_call : List ℕ → List ℕ → Direction → Bytes8
crypt_call key block d =
    answer8 (first ((has_length 16 key && has_length 8 block, wrong_length) ∷ [])) (crypt (λ i. round_key (schedule key) (place d i)) block)
