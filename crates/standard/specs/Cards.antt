-- Smudged key cards (02, 11): a group key in its TB7 form, of which some bytes can't be read.
-- The card's bytes are B15 to B0, from the left, in groups of four. Bit i of the mask m is set exactly if Bi is unreadable.
use Rattle.std.specs.Prelude.{Bool, not, ◌&&◌, ◌||◌, List, [], ◌∷◌, ℕ, zero, suc, ◌+◌, ◌-◌, ◌*◌, ◌/◌, eqb, leb}
use Rattle.standard.specs.Bytes.{◌!◌, bit, table, choose}
use Rattle.standard.specs.Expansions.{xor_of, ungrouped}
use Rattle.standard.specs.Refusals.{wrong_length, group_unreadable, group_disagrees, has_length, first, card}
use Rattle.standard.specs.declared.Card.{Card}

-- the byte at index i from the left, B(15 − i), is unreadable
abbrev pub unreadable : ℕ → ℕ → Bool
unreadable m i = eqb (bit (15 - i) m) 1

-- the readable bytes, and 0 in the place of the others: all that is looked at of a card x
unfoldable pub readable : List ℕ → ℕ → List ℕ
readable x m = table 16 (λ i. choose (unreadable m i) 0 (x ! i))

-- ---- a group, the four bytes from index a on

-- how many of the n bytes from index a on are unreadable
abbrev pub erasures_on : ℕ → ℕ → ℕ → ℕ
erasures_on m a zero = 0
erasures_on m a (suc n) = bit (15 - a) m + erasures_on m (suc a) n

abbrev pub erasures : ℕ → ℕ → ℕ
erasures m a = erasures_on m a 4

-- the ⊕ of the readable bytes. The ⊕ of a whole group is 0, so where one byte is unreadable, this is what it was
abbrev pub group_parity : List ℕ → ℕ → ℕ
group_parity r a = xor_of a 4 r

-- at most one byte is unreadable
abbrev pub at_most_one : ℕ → ℕ → Bool
at_most_one m a = leb (erasures m a) 1

-- where all four are readable, the fourth is the ⊕ of the three before it
abbrev pub agrees : List ℕ → ℕ → ℕ → Bool
agrees r m a = not (eqb (erasures m a) 0) || eqb (group_parity r a) 0

abbrev pub every_group : (ℕ → Bool) → Bool
every_group t = t 0 && t 4 && t 8 && t 12

-- ---- the card, from its readable bytes r

-- each unreadable byte is the ⊕ of the others in its group
unfoldable pub restored : List ℕ → ℕ → List ℕ
restored r m = table 16 (λ i. choose (unreadable m i) (group_parity r (4 * (i / 4))) (r ! i))

-- the key of a TB7 form: the first three bytes of each group
abbrev pub key_of : List ℕ → List ℕ
key_of y = ungrouped (3 ∷ 3 ∷ 3 ∷ 3 ∷ []) 0 y

-- the call: 11, then 18 in any group, then 19 in any
unfoldable pub restore_call : List ℕ → ℕ → Card
restore_call x m =
    let r = readable x m in
    card (first ((has_length 16 x, wrong_length) ∷ (every_group (at_most_one m), group_unreadable) ∷ (every_group (agrees r m), group_disagrees) ∷ []))
    (key_of (restored r m)) (restored r m)
