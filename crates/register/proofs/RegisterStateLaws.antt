-- The code turns the register and the halves as the definitions do.
use Rattle.standard.proofs.Prelude.{◌≡◌, refl, sym, ap, ap₂, ◌∙◌, List, ◌++◌, ℕ, ◌+◌, ◌-◌, ◌<◌, mod-eq_of_lt, add-one, length}
use Rattle.hurdle.proofs.RoundLaws.{round_word}
use Rattle.hurdle.specs.RoundSteps.{bytes4, half_bytes, round_over, spreads, HalvesOf, place}
use Rattle.hurdle.specs.declared.round.Direction.{Direction}
use Rattle.hurdle.specs.declared.round.Direction.TheVariants.{Encrypting, Decrypting}
use Rattle.hurdle.specs.declared.round.Halves.{Halves as Words}
use Rattle.standard.proofs.RegisterLaws.{same_cipher}
use Rattle.standard.specs.Bytes.{part}
use Rattle.standard.specs.Hurdle.{S, Halves, crypt, encrypt, decrypt, round_key, schedule}
use Rattle.standard.specs.Register.{State, step, step_back, turned, round_under, onward, backward, encrypt_register, decrypt_register}
use Rattle.register.specs.declared.State.{State as Kept}
use Rattle.register.specs.RegisterStates.{state_of, turn, turns}

abbrev state : List ℕ → Halves → State
state q h = record { register = q; halves = h }

-- a round on words
under : (q : List ℕ) (h o : Words) → o ≡ round_over S spreads (part 4 12 q) h → half_bytes o ≡ round_under q (half_bytes h)
under q h o e = ap half_bytes e ∙ round_word (part 4 12 q) h

-- a round, and its step
pub turned_on : (i : ℕ) (s : Kept) (q : List ℕ) (o : Words) → q ≡ step i s.register → o ≡ round_over S spreads (part 4 12 s.register) s.halves
    → state_of (record { register = q; halves = o }) ≡ turn Encrypting i (state_of s)
turned_on i s q o e r = ap₂ state e (under s.register s.halves o r)

-- a step back, and a round
pub turned_back : (i : ℕ) (s : Kept) (q : List ℕ) (o : Words) → q ≡ step_back (15 - i) s.register → o ≡ round_over S spreads (part 4 12 q) s.halves
    → state_of (record { register = q; halves = o }) ≡ turn Decrypting i (state_of s)
turned_back i s q o e r = ap₂ state e (under q s.halves o r ∙ ap (λ (x : List ℕ). round_under x (half_bytes s.halves)) e)

pub turns_none : (d : Direction) (s : State) → s ≡ turns d 0 s
unfolding onward backward
turns_none Encrypting s = refl
turns_none Decrypting s = refl

-- one round more
pub turn_more : (d : Direction) (i : ℕ) (s t : State) {u : State} → u ≡ turn d i t → t ≡ turns d i s → u ≡ turns d (i + 1) s
unfolding onward backward
turn_more Encrypting i s t e p = e ∙ ap (turn Encrypting i) p ∙ ap (λ (n : ℕ). onward n s) (sym (add-one i))
turn_more Decrypting i s t e p = e ∙ ap (turn Decrypting i) p ∙ ap (λ (n : ℕ). backward n s) (sym (add-one i))

-- one step of the register, of the first sixteen
pub step_more : (i : ℕ) (key q : List ℕ) {p : List ℕ} → i < 16 → q ≡ turned key i → p ≡ step i q → p ≡ turned key (i + 1)
unfolding turned
step_more i key q h e p = p ∙ ap (step i) e ∙ rw (add-one, mod-eq_of_lt h)

-- the halves after the rounds, from those of the block: of encryption under any key
pub encrypted : (key b : List ℕ) {out : List ℕ} {h : Words} (s : Kept) → HalvesOf b h
    → state_of s ≡ onward 16 (state_of (record { register = key; halves = h })) → out ≡ bytes4 s.halves.r ++ bytes4 s.halves.l → out ≡ encrypt key b
unfolding encrypt_register
encrypted key b s e p j =
    j ∙ ap (λ (t : State). t.halves.1 ++ t.halves.0) (p ∙ ap₂ (λ (x y : List ℕ). onward 16 (state key (x, y))) e.left e.right)
    ∙ same_cipher.encrypting key b

-- and in either direction
pub crypted : (d : Direction) (key b : List ℕ) {out : List ℕ} {h : Words} (s : Kept) → length key ≡ 16 → HalvesOf b h
    → state_of s ≡ turns d 16 (state_of (record { register = key; halves = h })) → out ≡ bytes4 s.halves.r ++ bytes4 s.halves.l
    → out ≡ crypt (λ i. round_key (schedule key) (place d i)) b
unfolding encrypt_register decrypt_register encrypt decrypt
crypted Encrypting key b s k e p j = encrypted key b s e p j
crypted Decrypting key b s k e p j =
    j ∙ ap (λ (t : State). t.halves.1 ++ t.halves.0) (p ∙ ap₂ (λ (x y : List ℕ). backward 16 (state key (x, y))) e.left e.right)
    ∙ same_cipher.decrypting key b k
