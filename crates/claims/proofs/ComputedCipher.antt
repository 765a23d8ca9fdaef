-- HURDLE-II and the cores as examples compute them: the definition reads T at each bit of f's output, and each T the chain before it;
-- here the chain is made once for a round.
use Rattle.standard.proofs.Prelude.{◌≡◌, refl, ap, ◌∙◌, List, [], ◌∷◌, ◌++◌, ℕ, zero, suc, ◌+◌, ◌-◌}
use Rattle.standard.specs.Bytes.{◌!◌, byte, bit, ◌⊕◌, ◌⊞◌, part, xors}
use Rattle.standard.specs.Cores.{bl1, bl1_with, bl2}
use Rattle.standard.specs.Hurdle.{S, E, T, of_bits, f, Halves, round, rounds, crypt, schedule, round_key, decrypt}

-- T(j) = t and the n after it
unfoldable pub chain : (x k : List ℕ) (n j t : ℕ) → List ℕ
chain x k zero j t = t ∷ []
chain x k (suc n) j t = t ∷ chain x k n (suc j) (S ! ((E x (suc j) ⊞ byte 12 k (suc j)) ⊕ t))

-- f's bytes from T0 to T11
abbrev pub gathered : List ℕ → List ℕ
gathered ts =
    let y : ℕ → ℕ = λ n. of_bits (λ m. bit n (ts ! (m + 4))) in
    y 3 ∷ y 2 ∷ y 1 ∷ y 0 ∷ []

abbrev pub f_chained : List ℕ → List ℕ → List ℕ
f_chained x k = gathered (chain x k 11 0 (S ! (E x 0 ⊞ byte 12 k 0)))

f_chained_lem : (x k : List ℕ) → f_chained x k ≡ f x k
unfolding chain f T
f_chained_lem x k = refl

-- ---- rounds, block and cores with it

abbrev pub round_chained : List ℕ → Halves → Halves
round_chained k h = (h.1, xors 4 h.0 (f_chained h.1 k))

round_chained_lem : (k : List ℕ) (h : Halves) → round_chained k h ≡ round k h
unfolding round
round_chained_lem k h = ap (λ (y : List ℕ). (h.1, xors 4 h.0 y)) (f_chained_lem h.1 k)

unfoldable pub rounds_chained : (ℕ → List ℕ) → ℕ → Halves → Halves
rounds_chained k zero h = h
rounds_chained k (suc n) h = round_chained (k n) (rounds_chained k n h)

rounds_chained_lem : (k : ℕ → List ℕ) (n : ℕ) (h : Halves) → rounds_chained k n h ≡ rounds k n h
unfolding rounds_chained rounds
rounds_chained_lem k zero h = refl
rounds_chained_lem k (suc n) h = round_chained_lem (k n) _ ∙ ap (round (k n)) (rounds_chained_lem k n h)

abbrev pub crypt_chained : (ℕ → List ℕ) → List ℕ → List ℕ
crypt_chained k b = let h : Halves = rounds_chained k 16 (part 0 4 b, part 4 4 b) in h.1 ++ h.0

crypt_chained_lem : (k : ℕ → List ℕ) (b : List ℕ) → crypt_chained k b ≡ crypt k b
unfolding crypt
crypt_chained_lem k b = ap (λ (h : Halves). h.1 ++ h.0) (rounds_chained_lem k 16 (part 0 4 b, part 4 4 b))

abbrev pub encrypt_chained : List ℕ → List ℕ → List ℕ
encrypt_chained keys = crypt_chained (λ i. round_key keys i)

abbrev pub decrypt_chained : List ℕ → List ℕ → List ℕ
decrypt_chained keys = crypt_chained (λ i. round_key keys (15 - i))

-- both under round keys laid out first
unfoldable pub bl1_chained : List ℕ → List ℕ → List ℕ
bl1_chained keys x =
    let left : List ℕ = encrypt_chained keys (part 0 8 x) in
    let right : List ℕ = encrypt_chained keys (xors 8 (part 8 8 x) left) in
    part 0 8 left ++ part 0 8 right

pub bl1_chained_lem : (k x : List ℕ) → bl1 k x ≡ bl1_chained (schedule k) x
unfolding bl1 bl1_with bl1_chained
bl1_chained_lem k x = rw (← crypt_chained_lem (λ i. round_key (schedule k) i) (part 0 8 x)) (rw (← crypt_chained_lem (λ i. round_key (schedule k) i) _))

unfoldable pub bl2_chained : List ℕ → List ℕ → List ℕ
bl2_chained keys y =
    let r : List ℕ = decrypt_chained keys (part 8 8 y) in
    let w : List ℕ = part 0 7 y ++ (y ! 7 ⊕ r ! 7) ∷ [] in
    part 0 8 (decrypt_chained keys w) ++ xors 7 r (part 0 7 y)

pub bl2_chained_lem : (k y : List ℕ) → bl2 k y ≡ bl2_chained (schedule k) y
unfolding bl2 bl2_chained decrypt
bl2_chained_lem k y = rw (← crypt_chained_lem (λ i. round_key (schedule k) (15 - i)) (part 8 8 y)) (rw (← crypt_chained_lem (λ i. round_key (schedule k) (15 - i)) _))
