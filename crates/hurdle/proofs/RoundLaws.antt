-- The steps of the code add up to f, to the rounds and to the block.
use Rattle.standard.proofs.Prelude.{◌≡◌, refl, sym, ap, ap₂, ◌∙◌, List, [], ◌∷◌, ◌++◌, ℕ, zero, suc, ◌+◌, ◌*◌, ◌/◌, ◌%◌, ◌^◌, ◌<◌}
use Rattle.standard.proofs.Prelude.{div-one, mod-eq_of_lt, add-one, arith, xor_zero_r, drop-drop, take, drop}
use Rattle.std.proofs.Common.{map}
use Rattle.std.specs.Simd.{first_chunks}
use Rattle.std.proofs.Common.{get_or, zero-mul}
use lib.Bits.{bit_xor, xor_shr, xor_mod}
use Rattle.hurdle.specs.declared.round.Direction.{Direction}
use Rattle.hurdle.specs.declared.round.Halves.{Halves as Words}
use Rattle.standard.specs.Bytes.{◌!◌, byte, bit, ◌⊞◌, xors, bytes_of}
use Rattle.standard.specs.Hurdle.{S, E, T, of_bits, f, Halves, round, rounds, crypt, round_key}
use Rattle.hurdle.specs.RoundSteps.{bytes4, half_bytes, links_over, nibbles_over, second_over, third_over, f_over, spread_of, spreads}
use Rattle.hurdle.specs.RoundSteps.{round_over, rounds_over, HalvesOf, place}

-- ---- the bits

-- an entry of the second table is S's, spread
map_at : (g : ℕ → ℕ) (xs : List ℕ) (i : ℕ) → g 0 ≡ 0 → map g xs ! i ≡ g (xs ! i)
map_at g [] i z = sym z
map_at g (x ∷ xs) zero z = refl
map_at g (x ∷ xs) (suc i) z = map_at g xs i z

spread_at : (i : ℕ) → spreads ! i ≡ spread_of (S ! i)
unfolding spreads bit
spread_at i = map_at spread_of S i refl

bit_lt : (n x : ℕ) → bit n x < 2
unfolding bit
bit_lt n x = omega arith

-- bit n of each of eight bytes, in a byte
abbrev bits : (t : ℕ → ℕ) → ℕ → ℕ
bits t n = of_bits (λ m. bit n (t m))

bits_lt : (t : ℕ → ℕ) (n : ℕ) → bits t n < 256
bits_lt t n =
    omega (arith, bit_lt n (t 0), bit_lt n (t 1), bit_lt n (t 2), bit_lt n (t 3), bit_lt n (t 4), bit_lt n (t 5), bit_lt n (t 6), bit_lt n (t 7))

-- the bytes of a word
pub word_bytes : (w : ℕ) → bytes_of 4 w ≡ bytes4 w
word_bytes w = rw (div-one w)

-- four bytes in a word, and out again
bytes4_of : (a b c d : ℕ) → a < 256 → b < 256 → c < 256 → d < 256 → bytes4 (a + 256 * b + 65536 * c + 16777216 * d) ≡ d ∷ c ∷ b ∷ a ∷ []
bytes4_of a b c d ha hb hc hd =
    let w = a + 256 * b + 65536 * c + 16777216 * d in
    let e3 : w / 2 ^ 24 % 256 ≡ d = omega arith in
    let e2 : w / 2 ^ 16 % 256 ≡ c = omega arith in
    let e1 : w / 2 ^ 8 % 256 ≡ b = omega arith in
    let e0 : w % 256 ≡ a = omega arith in
    cc

-- the sum of eight spread bytes has byte n from their bits n
gathered : (t : ℕ → ℕ) → bytes4 (of_bits (λ m. spread_of (t m)) % 4294967296) ≡ bits t 3 ∷ bits t 2 ∷ bits t 1 ∷ bits t 0 ∷ []
gathered t =
    let sum : of_bits (λ m. spread_of (t m)) ≡ bits t 0 + 256 * bits t 1 + 65536 * bits t 2 + 16777216 * bits t 3 = omega arith in
    let small : bits t 0 + 256 * bits t 1 + 65536 * bits t 2 + 16777216 * bits t 3 < 4294967296 =
    omega (arith, bits_lt t 0, bits_lt t 1, bits_lt t 2, bits_lt t 3) in
    ap bytes4 (ap (λ (n : ℕ). n % 4294967296) sum ∙ mod-eq_of_lt small)
    ∙ bytes4_of _ _ _ _ (bits_lt t 0) (bits_lt t 1) (bits_lt t 2) (bits_lt t 3)

-- ---- f

-- 256 added to one side stays above the ⊕ of two bytes
pub xor_raised : (a t : ℕ) → a < 256 → t < 256 → bit_xor (a + 256) t ≡ 256 + bit_xor a t
xor_raised a t ha ht =
    let x : ℕ = bit_xor (a + 256) t in
    let a-low : (a + 256) % 256 ≡ a = omega arith in
    let t-low : t % 256 ≡ t = omega arith in
    let a-high : (a + 256) / 2 ^ 8 ≡ 1 = omega arith in
    let t-high : t / 2 ^ 8 ≡ 0 = omega arith in
    let low : x % 256 ≡ bit_xor a t = xor_mod (a + 256) t 8 ∙ ap₂ bit_xor a-low t-low in
    let high : x / 2 ^ 8 ≡ 1 = xor_shr (a + 256) t 8 ∙ ap₂ bit_xor a-high t-high in
    omega (arith, low, high)

-- S at four indexes is u
record Found (i : List ℕ) (u : ℕ → ℕ) : Type 0 where
  at_0 : S ! (i ! 0) ≡ u 0
  at_1 : S ! (i ! 1) ≡ u 1
  at_2 : S ! (i ! 2) ≡ u 2
  at_3 : S ! (i ! 3) ≡ u 3

-- T0 to T3, where T0 is a link after 0; T4 to T7; T8 to T11
links_0 : (x k : List ℕ) → Found (links_over S 0 x k 0) (λ j. T x k j)
unfolding T links_over
links_0 x k = rw (xor_zero_r (E x 0 ⊞ byte 12 k 0)) (record { at_0 = refl; at_1 = refl; at_2 = refl; at_3 = refl })

links_4 : (x k : List ℕ) → Found (links_over S (T x k 3) x k 4) (λ j. T x k (j + 4))
unfolding T links_over
links_4 x k = record { at_0 = refl; at_1 = refl; at_2 = refl; at_3 = refl }

links_8 : (x k : List ℕ) → Found (links_over S (T x k 7) x k 8) (λ j. T x k (j + 8))
unfolding T links_over
links_8 x k = record { at_0 = refl; at_1 = refl; at_2 = refl; at_3 = refl }

-- their bits, spread
nibbles : {i : List ℕ} {u : ℕ → ℕ} → Found i u
    → nibbles_over spreads i ≡ (spread_of (u 0) + 2 * spread_of (u 1) + 4 * spread_of (u 2) + 8 * spread_of (u 3)) % 4294967296
nibbles {i} p =
    rw (spread_at (i ! 0), spread_at (i ! 1), spread_at (i ! 2), spread_at (i ! 3), p.at_0, p.at_1, p.at_2, p.at_3)

-- the bits of T4 to T7 and of T8 to T11 in one sum
both_nibbles : (a b : ℕ) → (a % 4294967296 + 16 * (b % 4294967296)) % 4294967296 ≡ (a + 16 * b) % 4294967296
both_nibbles a b = omega arith

f_spread : (x k : List ℕ) → f_over S spreads x k ≡ of_bits (λ m. spread_of (T x k (m + 4))) % 4294967296
unfolding f_over second_over third_over
f_spread x k =
    rw ((links_0 x k).at_3, (links_4 x k).at_3, nibbles (links_4 x k), nibbles (links_8 x k))
    (both_nibbles _ _ ∙ ap (λ (n : ℕ). n % 4294967296) (omega arith))

pub f_word : (x k : List ℕ) → bytes4 (f_over S spreads x k) ≡ f x k
unfolding f
f_word x k = ap bytes4 (f_spread x k) ∙ gathered (λ m. T x k (m + 4))

-- ---- the rounds

xor_byte : (a b k : ℕ) → bit_xor a b / 2 ^ k % 256 ≡ bit_xor (a / 2 ^ k % 256) (b / 2 ^ k % 256)
xor_byte a b k = rw xor_shr (xor_mod (a / 2 ^ k) (b / 2 ^ k) 8)

bytes4_xor : (a b : ℕ) → bytes4 (bit_xor a b) ≡ xors 4 (bytes4 a) (bytes4 b)
bytes4_xor a b = cc (xor_byte a b 24, xor_byte a b 16, xor_byte a b 8, xor_mod a b 8)

pub round_word : (k : List ℕ) (h : Words) → half_bytes (round_over S spreads k h) ≡ round k (half_bytes h)
unfolding round
round_word k h = ap (λ (y : List ℕ). (bytes4 h.r, y)) (bytes4_xor h.l _ ∙ ap (xors 4 (bytes4 h.l)) (f_word (bytes4 h.r) k))

rounds_word : (d : Direction) (keys : List ℕ) (n : ℕ) (h : Words)
    → half_bytes (rounds_over d keys n h) ≡ rounds (λ i. round_key keys (place d i)) n (half_bytes h)
unfolding rounds rounds_over
rounds_word d keys zero h = refl
rounds_word d keys (suc n) h = round_word _ _ ∙ ap (round (round_key keys (place d n))) (rounds_word d keys n h)

-- one round more
pub round_more : (d : Direction) (keys : List ℕ) (i : ℕ) (h : Words) {n : ℕ} {k s w : List ℕ} {state next : Words} → s ≡ S → w ≡ spreads
    → n ≡ place d i → k ≡ round_key keys n → state ≡ rounds_over d keys i h → next ≡ round_over s w k state → next ≡ rounds_over d keys (i + 1) h
unfolding rounds_over
round_more d keys i h of_S of_spreads at_n key before here = here ∙ rw (of_S, of_spreads, key, at_n, before) (ap (λ (m : ℕ). rounds_over d keys m h) (sym (add-one i)))

-- a round key where it is laid out
pub chunk_at : (n k i : ℕ) (xs : List ℕ) → i < k → get_or (first_chunks n k xs) i [] ≡ take n (drop (i * n) xs)
chunk_at n zero i xs h = absurd (omega arith)
chunk_at n (suc k) zero xs h = rw zero-mul refl
chunk_at n (suc k) (suc i) xs h =
    let e : n + i * n ≡ suc i * n = omega arith in
    chunk_at n k i (drop n xs) (omega arith) ∙ ap (take n) (drop-drop (i * n) n xs ∙ ap (λ (m : ℕ). drop m xs) e)

-- the halves, the rounds and the halves exchanged are the block
pub crypted : (d : Direction) (keys : List ℕ) {b : List ℕ} {h o : Words} → HalvesOf b h → o ≡ rounds_over d keys 16 h
    → bytes4 o.r ++ bytes4 o.l ≡ crypt (λ i. round_key keys (place d i)) b
unfolding crypt
crypted d keys {b} {h} s e =
    ap (λ (g : Halves). g.1 ++ g.0)
    (ap half_bytes e ∙ rounds_word d keys 16 h
    ∙ ap₂ (λ (x y : List ℕ). rounds (λ n. round_key keys (place d n)) 16 (x, y)) s.left s.right)
