-- The figures of a diffusion tally: the bounds that their sum and extremes keep, and why no flip changes nothing.
use Rattle.standard.proofs.Prelude.{◌≡◌, refl, sym, ap, ◌∙◌, Bool, true, not, true≢false, List, [], ◌∷◌, ◌++◌, ℕ, zero, suc, ◌+◌, ◌*◌, ◌/◌}
use Rattle.standard.proofs.Prelude.{◌%◌, ◌^◌, ◌≤◌, ◌<◌, zero-le, arith, xor_self, length, ne_eqb}
use mathlib.Core.List.{foldl}
use Prim.Native.Nat.{min, max}
use native.Mathlib.Nat.{min-eq_right}
use lib.Arith.{bin_ind}
use lib.Count.{ones, ones_step, ones-le}
use Rattle.standard.specs.Bytes.{◌!◌, ◌⊕◌, table, part, xors, zeros, bytes_of, same, Bytes}
use Rattle.standard.specs.Diffusion.{flipped, bits_set, change, record_changes, total, least, greatest, tally, diffusion_call}
use Rattle.standard.specs.DiffusionFacts.{Figures, DiffusionHolds}
use Rattle.standard.specs.Hurdle.{encrypt, decrypt}
use Rattle.standard.specs.Lists.{record_at, each, length_tests}
use Rattle.standard.specs.Refusals.{first}
use Rattle.standard.specs.Sizes.{diffusion_size}
use Rattle.standard.proofs.BookLaws.{length_each}
use Rattle.standard.proofs.BytesLaws.{table_same, spelled, bytes_table, bytes_xors, bytes_of_lem, every, every_at}
use Rattle.standard.proofs.HurdleLaws.{decrypt_encrypt, encrypt_bytes, length_crypt}
use Rattle.standard.proofs.XorLaws.{xor_cancel_l, xor_cancel_r}

-- ---- sums and extremes of lists whose numbers lie between two bounds

abbrev Within : (lo hi : ℕ) → List ℕ → Type 0
Within lo hi [] = Unit {0}
Within lo hi (c ∷ cs) = (lo ≤ c) × (c ≤ hi) × Within lo hi cs

within_append : (lo hi : ℕ) (cs ds : List ℕ) → Within lo hi cs → Within lo hi ds → Within lo hi (cs ++ ds)
within_append lo hi [] ds h k = k
within_append lo hi (c ∷ cs) ds h k = (h.0, h.1, within_append lo hi cs ds h.2 k)

within_table : (lo hi n : ℕ) (f : ℕ → ℕ) → ((i : ℕ) → i < n → (lo ≤ f i) × (f i ≤ hi)) → Within lo hi (table n f)
within_table lo hi zero f h = tt
within_table lo hi (suc n) f h =
    let e = h 0 (omega arith) in (e.0, e.1, within_table lo hi n (λ i. f (suc i)) (λ i k. h (suc i) (omega arith)))

min_below : (m : ℕ) (cs : List ℕ) → foldl min m cs ≤ m
min_below m [] = omega arith
min_below m (c ∷ cs) = omega (arith, min_below (min m c) cs)

max_above : (m : ℕ) (cs : List ℕ) → m ≤ foldl max m cs
max_above m [] = omega arith
max_above m (c ∷ cs) = omega (arith, max_above (max m c) cs)

-- the extremes are bounds themselves
extremes_bound : (m g : ℕ) (cs : List ℕ) → Within (foldl min m cs) (foldl max g cs) cs
extremes_bound m g [] = tt
extremes_bound m g (c ∷ cs) = (omega (arith, min_below (min m c) cs), omega (arith, max_above (max g c) cs), extremes_bound (min m c) (max g c) cs)

-- and the closest ones
min_over : (lo hi m : ℕ) (cs : List ℕ) → lo ≤ m → Within lo hi cs → lo ≤ foldl min m cs
min_over lo hi m [] l h = l
min_over lo hi m (c ∷ cs) l h = min_over lo hi (min m c) cs (omega (arith, h.0)) h.2

max_under : (lo hi m : ℕ) (cs : List ℕ) → m ≤ hi → Within lo hi cs → foldl max m cs ≤ hi
max_under lo hi m [] l h = l
max_under lo hi m (c ∷ cs) l h = max_under lo hi (max m c) cs (omega (arith, h.1)) h.2

sum_between : (lo hi t : ℕ) (cs : List ℕ) → Within lo hi cs → (t + length cs * lo ≤ foldl ◌+◌ t cs) × (foldl ◌+◌ t cs ≤ t + length cs * hi)
sum_between lo hi t [] h = omega arith
sum_between lo hi t (c ∷ cs) h = let s = sum_between lo hi (t + c) cs h.2 in (omega (arith, s.0, h.0), omega (arith, s.1, h.1))

-- ---- a change has at least one bit

ones_none : (n : ℕ) → ones n ≡ 0 → n ≡ 0
ones_none = bin_ind (λ (n : ℕ). ones n ≡ 0 → n ≡ 0) (λ e. refl) (λ n ih e. go n ih (sym (ones_step n) ∙ e))
  where
    go : (n : ℕ) → (ones (n / 2) ≡ 0 → n / 2 ≡ 0) → n % 2 + ones (n / 2) ≡ 0 → n ≡ 0
    go n ih e = let h : n / 2 ≡ 0 = ih (omega arith) in omega arith

none_set : (n : ℕ) (f : ℕ → ℕ) → bits_set (table n f) ≡ 0 → (i : ℕ) → i < n → f i ≡ 0
none_set zero f e i h = omega arith
none_set (suc n) f e zero h = ones_none (f 0) (omega arith)
none_set (suc n) f e (suc i) h = none_set n (λ j. f (suc j)) (omega arith) i (omega arith)

-- numbers that differ in no bit are the same
xor_none : (a b : ℕ) → a ⊕ b ≡ 0 → a ≡ b
xor_none a b e = sym (xor_cancel_r a b) ∙ ap (λ (n : ℕ). n ⊕ b) e

-- and so are strings
none_changed : (u v : List ℕ) → length u ≡ 8 → length v ≡ 8 → bits_set (xors 8 u v) ≡ 0 → u ≡ v
none_changed u v l m e =
    sym (spelled 8 u l)
    ∙ table_same 8 (λ i. u ! i) (λ i. v ! i) (λ i h. xor_none (u ! i) (v ! i) (none_set 8 (λ j. u ! j ⊕ v ! j) e i h))
    ∙ spelled 8 v m

-- each of the 64 flips has a bit: one computed test
flips : ℕ → Bool
flips i = not (same (bytes_of 8 (2 ^ i)) (zeros 8))

all_flip : every 64 flips ≡ true
unfolding flips
all_flip = refl

-- so it changes the block
flip_changes : (b : List ℕ) (i : ℕ) → i < 64 → flipped i b ≡ b → ⊥
unfolding flips flipped
flip_changes b i h e =
    let none : bytes_of 8 (2 ^ i) ≡ zeros 8 = sym (simp xor_cancel_l) ∙ ap (xors 8 b) e ∙ simp xor_self in
    true≢false (sym (every_at 64 flips all_flip i h) ∙ ap not (ap (λ (m : List ℕ). same m (zeros 8)) none))

length_flipped : (i : ℕ) (b : List ℕ) → length (flipped i b) ≡ 8
unfolding flipped
length_flipped i b = refl

length_encrypt : (k b : List ℕ) → length (encrypt k b) ≡ 8
unfolding encrypt
length_encrypt k b = length_crypt _ b

-- and the output, since decryption undoes encryption
change_some : (k b : List ℕ) → length b ≡ 8 → (i : ℕ) → i < 64 → 1 ≤ change k b i
unfolding change
change_some k b l i h =
    let u = encrypt k b in
    let v = encrypt k (flipped i b) in
    let some : bits_set (xors 8 u v) ≡ 0 → ⊥ = λ e.
    flip_changes b i h
    (sym (decrypt_encrypt k (flipped i b) (length_flipped i b))
    ∙ ap (decrypt k) (sym (none_changed u v (length_encrypt k b) (length_encrypt k (flipped i b)) e))
    ∙ decrypt_encrypt k b l) in
    omega (arith, some)

-- ---- and at most 64

bits_most : (n : ℕ) (xs : List ℕ) → Bytes n xs → bits_set xs ≤ 8 * n
bits_most n xs h = rw (← h.len) (go xs h.bound)
  where
    go : (zs : List ℕ) → ((i : ℕ) → zs ! i < 256) → bits_set zs ≤ 8 * length zs
    go [] b = omega arith
    go (z ∷ zs) b = omega (arith, ones-le 8 z (b 0), go zs (λ i. b (suc i)))

flipped_bytes : (i : ℕ) (b : List ℕ) → Bytes 8 b → Bytes 8 (flipped i b)
unfolding flipped
flipped_bytes i b h = bytes_xors 8 h (bytes_of_lem 8 (2 ^ i))

change_most : (k b : List ℕ) → Bytes 8 b → (i : ℕ) → change k b i ≤ 64
unfolding change
change_most k b h i =
    bits_most 8 _ (bytes_xors 8 (encrypt_bytes k b h) (encrypt_bytes k (flipped i b) (flipped_bytes i b h)))

-- ---- the changes of a list

record_within : (r : List ℕ) → ((i : ℕ) → r ! i < 256) → Within 1 64 (record_changes r)
unfolding record_changes
record_within r h =
    let k = part 0 16 r in
    let b = part 16 8 r in
    let bytes : Bytes 8 b = bytes_table 8 (λ i. r ! (16 + i)) (λ i. h (16 + i)) in
    within_table 1 64 64 (change k b) (λ i l. (change_some k b refl i l, change_most k b bytes i))

changes_within : (xs : List ℕ) → ((i : ℕ) → xs ! i < 256) → (n : ℕ) → Within 1 64 (each n diffusion_size record_changes xs)
changes_within xs h zero = tt
changes_within xs h (suc n) =
    within_append 1 64 (each n diffusion_size record_changes xs) (record_changes (record_at diffusion_size xs n)) (changes_within xs h n)
    (record_within (record_at diffusion_size xs n) (bytes_table diffusion_size (λ i. xs ! (diffusion_size * n + i)) (λ i. h (diffusion_size * n + i))).bound)

pub length_changes : (xs : List ℕ) (n : ℕ) → length (each n diffusion_size record_changes xs) ≡ 64 * n
unfolding record_changes
length_changes xs n = length_each diffusion_size 64 record_changes (λ r. refl) xs n

-- ---- the figures

-- of any list of changes
extremes : (cs : List ℕ) → Within (least cs) (greatest cs) cs
unfolding least greatest
extremes [] = tt
extremes (c ∷ cs) = let e = extremes_bound c (max 0 c) cs in (min_below c cs, omega (arith, max_above (max 0 c) cs), e)

ordered : (cs : List ℕ) → least cs ≤ greatest cs
unfolding least greatest
ordered [] = omega arith
ordered (c ∷ cs) = omega (arith, min_below c cs, max_above (max 0 c) cs)

least_over : (lo hi : ℕ) (cs : List ℕ) → 0 < length cs → Within lo hi cs → lo ≤ least cs
unfolding least
least_over lo hi [] n h = omega arith
least_over lo hi (c ∷ cs) n h = min_over lo hi c cs h.0 h.2

-- the least is the same when it starts from a bound above them all
least_from_above : (lo hi : ℕ) (cs : List ℕ) → 0 < length cs → Within lo hi cs → foldl min hi cs ≡ least cs
unfolding least
least_from_above lo hi [] l h = omega arith
least_from_above lo hi (c ∷ cs) l h = ap (λ (m : ℕ). foldl min m cs) (min-eq_right h.1)

pub least_from : (xs : List ℕ) → ((i : ℕ) → xs ! i < 256) → (n : ℕ) → 1 ≤ n
    → foldl min 64 (each n diffusion_size record_changes xs) ≡ least (each n diffusion_size record_changes xs)
least_from xs h n some =
    least_from_above 1 64 (each n diffusion_size record_changes xs) (omega (arith, length_changes xs n, some)) (changes_within xs h n)

greatest_under : (lo hi : ℕ) (cs : List ℕ) → Within lo hi cs → greatest cs ≤ hi
unfolding greatest
greatest_under lo hi cs h = max_under lo hi 0 cs zero-le h

total_between : (cs : List ℕ) → (length cs * least cs ≤ total cs) × (total cs ≤ length cs * greatest cs)
unfolding total
total_between cs = let s = sum_between (least cs) (greatest cs) 0 cs (extremes cs) in (omega (arith, s.0), omega (arith, s.1))

-- of the changes of n records
figures : (xs : List ℕ) → ((i : ℕ) → xs ! i < 256) → (n : ℕ) → Figures n (tally 0 (each n diffusion_size record_changes xs))
figures xs h n =
    let cs = each n diffusion_size record_changes xs in
    let long = length_changes xs n in
    let within = changes_within xs h n in
    let between = total_between cs in
    record {
      flips = long;
      least_is_one = λ some. least_over 1 64 cs (omega (arith, long, some)) within;
      ordered = ordered cs;
      most = greatest_under 1 64 cs within;
      above = between.0;
      below = between.1;
    }

pub diffusion_holds : DiffusionHolds
unfolding diffusion_call total least greatest
diffusion_holds = record {
  none = refl;
  refused = λ xs z. rw (ne_eqb (first (length_tests diffusion_size (length xs))) 0 z);
  accepted = λ xs h e. rw e (figures xs h (length xs / diffusion_size));
}
