-- Marking by equal records (docs/ARGUMENT.md): how many entries of a model a hand-in has. Both are lists of records of w bytes; a record
-- counts for an entry of the same bytes, and for one entry only.
use Rattle.std.specs.Prelude.{Bool, true, false, List, ◌++◌, ◌↔◌, ◌≡◌, ℕ, zero, suc, ◌+◌, ◌*◌, ◌/◌, ◌<◌, ◌≤◌, ltb, length}
use Rattle.standard.specs.Books.{WellFormed, sealed_form}
use Rattle.standard.specs.Bytes.{same, choose, Bytes}
use Rattle.standard.specs.Lists.{record_at}
use Rattle.standard.specs.ShufflesFacts.{Reordering, reordered}
use Rattle.standard.specs.Sizes.{ring_size, plain_size, sealed_size}
use Rattle.book_claims.specs.BookSentences.{OpensTo}

-- ---- the number

-- how many of 0 .. n - 1 pass
abbrev pub count : ℕ → (ℕ → Bool) → ℕ
count zero p = 0
count (suc n) p = count n p + choose (p n) 1 0

-- how many of g 0, .. g (n - 1) are x
abbrev pub copies : ℕ → (ℕ → List ℕ) → List ℕ → ℕ
copies n g x = count n (λ i. same (g i) x)

-- of entries f 0, f 1, .. and n records g: entry i has a record, since fewer entries before it are the same than records are
abbrev pub has_record : (f g : ℕ → List ℕ) → (n i : ℕ) → Bool
has_record f g n i = ltb (copies i f (f i)) (copies n g (f i))

-- how many of m entries f have one of n records g
abbrev pub pairs : (m : ℕ) (f : ℕ → List ℕ) (n : ℕ) (g : ℕ → List ℕ) → ℕ
pairs m f n g = count m (has_record f g n)

-- how many entries of the model have a record of the hand-in
unfoldable pub matched : ℕ → (model handIn : List ℕ) → ℕ
matched w model handIn = pairs (length model / w) (record_at w model) (length handIn / w) (record_at w handIn)

-- ---- pairings of entries f 0, .. f (m - 1) with records g 0, .. g (n - 1)

-- some entries are given a record each: of the same bytes, and none for two
pub record Pairing (m : ℕ) (f : ℕ → List ℕ) (n : ℕ) (g : ℕ → List ℕ) (given : ℕ → Bool) (σ : ℕ → ℕ) : Type 0 where
  pub within : (i : ℕ) → i < m → given i ≡ true → σ i < n
  pub equal : (i : ℕ) → i < m → given i ≡ true → g (σ i) ≡ f i
  pub once : (i k : ℕ) → i < m → k < m → given i ≡ true → given k ≡ true → σ i ≡ σ k → i ≡ k

-- and no record is left that could count: each of the same bytes as an entry that is given none is another entry's
pub record WholePairing (m : ℕ) (f : ℕ → List ℕ) (n : ℕ) (g : ℕ → List ℕ) (given : ℕ → Bool) (σ : ℕ → ℕ) : Type 0 where
  pub pairing : Pairing m f n g given σ
  pub none_left : (i j : ℕ) → i < m → j < n → given i ≡ false → g j ≡ f i → (k : ℕ) × (k < m) × (given k ≡ true) × (σ k ≡ j)

-- 10a: "Give entries of the model a record of the hand-in with the bytes of their sealed record, no record to two, until no more can be
-- given: the number is the same however it is done, and no pairing counts more." All such pairings count the same, which is the number
-- above, and no pairing counts more; and there is one
pub record NoneCountsMore (m : ℕ) (f : ℕ → List ℕ) (n : ℕ) (g : ℕ → List ℕ) : Type 0 where
  pub number : (given : ℕ → Bool) (σ : ℕ → ℕ) → WholePairing m f n g given σ → count m given ≡ pairs m f n g
  pub most : (given : ℕ → Bool) (σ : ℕ → ℕ) → Pairing m f n g given σ → count m given ≤ pairs m f n g
  pub some : (given : ℕ → Bool) × (σ : ℕ → ℕ) × WholePairing m f n g given σ

abbrev pub MostPaired : Type 0
MostPaired = (m : ℕ) (f : ℕ → List ℕ) (n : ℕ) (g : ℕ → List ℕ) → NoneCountsMore m f n g

-- ---- a model and a hand-in

-- 10b: "The number of equal records does not depend on the order of either book."
pub record AnyOrder : Type 0 where
  pub of_hand_in : (w n : ℕ) → 0 < w → (model handIn : List ℕ) → length handIn ≡ w * n → (π : ℕ → ℕ) → Reordering n π
      → matched w model (reordered n w π handIn) ≡ matched w model handIn
  pub of_model : (w n : ℕ) → 0 < w → (model handIn : List ℕ) → length model ≡ w * n → (π : ℕ → ℕ) → Reordering n π
      → matched w (reordered n w π model) handIn ≡ matched w model handIn

-- 10c: "Copies beyond the model's own add nothing." One record x more, of which the hand-in has as many as the model already. It stands at
-- the end; by `AnyOrder` it may stand anywhere
abbrev pub CopiesAddNothing : Type 0
CopiesAddNothing = (w n : ℕ) → 0 < w → (model handIn x : List ℕ) → length handIn ≡ w * n → length x ≡ w
    → copies (length model / w) (record_at w model) x ≤ copies n (record_at w handIn) x → matched w model (handIn ++ x) ≡ matched w model handIn

-- 10d: "Every entry of the model has its equal record, and no record is over, exactly if the hand-in is a reordering of the model's sealed
-- form; such a hand-in opens to the model reordered alike." The model is given as a well-formed plain book p, under a ring r
pub record FullMark : Type 0 where
  pub exactly : (r p handIn : List ℕ) → Bytes ring_size r → WellFormed p
      → ((matched sealed_size (sealed_form r p) handIn ≡ length p / plain_size) × (length handIn ≡ length (sealed_form r p)))
      ↔ ((π : ℕ → ℕ) × Reordering (length p / plain_size) π × (handIn ≡ reordered (length p / plain_size) sealed_size π (sealed_form r p)))
  pub opens : (r p : List ℕ) → Bytes ring_size r → WellFormed p → (π : ℕ → ℕ) → Reordering (length p / plain_size) π
      → OpensTo r (reordered (length p / plain_size) sealed_size π (sealed_form r p)) (reordered (length p / plain_size) plain_size π p)
