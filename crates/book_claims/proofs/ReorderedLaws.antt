-- `reordered n w π xs`, n records of which record i is record π i of xs: any choice of records, in any order.
use Rattle.standard.proofs.Prelude.{◌≡◌, ap, ◌∙◌, List, ℕ, ◌+◌, ◌*◌, ◌/◌, ◌<◌, mul-div_cancel_left, length}
use Rattle.standard.specs.Bytes.{◌!◌}
use Rattle.standard.specs.Lists.{record_at}
use Rattle.standard.specs.ShufflesFacts.{reordered}
use Rattle.standard.proofs.BookLaws.{joined_length, joined_at}
use Rattle.standard.proofs.BytesLaws.{length_table}

module _ (w n : ℕ) (hw : 0 < w) where
  -- as many records as its length says
  pub whole : (xs : List ℕ) → length xs ≡ w * n → length xs / w ≡ n
  whole xs e = ap (λ (k : ℕ). k / w) e ∙ mul-div_cancel_left n hw

  module _ (xs : List ℕ) (π : ℕ → ℕ) where
    pub reordered_length : length (reordered n w π xs) ≡ w * n
    reordered_length = joined_length w (λ i. record_at w xs (π i)) n (λ i h. length_table w (λ j. xs ! (w * π i + j)))

    pub reordered_at : (i : ℕ) → i < n → record_at w (reordered n w π xs) i ≡ record_at w xs (π i)
    reordered_at i h = joined_at w (λ j. record_at w xs (π j)) n (λ j l. length_table w (λ k. xs ! (w * π j + k))) i h

    pub reordered_whole : length (reordered n w π xs) / w ≡ n
    reordered_whole = whole (reordered n w π xs) reordered_length
