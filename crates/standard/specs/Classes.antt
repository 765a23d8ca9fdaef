-- A whole class of challenges under one session key (02, 2).
use Rattle.std.specs.Prelude.{List, ◌∷◌, ◌++◌, ℕ, ◌/◌, length}
use Rattle.standard.specs.Bytes.{part}
use Rattle.standard.specs.Keys.{ta12_call}
use Rattle.standard.specs.Lists.{each, list_tests, records_call}
use Rattle.standard.specs.Refusals.{wrong_length, has_length, mask_tests}
use Rattle.standard.specs.Sizes.{challenge_size, authentication_size}
use Rattle.standard.specs.declared.BookAnswer.{BookAnswer}

-- what TA12 answers to a challenge: the response, then the key
unfoldable pub class_record : (ks : List ℕ) (rm km : ℕ) → List ℕ → List ℕ
class_record ks rm km x = part 0 4 (ta12_call ks x rm km).response ++ part 0 10 (ta12_call ks x rm km).key

-- the refusals in the order 11, 1, 2, 12, 7, 8; no challenge has one of its own
unfoldable pub ta12_class_call : (ks xs : List ℕ) (rm km : ℕ) (out : List ℕ) → BookAnswer × List ℕ
ta12_class_call ks xs rm km out =
    let n = length xs / challenge_size in
    records_call ((has_length 16 ks, wrong_length) ∷ list_tests challenge_size authentication_size (length xs) (length out) ++ mask_tests rm km)
    n (λ i. 0) authentication_size (each n challenge_size (class_record ks rm km) xs) out
