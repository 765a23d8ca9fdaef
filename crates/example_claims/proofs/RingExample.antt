-- Records under two rings do not open as one book (02, 14): an example, by computation.
use Rattle.standard.proofs.Prelude.{◌≡◌, refl, List, ◌∷◌, ◌++◌, ℕ, suc}
use Rattle.standard.specs.Books.{open_fault, inspection_runs, seal_record, sealed_form, book_call, open_book}
use Rattle.standard.specs.Bytes.{bit, table, zeros}
use Rattle.standard.specs.Cores.{bl1, bl1_with, bl2}
use Rattle.standard.specs.Expansions.{exp4}
use Rattle.standard.specs.Hurdle.{S, T, f, round, rounds, crypt, D, a, Q, laid, encrypt, decrypt}
use Rattle.standard.specs.Lists.{answer, records_call}
use Rattle.standard.specs.Refusals.{flag_set}
use Rattle.standard.specs.Seals.{kind_of, key10, sealed, opened, seal, fails}
use Rattle.standard.specs.Sizes.{ring_size}

-- a record under one ring and a record under another are no book under the first: an example, with a record of kind 1 under a ring of
-- zeros and under one of other bytes
abbrev pub one_record : List ℕ
one_record = 1 ∷ zeros 17

abbrev pub one_ring : List ℕ
one_ring = zeros ring_size

abbrev pub other_ring : List ℕ
other_ring = table ring_size suc

abbrev pub TwoRingsJoined : Type 0
TwoRingsJoined =
    open_book one_ring (sealed_form one_ring one_record ++ sealed_form other_ring one_record) (zeros 36)
    ≡ (record { refusal = flag_set; index = 1; written = 0; runs = 4 }, zeros 36)

pub two_rings_joined : TwoRingsJoined
unfolding open_book book_call records_call answer sealed_form seal_record open_fault inspection_runs kind_of seal sealed fails opened key10 exp4 bl1 bl1_with
    bl2 encrypt decrypt crypt rounds round f T S bit laid Q D a
two_rings_joined = refl
