-- The sizes that many definitions share, in bytes, and the most records of a list (01, Books).
use Rattle.std.specs.Prelude.{ℕ}

-- D, O, C and G (02, 4)
abbrev pub ring_size : ℕ
ring_size = 52

abbrev pub plain_size : ℕ
plain_size = 18

abbrev pub sealed_size : ℕ
sealed_size = 21

-- a sitting's file, which makering reads
abbrev pub sitting_size : ℕ
sitting_size = 83

-- a challenge, and the response and the key that TA12 answers to it (02, 2)
abbrev pub challenge_size : ℕ
challenge_size = 10

abbrev pub authentication_size : ℕ
authentication_size = 14

-- a record of a lineage sheet, and the value that is written for it (02, 5)
abbrev pub sheet_size : ℕ
sheet_size = 22

abbrev pub value_size : ℕ
value_size = 16

-- a key and a block, for the diffusion tally (02, 12)
abbrev pub diffusion_size : ℕ
diffusion_size = 24

abbrev pub most_records : ℕ
most_records = 1024
