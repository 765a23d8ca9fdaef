-- TB5 and TB6 made in two halves of 40 bits.
use Rattle.standard.proofs.Prelude.{◌≡◌, sym, ap, ◌∙◌, List, ◌++◌, ℕ, ◌+◌, ◌*◌, ◌/◌, ◌%◌, ◌^◌, ◌<◌, arith}
use Rattle.standard.proofs.MixingLaws.{bytes_cat}
use Rattle.standard.specs.Bytes.{xors, bytes_of}
use Rattle.standard.specs.Mixing.{tb5, tb6}

halves : (key : List ℕ) (left right n : ℕ) → right < 2 ^ 40 → left * 2 ^ 40 + right ≡ n
    → xors 10 key (bytes_of 5 left ++ bytes_of 5 right) ≡ xors 10 key (bytes_of 10 n)
halves key left right n h e = ap (xors 10 key) (sym (bytes_cat 5 5 left right h) ∙ ap (bytes_of 10) e)

pub tb5_halves : (key : List ℕ) (la cn cc : ℕ) → la < 2 ^ 14 → cn < 2 ^ 12 → cc < 2 ^ 6
    → xors 10 key
    (bytes_of 5 (((la * 4096 + cn) * 64 + cc) * 256 + cn / 16)
    ++ bytes_of 5 ((((cn % 16 * 64 + cc) * 4096 + cn) * 64 + cc) * 4096 + cn))
    ≡ tb5 key la cn cc
unfolding tb5
tb5_halves key la cn cc a b d = halves key _ _ _ (omega arith) (omega arith)

pub tb6_halves : (key : List ℕ) (cn ssi : ℕ) → cn < 2 ^ 12 → ssi < 2 ^ 24
    → xors 10 key (bytes_of 5 ((cn * 16777216 + ssi) * 16 + cn / 256) ++ bytes_of 5 ((cn % 256 * 16777216 + ssi) * 256 + ssi % 256))
    ≡ tb6 key cn ssi
unfolding tb6
tb6_halves key cn ssi a b = halves key _ _ _ (omega arith) (omega arith)
