-- TA61 (01, Identity; 000, 5.12): the 24-bit identity, as three bytes.
use Rattle.std.specs.Prelude.{List, [], ◌∷◌, ℕ, ◌+◌, ◌-◌, ◌*◌, ◌%◌}
use Rattle.standard.specs.Bytes.{◌!◌, byte, ◌⊕◌, table, xors, bytes_of, number3}
use Rattle.standard.specs.Expansions.{exp4}
use Rattle.standard.specs.Hurdle.{S, S⁻¹, encrypt}
use Rattle.standard.specs.Refusals.{wrong_length, value_wide, has_length, fits, first, identity}
use Rattle.standard.specs.declared.Identity.{Identity}

-- ---- P (5.12.4), on a2 a1 a0

-- 2x + 2y − z, modulo 256
abbrev pub mix : ℕ → ℕ → ℕ → ℕ
mix x y z = (2 * x + 2 * y + 256 - z) % 256

unfoldable pub P : List ℕ → List ℕ
P a = S ! mix (a ! 0) (a ! 1) (a ! 2) ∷ S ! mix (a ! 0) (a ! 2) (a ! 1) ∷ S ! mix (a ! 1) (a ! 2) (a ! 0) ∷ []

-- the inverse of P: its matrix squared is 9, and 9 times 57 is 1 modulo 256
abbrev pub unmix : ℕ → ℕ → ℕ → ℕ
unmix x y z = 57 * mix x y z % 256

abbrev pub unmixed : ℕ → ℕ → ℕ → List ℕ
unmixed x y z = unmix x y z ∷ unmix x z y ∷ unmix y z x ∷ []

unfoldable pub P⁻¹ : List ℕ → List ℕ
P⁻¹ o = unmixed (S⁻¹ ! (o ! 0)) (S⁻¹ ! (o ! 1)) (S⁻¹ ! (o ! 2))

-- ---- the K strings (5.12.1 to 5.12.3), from the 10-byte common key A

-- BC's output: byte j of its input is A(j+2) ⊕ Aj, its key is EXP4(A)
unfoldable pub bc : List ℕ → List ℕ
bc a = encrypt (exp4 a) (table 8 (λ i. a ! i ⊕ a ! (i + 2)))

-- of BC's output B7..B0
abbrev pub K1 : List ℕ → List ℕ
K1 b = byte 8 b 7 ∷ byte 8 b 4 ∷ byte 8 b 1 ∷ []

abbrev pub K2 : List ℕ → List ℕ
K2 b = byte 8 b 6 ∷ byte 8 b 3 ∷ byte 8 b 0 ∷ []

abbrev pub K3 : List ℕ → List ℕ
K3 b = byte 8 b 5 ∷ byte 8 b 2 ∷ byte 8 b 7 ∷ []

-- ---- TA61

-- ⊕ k, f, ⊕ l, f, ⊕ m
abbrev pub between : (List ℕ → List ℕ) → List ℕ → List ℕ → List ℕ → List ℕ → List ℕ
between f k l m x = xors 3 (f (xors 3 (f (xors 3 x k)) l)) m

-- of BC's output and three bytes of identity
unfoldable pub encrypt_identity : List ℕ → List ℕ → List ℕ
encrypt_identity b x = between P (K1 b) (K2 b) (K3 b) x

unfoldable pub decrypt_identity : List ℕ → List ℕ → List ℕ
decrypt_identity b y = between P⁻¹ (K3 b) (K2 b) (K1 b) y

abbrev pub ta61 : List ℕ → List ℕ → List ℕ
ta61 a x = encrypt_identity (bc a) x

abbrev pub ta61⁻¹ : List ℕ → List ℕ → List ℕ
ta61⁻¹ a y = decrypt_identity (bc a) y

-- ---- the calls

unfoldable pub ta61_call : List ℕ → ℕ → Identity
ta61_call a n = identity (first ((has_length 10 a, wrong_length) ∷ (fits 24 n, value_wide) ∷ [])) (number3 (ta61 a (bytes_of 3 n)))

unfoldable pub ta61⁻¹_call : List ℕ → ℕ → Identity
ta61⁻¹_call a n = identity (first ((has_length 10 a, wrong_length) ∷ (fits 24 n, value_wide) ∷ [])) (number3 (ta61⁻¹ a (bytes_of 3 n)))
