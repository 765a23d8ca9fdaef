-- The two-block cores (01, Two-block cores; 000, 5.2, 5.3, 4.3.2).
use Rattle.std.specs.Prelude.{List, [], ◌∷◌, ◌++◌, ℕ}
use Rattle.standard.specs.Bytes.{◌!◌, ◌⊕◌, part, xors}
use Rattle.standard.specs.Hurdle.{schedule, encrypt_with, decrypt}

-- the left block encrypted; then the right block ⊕ that, encrypted. Under round keys laid out first, and under a key
unfoldable pub bl1_with : List ℕ → List ℕ → List ℕ
bl1_with keys x =
    let left : List ℕ = encrypt_with keys (part 0 8 x) in
    let right : List ℕ = encrypt_with keys (xors 8 (part 8 8 x) left) in
    part 0 8 left ++ part 0 8 right

unfoldable pub bl1 : List ℕ → List ℕ → List ℕ
bl1 k x = bl1_with (schedule k) x

-- r is the right block decrypted, and w the left block with the last byte of r ⊕ into its own. Of the data, w decrypted is the left
-- part, and r ⊕ the left block the right part, without its last byte
unfoldable pub bl2 : List ℕ → List ℕ → List ℕ
bl2 k y =
    let r : List ℕ = decrypt k (part 8 8 y) in
    let w : List ℕ = part 0 7 y ++ (y ! 7 ⊕ r ! 7) ∷ [] in
    part 0 8 (decrypt k w) ++ xors 7 r (part 0 7 y)
