-- The steps of the cores, one after the other.
use Rattle.standard.proofs.Prelude.{◌≡◌, List, [], ◌∷◌, ◌++◌, ℕ}
use Rattle.standard.specs.Bytes.{◌!◌, ◌⊕◌, part, xors}
use Rattle.standard.specs.Cores.{bl1_with, bl1, bl2}
use Rattle.standard.specs.Hurdle.{schedule, encrypt_with, decrypt_with, decrypt}
use Rattle.cores.specs.CoreOutputs.{bl2_with}

-- the left block, encrypted, and the right block chained to it, encrypted
pub bl1_steps : (keys x : List ℕ) {x₀ l x₁ r : List ℕ} → x₀ ≡ part 0 8 x → l ≡ encrypt_with keys x₀ → x₁ ≡ xors 8 (part 8 8 x) l → r ≡ encrypt_with keys x₁
    → part 0 8 l ++ part 0 8 r ≡ bl1_with keys x
unfolding bl1_with
bl1_steps keys x e f g h = rw (h, g, f, e)

-- the right block, decrypted, and the left block mended by it, decrypted
pub bl2_steps : (keys y : List ℕ) {y₁ r y₀ l : List ℕ} → y₁ ≡ part 8 8 y → r ≡ decrypt_with keys y₁ → y₀ ≡ part 0 7 y ++ ((y ! 7 ⊕ r ! 7) ∷ []) → l ≡
    decrypt_with keys y₀
    → part 0 8 l ++ xors 7 r (part 0 7 y) ≡ bl2_with keys y
unfolding bl2_with
bl2_steps keys y e f g h = rw (h, g, f, e)

-- under a key's round keys
pub bl1_under : (k x : List ℕ) {keys : List ℕ} → keys ≡ schedule k → bl1_with keys x ≡ bl1 k x
unfolding bl1
bl1_under k x e = rw e

pub bl2_under : (k y : List ℕ) {keys : List ℕ} → keys ≡ schedule k → bl2_with keys y ≡ bl2 k y
unfolding bl2 bl2_with decrypt
bl2_under k y e = rw e
