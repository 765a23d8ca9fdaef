-- The sealing and the unsealing core are inverse on all strings of 15 bytes: the discarded byte 8 is recovered, and never free.
use Rattle.standard.proofs.Prelude.{◌≡◌, refl, ap, ◌∙◌, List, [], ◌∷◌, ◌++◌, ℕ}
use Rattle.standard.specs.Bytes.{◌!◌, ◌⊕◌, part, xors, Bytes}
use Rattle.standard.specs.Cores.{bl1_with, bl1, bl2}
use Rattle.standard.specs.Hurdle.{encrypt, decrypt}
use Rattle.standard.specs.Seals.{without8, with8}
use Rattle.standard.proofs.BytesLaws.{spell, bytes_append, bytes_part, bytes_xors, bytes_one, bytes_zero}
use Rattle.standard.proofs.HurdleLaws.{encrypt_bytes, decrypt_bytes, decrypt_encrypt, encrypt_decrypt}
use Rattle.standard.proofs.InverseLaws.{Inverse}
use Rattle.standard.proofs.XorLaws.{xor_cancel_r}

-- 15 bytes and a zero byte through BL1, without byte 8; and back
unfoldable pub seal_core : List ℕ → List ℕ → List ℕ
seal_core k u = without8 (bl1 k (part 0 15 u ++ 0 ∷ []))

unfoldable pub unseal_core : List ℕ → List ℕ → List ℕ
unseal_core k t = bl2 k (with8 t)

-- BL1 under a key
pub bl1_blocks : (k x : List ℕ) → bl1 k x
    ≡ part 0 8 (encrypt k (part 0 8 x)) ++ part 0 8 (encrypt k (xors 8 (part 8 8 x) (encrypt k (part 0 8 x))))
unfolding bl1 bl1_with encrypt
bl1_blocks k x = refl

-- the cipher's laws as the cores meet them: a block written out in between
pub decrypt_part : (k x : List ℕ) → Bytes 8 x → decrypt k (part 0 8 (encrypt k x)) ≡ x
decrypt_part k x h = ap (decrypt k) (spell (encrypt_bytes k x h)) ∙ decrypt_encrypt k x h.len

pub encrypt_part : (k x : List ℕ) → Bytes 8 x → encrypt k (part 0 8 (decrypt k x)) ≡ x
encrypt_part k x h = ap (encrypt k) (spell (decrypt_bytes k x h)) ∙ encrypt_decrypt k x h.len

unseal_seal : (k u : List ℕ) → Bytes 15 u → unseal_core k (seal_core k u) ≡ u
unfolding seal_core unseal_core bl2
unseal_seal k u h =
    let l : List ℕ = part 0 8 u in
    let lb : Bytes 8 l = bytes_part 0 8 h in
    let x : List ℕ = xors 8 (part 8 7 u ++ 0 ∷ []) (encrypt k l) in
    let xb : Bytes 8 x = bytes_xors 8 (bytes_append (bytes_part 8 7 h) bytes_zero) (encrypt_bytes k l lb) in
    rw (bl1_blocks, decrypt_part k x xb, decrypt_part k l lb) (simp xor_cancel_r (spell h))

seal_unseal : (k t : List ℕ) → Bytes 15 t → seal_core k (unseal_core k t) ≡ t
unfolding seal_core unseal_core bl2
seal_unseal k t h =
    let r : List ℕ = decrypt k (part 7 8 t) in
    let rb : Bytes 8 r = decrypt_bytes k (part 7 8 t) (bytes_part 7 8 h) in
    let w : List ℕ = part 0 7 t ++ (0 ⊕ r ! 7) ∷ [] in
    let wb : Bytes 8 w = bytes_append (bytes_part 0 7 h) (bytes_one (rb.bound 7)) in
    rw (bl1_blocks, encrypt_part k w wb) (simp xor_cancel_r (rw (encrypt_part k (part 7 8 t) (bytes_part 7 8 h)) (spell h)))

seal_bytes : (k u : List ℕ) → Bytes 15 u → Bytes 15 (seal_core k u)
unfolding seal_core
seal_bytes k u h =
    let lb = encrypt_bytes k (part 0 8 u) (bytes_part 0 8 h) in
    let xb = bytes_xors 8 (bytes_append (bytes_part 8 7 h) bytes_zero) lb in
    rw bl1_blocks (bytes_append (bytes_part 0 7 lb) (bytes_part 0 8 (encrypt_bytes k _ xb)))

unseal_bytes : (k t : List ℕ) → Bytes 15 t → Bytes 15 (unseal_core k t)
unfolding unseal_core bl2
unseal_bytes k t h =
    let rb = decrypt_bytes k (part 7 8 t) (bytes_part 7 8 h) in
    let wb = bytes_append (bytes_part 0 7 h) (bytes_one (rb.bound 7)) in
    bytes_append (bytes_part 0 8 (decrypt_bytes k _ wb)) (bytes_xors 7 rb (bytes_part 0 7 h))

pub core : (k : List ℕ) → Inverse (Bytes 15) (Bytes 15) (seal_core k) (unseal_core k)
core k = record { to = seal_bytes k; from = unseal_bytes k; back = unseal_seal k; forth = seal_unseal k }
