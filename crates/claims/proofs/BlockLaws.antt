-- BL1 on all sixteen bytes is undone, block by block; and so it is without chaining.
use Rattle.standard.proofs.Prelude.{List, ◌++◌, ℕ}
use Rattle.standard.specs.Bytes.{part, xors, Bytes}
use Rattle.standard.specs.Cores.{bl1}
use Rattle.standard.specs.Hurdle.{encrypt, decrypt}
use Rattle.standard.proofs.BytesLaws.{spell, bytes_append, bytes_part, bytes_xors}
use Rattle.standard.proofs.CoreLaws.{bl1_blocks, decrypt_part, encrypt_part}
use Rattle.standard.proofs.HurdleLaws.{encrypt_bytes, decrypt_bytes}
use Rattle.standard.proofs.InverseLaws.{Inverse}
use Rattle.standard.proofs.XorLaws.{xor_cancel_r}
use Rattle.claims.specs.Variants.{bl1_unchained}

-- the left block decrypted; the right one decrypted, ⊕ the left one
unfoldable pub bl1_back : List ℕ → List ℕ → List ℕ
bl1_back k y = part 0 8 (decrypt k (part 0 8 y)) ++ xors 8 (decrypt k (part 8 8 y)) (part 0 8 y)

pub bl1_inverse : (k : List ℕ) → Inverse (Bytes 16) (Bytes 16) (bl1 k) (bl1_back k)
unfolding bl1_back
bl1_inverse k = record {
  to = λ x h.
      let lb = encrypt_bytes k (part 0 8 x) (bytes_part 0 8 h) in
      let xb = bytes_xors 8 (bytes_part 8 8 h) lb in
      rw bl1_blocks (bytes_append (bytes_part 0 8 lb) (bytes_part 0 8 (encrypt_bytes k _ xb)));
  from = λ y h.
      bytes_append (bytes_part 0 8 (decrypt_bytes k _ (bytes_part 0 8 h))) (bytes_xors 8 (decrypt_bytes k _ (bytes_part 8 8 h)) (bytes_part 0 8 h));
  back = λ x h.
      let l : List ℕ = part 0 8 x in
      let lb : Bytes 8 l = bytes_part 0 8 h in
      let r : List ℕ = xors 8 (part 8 8 x) (encrypt k l) in
      let rb : Bytes 8 r = bytes_xors 8 (bytes_part 8 8 h) (encrypt_bytes k l lb) in
      rw (bl1_blocks, decrypt_part k r rb, decrypt_part k l lb) (simp xor_cancel_r (spell h));
  forth = λ y h.
      let l : List ℕ = part 0 8 y in
      let r : List ℕ = part 8 8 y in
      rw (bl1_blocks, encrypt_part k l (bytes_part 0 8 h)) (simp xor_cancel_r (rw (encrypt_part k r (bytes_part 8 8 h)) (spell h)));
}

-- both blocks decrypted
unfoldable pub unchained_back : List ℕ → List ℕ → List ℕ
unchained_back k y = part 0 8 (decrypt k (part 0 8 y)) ++ part 0 8 (decrypt k (part 8 8 y))

pub unchained_inverse : (k : List ℕ) → Inverse (Bytes 16) (Bytes 16) (bl1_unchained k) (unchained_back k)
unfolding bl1_unchained unchained_back
unchained_inverse k = record {
  to = λ x h. bytes_append (bytes_part 0 8 (encrypt_bytes k _ (bytes_part 0 8 h))) (bytes_part 0 8 (encrypt_bytes k _ (bytes_part 8 8 h)));
  from = λ y h. bytes_append (bytes_part 0 8 (decrypt_bytes k _ (bytes_part 0 8 h))) (bytes_part 0 8 (decrypt_bytes k _ (bytes_part 8 8 h)));
  back = λ x h. rw (decrypt_part k (part 0 8 x) (bytes_part 0 8 h), decrypt_part k (part 8 8 x) (bytes_part 8 8 h)) (spell h);
  forth = λ y h. rw (encrypt_part k (part 0 8 y) (bytes_part 0 8 h), encrypt_part k (part 8 8 y) (bytes_part 8 8 h)) (spell h);
}
