-- The dropped byte, and what BL2 makes of a byte in its place.
use Rattle.standard.proofs.Prelude.{◌≡◌, refl, sym, ap, ◌∙◌, ◌↔◌, List, [], ◌∷◌, ◌++◌, ℕ, ◌<◌, arith, xor_comm, xor_self}
use Rattle.standard.specs.Bytes.{◌!◌, ◌⊕◌, part, xors, zeros, Bytes}
use Rattle.standard.specs.Cores.{bl1, bl2}
use Rattle.standard.specs.Hurdle.{encrypt, decrypt}
use Rattle.standard.specs.Seals.{without8}
use Rattle.standard.proofs.BytesLaws.{spelled, spell, bytes_append, bytes_part, bytes_xors, bytes_one}
use Rattle.standard.proofs.CoreLaws.{bl1_blocks, decrypt_part, encrypt_part}
use Rattle.standard.proofs.HurdleLaws.{encrypt_bytes, decrypt_bytes, decrypt_encrypt, encrypt_decrypt}
use Rattle.standard.proofs.InverseLaws.{Inverse}
use Rattle.standard.proofs.XorLaws.{xor_cancel_l, xor_cancel_r}
use Rattle.claims.specs.Entries.{with_inserted, ZeroAt}
use Rattle.claims.specs.FalseClaims.{DroppedByte, OtherByte, NotBackwards}
use Rattle.claims.proofs.BlockLaws.{bl1_inverse}
use Rattle.claims.proofs.CipherClaims.{length_decrypt}
use Rattle.claims.proofs.NumberLaws.{numbered}
use Rattle.claims.proofs.OnlyLaws.{counted, counted_then}
use Rattle.claims.proofs.TermLaws.{literal_bytes}

-- ---- each byte is dropped equally often

-- fourteen bytes: seven of the left output, and seven of the right block ⊕ the left output; the eighth of both is d
module _ (k : List ℕ) (d : ℕ) (hd : d < 256) where
  abbrev left : List ℕ → List ℕ
  left y = part 0 7 y ++ d ∷ []

  abbrev right : List ℕ → List ℕ
  right y = part 7 7 y ++ d ∷ []

  abbrev input : List ℕ → List ℕ
  input y = part 0 8 (decrypt k (left y)) ++ xors 8 (right y) (left y)

  abbrev outputs : List ℕ → List ℕ
  outputs x = let e : List ℕ = encrypt k (part 0 8 x) in part 0 7 e ++ xors 7 (part 8 8 x) e

  first_output : (x : List ℕ) → bl1 k x ! 7 ≡ encrypt k (part 0 8 x) ! 7
  first_output x = ap (λ (w : List ℕ). w ! 7) (bl1_blocks k x)

  dropped : Inverse (Bytes 14) (λ x. ZeroAt 15 x × (bl1 k x ! 7 ≡ d)) input outputs
  dropped = record {
    to = λ y h.
        let lb : Bytes 8 (left y) = bytes_append (bytes_part 0 7 h) (bytes_one hd) in
        let rb : Bytes 8 (right y) = bytes_append (bytes_part 7 7 h) (bytes_one hd) in
        let b = bytes_append (bytes_part 0 8 (decrypt_bytes k (left y) lb)) (bytes_xors 8 rb lb) in
        ((b, xor_self d), first_output (input y) ∙ ap (λ (w : List ℕ). w ! 7) (encrypt_part k (left y) lb));
    from = λ x h.
        let e = encrypt_bytes k (part 0 8 x) (bytes_part 0 8 h.0.0) in
        bytes_append (bytes_part 0 7 e) (bytes_xors 7 (bytes_part 8 8 h.0.0) e);
    back = λ y h.
        let lb : Bytes 8 (left y) = bytes_append (bytes_part 0 7 h) (bytes_one hd) in
        rw (encrypt_part k (left y) lb) (simp xor_cancel_r (spell h));
    forth = λ x h.
        let l : List ℕ = part 0 8 x in
        let lb : Bytes 8 l = bytes_part 0 8 h.0.0 in
        let e : List ℕ = encrypt k l in
        let z : e ! 7 ≡ d = sym (first_output x) ∙ h.1 in
        let same : part 0 7 e ++ d ∷ [] ≡ e = ap (λ (w : ℕ). part 0 7 e ++ w ∷ []) (sym z) ∙ spell (encrypt_bytes k l lb) in
        let undone : decrypt k (part 0 7 e ++ d ∷ []) ≡ l = ap (decrypt k) same ∙ decrypt_encrypt k l refl in
        let last : d ⊕ d ≡ x ! 15 = xor_self d ∙ sym h.0.1 in
        rw (undone, last) (simp xor_cancel_r (spell h.0.0));
  }

pub dropped_byte : DroppedByte
dropped_byte k d hd = counted_then (counted (numbered 14)) (dropped k d hd)

-- ---- another byte in its place

-- the left part of BL2's output gives the byte back
decrypt_apart : (k v w : List ℕ) → part 0 8 (decrypt k (part 0 8 v)) ≡ part 0 8 (decrypt k (part 0 8 w)) → part 0 8 v ≡ part 0 8 w
decrypt_apart k v w e =
    let again : (x : List ℕ) → encrypt k (part 0 8 (decrypt k (part 0 8 x))) ≡ part 0 8 x =
    λ x. ap (encrypt k) (spelled 8 (decrypt k (part 0 8 x)) (length_decrypt k (part 0 8 x))) ∙ encrypt_decrypt k (part 0 8 x) refl in
    sym (again v) ∙ ap (encrypt k) e ∙ again w

-- the byte that BL2 takes for the dropped one
xor_apart : (d e r : ℕ) → d ⊕ r ≡ e ⊕ r → d ≡ e
xor_apart d e r z = sym (xor_cancel_r d r) ∙ ap (λ (x : ℕ). x ⊕ r) z ∙ xor_cancel_r e r

pub other_byte : OtherByte
unfolding bl2
other_byte k t d e = record {
  left = λ other z.
      let r : ℕ = decrypt k (part 7 8 t) ! 7 in
      let same = decrypt_apart k (part 0 7 t ++ (d ⊕ r) ∷ []) (part 0 7 t ++ (e ⊕ r) ∷ []) z in
      other (xor_apart d e r (ap (λ (w : List ℕ). w ! 7) same));
  right = refl;
}

-- ---- after BL1

module _ (k x : List ℕ) (d : ℕ) (h : Bytes 16 x) where
  abbrev l : List ℕ
  l = part 0 8 x

  abbrev e : List ℕ
  e = encrypt k l

  -- what BL2 decrypts to the left part
  abbrev w : List ℕ
  w = part 0 7 e ++ (d ⊕ (x ! 15 ⊕ e ! 7)) ∷ []

  after_bl1 : bl2 k (with_inserted d (without8 (bl1 k x))) ≡ part 0 8 (decrypt k w) ++ part 8 7 x
  unfolding bl2
  after_bl1 =
      let r : List ℕ = xors 8 (part 8 8 x) e in
      let rb : Bytes 8 r = bytes_xors 8 (bytes_part 8 8 h) (encrypt_bytes k l (bytes_part 0 8 h)) in
      rw (bl1_blocks, decrypt_part k r rb) (simp xor_cancel_r)

  taken_back : d ⊕ (x ! 15 ⊕ e ! 7) ≡ e ! 7 → d ≡ x ! 15
  taken_back z =
      let y : ℕ = x ! 15 ⊕ e ! 7 in
      sym (xor_cancel_r d y) ∙ ap (λ (v : ℕ). v ⊕ y) z ∙ xor_comm (e ! 7) y ∙ xor_cancel_r (x ! 15) (e ! 7)

  with_byte : (bl2 k (with_inserted d (without8 (bl1 k x))) ≡ part 0 15 x) ↔ (d ≡ x ! 15)
  with_byte =
      let lb : Bytes 8 l = bytes_part 0 8 h in (
        λ z. taken_back (ap (λ (v : List ℕ). v ! 7) (decrypt_apart k w e (ap (part 0 8) (sym after_bl1 ∙ z) ∙ sym (ap (part 0 8) (decrypt_part k l lb))))),
        λ z.
            let last : d ⊕ (x ! 15 ⊕ e ! 7) ≡ e ! 7 = ap (λ (v : ℕ). v ⊕ (x ! 15 ⊕ e ! 7)) z ∙ xor_cancel_l (x ! 15) (e ! 7) in
            let same : w ≡ e = ap (λ (v : ℕ). part 0 7 e ++ v ∷ []) last ∙ spell (encrypt_bytes k l lb) in
            after_bl1 ∙ ap (λ (v : List ℕ). part 0 8 v ++ part 8 7 x) (ap (decrypt k) same ∙ decrypt_encrypt k l refl),
      )

-- BL1's own byte
with_its_own : (k x : List ℕ) → Bytes 16 x → (bl2 k (bl1 k x) ≡ part 0 15 x) ↔ (bl1 k x ! 7 ≡ x ! 15)
with_its_own k x h =
    let same : with_inserted (bl1 k x ! 7) (without8 (bl1 k x)) ≡ bl1 k x = spell ((bl1_inverse k).to x h) in
    let b = with_byte k x (bl1 k x ! 7) h in
    (λ z. b.0 (ap (bl2 k) same ∙ z), λ z. ap (bl2 k) (sym same) ∙ b.1 z)

pub not_backwards : NotBackwards
not_backwards = record {
  with_byte = with_byte;
  of_all = with_its_own;
  not_always = λ k.
      let hd : ◌<◌ 1 256 = omega arith in
      let x = input k 1 hd (zeros 14) in
      let one = (dropped k 1 hd).to (zeros 14) (literal_bytes (zeros 14) refl) in
      (x, one.0.0, λ z. omega (arith, (with_its_own k x one.0.0).0 z, one.0.1, one.1));
}
