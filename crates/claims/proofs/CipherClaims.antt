-- The cipher is undone, and f is not.
use Rattle.standard.proofs.Prelude.{◌≡◌, refl, sym, ap, ◌∙◌, List, ℕ, arith, length, eq-eqb}
use Rattle.standard.specs.Bytes.{◌!◌, bit, zeros}
use Rattle.standard.specs.Hurdle.{S, T, f, encrypt, decrypt, encrypt_call, decrypt_call}
use Rattle.standard.proofs.HurdleLaws.{length_crypt, decrypt_encrypt, encrypt_decrypt}
use Rattle.claims.specs.FalseClaims.{FCollides, half₁, half₂}
use Rattle.claims.specs.TrueClaims.{Undone}
use Rattle.claims.proofs.TermLaws.{literal_bytes}

pub length_encrypt : (k b : List ℕ) → length (encrypt k b) ≡ 8
unfolding encrypt
length_encrypt k b = length_crypt _ b

pub length_decrypt : (k b : List ℕ) → length (decrypt k b) ≡ 8
unfolding decrypt
length_decrypt k b = length_crypt _ b

pub undone : Undone
unfolding encrypt_call decrypt_call
undone = record {
  back = λ k b hk hb. rw (eq-eqb _ _ hk, eq-eqb _ _ hb, eq-eqb _ _ (length_encrypt k b), decrypt_encrypt k b hb);
  forth = λ k b hk hb. rw (eq-eqb _ _ hk, eq-eqb _ _ hb, eq-eqb _ _ (length_decrypt k b), encrypt_decrypt k b hb);
}

same_image : f half₁ (zeros 12) ≡ f half₂ (zeros 12)
unfolding f T S bit
same_image = refl

-- the third byte tells the two halves apart
pub f_collides : FCollides
f_collides = record {
  same = same_image;
  not_undone = λ g h.
      let back₁ = h half₁ (zeros 12) (literal_bytes half₁ refl) (literal_bytes (zeros 12) refl) in
      let back₂ = h half₂ (zeros 12) (literal_bytes half₂ refl) (literal_bytes (zeros 12) refl) in
      let e : half₁ ≡ half₂ = sym back₁ ∙ ap (λ (z : List ℕ). g z (zeros 12)) same_image ∙ back₂ in
      let z : ◌≡◌ {A = ℕ} 0x01 0xc1 = ap (λ (l : List ℕ). l ! 2) e in
      omega arith;
}
