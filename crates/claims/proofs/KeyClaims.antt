-- Sealing key and version enter by their ⊕ alone; and there are more sealing keys than texts.
use Rattle.standard.proofs.Prelude.{◌≡◌, refl, sym, ap, ◌∙◌, List, ℕ, suc, ◌^◌, ◌<◌, arith, xor_comm, xor_self, length, eq-eqb}
use native.Mathlib.Nat.{one-le-pow, pow-suc}
use Rattle.standard.specs.Bytes.{◌!◌, ◌⊕◌, Bytes}
use Rattle.standard.specs.SealsFacts.{seal_body}
use Rattle.standard.specs.Seals.{form_of, failed, key10, key16, sealed, opened, seal, unseal, fails}
use Rattle.standard.specs.Seals.{sealing_size, seal_call, unseal_call}
use Rattle.standard.specs.declared.Algorithm.{Algorithm}
use Rattle.standard.specs.declared.Algorithm.TheVariants.{Ta31, Ta51, Ta81, Ta91}
use Rattle.standard.specs.declared.Version.{Version}
use Rattle.standard.proofs.CallPairLaws.{sealed_by}
use Rattle.standard.proofs.SealLaws.{sealing}
use Rattle.standard.proofs.XorLaws.{xor_assoc, xor_cancel_l, xor_cancel_r}
use Rattle.claims.specs.FalseClaims.{other_key, KeyAndVersion, TwoKeys}
use Rattle.claims.proofs.NumberLaws.{numbered}
use Rattle.claims.proofs.OnlyLaws.{counted}
use Rattle.claims.proofs.PigeonholeLaws.{two_alike}
use Rattle.claims.proofs.TermLaws.{pair, legal_body}

-- what the other key has of both versions: one goes, the other stays
exchanged : (s v w : ℕ) → w ⊕ (s ⊕ (v ⊕ w)) ≡ v ⊕ s
exchanged s v w = xor_comm w _ ∙ ap (λ (x : ℕ). x ⊕ w) (sym (xor_assoc s v w)) ∙ xor_cancel_r (s ⊕ v) w ∙ xor_comm s v

same_key : (a : Algorithm) (s : List ℕ) (v w : Version) → (form_of a).key (other_key (sealing_size a) s v w) (pair w) ≡ (form_of a).key s (pair v)
unfolding key10 key16
same_key Ta31 s v w = simp exchanged
same_key Ta51 s v w = simp exchanged
same_key Ta81 s v w = simp exchanged
same_key Ta91 s v w = simp exchanged

module _ (a : Algorithm) (s : List ℕ) (v w : Version) where
  abbrev other : List ℕ
  other = other_key (sealing_size a) s v w

  same_seal : (b : List ℕ) → seal (form_of a) other (pair w) b ≡ seal (form_of a) s (pair v) b
  unfolding seal
  same_seal b = ap (λ (k : List ℕ). sealed (form_of a) k b) (same_key a s v w)

  same_unseal : (t : List ℕ) → unseal (form_of a) other (pair w) t ≡ unseal (form_of a) s (pair v) t
  unfolding unseal
  same_unseal t = ap (λ (k : List ℕ). (form_of a).shrink (opened k t)) (same_key a s v w)

  same_fails : (t : List ℕ) → fails (form_of a) other (pair w) t ≡ fails (form_of a) s (pair v) t
  unfolding fails
  same_fails t = ap (λ (k : List ℕ). failed (form_of a) (opened k t)) (same_key a s v w)

same_sealing : (a : Algorithm) (s : List ℕ) (v w : Version) → length s ≡ sealing_size a → (b : List ℕ)
    → seal_body a b w (other_key (sealing_size a) s v w) ≡ seal_body a b v s
unfolding seal_call
same_sealing Ta31 s v w hs b = rw (eq-eqb _ _ hs, same_seal Ta31 s v w)
same_sealing Ta51 s v w hs b = rw (eq-eqb _ _ hs, same_seal Ta51 s v w)
same_sealing Ta81 s v w hs b = rw (eq-eqb _ _ hs, same_seal Ta81 s v w)
same_sealing Ta91 s v w hs b = rw (eq-eqb _ _ hs, same_seal Ta91 s v w)

same_unsealing : (a : Algorithm) (s : List ℕ) (v w : Version) → length s ≡ sealing_size a → (t : List ℕ)
    → unseal_call a t (other_key (sealing_size a) s v w) w ≡ unseal_call a t s v
unfolding unseal_call
same_unsealing Ta31 s v w hs t = rw (eq-eqb _ _ hs, same_unseal Ta31 s v w, same_fails Ta31 s v w)
same_unsealing Ta51 s v w hs t = rw (eq-eqb _ _ hs, same_unseal Ta51 s v w, same_fails Ta51 s v w)
same_unsealing Ta81 s v w hs t = rw (eq-eqb _ _ hs, same_unseal Ta81 s v w, same_fails Ta81 s v w)
same_unsealing Ta91 s v w hs t = rw (eq-eqb _ _ hs, same_unseal Ta91 s v w, same_fails Ta91 s v w)

-- ---- and it is another key

-- x ⊕ (p ⊕ q) is x only if p and q are the same
not_changed : (x p q : ℕ) → x ⊕ (p ⊕ q) ≡ x → p ≡ q
not_changed x p q e =
    let z : p ⊕ q ≡ 0 = sym (xor_cancel_l x (p ⊕ q)) ∙ ap (◌⊕◌ x) e ∙ xor_self x in
    sym (xor_cancel_r p q) ∙ ap (λ (y : ℕ). y ⊕ q) z

-- the other key's first two bytes, for every kind
first_two : (a : Algorithm) (s : List ℕ) (v w : Version)
    → (other_key (sealing_size a) s v w ! 0 ≡ s ! 0 ⊕ (pair v ! 0 ⊕ pair w ! 0)) × (other_key (sealing_size a) s v w ! 1 ≡ s ! 1 ⊕ (pair v ! 1 ⊕ pair w ! 1))
first_two Ta31 s v w = (refl, refl)
first_two Ta51 s v w = (refl, refl)
first_two Ta81 s v w = (refl, refl)
first_two Ta91 s v w = (refl, refl)

same_version : (a : Algorithm) (s : List ℕ) (v w : Version) → other_key (sealing_size a) s v w ≡ s → (pair v ! 0 ≡ pair w ! 0) × (pair v ! 1 ≡ pair w ! 1)
same_version a s v w e =
    let two = first_two a s v w in (
      not_changed (s ! 0) _ _ (sym two.0 ∙ ap (λ (l : List ℕ). l ! 0) e),
      not_changed (s ! 1) _ _ (sym two.1 ∙ ap (λ (l : List ℕ). l ! 1) e),
    )

pub key_and_version : KeyAndVersion
key_and_version a s v w hs = record {
  seals = same_sealing a s v w hs;
  unseals = same_unsealing a s v w hs;
  another = λ hv hw other e. let z = same_version a s v w e in other (omega (arith, z.0, z.1));
}

-- ---- more keys than texts

more_bytes : (n : ℕ) → 256 ^ n < 256 ^ suc n
more_bytes n = let e = pow-suc 256 n in omega (arith, one-le-pow n 256 (omega arith))

pub two_keys : TwoKeys
two_keys a v b size h =
    let text : List ℕ → List ℕ = λ s. seal (form_of a) s (pair v) b in
    let body = (legal_body a b).0 h in
    let t = two_alike (counted (numbered 16)) (counted (numbered 15)) (more_bytes 15) text (λ s l. ((sealing a s (pair v)).to b body).bytes) in
    let s = t.0 in
    let s' = t.1 in
    let by : (x : List ℕ) → Bytes 16 x → seal_body a b v x ≡ record { refusal = 0; bytes = text x } = λ x l. sealed_by a x v (l.len ∙ sym size) b body in (
      s,
      s',
      record {
        bytes = t.2;
        bytes' = t.3;
        other = t.4;
        same = by s t.2 ∙ ap (λ (x : List ℕ). record { refusal = 0; bytes = x }) t.5 ∙ sym (by s' t.3);
      },
    )
