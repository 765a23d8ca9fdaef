-- TA61 and its inverse undo each other on all strings of three bytes, under every common key.
use Rattle.standard.proofs.Prelude.{◌≡◌, sym, ap, ◌∙◌, List, [], ◌∷◌, ℕ, ◌+◌, ◌-◌, ◌*◌, ◌/◌, ◌%◌, ◌<◌, mod-lt, mod-eq_of_lt, zero-lt-suc}
use Rattle.standard.proofs.Prelude.{arith}
use native.Mathlib.Nat.{add-mul-mod_self_left, add_comm}
use Rattle.standard.specs.Bytes.{◌!◌, byte, ◌⊕◌, ◌⊞◌, xors, Bytes}
use Rattle.standard.specs.Expansions.{exp4}
use Rattle.standard.specs.Hurdle.{S, S⁻¹}
use Rattle.standard.specs.Identity.{mix, unmix, unmixed, P, P⁻¹, bc, K1, K2, K3, between, encrypt_identity, decrypt_identity, ta61, ta61⁻¹}
use Rattle.standard.proofs.BytesLaws.{spell, bytes_cons, bytes_one, bytes_table, bytes_xors}
use Rattle.standard.proofs.HurdleLaws.{Permuted, permuted, encrypt_bytes}
use Rattle.standard.proofs.InverseLaws.{Inverse}
use Rattle.standard.proofs.XorLaws.{xor_byte, xor_cancel_r}

-- ---- the mixing, modulo 256

-- equal but for multiples of 256
same_mod : (x y p q : ℕ) → x + 256 * p ≡ y + 256 * q → x % 256 ≡ y % 256
same_mod x y p q e = sym (add-mul-mod_self_left x 256 p) ∙ ap (λ (n : ℕ). n % 256) e ∙ add-mul-mod_self_left y 256 q

-- what `mix` leaves out, with no subtraction
wrapped : (x y z : ℕ) → z < 256 → 2 * x + 2 * y + 256 ≡ z + mix x y z + 256 * ((2 * x + 2 * y + 256 - z) / 256)
wrapped x y z h = omega arith

mod_byte : (n : ℕ) → n % 256 < 256
mod_byte n = mod-lt n (zero-lt-suc 255)

-- 2X + 2Y - Z = V for X, Y, Z the mixtures of a, b, c: 57 V is a
nine : (a b c x y z v p q r s : ℕ) → 2 * a + 2 * b + 256 ≡ c + x + 256 * p → 2 * a + 2 * c + 256 ≡ b + y + 256 * q
    → 2 * b + 2 * c + 256 ≡ a + z + 256 * r → 2 * x + 2 * y + 256 ≡ z + v + 256 * s
    → 57 * v + 256 * (57 * (2 * p + 2 * q + s)) ≡ a + 256 * (2 * a + 228 + 57 * r)
nine a b c x y z v p q r s e₁ e₂ e₃ e₄ = omega arith

unmix_mix : (a b c : ℕ) → a < 256 → b < 256 → c < 256 → unmix (mix a b c) (mix a c b) (mix b c a) ≡ a
unmix_mix a b c ha hb hc =
    same_mod _ _ _ _
    (nine a b c _ _ _ _ _ _ _ _ (wrapped a b c hc) (wrapped a c b hb) (wrapped b c a ha)
    (wrapped (mix a b c) (mix a c b) (mix b c a) (mod_byte _)))
    ∙ mod-eq_of_lt ha

-- a factor goes through the mixing
scaled : (x y z x' y' z' v w p q r s t : ℕ) → 57 * x ≡ x' + 256 * p → 57 * y ≡ y' + 256 * q → 57 * z ≡ z' + 256 * r
    → 2 * x + 2 * y + 256 ≡ z + v + 256 * s → 2 * x' + 2 * y' + 256 ≡ z' + w + 256 * t
    → w + 256 * (t + 2 * p + 2 * q + 57) ≡ 57 * v + 256 * (57 * s + 1 + r)
scaled x y z x' y' z' v w p q r s t e₁ e₂ e₃ e₄ e₅ = omega arith

times : (x : ℕ) → 57 * x ≡ 57 * x % 256 + 256 * (57 * x / 256)
times x = omega arith

mix_times : (x y z : ℕ) → z < 256 → mix (57 * x % 256) (57 * y % 256) (57 * z % 256) ≡ 57 * mix x y z % 256
mix_times x y z h =
    sym (mod-eq_of_lt (mod_byte _))
    ∙ same_mod _ _ _ _
    (scaled x y z _ _ _ _ _ _ _ _ _ _ (times x) (times y) (times z) (wrapped x y z h)
    (wrapped (57 * x % 256) (57 * y % 256) (57 * z % 256) (mod_byte _)))

mix_unmix : (x y z : ℕ) → x < 256 → y < 256 → z < 256 → mix (unmix x y z) (unmix x z y) (unmix y z x) ≡ x
mix_unmix x y z hx hy hz = mix_times (mix x y z) (mix x z y) (mix y z x) (mod_byte _) ∙ unmix_mix x y z hx hy hz

-- ---- P and its inverse

mix_comm : (x y z : ℕ) → mix x y z ≡ mix y x z
mix_comm x y z = ap (λ (n : ℕ). (n + 256 - z) % 256) (add_comm (2 * x) (2 * y))

-- the other two rows, from the first
unmixed_mix : (a b c : ℕ) → a < 256 → b < 256 → c < 256 → unmixed (mix a b c) (mix a c b) (mix b c a) ≡ a ∷ b ∷ c ∷ []
unmixed_mix a b c ha hb hc =
    cc (unmix_mix a b c ha hb hc, unmix_mix b a c hb ha hc, unmix_mix c a b hc ha hb, mix_comm a b c, mix_comm a c b, mix_comm b c a)

-- what `P` puts through S, after the inverse: the bytes themselves
mixed_unmix : (x y z : ℕ) → x < 256 → y < 256 → z < 256
    → let u = unmix x y z in
    let v = unmix x z y in
    let w = unmix y z x in
    ◌≡◌ {A = List ℕ} (mix u v w ∷ mix u w v ∷ mix v w u ∷ []) (x ∷ y ∷ z ∷ [])
mixed_unmix x y z hx hy hz =
    cc (mix_unmix x y z hx hy hz, mix_unmix y x z hy hx hz, mix_unmix z x y hz hx hy, mix_comm x y z, mix_comm x z y, mix_comm y z x)

P_bytes : (a : List ℕ) → Bytes 3 (P a)
unfolding P
P_bytes a = bytes_cons (permuted _ (mod_byte _)).s_byte (bytes_cons (permuted _ (mod_byte _)).s_byte (bytes_one (permuted _ (mod_byte _)).s_byte))

P⁻¹_bytes : (o : List ℕ) → Bytes 3 (P⁻¹ o)
unfolding P⁻¹
P⁻¹_bytes o = bytes_cons (mod_byte _) (bytes_cons (mod_byte _) (bytes_one (mod_byte _)))

inverse_s_mix : (x y z : ℕ) → S⁻¹ ! (S ! mix x y z) ≡ mix x y z
inverse_s_mix x y z = (permuted (mix x y z) (mod_byte _)).inverse_s

P⁻¹_P : (a : List ℕ) → Bytes 3 a → P⁻¹ (P a) ≡ a
unfolding P P⁻¹
P⁻¹_P a h =
    simp inverse_s_mix (unmixed_mix (a ! 0) (a ! 1) (a ! 2) (h.bound 0) (h.bound 1) (h.bound 2) ∙ spell h)

P_P⁻¹ : (o : List ℕ) → Bytes 3 o → P (P⁻¹ o) ≡ o
unfolding P P⁻¹
P_P⁻¹ o h =
    let p : (k : ℕ) → Permuted (o ! k) = λ k. permuted (o ! k) (h.bound k) in
    cc (
      mixed_unmix (S⁻¹ ! (o ! 0)) (S⁻¹ ! (o ! 1)) (S⁻¹ ! (o ! 2)) (p 0).inverse_byte (p 1).inverse_byte (p 2).inverse_byte,
      (p 0).s_inverse,
      (p 1).s_inverse,
      (p 2).s_inverse,
      spell h,
    )

-- ---- TA61

xors_twice : (x k : List ℕ) → Bytes 3 x → xors 3 (xors 3 x k) k ≡ x
xors_twice x k h = simp xor_cancel_r (spell h)

-- three ⊕ with a map between them, undone by the map's inverse and the same strings in reverse order
module _ (f g : List ℕ → List ℕ) (f_bytes : (x : List ℕ) → Bytes 3 (f x)) (g-f : (x : List ℕ) → Bytes 3 x → g (f x) ≡ x) where
  layer : (k x : List ℕ) → Bytes 3 x → g (xors 3 (xors 3 (f x) k) k) ≡ x
  layer k x h = ap g (xors_twice (f x) k (f_bytes x)) ∙ g-f x h

  layers : (k₁ k₂ k₃ x : List ℕ) → Bytes 3 k₁ → Bytes 3 k₂ → Bytes 3 x → between g k₃ k₂ k₁ (between f k₁ k₂ k₃ x) ≡ x
  layers k₁ k₂ k₃ x h₁ h₂ h =
      ap (λ (z : List ℕ). xors 3 (g (xors 3 z k₂)) k₁) (layer k₃ (xors 3 (f (xors 3 x k₁)) k₂) (bytes_xors 3 (f_bytes _) h₂))
      ∙ ap (λ (z : List ℕ). xors 3 z k₁) (layer k₂ (xors 3 x k₁) (bytes_xors 3 h h₁))
      ∙ xors_twice x k₁ h

-- ---- under every common key

bc_bytes : (a : List ℕ) → Bytes 10 a → Bytes 8 (bc a)
unfolding bc
bc_bytes a h = encrypt_bytes (exp4 a) _ (bytes_table 8 (λ i. a ! i ⊕ a ! (i + 2)) (λ i. xor_byte (a ! i) (a ! (i + 2)) (h.bound i) (h.bound (i + 2))))

-- three bytes of a string of bytes
three : (b : List ℕ) → Bytes 8 b → (i j k : ℕ) → Bytes 3 (byte 8 b i ∷ byte 8 b j ∷ byte 8 b k ∷ [])
three b h i j k = bytes_cons (h.bound _) (bytes_cons (h.bound _) (bytes_one (h.bound _)))

encrypt_identity_bytes : (b x : List ℕ) → Bytes 8 b → Bytes 3 (encrypt_identity b x)
unfolding encrypt_identity
encrypt_identity_bytes b x h = bytes_xors 3 (P_bytes _) (three b h 5 2 7)

decrypt_identity_bytes : (b y : List ℕ) → Bytes 8 b → Bytes 3 (decrypt_identity b y)
unfolding decrypt_identity
decrypt_identity_bytes b y h = bytes_xors 3 (P⁻¹_bytes _) (three b h 7 4 1)

identity_inverse : (b : List ℕ) → Bytes 8 b → Inverse (Bytes 3) (Bytes 3) (encrypt_identity b) (decrypt_identity b)
unfolding encrypt_identity decrypt_identity
identity_inverse b h = record {
  to = λ x p. encrypt_identity_bytes b x h;
  from = λ y p. decrypt_identity_bytes b y h;
  back = λ x p. layers P P⁻¹ P_bytes P⁻¹_P (K1 b) (K2 b) (K3 b) x (three b h 7 4 1) (three b h 6 3 0) p;
  forth = λ y p. layers P⁻¹ P P⁻¹_bytes P_P⁻¹ (K3 b) (K2 b) (K1 b) y (three b h 5 2 7) (three b h 6 3 0) p;
}

pub identity_law : (a : List ℕ) → Bytes 10 a → Inverse (Bytes 3) (Bytes 3) (ta61 a) (ta61⁻¹ a)
identity_law a h = identity_inverse (bc a) (bc_bytes a h)

-- ---- `mix` by wrapping sums and a wrapping difference, as code has it

doubled : (x y z a b s p q r : ℕ) → z < 256 → x + x ≡ a + 256 * p → y + y ≡ b + 256 * q → a + b ≡ s + 256 * r
    → s + 256 - z + 256 * (p + q + r) ≡ 2 * x + 2 * y + 256 - z + 256 * 0
doubled x y z a b s p q r h e₁ e₂ e₃ = omega arith

parted : (n : ℕ) → n ≡ n % 256 + 256 * (n / 256)
parted n = omega arith

pub mix_wraps : (x y z : ℕ) → z < 256 → ((x ⊞ x) ⊞ (y ⊞ y) + 256 - z) % 256 ≡ mix x y z
mix_wraps x y z h =
    let s : ℕ = (x ⊞ x) + (y ⊞ y) in
    same_mod (s % 256 + 256 - z) (2 * x + 2 * y + 256 - z) ((x + x) / 256 + (y + y) / 256 + s / 256) 0
    (doubled x y z _ _ _ _ _ _ h (parted (x + x)) (parted (y + y)) (parted s))
