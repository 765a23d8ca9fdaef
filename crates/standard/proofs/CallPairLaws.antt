-- Sealing and unsealing in the terms of the single calls: what a sealing call answers for legal input, the unsealing call takes back
-- with no check failed; and a text of which no check fails is what the sealing call answers for that key and number. TA61 likewise.
use Rattle.standard.proofs.Prelude.{◌≡◌, refl, List, ℕ, ◌+◌, ◌*◌, ◌/◌, ◌%◌, ◌^◌, ◌≤◌, ◌<◌, arith, length, eqb-true, eq-eqb, le-leb, lt-ltb}
use Rattle.standard.specs.Bytes.{◌!◌, bytes_of, number3, Bytes}
use Rattle.standard.specs.SealsFacts.{seal_body}
use Rattle.standard.specs.Identity.{ta61, ta61⁻¹, ta61_call, ta61⁻¹_call}
use Rattle.standard.specs.Refusals.{first}
use Rattle.standard.specs.Seals.{key_length, sealing_size, form31, form51, form81, form_of, seal, unseal, fails}
use Rattle.standard.specs.Seals.{body_of, body_key, body_number, number_tests, seal_call, unseal_call}
use Rattle.standard.specs.Seals.{ta31_call, ta32_call, ta51_call, ta52_call, ta81_call, ta82_call, ta91_call, ta92_call}
use Rattle.standard.specs.declared.KeyNumber.{KeyNumber}
use Rattle.standard.specs.declared.Algorithm.{Algorithm}
use Rattle.standard.specs.declared.Algorithm.TheVariants.{Ta31, Ta51, Ta81, Ta91}
use Rattle.standard.specs.declared.Version.{Version}
use Rattle.standard.proofs.BytesLaws.{pair_bytes, bytes_of_lem, spelled, spell, bytes_cons, bytes_one, bytes_zero, bytes_append, bytes_part}
use Rattle.standard.proofs.IdentityLaws.{identity_law}
use Rattle.standard.proofs.SealLaws.{Body, Clear, body31_zeros, body51_number, sealing}

-- ---- numbers and bytes

mod_byte : (n : ℕ) → n % 256 < 256
mod_byte n = omega arith

number2_of : (n : ℕ) → n < 65536 → 256 * (n / 2 ^ 8 % 256) + n / 2 ^ 0 % 256 ≡ n
number2_of n h = omega arith

number3_of : (n : ℕ) → n < 2 ^ 24 → number3 (bytes_of 3 n) ≡ n
number3_of n h = omega arith

number3_lt : (b : List ℕ) → Bytes 3 b → number3 b < 2 ^ 24
number3_lt b h = omega (arith, h.bound 0, h.bound 1, h.bound 2)

bytes3_of : (b : List ℕ) → Bytes 3 b → bytes_of 3 (number3 b) ≡ b
bytes3_of b h =
    let e₂ : number3 b / 2 ^ 16 % 256 ≡ b ! 0 = omega (arith, h.bound 0, h.bound 1, h.bound 2) in
    let e₁ : number3 b / 2 ^ 8 % 256 ≡ b ! 1 = omega (arith, h.bound 0, h.bound 1, h.bound 2) in
    let e₀ : number3 b / 2 ^ 0 % 256 ≡ b ! 2 = omega (arith, h.bound 0, h.bound 1, h.bound 2) in
    cc (spell h)

-- ---- bodies

-- a legal body is that of its key and its number, which the sealing call takes
pub body_again : (a : Algorithm) (b : List ℕ) → Body (form_of a) b → body_of a (body_key a b) (body_number a b) ≡ b
body_again Ta31 b h = cc (spell h.bytes, (body31_zeros b h).0, (body31_zeros b h).1)
body_again Ta51 b h = cc (spell h.bytes, (body51_number b h).0)
body_again Ta81 b h = cc (spell h.bytes, pair_bytes (b ! 10) (b ! 11) (h.bytes.bound 10) (h.bytes.bound 11))
body_again Ta91 b h = spell h.bytes

key_length_lem : (a : Algorithm) (b : List ℕ) → length (body_key a b) ≡ key_length a
key_length_lem Ta31 b = refl
key_length_lem Ta51 b = refl
key_length_lem Ta81 b = refl
key_length_lem Ta91 b = refl

number_passes : (a : Algorithm) (b : List ℕ) → Body (form_of a) b → first (number_tests a (body_number a b)) ≡ 0
number_passes Ta31 b h = refl
number_passes Ta51 b h = rw (le-leb _ _ (body51_number b h).1)
number_passes Ta81 b h = refl
number_passes Ta91 b h = refl

-- ---- the calls over the algorithm

module _ (a : Algorithm) (s : List ℕ) (v : Version) (hs : length s ≡ sealing_size a) where
  pub sealed_by : (b : List ℕ) → Body (form_of a) b → seal_body a b v s ≡ record { refusal = 0; bytes = seal (form_of a) s (bytes_of 2 v.0) b }
  unfolding seal_call
  sealed_by b h = rw (eq-eqb _ _ (key_length_lem a b), eq-eqb _ _ hs, number_passes a b h, body_again a b h)

  pub unsealed_by : (t : List ℕ) → length t ≡ 15
      → unseal_call a t s v
      ≡ record { refusal = 0; body = unseal (form_of a) s (bytes_of 2 v.0) t; failed_checks = fails (form_of a) s (bytes_of 2 v.0) t }
  unfolding unseal_call
  unsealed_by t ht = rw (eq-eqb _ _ ht, eq-eqb _ _ hs)

  -- the sealed text of a legal body unseals to it
  pub opens : (b : List ℕ) → Body (form_of a) b → unseal_call a (seal_body a b v s).bytes s v ≡ record { refusal = 0; body = b; failed_checks = 0 }
  opens b h =
      let i = sealing a s (bytes_of 2 v.0) in
      let t = i.to b h in
      let none : fails (form_of a) s (bytes_of 2 v.0) (seal (form_of a) s (bytes_of 2 v.0) b) ≡ 0 = eqb-true _ 0 t.passed in
      rw (sealed_by b h, unsealed_by _ t.bytes.len, i.back b h, none)

  -- a text of which no check fails is the sealed text of the body that it unseals to
  seals : (t : List ℕ) → Bytes 15 t → (unseal_call a t s v).failed_checks ≡ 0 → seal_body a (unseal_call a t s v).body v s ≡ record { refusal = 0; bytes = t }
  seals t h e =
      let i = sealing a s (bytes_of 2 v.0) in
      let u = unsealed_by t h.len in
      let ok : Clear (form_of a) s (bytes_of 2 v.0) t = record { bytes = h; passed = eq-eqb _ 0 (rw u at e) } in
      rw (u, sealed_by _ (i.from t ok), i.forth t ok)

-- ---- TA31 and TA32

module _ (s : List ℕ) (v : Version) (hs : length s ≡ 10) where
  pub ta31_opens : (ck : List ℕ) → Bytes 10 ck → ta32_call (ta31_call ck v s).bytes s v ≡ record { refusal = 0; key = ck; failed_checks = 0 }
  unfolding ta31_call ta32_call
  ta31_opens ck h =
      let legal : Body form31 (body_of Ta31 ck 0) = record { bytes = bytes_append (bytes_part 0 10 h) (bytes_cons (omega arith) bytes_zero); passed = refl } in
      rw (rw (spell h) at (opens Ta31 s v hs (body_of Ta31 ck 0) legal), spell h)

  pub ta32_seals : (t : List ℕ) → Bytes 15 t → (ta32_call t s v).failed_checks ≡ 0 → ta31_call (ta32_call t s v).key v s ≡ record { refusal = 0; bytes = t }
  unfolding ta31_call ta32_call
  ta32_seals t h e = seals Ta31 s v hs t h e

-- ---- TA51 and TA52, TA81 and TA82, TA91 and TA92

module _ (s : List ℕ) (v : Version) (hs : length s ≡ 16) where
  pub ta51_opens : (ck : List ℕ) (n : KeyNumber) → Bytes 10 ck → n.0 ≤ 31
      → ta52_call (ta51_call ck v s n).bytes s v ≡ record { refusal = 0; key = ck; number = n.0; failed_checks = 0 }
  unfolding ta51_call ta52_call
  ta51_opens ck n h hn =
      let legal : Body form51 (body_of Ta51 ck n.0) = record {
        bytes = bytes_append (bytes_part 0 10 h) (bytes_cons (omega arith) (bytes_one (omega arith)));
        passed = rw (le-leb _ _ hn);
      } in
      rw (rw (spell h) at (opens Ta51 s v hs (body_of Ta51 ck n.0) legal), spell h)

  pub ta52_seals : (t : List ℕ) → Bytes 15 t → (ta52_call t s v).failed_checks ≡ 0
      → ta51_call (ta52_call t s v).key v s (record { 0 = (ta52_call t s v).number }) ≡ record { refusal = 0; bytes = t }
  unfolding ta51_call ta52_call
  ta52_seals t h e = seals Ta51 s v hs t h e

  pub ta81_opens : (ck : List ℕ) (n : KeyNumber) → Bytes 10 ck → n.0 < 65536
      → ta82_call (ta81_call ck v s n).bytes s v ≡ record { refusal = 0; key = ck; number = n.0; failed_checks = 0 }
  unfolding ta81_call ta82_call
  ta81_opens ck n h hn =
      let legal : Body form81 (body_of Ta81 ck n.0) = record {
        bytes = bytes_append (bytes_part 0 10 h) (bytes_cons (mod_byte _) (bytes_one (mod_byte _)));
        passed = refl;
      } in
      rw (rw (spell h, number2_of n.0 hn) at (opens Ta81 s v hs (body_of Ta81 ck n.0) legal), spell h, number2_of n.0 hn)

  pub ta82_seals : (t : List ℕ) → Bytes 15 t → (ta82_call t s v).failed_checks ≡ 0
      → ta81_call (ta82_call t s v).key v s (record { 0 = (ta82_call t s v).number }) ≡ record { refusal = 0; bytes = t }
  unfolding ta81_call ta82_call
  ta82_seals t h e = seals Ta81 s v hs t h e

  pub ta91_opens : (gk : List ℕ) → Bytes 12 gk → ta92_call (ta91_call gk v s).bytes s v ≡ record { refusal = 0; key = gk; failed_checks = 0 }
  unfolding ta91_call ta92_call
  ta91_opens gk h = rw (rw (spell h) at (opens Ta91 s v hs (body_of Ta91 gk 0) (record { bytes = bytes_part 0 12 h; passed = refl })))

  pub ta92_seals : (t : List ℕ) → Bytes 15 t → (ta92_call t s v).failed_checks ≡ 0 → ta91_call (ta92_call t s v).key v s ≡ record { refusal = 0; bytes = t }
  unfolding ta91_call ta92_call unseal
  ta92_seals t h e =
      let n : length (unseal_call Ta91 t s v).body ≡ 12 = rw (unsealed_by Ta91 s v hs t h.len) refl in
      rw (spelled 12 (unseal_call Ta91 t s v).body n) at (seals Ta91 s v hs t h e)

-- ---- TA61 and its inverse

module _ (a : List ℕ) (h : Bytes 10 a) (n : ℕ) (hn : n < 2 ^ 24) where
  pub ta61_back : ta61⁻¹_call a (ta61_call a n).identity ≡ record { refusal = 0; identity = n }
  unfolding ta61_call ta61⁻¹_call
  ta61_back =
      let i = identity_law a h in
      let x = bytes_of 3 n in
      let y = i.to x (bytes_of_lem 3 n) in
      rw (eq-eqb _ _ h.len, lt-ltb _ _ hn, lt-ltb _ _ (number3_lt (ta61 a x) y), bytes3_of (ta61 a x) y, i.back x (bytes_of_lem 3 n), number3_of n hn)

  pub ta61_forth : ta61_call a (ta61⁻¹_call a n).identity ≡ record { refusal = 0; identity = n }
  unfolding ta61_call ta61⁻¹_call
  ta61_forth =
      let i = identity_law a h in
      let x = bytes_of 3 n in
      let y = i.from x (bytes_of_lem 3 n) in
      rw (eq-eqb _ _ h.len, lt-ltb _ _ hn, lt-ltb _ _ (number3_lt (ta61⁻¹ a x) y), bytes3_of (ta61⁻¹ a x) y, i.forth x (bytes_of_lem 3 n), number3_of n hn)
