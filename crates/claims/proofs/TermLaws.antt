-- The calls over the algorithm, in the terms of the forms: what the laws of `standard` are about.
use Rattle.standard.proofs.Prelude.{◌≡◌, refl, sym, ap, ◌∙◌, Bool, true, false, ◌↔◌, List, [], ◌∷◌, ℕ, zero, suc, ◌<◌, arith, ltb, length, eqb-true, eq-eqb}
use Rattle.standard.proofs.Prelude.{ltb-true}
use Rattle.standard.specs.Bytes.{◌!◌, bytes_of, Bytes}
use Rattle.standard.specs.SealsFacts.{seal_body}
use Rattle.standard.specs.Refusals.{has_length, wrong_length, first}
use Rattle.standard.specs.Seals.{key_length, sealing_size, form_of, opened, seal, unseal, fails, body_key, body_number, number_tests, seal_call, unseal_call}
use Rattle.standard.specs.declared.Algorithm.{Algorithm}
use Rattle.standard.specs.declared.Bytes15.{Bytes15}
use Rattle.standard.specs.Refusals.{UnsealedBody}
use Rattle.standard.specs.declared.Version.{Version}
use Rattle.standard.proofs.BytesLaws.{and_split, every}
use Rattle.standard.proofs.CallPairLaws.{sealed_by, unsealed_by}
use Rattle.standard.proofs.CoreLaws.{unseal_core, core}
use Rattle.standard.proofs.SealLaws.{Body, Clear}
use Rattle.claims.specs.Entries.{Legal, Opens}

-- a list of literals is a string of bytes, by a test that computes
pub literal_bytes : (xs : List ℕ) → every (length xs) (λ i. ltb (xs ! i) 256) ≡ true → Bytes (length xs) xs
literal_bytes xs e = record { len = refl; bound = go xs e }
  where
    go : (ys : List ℕ) → every (length ys) (λ i. ltb (ys ! i) 256) ≡ true → (i : ℕ) → ys ! i < 256
    go [] t i = omega arith
    go (y ∷ ys) t zero = ltb-true y 256 (and_split (ltb y 256) (every (length ys) (λ i. ltb (ys ! i) 256)) t).0
    go (y ∷ ys) t (suc i) = go ys (and_split (ltb y 256) (every (length ys) (λ i. ltb (ys ! i) 256)) t).1 i

-- a version as two bytes
abbrev pub pair : Version → List ℕ
pair v = bytes_of 2 v.0

pub legal_body : (a : Algorithm) (b : List ℕ) → Legal a b ↔ Body (form_of a) b
legal_body a b = (
  λ h. record { bytes = h.bytes; passed = eq-eqb _ 0 h.accepted },
  λ h. record { bytes = h.bytes; accepted = eqb-true _ 0 h.passed },
)

-- ---- the lengths

-- what is not refused with 11 passed its test
first_passed : (t : Bool) (ts : List (Bool × ℕ)) → first ((t, wrong_length) ∷ ts) ≡ 0 → t ≡ true
first_passed true ts e = refl
first_passed false ts e = absurd (omega arith)

-- a call that is not refused got a sealing key of its length
pub sealing_size_lem : (a : Algorithm) (s : List ℕ) (v : Version) (b : List ℕ) → (seal_body a b v s).refusal ≡ 0 → length s ≡ sealing_size a
unfolding seal_call
sealing_size_lem a s v b e =
    eqb-true _ _ (and_split (has_length (key_length a) (body_key a b)) (has_length (sealing_size a) s) (first_passed _ (number_tests a (body_number a b)) e)).1

pub unsealing_size : (a : Algorithm) (s : List ℕ) (v : Version) (t : List ℕ) → (unseal_call a t s v).refusal ≡ 0 → length s ≡ sealing_size a
unfolding unseal_call
unsealing_size a s v t e = eqb-true _ _ (and_split (has_length 15 t) (has_length (sealing_size a) s) (first_passed _ [] e)).1

-- ---- sealing and unsealing

-- the sealed text of a legal body
pub text_by : (a : Algorithm) (s : List ℕ) (v : Version) → length s ≡ sealing_size a → (b : List ℕ) → Legal a b
    → (seal_body a b v s).bytes ≡ seal (form_of a) s (pair v) b
text_by a s v hs b h = ap (λ (x : Bytes15). x.bytes) (sealed_by a s v hs b ((legal_body a b).0 h))

-- what a text opens to, before it is shrunk: bytes, whatever the text
pub opened_bytes : (k t : List ℕ) → Bytes 15 t → Bytes 15 (opened k t)
unfolding opened unseal_core
opened_bytes k t h = (core k).from t h

-- the body and the failed checks of any fifteen numbers
pub body_by : (a : Algorithm) (s : List ℕ) (v : Version) (t : List ℕ) → length s ≡ sealing_size a → length t ≡ 15
    → (unseal_call a t s v).body ≡ unseal (form_of a) s (pair v) t
body_by a s v t hs h = ap (λ (u : UnsealedBody). u.body) (unsealed_by a s v hs t h)

pub failed_by : (a : Algorithm) (s : List ℕ) (v : Version) (t : List ℕ) → length s ≡ sealing_size a → length t ≡ 15
    → (unseal_call a t s v).failed_checks ≡ fails (form_of a) s (pair v) t
failed_by a s v t hs h = ap (λ (u : UnsealedBody). u.failed_checks) (unsealed_by a s v hs t h)

pub opens_clear : (a : Algorithm) (s : List ℕ) (v : Version) (t : List ℕ) → length s ≡ sealing_size a → Opens a s v t ↔ Clear (form_of a) s (pair v) t
opens_clear a s v t hs = (
  λ o. record { bytes = o.bytes; passed = eq-eqb _ 0 (sym (failed_by a s v t hs o.bytes.len) ∙ o.clear) },
  λ c.
      let e = unsealed_by a s v hs t c.bytes.len in
      record { bytes = c.bytes; accepted = ap (λ (u : UnsealedBody). u.refusal) e; clear = failed_by a s v t hs c.bytes.len ∙ eqb-true _ 0 c.passed },
)
