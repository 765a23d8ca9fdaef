-- A record: sealing and opening are inverse between the plain records that no refusal applies to and the sealed ones that open.
use Rattle.standard.proofs.Prelude.{◌≡◌, refl, sym, ◌∙◌, Bool, true, false, ◌&&◌, List, [], ◌∷◌, ℕ, eqb}
use Rattle.standard.specs.Books.{sealing_key, common_key, is_known, record_kind, plain_fault, seal_record, open_fault, open_record}
use Rattle.standard.specs.Bytes.{◌!◌, part, choose, Bytes}
use Rattle.standard.proofs.BytesLaws.{Passed}
use Rattle.standard.specs.Identity.{ta61, ta61⁻¹}
use Rattle.standard.specs.Refusals.{wrong_kind, flag_set, first}
use Rattle.standard.specs.Seals.{kind_of, form, seal, unseal, clears}
use Rattle.standard.specs.Sizes.{ring_size, plain_size, sealed_size}
use Rattle.standard.specs.declared.Kind.{Kind}
use Rattle.standard.proofs.BytesLaws.{spell, bytes_append, bytes_part, bytes_cons, and_split, and_join}
use Rattle.standard.proofs.IdentityLaws.{identity_law}
use Rattle.standard.proofs.InverseLaws.{Inverse}
use Rattle.standard.proofs.SealLaws.{Body, Clear, sealing}

-- a plain record without refusal, and a sealed one
abbrev pub Plain : List ℕ → Type 0
Plain = Passed plain_size (λ p. eqb (plain_fault p) 0)

abbrev pub Sealed : List ℕ → List ℕ → Type 0
Sealed r = Passed sealed_size (λ t. eqb (open_fault r t) 0)

-- ---- what the absence of a refusal says

-- 3 goes before a body's own fault
plain_test : (p : List ℕ) → eqb (plain_fault p) 0 ≡ is_known (kind_of (p ! 0)) && eqb ((form (record_kind p)).fault (part 6 12 p)) 0
unfolding plain_fault
plain_test p = go (is_known (kind_of (p ! 0)))
  where
    go : (k : Bool) → eqb (choose k ((form (record_kind p)).fault (part 6 12 p)) 3) 0 ≡ k && eqb ((form (record_kind p)).fault (part 6 12 p)) 0
    go true = refl
    go false = refl

-- 3 goes before 6
open_test : (r t : List ℕ)
    → eqb (open_fault r t) 0 ≡ is_known (kind_of (t ! 0)) && clears (form (record_kind t)) (sealing_key (record_kind t) r) (part 4 2 t) (part 6 15 t)
unfolding open_fault
open_test r t = go (is_known (kind_of (t ! 0))) (clears (form (record_kind t)) (sealing_key (record_kind t) r) (part 4 2 t) (part 6 15 t))
  where
    go : (k c : Bool) → eqb (first ((k, wrong_kind) ∷ (c, flag_set) ∷ [])) 0 ≡ k && c
    go true true = refl
    go true false = refl
    go false c = refl

module _ (r : List ℕ) (hr : Bytes ring_size r) where
  identity : Inverse (Bytes 3) (Bytes 3) (ta61 (common_key r)) (ta61⁻¹ (common_key r))
  identity = identity_law (common_key r) (bytes_part 26 10 hr)

  text : (k : Kind) (v : List ℕ)
      → Inverse (Body (form k)) (Clear (form k) (sealing_key k r) v) (seal (form k) (sealing_key k r) v) (unseal (form k) (sealing_key k r) v)
  text k v = sealing k.algorithm (sealing_key k r) v

  -- ---- sealing a plain record

  module _ (p : List ℕ) (h : Plain p) where
    tests : (is_known (kind_of (p ! 0)) ≡ true) × (eqb ((form (record_kind p)).fault (part 6 12 p)) 0 ≡ true)
    tests = and_split (is_known (kind_of (p ! 0))) _ (sym (plain_test p) ∙ h.passed)

    body : Body (form (record_kind p)) (part 6 12 p)
    body = record { bytes = bytes_part 6 12 h.bytes; passed = tests.1 }

    hidden : Bytes 3 (ta61 (common_key r) (part 1 3 p))
    hidden = identity.to (part 1 3 p) (bytes_part 1 3 h.bytes)

    sealed : let F = form (record_kind p) in
        let s = sealing_key (record_kind p) r in
        Clear F s (part 4 2 p) (seal F s (part 4 2 p) (part 6 12 p))
    sealed = (text (record_kind p) (part 4 2 p)).to (part 6 12 p) body

    back : open_record r (seal_record r p) ≡ p
    unfolding seal_record open_record
    back =
        rw (
          spell hidden,
          identity.back (part 1 3 p) (bytes_part 1 3 h.bytes),
          spell sealed.bytes,
          (text (record_kind p) (part 4 2 p)).back (part 6 12 p) body,
        )
        (spell h.bytes)

    to : Sealed r (seal_record r p)
    unfolding seal_record
    to = record {
      bytes = bytes_cons (h.bytes.bound 0)
          (bytes_append (bytes_append (bytes_part 0 3 hidden) (bytes_part 4 2 h.bytes)) (bytes_part 0 15 sealed.bytes));
      passed = open_test r _ ∙ and_join tests.0 (rw (spell sealed.bytes) sealed.passed);
    }

  -- ---- opening a sealed record

  module _ (t : List ℕ) (h : Sealed r t) where
    tests_of_lem : (is_known (kind_of (t ! 0)) ≡ true) × (clears (form (record_kind t)) (sealing_key (record_kind t) r) (part 4 2 t) (part 6 15 t) ≡ true)
    tests_of_lem = and_split (is_known (kind_of (t ! 0))) _ (sym (open_test r t) ∙ h.passed)

    clear : Clear (form (record_kind t)) (sealing_key (record_kind t) r) (part 4 2 t) (part 6 15 t)
    clear = record { bytes = bytes_part 6 15 h.bytes; passed = tests_of_lem.1 }

    revealed : Bytes 3 (ta61⁻¹ (common_key r) (part 1 3 t))
    revealed = identity.from (part 1 3 t) (bytes_part 1 3 h.bytes)

    unsealed : Body (form (record_kind t)) (unseal (form (record_kind t)) (sealing_key (record_kind t) r) (part 4 2 t) (part 6 15 t))
    unsealed = (text (record_kind t) (part 4 2 t)).from (part 6 15 t) clear

    forth : seal_record r (open_record r t) ≡ t
    unfolding seal_record open_record
    forth =
        rw (
          spell revealed,
          identity.forth (part 1 3 t) (bytes_part 1 3 h.bytes),
          spell unsealed.bytes,
          (text (record_kind t) (part 4 2 t)).forth (part 6 15 t) clear,
        )
        (spell h.bytes)

    from : Plain (open_record r t)
    unfolding open_record
    from = record {
      bytes = bytes_cons (h.bytes.bound 0)
          (bytes_append (bytes_append (bytes_part 0 3 revealed) (bytes_part 4 2 h.bytes)) (bytes_part 0 12 unsealed.bytes));
      passed = plain_test _ ∙ and_join tests_of_lem.0 (rw (spell unsealed.bytes) unsealed.passed);
    }

  pub record_law : Inverse Plain (Sealed r) (seal_record r) (open_record r)
  record_law = record { to = to; from = from; back = back; forth = forth }
