-- A whole ring and the versions of a book enter by their ⊕ alone.
use Rattle.standard.proofs.Prelude.{◌≡◌, refl, sym, ap, ◌∙◌, Bool, true, false, List, ℕ, ◌*◌, ◌/◌, ◌%◌, ◌<◌, arith, xor_self, eqb, length}
use Rattle.std.specs.Prelude.{Option}
use Rattle.standard.specs.Books.{sealing_key, named, plain_fault, seal_record, WellFormed, sealed_form}
use Rattle.standard.specs.Bytes.{◌!◌, ◌⊕◌, part, xors, zeros, choose, Bytes}
use Rattle.standard.specs.Lists.{record_at, each}
use Rattle.standard.specs.Seals.{kind_of, form, repeated, key10, key16, seal}
use Rattle.standard.specs.Sizes.{ring_size, plain_size, sealed_size}
use Rattle.standard.specs.declared.Algorithm.TheVariants.{Ta31, Ta51, Ta81, Ta91}
use Rattle.standard.specs.declared.Kind.{Kind}
use Rattle.standard.specs.declared.RingKey.TheVariants.{D, O, G}
use Rattle.standard.proofs.BookLaws.{joined_same, joined_bytes, joined_length, joined_at}
use Rattle.standard.proofs.BytesLaws.{spell, bytes_table, bytes_append, bytes_part, bytes_xors}
use Rattle.standard.proofs.Demand3Laws.{book}
use Rattle.standard.proofs.XorLaws.{xor_assoc, xor_cancel_l, xor_cancel_r}
use Rattle.claims.specs.FalseClaims.{other_ring, other_version, other_versions, RingAndVersions}

-- ---- one record

-- the same bytes in the version and in the sealing key go
crossed : (v x s : ℕ) → v ⊕ x ⊕ (x ⊕ s) ≡ v ⊕ s
crossed v x s = xor_assoc v x (x ⊕ s) ∙ ap (◌⊕◌ v) (xor_cancel_l x s)

-- what each of six kinds has, the kind that a byte names has; one that no byte names is read as kind 4
choose_has : {A : Type 0} (P : A → Type 0) {x y : A} (t : Bool) → P x → P y → P (choose t x y)
choose_has P true p q = p
choose_has P false p q = q

by_kind : (P : Kind → Type 0)
    → P (record { algorithm = Ta31; under = D }) → P (record { algorithm = Ta51; under = O }) → P (record { algorithm = Ta81; under = O })
    → P (record { algorithm = Ta91; under = O }) → P (record { algorithm = Ta51; under = G }) → P (record { algorithm = Ta81; under = G })
    → (b : ℕ) → P (named (kind_of b))
unfolding kind_of
by_kind P p₁ p₂ p₃ p₄ p₅ p₆ b =
    let Q : Option Kind → Type 0 = λ k. P (named k) in
    choose_has Q (eqb b 1) p₁
    (choose_has Q (eqb b 2) p₂ (choose_has Q (eqb b 3) p₃ (choose_has Q (eqb b 4) p₄ (choose_has Q (eqb b 5) p₅ (choose_has Q (eqb b 6) p₆ p₄)))))

module _ (x r : List ℕ) where
  -- the core's key of a record, under the other ring with the other version
  same_core : (v : List ℕ) (b : ℕ)
      → (form (named (kind_of b))).key (sealing_key (named (kind_of b)) (other_ring x r)) (xors 2 v x)
      ≡ (form (named (kind_of b))).key (sealing_key (named (kind_of b)) r) v
  unfolding key10 key16
  same_core v b =
      by_kind (λ k. (form k).key (sealing_key k (other_ring x r)) (xors 2 v x) ≡ (form k).key (sealing_key k r) v)
      (simp crossed) (simp crossed) (simp crossed) (simp crossed) (simp crossed) (simp crossed) b

  same_record : (p : List ℕ) → seal_record (other_ring x r) (other_version plain_size x p) ≡ other_version sealed_size x (seal_record r p)
  unfolding seal_record seal
  same_record p = rw (same_core (part 4 2 p) (p ! 0))

-- ---- a book

-- a record of a sealed form is the sealed record of the plain one
pub sealed_at : (r p : List ℕ) (i : ℕ) → i < length p / plain_size → record_at sealed_size (sealed_form r p) i ≡ seal_record r (record_at plain_size p i)
unfolding sealed_form seal_record
sealed_at r p i h = joined_at sealed_size (λ j. seal_record r (record_at plain_size p j)) (length p / plain_size) (λ j l. refl) i h

-- p with the other versions is p', its sealed form under the ring r is s

module _ (r p x : List ℕ) (hr : Bytes ring_size r) (w : WellFormed p) (hx : Bytes 2 x) where
  abbrev n : ℕ
  n = length p / plain_size

  abbrev p' : List ℕ
  p' = other_versions plain_size x p

  plain_bytes : Bytes (plain_size * n) p
  plain_bytes = (book w).bytes

  other_ring_lem : Bytes ring_size (other_ring x r)
  other_ring_lem =
      let repeat : (k : ℕ) → Bytes k (repeated k x) = λ k. bytes_table k (λ i. x ! (i % 2)) (λ i. hx.bound (i % 2)) in
      let d = bytes_xors 10 (repeat 10) (bytes_part 0 10 hr) in
      let o = bytes_xors 16 (repeat 16) (bytes_part 10 16 hr) in
      let g = bytes_xors 16 (repeat 16) (bytes_part 36 16 hr) in
      bytes_append (bytes_append (bytes_append d o) (bytes_part 26 10 hr)) g

  other_bytes : (i : ℕ) → i < n → Bytes plain_size (other_version plain_size x (record_at plain_size p i))
  other_bytes i h =
      let q = bytes_part (plain_size * i) plain_size plain_bytes in
      bytes_append (bytes_append (bytes_part 0 4 q) (bytes_xors 2 (bytes_part 4 2 q) hx)) (bytes_part 6 12 q)

  p'_bytes : Bytes (plain_size * n) p'
  p'_bytes = joined_bytes plain_size (λ i. other_version plain_size x (record_at plain_size p i)) n other_bytes

  p'_at : (i : ℕ) → i < n → record_at plain_size p' i ≡ other_version plain_size x (record_at plain_size p i)
  p'_at i h = joined_at plain_size (λ i. other_version plain_size x (record_at plain_size p i)) n (λ i l. refl) i h

  s_length : length (sealed_form r p) ≡ sealed_size * n
  unfolding sealed_form seal_record
  s_length = joined_length sealed_size (λ i. seal_record r (record_at plain_size p i)) n (λ i l. refl)

  -- as many records
  s_count : length (sealed_form r p) / sealed_size ≡ n
  s_count = omega (arith, s_length)

  s'_at : (i : ℕ) → i < n
      → let s = sealed_form r p in
      record_at sealed_size (other_versions sealed_size x s) i ≡ other_version sealed_size x (record_at sealed_size s i)
  s'_at i h =
      let s : List ℕ = sealed_form r p in
      let made : ℕ → List ℕ = λ i. other_version sealed_size x (record_at sealed_size s i) in
      joined_at sealed_size made (length s / sealed_size) (λ i l. refl) i (omega (arith, s_count))

  p'_count : length p' / plain_size ≡ n
  p'_count = omega (arith, p'_bytes.len)

  p'_formed : WellFormed p'
  unfolding plain_fault
  p'_formed = record {
    bytes = p'_bytes.bound;
    short = omega (arith, p'_bytes.len, w.short);
    whole = omega (arith, p'_bytes.len);
    legal = λ i h. let l : i < n = rw p'_count at h in ap plain_fault (p'_at i l) ∙ w.legal i l;
  }

  same_form : sealed_form (other_ring x r) p' ≡ other_versions sealed_size x (sealed_form r p)
  unfolding sealed_form
  same_form =
      ap (λ (m : ℕ). each m plain_size (seal_record (other_ring x r)) p') p'_count
      ∙ joined_same n (λ i. seal_record (other_ring x r) (record_at plain_size p' i)) (λ i. other_version sealed_size x (record_at sealed_size (sealed_form r p) i))
      (λ i h. ap (seal_record (other_ring x r)) (p'_at i h) ∙ same_record x r (record_at plain_size p i) ∙ ap (other_version sealed_size x) (sym (sealed_at r p i h)))
      ∙ ap (λ (m : ℕ). each m sealed_size (other_version sealed_size x) (sealed_form r p)) (sym s_count)

  -- x ⊕ a byte is that byte only if x is 0
  no_zeros : other_ring x r ≡ r → x ≡ zeros 2
  no_zeros e =
      let zero-at : (i : ℕ) → x ! i ⊕ r ! i ≡ r ! i → x ! i ≡ 0 = λ i z. sym (xor_cancel_r (x ! i) (r ! i)) ∙ ap (λ (y : ℕ). y ⊕ r ! i) z ∙ xor_self (r ! i) in
      cc (spell hx, zero-at 0 (ap (λ (l : List ℕ). l ! 0) e), zero-at 1 (ap (λ (l : List ℕ). l ! 1) e))

pub ring_and_versions : RingAndVersions
ring_and_versions r p x hr w hx = record {
  ring = other_ring_lem r p x hr w hx;
  another = λ h e. h (no_zeros r p x hr w hx e);
  sealed = record { formed = p'_formed r p x hr w hx; is = same_form r p x hr w hx };
  identities = λ i h. ap (part 1 3) (s'_at r p x hr w hx i h);
  texts = λ i h. ap (part 6 15) (s'_at r p x hr w hx i h);
}
