-- How many texts unseal to one entry, whether their checks pass or not: as many as there are values of what the checks are of.
use Rattle.standard.proofs.Prelude.{◌≡◌, refl, sym, ap, ap₂, ◌∙◌, Bool, true, false, ◌↔◌, List, [], ◌∷◌, ◌++◌, ℕ, suc, ◌+◌, ◌*◌, ◌/◌, ◌%◌, ◌^◌, ◌<◌, arith, eqb}
use Rattle.standard.proofs.Prelude.{length, eqb-true}
use mathlib.Core.Logic.Iff
use Rattle.standard.specs.Bytes.{◌!◌, bit, part, bytes_of, number, choose, Bytes}
use Rattle.standard.specs.Expansions.{inserted, exp1_groups, exp3_groups, x16_groups}
use Rattle.standard.specs.Seals.{sealing_size, form51, form_of, failed, opened, unseal, fails, unseal_call}
use Rattle.standard.specs.declared.Algorithm.{Algorithm}
use Rattle.standard.specs.declared.Algorithm.TheVariants.{Ta31, Ta51, Ta81, Ta91}
use Rattle.standard.specs.declared.Version.{Version}
use Rattle.standard.proofs.BytesLaws.{spell, bytes_nil, bytes_append, bytes_cons, bytes_one, bytes_of_lem, bytes_part}
use Rattle.standard.proofs.CheckLaws.{failed_at}
use Rattle.standard.proofs.CoreLaws.{unseal_core, core}
use Rattle.standard.proofs.ExpansionLaws.{full}
use Rattle.standard.proofs.InverseLaws.{Inverse}
use Rattle.standard.proofs.SealLaws.{body31_zeros, body51_number}
use Rattle.claims.specs.Entries.{Count, Legal}
use Rattle.claims.specs.TrueClaims.{unsealing_alike, WithoutChecks}
use Rattle.claims.proofs.NumberLaws.{numbered}
use Rattle.claims.proofs.OnlyLaws.{inverse_then, inverse_same, inverse_where, counted, counted_then}
use Rattle.claims.proofs.TermLaws.{pair, legal_body, body_by, failed_by}

-- ---- groups with any bytes after them

-- after each group, from index `from` on, stands a byte of y, from index `at` on
abbrev filled : List ℕ → (from at : ℕ) (b y : List ℕ) → List ℕ
filled [] from at b y = []
filled (n ∷ ns) from at b y = part from n b ++ y ! at ∷ filled ns (from + n) (suc at) b y

filled_bytes : {l m : ℕ} {b y : List ℕ} → Bytes l b → Bytes m y → (ns : List ℕ) (from at : ℕ) → Bytes (full ns) (filled ns from at b y)
filled_bytes hb hy [] from at = bytes_nil
filled_bytes hb hy (n ∷ ns) from at = bytes_append (bytes_part from n hb) (bytes_cons (hy.bound at) (filled_bytes hb hy ns (from + n) (suc at)))

inserted_bytes : {m : ℕ} {u : List ℕ} → Bytes m u → (ns : List ℕ) (from : ℕ) → Bytes (length ns) (inserted ns from u)
inserted_bytes h [] from = bytes_nil
inserted_bytes h (n ∷ ns) from = bytes_cons (h.bound (from + n)) (inserted_bytes h ns (suc (from + n)))

-- ---- the fifteen bytes that shrink to a body

abbrev Shrinks : Algorithm → List ℕ → List ℕ → Type 0
Shrinks a b u = Bytes 15 u × ((form_of a).shrink u ≡ b)

any_five : (b : List ℕ) → Legal Ta31 b → Inverse (Bytes 5) (Shrinks Ta31 b) (filled exp1_groups 0 0 b) (inserted exp1_groups 0)
any_five b h = record {
  to = λ y hy. let z = body31_zeros b ((legal_body Ta31 b).0 h) in (filled_bytes h.bytes hy exp1_groups 0 0, cc (spell h.bytes, z.0, z.1));
  from = λ u s. inserted_bytes s.0 exp1_groups 0;
  back = λ y hy. spell hy;
  forth = λ u s. ap (λ (c : List ℕ). filled exp1_groups 0 0 c (inserted exp1_groups 0 u)) (sym s.1) ∙ spell s.0;
}

any_three : (b : List ℕ) → Bytes 12 b → Inverse (Bytes 3) (Shrinks Ta81 b) (filled x16_groups 0 0 b) (inserted x16_groups 0)
any_three b h = record {
  to = λ y hy. (filled_bytes h hy x16_groups 0 0, spell h);
  from = λ u s. inserted_bytes s.0 x16_groups 0;
  back = λ y hy. spell hy;
  forth = λ u s. ap (λ (c : List ℕ). filled x16_groups 0 0 c (inserted x16_groups 0 u)) (sym s.1) ∙ spell s.0;
}

-- kinds 2 and 5: four bytes, and the top three bits of the number byte
module _ (b : List ℕ) (h : Legal Ta51 b) where
  -- key and number byte, with these three bits
  abbrev eleven : ℕ → List ℕ
  eleven j = part 0 10 b ++ (b ! 11 + 32 * j) ∷ []

  eleven_bytes : (j : ℕ) → j < 8 → Bytes 11 (eleven j)
  eleven_bytes j l = bytes_append (bytes_part 0 10 h.bytes) (bytes_one (omega (arith, (body51_number b ((legal_body Ta51 b).0 h)).1)))

  eleven_shrink : (j : ℕ) → part 0 10 b ++ 0 ∷ (b ! 11 + 32 * j) % 32 ∷ [] ≡ b
  eleven_shrink j =
      let n = body51_number b ((legal_body Ta51 b).0 h) in
      let low : (b ! 11 + 32 * j) % 32 ≡ b ! 11 = omega (arith, n.1) in
      cc (spell h.bytes, n.0, low)

  -- the number byte of fifteen bytes that shrink to b
  eleven_again : (u : List ℕ) → Shrinks Ta51 b u → filled exp3_groups 0 0 (eleven (u ! 13 / 32)) (inserted exp3_groups 0 u) ≡ u
  eleven_again u s =
      let n : u ! 13 % 32 ≡ b ! 11 = ap (λ (c : List ℕ). c ! 11) s.1 in
      let byte : u ! 13 % 32 + 32 * (u ! 13 / 32) ≡ u ! 13 = omega arith in
      ap (λ (c : List ℕ). filled exp3_groups 0 0 (part 0 10 c ++ (c ! 11 + 32 * (u ! 13 / 32)) ∷ []) (inserted exp3_groups 0 u)) (sym s.1)
      ∙ rw byte (spell s.0)

  bits_and_four : Inverse (λ i. i < 8 * 256 ^ 4) (Shrinks Ta51 b) (λ i. filled exp3_groups 0 0 (eleven (i % 8)) (bytes_of 4 (i / 8)))
      (λ u. number (inserted exp3_groups 0 u) * 8 + u ! 13 / 32)
  bits_and_four = record {
    to = λ i l. (filled_bytes (eleven_bytes (i % 8) (omega arith)) (bytes_of_lem 4 (i / 8)) exp3_groups 0 0, eleven_shrink (i % 8));
    from = λ u s. omega (arith, (numbered 4).from (inserted exp3_groups 0 u) (inserted_bytes s.0 exp3_groups 0), s.0.bound 13);
    back = λ i l.
        let e = (numbered 4).back (i / 8) (omega arith) in
        let top : (b ! 11 + 32 * (i % 8)) / 32 ≡ i % 8 = omega (arith, (body51_number b ((legal_body Ta51 b).0 h)).1) in
        rw (e, top) (omega arith);
    forth = λ u s.
        let k = number (inserted exp3_groups 0 u) in
        let q : (k * 8 + u ! 13 / 32) / 8 ≡ k = omega (arith, s.0.bound 13) in
        let r : (k * 8 + u ! 13 / 32) % 8 ≡ u ! 13 / 32 = omega (arith, s.0.bound 13) in
        let four = ap (bytes_of 4) q ∙ (numbered 4).forth (inserted exp3_groups 0 u) (inserted_bytes s.0 exp3_groups 0) in
        ap₂ (λ (j : ℕ) (y : List ℕ). filled exp3_groups 0 0 (eleven j) y) r four ∙ eleven_again u s;
  }

  any_four : Inverse (Bytes 4) (λ u. Bytes 15 u × ((form51.shrink u ≡ b) × (u ! 13 / 32 ≡ 0))) (filled exp3_groups 0 0 (eleven 0)) (inserted exp3_groups 0)
  any_four = record {
    to = λ y hy. (
      filled_bytes (eleven_bytes 0 (omega arith)) hy exp3_groups 0 0,
      (eleven_shrink 0, omega (arith, (body51_number b ((legal_body Ta51 b).0 h)).1)),
    );
    from = λ u s. inserted_bytes s.0 exp3_groups 0;
    back = λ y hy. spell hy;
    forth = λ u s. ap (λ (j : ℕ). filled exp3_groups 0 0 (eleven j) (inserted exp3_groups 0 u)) (sym s.1.1) ∙ eleven_again u (s.0, s.1.0);
  }

shrinking : (a : Algorithm) (b : List ℕ) → Legal a b → Count (unsealing_alike a) (Shrinks a b)
shrinking Ta31 b h = counted (inverse_then (numbered 5) (any_five b h))
shrinking Ta51 b h = counted (bits_and_four b h)
shrinking Ta81 b h = counted (inverse_then (numbered 3) (any_three b h.bytes))
shrinking Ta91 b h = counted (inverse_then (numbered 3) (any_three b h.bytes))

-- ---- their texts, in the terms of the call

module _ (a : Algorithm) (s : List ℕ) (v : Version) (hs : length s ≡ sealing_size a) where
  abbrev core_key : List ℕ
  core_key = (form_of a).key s (pair v)

  body_by_core : (t : List ℕ) → Bytes 15 t → (unseal_call a t s v).body ≡ (form_of a).shrink (unseal_core core_key t)
  unfolding unseal opened unseal_core
  body_by_core t h = body_by a s v t hs h.len

  failed_by_core : (t : List ℕ) → Bytes 15 t → (unseal_call a t s v).failed_checks ≡ failed (form_of a) (unseal_core core_key t)
  unfolding fails opened unseal_core
  failed_by_core t h = failed_by a s v t hs h.len

-- bit 4 is that of the three bits
fifth_bit : (u : List ℕ) → bit 4 (failed form51 u) ≡ choose (eqb (u ! 13 / 32) 0) 0 1
fifth_bit u = failed_at (form51.found u) (form51.wanted u) refl 4 (omega arith)

fifth_passes : (u : List ℕ) → (u ! 13 / 32 ≡ 0) ↔ (bit 4 (failed form51 u) ≡ 0)
fifth_passes u = (λ z. fifth_bit u ∙ rw z, λ z. go (eqb (u ! 13 / 32) 0) refl (sym (fifth_bit u) ∙ z))
  where
    go : (t : Bool) → eqb (u ! 13 / 32) 0 ≡ t → ◌≡◌ {A = ℕ} (choose t 0 1) 0 → u ! 13 / 32 ≡ 0
    go true e z = eqb-true _ 0 e
    go false e z = absurd (omega (arith, z))

pub without_checks : WithoutChecks
without_checks = record {
  unchecked = λ a s v b hs h.
      let k = core_key a s v hs in
      let body = body_by_core a s v hs in
      counted_then (shrinking a b h)
      (inverse_same (λ u. Iff.rfl) (λ t. (λ p. (p.0, body t p.0 ∙ p.1), λ p. (p.0, sym (body t p.0) ∙ p.1)))
      (inverse_where (λ u. (form_of a).shrink u ≡ b) (core k)));
  bits_checked = λ s v b hs h.
      let k = core_key Ta51 s v hs in
      let body = body_by_core Ta51 s v hs in
      let flag = failed_by_core Ta51 s v hs in
      counted_then (counted (inverse_then (numbered 4) (any_four b h)))
      (inverse_same (λ u. Iff.rfl)
      (λ t. (
        λ p. (p.0, body t p.0 ∙ p.1.0, ap (bit 4) (flag t p.0) ∙ (fifth_passes (unseal_core k t)).0 p.1.1),
        λ p. (p.0, (sym (body t p.0) ∙ p.1, (fifth_passes (unseal_core k t)).1 (sym (ap (bit 4) (flag t p.0)) ∙ p.2))),
      ))
      (inverse_where (λ u. (form51.shrink u ≡ b) × (u ! 13 / 32 ≡ 0)) (core k)));
}
