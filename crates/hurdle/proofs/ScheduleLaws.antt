-- The round keys from the constants of the code: the schedule is linear in the key.
use Rattle.standard.proofs.Prelude.{◌≡◌, refl, sym, ap, ap₂, ◌∙◌, ◌&&◌, List, [], ◌∷◌, ℕ, ◌+◌, ◌*◌, ◌/◌, ◌%◌, ◌<◌, arith, eqb, ltb, eqb-true}
use Rattle.standard.proofs.Prelude.{ltb-true}
use Rattle.standard.specs.Bytes.{◌!◌, ◌⊕◌, table, zeros}
use Rattle.standard.specs.Hurdle.{D, a, Q, laid, schedule}
use Rattle.standard.specs.PrintedTables.{running_sum, turn, rotations as printed}
use Rattle.standard.proofs.BytesLaws.{table_at, table_same, and_split, every_at}
use Rattle.standard.proofs.ScheduleLaws.{Q_linear, byte_at, laid_table}

-- ---- the constants of the code

unfoldable pub rotations : List ℕ
rotations = 0 ∷ 5 ∷ 10 ∷ 15 ∷ 4 ∷ 7 ∷ 14 ∷ 3 ∷ 8 ∷ 13 ∷ 2 ∷ 9 ∷ 12 ∷ 1 ∷ 6 ∷ 11 ∷ []

unfoldable pub masks : List ℕ
masks =
    0x00 ∷ 0x00 ∷ 0x00 ∷ 0x00 ∷ 0x00 ∷ 0x00 ∷ 0x00 ∷ 0x00 ∷ 0x00 ∷ 0x00 ∷ 0x00 ∷ 0x00 ∷
    0x79 ∷ 0x57 ∷ 0xdf ∷ 0xc0 ∷ 0x38 ∷ 0x0a ∷ 0x33 ∷ 0x1e ∷ 0xf3 ∷ 0x8c ∷ 0xf4 ∷ 0xf7 ∷
    0x73 ∷ 0x64 ∷ 0xc1 ∷ 0x33 ∷ 0xb4 ∷ 0xfe ∷ 0xc4 ∷ 0x22 ∷ 0x54 ∷ 0x60 ∷ 0xd1 ∷ 0x8e ∷
    0x87 ∷ 0x93 ∷ 0xfd ∷ 0x94 ∷ 0x58 ∷ 0xdb ∷ 0xbd ∷ 0x75 ∷ 0x8b ∷ 0xa0 ∷ 0xe9 ∷ 0x84 ∷
    0xa2 ∷ 0xea ∷ 0xaa ∷ 0x4b ∷ 0x98 ∷ 0xe3 ∷ 0xb7 ∷ 0x46 ∷ 0x95 ∷ 0x53 ∷ 0x65 ∷ 0x70 ∷
    0x32 ∷ 0xcf ∷ 0x3c ∷ 0x77 ∷ 0x7e ∷ 0x9f ∷ 0x60 ∷ 0x7b ∷ 0x83 ∷ 0x23 ∷ 0xae ∷ 0x8f ∷
    0x02 ∷ 0xd4 ∷ 0xfc ∷ 0x6e ∷ 0xb7 ∷ 0x4b ∷ 0x36 ∷ 0x18 ∷ 0x7c ∷ 0xbe ∷ 0x3b ∷ 0xcb ∷
    0x32 ∷ 0x61 ∷ 0xc7 ∷ 0xbc ∷ 0x86 ∷ 0x31 ∷ 0xf8 ∷ 0x55 ∷ 0x2a ∷ 0xff ∷ 0xb1 ∷ 0xf5 ∷
    0x48 ∷ 0xaf ∷ 0x8a ∷ 0xea ∷ 0xc7 ∷ 0xbb ∷ 0xc6 ∷ 0xf6 ∷ 0xa8 ∷ 0x0e ∷ 0x66 ∷ 0xc5 ∷
    0xc2 ∷ 0x91 ∷ 0x29 ∷ 0x68 ∷ 0x36 ∷ 0x6c ∷ 0xf6 ∷ 0x43 ∷ 0x93 ∷ 0xdc ∷ 0x57 ∷ 0xbf ∷
    0x15 ∷ 0xa1 ∷ 0x9c ∷ 0x53 ∷ 0xe4 ∷ 0x5d ∷ 0x8c ∷ 0x8d ∷ 0xde ∷ 0x8a ∷ 0x16 ∷ 0x35 ∷
    0xf4 ∷ 0x89 ∷ 0x55 ∷ 0xd6 ∷ 0x0d ∷ 0xa7 ∷ 0xbd ∷ 0x9a ∷ 0xe0 ∷ 0x99 ∷ 0x55 ∷ 0x6b ∷
    0xaf ∷ 0x5a ∷ 0x78 ∷ 0x7d ∷ 0xa2 ∷ 0xea ∷ 0xaa ∷ 0x4b ∷ 0x98 ∷ 0xe3 ∷ 0xb7 ∷ 0x46 ∷
    0x93 ∷ 0xfd ∷ 0x94 ∷ 0x58 ∷ 0xdb ∷ 0xbd ∷ 0x75 ∷ 0x8b ∷ 0xa0 ∷ 0xe9 ∷ 0x84 ∷ 0x58 ∷
    0xc4 ∷ 0x22 ∷ 0x54 ∷ 0x60 ∷ 0xd1 ∷ 0x8e ∷ 0x6b ∷ 0x78 ∷ 0x2c ∷ 0x1d ∷ 0x73 ∷ 0x64 ∷
    0xf7 ∷ 0x3c ∷ 0xa7 ∷ 0xec ∷ 0x25 ∷ 0x79 ∷ 0x57 ∷ 0xdf ∷ 0xc0 ∷ 0x38 ∷ 0x0a ∷ 0x33 ∷ []

pub rotation : (i : ℕ) → i < 16 → (rotations ! i ≡ turn i) × (rotations ! i < 16)
unfolding rotations running_sum a
rotation i h =
    let e = and_split _ _ (every_at 16 (λ j. eqb (rotations ! j) (turn j) && ltb (rotations ! j) 16) refl i h) in
    (eqb-true _ _ e.0, ltb-true _ _ e.1)

-- the rotations printed (02, 13) are those of the code, from the second on; the last is that of the first round key, which is the key
pub printed_rotation : (i : ℕ) → i < 16 → printed ! i ≡ rotations ! ((i + 1) % 16)
unfolding printed rotations running_sum a
printed_rotation i h = eqb-true _ _ (every_at 16 (λ j. eqb (printed ! j) (rotations ! ((j + 1) % 16))) refl i h)

masks_laid : masks ≡ schedule (zeros 16)
unfolding masks laid Q D a
masks_laid = refl

mask_at : (n : ℕ) → n < 192 → masks ! n ≡ byte_at (zeros 16) n
mask_at n h = ap (λ (l : List ℕ). l ! n) (masks_laid ∙ laid_table (zeros 16)) ∙ table_at 192 (byte_at (zeros 16)) n h

-- ---- the loops: byte n of the round keys, from the key twice

abbrev pub made : List ℕ → List ℕ → List ℕ → ℕ → ℕ
made rots ms twice n = twice ! (rots ! (n / 12) + 4 + n % 12) ⊕ ms ! n

pub made_at : (rots ms twice : List ℕ) (i j from : ℕ) → j < 12 → from ≡ rots ! i + 4 → twice ! (from + j) ⊕ ms ! (i * 12 + j) ≡ made rots ms twice (i * 12 + j)
made_at rots ms twice i j from h e =
    let q : i ≡ (i * 12 + j) / 12 = omega arith in
    let r : j ≡ (i * 12 + j) % 12 = omega arith in
    ap (λ (k : ℕ). twice ! k ⊕ ms ! (i * 12 + j)) (ap₂ ◌+◌ (e ∙ ap (λ (k : ℕ). rots ! k + 4) q) r)

pub all_made : (key twice : List ℕ) → twice ≡ table 32 (λ i. key ! (i % 16)) → table 192 (made rotations masks twice) ≡ schedule key
all_made key twice e = table_same 192 (made rotations masks twice) (byte_at key) go ∙ sym (laid_table key)
  where
    go : (n : ℕ) → n < 192 → made rotations masks twice n ≡ byte_at key n
    go n h =
        let i : ℕ = n / 12 in
        let j : ℕ = n % 12 in
        let hi : i < 16 = omega arith in
        let r = rotation i hi in
        let index : (rotations ! i + 4 + j) % 16 ≡ (4 + j + turn i) % 16 =
        ap (λ (k : ℕ). (k + 4 + j) % 16) r.0 ∙ ap (λ (k : ℕ). k % 16) (omega arith) in
        ap₂ ◌⊕◌
        (ap (λ (l : List ℕ). l ! (rotations ! i + 4 + j)) e
        ∙ table_at 32 (λ k. key ! (k % 16)) (rotations ! i + 4 + j) (omega (arith, r.1))
        ∙ ap (λ (k : ℕ). key ! k) index)
        (mask_at n h)
        ∙ sym (Q_linear key i (4 + j) (omega arith))
