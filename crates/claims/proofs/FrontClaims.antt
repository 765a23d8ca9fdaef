-- The first seven bytes of a text come from the left block of BL1's input alone.
use Rattle.standard.proofs.Prelude.{◌≡◌, refl, sym, ap, ap₂, ◌∙◌, ◌&&◌, List, [], ◌∷◌, ℕ, ◌+◌, ◌≤◌, ◌<◌, arith, eqb, leb}
use Rattle.standard.specs.Bytes.{◌!◌, ◌⊕◌, part, choose}
use Rattle.standard.specs.Hurdle.{encrypt}
use Rattle.standard.specs.Refusals.{not_zero, wrong_number, first}
use Rattle.standard.specs.Seals.{key_length, form_of, sealed, seal, unseal}
use Rattle.standard.specs.declared.Algorithm.{Algorithm}
use Rattle.standard.specs.declared.Algorithm.TheVariants.{Ta31, Ta51, Ta81, Ta91}
use Rattle.standard.proofs.BytesLaws.{table_same, bytes_table}
use Rattle.standard.proofs.CoreLaws.{bl1_blocks}
use Rattle.standard.proofs.XorLaws.{xor_byte}
use Rattle.claims.specs.Entries.{Legal}
use Rattle.claims.specs.FalseClaims.{in_left_block, EveryBit, LastEight}
use Rattle.claims.specs.TrueClaims.{changed}
use Rattle.claims.proofs.ChangeLaws.{changed_here, changed_elsewhere}
use Rattle.claims.proofs.EntryClaims.{entries}
use Rattle.claims.proofs.FlagClaims.{not_itself}
use Rattle.claims.proofs.PlaceLaws.{choose_byte}
use Rattle.claims.proofs.TermLaws.{pair, unsealing_size, text_by}

-- bodies alike in those bytes have the same left block
left_block : (a : Algorithm) (b c : List ℕ) → part 0 (in_left_block a) b ≡ part 0 (in_left_block a) c → part 0 8 ((form_of a).input b) ≡ part 0 8 ((form_of a).input c)
left_block Ta31 b c e = ap (λ (y : List ℕ). part 0 8 ((form_of Ta31).input y)) e
left_block Ta51 b c e = ap (λ (y : List ℕ). part 0 8 ((form_of Ta51).input y)) e
left_block Ta81 b c e = ap (λ (y : List ℕ). part 0 8 ((form_of Ta81).input y)) e
left_block Ta91 b c e = ap (λ (y : List ℕ). part 0 8 ((form_of Ta91).input y)) e

-- and texts alike in the first seven
same_front : (a : Algorithm) (s v b c : List ℕ) → part 0 (in_left_block a) b ≡ part 0 (in_left_block a) c
    → part 0 7 (seal (form_of a) s v b) ≡ part 0 7 (seal (form_of a) s v c)
unfolding seal sealed
same_front a s v b c e =
    let k = (form_of a).key s v in
    let front : (y : List ℕ) → part 0 7 (sealed (form_of a) k y) ≡ part 0 7 (encrypt k (part 0 8 ((form_of a).input y))) =
    λ y. ap (part 0 7) (bl1_blocks k ((form_of a).input y)) in
    front b ∙ ap (λ (l : List ℕ). part 0 7 (encrypt k l)) (left_block a b c e) ∙ sym (front c)

-- ---- one byte of the key changed

module _ (b : List ℕ) (i d : ℕ) where
  -- what may not be sealed are other bytes than the key's
  same_fault : (a : Algorithm) → i < key_length a → (form_of a).fault (changed 12 i d b) ≡ (form_of a).fault b
  same_fault Ta31 l =
      ap₂ (λ (x y : ℕ). first ((eqb x 0 && eqb y 0, not_zero) ∷ [])) (changed_elsewhere 12 i d b 10 (omega arith) (λ e. omega (arith, e)))
      (changed_elsewhere 12 i d b 11 (omega arith) (λ e. omega (arith, e)))
  same_fault Ta51 l =
      ap₂ (λ (x y : ℕ). first ((eqb x 0, not_zero) ∷ (leb y 31, wrong_number) ∷ [])) (changed_elsewhere 12 i d b 10 (omega arith) (λ e. omega (arith, e)))
      (changed_elsewhere 12 i d b 11 (omega arith) (λ e. omega (arith, e)))
  same_fault Ta81 l = refl
  same_fault Ta91 l = refl

-- the bytes of the left block are twelve at most
in_body : (a : Algorithm) → in_left_block a ≤ 12
in_body Ta31 = omega arith
in_body Ta51 = omega arith
in_body Ta81 = omega arith
in_body Ta91 = omega arith

module _ (a : Algorithm) (b : List ℕ) (i d : ℕ) (h : Legal a b) (low : in_left_block a ≤ i) (high : i < key_length a) (hd : d < 256) where
  changed_legal : Legal a (changed 12 i d b)
  changed_legal = record {
    bytes = bytes_table 12 (λ j. choose (eqb j i) (b ! j ⊕ d) (b ! j))
        (λ j. choose_byte (eqb j i) _ _ (xor_byte (b ! j) d (h.bytes.bound j) hd) (h.bytes.bound j));
    accepted = same_fault b i d a high ∙ h.accepted;
  }

  changed_alike : part 0 (in_left_block a) (changed 12 i d b) ≡ part 0 (in_left_block a) b
  changed_alike =
      table_same (in_left_block a) (λ j. changed 12 i d b ! (0 + j)) (λ j. b ! (0 + j))
      (λ j l. changed_elsewhere 12 i d b (0 + j) (omega (arith, l, in_body a)) (λ e. omega (arith, e, l)))

pub every_bit : EveryBit
every_bit a s v b i d hs h low high hd =
    let c = changed 12 i d b in
    let hc = changed_legal a b i d h low high hd in
    let text = text_by a s v hs in
    record {
      legal = hc;
      front = ap (part 0 7) (text c hc) ∙ same_front a s (pair v) c b (changed_alike a b i d h low high hd) ∙ sym (ap (part 0 7) (text b h));
    }

-- ---- the tenth byte of the key changed: another text that opens

tenth : (a : Algorithm) → (in_left_block a ≤ 9) × (9 < key_length a)
tenth Ta31 = (omega arith, omega arith)
tenth Ta51 = (omega arith, omega arith)
tenth Ta81 = (omega arith, omega arith)
tenth Ta91 = (omega arith, omega arith)

pub last_eight : LastEight
last_eight a s v t o =
    let m = entries a s v (unsealing_size a s v t o.accepted) in
    let b = unseal (form_of a) s (pair v) t in
    let hb = m.from t o in
    let c = changed 12 9 1 b in
    let hc : Legal a c = changed_legal a b 9 1 hb (tenth a).0 (tenth a).1 (omega arith) in
    let u = seal (form_of a) s (pair v) c in (
      u,
      record {
        opens = m.to c hc;
        front = same_front a s (pair v) c b (changed_alike a b 9 1 hb (tenth a).0 (tenth a).1 (omega arith)) ∙ ap (part 0 7) (m.forth t o);
        other = λ e.
            let same : c ≡ b = sym (m.back c hc) ∙ ap (unseal (form_of a) s (pair v)) e in
            not_itself (b ! 9) (sym (ap (λ (x : List ℕ). x ! 9) same) ∙ changed_here 12 9 1 b 9 (omega arith) refl);
      },
    )
