-- The inverses of TB1, TB3, TB5 and TB6 find the only input (02, 10).
use Rattle.standard.proofs.Prelude.{◌≡◌, refl, sym, ap, ◌∙◌, Bool, true, false, true≢false, ◌↔◌, List, [], ◌∷◌, ℕ, zero, suc, ◌+◌, ◌-◌, ◌*◌}
use Rattle.standard.proofs.Prelude.{◌/◌, ◌%◌, ◌^◌, ◌≤◌, ◌<◌, add-zero, zero-add, add-mul, div-one, mod-lt, arith, pow-add, pow_pos, eq-eqb}
use Rattle.standard.proofs.Prelude.{le-leb}
use mathlib.Core.Logic.Iff
use native.Mathlib.Nat.{add_assoc, zero-mul, mul-one, mul_assoc, mod-one}
use lib.ListN.{replicate}
use lib.Pow.{shr-shr, split, high, low, mod-pow-add}
use Rattle.standard.specs.Bytes.{◌!◌, ◌⊕◌, part, xors, bytes_of, number_on, number, same}
use Rattle.standard.specs.Inverses.{field, tb1⁻¹_call, tb3⁻¹_call, tb5⁻¹_call, tb6⁻¹_call}
use Rattle.standard.specs.InversesFacts.{FindsOnly, FindsTb1, FindsTb3, FindsTb5, FindsTb6}
use Rattle.standard.specs.Mixing.{join_on, join, tb1, tb3, tb5, tb6}
use Rattle.standard.specs.Refusals.{no_input, first}
use Rattle.standard.proofs.BytesLaws.{table_same, table_at, same_eq, same_refl}
use Rattle.standard.proofs.InverseLaws.{Inverse, is_image, of_one}
use Rattle.standard.proofs.MixingLaws.{below, bytes_cat}
use Rattle.standard.proofs.XorLaws.{xor_cancel_l}

-- ---- a call that reads an input off and makes the result of it again

passes : (t : Bool) → (first ((t, no_input) ∷ []) ≡ 0) ↔ (t ≡ true)
passes true = (λ e. refl, λ e. refl)
passes false = (λ e. absurd (omega arith), λ e. absurd (true≢false (sym e)))

fails : (t : Bool) → (first ((t, no_input) ∷ []) ≡ no_input) ↔ (t ≡ true → ⊥)
fails true = (λ e. absurd (omega arith), λ e. absurd (e refl))
fails false = (λ e h. true≢false (sym h), λ e. refl)

module _
    {A : Type 0} (Wide : A → Type 0) (f : A → List ℕ) (read : List ℕ → A)
    (fits : (y : List ℕ) → Wide (read y)) (back : (x : A) → Wide x → read (f x) ≡ x)
  where
    abbrev again : List ℕ → Bool
    again y = same (f (read y)) y

    reads_off : Inverse Wide (λ y. again y ≡ true) f read
    reads_off = record {
      to = λ x h. ap (λ (z : A). same (f z) (f x)) (back x h) ∙ same_refl (f x);
      from = λ y t. fits y;
      back = back;
      forth = λ y t. same_eq (f (read y)) y t;
    }

    finds_only : (y : List ℕ) (refusal : ℕ) (input : A) → refusal ≡ first ((again y, no_input) ∷ []) → (refusal ≡ 0 → input ≡ read y)
        → FindsOnly Wide f y refusal input
    finds_only y refusal input e i =
        let image = is_image reads_off y in
        let zero-if = Iff.trans (rw (← e) at (passes (again y))) image in record {
          found = zero-if;
          only = λ x h k. of_one reads_off x y h k ∙ sym (i (zero-if.1 (x, h, k)));
          none = Iff.trans (rw (← e) at (fails (again y))) (Iff.not image);
        }

-- ---- fields

number_on_lem : (n acc x : ℕ) → number_on acc (bytes_of n x) ≡ acc * 2 ^ (8 * n) + x % 2 ^ (8 * n)
number_on_lem zero acc x = rw (mod-one, mul-one, add-zero)
number_on_lem (suc n) acc x =
    let s : 8 * suc n ≡ 8 + 8 * n = omega arith in
    let p : 2 ^ (8 * suc n) ≡ 256 * 2 ^ (8 * n) = ap (λ (k : ℕ). 2 ^ k) s ∙ pow-add 2 8 (8 * n) in
    let m : x % 2 ^ (8 * suc n) ≡ x / 2 ^ (8 * n) % 256 * 2 ^ (8 * n) + x % 2 ^ (8 * n) = ap (λ (k : ℕ). x % 2 ^ k) s ∙ mod-pow-add x 8 (8 * n) in
    number_on_lem n (acc * 256 + x / 2 ^ (8 * n) % 256) x ∙ rw (add-mul, add_assoc, ← m, mul_assoc acc 256 (2 ^ (8 * n)), ← p)

pub number_bytes : (n x : ℕ) → number (bytes_of n x) ≡ x % 2 ^ (8 * n)
unfolding number
number_bytes n x = number_on_lem n 0 x ∙ rw (zero-mul, zero-add)

-- the first eight bytes of a number that has k more
leading : (k x : ℕ) → part 0 8 (bytes_of (8 + k) x) ≡ bytes_of 8 (x / 2 ^ (8 * k))
leading k x =
    ap (part 0 8) (ap (bytes_of (8 + k)) (sym (split x (8 * k))) ∙ bytes_cat 8 k (x / 2 ^ (8 * k)) (x % 2 ^ (8 * k)) (mod-lt x (pow_pos (8 * k))))

field_bytes : (a w k x : ℕ) → a + w ≤ 64 → field a w (part 0 8 (bytes_of (8 + k) x)) ≡ x / 2 ^ (8 * k + (64 - (a + w))) % 2 ^ w
unfolding field
field_bytes a w k x h =
    let y : ℕ = x / 2 ^ (8 * k) in
    let s : ℕ = 64 - (a + w) in
    ap (λ (n : ℕ). n / 2 ^ s % 2 ^ w) (ap number (leading k x) ∙ number_bytes 8 y)
    ∙ sym (below (y / 2 ^ 64) (y % 2 ^ 64) 64 s w (omega arith))
    ∙ ap (λ (n : ℕ). n / 2 ^ s % 2 ^ w) (split y 64) ∙ ap (λ (n : ℕ). n % 2 ^ w) (shr-shr x (8 * k) s)

pub field_lt : (a w : ℕ) (b : List ℕ) → field a w b < 2 ^ w
unfolding field
field_lt a w b = mod-lt _ (pow_pos w)

-- the bits of numbers written one after the other
abbrev widths : List (ℕ × ℕ) → ℕ
widths [] = 0
widths (f ∷ fs) = widths fs + f.0

abbrev Fit : List (ℕ × ℕ) → Type 0
Fit [] = Unit {0}
Fit (f ∷ fs) = (f.1 < 2 ^ f.0) × Fit fs

fit_copies : (n w v : ℕ) → v < 2 ^ w → Fit (replicate n (w, v))
fit_copies zero w v h = tt
fit_copies (suc n) w v h = (h, fit_copies n w v h)

join_high : (fs : List (ℕ × ℕ)) → Fit fs → (acc : ℕ) → join_on acc fs / 2 ^ widths fs ≡ acc
join_high [] h acc = div-one acc
join_high (f ∷ fs) h acc =
    sym (shr-shr (join_on (acc * 2 ^ f.0 + f.1) fs) (widths fs) f.0)
    ∙ ap (λ (n : ℕ). n / 2 ^ f.0) (join_high fs h.1 (acc * 2 ^ f.0 + f.1)) ∙ high acc f.0 h.0

-- the number that stands in front of others can be read off
join_field : (acc w v : ℕ) (fs : List (ℕ × ℕ)) → Fit ((w, v) ∷ fs) → join_on acc ((w, v) ∷ fs) / 2 ^ widths fs % 2 ^ w ≡ v
join_field acc w v fs h = ap (λ (n : ℕ). n % 2 ^ w) (join_high fs h.1 (acc * 2 ^ w + v)) ∙ low acc w h.0

-- the first bytes of what was mixed into a key
unmixed : (m n : ℕ) (k b : List ℕ) → m ≤ n → xors m k (xors n k b) ≡ part 0 m b
unmixed m n k b l =
    table_same m (λ i. k ! i ⊕ xors n k b ! i) (λ i. b ! (0 + i))
    (λ i h. ap (◌⊕◌ (k ! i)) (table_at n (λ j. k ! j ⊕ b ! j) i (omega arith)) ∙ xor_cancel_l (k ! i) (b ! i) ∙ ap (λ (j : ℕ). b ! j) (sym (zero-add i)))

-- ---- each field of TB1, TB5 and TB6

value_back : (v w : ℕ) → v < 2 ^ w → 16 ≤ w → w ≤ 32 → field 0 w (part 0 8 (tb1 v w)) ≡ v
unfolding tb1
value_back v w h l k =
    let n : ℕ = join (replicate 8 (w, v)) in
    let e : 8 * w - 128 + (64 + (64 - (0 + w))) ≡ widths (replicate 7 (w, v)) = omega arith in
    field_bytes 0 w 8 (n / 2 ^ (8 * w - 128)) (omega arith)
    ∙ ap (λ (z : ℕ). z % 2 ^ w) (shr-shr n (8 * w - 128) (64 + (64 - (0 + w))) ∙ ap (λ (s : ℕ). n / 2 ^ s) e)
    ∙ join_field 0 w v (replicate 7 (w, v)) (fit_copies 8 w v h)

pub finds_tb1 : FindsTb1
unfolding tb1⁻¹_call
finds_tb1 y w e l k =
    finds_only (λ v. v < 2 ^ w) (λ v. tb1 v w) (λ z. field 0 w (part 0 8 z)) (λ z. field_lt 0 w (part 0 8 z)) (λ v h. value_back v w h l k) y _ _
    (rw (eq-eqb _ _ e, le-leb _ _ l, le-leb _ _ k)) (λ z. rw z)

pub finds_tb3 : FindsTb3
unfolding tb3⁻¹_call tb3
finds_tb3 x y w d e l k =
    finds_only (λ v. v < 2 ^ w) (λ v. tb3 x v w) (λ z. field 0 w (xors 8 x z)) (λ z. field_lt 0 w (xors 8 x z))
    (λ v h. ap (field 0 w) (unmixed 8 16 x (tb1 v w) (omega arith)) ∙ value_back v w h l k) y _ _
    (rw (eq-eqb _ _ d, eq-eqb _ _ e, le-leb _ _ l, le-leb _ _ k)) (λ z. rw z)

-- a number within ten bytes that were mixed into a key, others after it
mixed_back : (ck : List ℕ) (a acc w v : ℕ) (fs : List (ℕ × ℕ)) → Fit ((w, v) ∷ fs) → a + w ≤ 64 → 80 ≡ a + w + widths fs
    → field a w (xors 8 ck (xors 10 ck (bytes_of 10 (join_on acc ((w, v) ∷ fs))))) ≡ v
mixed_back ck a acc w v fs h l e =
    let n : ℕ = join_on acc ((w, v) ∷ fs) in
    let s : 16 + (64 - (a + w)) ≡ widths fs = omega arith in
    ap (field a w) (unmixed 8 10 ck (bytes_of 10 n) (omega arith)) ∙ field_bytes a w 2 n l ∙ ap (λ (k : ℕ). n / 2 ^ k % 2 ^ w) s ∙ join_field acc w v fs h

triple : {a b c x y z : ℕ} → a ≡ x → b ≡ y → c ≡ z → ◌≡◌ {A = ℕ × ℕ × ℕ} (a, b, c) (x, y, z)
triple p q r = rw (p, q, r)

pair : {a b x y : ℕ} → a ≡ x → b ≡ y → ◌≡◌ {A = ℕ × ℕ} (a, b) (x, y)
pair p q = rw (p, q)

module _ (ck : List ℕ) where
  abbrev cell_of : List ℕ → ℕ × ℕ × ℕ
  cell_of y = let b = xors 8 ck y in (field 0 14 b, field 14 12 b, field 26 6 b)

  cell_back : (la cn co : ℕ) → la < 2 ^ 14 → cn < 2 ^ 12 → co < 2 ^ 6 → cell_of (tb5 ck la cn co) ≡ (la, cn, co)
  unfolding tb5
  cell_back la cn co a b d =
      let x : List (ℕ × ℕ) = (12, cn) ∷ (6, co) ∷ (12, cn) ∷ (6, co) ∷ (12, cn) ∷ [] in
      let fx : Fit x = (b, (d, (b, (d, (b, tt))))) in
      triple (mixed_back ck 0 0 14 la ((12, cn) ∷ (6, co) ∷ x) (a, (b, (d, fx))) (omega arith) refl)
      (mixed_back ck 14 (join ((14, la) ∷ [])) 12 cn ((6, co) ∷ x) (b, (d, fx)) (omega arith) refl)
      (mixed_back ck 26 (join ((14, la) ∷ (12, cn) ∷ [])) 6 co x (d, fx) (omega arith) refl)

  abbrev pair_of : List ℕ → ℕ × ℕ
  pair_of y = let b = xors 8 ck y in (field 0 12 b, field 12 24 b)

  pair_back : (cn ssi : ℕ) → cn < 2 ^ 12 → ssi < 2 ^ 24 → pair_of (tb6 ck cn ssi) ≡ (cn, ssi)
  unfolding tb6
  pair_back cn ssi a b =
      let x : List (ℕ × ℕ) = (12, cn) ∷ (24, ssi) ∷ (8, ssi % 256) ∷ [] in
      let fx : Fit x = (a, (b, (mod-lt ssi (pow_pos 8), tt))) in
      pair (mixed_back ck 0 0 12 cn ((24, ssi) ∷ x) (a, (b, fx)) (omega arith) refl)
      (mixed_back ck 12 (join ((12, cn) ∷ [])) 24 ssi x (b, fx) (omega arith) refl)

pub finds_tb5 : FindsTb5
unfolding tb5⁻¹_call
finds_tb5 ck y d e =
    finds_only (λ x. (x.0 < 2 ^ 14) × (x.1 < 2 ^ 12) × (x.2 < 2 ^ 6)) (λ x. tb5 ck x.0 x.1 x.2) (cell_of ck)
    (λ z. let b = xors 8 ck z in (field_lt 0 14 b, field_lt 14 12 b, field_lt 26 6 b))
    (λ x h. cell_back ck x.0 x.1 x.2 h.0 h.1 h.2) y _ _ (rw (eq-eqb _ _ d, eq-eqb _ _ e)) (λ z. rw z)

pub finds_tb6 : FindsTb6
unfolding tb6⁻¹_call
finds_tb6 ck y d e =
    finds_only (λ x. (x.0 < 2 ^ 12) × (x.1 < 2 ^ 24)) (λ x. tb6 ck x.0 x.1) (pair_of ck)
    (λ z. let b = xors 8 ck z in (field_lt 0 12 b, field_lt 12 24 b))
    (λ x h. pair_back ck x.0 x.1 h.0 h.1) y _ _ (rw (eq-eqb _ _ d, eq-eqb _ _ e)) (λ z. rw z)
