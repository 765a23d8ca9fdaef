-- The inverses as the code has them: the tests one after the other, then the fields, if the result is made of them again. The fields fit their
-- widths, so TB1, TB3, TB5 and TB6 refuse none of them.
use Rattle.standard.proofs.Prelude.{◌≡◌, refl, ap, ◌∙◌, Bool, true, false, ◌&&◌, List, [], ◌∷◌, ℕ, lt-ltb}
use Rattle.std.specs.Prelude.{Ok, Err}
use Rattle.standard.proofs.FindLaws.{field_lt}
use Rattle.standard.specs.Answers.{bytes10, bytes16, value_answer, cell_answer, carrier_identity_answer}
use Rattle.standard.specs.Bytes.{choose, part, xors, same}
use Rattle.standard.specs.Inverses.{field, tb1⁻¹_call, tb3⁻¹_call, tb5⁻¹_call, tb6⁻¹_call}
use Rattle.standard.specs.Mixing.{tb1, tb3, tb5, tb6, tb1_call, tb3_call, tb5_call, tb6_call}
use Rattle.standard.specs.Refusals.{wrong_length, wrong_width, no_input, has_length, valid_width, first, answer10, answer16, value, cell, carrier_identity}
use Rattle.standard.specs.declared.Bytes10.{Bytes10}
use Rattle.standard.specs.declared.Bytes16.{Bytes16}
use Rattle.standard.specs.declared.CarrierFields.{CarrierFields}
use Rattle.standard.specs.declared.CellFields.{CellFields}
use Rattle.standard.specs.declared.Refusal.TheVariants.{NoInput, WrongLength, WrongWidth}

-- ---- what is made of the fields

pub tb1_again : (b : List ℕ) (w : ℕ) → valid_width w ≡ true → tb1_call (field 0 w b) w ≡ answer16 0 (tb1 (field 0 w b) w)
unfolding tb1_call
tb1_again b w t = rw (t, lt-ltb _ _ (field_lt 0 w b)) refl

pub tb3_again : (x b : List ℕ) (w : ℕ) → has_length 16 x ≡ true → valid_width w ≡ true → tb3_call x (field 0 w b) w ≡ answer16 0 (tb3 x (field 0 w b) w)
unfolding tb3_call
tb3_again x b w l t = rw (l, t, lt-ltb _ _ (field_lt 0 w b)) refl

pub tb5_again : (ck b : List ℕ) → has_length 10 ck ≡ true
    → tb5_call ck (field 0 14 b) (field 14 12 b) (field 26 6 b) ≡ answer10 0 (tb5 ck (field 0 14 b) (field 14 12 b) (field 26 6 b))
unfolding tb5_call
tb5_again ck b l = rw (l, lt-ltb _ _ (field_lt 0 14 b), lt-ltb _ _ (field_lt 14 12 b), lt-ltb _ _ (field_lt 26 6 b)) refl

pub tb6_again : (ck b : List ℕ) → has_length 10 ck ≡ true
    → tb6_call ck (field 0 12 b) (field 12 24 b) ≡ answer10 0 (tb6 ck (field 0 12 b) (field 12 24 b))
unfolding tb6_call
tb6_again ck b l = rw (l, lt-ltb _ _ (field_lt 0 12 b), lt-ltb _ _ (field_lt 12 24 b)) refl

-- ---- the tests

value_tests : (a b c : Bool) (v : ℕ)
    → value (first ((a, wrong_length) ∷ (b, wrong_width) ∷ (c, no_input) ∷ [])) v
    ≡ value_answer (choose a (choose b (choose c (Ok v) (Err NoInput)) (Err WrongWidth)) (Err WrongLength))
value_tests true true true v = refl
value_tests true true false v = refl
value_tests true false c v = refl
value_tests false b c v = refl

pub tb1_tests : (y : List ℕ) (w : ℕ) → let v = field 0 w (part 0 8 y) in
    tb1⁻¹_call y w
    ≡ value_answer (choose (has_length 16 y) (choose (valid_width w) (choose (same (tb1 v w) y) (Ok v) (Err NoInput)) (Err WrongWidth)) (Err WrongLength))
unfolding tb1⁻¹_call
tb1_tests y w = search value_tests

module _ (x y : List ℕ) (w : ℕ) where
  abbrev v : ℕ
  v = field 0 w (xors 8 x y)

  pub tb3_tests : tb3⁻¹_call x y w
      ≡ value_answer
      (choose (has_length 16 x && has_length 16 y) (choose (valid_width w) (choose (same (tb3 x v w) y) (Ok v) (Err NoInput)) (Err WrongWidth))
      (Err WrongLength))
  unfolding tb3⁻¹_call
  tb3_tests = search value_tests

  pub tb3_found : {m : List ℕ} → bytes16 (Ok m) ≡ tb3_call x v w → has_length 16 x ≡ true → has_length 16 y ≡ true → valid_width w ≡ true
      → tb3⁻¹_call x y w ≡ value_answer (choose (same m y) (Ok v) (Err NoInput))
  tb3_found e h k t = rw (ap (λ (a : Bytes16). a.bytes) (e ∙ tb3_again x _ w h t), tb3_tests, h, k, t) refl

module _ (ck y : List ℕ) where
  abbrev front : List ℕ
  front = xors 8 ck y

  cell_tests : (a c : Bool) (la cn cc : ℕ)
      → cell (first ((a, wrong_length) ∷ (c, no_input) ∷ [])) la cn cc
      ≡ cell_answer (choose a (choose c (Ok (record { location_area = la; carrier = cn; colour_code = cc })) (Err NoInput)) (Err WrongLength))
  cell_tests true true la cn cc = refl
  cell_tests true false la cn cc = refl
  cell_tests false c la cn cc = refl

  abbrev cell_read : CellFields
  cell_read = record { location_area = field 0 14 front; carrier = field 14 12 front; colour_code = field 26 6 front }

  pub tb5_tests : let c = cell_read in
      tb5⁻¹_call ck y
      ≡ cell_answer
      (choose (has_length 10 ck && has_length 10 y) (choose (same (tb5 ck c.location_area c.carrier c.colour_code) y) (Ok c) (Err NoInput))
      (Err WrongLength))
  unfolding tb5⁻¹_call
  tb5_tests = search cell_tests

  pub tb5_found : {m : List ℕ} → let c = cell_read in
      bytes10 (Ok m) ≡ tb5_call ck c.location_area c.carrier c.colour_code → has_length 10 ck ≡ true → has_length 10 y ≡ true
      → tb5⁻¹_call ck y ≡ cell_answer (choose (same m y) (Ok c) (Err NoInput))
  tb5_found e h k = rw (ap (λ (a : Bytes10). a.bytes) (e ∙ tb5_again ck _ h), tb5_tests, h, k) refl

  carrier_identity_tests : (a c : Bool) (cn ssi : ℕ)
      → carrier_identity (first ((a, wrong_length) ∷ (c, no_input) ∷ [])) cn ssi
      ≡ carrier_identity_answer (choose a (choose c (Ok (record { carrier = cn; identity = ssi })) (Err NoInput)) (Err WrongLength))
  carrier_identity_tests true true cn ssi = refl
  carrier_identity_tests true false cn ssi = refl
  carrier_identity_tests false c cn ssi = refl

  abbrev carrier_read : CarrierFields
  carrier_read = record { carrier = field 0 12 front; identity = field 12 24 front }

  pub tb6_tests : let c = carrier_read in
      tb6⁻¹_call ck y
      ≡ carrier_identity_answer
      (choose (has_length 10 ck && has_length 10 y) (choose (same (tb6 ck c.carrier c.identity) y) (Ok c) (Err NoInput)) (Err WrongLength))
  unfolding tb6⁻¹_call
  tb6_tests = search carrier_identity_tests

  pub tb6_found : {m : List ℕ} → let c = carrier_read in
      bytes10 (Ok m) ≡ tb6_call ck c.carrier c.identity → has_length 10 ck ≡ true → has_length 10 y ≡ true
      → tb6⁻¹_call ck y ≡ carrier_identity_answer (choose (same m y) (Ok c) (Err NoInput))
  tb6_found e h k = rw (ap (λ (a : Bytes10). a.bytes) (e ∙ tb6_again ck _ h), tb6_tests, h, k) refl
