-- A zero byte put into a string at a place, and taken out again.
use Rattle.standard.proofs.Prelude.{◌≡◌, refl, sym, ap, ◌∙◌, Bool, true, false, List, ℕ, suc, ◌-◌, ◌≤◌, ◌<◌, arith, eqb, ltb, eqb-true, eqb-false, eq-eqb}
use Rattle.standard.proofs.Prelude.{ne_eqb, ltb-true, ltb-false, lt-ltb, le-ltb}
use mathlib.Core.Logic.Iff
use Rattle.standard.specs.Bytes.{◌!◌, table, choose, Bytes}
use Rattle.standard.proofs.BytesLaws.{table_at, table_same, spell, bytes_table}
use Rattle.standard.proofs.InverseLaws.{Inverse}
use Rattle.claims.specs.Entries.{ZeroAt}
use Rattle.claims.proofs.OnlyLaws.{inverse_then, inverse_same, inverse_where}

pub choose_byte : (t : Bool) (x y : ℕ) → x < 256 → y < 256 → choose t x y < 256
choose_byte true x y hx hy = hx
choose_byte false x y hx hy = hy

module _ (n p : ℕ) where
  abbrev put_at : List ℕ → ℕ → ℕ
  put_at u j = choose (ltb j p) (u ! j) (choose (eqb j p) 0 (u ! (j - 1)))

  abbrev pub put : List ℕ → List ℕ
  put u = table (suc n) (put_at u)

  abbrev taken_at : List ℕ → ℕ → ℕ
  taken_at x j = choose (ltb j p) (x ! j) (x ! suc j)

  abbrev pub taken : List ℕ → List ℕ
  taken x = table n (taken_at x)

  -- the bytes before it, itself, and the bytes after it
  put_before : (u : List ℕ) (j : ℕ) → j < suc n → j < p → put u ! j ≡ u ! j
  put_before u j h l = table_at (suc n) (put_at u) j h ∙ rw (lt-ltb j p l)

  put_here : (u : List ℕ) (j : ℕ) → j < suc n → j ≡ p → put u ! j ≡ 0
  put_here u j h e = table_at (suc n) (put_at u) j h ∙ rw (le-ltb j p (omega (arith, e)), eq-eqb j p e)

  put_after : (u : List ℕ) (j : ℕ) → j < n → p ≤ j → put u ! suc j ≡ u ! j
  put_after u j h l =
      let e : suc j - 1 ≡ j = omega arith in
      table_at (suc n) (put_at u) (suc j) (omega arith) ∙ rw (le-ltb (suc j) p (omega arith), ne_eqb (suc j) p (λ z. omega (arith, z)), e)

  taken_before : (x : List ℕ) (j : ℕ) → j < n → j < p → taken x ! j ≡ x ! j
  taken_before x j h l = table_at n (taken_at x) j h ∙ rw (lt-ltb j p l)

  pub taken_after : (x : List ℕ) (j : ℕ) → j < n → p ≤ j → taken x ! j ≡ x ! suc j
  taken_after x j h l = table_at n (taken_at x) j h ∙ rw (le-ltb j p l)

  taken_put : (u : List ℕ) → Bytes n u → taken (put u) ≡ u
  taken_put u h = table_same n (taken_at (put u)) (λ j. u ! j) (λ j l. go j l (ltb j p) refl) ∙ spell h
    where
      go : (j : ℕ) → j < n → (t : Bool) → ltb j p ≡ t → choose t (put u ! j) (put u ! suc j) ≡ u ! j
      go j l true e = put_before u j (omega arith) (ltb-true j p e)
      go j l false e = put_after u j l (ltb-false j p e)

  put_taken : p < suc n → (x : List ℕ) → Bytes (suc n) x → x ! p ≡ 0 → put (taken x) ≡ x
  put_taken hp x h z = table_same (suc n) (put_at (taken x)) (λ j. x ! j) (λ j l. go j l (ltb j p) refl (eqb j p) refl) ∙ spell h
    where
      go : (j : ℕ) → j < suc n → (t : Bool) → ltb j p ≡ t → (s : Bool) → eqb j p ≡ s → choose t (taken x ! j) (choose s 0 (taken x ! (j - 1))) ≡ x ! j
      go j l true e s f = taken_before x j (omega (arith, ltb-true j p e)) (ltb-true j p e)
      go j l false e true f = sym (ap (λ (i : ℕ). x ! i) (eqb-true j p f) ∙ z)
      go j l false e false f =
          let after : p < j = omega (arith, ltb-false j p e, eqb-false j p f) in
          let again : suc (j - 1) ≡ j = omega arith in
          taken_after x (j - 1) (omega arith) (omega arith) ∙ ap (λ (i : ℕ). x ! i) again

  pub zero_put_in : p < suc n → Inverse (Bytes n) (λ x. Bytes (suc n) x × (x ! p ≡ 0)) put taken
  zero_put_in hp = record {
    to = λ u h. (
      bytes_table (suc n) (put_at u) (λ j. choose_byte (ltb j p) _ _ (h.bound j) (choose_byte (eqb j p) _ _ (omega arith) (h.bound (j - 1)))),
      put_here u p hp refl,
    );
    from = λ x h. bytes_table n (taken_at x) (λ j. choose_byte (ltb j p) _ _ (h.0.bound j) (h.0.bound (suc j)));
    back = taken_put;
    forth = λ x h. put_taken hp x h.0 h.1;
  }

-- two of them: the second, then the first before it
pub zeros_put_in : (p q : ℕ) → p < q → q < 16
    → Inverse (Bytes 14) (λ x. ZeroAt p x × (x ! q ≡ 0)) (λ u. put 15 p (put 14 (q - 1) u)) (λ x. taken 14 (q - 1) (taken 15 p x))
zeros_put_in p q l h =
    let e : suc (q - 1) ≡ q = omega arith in
    let there : (x : List ℕ) → taken 15 p x ! (q - 1) ≡ x ! q = λ x. taken_after 15 p x (q - 1) (omega arith) (omega arith) ∙ ap (λ (i : ℕ). x ! i) e in
    inverse_then (zero_put_in 14 (q - 1) (omega arith))
    (inverse_same (λ u. Iff.rfl) (λ x. (λ z. (z.0, sym (there x) ∙ z.1), λ z. (z.0, there x ∙ z.1)))
    (inverse_where (λ u. u ! (q - 1) ≡ 0) (zero_put_in 15 p (omega arith))))
