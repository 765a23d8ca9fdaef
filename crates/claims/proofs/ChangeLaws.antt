-- One byte of a string changed, and the ⊕ of a group that has it.
use Rattle.standard.proofs.Prelude.{◌≡◌, refl, sym, ap, ◌∙◌, Bool, true, false, ◌⊎◌, inl, inr, List, ℕ, zero, suc, ◌+◌, ◌≤◌, ◌<◌, eq-or-lt_of_le}
use Rattle.standard.proofs.Prelude.{arith, xor_comm, eqb, eq-eqb, ne_eqb}
use Rattle.standard.specs.Bytes.{◌!◌, ◌⊕◌, xors, choose}
use Rattle.standard.specs.Expansions.{xor_on, xor_of}
use Rattle.standard.proofs.BytesLaws.{table_at, table_same}
use Rattle.standard.proofs.XorLaws.{xor_assoc}
use Rattle.claims.specs.TrueClaims.{changed}

module _ (n i d : ℕ) (xs : List ℕ) where
  changed_at : (j : ℕ) → j < n → changed n i d xs ! j ≡ choose (eqb j i) (xs ! j ⊕ d) (xs ! j)
  changed_at j h = table_at n (λ m. choose (eqb m i) (xs ! m ⊕ d) (xs ! m)) j h

  pub changed_here : (j : ℕ) → j < n → j ≡ i → changed n i d xs ! j ≡ xs ! j ⊕ d
  changed_here j h e = changed_at j h ∙ ap (λ (t : Bool). choose t (xs ! j ⊕ d) (xs ! j)) (eq-eqb j i e)

  pub changed_elsewhere : (j : ℕ) → j < n → (j ≡ i → ⊥) → changed n i d xs ! j ≡ xs ! j
  changed_elsewhere j h other = changed_at j h ∙ ap (λ (t : Bool). choose t (xs ! j ⊕ d) (xs ! j)) (ne_eqb j i other)

-- ⊕ with another string, and then changed
pub changed_xors : (n m i d : ℕ) (xs ys : List ℕ) → n ≤ m → xors n xs (changed m i d ys) ≡ changed n i d (xors n xs ys)
changed_xors n m i d xs ys l =
    table_same n (λ j. xs ! j ⊕ changed m i d ys ! j) (λ j. choose (eqb j i) (xors n xs ys ! j ⊕ d) (xors n xs ys ! j))
    (λ j h.
    ap (◌⊕◌ (xs ! j)) (changed_at m i d ys j (omega arith))
    ∙ go j (eqb j i)
    ∙ ap (λ (x : ℕ). choose (eqb j i) (x ⊕ d) x) (sym (table_at n (λ m. xs ! m ⊕ ys ! m) j h)))
  where
    go : (j : ℕ) (t : Bool) → xs ! j ⊕ choose t (ys ! j ⊕ d) (ys ! j) ≡ choose t (xs ! j ⊕ ys ! j ⊕ d) (xs ! j ⊕ ys ! j)
    go j true = sym (xor_assoc (xs ! j) (ys ! j) d)
    go j false = refl

-- ---- the ⊕ of a group

-- d put in at the start comes out at the end
xor_through : (d x from n : ℕ) (xs : List ℕ) → xor_on (x ⊕ d) from n xs ≡ xor_on x from n xs ⊕ d
xor_through d x from zero xs = refl
xor_through d x from (suc n) xs =
    let e : x ⊕ d ⊕ xs ! from ≡ x ⊕ xs ! from ⊕ d = xor_assoc x d _ ∙ ap (◌⊕◌ x) (xor_comm d _) ∙ sym (xor_assoc x _ d) in
    ap (λ (y : ℕ). xor_on y (suc from) n xs) e ∙ xor_through d (x ⊕ xs ! from) (suc from) n xs

module _ (m i d : ℕ) (xs : List ℕ) where
  -- of bytes that the changed one is not among
  xor_unchanged_on : (x from n : ℕ) → ((j : ℕ) → from ≤ j → j < from + n → j ≡ i → ⊥) → from + n ≤ m → xor_on x from n (changed m i d xs) ≡ xor_on x from n xs
  xor_unchanged_on x from zero out h = refl
  xor_unchanged_on x from (suc n) out h =
      ap (λ (y : ℕ). xor_on (x ⊕ y) (suc from) n (changed m i d xs)) (changed_elsewhere m i d xs from (omega arith) (out from (omega arith) (omega arith)))
      ∙ xor_unchanged_on (x ⊕ xs ! from) (suc from) n (λ j a b. out j (omega arith) (omega arith)) (omega arith)

  xor_changed_on : (x from n : ℕ) → from ≤ i → i < from + n → from + n ≤ m → xor_on x from n (changed m i d xs) ≡ xor_on x from n xs ⊕ d
  xor_changed_on x from zero a b h = absurd (omega arith)
  xor_changed_on x from (suc n) a b h = go (eq-or-lt_of_le a) (λ l. xor_changed_on (x ⊕ xs ! from) (suc from) n l (omega arith) (omega arith))
    where
      go : (from ≡ i) ⊎ (from < i) → (from < i → xor_on (x ⊕ xs ! from) (suc from) n (changed m i d xs) ≡ xor_on (x ⊕ xs ! from) (suc from) n xs ⊕ d)
          → xor_on (x ⊕ changed m i d xs ! from) (suc from) n (changed m i d xs) ≡ xor_on (x ⊕ xs ! from) (suc from) n xs ⊕ d
      go (inl e) ih =
          ap (λ (y : ℕ). xor_on (x ⊕ y) (suc from) n (changed m i d xs)) (changed_here m i d xs from (omega arith) e)
          ∙ xor_unchanged_on (x ⊕ (xs ! from ⊕ d)) (suc from) n (λ j a' b' z. omega (arith, e, z)) (omega arith)
          ∙ ap (λ (y : ℕ). xor_on y (suc from) n xs) (sym (xor_assoc x (xs ! from) d))
          ∙ xor_through d (x ⊕ xs ! from) (suc from) n xs
      go (inr l) ih =
          ap (λ (y : ℕ). xor_on (x ⊕ y) (suc from) n (changed m i d xs)) (changed_elsewhere m i d xs from (omega arith) (λ e. omega (arith, e, l)))
          ∙ ih l

  -- of a group that has the changed byte
  pub xor_changed : (from n : ℕ) → from ≤ i → i < from + n → from + n ≤ m → xor_of from n (changed m i d xs) ≡ xor_of from n xs ⊕ d
  xor_changed from n a b h = xor_changed_on 0 from n a b h

  -- of one that has not
  pub xor_unchanged : (from n : ℕ) → ((j : ℕ) → from ≤ j → j < from + n → j ≡ i → ⊥) → from + n ≤ m → xor_of from n (changed m i d xs) ≡ xor_of from n xs
  xor_unchanged from n out h = xor_unchanged_on 0 from n out h
