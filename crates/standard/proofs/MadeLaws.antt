-- An array made by a closure that computes each element from its index, and changes nothing.
use Rattle.standard.proofs.Prelude.{◌≡◌, refl, sym, ap, subst, ◌∙◌, List, ℕ, zero, suc, ◌+◌, ◌<◌, ◌≤◌, arith}
use denote.Param.Members.{Mut}
use Rattle.std.specs.Fn.{Called}
use Rattle.std.specs.Array.{IsFromFnResult, IsFromFnResultFrom}
use Rattle.standard.specs.Bytes.{◌!◌, table}
use Rattle.standard.proofs.BytesLaws.{spelled, table_same}

module _ {F : Type 0} (g : Mut F (ℕ × Unit {0}) ℕ) (f : F) (h : ℕ → ℕ) (n : ℕ)
    (call : (i y : ℕ) (q : F) → i < n → Called g f (i, tt) y q → (y ≡ h i) × (q ≡ f)) where
  from_index : (k i : ℕ) (q : F) (ys : List ℕ) → q ≡ f → i + k ≤ n → IsFromFnResultFrom g q ys i k → (j : ℕ) → j < k → ys ! (i + j) ≡ h (i + j)
  from_index zero i q ys e l t j b = absurd (omega arith)
  from_index (suc k) i q ys e l t zero b =
      let one = call i t.1 t.0 (omega arith) (subst (λ (p : F). Called g p (i, tt) t.1 t.0) e t.3) in
      let z : i ≡ i + 0 = omega arith in
      ap (λ (m : ℕ). ys ! m) (sym z) ∙ t.2.1 0 ∙ one.0 ∙ ap h z
  from_index (suc k) i q ys e l t (suc j) b =
      let one = call i t.1 t.0 (omega arith) (subst (λ (p : F). Called g p (i, tt) t.1 t.0) e t.3) in
      let z : i + 1 + j ≡ i + suc j = omega arith in
      ap (λ (m : ℕ). ys ! m) (sym z) ∙ from_index k (i + 1) t.0 ys one.1 (omega arith) t.4 j (omega arith) ∙ ap h z

  pub made_table : (ys : List ℕ) → IsFromFnResult g f ys n → ys ≡ table n h
  made_table ys r =
      sym (spelled n ys r.long)
      ∙ table_same n (λ i. ys ! i) h
      (λ i l. ap (λ (m : ℕ). ys ! m) (omega arith) ∙ from_index n 0 f ys refl (omega arith) r.each i l ∙ ap h (omega arith))
