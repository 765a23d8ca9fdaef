-- Four lanes that a function gives, from each lane of an array, or from each lane's number.
use Rattle.standard.proofs.Prelude.{◌≡◌, refl, subst, ◌∙◌, List, [], ◌∷◌, ℕ, ◌<◌, arith, length}
use denote.Param.Members.{Mut}
use Rattle.std.specs.Array.{IsElementAt, IsFromFnResult, IsMapOf}
use Rattle.std.specs.Fn.{Called}
use Rattle.std.specs.Prelude.{slice_index_or}
use Rattle.hurdle.specs.Lanes.{lanes}

four_are : {A : Type 0} (ys : List A) {a b c d : A} → length ys ≡ 4 → IsElementAt ys 0 a → IsElementAt ys 1 b → IsElementAt ys 2 c → IsElementAt ys 3 d
    → ys ≡ a ∷ b ∷ c ∷ d ∷ []
four_are [] l e₀ e₁ e₂ e₃ = absurd (omega (arith, l))
four_are (p ∷ []) l e₀ e₁ e₂ e₃ = absurd (omega (arith, l))
four_are (p ∷ q ∷ []) l e₀ e₁ e₂ e₃ = absurd (omega (arith, l))
four_are (p ∷ q ∷ r ∷ []) l e₀ e₁ e₂ e₃ = absurd (omega (arith, l))
four_are (p ∷ q ∷ r ∷ s ∷ []) l e₀ e₁ e₂ e₃ = rw (e₀.0, e₁.0, e₂.0, e₃.0) refl
four_are (p ∷ q ∷ r ∷ s ∷ t ∷ ys) l e₀ e₁ e₂ e₃ = absurd (omega (arith, l))

-- by a function that computes h, from the lanes of xs
pub lanes_mapped : {F A B : Type 0} {g : Mut F (A × Unit {0}) B} {f : F} {xs : List A} {ys : List B} → IsMapOf g f xs ys 4
    → (h : A → B) → ((p q : F) (x : A) (y : B) → Called g p (x, tt) y q → y ≡ h x) → (d : A) → ys ≡ lanes (λ j. h (slice_index_or xs j d))
lanes_mapped {ys} m h call d =
    let n₁ = m.each.6 in
    let n₂ = n₁.6 in
    let n₃ = n₂.6 in
    four_are ys m.long m.each.4 n₁.4 n₂.4 n₃.4
    ∙ rw (call _ _ _ _ m.each.5, call _ _ _ _ n₁.5, call _ _ _ _ n₂.5, call _ _ _ _ n₃.5, m.each.3.1 d, n₁.3.1 d, n₂.3.1 d, n₃.3.1 d) refl

-- by a closure that computes h of a lane's number, and changes nothing
pub lanes_made : {F A : Type 0} {g : Mut F (ℕ × Unit {0}) A} {f : F} {ys : List A} → IsFromFnResult g f ys 4
    → (h : ℕ → A) → ((i : ℕ) (y : A) (q : F) → i < 4 → Called g f (i, tt) y q → (y ≡ h i) × (q ≡ f)) → ys ≡ lanes h
lanes_made {F} {g} {ys} m h call =
    let m₁ = m.each.4 in
    let m₂ = m₁.4 in
    let m₃ = m₂.4 in
    let c₀ = call 0 m.each.1 m.each.0 (omega arith) m.each.3 in
    let c₁ = call 1 m₁.1 m₁.0 (omega arith) (subst (λ (p : F). Called g p (1, tt) m₁.1 m₁.0) c₀.1 m₁.3) in
    let c₂ = call 2 m₂.1 m₂.0 (omega arith) (subst (λ (p : F). Called g p (2, tt) m₂.1 m₂.0) c₁.1 m₂.3) in
    let c₃ = call 3 m₃.1 m₃.0 (omega arith) (subst (λ (p : F). Called g p (3, tt) m₃.1 m₃.0) c₂.1 m₃.3) in
    four_are ys m.long m.each.2 m₁.2 m₂.2 m₃.2 ∙ rw (c₀.0, c₁.0, c₂.0, c₃.0) refl
