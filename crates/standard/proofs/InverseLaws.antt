-- Two maps that are inverse between two properties: f takes what has P to what has Q, g takes it back, and each undoes the other.
-- Every level of sealing is one: the core, a form, a sealed text, an identity, a record, a book.
use Rattle.standard.proofs.Prelude.{◌≡◌, sym, ap, ◌∙◌, subst, ◌↔◌}

pub record Inverse {A B : Type 0} (P : A → Type 0) (Q : B → Type 0) (f : A → B) (g : B → A) : Type 0 where
  pub to : (x : A) → P x → Q (f x)
  pub from : (y : B) → Q y → P (g y)
  pub back : (x : A) → P x → g (f x) ≡ x
  pub forth : (y : B) → Q y → f (g y) ≡ y

module _ {A B : Type 0} {P : A → Type 0} {Q : B → Type 0} {f : A → B} {g : B → A} (m : Inverse P Q f g) where
  -- what has Q is the image of something that has P ..
  pub is_image : (y : B) → Q y ↔ ((x : A) × P x × (f x ≡ y))
  is_image y = (λ q. (g y, m.from y q, m.forth y q), λ e. subst Q e.2 (m.to e.0 e.1))

  -- .. and of that alone
  pub of_one : (x : A) (y : B) → P x → f x ≡ y → x ≡ g y
  of_one x y p e = sym (m.back x p) ∙ ap g e

  -- the other way round
  pub reversed : Inverse Q P g f
  reversed = record { to = m.from; from = m.to; back = m.forth; forth = m.back }
