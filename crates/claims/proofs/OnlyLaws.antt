-- From two maps that are inverse to "exactly one" and "exactly so many".
use Rattle.standard.proofs.Prelude.{◌≡◌, sym, ap, ◌∙◌, subst, ◌↔◌, List, ℕ, ◌<◌}
use Rattle.standard.proofs.InverseLaws.{Inverse, is_image, of_one}
use Rattle.claims.specs.Entries.{OfOne, Count}

-- what has Q is the image of something that has P, and of one such thing alone: of its own inverse image
pub of_image : {A B : Type 0} {P : A → Type 0} {Q : B → Type 0} {f : A → B} {g : B → A} (m : Inverse P Q f g) (y : B)
    → OfOne (Q y) (λ x. P x × (f x ≡ y)) (g y)
of_image m y = record {
  exactly = (λ q. let e = (is_image m y).0 q in (e.0, (e.1, e.2)), λ e. (is_image m y).1 (e.0, e.1.0, e.1.1));
  one = λ q. record { has = (m.from y q, m.forth y q); only = λ x h. of_one m x y h.0 h.1 };
}

-- what goes to the same is the same
pub apart : {A B : Type 0} {P : A → Type 0} {Q : B → Type 0} {f : A → B} {g : B → A} → Inverse P Q f g → (x y : A) → P x → P y → f x ≡ f y → x ≡ y
apart {g = g} m x y p q e = sym (m.back x p) ∙ ap g e ∙ m.back y q

-- the same of properties that say the same
pub of_one_same : {A : Type 0} {Q Q' : Type 0} {P P' : A → Type 0} {x x' : A} → (Q ↔ Q') → ((y : A) → P y ↔ P' y) → (Q' → x ≡ x')
    → OfOne Q P x → OfOne Q' P' x'
of_one_same {P' = P'} q p e o = record {
  exactly = (
    λ z. let y = o.exactly.0 (q.1 z) in (y.0, (p y.0).0 y.1),
    λ y. q.0 (o.exactly.1 (y.0, (p y.0).1 y.1)),
  );
  one = λ z.
      let u = o.one (q.1 z) in
      record { has = subst P' (e z) ((p _).0 u.has); only = λ y h. u.only y ((p y).1 h) ∙ e z };
}

-- one pair of maps after another
pub inverse_then : {A B C : Type 0} {P : A → Type 0} {Q : B → Type 0} {R : C → Type 0} {f : A → B} {g : B → A} {f' : B → C} {g' : C → B}
    → Inverse P Q f g → Inverse Q R f' g' → Inverse P R (λ x. f' (f x)) (λ z. g (g' z))
inverse_then {f = f} {g = g} {f' = f'} {g' = g'} m n = record {
  to = λ x p. n.to (f x) (m.to x p);
  from = λ z r. m.from (g' z) (n.from z r);
  back = λ x p. ap g (n.back (f x) (m.to x p)) ∙ m.back x p;
  forth = λ z r. ap f' (m.forth (g' z) (n.from z r)) ∙ n.forth z r;
}

pub inverse_same : {A B : Type 0} {P P' : A → Type 0} {Q Q' : B → Type 0} {f : A → B} {g : B → A}
    → ((x : A) → P x ↔ P' x) → ((y : B) → Q y ↔ Q' y) → Inverse P Q f g → Inverse P' Q' f g
inverse_same {f = f} {g = g} p q m = record {
  to = λ x h. (q (f x)).0 (m.to x ((p x).1 h));
  from = λ y h. (p (g y)).0 (m.from y ((q y).1 h));
  back = λ x h. m.back x ((p x).1 h);
  forth = λ y h. m.forth y ((q y).1 h);
}

-- the same maps where one thing more is asked
pub inverse_where : {A B : Type 0} {P : A → Type 0} {Q : B → Type 0} {f : A → B} {g : B → A} (R : A → Type 0) → Inverse P Q f g
    → Inverse (λ x. P x × R x) (λ y. Q y × R (g y)) f g
inverse_where {f = f} {g = g} R m = record {
  to = λ x h. (m.to x h.0, subst R (sym (m.back x h.0)) h.1);
  from = λ y h. (m.from y h.0, h.1);
  back = λ x h. m.back x h.0;
  forth = λ y h. m.forth y h.0;
}

pub counted : {n : ℕ} {P : List ℕ → Type 0} {nth : ℕ → List ℕ} {place : List ℕ → ℕ} → Inverse (λ i. i < n) P nth place → Count n P
counted {nth = nth} {place = place} m =
    record { nth = nth; place = place; has = m.to; below = m.from; back = m.back; forth = m.forth }

-- as many have Q
pub counted_then : {n : ℕ} {P Q : List ℕ → Type 0} {f g : List ℕ → List ℕ} → Count n P → Inverse P Q f g → Count n Q
counted_then {n = n} {P = P} c m =
    let i : Inverse (λ i. i < n) P c.nth c.place = record { to = c.has; from = c.below; back = c.back; forth = c.forth } in
    counted (inverse_then i m)
