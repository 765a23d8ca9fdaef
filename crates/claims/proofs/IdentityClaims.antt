-- The flag is of the text alone: it knows neither the identity of a record nor whose text it is. Nor does the text.
use Rattle.standard.proofs.Prelude.{◌≡◌, refl, sym, ap, ap₂, ◌∙◌, List, ℕ}
use Rattle.standard.specs.Books.{sealing_key, common_key, named, seal_record, open_fault, open_record}
use Rattle.standard.specs.Bytes.{part, Bytes}
use Rattle.standard.specs.Identity.{ta61, ta61⁻¹}
use Rattle.standard.specs.Seals.{kind_of, form, seal}
use Rattle.standard.specs.declared.Kind.{Kind}
use Rattle.standard.proofs.BytesLaws.{spell, bytes_part}
use Rattle.standard.proofs.IdentityLaws.{identity_law}
use Rattle.claims.specs.FalseClaims.{IdentityFree, TextsExchanged, SameEntry, SealedTwice}
use Rattle.claims.proofs.RingClaims.{sealed_at}

-- other bytes, another identity
other_identity : (a x y : List ℕ) → Bytes 10 a → Bytes 3 x → Bytes 3 y → part 0 3 (ta61⁻¹ a x) ≡ part 0 3 (ta61⁻¹ a y) → x ≡ y
other_identity a x y ha hx hy e =
    let i = identity_law a ha in
    sym (i.forth x hx) ∙ ap (ta61 a) (sym (spell (i.from x hx)) ∙ e ∙ spell (i.from y hy)) ∙ i.forth y hy

pub identity_free : IdentityFree
unfolding open_fault open_record
identity_free r t x hr ht hx other = record {
  opens = refl;
  kind = refl;
  identity = λ e.
      other (other_identity (common_key r) x (part 1 3 t) (bytes_part 26 10 hr) hx (bytes_part 1 3 ht)
      (ap (λ (z : List ℕ). part 0 3 (ta61⁻¹ (common_key r) z)) (sym (spell hx)) ∙ e));
  rest = refl;
}

pub texts_exchanged : TextsExchanged
unfolding open_fault open_record
texts_exchanged r t u e₀ e₁ = rw (e₀, e₁) (refl, refl)

-- a text is made of kind, version and body
same_text : (r p q : List ℕ) → SameEntry p q → part 6 15 (seal_record r p) ≡ part 6 15 (seal_record r q)
unfolding seal_record
same_text r p q e =
    ap₂ (λ (x : ℕ) (y : List ℕ). let k : Kind = named (kind_of x) in part 0 15 (seal (form k) (sealing_key k r) (part 0 2 y) (part 2 12 y))) e.0 e.1

pub sealed_twice : SealedTwice
sealed_twice = record {
  records = same_text;
  books = λ r p q i j hi hj e. ap (part 6 15) (sealed_at r p i hi) ∙ same_text r _ _ e ∙ sym (ap (part 6 15) (sealed_at r q j hj));
}
