use Rattle.std.proofs.Common.{◌≡◌, refl, ap, Ok}
use Rattle.standard.specs.Answers.{authentication_answer}
use Rattle.standard.specs.Keys.{half1, half2}
use Rattle.standard.specs.Mixing.{tb4}
use Rattle.standard.specs.declared.Authentication.{Authentication}
use Rattle.keys.proofs.RingLaws.{ring_made_lem}
use Rattle.keys.proofs.recipe.make.Goals as goal

pub returns : goal.returns
returns c =
    let x = c.args.x in
    let o₁ : authentication_answer (Ok c.half-first.result) ≡ half1 x = rw (← c.requires.0, ← c.requires.1) c.half-first.ensures in
    let o₂ : authentication_answer (Ok c.half-second.result) ≡ half2 x = rw (← c.requires.0, ← c.requires.1, ← c.reversed.ensures) c.half-second.ensures in
    let d : c.tb4_of-d.result ≡ tb4 (half1 x).key (half2 x).key =
    rw (← ap (λ (a : Authentication). a.key) o₁, ← ap (λ (a : Authentication). a.key) o₂) c.tb4_of-d.ensures in
    let made =
    ring_made_lem x c.tb4_of-d.result c.core.result c.tb7_of.result d c.core.ensures c.tb7_of.ensures _ _ _ (c.join-front.ensures.whole refl)
    (c.join-back.ensures.whole refl) (c.join.ensures.whole refl) in
    rw (made, ap (λ (a : Authentication). a.response) o₁, ap (λ (a : Authentication). a.response) o₂)
