use Rattle.std.proofs.Common.{◌≡◌, rules, sym, ◌∙◌, ℕ, ◌+◌, ◌-◌, ◌*◌, ◌/◌, ◌%◌, ◌^◌, refl, length}
use Rattle.standard.proofs.BytesLaws.{spelled}
use Rattle.standard.proofs.MixingLaws.{twice_exact, tb1_at}
use Rattle.standard.specs.Bytes.{◌!◌}
use Rattle.standard.specs.Mixing.{tb1}
use Rattle.standard.proofs.MadeLaws.{made_table}
use Rattle.mixing.proofs.fields.tb1_of.Goals as goal

sixteen : (v w : ℕ) → length (tb1 v w) ≡ 16
unfolding tb1
sixteen v w = refl

pub returns : goal.returns
returns c =
    let v = c.args.value in
    let w = c.args.width in
    made_table _ _ (λ j. tb1 v w ! j) 16
    (λ i y q l k.
    let e : y ≡ (v * 2 ^ w % 2 ^ 64 + v) / 2 ^ (2 * w - 8 - 8 * i % w) % 256 = search rules in
    (e ∙ rw (twice_exact v w c.requires.2 c.requires.1) (sym (tb1_at v w c.requires.2 c.requires.0 i l)), search rules))
    _ c.from_fn.ensures.items
    ∙ spelled 16 (tb1 v w) (sixteen v w)
