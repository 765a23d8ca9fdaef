use Rattle.std.proofs.Common.{◌≡◌, ◌∙◌, ◌+◌, ◌%◌, ◌<◌, ℕ, arith, rules, sym}
use Rattle.standard.proofs.BytesLaws.{spelled, table_at, table_same}
use Rattle.standard.specs.Bytes.{◌!◌}
use Rattle.register.proofs.rotated.Goals as goal

pub returns : goal.returns
returns c =
    let q = c.args.q in
    let n = c.args.n in
    let out = c.from_fn.result in
    let twice = c.doubled-twice.result in
    let taken : (i : ℕ) → i < 16 → out ! i ≡ twice ! (i + n) = λ i h. search rules in
    sym (spelled 16 out c.from_fn.ensures.items.long)
    ∙ table_same 16 (λ i. out ! i) (λ i. q ! ((i + n) % 16))
    (λ i h. taken i h ∙ rw c.doubled-twice.ensures (table_at 32 (λ k. q ! (k % 16)) (i + n) (omega arith)))
