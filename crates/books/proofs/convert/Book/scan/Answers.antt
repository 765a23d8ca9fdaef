use Rattle.std.proofs.Common.{sym, ap, ap₂, ◌∙◌, ℕ, ◌+◌, arith, add-one}
use Rattle.std.proofs.lemmas.Bool.{eqb-false}
use Rattle.lists.proofs.WalkLaws.{clean_more}
use Rattle.standard.proofs.AnswerLaws.{pass_more, pass_stopped}
use Rattle.standard.proofs.RefusalLaws.{not_zero}
use Rattle.standard.specs.Answers.{refused_by}
use Rattle.standard.specs.Lists.{record_at}
use Rattle.standard.specs.Runs.{first_pass}
use Rattle.books.proofs.DirectionLaws.{inspections_few, inspections_most}
use Rattle.books.specs.BothDirections.{size_of, fault_at, inspection_at}
use Rattle.books.proofs.convert.Book.scan.Goals as goal

pub overflow_add-runs : goal.overflow_add-runs
overflow_add-runs c =
    let book = c.args.self.now in
    let i = c.loop-index.index in
    omega (
      arith,
      ap (λ (p : ℕ × ℕ). p.1) c.inspect_at-inspection.ensures,
      inspections_few book.ring.now book.direction book.bytes.now i,
      inspections_most book.direction (record_at (size_of book.direction) book.bytes.now i),
    )

pub returns-in-Err : goal.returns-in-Err
returns-in-Err c =
    let book = c.args.self.now in
    let g = fault_at book.ring.now book.direction book.bytes.now in
    let i = c.loop-index in
    let found = c.inspect_at-inspection.ensures in
    let e = ap refused_by (sym c.in-Err.is) ∙ ap (λ (p : ℕ × ℕ). p.0) found in (
      record { within = c.loop-index-test.true; before = i.invariant.clean; fault = e },
      ap₂ ◌+◌ i.invariant.runs (ap (λ (p : ℕ × ℕ). p.1) found)
          ∙ sym
          (pass_stopped g (inspection_at book.direction book.bytes.now) book.records i.index c.loop-index-test.true i.invariant.clean
          (λ z. eqb-false _ _ (not_zero c.in-Err.refusal) (e ∙ z))),
    )

pub loop-index-preserved : goal.loop-index-preserved
loop-index-preserved c =
    let book = c.args.self.now in
    let g = fault_at book.ring.now book.direction book.bytes.now in
    let l = inspection_at book.direction book.bytes.now in
    let i = c.loop-index in
    let found = c.inspect_at-inspection.ensures in
    record {
      clean = clean_more g i.index i.invariant.clean (sym (ap (λ (p : ℕ × ℕ). p.0) found) ∙ ap refused_by c.in_default.is);
      runs =
          ap₂ ◌+◌ i.invariant.runs (ap (λ (p : ℕ × ℕ). p.1) found) ∙ sym (pass_more g l i.index i.invariant.clean)
          ∙ ap (λ (k : ℕ). first_pass k g l) (sym (add-one i.index));
    }
