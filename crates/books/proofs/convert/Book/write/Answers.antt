use Rattle.std.proofs.Common.{◌≡◌, arith, ne_eqb}
use Rattle.books.proofs.DirectionLaws.{all_converted, converted_one, converted_x4}
use Rattle.books.proofs.convert.Book.write.Goals as goal

pub loop-k-preserved : goal.loop-k-preserved
loop-k-preserved c =
    let book = c.args.self.now in
    let at = c.loop-k in
    let made = c.convert_x4-four.ensures in
    record {
      converted =
          converted_x4 book.ring.now _ book.direction book.bytes.now c.args.out.now at.k book.records c.loop-k-test.true c.requires at.out
          at.invariant.converted made.0;
      runs = omega (arith, at.invariant.runs, made.1);
    }

pub loop-i-preserved : goal.loop-i-preserved
loop-i-preserved c =
    let book = c.args.self.now in
    let at = c.loop-i in
    let made = c.convert_one-one.ensures in
    record {
      converted =
          converted_one book.ring.now _ book.direction book.bytes.now c.args.out.now at.i book.records c.loop-i-test.true c.requires at.out
          at.invariant.converted made.0;
      runs = omega (arith, at.invariant.runs, made.1);
    }

pub returns : goal.returns
returns c =
    let book = c.args.self.now in
    let at = c.loop-i in
    let end : at.i ≡ book.records = omega arith in (
      all_converted book.ring.now book.direction book.bytes.now c.args.out.now book.records c.identity_strings_of-identity_strings.ensures end
          at.invariant.converted,
      rw (ne_eqb _ _ c.if-self-eq0.false) (omega (arith, at.invariant.runs)),
    )
