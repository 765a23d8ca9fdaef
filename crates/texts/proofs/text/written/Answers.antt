use Rattle.std.proofs.Common.{rules, ◌%◌}
use Rattle.standard.proofs.MadeLaws.{made_table}
use Rattle.standard.specs.Bytes.{◌!◌, bytes_of}
use Rattle.texts.proofs.text.written.Goals as goal

pub returns : goal.returns
returns c = made_table _ _ (λ i. bytes_of 2 c.args.version.0 ! (i % 2)) 16 (λ i y q l k. (search rules, search rules)) _ c.from_fn.ensures.items
