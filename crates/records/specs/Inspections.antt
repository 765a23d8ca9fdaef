-- What an inspection found, as the definitions say it: the refusal's number, or 0; and the cipher runs.
use Rattle.std.specs.Prelude.{ℕ}
use Rattle.standard.specs.Answers.{refused_by}
use Rattle.records.specs.declared.Inspection.{Inspection}

abbrev pub inspected : Inspection → ℕ × ℕ
inspected i = (refused_by i.found, i.runs)
