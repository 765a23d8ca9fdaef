-- Each call of itself has one place less.
use Rattle.lines.proofs.Line.+digits.Given as goal

abbrev pub decreases-digits : goal.decreases-digits
decreases-digits l = l.places
