-- What is left of the text gets shorter with each line.
use Rattle.std.proofs.Common.{length}
use Rattle.listing_tests.proofs.lines.all_lines.Given as goal

abbrev pub decreases-loop-rest : goal.decreases-loop-rest
decreases-loop-rest g l = length l.rest
