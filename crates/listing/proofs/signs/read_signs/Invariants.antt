-- What is left of the line gets shorter with each step.
use Rattle.std.proofs.Common.{length}
use Rattle.listing.proofs.signs.read_signs.Given as goal

abbrev pub decreases-loop-rest : goal.decreases-loop-rest
decreases-loop-rest l = length l.rest
