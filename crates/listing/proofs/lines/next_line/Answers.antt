-- The line ends where `line_end` says.
use Rattle.std.proofs.Common.{rules, arith}
use Rattle.std.proofs.lemmas.Grind.{common_steps}
use Rattle.listing.proofs.lines.next_line.Goals as goal

pub returns-clause-splits : goal.returns-clause-splits
returns-clause-splits c = (c.line_end-end.result, c.line_end-end.ensures, search rules, grind (arith, common_steps))
