use Rattle.std.proofs.Common.{◌≤◌, length, take, arith}
use Rattle.std.proofs.lemmas.Grind.{common_steps}
use Rattle.names.specs.Table.{texts}
use Rattle.tape.proofs.Naming.{one_more}
use Rattle.tape.proofs.entering.enter_attributes.Goals as goal

pub loop-record-preserved : goal.loop-record-preserved
loop-record-preserved c =
    let done = take c.loop-record.record-index c.loop-record.records in
    let parts = c.loop-record.parts in
    let some : 3 ≤ length parts.words = omega arith in
    grind (arith, common_steps, one_more done (texts c.loop-record.names) _ parts.text parts.at _ _ parts.words some c.in_ok-record.ensures.value c.in_ok-record.ensures.passed)
