use Rattle.std.proofs.Common.{◌+◌, drop, arith}
use Rattle.std.proofs.lemmas.Grind.{common_steps}
use Rattle.tape.proofs.scans.skip_slots.Goals as goal

pub returns-in_err-rest-clause-value : goal.returns-in_err-rest-clause-value
returns-in_err-rest-clause-value c =
    grind (arith, common_steps, c.skip_slot.ensures (drop (c.loop-slot.slot-index + 1) c.args.slots.now))
