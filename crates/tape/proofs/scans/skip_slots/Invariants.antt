use Rattle.std.proofs.Common.{◌≡◌, List, ◌++◌, drop}
use Rattle.tape.specs.declared.words.Slot.{Slot}
use Rattle.tape.specs.Scans.{after}
use Rattle.tape.proofs.scans.skip_slots.Given as goal

-- what is left to fill goes on behind the words that were passed
abbrev pub invariant-loop-slot : goal.invariant-loop-slot
invariant-loop-slot l = record {
  value : after l.slots l.words ≡ after (drop l.slot-index l.slots) l.rest;
  more : (more : List Slot) → after (l.slots ++ more) l.words ≡ after (drop l.slot-index l.slots ++ more) l.rest;
}
