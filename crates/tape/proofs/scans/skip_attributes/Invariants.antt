use Rattle.std.proofs.Common.{◌≡◌, ◌-◌}
use Rattle.tape.specs.Scans.{attribute_slots, after}
use Rattle.tape.proofs.scans.skip_attributes.Given as goal

-- the attributes that are left go on behind the words that were passed
abbrev pub invariant-loop : goal.invariant-loop
invariant-loop l = after (attribute_slots l.count) l.words ≡ after (attribute_slots (l.count - l.counter)) l.rest
