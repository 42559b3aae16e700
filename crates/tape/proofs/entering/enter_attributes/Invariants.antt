use Rattle.std.proofs.Common.{◌≡◌, ◌-◌, ◌*◌, [], length, take}
use Rattle.names.specs.Table.{texts}
use Rattle.tape.specs.Entering.{attributes_entered}
use Rattle.tape.proofs.entering.enter_attributes.Given as goal

-- the attributes that are left, behind those that were written, give what all of them give
abbrev pub invariant-loop-record : goal.invariant-loop-record
invariant-loop-record l = record {
  left : length l.parts.words ≡ 3 * (length l.records - l.record-index);
  same : attributes_entered (take l.record-index l.records) (texts l.names) l.parts.text l.parts.at l.parts.words ≡ attributes_entered [] (texts l.initial.names) l.initial.parts.text l.initial.parts.at l.initial.parts.words;
}
