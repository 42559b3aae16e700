-- The numbers of the refusals, and what those of a name table tell: code, layer and place. Assumes nothing.
use Rattle.std.specs.Prelude.{ℕ}
use Rattle.names.specs.declared.refusals.RefusalCode.{RefusalCode}
use Rattle.names.specs.declared.refusals.RefusalCode.TheVariants.{WrongWord, NoWord, PastText, NamesFull, NoteAwaited, UnknownName, TooManyAttributes, TooManyOpen, TooManyBindings, SinkFull, NoNoteAwaited, Misplaced, NotOpen, OutputFull}
use Rattle.names.specs.declared.refusals.Layer.TheVariants.{Names}
use Rattle.names.specs.declared.refusals.Refusal.{Refusal}
use Rattle.names.specs.declared.refusals.NameFault.{NameFault}
use Rattle.names.specs.declared.refusals.NameFault.TheVariants.{TooManyNames, TooManyBytes}

abbrev pub refusal_number : RefusalCode → ℕ
refusal_number WrongWord = 1
refusal_number NoWord = 2
refusal_number PastText = 3
refusal_number NamesFull = 4
refusal_number NoteAwaited = 5
refusal_number UnknownName = 6
refusal_number TooManyAttributes = 7
refusal_number TooManyOpen = 8
refusal_number TooManyBindings = 9
refusal_number SinkFull = 10
refusal_number NoNoteAwaited = 11
refusal_number Misplaced = 12
refusal_number NotOpen = 13
refusal_number OutputFull = 14

-- a full table: the place is the number of names held
abbrev pub refusal_of : NameFault → Refusal
refusal_of (TooManyNames held) = record { code = NamesFull; layer = Names; place = held }
refusal_of (TooManyBytes held) = record { code = NamesFull; layer = Names; place = held }
