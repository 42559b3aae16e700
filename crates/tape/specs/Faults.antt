-- What the refusals of the tape reader tell: code, layer and place. Assumes nothing.
use Rattle.names.specs.declared.refusals.Layer.TheVariants as layer
use Rattle.names.specs.declared.refusals.Refusal.{Refusal}
use Rattle.names.specs.declared.refusals.RefusalCode.{RefusalCode}
use Rattle.names.specs.declared.refusals.RefusalCode.TheVariants as code
use Rattle.tape.specs.declared.faults.TapeCause.{TapeCause}
use Rattle.tape.specs.declared.faults.TapeCause.TheVariants.{WrongWord, NoWord, PastText, TooManyAttributes, Names}
use Rattle.tape.specs.declared.faults.TapeFault.{TapeFault}

-- the code of each cause: 1, 2, 3, 4 and 7. What a full name table told stays inside, with a layer and a place of its own
abbrev pub code_of : TapeCause → RefusalCode
code_of WrongWord = code.WrongWord
code_of NoWord = code.NoWord
code_of PastText = code.PastText
code_of (Names fault) = code.NamesFull
code_of TooManyAttributes = code.TooManyAttributes

-- the place is the index of the token's first word
abbrev pub refusal_of : TapeFault → Refusal
refusal_of f = record { code = code_of f.cause; layer = layer.Tape; place = f.at }
