-- Which words make up a token: those that have to follow its first one, each in a slot of its own. Assumes nothing.
use Rattle.std.specs.Prelude.{ℕ, zero, suc, ◌+◌, ◌-◌, ◌*◌, cond, List, [], ◌∷◌, length, take, Ok, Err, Result}
use Rattle.std.specs.Borrow.{Bor}
use Rattle.tape.specs.declared.faults.TapeCause.{TapeCause}
use Rattle.tape.specs.declared.faults.TapeCause.TheVariants.{WrongWord, NoWord}
use Rattle.tape.specs.declared.scans.Scanned.{Scanned}
use Rattle.tape.specs.declared.words.Head.{Head}
use Rattle.tape.specs.declared.words.Head.TheVariants as head
use Rattle.tape.specs.declared.words.Slot.{Slot}
use Rattle.tape.specs.declared.words.Slot.TheVariants.{Text, Optional}
use Rattle.tape.specs.Words.{takes, head_of}

-- an attribute has a prefix, which may be absent, a local name and a value
abbrev pub attribute_slots : ℕ → List Slot
attribute_slots zero = []
attribute_slots (suc n) = Optional ∷ Text ∷ Text ∷ attribute_slots n

-- a tag has a prefix, which may be absent, and a local name, then its attributes
abbrev pub tag_slots : ℕ → List Slot
tag_slots n = Optional ∷ Text ∷ attribute_slots n

-- the slots that follow the first word of a token
abbrev pub slots_of : Head → List Slot
slots_of (head.Tag k n) = tag_slots n
slots_of head.ShortTag = []
slots_of head.Comment = Text ∷ []
slots_of head.Characters = Text ∷ []
slots_of head.Instruction = Text ∷ Text ∷ []
slots_of head.Doctype = Optional ∷ Optional ∷ Optional ∷ []
slots_of head.NullCharacter = []
slots_of head.EndOfFile = []
slots_of head.Error = Text ∷ []

-- the words after those that fill the slots; at the first place without the right word it is told what is wrong there
abbrev pub after : List Slot → List ℕ → Result (List ℕ) TapeCause
after [] ws = Ok ws
after (s ∷ ss) [] = Err NoWord
after (s ∷ ss) (w ∷ ws) = cond (takes s w) (after ss ws) (Err WrongWord)

-- a token's words taken apart
pub record Scan : Type 0 where
  pub head : Head
  pub parts : List ℕ
  pub rest : List ℕ

abbrev pub parts_and : Head → List ℕ → Result (List ℕ) TapeCause → Result Scan TapeCause
parts_and h ws (Ok rest) = Ok (record { head = h; parts = take (length ws - length rest) ws; rest = rest })
parts_and h ws (Err e) = Err e

abbrev pub scanned_by : Result Head TapeCause → List ℕ → Result Scan TapeCause
scanned_by (Ok h) ws = parts_and h ws (after (slots_of h) ws)
scanned_by (Err e) ws = Err e

-- the first token of a list of words: what its first word says, the words of its parts, and the words after it
abbrev pub scanned : List ℕ → Result Scan TapeCause
scanned [] = Err NoWord
scanned (w ∷ ws) = scanned_by (head_of w) ws

-- how many words follow the first
abbrev pub part_count : Head → ℕ
part_count (head.Tag k n) = 2 + 3 * n
part_count head.ShortTag = 0
part_count head.Comment = 1
part_count head.Characters = 1
part_count head.Instruction = 2
part_count head.Doctype = 3
part_count head.NullCharacter = 0
part_count head.EndOfFile = 0
part_count head.Error = 1

-- what the code answers, with the words that its references point to
abbrev pub rest_of : Result (Bor (List ℕ)) TapeCause → Result (List ℕ) TapeCause
rest_of (Ok r) = Ok r.now
rest_of (Err e) = Err e

abbrev pub scan_of : Result Scanned TapeCause → Result Scan TapeCause
scan_of (Ok s) = Ok (record { head = s.head; parts = s.words.now; rest = s.rest.now })
scan_of (Err e) = Err e

-- goes on behind the words that were passed
abbrev pub onward : Result (Bor (List ℕ)) TapeCause → List Slot → Result (List ℕ) TapeCause
onward (Ok r) more = after more r.now
onward (Err e) more = Err e
