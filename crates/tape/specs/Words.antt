-- What one word of a tape says. Assumes nothing.
use Rattle.std.specs.Prelude.{ℕ, ◌/◌, ◌%◌, Bool, cond, ◌&&◌, ◌||◌, Ok, Err, Result, ◌==◌}
use Rattle.tape.specs.declared.faults.TapeCause.{TapeCause}
use Rattle.tape.specs.declared.faults.TapeCause.TheVariants.{WrongWord}
use Rattle.tape.specs.declared.tokens.TagKind.TheVariants.{Start, End, Empty}
use Rattle.tape.specs.declared.words.Head.{Head}
use Rattle.tape.specs.declared.words.Head.TheVariants as head
use Rattle.tape.specs.declared.words.Slot.{Slot}
use Rattle.tape.specs.declared.words.Slot.TheVariants.{Text, Optional}

-- the top 4 bits of 32, and the 28 bits below them (2 to the 28th is 268,435,456)
abbrev pub kind_of : ℕ → ℕ
kind_of w = w / 268435456

abbrev pub payload_of : ℕ → ℕ
payload_of w = w % 268435456

-- a text: its payload is its length in bytes
abbrev pub is_text : ℕ → Bool
is_text w = kind_of w == 14

-- no text: its payload is 0
abbrev pub is_absent : ℕ → Bool
is_absent w = kind_of w == 15 && payload_of w == 0

-- which words may stand in a slot
abbrev pub takes : Slot → ℕ → Bool
takes Text w = is_text w
takes Optional w = is_text w || is_absent w

-- the tokens whose first word has no payload
abbrev pub plain_head : ℕ → Result Head TapeCause
plain_head k =
    cond (k == 4) (Ok head.ShortTag)
    (cond (k == 5) (Ok head.Comment)
    (cond (k == 6) (Ok head.Characters)
    (cond (k == 7) (Ok head.Instruction)
    (cond (k == 8) (Ok head.Doctype)
    (cond (k == 9) (Ok head.NullCharacter)
    (cond (k == 10) (Ok head.EndOfFile)
    (cond (k == 11) (Ok head.Error)
    (Err WrongWord))))))))

-- the first word of a token by its kind and payload: that of a tag has the number of its attributes
abbrev pub head_by : ℕ → ℕ → Result Head TapeCause
head_by k n =
    cond (k == 1) (Ok (head.Tag Start n))
    (cond (k == 2) (Ok (head.Tag End n))
    (cond (k == 3) (Ok (head.Tag Empty n))
    (cond (n == 0) (plain_head k)
    (Err WrongWord))))

abbrev pub head_of : ℕ → Result Head TapeCause
head_of w = head_by (kind_of w) (payload_of w)
