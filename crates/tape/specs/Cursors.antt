-- Where a reader of a tape stands. Assumes nothing.
use Rattle.std.specs.Prelude.{ℕ, Bool, List, length, ◌==◌}
use Rattle.tape.specs.declared.cursor.Tape.{Tape}

-- the words that are left with the index of the first, and the whole text with the place of the next part
pub record Cursor : Type 0 where
  pub words : List ℕ
  pub index : ℕ
  pub text : List ℕ
  pub position : ℕ

abbrev pub cursor_of : Tape → Cursor
cursor_of t = record { words = t.words.now; index = t.index; text = t.text.now; position = t.position }

-- nothing is read yet
abbrev pub at_start : List ℕ → List ℕ → Cursor
at_start ws bs = record { words = ws; index = 0; text = bs; position = 0 }

-- no word is left
abbrev pub is_at_end : Cursor → Bool
is_at_end c = length c.words == 0
