-- The texts that the words of a token stand for: they lie one after another in the tape's text. Assumes nothing.
use Rattle.std.specs.Prelude.{ℕ, ◌+◌, cond, List, [], ◌∷◌, Some, None, Option, nat_le, slice_index, drop}
use Rattle.std.specs.List.{between, sum_by}
use Rattle.tape.specs.Words.{payload_of, is_text}

-- how many bytes the texts of the words have together: an absent one has none, as its payload is 0
abbrev pub total : List ℕ → ℕ
total ws = sum_by payload_of ws

-- where the texts of the words end that begin at a place of a text of n bytes, if they all lie in it
abbrev pub text_end : List ℕ → ℕ → ℕ → Option ℕ
text_end ws at n = cond (nat_le (at + total ws) n) (Some (at + total ws)) None

-- the bytes of the word whose text begins at a place
abbrev pub text_of : List ℕ → ℕ → ℕ → List ℕ
text_of bs at w = between at (at + payload_of w) bs

-- the same where the text may be absent
abbrev pub maybe_text : List ℕ → ℕ → ℕ → Option (List ℕ)
maybe_text bs at w = cond (is_text w) (Some (text_of bs at w)) None

-- the words that are left, and the place of the text where theirs begin
pub record PartsLeft : Type 0 where
  pub words : List ℕ
  pub text : List ℕ
  pub at : ℕ

-- the first of the words is passed, and so is its text
abbrev pub passed : PartsLeft → PartsLeft
passed p = record { words = drop 1 p.words; text = p.text; at = p.at + payload_of (slice_index p.words 0) }
