-- Where the lines of a text end.
use Rattle.std.specs.Prelude.{◌≡◌, ℕ, ◌+◌, ◌-◌, ◌<◌, ◌≤◌, cond, List, length, Option, MatchOption, take, drop, ◌==◌, ◌≢◌, slice_index}

-- n is the place of the first line feed (10), or the length of the text where there is none
abbrev pub EndsAt : List ℕ → ℕ → Type 0
EndsAt text n = (n ≤ length text) × ((k : ℕ) → k < n → slice_index text k ≢ 10) × (n < length text → slice_index text n ≡ 10)

-- the line without a carriage return (13) at its end
abbrev pub without_return : List ℕ → List ℕ
without_return line = cond (slice_index line (length line - 1) == 13) (take (length line - 1) line) line

-- line is the first line of the text without its ending, and rest is what follows the line feed
abbrev pub FirstLine : List ℕ → List ℕ → List ℕ → Type 0
FirstLine text line rest = (n : ℕ) × EndsAt text n × (line ≡ without_return (take n text)) × (rest ≡ drop (n + 1) text)

-- one step through the lines of a text: its first line, and the rest is left; there is none where the text is empty
abbrev pub GivesLine : List ℕ → Option (List ℕ) → List ℕ → Type 0
GivesLine text r rest = MatchOption r ((length text ≡ 0) × (rest ≡ text)) (λ line. (0 < length text) × FirstLine text line rest)
