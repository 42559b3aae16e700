-- Which lines hold no token.
use Rattle.std.specs.Prelude.{ℕ, Bool, true, cond, List, length, ◌==◌, nat_lt, slice_index}
use Rattle.std.specs.List.{prefix_len}

-- a space (32) or a tab (9)
abbrev pub is_blank : ℕ → Bool
is_blank b = cond (b == 32) true (b == 9)

-- how many blanks the line begins with
abbrev pub indent : List ℕ → ℕ
indent line = prefix_len is_blank line

-- the first byte that is no blank is a `#` (35), or there is none
abbrev pub is_skipped : List ℕ → Bool
is_skipped line = cond (nat_lt (indent line) (length line)) (slice_index line (indent line) == 35) true
