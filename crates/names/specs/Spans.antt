-- When a span lies in a text. Assumes nothing.
use Rattle.std.specs.Prelude.{ℕ, ◌+◌, Bool, nat_le}
use Rattle.names.specs.declared.spans.Span.{Span}

-- all of it lies in a text of n bytes
abbrev pub inside : Span → ℕ → Bool
inside s n = nat_le (s.start + s.len) n
