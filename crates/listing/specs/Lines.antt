-- What is seen of `Lines`.
use Rattle.std.specs.Prelude.{ℕ, List}
use Rattle.listing.specs.declared.lines.Lines.{Lines}

-- the text whose lines are still to come
abbrev pub text_left : Lines → List ℕ
text_left lines = lines.rest.now
