-- What a name table holds. Assumes nothing.
use Rattle.std.specs.Prelude.{ℕ, List}
use Rattle.names.specs.declared.table.NameTable.{NameTable}
use Rattle.names.specs.Held.{held}

-- the texts in the order of their numbers
abbrev pub texts : NameTable → List (List ℕ)
texts t = held t.store
