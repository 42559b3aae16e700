-- Name numbers, and what an expanded name is. Assumes nothing.
use Rattle.std.specs.Prelude.{ℕ}
use Rattle.names.specs.declared.qualified.Name.{Name}
use Rattle.names.specs.declared.qualified.QualName.{QualName}
use Rattle.names.specs.declared.qualified.ExpandedName.{ExpandedName}

-- the name with the number n
abbrev pub numbered : ℕ → Name
numbered n = record { 0 = n }

-- a qualified name without its prefix
abbrev pub expanded_of : QualName → ExpandedName
expanded_of q = record { ns = q.ns; local = q.local }
