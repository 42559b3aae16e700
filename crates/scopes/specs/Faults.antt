-- The refusal that a fault of a table leads to. Assumes nothing.
use Rattle.std.specs.Prelude.{Some, None, Option}
use Rattle.names.specs.declared.refusals.RefusalCode.{RefusalCode}
use Rattle.names.specs.declared.refusals.RefusalCode.TheVariants as code
use Rattle.scopes.specs.declared.faults.ScopeFault.{ScopeFault}
use Rattle.scopes.specs.declared.faults.ScopeFault.TheVariants.{TooManyRows, TooManyBindings, Reserved, NoOpenRow}

-- a document can meet the first two, by their numbers 8 and 9; the others are a caller's mistakes, which refuse nothing
abbrev pub code_of : ScopeFault → Option RefusalCode
code_of TooManyRows = Some code.TooManyOpen
code_of TooManyBindings = Some code.TooManyBindings
code_of Reserved = None
code_of NoOpenRow = None
