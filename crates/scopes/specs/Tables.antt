-- What a table holds: a row for each open element, innermost first. Assumes nothing.
use Rattle.std.specs.Prelude.{ℕ, List, Result}
use Rattle.std.specs.Result.{result_map_both}
use Rattle.scopes.specs.declared.bindings.Binding.{Binding}
use Rattle.scopes.specs.declared.faults.ScopeFault.{ScopeFault}
use Rattle.scopes.specs.declared.tables.Scopes.{Scopes}
use Rattle.scopes.specs.Stacks.{stacked}

-- n bindings are built in, and belong to no row
abbrev pub rows_of : {n : ℕ} → Scopes n → List (List Binding)
rows_of t = stacked t.starts.items t.entries.items t.starts.len t.entries.len

abbrev pub rows_by : {n : ℕ} → Result (Scopes n) ScopeFault → Result (List (List Binding)) ScopeFault
rows_by r = result_map_both rows_of (λ e. e) r
