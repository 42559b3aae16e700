-- How many rows and bindings a table holds. Assumes nothing.
use Rattle.std.proofs.Common.{◌≡◌, ℕ, ◌≤◌, length}
use Rattle.scopes.specs.declared.tables.Scopes.{Scopes}
use Rattle.scopes.specs.Tables.{rows_of}
use Rattle.scopes.proofs.Stacking.{above_bottom, length_stacked}

module _ {n : ℕ} (t : Scopes n) where
  pub count : length (rows_of t) ≡ t.starts.len
  count = length_stacked t.starts.items t.entries.items t.starts.len t.entries.len

  pub bottom : n ≤ t.entries.len
  bottom = above_bottom n t.starts.items t.starts.len t.entries.len t.climbing
