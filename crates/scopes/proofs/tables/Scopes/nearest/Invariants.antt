use Rattle.std.proofs.Common.{◌≡◌, ◌≤◌, true, length, take}
use Rattle.scopes.specs.Rows.{nearest}
use Rattle.scopes.specs.Stacks.{stacked, climbs}
use Rattle.scopes.specs.Tables.{rows_of}
use Rattle.scopes.proofs.tables.Scopes.nearest.Given as goal

-- the rows whose starts are left give the answer
abbrev pub invariant-loop-row : goal.invariant-loop-row
invariant-loop-row g l =
    let left = l.row-iterator.iter.iter.rest.now in record {
      counted : l.row-iterator.iter.count ≡ 0;
      few : length left ≤ length l.self.starts.items;
      front : left ≡ take (length left) l.self.starts.items;
      climbing : climbs g.row.BUILT_IN l.self.starts.items (length left) l.end ≡ true;
      within : l.end ≤ 256;
      same : nearest (stacked l.self.starts.items l.self.entries.items (length left) l.end) l.prefix ≡ nearest (rows_of l.self) l.prefix;
    }
