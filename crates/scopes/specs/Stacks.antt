-- Rows that stand one after another in one list, each known by where it starts. Assumes nothing.
use Rattle.std.specs.Prelude.{ℕ, zero, suc, Bool, ◌&&◌, List, [], ◌∷◌, ◌==◌, nat_le, slice_index}
use Rattle.std.specs.List.{between}

-- the n rows, innermost first: the innermost ends at e, and each other where the next one inside it starts
abbrev pub stacked : {A : Type 0} → List ℕ → List A → ℕ → ℕ → List (List A)
stacked starts xs zero e = []
stacked starts xs (suc n) e = between (slice_index starts n) e xs ∷ stacked starts xs n (slice_index starts n)

-- no row starts after its end, and the outermost starts at `bottom`
abbrev pub climbs : ℕ → List ℕ → ℕ → ℕ → Bool
climbs bottom starts zero e = bottom == e
climbs bottom starts (suc n) e = nat_le (slice_index starts n) e && climbs bottom starts n (slice_index starts n)
