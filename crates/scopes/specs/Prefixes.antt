-- Prefixes, those that are reserved, and the bindings that are built in. Assumes nothing.
use Rattle.std.specs.Prelude.{ℕ, zero, suc, Bool, true, false, not, ◌||◌, List, [], ◌∷◌, Some, None, Option, ◌==◌}
use Rattle.std.specs.List.{list_all}
use Rattle.names.specs.declared.qualified.Name.{Name}
use Rattle.names.specs.Names.{numbered}
use Rattle.scopes.specs.declared.bindings.Binding.{Binding}

-- the same name, or none both times: an absent prefix is not the empty one
abbrev pub same : Option Name → Option Name → Bool
same None None = true
same None (Some n) = false
same (Some m) None = false
same (Some m) (Some n) = m.0 == n.0

-- whether it is there, and is the name with the number n
abbrev pub named : ℕ → Option Name → Bool
named n None = false
named n (Some m) = m.0 == n

-- `xml` (number 1) and `xmlns` (number 2), which no declaration binds
abbrev pub reserved : Option Name → Bool
reserved p = named 1 p || named 2 p

-- no binding of a row is of a reserved prefix
abbrev pub free_row : List Binding → Bool
free_row row = list_all (λ b. not (reserved b.prefix)) row

abbrev pub free : List (List Binding) → Bool
free rows = list_all free_row rows

-- in a table with built-in bindings no row has a reserved prefix; n is how many are built in
abbrev pub keeps_free : ℕ → List (List Binding) → Bool
keeps_free zero rows = true
keeps_free (suc n) rows = free rows

-- the absent prefix stands for the empty namespace (number 0), `xml` and `xmlns` for their own (4 and 5)
abbrev pub built_ins : List Binding
built_ins =
    record { prefix = None; ns = Some (numbered 0) }
    ∷ record { prefix = Some (numbered 1); ns = Some (numbered 4) }
    ∷ record { prefix = Some (numbered 2); ns = Some (numbered 5) }
    ∷ []
