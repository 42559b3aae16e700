-- Rows of bindings, one for each open element, innermost first: how they change, and the look-up in them. Assumes nothing.
use Rattle.std.specs.Prelude.{ℕ, zero, suc, ◌+◌, Bool, false, cond, List, [], ◌∷◌, ◌++◌, length, Some, None, Ok, Err, Option, Result, nat_lt}
use Rattle.std.specs.List.{list_any, sum_by}
use Rattle.std.specs.Option.{option_or}
use Rattle.names.specs.declared.qualified.Name.{Name}
use Rattle.scopes.specs.declared.bindings.Binding.{Binding}
use Rattle.scopes.specs.declared.bindings.Found.{Found}
use Rattle.scopes.specs.declared.faults.ScopeFault.{ScopeFault}
use Rattle.scopes.specs.declared.faults.ScopeFault.TheVariants.{TooManyRows, TooManyBindings, Reserved, NoOpenRow}
use Rattle.scopes.specs.Prefixes.{same, reserved}

-- the bindings of all rows, counted
abbrev pub size : List (List Binding) → ℕ
size rows = sum_by length rows

-- a new innermost row: at most 128
abbrev pub opened : List (List Binding) → Result (List (List Binding)) ScopeFault
opened rows = cond (nat_lt (length rows) 128) (Ok ([] ∷ rows)) (Err TooManyRows)

-- one binding more in the innermost row: at most 256, with the `below` that stand below the rows
abbrev pub added : ℕ → List (List Binding) → Binding → Result (List (List Binding)) ScopeFault
added below [] b = Err NoOpenRow
added below (row ∷ rows) b = cond (nat_lt (below + size (row ∷ rows)) 256) (Ok ((row ++ b ∷ []) ∷ rows)) (Err TooManyBindings)

-- where n bindings are built in, and not none, `xml` and `xmlns` are bound for good
abbrev pub refuses : ℕ → Option Name → Bool
refuses zero p = false
refuses (suc n) p = reserved p

-- the same as `added`, in a table of n built-in bindings, which takes none of a prefix that it refuses
abbrev pub declared : ℕ → List (List Binding) → Binding → Result (List (List Binding)) ScopeFault
declared n rows b = cond (refuses n b.prefix) (Err Reserved) (added n rows b)

-- the innermost row is taken away
abbrev pub closed : List (List Binding) → Result (List (List Binding)) ScopeFault
closed [] = Err NoOpenRow
closed (row ∷ rows) = Ok rows

-- whether a row binds p
abbrev pub binds : List Binding → Option Name → Bool
binds row p = list_any (λ b. same b.prefix p) row

-- the first binding of p in the row with the number k, whose first binding has the place i
abbrev pub in_row : ℕ → ℕ → List Binding → Option Name → Option Found
in_row k i [] p = None
in_row k i (b ∷ bs) p = cond (same b.prefix p) (Some (record { row = k; place = i; ns = b.ns })) (in_row k (i + 1) bs p)

-- the one in the innermost row that has any; a row's number is that of the rows around it
abbrev pub nearest : List (List Binding) → Option Name → Option Found
nearest [] p = None
nearest (row ∷ rows) p = option_or (in_row (length rows) 0 row p) (nearest rows p)
