-- One item more in a list of at most n items that is a plain value. Assumes nothing.
use Rattle.std.specs.Prelude.{ℕ, ◌+◌, cond, nat_lt, Option, Some, None, slice_set}
use Rattle.scopes.specs.declared.stack.Stack.{Stack}

-- the item goes behind those that count, if there is room for it
abbrev pub pushed : {A : Type 0} → (n : ℕ) → Stack A n → A → Option (Stack A n)
pushed n s x = cond (nat_lt s.len n) (Some (record { items = slice_set s.items s.len x; len = s.len + 1 })) None
