-- Texts that stand one after another in one list of bytes. Assumes nothing.
use Rattle.std.specs.Prelude.{ℕ, zero, suc, Bool, ◌&&◌, List, [], ◌∷◌, ◌==◌, nat_le, slice_index}
use Rattle.std.specs.List.{between}

-- each end is at or after the one before it, the first at or after `from`, and all bytes up to n are used
abbrev pub chained : ℕ → List ℕ → ℕ → Bool
chained from [] n = from == n
chained from (e ∷ es) n = nat_le from e && chained e es n

-- bs cut at the ends es, beginning at `from`: one text for each end
abbrev pub cuts : ℕ → List ℕ → List ℕ → List (List ℕ)
cuts from [] bs = []
cuts from (e ∷ es) bs = between from e bs ∷ cuts e es bs

-- where the text at place i begins: where the one before it ends
abbrev pub start_of : ℕ → List ℕ → ℕ → ℕ
start_of from es zero = from
start_of from es (suc i) = slice_index es i
