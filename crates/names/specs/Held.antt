-- What a store of texts holds. Assumes nothing.
use Rattle.std.specs.Prelude.{ℕ, List, vec_items}
use Rattle.names.specs.declared.store.TextStore.{TextStore}
use Rattle.names.specs.Cuts.{cuts}

abbrev pub held : TextStore → List (List ℕ)
held s = cuts 0 (vec_items s.ends) (vec_items s.bytes)
