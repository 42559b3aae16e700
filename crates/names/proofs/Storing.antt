-- How many texts and bytes a store holds. Assumes nothing.
use Rattle.std.proofs.Common.{◌≡◌, length, vec_items, vec_len, sym, ◌∙◌, arith}
use Rattle.names.specs.declared.store.TextStore.{TextStore}
use Rattle.names.specs.Held.{held}
use Rattle.names.specs.Texts.{total}
use Rattle.names.proofs.Cutting.{length-cuts, total-cuts}

pub count : (s : TextStore) → length (held s) ≡ vec_len s.ends
count s = length-cuts 0 (vec_items s.ends) (vec_items s.bytes) ∙ sym s.ends.ok.0

pub used : (s : TextStore) → total (held s) ≡ vec_len s.bytes
used s = omega (arith, total-cuts 0 (vec_items s.ends) (vec_items s.bytes) (vec_len s.bytes) (sym s.bytes.ok.0) s.chain)
