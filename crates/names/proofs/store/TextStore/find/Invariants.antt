use Rattle.std.proofs.Common.{◌≡◌, true, drop, vec_items, vec_len}
use Rattle.names.specs.Cuts.{chained, cuts}
use Rattle.names.specs.Held.{held}
use Rattle.names.specs.Texts.{seek}
use Rattle.names.proofs.store.TextStore.find.Given as goal

-- the texts from `start` on, with the ends not yet seen, give the same answer as all
abbrev pub invariant-loop-i : goal.invariant-loop-i
invariant-loop-i l =
    (chained l.start (drop l.i (vec_items l.self.ends)) (vec_len l.self.bytes) ≡ true)
    × (seek l.i (cuts l.start (drop l.i (vec_items l.self.ends)) (vec_items l.self.bytes)) l.text ≡ seek 0 (held l.self) l.text)
