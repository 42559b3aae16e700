use Rattle.std.proofs.Common.{◌<◌, ◌≤◌, length, vec_items, vec_len, sym, ap, ◌∙◌, arith}
use Rattle.std.proofs.lemmas.List.{get_or_read}
use Rattle.std.proofs.lemmas.Bool.{cond-false, le-ltb}
use Rattle.names.specs.Cuts.{start_of}
use Rattle.names.specs.Held.{held}
use Rattle.names.proofs.Cutting.{placed, text_there}
use Rattle.names.proofs.Storing.{count}
use Rattle.names.proofs.store.TextStore.text.Goals as goal

-- the text that is asked for lies within the bytes
record Bounds (c : goal.After-deref) : Type 0 where
  low : c.start_of-start.result ≤ c.index-end.result.now
  high : c.index-end.result.now ≤ length c.deref.result.now

bounds : (c : goal.After-deref) → Bounds c
bounds c =
    let s = c.args.self.now in
    let below : c.args.i < length (vec_items s.ends) = omega (arith, c.if-i-len.false, c.len.ensures, s.ends.ok.0) in
    let p = placed 0 (vec_items s.ends) (vec_items s.bytes) (vec_len s.bytes) c.args.i s.chain below in
    let from = c.start_of-start.ensures ∙ ap (λ es. start_of 0 es c.args.i) c.as_slice.ensures.value in
    let to = get_or_read _ _ _ below c.index-end.ensures 0 in
    record { low = omega (arith, p.low, from, to); high = omega (arith, p.high, to, c.deref.ensures.len) }

pub returns-then-i-len : goal.returns-then-i-len
returns-then-i-len c =
    let s = c.args.self.now in
    sym (cond-false _ _ _ (le-ltb c.args.i (length (held s)) (omega (arith, c.if-i-len.true, c.len.ensures, count s))))

pub slice_bounds-result-count : goal.slice_bounds-result-count
slice_bounds-result-count c = (bounds c).low

pub slice_bounds-result-start : goal.slice_bounds-result-start
slice_bounds-result-start c = (bounds c).low

pub slice_bounds-result-end : goal.slice_bounds-result-end
slice_bounds-result-end c = (bounds c).high

pub returns : goal.returns
returns c =
    let s = c.args.self.now in
    let below : c.args.i < length (vec_items s.ends) = omega (arith, c.if-i-len.false, c.len.ensures, s.ends.ok.0) in
    text_there (vec_items s.ends) (vec_items s.bytes) _ (vec_len s.bytes) c.args.i _ _ s.chain below
    (c.start_of-start.ensures ∙ ap (λ es. start_of 0 es c.args.i) c.as_slice.ensures.value)
    (get_or_read _ _ _ below c.index-end.ensures 0)
    c.deref.ensures.value
