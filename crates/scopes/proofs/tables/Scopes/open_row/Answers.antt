use Rattle.std.proofs.Common.{length, Ok, sym, ap, ◌∙◌, arith, length-set}
use Rattle.std.proofs.lemmas.Bool.{cond-true, lt-ltb}
use Rattle.scopes.specs.Prefixes.{keeps_free}
use Rattle.scopes.specs.Stacks.{stacked, climbs}
use Rattle.scopes.specs.Tables.{rows_of}
use Rattle.scopes.proofs.Stacking.{open_stacked, open_climbs}
use Rattle.scopes.proofs.Holding.{count}
use Rattle.scopes.proofs.Pushing.{one_more}
use Rattle.scopes.proofs.Reserving.{keeps_free-opened}
use Rattle.scopes.proofs.tables.Scopes.open_row.Goals as goal

pub invariant_of-result : goal.invariant_of-result
invariant_of-result g c =
    let t = c.args.self in
    let s = t.starts in
    let e = t.entries.len in
    let p = one_more _ _ _ _ _ c.push.ensures _ c.in_ok-starts.ensures.value in
    let rows = (λ i. stacked (p.items i) t.entries.items (p.len i) e) ∙ open_stacked s.items t.entries.items s.len e (omega (arith, p.room, t.levels)) in
    record {
      places = t.places;
      levels = ap length p.items ∙ (simp length-set t.levels);
      few = t.few;
      shallow = omega (arith, p.len, p.room);
      climbing = (λ i. climbs g.row.BUILT_IN (p.items i) (p.len i) e) ∙ open_climbs _ s.items s.len e (omega (arith, p.room, t.levels)) t.climbing;
      below = t.below;
      above = ap (keeps_free g.row.BUILT_IN) rows ∙ keeps_free-opened _ (rows_of t) t.above;
    }

pub returns : goal.returns
returns g c =
    let t = c.args.self in
    let s = t.starts in
    let e = t.entries.len in
    let p = one_more _ _ _ _ _ c.push.ensures _ c.in_ok-starts.ensures.value in
    ap Ok ((λ i. stacked (p.items i) t.entries.items (p.len i) e) ∙ open_stacked s.items t.entries.items s.len e (omega (arith, p.room, t.levels)))
    ∙ sym (cond-true _ _ _ (lt-ltb (length (rows_of t)) 128 (omega (arith, p.room, count t))))
