use Rattle.std.proofs.Common.{length, take, Ok, Err, sym, ap, ◌∙◌, arith, length-set}
use Rattle.std.proofs.lemmas.Bool.{cond-false}
use Rattle.std.proofs.lemmas.List.{take-set-le}
use Rattle.std.proofs.lemmas.Result.{err_from_is_err_and}
use Rattle.scopes.specs.Stacks.{stacked, climbs}
use Rattle.scopes.specs.Tables.{rows_of, rows_by}
use Rattle.scopes.proofs.Stacking.{add_climbs, add_stacked, add_full}
use Rattle.scopes.proofs.Holding.{bottom}
use Rattle.scopes.proofs.Pushing.{one_more, none_left}
use Rattle.scopes.proofs.Reserving.{keeps_free-added}
use Rattle.scopes.proofs.tables.Scopes.add.Goals as goal

pub returns-in_err-entries : goal.returns-in_err-entries
returns-in_err-entries g c =
    let t = c.args.self in
    let r = err_from_is_err_and c.from_residual.result c.from_residual.ensures.1 in
    let full = none_left _ _ _ _ _ c.push.ensures _ c.in_err-entries.ensures.value in
    ap rows_by (r.1 ∙ ap Err r.2)
    ∙ ap Err full.error
    ∙ add_full _ t.starts.items t.entries.items t.starts.len t.entries.len c.args.binding c.if-self-eq0.false t.climbing full.full (omega (arith, t.few, t.places))
    ∙ sym (cond-false _ _ _ (sym c.refuses.ensures ∙ c.if-refuses.false))

pub invariant_of-result : goal.invariant_of-result
invariant_of-result g c =
    let t = c.args.self in
    let s = t.starts in
    let e = t.entries.len in
    let b = c.args.binding in
    let p = one_more _ _ _ _ _ c.push.ensures _ c.in_ok-entries.ensures.value in
    let rows = ap Ok (λ i. stacked s.items (p.items i) s.len (p.len i)) ∙ add_stacked _ s.items t.entries.items s.len e b c.if-self-eq0.false t.climbing p.room (omega (arith, p.room, t.places)) in
    record {
      places = ap length p.items ∙ (simp length-set t.places);
      levels = t.levels;
      few = omega (arith, p.len, p.room);
      shallow = t.shallow;
      climbing = ap (climbs g.row.BUILT_IN s.items s.len) p.len ∙ add_climbs _ s.items s.len e c.if-self-eq0.false t.climbing;
      below = ap (take g.row.BUILT_IN) p.items ∙ take-set-le _ t.entries.items e b (bottom t) ∙ t.below;
      above = keeps_free-added _ (rows_of t) _ b rows t.above (sym c.refuses.ensures ∙ c.if-refuses.false);
    }

pub returns : goal.returns
returns g c =
    let t = c.args.self in
    let s = t.starts in
    let b = c.args.binding in
    let p = one_more _ _ _ _ _ c.push.ensures _ c.in_ok-entries.ensures.value in
    ap Ok (λ i. stacked s.items (p.items i) s.len (p.len i))
    ∙ add_stacked _ s.items t.entries.items s.len t.entries.len b c.if-self-eq0.false t.climbing p.room (omega (arith, p.room, t.places))
    ∙ sym (cond-false _ _ _ (sym c.refuses.ensures ∙ c.if-refuses.false))
