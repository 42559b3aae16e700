use Rattle.std.proofs.Common.{◌≡◌, length, sym, ap, ◌∙◌, arith}
use Rattle.std.specs.List.{between}
use Rattle.std.specs.Option.{option_or}
use Rattle.scopes.specs.Rows.{in_row, nearest}
use Rattle.scopes.specs.Stacks.{stacked}
use Rattle.scopes.proofs.Searching.{Innermost, innermost}
use Rattle.scopes.proofs.tables.Scopes.nearest.Given as given
use Rattle.scopes.proofs.tables.Scopes.nearest.Goals as goal
use Rattle.scopes.proofs.tables.Scopes.nearest.Goals.{In-Some}

-- the row that this step looks at
row : (g : given.Over) (c : In-Some g) → Innermost g.row.BUILT_IN c.args.self.now.starts.items c.args.self.now.entries.items c.loop-row.row-iterator.iter.iter.rest.now c.next.new.self.iter.iter.rest.now c.in-Some.field-0-1.now c.loop-row.end c.args.prefix
row g c =
    let i = c.loop-row.invariant in
    innermost _ _ c.args.self.now.entries.items _ _ _ _ c.args.prefix i.few c.in-Some.ensures.steps.1.0 i.front i.climbing

pub offset_bounds-self-start : goal.offset_bounds-self-start
offset_bounds-self-start g c =
    let i = c.loop-row.invariant in
    let r = row g (goal.at.offset_bounds-self-start g c).In-Some in
    omega (arith, r.low, i.within)

pub slice_bounds-find_in-count : goal.slice_bounds-find_in-count
slice_bounds-find_in-count g c =
    let i = c.loop-row.invariant in
    let r = row g (goal.at.slice_bounds-find_in-count g c).In-Some in r.low

pub slice_bounds-find_in-start : goal.slice_bounds-find_in-start
slice_bounds-find_in-start g c =
    let i = c.loop-row.invariant in
    let r = row g (goal.at.slice_bounds-find_in-start g c).In-Some in r.low

pub returns-in-Some-find_in : goal.returns-in-Some-find_in
returns-in-Some-find_in g c =
    let t = c.args.self.now in
    let p = c.args.prefix in
    let i = c.loop-row.invariant in
    let k = length c.next.new.self.iter.iter.rest.now in
    let number : c.in-Some.row ≡ k = omega (arith, c.in-Some.ensures.steps.1.1, i.counted) in
    let r = row g (goal.at.returns-in-Some-find_in g c).In-Some in
    let around = nearest (stacked t.starts.items t.entries.items k c.in-Some.field-0-1.now) p in
    ap (λ o. option_or o around) (c.in-Some-find_in.ensures ∙ ap (λ n. in_row n 0 (between c.in-Some.field-0-1.now c.loop-row.end t.entries.items) p) number) ∙ sym r.gives ∙ i.same

pub loop-row-preserved : goal.loop-row-preserved
loop-row-preserved g c =
    let t = c.args.self.now in
    let p = c.args.prefix in
    let i = c.loop-row.invariant in
    let k = length c.next.new.self.iter.iter.rest.now in
    let number : c.in-Some.row ≡ k = omega (arith, c.in-Some.ensures.steps.1.1, i.counted) in
    let r = row g (goal.at.loop-row-preserved g c).In-Some in
    let around = nearest (stacked t.starts.items t.entries.items k c.in-Some.field-0-1.now) p in
    record {
      counted = c.in-Some.ensures.steps.0 ∙ i.counted;
      few = r.few;
      front = r.begins;
      climbing = r.on;
      within = omega (arith, r.low, i.within);
      same =
          ap (λ o. option_or o around) (c.in_default.ensures ∙ ap (λ n. in_row n 0 (between c.in-Some.field-0-1.now c.loop-row.end t.entries.items) p) number)
          ∙ sym r.gives
          ∙ i.same;
    }
