use Rattle.std.proofs.Common.{arith}
use Rattle.names.proofs.Seeking.{front_at}
use Rattle.names.proofs.store.TextStore.find.Goals as goal

pub slice_bounds-eq-end : goal.slice_bounds-eq-end
slice_bounds-eq-end c =
    let h = (front_at _ _ _ _ _ c.deref-end-items.ensures.value c.loop-i-test.true c.loop-i.invariant.0).high in
    omega (arith, c.deref.ensures.len)
