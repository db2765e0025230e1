use Rattle.std.proofs.Common.{refl}
use Rattle.nas_qos.proofs.Copies.{one_copied}
use Rattle.nas_qos.proofs.filter.append.Goals as goal

pub loop-filter-preserved : goal.loop-filter-preserved
loop-filter-preserved c =
    one_copied c.args.items.now.items c.args.filters.now c.loop-filter.items.items c.push_copy.new.items.items c.loop-filter.filter-index c.filter-item.result c.filter-item.result c.loop-filter-test.true c.filter-item.is c.loop-filter.invariant refl c.in_ok-push_copy.ensures
