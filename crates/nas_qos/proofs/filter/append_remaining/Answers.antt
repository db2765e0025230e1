use Rattle.std.proofs.Common.{sym, ◌∙◌, ap}
use Rattle.nas_qos.specs.Filters.{PacketFilter, names}
use Rattle.nas_qos.proofs.FilterLists.{one_gone, one_kept}
use Rattle.nas_qos.proofs.filter.append_remaining.Goals as goal

pub loop-filter-preserved-then-names : goal.loop-filter-preserved-then-names
loop-filter-preserved-then-names c =
    one_gone c.args.gone.now c.args.items.now.items c.args.filters.now c.loop-filter.items.items c.loop-filter.filter-index c.filter-item.result c.loop-filter-test.true c.filter-item.is
    (ap (λ (f : PacketFilter). names f.id c.args.gone.now) (sym c.filter.view_is) ∙ sym c.if-names.ensures) c.loop-filter.invariant

pub loop-filter-preserved : goal.loop-filter-preserved
loop-filter-preserved c =
    one_kept c.args.gone.now c.args.items.now.items c.args.filters.now c.loop-filter.items.items c.push_copy.new.items.items c.loop-filter.filter-index c.filter-item.result c.loop-filter-test.true c.filter-item.is
    (ap (λ (f : PacketFilter). names f.id c.args.gone.now) (sym c.filter.view_is) ∙ sym c.if-names.ensures) c.loop-filter.invariant c.in_ok-push_copy.ensures
