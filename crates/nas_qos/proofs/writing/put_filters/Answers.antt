use Rattle.nas_qos.specs.Filters.{filter_octets}
use Rattle.nas_qos.proofs.RoomLaws.{room_for}
use Rattle.nas_qos.proofs.writing.put_filters.Goals as goal

pub put_filter-requires : goal.put_filter-requires
put_filter-requires c =
    room_for (filter_octets c.args.code) c.args.out.now.items c.loop-filter.out.items c.args.filters.now c.loop-filter.filter-index 2048 c.filter-item.result c.loop-filter.invariant.told c.loop-filter.invariant.room c.loop-filter-test.true c.filter-item.is
