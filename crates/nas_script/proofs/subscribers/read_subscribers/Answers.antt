-- The next table gives one more subscriber of this network, whose SUPI is new.
use Rattle.std.proofs.Common.{◌≡◌, ◌∙◌, ◌+◌, List, [], ◌∷◌, map, drop, ap, refl, sym}
use Rattle.std.proofs.lemmas.List.{drop_more, length-append}
use Rattle.toml.specs.View.{view}
use Rattle.toml.specs.declared.value.Value.{Value}
use Rattle.nas_network.specs.Config.{SubscriberValues, is_subscriber}
use Rattle.nas_script.specs.Subscribers.{subscriber_in, subscribers_in}
use Rattle.nas_network.proofs.Growing.{are_new-push, network-push}
use Rattle.nas_script.proofs.ConfigLaws.{subscribers_in-more}
use Rattle.nas_script.proofs.subscribers.read_subscribers.Goals as goal

pub loop-table-preserved : goal.loop-table-preserved
loop-table-preserved c =
    let one = c.in_ok-subscriber.subscriber in
    let fact = c.in_ok-subscriber.ensures.fact in
    let pushed = c.in_ok-push.ensures in
    let before = c.as_slice.ensures.value in
    let new = sym (ap (λ (ss : List SubscriberValues). is_subscriber one.supi ss) before) ∙ fact.1 in
    let read =
    sym (ap (λ (ss : List SubscriberValues). subscriber_in c.args.plmn.now ss (view c.table-item.result)) before) ∙ c.in_ok-subscriber.ensures.value in
    let front : drop c.loop-table.table-index c.args.tables.now ≡ c.table-item.result ∷ drop (c.loop-table.table-index + 1) c.args.tables.now =
    drop_more c.args.tables.now c.loop-table.table-index c.table-item.result c.loop-table-test.true
    ∙ ap (λ (v : Value). v ∷ drop (c.loop-table.table-index + 1) c.args.tables.now) (sym c.table-item.is) in
    record {
      count = rw (pushed, length-append c.loop-table.items.items (one ∷ []), c.loop-table.invariant.count) refl;
      network = rw pushed (network-push c.args.plmn.now c.loop-table.items.items one c.loop-table.invariant.network fact.0);
      distinct = rw pushed (are_new-push [] c.loop-table.items.items one c.loop-table.invariant.distinct new);
      told =
          rw pushed
          (subscribers_in-more c.args.plmn.now c.loop-table.items.items (view c.table-item.result) (map view (drop (c.loop-table.table-index + 1) c.args.tables.now)) one read
          ∙ ap (λ (vs : List Value). subscribers_in c.args.plmn.now c.loop-table.items.items (map view vs)) (sym front)
          ∙ c.loop-table.invariant.told);
    }
