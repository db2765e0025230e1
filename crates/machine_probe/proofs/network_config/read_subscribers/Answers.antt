-- The next word gives one more subscriber of this network, whose SUPI is new.
use Rattle.std.proofs.Common.{◌∙◌, List, [], ◌∷◌, refl, ap, sym}
use Rattle.std.proofs.lemmas.List.{length-append}
use Rattle.nas_network.specs.Config.{SubscriberValues, is_subscriber}
use Rattle.nas_network.proofs.Growing.{are_new-push, network-push}
use Rattle.machine_probe.proofs.network_config.read_subscribers.Goals as goal

pub loop-word-preserved : goal.loop-word-preserved
loop-word-preserved c =
    let pushed = c.in_ok-push.ensures in
    let new = sym (ap (λ (ss : List SubscriberValues). is_subscriber c.in_ok-subscriber.subscriber.supi ss) c.as_slice.ensures.value) ∙ c.in_ok-subscriber.ensures.fresh in
    record {
      count = rw (pushed, length-append c.loop-word.items.items (c.in_ok-subscriber.subscriber ∷ []), c.loop-word.invariant.count) refl;
      network = rw pushed (network-push c.args.plmn.now c.loop-word.items.items c.in_ok-subscriber.subscriber c.loop-word.invariant.network c.in_ok-subscriber.ensures.network);
      distinct = rw pushed (are_new-push [] c.loop-word.items.items c.in_ok-subscriber.subscriber c.loop-word.invariant.distinct new);
    }
