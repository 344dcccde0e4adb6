use Rattle.std.proofs.Common.{rules}
use Rattle.std.proofs.lemmas.List.Sorted.{answers_always, IsNonDecreasingBy-from_sort}
use Rattle.split_tracks.specs.Tracks.{time_of}
use Rattle.split_tracks.proofs.TimeOrder.{in_order-from_sort}
use Rattle.split_tracks.proofs.tracks.put_in_order.Goals as goal

pub returns : goal.returns
returns g c =
    let keys = answers_always _ _ _ (λ f a r next called. search rules) in
    in_order-from_sort _ _ (IsNonDecreasingBy-from_sort time_of _ (c.in_ok-sort_by_key.ensures.sorted time_of keys))
    (c.in_ok-sort_by_key.ensures.stable time_of keys)
