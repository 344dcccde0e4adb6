use Rattle.std.proofs.Common.{◌≡◌, [], Vec, arith, rules}
use Rattle.std.proofs.lemmas.List.Elements.{All-push}
use Rattle.split_tracks.proofs.tracks.empty_tracks.Goals as goal

pub loop-made-preserved : goal.loop-made-preserved
loop-made-preserved g c =
    let inv = c.loop-made.invariant in
    record {
      len = omega (arith, inv.len, c.push_reserved.ensures.len);
      room = omega (arith, inv.room, c.push_reserved.ensures.capacity);
      empty = rw c.push_reserved.ensures.items (All-push (λ (track : Vec _ _). track.items ≡ []) c.loop-made.tracks.items c.new.result inv.empty
          (search rules));
    }
