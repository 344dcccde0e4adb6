use Rattle.std.proofs.Common.{◌≡◌, ◌<◌, ◌%◌, ◌∷◌, ℕ, List, map, length, set, slice_get, Some, refl, ap, sym, subst, ◌∙◌, arith, rules}
use Rattle.std.proofs.Math.Nat.{mod-lt}
use Rattle.std.proofs.lemmas.Option.{slice_get_read}
use Rattle.std.specs.Vec.Iter.{into_iter_items}
use Rattle.range_collect.proofs.Deals.{AreTaken, all_left, all_taken, left_more, map_set, next_member, some_left, taken_more}
use Rattle.range_lemmas.proofs.Indices.{map_length, mapped, there_is}
use Rattle.range_collect.proofs.shares.merge.Given as given
use Rattle.range_collect.proofs.shares.merge.Goals as goal
use Rattle.range_collect.proofs.shares.merge.Goals.{After-next}

pub loop-i-init : goal.loop-i-init
loop-i-init g c =
    let left = c.in_ok-left.ensures in
    let lines = ap length left in
    let one = map_length (λ v. into_iter_items v) c.in_ok-left.left.items in
    let two = map_length (λ v. v.items) c.args.shares.items in
    record {
      lines = omega (arith, lines, one, two, c.len-n.ensures, c.in_ok-left.left.ok.0, c.args.shares.ok.0);
      len = c.in_ok-all.ensures.len;
      room = omega (arith, c.in_ok-all.ensures.exact);
      left = all_left (map (λ v. into_iter_items v) c.in_ok-left.left.items) (map (λ v. v.items) c.args.shares.items) left;
      taken = λ j share below is. absurd (omega (arith, below));
    }

pub index_mut-requires : goal.index_mut-requires
index_mut-requires g c =
    let below : c.loop-i.i % c.len-n.result < c.len-n.result = mod-lt c.loop-i.i (omega (arith, c.len-n.ensures, c.requires.some)) in
    omega (arith, below, c.loop-i.invariant.lines)

-- what is left of the share that is next
here : (g : given.Over) (c : After-next g) → slice_get (map (λ v. into_iter_items v) c.loop-i.left.items)
    (c.loop-i.i % length (map (λ v. v.items) c.args.shares.items)) ≡ Some (into_iter_items c.index_mut.result.now)
here g c =
    let left = c.loop-i.left.items in
    let k : ℕ = c.loop-i.i % c.len-n.result in
    let some : 0 < c.len-n.result = omega (arith, c.len-n.ensures, c.requires.some) in
    let below : k < length left = (let b = mod-lt c.loop-i.i some in omega (arith, b, c.loop-i.invariant.lines, c.loop-i.left.ok.0)) in
    let n : c.len-n.result ≡ length (map (λ v. v.items) c.args.shares.items) = c.len-n.ensures
    ∙ (c.args.shares.ok.0 ∙ sym (map_length (λ v. v.items) c.args.shares.items)) in
    subst (λ m. slice_get (map (λ v. into_iter_items v) left) (c.loop-i.i % m) ≡ Some (into_iter_items c.index_mut.result.now)) n
    (mapped (λ v. into_iter_items v) left k c.index_mut.result.now
    (slice_get_read left (length left) k c.index_mut.result.now refl below c.index_mut.ensures.value))

some_shares : (g : given.Over) (c : After-next g) → 0 < length (map (λ v. v.items) c.args.shares.items)
some_shares g c = let count = map_length (λ v. v.items) c.args.shares.items in omega (arith, count, c.requires.some, c.args.shares.ok.0)

-- the share that is next
share : (g : given.Over) (c : After-next g) → (share : List _) × (slice_get (map (λ v. v.items) c.args.shares.items)
    (c.loop-i.i % length (map (λ v. v.items) c.args.shares.items)) ≡ Some share)
share g c = there_is (map (λ v. v.items) c.args.shares.items) _ (mod-lt c.loop-i.i (some_shares g c))

pub unreachable-requires : goal.unreachable-requires
unreachable-requires g c =
    let at = (goal.at.unreachable-requires g c).After-next in
    let s = share g at in
    let some = some_left c.loop-i.i c.args.count (map (λ v. into_iter_items v) c.loop-i.left.items) (map (λ v. v.items) c.args.shares.items)
    (into_iter_items c.index_mut.result.now) s.0 c.loop-i.invariant.left c.requires.sizes c.loop-i-test.true (some_shares g at) (here g at) s.1 in
    let none : length (into_iter_items c.index_mut.result.now) ≡ 0 = search rules in
    omega (arith, some, none)

pub loop-i-preserved : goal.loop-i-preserved
loop-i-preserved g c =
    let at = (goal.at.loop-i-preserved g c).After-next in
    let inv = c.loop-i.invariant in
    let shares = map (λ v. v.items) c.args.shares.items in
    let left = map (λ v. into_iter_items v) c.loop-i.left.items in
    let s = share g at in
    let x = c.in-Some.member in
    let rest = into_iter_items c.next.new.self in
    let now : slice_get left (c.loop-i.i % length shares) ≡ Some (x ∷ rest) = here g at ∙ ap Some c.in-Some.ensures.items in
    let n : c.len-n.result ≡ length shares = c.len-n.ensures ∙ (c.args.shares.ok.0 ∙ sym (map_length (λ v. v.items) c.args.shares.items)) in
    let set_is : map (λ v. into_iter_items v) (set c.loop-i.left.items (c.loop-i.i % c.len-n.result) c.next.new.self)
    ≡ set left (c.loop-i.i % length shares) rest =
    map_set (λ v. into_iter_items v) c.loop-i.left.items (c.loop-i.i % c.len-n.result) c.next.new.self
    ∙ ap (λ m. set left (c.loop-i.i % m) rest) n in
    let count : length c.loop-i.all.items ≡ c.loop-i.i = omega (arith, inv.len, c.loop-i.all.ok.0) in
    record {
      lines = inv.lines;
      len = omega (arith, inv.len, c.push_reserved.ensures.len);
      room = omega (arith, inv.room, c.push_reserved.ensures.capacity);
      left = rw set_is (left_more c.loop-i.i left shares x rest s.0 inv.left (some_shares g at) now s.1);
      taken = rw c.push_reserved.ensures.items (taken_more c.loop-i.i c.loop-i.all.items shares x count inv.taken
          (λ other is. next_member c.loop-i.i left shares x rest other inv.left (some_shares g at) now is));
    }

pub returns-clause-dealt : goal.returns-clause-dealt
returns-clause-dealt g c =
    let inv = c.loop-i.invariant in
    let end : c.loop-i.i ≡ c.args.count = omega (arith, c.loop-i-test.false, c.loop-i.auto.i-end) in
    all_taken c.args.count c.loop-i.all.items (map (λ v. v.items) c.args.shares.items) (omega (arith, end, inv.len, c.loop-i.all.ok.0))
    (subst (λ i. AreTaken i c.loop-i.all.items (map (λ v. v.items) c.args.shares.items)) end inv.taken) c.requires.sizes
