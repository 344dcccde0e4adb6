use Rattle.std.proofs.Common.{◌≡◌, ◌<◌, ◌%◌, ◌++◌, ◌∷◌, [], ℕ, map, length, set, slice_get, Some, refl, ap, sym, subst, ◌∙◌, arith, inl, append_assoc, rules}
use Rattle.std.proofs.Math.Nat.{mod-lt}
use Rattle.std.proofs.lemmas.List.{append-nil, length_push, nil_from_length}
use Rattle.std.proofs.lemmas.Option.{slice_get_read}
use Rattle.range_collect.specs.Shares.{AreDealt}
use Rattle.range_collect.proofs.Deals.{dealt_more, map_set, none_dealt}
use Rattle.range_lemmas.proofs.Indices.{map_length, mapped}
use Rattle.range_collect.proofs.shares.deal.Goals as goal

pub loop-i-init : goal.loop-i-init
loop-i-init g c =
    let made = c.into_iter-i-iterator.ensures.into_iter_gives in
    let start = c.enumerate-i-items.ensures in
    let none : c.into_iter-i-iterator.result.count ≡ 0 = ap (λ e. e.count) made ∙ start.count in
    let whole = c.into_iter.ensures.len in
    let left = start.remaining in
    record {
      can = rw made (tt, tt, inl (omega (arith, start.count, left, whole, c.args.all.small)));
      finite = tt;
      left = rw made (omega (arith, start.count, left, whole));
      count = c.in_ok-shares.ensures.count;
      dealt = (
        [],
        rw (made, start.source) (sym c.into_iter.ensures.rest),
        sym none,
        none_dealt (λ share. share.items) c.in_ok-shares.shares.items
            c.in_ok-shares.ensures.empty,
      );
    }

pub index_mut-requires : goal.index_mut-requires
index_mut-requires g c =
    let below : c.in-Some.i % c.args.count < c.args.count = mod-lt c.in-Some.i c.requires in
    omega (arith, below, c.loop-i.invariant.count)

pub loop-i-preserved : goal.loop-i-preserved
loop-i-preserved g c =
    let inv = c.loop-i.invariant in
    let steps = c.in-Some.ensures.steps in
    let done = inv.dealt.0 in
    let x = c.in-Some.member in
    let shares = c.loop-i.shares.items in
    let share = c.index_mut.result.now in
    let k : ℕ = c.in-Some.i % c.args.count in
    let number : c.in-Some.i ≡ length done = steps.1 ∙ sym inv.dealt.2 in
    let n : length (map (λ v. v.items) shares) ≡ c.args.count = map_length (λ v. v.items) shares ∙ (sym c.loop-i.shares.ok.0 ∙ inv.count) in
    let below : k < length shares = (let b = mod-lt c.in-Some.i c.requires in omega (arith, b, inv.count, c.loop-i.shares.ok.0)) in
    let here : slice_get shares k ≡ Some share = slice_get_read shares (length shares) k share refl below c.index_mut.ensures.value in
    let at : slice_get (map (λ v. v.items) shares) (length done % length (map (λ v. v.items) shares)) ≡ Some share.items =
    ap (slice_get (map (λ v. v.items) shares)) (rw (n, number) refl) ∙ mapped (λ v. v.items) shares k share here in
    let pushed : c.push.new.self.items ≡ share.items ++ x ∷ [] = search rules in
    let same : map (λ v. v.items) (set shares k c.push.new.self)
    ≡ set (map (λ v. v.items) shares) (length done % length (map (λ v. v.items) shares)) (share.items ++ x ∷ []) =
    map_set (λ v. v.items) shares k c.push.new.self ∙ (ap (λ l. set (map (λ v. v.items) shares) k l) pushed
    ∙ ap (λ j. set (map (λ v. v.items) shares) j (share.items ++ x ∷ [])) (rw (n, number) refl)) in
    record {
      can = (tt, tt, inl (omega (arith, inv.left, steps.0.1, steps.2, c.args.all.small)));
      finite = tt;
      left = omega (arith, inv.left, steps.0.1, steps.2);
      count = inv.count;
      dealt = (
        done ++ x ∷ [],
        inv.dealt.1 ∙ (ap (λ l. done ++ l) steps.0.0 ∙ sym (append_assoc done (x ∷ []) _)),
        (let more = length_push done x in omega (arith, more, inv.dealt.2, steps.2)),
        subst (λ l. AreDealt (done ++ x ∷ []) l) (sym same) (dealt_more done x (map (λ v. v.items) shares) share.items inv.dealt.3
            (omega (arith, n, c.requires)) at),
      );
    }

pub returns-clause-dealt : goal.returns-clause-dealt
returns-clause-dealt g c =
    let inv = c.loop-i.invariant in
    let left = nil_from_length _ (search rules) in
    let all : c.args.all.items ≡ inv.dealt.0 = inv.dealt.1 ∙ (ap (λ l. inv.dealt.0 ++ l) left ∙ append-nil inv.dealt.0) in
    subst (λ l. AreDealt l (map (λ v. v.items) c.loop-i.shares.items)) (sym all) inv.dealt.3
