use Rattle.std.proofs.Common.{◌≡◌, ◌≤◌, All, length, arith, refl, ap, ◌∙◌, subst, vec_len, inl, inr, Vec}
use Rattle.std.proofs.lemmas.List.Elements.{All-head, All-rest}
use Rattle.std.proofs.lemmas.Option.{slice_get_within}
use Rattle.range_options.specs.Limits.{file_limit}
use Rattle.range_collect.specs.declared.stride.Stride.{Stride}
use Rattle.range_lemmas.proofs.Indices.{before_or_last, moved}
use Rattle.range_collect.proofs.line_threads.start_lines.Goals as goal

pub loop-sources-init : goal.loop-sources-init
loop-sources-init g c =
    let all = c.into_iter-sources-iterator.ensures.into_iter_gives.0 in
    let none = c.requires.room.0 in
    let count = ap length all in
    let zero = ap length none in
    record {
      sources = rw (none, all) refl;
      stride = λ index h is. let within = slice_get_within _ index h is in absurd (omega (arith, within, zero));
      sizes = rw all c.requires.sources;
      first = omega (arith, zero, c.args.handles.now.ok.0);
      step = omega (arith, c.args.shares.ok.0);
      room = c.requires.room.1;
      count = omega (arith, count, zero, c.args.handles.now.ok.0, c.args.shares.ok.0);
    }

pub start_line-requires-clause-some : goal.start_line-requires-clause-some
start_line-requires-clause-some g c = λ κs live.
    let source = c.in-Some.ensures.steps.0 in
    All-head (λ (share : Vec _ _). (1 ≤ vec_len share) × (vec_len share ≤ file_limit)) _ _
    (subst (λ l. All (λ (share : Vec _ _). (1 ≤ vec_len share) × (vec_len share ≤ file_limit)) l) source c.loop-sources.invariant.sizes)

pub loop-sources-preserved : goal.loop-sources-preserved
loop-sources-preserved g c =
    let inv = c.loop-sources.invariant in
    let hs = c.loop-sources.handles.items in
    let h = c.in_ok-handle.handle in
    let made = c.in_ok-handle.ensures in
    let items = c.push_reserved.ensures.items in
    let source = c.in-Some.ensures.steps.0 in
    let sources = ap length source in
    record {
      sources = rw items (moved _ hs h c.in-Some.sources _ _ _ inv.sources source made.0);
      stride = rw items (λ index v is. elim (before_or_last hs v h index is) [
        | inl before ↦ inv.stride index v before
        | inr last ↦ (let index_is : c.loop-sources.first ≡ index = (let at = last.0 in omega (arith, at, inv.first, c.loop-sources.handles.ok.0)) in
            subst (λ x. (x.promise.stride.first ≡ index) × (x.promise.stride.step ≡ vec_len c.args.shares) × (x.promise.plan ≡ c.args.context.now.plan)) last.1
            (ap (λ (n : Stride). n.first) made.1 ∙ index_is, ap (λ (n : Stride). n.step) made.1 ∙ inv.step, made.2))
      ]);
      sizes = All-rest (λ (share : Vec _ _). (1 ≤ vec_len share) × (vec_len share ≤ file_limit)) _ _ _ source inv.sizes;
      first = omega (arith, inv.first, c.push_reserved.ensures.len);
      step = inv.step;
      room = omega (arith, inv.room, c.push_reserved.ensures.capacity);
      count = omega (arith, sources, inv.count, c.push_reserved.ensures.len);
    }
