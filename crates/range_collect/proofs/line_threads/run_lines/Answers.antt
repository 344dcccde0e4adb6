use Rattle.std.proofs.Common.{◌≡◌, refl, Vec, length, ap, sym, ◌∙◌, subst, arith, slice_get, Some}
use Rattle.std.proofs.lemmas.Option.{same_Some, slice_get_within}
use Rattle.range_fixes.specs.Reading.{readings}
use Rattle.range_lemmas.proofs.Indices.{map_length, mapped, mapped_from, there_is}
use Rattle.range_collect.proofs.Results.{same_line_followed}
use Rattle.range_collect.proofs.line_threads.run_lines.Goals as goal

pub returns : goal.returns
returns g c =
    let handles = c.start_lines-started.new.handles in
    let started = c.in_ok-started.ensures in
    let shares = c.args.shares in
    let all = c.in_ok-all.all in
    let joined = c.in_ok-all.ensures in
    let shares_count = map_length (λ (share : Vec _ _). readings g.S.Read.remaining c.args.context.now.plan.unit share.items) shares.items in
    let all_count = map_length (λ (r : Vec _ _). r.items) all.items in
    let made = map_length (λ h. h.promise.sources.value) handles.items in
    let same = ap length started.sources in
    record {
      count = omega (arith, shares_count, all_count, made, same, joined.count, handles.ok.0, all.ok.0);
      each = λ index sources followed in_shares in_all.
          let r = mapped_from (λ (r : Vec _ _). r.items) all.items index followed in_all in
          let within = slice_get_within all.items index r.0 r.1 in
          let h = there_is handles.items index (omega (arith, within, joined.count, handles.ok.0, all.ok.0)) in
          let share = subst (λ l. slice_get l index ≡ Some h.0.promise.sources.value) started.sources
          (mapped (λ h. h.promise.sources.value) handles.items index h.0 h.1) in
          let told = same_Some _ sources (sym (mapped (λ (share : Vec _ _). readings g.S.Read.remaining c.args.context.now.plan.unit share.items) shares.items index
          h.0.promise.sources.value share) ∙ in_shares) in
          let stride = started.stride index h.0 h.1 in
          same_line_followed _ _ _ _ _ _ _ _ _ _ stride.0 (stride.1 ∙ (shares.ok.0 ∙ sym shares_count)) refl told r.2
          (rw stride.2 at (joined.followed index h.0 r.0 h.1 r.1));
    }
