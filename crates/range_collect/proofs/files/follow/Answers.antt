use Rattle.std.proofs.Common.{◌≡◌, ℕ, ◌+◌, ◌<◌, ◌≤◌, Vec, length, map, sym, ◌∙◌, subst, arith, vec_len}
use Rattle.std.proofs.lemmas.Option.{slice_get_within}
use Rattle.range_fixes.specs.Reading.{reading_from, readings}
use Rattle.range_options.specs.Limits.{file_limit}
use Rattle.range_collect.specs.Results.{IsFollowed}
use Rattle.range_collect.specs.Shares.{AreDealt, AreSharesOf}
use Rattle.range_collect.specs.declared.followed.Followed.{Followed}
use Rattle.range_collect.proofs.Deals.{dealt_map, dealt_sizes, share_sizes, sizes_alike}
use Rattle.range_lemmas.proofs.Indices.{all_of, map_length, map_map, mapped, paired_at}
use Rattle.range_collect.proofs.Results.{file_followed, shares_alike, same_line, same_over, same_share, same_under}
use Rattle.range_collect.proofs.files.follow.Given as given
use Rattle.range_collect.proofs.files.follow.Goals as goal
use Rattle.range_collect.proofs.files.follow.Goals.{In_ok-results}

pub follow_lines-requires-clause-sources : goal.follow_lines-requires-clause-sources
follow_lines-requires-clause-sources g c = λ κs live.
    let sources = c.args.sources in
    let shares = c.in_ok-shares.shares in
    let count = map_length (λ (v : Vec _ _). v.items) shares.items in
    all_of (λ (share : Vec _ _). (1 ≤ vec_len share) × (vec_len share ≤ file_limit)) shares.items (λ index share is.
    let sizes = share_sizes sources.items (map (λ (v : Vec _ _). v.items) shares.items) index share.items c.in_ok-shares.ensures.dealt
    (omega (arith, count, shares.ok.0, c.in_ok-shares.ensures.count, c.min.ensures, c.len-count.ensures, sources.ok.0))
    (mapped (λ (v : Vec _ _). v.items) shares.items index share is) in
    (omega (arith, share.ok.0, sizes.0), omega (arith, share.ok.0, sizes.1, sources.ok.0, c.requires.sources)))

-- what the sources tell was dealt to the shares
told : (g : given.Over) (c : In_ok-results g) → AreDealt (readings g.S.Read.remaining c.args.plan.unit c.args.sources.items)
    (map (λ (share : Vec _ _). readings g.S.Read.remaining c.args.plan.unit share.items) c.in_ok-shares.shares.items)
told g c =
    let tell = reading_from g.S.Read.remaining c.args.plan.unit in
    let shares = c.in_ok-shares.shares.items in
    subst (λ l. AreDealt (map tell c.args.sources.items) l) (map_map (map tell) (λ (v : Vec _ _). v.items) shares)
    (dealt_map tell c.args.sources.items (map (λ (v : Vec _ _). v.items) shares) c.in_ok-shares.ensures.dealt)

-- how many shares there are
share_count : (g : given.Over) (c : In_ok-results g) → length (map
    (λ (share : Vec _ _). readings g.S.Read.remaining c.args.plan.unit share.items) c.in_ok-shares.shares.items) ≡ c.min.result
share_count g c =
    let shares = c.in_ok-shares.shares in
    map_length (λ (share : Vec _ _). readings g.S.Read.remaining c.args.plan.unit share.items) shares.items ∙ (sym shares.ok.0 ∙ c.in_ok-shares.ensures.count)

some_shares : (g : given.Over) (c : In_ok-results g) → 0 < length
    (map (λ (share : Vec _ _). readings g.S.Read.remaining c.args.plan.unit share.items) c.in_ok-shares.shares.items)
some_shares g c =
    let count = share_count g c in
    omega (arith, count, c.min.ensures, c.len-count.ensures, c.requires.sources.0, c.args.plan.within.2.0)

-- the results of the lines are as long as the shares
result_sizes : (g : given.Over) (c : In_ok-results g) → AreSharesOf c.len-count.result
    (map (λ (v : Vec _ _). v.items) c.in_ok-results.results.items)
result_sizes g c =
    let tell = reading_from g.S.Read.remaining c.args.plan.unit in
    let sources = map tell c.args.sources.items in
    let shares = map (λ (share : Vec _ _). map tell share.items) c.in_ok-shares.shares.items in
    let results = map (λ (v : Vec _ _). v.items) c.in_ok-results.results.items in
    let count : length sources ≡ c.len-count.result = map_length tell c.args.sources.items ∙ (sym c.args.sources.ok.0 ∙ sym c.len-count.ensures) in
    subst (λ n. AreSharesOf n results) count
    (sizes_alike (length sources) shares results (shares_alike c.args.plan.block sources shares results c.in_ok-results.ensures)
    (dealt_sizes sources shares (told g c)))

pub merge-requires-clause-some : goal.merge-requires-clause-some
merge-requires-clause-some g c =
    let shares = c.in_ok-results.ensures.count in
    let results = map_length (λ (v : Vec _ _). v.items) c.in_ok-results.results.items in
    let some = some_shares g c in
    omega (arith, shares, results, some, c.in_ok-results.results.ok.0)

pub merge-requires-clause-sizes : goal.merge-requires-clause-sizes
merge-requires-clause-sizes g c = result_sizes g c

pub returns-clause-followed : goal.returns-clause-followed
returns-clause-followed g c =
    let at = (goal.at.returns-clause-followed g c).In_ok-results in
    let tell = reading_from g.S.Read.remaining c.args.plan.unit in
    let sources = map tell c.args.sources.items in
    let shares = map (λ (share : Vec _ _). map tell share.items) c.in_ok-shares.shares.items in
    let results = map (λ (v : Vec _ _). v.items) c.in_ok-results.results.items in
    let dealt = c.in_ok-all.ensures.dealt in
    let count : length sources ≡ length c.in_ok-all.all.items = map_length tell c.args.sources.items
    ∙ (sym c.args.sources.ok.0 ∙ (sym c.len-count.ensures ∙ (sym c.in_ok-all.ensures.count ∙ c.in_ok-all.all.ok.0))) in
    paired_at (λ file source (f : Followed _ g.A.Clone). IsFollowed source file c.args.plan.block f) 0 sources c.in_ok-all.all.items count
    (λ index source f in_sources in_all.
    let from_zero : index ≡ 0 + index = omega arith in
    subst (λ (n : ℕ). IsFollowed source n c.args.plan.block f) from_zero
    (file_followed c.args.plan.block sources shares results c.in_ok-all.all.items (told g at) dealt c.in_ok-results.ensures
    (some_shares g at) index source f in_sources in_all))

pub returns-clause-lines : goal.returns-clause-lines
returns-clause-lines g c = λ i j f f' in_i in_j.
    let at = (goal.at.returns-clause-lines g c).In_ok-results in
    let sources = readings g.S.Read.remaining c.args.plan.unit c.args.sources.items in
    let shares = map (λ (share : Vec _ _). readings g.S.Read.remaining c.args.plan.unit share.items) c.in_ok-shares.shares.items in
    let results = map (λ (v : Vec _ _). v.items) c.in_ok-results.results.items in
    let all = c.in_ok-all.all.items in
    let dealt = c.in_ok-all.ensures.dealt in
    let count : length all ≡ c.len-count.result = sym c.in_ok-all.all.ok.0 ∙ c.in_ok-all.ensures.count in
    let below_i : i < c.len-count.result = (let b = slice_get_within all i f in_i in omega (arith, b, count)) in
    let below_j : j < c.len-count.result = (let b = slice_get_within all j f' in_j in omega (arith, b, count)) in
    let is_min = share_count g at ∙ c.min.ensures in
    let workers = c.args.plan.workers in (
      λ same.
          same_line c.args.plan.block sources shares results all dealt c.in_ok-results.ensures (some_shares g at) i j f f' in_i in_j
          (same_over i j c.len-count.result workers (length shares) is_min below_i below_j same),
      λ line.
          same_under i j c.len-count.result workers (length shares) is_min below_i below_j
          (same_share c.args.plan.block sources shares results all dealt c.in_ok-results.ensures (some_shares g at) i j f f' in_i in_j line),
    )
