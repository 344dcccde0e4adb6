use Rattle.std.proofs.Common.{◌≡◌, arith, sym, subst, Option, Some, None, MatchOption}
use Rattle.std.proofs.lemmas.Int.{ints}
use Rattle.split_times.specs.Iso.{IsoTime}
use Rattle.split_times.proofs.Parts.{behind_day_is}
use Rattle.split_times.proofs.iso.time_behind_day.Goals as goal

pub time_behind_minute-requires : goal.time_behind_minute-requires
time_behind_minute-requires c = (omega (arith, ints, c.in_ok-clock-2.ensures.within), omega (arith, ints, c.in_ok-clock-2.ensures.within))

pub returns-clause-value : goal.returns-clause-value
returns-clause-value c =
    let cuts = c.in_ok-clock.ensures.cases in
    let whole = behind_day_is c.args.day _ c.args.behind.now c.in_ok-clock.clock.now c.in_ok-clock.rest.now c.split_at.result.0.now c.split_at.result.1.now c.in_ok-clock-2.clock c.offset_place.result
    cuts.0 cuts.1 cuts.2 c.in_ok-clock-2.ensures.value c.offset_place.ensures.value c.split_at.ensures.front c.split_at.ensures.back
    (omega (arith, ints, c.in_ok-clock-2.ensures.within)) in
    let P : Option IsoTime → Type 0 = λ t. MatchOption c.time_behind_minute.result (t ≡ None) (λ time. t ≡ (let s : IsoTime = record { second = time.second; ahead = time.ahead; decimals = time.decimals.now } in Some s)) in
    subst P (sym whole) c.time_behind_minute.ensures.value
