use Rattle.std.proofs.Common.{◌≡◌, arith, sym, List, ℕ, Option, Some}
use lib.IntN.{ℤ}
use Rattle.std.proofs.lemmas.Int.{ints}
use Rattle.split_times.specs.Iso.{IsoTime, time_behind_minute}
use Rattle.split_times.proofs.Parts.{behind_four}
use Rattle.split_times.proofs.iso.time_behind_minute.Goals as goal

same : (a b : ℤ) (ahead : Option ℤ) (xs ys : List ℕ) → a ≡ b → xs ≡ ys
    → (let t : IsoTime = record { second = a; ahead = ahead; decimals = xs } in Some t) ≡ (let t : IsoTime = record { second = b; ahead = ahead; decimals = ys } in Some t)
same a b ahead xs ys e f = cc (e, f)

pub returns-clause-value : goal.returns-clause-value
unfolding time_behind_minute
returns-clause-value c =
    rw (← c.in_ok-second.ensures.value, ← c.in_ok-ahead.ensures.value) (same _ _ _ _ _ (omega (arith, ints, c.in_ok-second.ensures.within)) (sym (behind_four c.args.seconds.now c.min.result c.min.ensures)))
