use Rattle.std.proofs.Common.{◌≡◌, ◌+◌, ◌-◌, ◌*◌, ◌^◌, ◌<◌, ◌≤◌, ◌∙◌, ℕ, zero, suc, length, ap, sym, arith}
use Rattle.std.proofs.Math.Nat.{mul-lt-mul_of_pos_right, pow-suc}
use Rattle.std.proofs.lemmas.Nat.{pow-add}
use Rattle.split_times.proofs.iso.nanoseconds.Goals as goal
use Rattle.split_times.proofs.iso.nanoseconds.Goals.{After-pow}

some : (k : ℕ) → 0 < 10 ^ k
some zero = omega arith
some (suc k) = omega (arith, some k, pow-suc 10 k)

-- fewer than ten to the k, each of which has the other digits of nine
few : (number k : ℕ) → number < 10 ^ k → k ≤ 9 → number * 10 ^ (9 - k) < 1000000000
few number k less nine =
    let whole : k + (9 - k) ≡ 9 = omega (arith, nine) in
    let product : 10 ^ k * 10 ^ (9 - k) ≡ 10 ^ 9 = sym (pow-add 10 k (9 - k)) ∙ ap (λ (i : ℕ). 10 ^ i) whole in
    omega (arith, product, mul-lt-mul_of_pos_right less (some (9 - k)))

fits : (c : After-pow) → c.in-Some.number * c.pow.result < 1000000000
fits c = rw c.pow.ensures (few c.in-Some.number (length c.args.decimals.now) c.in-Some.ensures.within c.requires)

pub overflow_mul-result : goal.overflow_mul-result
overflow_mul-result c = omega (arith, fits (goal.at.overflow_mul-result c).After-pow)

pub returns-in-Some-clause-within : goal.returns-in-Some-clause-within
returns-in-Some-clause-within c = fits (goal.at.returns-in-Some-clause-within c).After-pow
