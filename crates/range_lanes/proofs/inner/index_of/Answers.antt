use Rattle.std.proofs.Common.{◌≡◌, ℕ, ◌+◌, ◌*◌, ◌/◌, ◌%◌, ap, sym, ◌∙◌, arith}
use Rattle.std.proofs.Math.Nat.{mul-add, mul_assoc}
use Rattle.range_lanes.specs.declared.inner.TheConstants.{INNER_CORNERS}
use Rattle.range_lanes.proofs.inner.index_of.Goals as goal

-- a product with n, by whole parts of it and the rest
parts_and_rest : (i n : ℕ) → i * n ≡ i * (n / INNER_CORNERS) * INNER_CORNERS + i * (n % INNER_CORNERS)
parts_and_rest i n =
    let parts : n ≡ n / INNER_CORNERS * INNER_CORNERS + n % INNER_CORNERS = omega arith in
    ap (λ (k : ℕ). i * k) parts ∙ mul-add i (n / INNER_CORNERS * INNER_CORNERS) (n % INNER_CORNERS) ∙ ap (λ (k : ℕ). k + i * (n % INNER_CORNERS)) (sym (mul_assoc i (n / INNER_CORNERS) INNER_CORNERS))

pub returns : goal.returns
returns c = omega (arith, parts_and_rest c.args.inner c.args.corners)
