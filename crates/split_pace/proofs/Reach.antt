-- When a fix is within reach, by whole units and a rest of millionths.
use Rattle.std.proofs.Common.{◌≡◌, ℕ, ◌+◌, ◌*◌, ◌-◌, ◌/◌, ◌%◌, ◌<◌, ◌≤◌, true, false, leb, ◌^◌, ◌-ℤ◌, unsigned_abs, sym, ap, ◌∙◌, arith, inl, inr}
use Rattle.std.proofs.Math.Nat.{le-div_iff_mul-le, mul-le-mul}
use Rattle.std.proofs.lemmas.Bool.{cases_Bool, cases_lt, le-leb, leb-false, leb-true, lt-leb}
use Rattle.std.proofs.lemmas.Nat.{mul-lt}
use Rattle.range_plane.specs.declared.scale.Scale.{Scale}
use Rattle.split_tracks.specs.declared.fate.Entry.{Entry}
use Rattle.split_pace.specs.declared.speed.Speed.{Speed}
use Rattle.split_pace.specs.Speed.{is_reached, is_within, reach_in, reach_of, square}

-- a square is that of a part of a number, and what is over
square_sum : (a d : ℕ) → square (a + d) ≡ square a + d * (d + 2 * a)
square_sum a d = omega arith

-- the square of the reach
reach_square : (q r : ℕ) → square (1_000_000 * q + r) ≡ square 1_000_000 * square q + r * (2_000_000 * q + r)
reach_square q r = omega arith

-- less than the easting alone is too little
pub too_far : (q r a b : ℕ) → r < 1_000_000 → q < a → is_within (1_000_000 * q + r) a b ≡ false
too_far q r a b rest less =
    let side : 1_000_000 * q + r < 1_000_000 * a = omega (arith, rest, less) in
    let squares = mul-lt (1_000_000 * q + r) (1_000_000 * q + r) (1_000_000 * a) (1_000_000 * a) side side in
    lt-leb _ _ (omega (arith, squares))

-- as much as the easting and the northing together is enough
pub near_enough : (q r a b : ℕ) → a + b ≤ q → is_within (1_000_000 * q + r) a b ≡ true
near_enough q r a b more =
    let squares : square (a + b) ≤ square q = mul-le-mul more more in
    le-leb _ _ (omega (arith, squares, reach_square q r))

-- where the square of the northing is no more than what the easting leaves, the fix is within reach
pub spared : (q r a d b : ℕ) → q ≡ a + d → square b ≤ d * (d + 2 * a) → is_within (1_000_000 * q + r) a b ≡ true
spared q r a d b is less =
    let whole : square q ≡ square a + d * (d + 2 * a) = ap square is ∙ square_sum a d in
    le-leb _ _ (omega (arith, whole, less, reach_square q r))

-- else by what it is more
pub over : (q r a d b : ℕ) → q ≡ a + d → d * (d + 2 * a) ≤ square b
    → leb (square b - d * (d + 2 * a)) (r * (2_000_000 * q + r) / 1_000_000_000_000) ≡ is_within (1_000_000 * q + r) a b
over q r a d b is more =
    let whole : square q ≡ square a + d * (d + 2 * a) = ap square is ∙ square_sum a d in
    let x = r * (2_000_000 * q + r) in
    let quotient = le-div_iff_mul-le {k = 1_000_000_000_000} {x = square b - d * (d + 2 * a)} {y = x} (omega arith) in
    elim (cases_Bool (leb (square b - d * (d + 2 * a)) (x / 1_000_000_000_000))) [
      | inl fits ↦
          let product = quotient.0 (leb-true _ _ fits) in
          fits ∙ sym (le-leb _ _ (omega (arith, whole, more, product, reach_square q r)))
      | inr more_over ↦
          elim (cases_Bool (is_within (1_000_000 * q + r) a b)) [
            | inr far ↦ more_over ∙ sym far
            | inl near ↦
                let squares = leb-true _ _ near in
                let product : (square b - d * (d + 2 * a)) * 1_000_000_000_000 ≤ x = omega (arith, whole, more, squares, reach_square q r) in
                let small = quotient.1 product in
                absurd (omega (arith, small, leb-false _ _ more_over))
          ]
    ]

-- the same of a product that whole units and the easting make
spare_is : (q a d : ℕ) → q ≡ a + d → (q - a) * (q + a) ≡ d * (d + 2 * a)
spare_is q a d is =
    let less : a + d - a ≡ d = omega arith in
    ap (λ n. (n - a) * (n + a)) is ∙ (ap (λ n. n * (a + d + a)) less ∙ omega arith)

pub spared_by : (q r a b spare : ℕ) → a ≤ q → spare ≡ (q - a) * (q + a) → square b ≤ spare → is_within (1_000_000 * q + r) a b ≡ true
spared_by q r a b spare least is less =
    let d = q - a in
    let sum : q ≡ a + d = omega (arith, least) in
    let product = spare_is q a d sum in
    spared q r a d b sum (omega (arith, product, is, less))

pub over_by : (q r a b spare : ℕ) → a ≤ q → spare ≡ (q - a) * (q + a) → spare ≤ square b
    → leb (square b - spare) (r * (2_000_000 * q + r) / 1_000_000_000_000) ≡ is_within (1_000_000 * q + r) a b
over_by q r a b spare least is more =
    let d = q - a in
    let sum : q ≡ a + d = omega (arith, least) in
    let product : spare ≡ d * (d + 2 * a) = is ∙ spare_is q a d sum in
    ap (λ n. leb (square b - n) (r * (2_000_000 * q + r) / 1_000_000_000_000)) product ∙ over q r a d b sum (omega (arith, product, more))

-- a square of a number of 64 bits has 128 bits
pub square_fits : (b : ℕ) → b < 2 ^ 64 → square b < 2 ^ 128
square_fits b small = mul-lt b b (2 ^ 64) (2 ^ 64) small small

-- what the rest adds has 128 bits
pub rest_fits : (q r : ℕ) → r < 1_000_000 → q < 2 ^ 65 → r * (2_000_000 * q + r) < 2 ^ 128
rest_fits q r rest small =
    let side : 2_000_000 * q + r < 2 ^ 87 = omega (arith, rest, small) in
    let product = mul-lt r (2_000_000 * q + r) 1_000_000 (2 ^ 87) rest side in
    omega (arith, product)

-- it is no more than what takes more
pub wide : (b product : ℕ) → b < 2 ^ 64 → (product < 2 ^ 128 → ⊥) → square b ≤ product
wide b product small more = elim (cases_lt product (2 ^ 128)) [
  | inl less ↦ absurd (more less)
  | inr not_less ↦ omega (arith, not_less, square_fits b small)
]

-- a reach is its whole units and its rest
parts_of : (reach : ℕ) → 1_000_000 * (reach / 1_000_000) + reach % 1_000_000 ≡ reach
parts_of reach = omega arith

pub too_far_by : (reach a b : ℕ) → reach / 1_000_000 < a → is_within reach a b ≡ false
too_far_by reach a b less =
    sym (ap (λ n. is_within n a b) (parts_of reach)) ∙ too_far (reach / 1_000_000) (reach % 1_000_000) a b (omega arith) less

pub near_enough_by : (reach a b : ℕ) → a + b ≤ reach / 1_000_000 → is_within reach a b ≡ true
near_enough_by reach a b more =
    sym (ap (λ n. is_within n a b) (parts_of reach)) ∙ near_enough (reach / 1_000_000) (reach % 1_000_000) a b more

-- a reach of 2^128 or more is as far as any fix
pub far_enough : (reach a b : ℕ) → a < 2 ^ 64 → b < 2 ^ 64 → (reach < 2 ^ 128 → ⊥) → is_within reach a b ≡ true
far_enough reach a b east north more = elim (cases_lt reach (2 ^ 128)) [
  | inl less ↦ absurd (more less)
  | inr not_less ↦ near_enough_by reach a b (omega (arith, not_less, east, north))
]

-- the same between two entries
pub far_reached : (unit : Scale) (speed : Speed) (before entry : Entry) (a b seconds : ℕ) → a ≡ unsigned_abs (entry.easting -ℤ before.easting)
    → b ≡ unsigned_abs (entry.northing -ℤ before.northing) → seconds ≡ entry.moment.second - before.moment.second → a < 2 ^ 64 → b < 2 ^ 64
    → (reach_in unit speed seconds < 2 ^ 128 → ⊥) → true ≡ is_reached unit speed before entry
far_reached unit speed before entry a b seconds east north time a_fits b_fits more =
    sym (ap (is_within (reach_of unit speed before entry) (unsigned_abs (entry.easting -ℤ before.easting))) (sym north)
    ∙ (ap (λ n. is_within (reach_of unit speed before entry) n b) (sym east)
    ∙ (ap (λ n. is_within (reach_in unit speed n) a b) (sym time) ∙ far_enough (reach_in unit speed seconds) a b a_fits b_fits more)))
