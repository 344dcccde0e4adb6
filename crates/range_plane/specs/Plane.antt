-- Positions on the plane: their limits, their order, and how three of them turn.
use Rattle.std.specs.Prelude.{ℕ, ◌+◌, ◌*◌, ℤ, pos, ◌-ℤ◌, ◌*ℤ◌, ◌≤ℤ◌, ◌<ℤ◌, ◌≡◌, ◌≢◌, ◌⊎◌}

-- a position on the plane, with no limits: its easting and its northing
pub record Position : Type 0 where
  pub e : ℤ
  pub n : ℤ

-- the position with this easting and this northing
abbrev pub position : ℤ → ℤ → Position
position e n = record { e = e; n = n }

-- the position whose easting and northing are 0
abbrev pub origin : Position
origin = position (pos 0) (pos 0)

-- the greatest easting and northing of a point
abbrev pub coordinate_limit : ℕ
coordinate_limit = 134217728

-- the greatest size of a product of two differences of coordinates
abbrev pub product_limit : ℕ
product_limit = coordinate_limit * coordinate_limit

-- the greatest size of a sum or a difference of two such products
abbrev pub turn_limit : ℕ
turn_limit = product_limit + product_limit

abbrev pub IsCoordinate : ℤ → Type 0
IsCoordinate x = (pos 0 ≤ℤ x) × (x ≤ℤ pos coordinate_limit)

abbrev pub IsWithinLimits : Position → Type 0
IsWithinLimits p = IsCoordinate p.e × IsCoordinate p.n

-- twice the signed area of the triangle a b c: positive where a, b, c go counterclockwise, 0 where they are collinear
unfoldable pub turn : Position → Position → Position → ℤ
turn a b c = (b.e -ℤ a.e) *ℤ (c.n -ℤ a.n) -ℤ (b.n -ℤ a.n) *ℤ (c.e -ℤ a.e)

-- p lies in the box from its southwestern corner to its northeastern one, or on its boundary
pub record IsInBox (low high p : Position) : Type 0 where
  pub west : low.e ≤ℤ p.e
  pub south : low.n ≤ℤ p.n
  pub east : p.e ≤ℤ high.e
  pub north : p.n ≤ℤ high.n

-- a is not after b, by easting and then by northing
abbrev pub IsAtMost : Position → Position → Type 0
IsAtMost a b = (a.e <ℤ b.e) ⊎ ((a.e ≡ b.e) × (a.n ≤ℤ b.n))

-- a comes before b
abbrev pub IsBefore : Position → Position → Type 0
IsBefore a b = IsAtMost a b × (a ≢ b)
