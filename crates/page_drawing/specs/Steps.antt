-- Steps of axes and grids: 1, 2 or 5 times a power of ten, from a thousandth on.
use Rattle.std.specs.Prelude.{ℕ, ◌-◌, ◌*◌, ◌/◌, ◌%◌, ◌^◌, ◌≡◌, ◌<◌, ◌≤◌, ◌⊎◌, ◌==◌, if◌then◌else◌, List, [], ◌++◌, codes, ℤ, unsigned_abs}
use Rattle.page_text.specs.Figures.{counted, digit}
use Rattle.page_drawing.specs.Places.{minus}

-- how many steps there are
abbrev pub step_count : ℕ
step_count = 45

-- the first digit of a step, by its place among the steps
abbrev pub first_digit : ℕ → ℕ
first_digit rest = if rest == 0 then 1 else if rest == 1 then 2 else 5

-- a step in thousandths
unfoldable pub size_at : ℕ → ℕ
size_at place = first_digit (place % 3) * 10 ^ (place / 3)

-- whether a span, a quotient in thousandths, has at most so many of a step
abbrev pub Spans : ℕ → ℕ → ℕ → ℕ → Type 0
Spans part whole most place = part ≤ most * size_at place * whole

-- the least step of which a span has at most so many; the greatest where it has more of each
pub record IsLeastStep (part whole most place : ℕ) : Type 0 where
  pub spans : Spans part whole most place ⊎ (place ≡ step_count - 1)
  pub least : (smaller : ℕ) → smaller < place → most * size_at smaller * whole < part

-- the decimals of a step: none from one on
abbrev pub decimal_count : ℕ → ℕ
decimal_count place = 3 - place / 3

-- the decimals of a value in thousandths, so many
abbrev pub value_decimals : ℕ → ℕ → List ℕ
value_decimals decimals rest =
    if decimals == 0 then []
    else if decimals == 1 then codes "." ++ digit (rest / 100)
    else if decimals == 2 then codes "." ++ digit (rest / 100) ++ digit (rest / 10 % 10)
    else codes "." ++ digit (rest / 100) ++ digit (rest / 10 % 10) ++ digit (rest % 10)

-- so many thousandths as they are written, with so many decimals
abbrev pub thousandths_text : ℕ → ℕ → List ℕ
thousandths_text thousandths decimals = counted (thousandths / 1000) ++ value_decimals decimals (thousandths % 1000)

-- so many steps as they are written
abbrev pub value_text : ℕ → ℤ → List ℕ
value_text place count = minus count ++ thousandths_text (unsigned_abs count * size_at place) (decimal_count place)
