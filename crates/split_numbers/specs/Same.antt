-- Whether two texts are one number.
use Rattle.std.specs.Prelude.{ℕ, ◌+◌, ◌==◌, Bool, ◌&&◌, nat_lt, if◌then◌else◌, List, [], take, drop, length, Option, Some, None, is_some}
use Rattle.std.specs.List.{list_all}
use Rattle.std.specs.Str.{bytes_eq}
use Rattle.range_plane.specs.declared.scale.Scale.TheVariants.{Metre}
use Rattle.split_numbers.specs.Decimal.{point_in, units_in}

-- whether a text is a decimal
unfoldable pub is_number_text : Bool → List ℕ → Bool
is_number_text commas text = is_some (units_in Metre commas text)

-- what stands before a point, which is all where there is none
abbrev pub before_point : List ℕ → Option ℕ → List ℕ
before_point text None = text
before_point text (Some i) = take i text

-- what stands behind it
abbrev pub behind_point : List ℕ → Option ℕ → List ℕ
behind_point text None = []
behind_point text (Some i) = drop (i + 1) text

-- whether all digits are zeros
abbrev pub are_zeros : List ℕ → Bool
are_zeros digits = list_all (λ b. b == 48) digits

-- whether the digits behind two points are the same but for zeros at their end
abbrev pub are_same_behind : List ℕ → List ℕ → ℕ → Bool
are_same_behind digits others common = bytes_eq (take common digits) (take common others) && are_zeros (drop common digits) && are_zeros (drop common others)

abbrev pub are_same_decimals : List ℕ → List ℕ → Bool
are_same_decimals digits others = are_same_behind digits others (if nat_lt (length digits) (length others) then length digits else length others)

-- whether two decimals are the same but for zeros behind their digits, as -9999 and -9999.0 are
unfoldable pub is_same_number : List ℕ → List ℕ → Bool → Bool
is_same_number one other commas =
    is_number_text commas one && is_number_text commas other
    && bytes_eq (before_point one (point_in commas one)) (before_point other (point_in commas other))
    && are_same_decimals (behind_point one (point_in commas one)) (behind_point other (point_in commas other))
