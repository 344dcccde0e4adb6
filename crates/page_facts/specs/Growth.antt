-- How the area of a range grew with the number of fixes, from the doubled areas after each fix.
use Rattle.std.specs.Prelude.{ℕ, Bool, ◌+◌, ◌-◌, ◌*◌, ◌/◌, ◌==◌, nat_le, if◌then◌else◌, List, [], ◌∷◌, length, slice_index, Option, Some, None}
use Rattle.std.specs.List.{list_all}
use Rattle.page_facts.specs.declared.growth.Growth.{Growth}

-- the area of so many fixes
abbrev pub area_of_first : List ℕ → ℕ → ℕ
area_of_first areas count = if count == 0 then 0 else slice_index areas (count - 1)

-- the area of all
abbrev pub last_area : List ℕ → ℕ
last_area areas = area_of_first areas (length areas)

-- whether an area is 95 per cent or more of the last one
abbrev pub is_within : ℕ → ℕ → Bool
is_within last area2 = nat_le (19 * last) (20 * area2)

-- how many areas stand before the first from which on all are within 95 per cent
unfoldable pub before_within : ℕ → List ℕ → ℕ
before_within last [] = 0
before_within last (area2 ∷ areas) = if list_all (is_within last) (area2 ∷ areas) then 0 else 1 + before_within last areas

-- the number of the first fix from which on the area stayed so
abbrev pub within : ℕ → List ℕ → Option ℕ
within last areas = if last == 0 then None else Some (before_within last areas + 1)

-- how much the fixes behind so many added
abbrev pub added : ℕ → List ℕ → ℕ → ℕ
added last areas count = last - area_of_first areas count

-- the growth: the last tenth of the fixes are those behind nine tenths
abbrev pub growth_of : List ℕ → Growth
growth_of areas = record {
  area2 = last_area areas;
  within = within (last_area areas) areas;
  tenth = added (last_area areas) areas (9 * length areas / 10);
  quarter = added (last_area areas) areas (3 * length areas / 4);
}
