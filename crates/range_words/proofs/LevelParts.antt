-- The levels in the parts of a text.
use Rattle.std.proofs.Common.{◌==◌, All, Bool, cond, ◌+◌, ◌∷◌, ◌++◌, set, ap₂, ◌≡◌, ℕ, ◌<◌, ◌≤◌, ◌&&◌, true, false, nat_le, List, [], length, map, take, Some}
use Rattle.std.proofs.Common.{None, refl, sym, ap, get_or, subst, ◌∙◌, arith}
use Rattle.std.specs.Prelude.{IsSome}
use Rattle.std.specs.Str.Parse.{digits_value}
use Rattle.std.proofs.lemmas.Bool.Decides.{nat_tests}
use Rattle.std.proofs.lemmas.List.{get_or-map, get_or-take, get_or_default, length-map, length-take, map-append, take_all, take_more, take_more_set}
use Rattle.std.proofs.lemmas.List.Splits.{length-slice_split}
use Rattle.range_numbers.specs.Number.{is_number}
use Rattle.range_options.specs.Levels.{IsLevel}
use Rattle.range_options.specs.Limits.{level_count_limit, level_limit}
use Rattle.range_words.specs.LevelList.{AreLevelsBefore, IsRefusedFor, level_in, part_at, parts}
use Rattle.range_words.specs.declared.level.LevelFault.TheVariants.{OutOfMemory, BadLevel, TooMany}

-- each text has a part
pub some_part : (text : List ℕ) → 1 ≤ length (parts text)
some_part text = omega (arith, length-slice_split (λ (byte : ℕ). byte == 44) text)

-- a part that is no number writes no level
pub no_number : (part : List ℕ) → is_number part ≡ false → level_in part ≡ None
unfolding level_in
no_number part other = rw other refl

-- a number from 1 to the limit is the level that its part writes
pub good_level : (part : List ℕ) → is_number part ≡ true → 1 ≤ digits_value 10 part → digits_value 10 part ≤ level_limit
    → level_in part ≡ Some (digits_value 10 part)
unfolding level_in
good_level part number some few =
    let test : (nat_le 1 (digits_value 10 part) && nat_le (digits_value 10 part) level_limit) ≡ true = grind (arith, nat_tests) in
    rw (number, test) refl

-- a number that is below 1 or above the limit is no level
pub bad_level : (part : List ℕ) → is_number part ≡ true → (1 ≤ digits_value 10 part → level_limit < digits_value 10 part) → level_in part ≡ None
unfolding level_in
bad_level part number outside =
    let test : (nat_le 1 (digits_value 10 part) && nat_le (digits_value 10 part) level_limit) ≡ false = grind (arith, nat_tests) in
    rw (number, test) refl

passed : (b : Bool) (x v : ℕ) → cond b (Some x) None ≡ Some v → (b ≡ true) × (x ≡ v)
passed true x v e = (refl, cc)
passed false x v e = cc

within_range : (number : Bool) (v : ℕ) → (number && (nat_le 1 v && nat_le v level_limit)) ≡ true → IsLevel v
within_range number v test = (grind (arith, nat_tests), grind (arith, nat_tests))

level_in_range : (part : List ℕ) (v : ℕ) → level_in part ≡ Some v → IsLevel v
unfolding level_in
level_in_range part v e =
    let found = passed (is_number part && (nat_le 1 (digits_value 10 part) && nat_le (digits_value 10 part) level_limit)) (digits_value 10 part) v e in
    subst IsLevel found.1 (within_range (is_number part) (digits_value 10 part) found.0)

-- where each part writes a level there are as many levels as parts
pub as_many : (all : List (List ℕ)) (values : List ℕ) → map level_in all ≡ map Some values → length values ≡ length all
as_many all values same = omega (arith, ap length same, length-map all level_in, length-map {A = ℕ} values Some)

-- and each of them is a percentage above 0
pub levels_in_range : (all : List (List ℕ)) (values : List ℕ) → map level_in all ≡ map Some values → All IsLevel values
levels_in_range all values same i d within =
    let long = as_many all values same in
    level_in_range (get_or all i []) (get_or values i d)
    (sym (get_or-map level_in all i [] None (omega arith)) ∙ ap (λ l. get_or l i None) same ∙ get_or-map Some values i d None within)

-- ---- the first n parts, which write levels
levels_before : (parts : List (List ℕ)) (n : ℕ) (values : List ℕ) → map level_in (take n parts) ≡ map Some values → n ≤ length parts → AreLevelsBefore parts n
levels_before parts n values same few i before =
    let long : length values ≡ n = omega (arith, as_many (take n parts) values same, length-take n parts) in
    let value : level_in (part_at parts i) ≡ Some (get_or values i 0) =
    ap level_in (sym (get_or-take n parts i [] before)) ∙ sym (get_or-map level_in (take n parts) i [] None (omega (arith, length-take n parts)))
    ∙ ap (λ l. get_or l i None) same ∙ get_or-map Some values i 0 None (omega arith) in
    subst IsSome (sym value) refl

-- where as many parts as there may be write levels, and there are more, the parts are too many
pub too_many : (all : List (List ℕ)) (n : ℕ) (values : List ℕ) → n < length all → n ≡ level_count_limit → map level_in (take n all) ≡ map Some values
    → IsRefusedFor TooMany all
too_many all n values within full same = (omega arith, subst (AreLevelsBefore all) full (levels_before all n values same (omega arith)))

-- where a part writes no level, and all before it do, it is the bad one
pub bad_part : (all : List (List ℕ)) (n : ℕ) (values part : List ℕ) → n < length all → part ≡ get_or all n part → n < level_count_limit → level_in part ≡ None
    → map level_in (take n all) ≡ map Some values
    → IsRefusedFor (BadLevel n) all
bad_part all n values part within is few bad same =
    (few, within, ap level_in (get_or_default all n [] part within ∙ sym is) ∙ bad, levels_before all n values same (omega arith))

-- where all parts write levels, and are not too many, memory alone may be wanted
pub no_memory : (all : List (List ℕ)) (values : List ℕ) → length all ≤ level_count_limit → map level_in all ≡ map Some values → IsRefusedFor OutOfMemory all
no_memory all values few same = (few, levels_before all (length all) values (ap (map level_in) (take_all (length all) all (omega arith)) ∙ same) (omega arith))

-- where the next part writes a level, which is set next, the levels so far are those of the parts so far
pub one_more : (all : List (List ℕ)) (n : ℕ) (part levels : List ℕ) (level : ℕ) → n < length all → part ≡ get_or all n part → n < length levels
    → level_in part ≡ Some level
    → map level_in (take n all) ≡ map Some (take n levels) → map level_in (take (n + 1) all) ≡ map Some (take (n + 1) (set levels n level))
one_more all n part levels level within is room good same =
    ap (map level_in) (take_more all n part within) ∙ map-append level_in (take n all) (get_or all n part ∷ [])
    ∙ ap₂ (λ l x. l ++ x ∷ []) same (ap level_in (sym is) ∙ good)
    ∙ sym (ap (map Some) (take_more_set levels n level room) ∙ map-append Some (take n levels) (level ∷ []))
