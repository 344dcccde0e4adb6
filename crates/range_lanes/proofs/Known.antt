-- What a test of a group, or a smaller polygon, says of a point.
use Rattle.std.proofs.Common.{◌≡◌, ℕ, ◌+◌, ◌<◌, ◌≤◌, ℤ, Bool, true, false, List, length, map, get_or, slice_get, Some, Contains, ap, ◌∙◌, sym, inl, inr, arith}
use lib.Lanes.{chunk}
use Rattle.std.proofs.lemmas.List.{get_or-map, length-map}
use Rattle.std.proofs.lemmas.Option.{get_or_from_slice_get, slice_get_cases}
use Rattle.std.proofs.lemmas.Simd.{get_or-chunk, length-chunk}
use Rattle.range_plane.specs.ConvexCover.{is_covered}
use Rattle.range_plane.specs.Plane.{Position}
use Rattle.range_plane.proofs.ForCallers.{covered_is_decided, larger_sets_cover_more}
use Rattle.range_lanes.specs.Lanes.{is_not_negative}

inside : {X : Type 0} (xs : List X) (i : ℕ) (x : X) → slice_get xs i ≡ Some x → i < length xs
inside xs i x e = elim (slice_get_cases xs i).1 [ inl found ↦ found.1 | inr past ↦ cc (e, past.1) ]

-- numbers that are not negative exactly where the points pass a test
pub passes_where_not_negative : (test : Position → Bool) (numbers : List ℤ) (at : ℕ) (points : List Position) → at + 8 ≤ length points
    → map is_not_negative numbers ≡ map test (chunk at 8 points) → (i : ℕ) (number : ℤ) (p : Position) → slice_get numbers i ≡ Some number
    → slice_get points (at + i) ≡ Some p → is_not_negative number ≡ true → test p ≡ true
passes_where_not_negative test numbers at points room same i number p here there known =
    let group = chunk at 8 points in
    let within : i < length numbers = inside numbers i number here in
    let sizes : length numbers ≡ length group = sym (length-map numbers is_not_negative) ∙ ap length same ∙ length-map group test in
    let eight : length group ≡ 8 = length-chunk at 8 points room in
    let few : i < length group = omega (arith, within, sizes) in
    let point : get_or group i p ≡ p = get_or-chunk at 8 points i p (omega (arith, few, eight)) ∙ get_or_from_slice_get points (at + i) p p there in
    let left = get_or-map is_not_negative numbers i number false within ∙ ap is_not_negative (get_or_from_slice_get numbers i number number here) in
    let right = get_or-map test group i p false few ∙ ap test point in
    sym right ∙ sym (ap (λ l. get_or l i false) same) ∙ left ∙ known

-- what members of a set cover, the set covers, as tests
pub within_covered : (inner L : List Position) → ((p : Position) → Contains inner p → Contains L p) → (q : Position) → is_covered inner q ≡ true
    → is_covered L q ≡ true
within_covered inner L within q covered =
    (covered_is_decided L q).1 (larger_sets_cover_more inner L q within ((covered_is_decided inner q).0 covered))
