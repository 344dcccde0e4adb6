-- Groups of eight points.
use Rattle.std.proofs.Common.{◌≡◌, ℕ, ◌+◌, ◌%◌, ℤ, pos, ◌-ℤ◌, Bool, cond, List, [], ◌∷◌, length, map, replicate, take, drop, count_by, fold, refl, ap, ◌∙◌, sym}
use Rattle.std.proofs.Common.{◌<◌, ◌++◌, Some, get_or, slice_get, arith, length-drop, FitsSigned, to_z, of_z, w64}
use lib.Lanes.{zip2, chunk, Each1, mask_l, top}
use lib.Count.{ones}
use lib.Signed.{le_z}
use Rattle.std.specs.List.{All}
use Rattle.std.proofs.lemmas.Int.{to_z-of_z}
use Rattle.std.proofs.lemmas.List.{get_or-drop, length-map, map_more}
use Rattle.std.proofs.lemmas.Option.{get_or_from_slice_get}
use Rattle.std.specs.List.{take-map, drop-map}
use Rattle.std.proofs.lemmas.Simd.{map-map, zip2_splat, zip2_splat_left, Each1-chunk, tops_compared, mask_l-mod, ones-mask_l}
use Rattle.range_plane.specs.Plane.{Position, position, IsCoordinate, coordinate_limit}
use Rattle.range_lemmas.proofs.Sizes.{abs_difference}
use Rattle.range_lemmas.proofs.Zipped.{firsts_of_zipped, seconds_of_zipped}
use Rattle.range_lanes.specs.Lanes.{IsBounded, AreLanes, is_not_negative}
use Rattle.range_lanes.proofs.Signed.{each_from_all}

-- a function of the eastings, or of the northings, as one of the points
pub moved_e : (g : ℤ → ℤ) (es ns : List ℤ) → length es ≡ length ns → map g es ≡ map (λ p. g p.e) (zip2 position es ns)
moved_e g es ns same =
    ap (map g) (sym (firsts_of_zipped position (λ (p : Position). p.e) (λ e n. refl) es ns same)) ∙ map-map g (λ (p : Position). p.e) (zip2 position es ns)

-- a function of the northings, as one of the points with these eastings and northings
pub moved_n : (g : ℤ → ℤ) (es ns : List ℤ) → length es ≡ length ns → map g ns ≡ map (λ p. g p.n) (zip2 position es ns)
moved_n g es ns same =
    ap (map g) (sym (seconds_of_zipped position (λ (p : Position). p.n) (λ e n. refl) es ns same)) ∙ map-map g (λ (p : Position). p.n) (zip2 position es ns)

-- what is true of each member gives what is true of each of the mapped list
pub each_map : {A : Type 0} (f : A → ℤ) (P : A → Type 0) (Q : ℤ → Type 0) → ((x : A) → P x → Q (f x)) → (xs : List A) → Each1 P xs → Each1 Q (map f xs)
each_map f P Q s [] h = tt
each_map f P Q s (x ∷ xs) h = (s x h.0, each_map f P Q s xs h.1)

-- eight numbers less the same number
pub less_value : (x : ℤ) (es : List ℤ) → length es ≡ 8 → zip2 ◌-ℤ◌ es (replicate 8 x) ≡ map (λ y. y -ℤ x) es
less_value x es eight = zip2_splat ◌-ℤ◌ es 8 x eight

-- differences of coordinates are bounded
pub less_small : (x : ℤ) (es : List ℤ) → IsCoordinate x → Each1 IsCoordinate es → Each1 (IsBounded coordinate_limit) (map (λ y. y -ℤ x) es)
less_small x es h = each_map (λ y. y -ℤ x) IsCoordinate (IsBounded coordinate_limit) (λ y f. abs_difference coordinate_limit y x f h) es

-- ---- a group of the columns
zipped_back : (vs : List Position) → zip2 position (map (λ p. p.e) vs) (map (λ p. p.n) vs) ≡ vs
zipped_back [] = refl
zipped_back (v ∷ vs) = ap (λ l. v ∷ l) (zipped_back vs)

chunk_map : (f : Position → ℤ) (at : ℕ) (ps : List Position) → chunk at 8 (map f ps) ≡ map f (chunk at 8 ps)
chunk_map f at ps = ap (take 8) (drop-map f at ps) ∙ take-map f 8 (drop at ps)

-- groups of both columns are the group of points
pub group_is : (at : ℕ) (ps : List Position) → zip2 position (chunk at 8 (map (λ p. p.e) ps)) (chunk at 8 (map (λ p. p.n) ps)) ≡ chunk at 8 ps
group_is at ps =
    ap (λ l. zip2 position l (chunk at 8 (map (λ p. p.n) ps))) (chunk_map (λ p. p.e) at ps)
    ∙ ap (zip2 position (map (λ p. p.e) (chunk at 8 ps))) (chunk_map (λ p. p.n) at ps)
    ∙ zipped_back (chunk at 8 ps)

-- each number in a group of eight of a list of coordinates is a coordinate
pub group_coordinates : (xs : List ℤ) (at : ℕ) → All IsCoordinate xs → Each1 IsCoordinate (chunk at 8 xs)
group_coordinates xs at h = Each1-chunk IsCoordinate at 8 xs (each_from_all IsCoordinate xs h)

-- ---- how many lanes are not negative
count_bits : (p : ℕ → Bool) (n : ℕ) (zs : List ℤ) → ((z : ℤ) → FitsSigned w64 z → p (of_z w64 z) ≡ is_not_negative z) → Each1 (FitsSigned w64) zs
    → fold (λ a x. a + cond (p x) 1 0) n (map (of_z w64) zs) ≡ fold (λ a z. a + cond (is_not_negative z) 1 0) n zs
count_bits p n [] s h = refl
count_bits p n (z ∷ zs) s h =
    ap (λ b. fold (λ a x. a + cond (p x) 1 0) (n + cond b 1 0) (map (of_z w64) zs)) (s z h.0) ∙ count_bits p (n + cond (is_not_negative z) 1 0) zs s h.1

abbrev not_below : ℕ → ℕ → Bool
not_below a b = le_z (to_z w64 a) (to_z w64 b)

not_below_zero : (z : ℤ) → FitsSigned w64 z → not_below 0 (of_z w64 z) ≡ is_not_negative z
not_below_zero z f = ap (λ y. le_z (pos 0) y) (to_z-of_z w64 z f)

-- the bits of a comparison with 0 count the lanes that are not negative
pub count_mask : (zs : List ℤ) → AreLanes zs → ones (mask_l (map (top 63)
    (zip2 (λ a b. cond (not_below a b) 18446744073709551615 0) (replicate 8 0) (map (of_z w64) zs))) % 18446744073709551616) ≡ count_by is_not_negative zs
count_mask zs h =
    let bits = map (of_z w64) zs in
    let eight : length bits ≡ 8 = length-map zs (of_z w64) ∙ h.0 in
    ap (λ m. ones (mask_l m % 18446744073709551616)) (tops_compared w64 not_below (replicate 8 0) bits ∙ zip2_splat_left not_below 0 8 bits eight)
    ∙ ap ones (mask_l-mod (map (not_below 0) bits) 64 (omega (arith, length-map bits (not_below 0))))
    ∙ ones-mask_l (not_below 0) bits
    ∙ count_bits (not_below 0) 0 zs not_below_zero h.1

-- one point more of a group
pub group_more : {A : Type 0} (f : Position → A) (ps : List Position) (at i : ℕ) (p : Position) → at + i < length ps → slice_get ps (at + i) ≡ Some p
    → map f (chunk at (i + 1) ps) ≡ map f (chunk at i ps) ++ f p ∷ []
group_more f ps at i p within here =
    let read : get_or (drop at ps) i p ≡ p = get_or-drop at ps i p ∙ get_or_from_slice_get ps (at + i) p p here in
    map_more f (drop at ps) i p (omega (arith, length-drop at ps, within)) ∙ ap (λ q. map f (chunk at i ps) ++ f q ∷ []) read
