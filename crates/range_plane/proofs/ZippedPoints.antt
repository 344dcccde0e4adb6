-- The columns of eastings and northings that a list of positions is made of.
use Rattle.std.proofs.Common.{◌≡◌, ℕ, ℤ, List, [], ◌∷◌, ◌++◌, ◌<◌, length, get_or, map, slice_get, Some, subst, All, refl, ap, sym, ◌∙◌, arith}
use lib.Lanes.{zip2}
use Rattle.std.proofs.lemmas.List.Elements.{All-push}
use Rattle.std.proofs.lemmas.Option.{slice_get_read}
use Rattle.std.proofs.lemmas.Simd.{length-zip2, get_or-zip2}
use Rattle.std.proofs.Math.Nat.{suc_inj}
use Rattle.range_lemmas.proofs.Zipped.{firsts_of_zipped, seconds_of_zipped}
use Rattle.range_plane.specs.Plane.{Position, IsCoordinate, position}

-- `length-zip2`, by a name that an attribute in the source can give
pub length_of_zipped : (es ns : List ℤ) → length es ≡ length ns → length (zip2 position es ns) ≡ length es
length_of_zipped es ns h = length-zip2 position es ns h

-- positions made of two columns of one length have the first for eastings
pub eastings_of_zipped : (es ns : List ℤ) → length es ≡ length ns → map (λ (p : Position). p.e) (zip2 position es ns) ≡ es
eastings_of_zipped es ns h = firsts_of_zipped position (λ (p : Position). p.e) (λ x y. refl) es ns h

pub northings_of_zipped : (es ns : List ℤ) → length es ≡ length ns → map (λ (p : Position). p.n) (zip2 position es ns) ≡ ns
northings_of_zipped es ns h = seconds_of_zipped position (λ (p : Position). p.n) (λ x y. refl) es ns h

-- one element of a column of coordinates
pub coordinate_at : (xs : List ℤ) (i : ℕ) (x : ℤ) → All IsCoordinate xs → i < length xs → x ≡ get_or xs i x → IsCoordinate x
coordinate_at xs i x all within e = subst IsCoordinate (sym e) (all i x within)

-- one coordinate more
pub coordinates_push : (xs : List ℤ) (x : ℤ) → All IsCoordinate xs → IsCoordinate x → All IsCoordinate (xs ++ x ∷ [])
coordinates_push xs x all here = All-push IsCoordinate xs x all here

-- e and n are the elements at i of columns of one length
pub zipped_at : (es ns : List ℤ) (i : ℕ) (e n : ℤ) → length es ≡ length ns → i < length es → e ≡ get_or es i e → n ≡ get_or ns i n
    → slice_get (zip2 position es ns) i ≡ Some (position e n)
zipped_at es ns i e n same in_e he hn =
    let in_n : i < length ns = omega arith in
    let both : position e n ≡ position (get_or es i e) (get_or ns i n) = cc in
    slice_get_read (zip2 position es ns) (length es) i (position e n) (sym (length-zip2 position es ns same)) in_e
    (both ∙ sym (get_or-zip2 position es ns i e n (position e n) in_e in_n))

-- one easting and one northing more, in columns of one length, are one position more
pub zipped_push : (es ns : List ℤ) (e n : ℤ) → length es ≡ length ns → zip2 position (es ++ e ∷ []) (ns ++ n ∷ []) ≡ zip2 position es ns ++ position e n ∷ []
zipped_push [] [] e n h = refl
zipped_push [] (y ∷ ys) e n h = cc
zipped_push (x ∷ xs) [] e n h = cc
zipped_push (x ∷ xs) (y ∷ ys) e n h = ap (λ l. position x y ∷ l) (zipped_push xs ys e n (suc_inj h))
