-- A point put into the last of some rings.
use Rattle.std.proofs.Common.{◌≡◌, ◌≢◌, ◌∙◌, ◌+◌, ◌-◌, ◌==◌, ◌||◌, ℕ, false, List, [], ◌∷◌, ◌++◌, Some, Vec, length, map, set, get_or, slice_get, sym, ap, arith, not}
use Rattle.std.proofs.lemmas.Bool.Decides.{nat_tests}
use Rattle.std.proofs.lemmas.List.{map-set}
use Rattle.std.proofs.lemmas.Option.{get_or_from_slice_get}
use Rattle.range_lemmas.proofs.Indices.{map_length, map_pushed, mapped}
use Rattle.page_map.specs.declared.land.Ground.{Ground}
use Rattle.page_boundary.specs.Points.{place_of}
use Rattle.page_boundary.specs.Rings.{Ring, added, places_of}

module _ {A : Type 0} (rings : List (Vec Ground A)) (count : ℕ) (own more : Vec Ground A) (ring : ℕ) (at : Ground) where
  pub put_in_last : count ≡ length rings → count ≢ 0 → ring ≡ count → slice_get rings (count - 1) ≡ Some own → more.items ≡ own.items ++ at ∷ []
      → added (places_of rings) (ring, place_of at) ≡ Some (places_of (set rings (count - 1) more))
  put_in_last counted some last there pushed =
      let long = map_length (λ (each : Vec Ground A). map place_of each.items) rings in
      let size : length (places_of rings) ≡ count = long ∙ sym counted in
      let is_next : (ring == count + 1) ≡ false = grind (arith, nat_tests, last) in
      let is_other : (count == 0 || not (ring == count)) ≡ false = grind (arith, nat_tests, last, some) in
      let read : get_or (places_of rings) (count - 1) [] ≡ map place_of own.items =
      get_or_from_slice_get (places_of rings) (count - 1) (map place_of own.items) []
      (mapped (λ (each : Vec Ground A). map place_of each.items) rings (count - 1) own there) in
      let with_point : get_or (places_of rings) (count - 1) [] ++ place_of at ∷ [] ≡ map place_of more.items =
      ap (λ (l : Ring). l ++ place_of at ∷ []) read ∙ sym (map_pushed place_of own.items at) ∙ ap (map place_of) (sym pushed) in
      rw (size, is_next, is_other)
      (ap (λ (l : Ring). Some (set (places_of rings) (count - 1) l)) with_point
      ∙ ap (λ (l : List Ring). Some l) (sym (map-set (λ (each : Vec Ground A). map place_of each.items) rings (count - 1) more)))
