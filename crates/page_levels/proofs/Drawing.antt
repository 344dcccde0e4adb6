-- What a map draws of an animal whose track is the report's, and why another is refused.
use Rattle.std.proofs.Common.{◌≡◌, ◌∙◌, ℕ, All, List, [], ◌∷◌, Vec, get_or, sym, ap, subst, inl, inr}
use Rattle.std.specs.List.{AllZip}
use Rattle.range_fixes.specs.Reading.{Reading}
use Rattle.range_plane.specs.Plane.{Position}
use Rattle.range_plane.specs.Polygon.{IsPolygon}
use Rattle.range_plane.specs.Row.{points_of}
use Rattle.range_plane.specs.declared.fix.Fix.{Fix}
use Rattle.page_report.specs.declared.animal.ReadAnimal.{ReadAnimal}
use Rattle.page_levels.specs.Drawn.{IsDrawn, IsPolygonAt}
use Rattle.page_levels.specs.Kept.{AreRanked, IsOtherRow, IsRowOfFirst, first_kept}
use Rattle.page_levels.specs.Same.{AreSameFixes, IsRefused, IsSame, IsTrackOf}
use Rattle.page_levels.specs.declared.fault.LevelFault.{LevelFault}
use Rattle.page_levels.specs.declared.fault.LevelFault.TheVariants.{OutOfMemory, OtherPercent}
use Rattle.page_levels.specs.declared.levels.Drawn.{Drawn}
use Rattle.page_levels.proofs.Rows.{first_of_percent, percent_of_first, polygon_kept}

zip_through : {A B : Type 0} (Q R : A → B → Type 0) → ((a : A) (b : B) → Q a b → R a b) → (xs : List A) (ys : List B) → AllZip Q xs ys → AllZip R xs ys
zip_through Q R through [] [] zipped = tt
zip_through Q R through [] (y ∷ ys) zipped = absurd zipped
zip_through Q R through (x ∷ xs) [] zipped = absurd zipped
zip_through Q R through (x ∷ xs) (y ∷ ys) zipped = (through x y zipped.0, zip_through Q R through xs ys zipped.1)

module _ (animal : ReadAnimal) (own : Reading) (fixes : List Fix) (track : IsTrackOf animal.name.items fixes own) (points ranked : List Position)
    (read : points ≡ points_of fixes) (order : AreRanked points ranked) where
  whole : IsTrackOf animal.name.items own.fixes own
  whole = subst (λ (l : List Fix). IsTrackOf animal.name.items l own) (sym track.all) track

  in_order : AreRanked (points_of own.fixes) ranked
  in_order = subst (λ (l : List Position). AreRanked l ranked) (read ∙ ap points_of (sym track.all)) order

  pub same : AreSameFixes fixes animal → All (IsRowOfFirst ranked) animal.percents.items → IsSame animal own
  same agreed rows = record {
    track = whole;
    fixes = subst (λ (l : List Fix). AreSameFixes l animal) (sym track.all) agreed;
    percents = λ i d within. percent_of_first (points_of own.fixes) ranked in_order (get_or animal.percents.items i d) (rows i d within);
  }

  pub other : (fault : LevelFault) → IsOtherRow ranked animal.percents.items fault → IsRefused animal own fault
  other OutOfMemory why = inl tt
  other (OtherPercent level) (row, there, same_level, differs) =
      inr (whole, (row, there, same_level, λ is. differs (first_of_percent (points_of own.fixes) ranked in_order row is)))
  other fault why = absurd why

  pub drawn : (levels : List ℕ) (made : Drawn)
      → AllZip (λ level polygon. IsPolygon (first_kept ranked level) polygon.items) levels made.polygons.items → made.fixes.items ≡ points_of fixes
      → IsDrawn (points_of own.fixes) levels made
  drawn levels made polygons all = record {
    polygons = zip_through (λ level (polygon : Vec Position _). IsPolygon (first_kept ranked level) polygon.items)
        (λ level (polygon : Vec Position _). IsPolygonAt (points_of own.fixes) level polygon.items)
        (λ level polygon. polygon_kept (points_of own.fixes) ranked in_order level polygon.items) levels made.polygons.items polygons;
    fixes = all ∙ ap points_of (sym track.all);
  }
