-- A block, of which the flags say what the polygon before it covers, fix by fix.
use Rattle.std.proofs.Common.{◌≡◌, refl, sym, ap, ◌∙◌, ℕ, ◌+◌, ◌<◌, Bool, true, false, cond, not, List, [], ◌∷◌, ◌++◌, length, get_or, map, take, count_by}
use Rattle.std.proofs.Common.{arith}
use Rattle.std.proofs.lemmas.List.{get_or-map, length-map, map-append, take_more}
use Rattle.std.proofs.lemmas.List.Sums.{sum_by_push}
use Rattle.range_plane.specs.ConvexCover.{is_covered}
use Rattle.range_plane.specs.Plane.{Position}
use Rattle.range_plane.specs.Row.{points_of}
use Rattle.range_plane.specs.declared.fix.Fix.{Fix}

-- the flag of a fix
pub flag_at : (L : List Position) (block : List Fix) (flags : List Bool) (i : ℕ) (fix : Fix) → flags ≡ map (is_covered L) (points_of block) → i < length block
    → fix ≡ get_or block i fix → get_or flags i false ≡ is_covered L fix.at
flag_at L block flags i fix all within read =
    ap (λ l. get_or l i false) all
    ∙ get_or-map (is_covered L) (points_of block) i fix.at false (omega (arith, length-map block (λ (f : Fix). f.at)))
    ∙ ap (is_covered L) (get_or-map (λ (f : Fix). f.at) block i fix fix.at within)
    ∙ ap (λ (f : Fix). is_covered L f.at) (sym read)

-- the first fixes of a block and the next one
pub taken_more : (block : List Fix) (i : ℕ) (fix : Fix) → i < length block → fix ≡ get_or block i fix → take (i + 1) block ≡ take i block ++ fix ∷ []
taken_more block i fix within read = take_more block i fix within ∙ ap (λ f. take i block ++ f ∷ []) (sym read)

not_cond : (b : Bool) → ◌≡◌ {A = ℕ} (cond (not b) 1 0) (cond b 0 1)
not_cond true = refl
not_cond false = refl

-- a fix that is not covered counts
pub count_more : (L : List Position) (block : List Fix) (i : ℕ) (fix : Fix) (covered : Bool) → i < length block → fix ≡ get_or block i fix
    → covered ≡ is_covered L fix.at
    → count_by (λ p. not (is_covered L p)) (points_of (take (i + 1) block)) ≡ count_by (λ p. not (is_covered L p)) (points_of (take i block)) + cond covered 0 1
count_more L block i fix covered within read flag =
    ap (λ l. count_by (λ p. not (is_covered L p)) (points_of l)) (taken_more block i fix within read)
    ∙ ap (count_by (λ p. not (is_covered L p))) (map-append (λ (f : Fix). f.at) (take i block) (fix ∷ []))
    ∙ sum_by_push (λ p. cond (not (is_covered L p)) 1 0) (points_of (take i block)) fix.at
    ∙ ap (λ n. count_by (λ p. not (is_covered L p)) (points_of (take i block)) + n) (not_cond (is_covered L fix.at) ∙ ap (λ b. cond b 0 1) (sym flag))

-- where no fix counted, none changed the corners
pub untested_more : (covered : Bool) (before now after count : ℕ) (L M N : List Position) → now ≡ before + count → after ≡ now + cond covered 0 1
    → (now ≡ before → M ≡ L) → (covered ≡ true → N ≡ M) → after ≡ before → N ≡ L
untested_more true before now after count L M N so_far more same covered e = covered refl ∙ same (omega arith)
untested_more false before now after count L M N so_far more same covered e = absurd (omega arith)
