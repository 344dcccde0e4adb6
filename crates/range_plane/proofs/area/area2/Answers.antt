use Rattle.std.proofs.Common.{◌≡◌, ◌∙◌, ◌-◌, ◌+◌, ◌^◌, ◌<◌, ◌≤◌, ℕ, zero, suc, List, sym, ap, pos, ◌<ℤ◌, length, get_or, take, arith, add-one}
use Rattle.std.proofs.lemmas.Int.{ints}
use Rattle.std.proofs.lemmas.List.{get_or_read, take_all}
use Rattle.range_plane.specs.Plane.{Position, origin, turn}
use Rattle.range_plane.proofs.Areas.{area2_all, triangles, triangles_more, triangles_start}
use Rattle.range_lemmas.proofs.Integers.{linear}
use Rattle.range_plane.proofs.area.area2.Goals as goal

pub loop-i-init : goal.loop-i-init
loop-i-init c = record { bound = omega arith; sum = sym (triangles_start c.args.corners.now) }

pub triangle-requires : goal.triangle-requires
triangle-requires c =
    let L = c.args.corners.now in
    let i = c.loop-i.i in
    let first = get_or_read L 0 c.index-corners-0.result (omega arith) c.index-corners-0.is origin in
    let before = get_or_read L (i - 1) c.index-corners-i.result (omega arith) c.index-corners-i.is origin in
    let here = get_or_read L i c.index-corners-i-in-loop-i.result (omega arith) c.index-corners-i-in-loop-i.is origin in
    let left : pos 0 <ℤ turn (get_or L 0 origin) (get_or L (i - 1) origin) (get_or L i origin) =
    c.requires 0 (i - 1) i origin (omega arith) (omega arith) (omega arith) in
    rw (first, before, here) (omega (arith, linear))

pub overflow_add-area : goal.overflow_add-area
overflow_add-area c =
    let sum : c.loop-i.area + c.from-area.result < 2 ^ 128 = omega arith in
    record { fits = sum }

-- the sum with one triangle more
one_more : (L : List Position) (i area t : ℕ) → 2 ≤ i → i < length L → pos area ≡ triangles (get_or L 0 origin) (take i L)
    → pos t ≡ turn (get_or L 0 origin) (get_or L (i - 1) origin) (get_or L i origin) → pos (area + t) ≡ triangles (get_or L 0 origin) (take (i + 1) L)
one_more L zero area t two within sum e = absurd (omega arith)
one_more L (suc zero) area t two within sum e = absurd (omega arith)
one_more L (suc (suc k)) area t two within sum e =
    let same : suc (suc k) - 1 ≡ suc k = omega arith in
    let f = rw same at e in
    rw add-one (omega (arith, ints, triangles_more (get_or L 0 origin) L (suc k) origin within, sum, f))

pub loop-i-preserved : goal.loop-i-preserved
loop-i-preserved c =
    let L = c.args.corners.now in
    let i = c.loop-i.i in
    let first = get_or_read L 0 c.index-corners-0.result (omega arith) c.index-corners-0.is origin in
    let before = get_or_read L (i - 1) c.index-corners-i.result (omega arith) c.index-corners-i.is origin in
    let here = get_or_read L i c.index-corners-i-in-loop-i.result (omega arith) c.index-corners-i-in-loop-i.is origin in
    record {
      bound = omega arith;
      sum = one_more L i c.loop-i.area c.from-area.result (omega arith) (omega arith) c.loop-i.invariant.sum
          (ap (λ (n : ℕ). pos n) c.from-area.ensures ∙ rw (first, before, here) at c.triangle.ensures);
    }

pub returns : goal.returns
returns c =
    let L = c.args.corners.now in
    c.loop-i.invariant.sum ∙ ap (triangles (get_or L 0 origin)) (take_all c.loop-i.i L (omega arith)) ∙ sym (area2_all L)
