use Rattle.std.proofs.Common.{◌≡◌, ◌∙◌, ap, ◌+◌, ◌∷◌, ◌++◌, ◌<◌, [], length, take, drop, set, get_or, List, arith, rules}
use Rattle.std.proofs.lemmas.List.{get_or_read}
use Rattle.std.proofs.lemmas.List.Edits.{get_or-remove_below, length-remove}
use Rattle.range_plane.specs.Plane.{Position}
use Rattle.range_pieces.specs.Pieces.{piece}
use Rattle.range_pieces.specs.Shelf.{Shelved}
use Rattle.range_pieces.proofs.Shelves.{set_remove}
use Rattle.range_pieces.proofs.shelf.Shelf.join.Goals as goal

pub returns-clause-pieces : goal.returns-clause-pieces
returns-clause-pieces g c =
    let i = c.args.i in
    let xs = c.self.inside.pieces.items in
    let ys = c.remove-second.new.self.items in
    let same : xs ≡ c.args.self.now.pieces = ap (λ (v : Shelved). v.pieces) c.self.view_is in
    let within : i + 1 < length xs = omega (arith, c.requires.within, ap length same) in
    let removed = c.remove-second.ensures.items in
    let second : c.remove-second.result ≡ piece xs (i + 1) = get_or_read xs (i + 1) c.remove-second.result within c.remove-second.ensures.value [] in
    let first : c.index_mut.result.now ≡ piece xs i =
    get_or_read ys i c.index_mut.result.now (omega (arith, ap length removed, length-remove xs (i + 1) within)) c.index_mut.ensures.value []
    ∙ ap (λ (zs : List (List Position)). get_or zs i []) removed
    ∙ get_or-remove_below xs (i + 1) [] i (omega arith) within in
    let both : c.append.new.self ≡ piece xs i ++ piece xs (i + 1) = c.append.ensures ∙ ap (λ (b : List Position). b ++ c.remove-second.result) first
    ∙ ap (λ (b : List Position). piece xs i ++ b) second in
    ap (λ (zs : List (List Position)). set zs i c.append.new.self) removed
    ∙ set_remove xs i c.append.new.self within
    ∙ ap (λ (b : List Position). take i xs ++ b ∷ drop (i + 2) xs) both
    ∙ ap (λ (zs : List (List Position)). take i zs ++ (piece zs i ++ piece zs (i + 1)) ∷ drop (i + 2) zs) same

pub returns-clause-free : goal.returns-clause-free
returns-clause-free g c = search rules
