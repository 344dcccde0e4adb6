use Rattle.std.proofs.Common.{◌≡◌, ◌∙◌, ℕ, suc, ◌<◌, ◌∷◌, ◌++◌, length, take, drop, arith, ap}
use Rattle.std.proofs.lemmas.List.{set_split}
use Rattle.range_pieces.proofs.piece.Piece.replace.Goals as goal

pub returns-else-from-to : goal.returns-else-from-to
returns-else-from-to g c =
    let xs = c.self.inside.points.items in
    let one : suc c.args.from ≡ c.args.to = omega arith in
    let same : xs ≡ c.args.self.now = c.self.view_is in
    let within : c.args.from < length xs = omega (arith, ap length same) in
    set_split xs c.args.from c.args.p within ∙ ap (λ (k : ℕ). take c.args.from xs ++ c.args.p ∷ drop k xs) one
    ∙ ap (λ ys. take c.args.from ys ++ c.args.p ∷ drop c.args.to ys) same
