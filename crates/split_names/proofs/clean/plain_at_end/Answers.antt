use Rattle.std.proofs.Common.{◌≡◌, ℕ, zero, suc, ◌-◌, ◌<◌, List, [], ◌∷◌, length, get_or, set, refl, ap, ◌∙◌, arith}
use Rattle.std.proofs.lemmas.List.{get_or_read_under}
use Rattle.split_names.specs.Clean.{plain_at_edge, plain_at_end}
use Rattle.split_names.proofs.clean.plain_at_end.Goals as goal

-- where the byte at the end is changed
last_changed : (bytes : List ℕ) (last : ℕ) → suc last ≡ length bytes → set bytes last (plain_at_edge (get_or bytes last 0)) ≡ plain_at_end bytes
last_changed [] last is = absurd (omega (arith, is))
last_changed (b ∷ []) zero is = refl
last_changed (b ∷ []) (suc last) is = absurd (omega (arith, is))
last_changed (b ∷ c ∷ bytes) zero is = absurd (omega (arith, is))
last_changed (b ∷ c ∷ bytes) (suc last) is = ap (λ l. b ∷ l) (last_changed (c ∷ bytes) last (omega (arith, is)))

pub returns-then-length-gt0 : goal.returns-then-length-gt0
returns-then-length-gt0 g c =
    let bytes = c.args.name.now.items in
    let last = c.len-length.result - 1 in
    let there : last < length bytes = omega (arith, c.len-length.ensures, c.if-length-gt0.true, c.args.name.now.ok.0) in
    let changed = last_changed bytes last (omega (arith, c.len-length.ensures, c.if-length-gt0.true, c.args.name.now.ok.0)) in
    let byte : c.index.result.now ≡ get_or bytes last 0 = get_or_read_under bytes last (length bytes) c.index.result.now 0 c.index.ensures there refl in
    ap (λ b. set bytes last b) (c.plain_at_edge.ensures ∙ ap plain_at_edge byte) ∙ changed
