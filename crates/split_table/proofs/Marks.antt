-- A byte order mark, by the bytes of a text.
use Rattle.std.proofs.Common.{◌≡◌, ◌≤◌, ℕ, true, List, [], ◌∷◌, length, drop, refl, nat_le, if◌then◌else◌, rules, tests, arith}
use Rattle.csv.specs.Reading.{strip_bom}
use Rattle.split_table.specs.Table.{has_mark}

enough : (n : ℕ) → 3 ≤ n → nat_le 3 n ≡ true
enough n h = search (rules, tests)

pub without : (text : List ℕ) → (if has_mark text then drop 3 text else text) ≡ strip_bom text
unfolding strip_bom
without [] = refl
without (a ∷ []) = refl
without (a ∷ b ∷ []) = refl
without (a ∷ b ∷ c ∷ text) = rw (enough (length (a ∷ b ∷ c ∷ text)) (omega arith)) refl
