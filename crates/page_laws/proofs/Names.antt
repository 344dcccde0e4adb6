-- What names do not have.
use Rattle.std.proofs.Common.{◌≡◌, ◌==◌, ℕ, true, false, List, [], ◌∷◌, ne_eqb}
use Rattle.std.specs.List.{list_all}
use Rattle.std.proofs.lemmas.Bool.{and_parts}
use Rattle.std.proofs.lemmas.List.Elements.{All-cons, All-nil}
use Rattle.range_fixes.specs.Field.{is_name, is_name_byte}
use Rattle.page_laws.proofs.FieldsBack.{Lacks}

lacks_other : (byte : ℕ) (name : List ℕ) → is_name_byte byte ≡ false → list_all is_name_byte name ≡ true → Lacks byte name
lacks_other byte [] bad all = All-nil (λ own. (own == byte) ≡ false)
lacks_other byte (own ∷ name) bad all =
    let parts = and_parts (is_name_byte own) (list_all is_name_byte name) all in
    let good = parts.0 in
    All-cons (λ own. (own == byte) ≡ false) own name (ne_eqb own byte (λ e. cc)) (lacks_other byte name bad parts.1)

-- a name has no byte that may not stand in one
pub name_lacks : (byte : ℕ) (name : List ℕ) → is_name_byte byte ≡ false → is_name name ≡ true → Lacks byte name
name_lacks byte name bad named = lacks_other byte name bad (and_parts _ (list_all is_name_byte name) named).1
