-- The value of an attribute is read back.
use Rattle.std.proofs.Common.{◌≡◌, ℕ, ◌==◌, true, List, [], ◌∷◌, ◌++◌, inl, inr, refl, ap, ◌∙◌, arith, append_assoc}
use Rattle.std.proofs.lemmas.Bool.{cases_Bool}
use Rattle.std.proofs.lemmas.Bool.Decides.{nat_tests}
use Rattle.page_text.specs.Cells.{with_byte}
use Rattle.page_text.specs.Laws.{read_attribute}
use Rattle.page_text.specs.Shown.{attribute, entity}

same_byte : (byte own : ℕ) → (byte == own) ≡ true → byte ≡ own
same_byte byte own h = grind (arith, nat_tests)

-- one byte of a value, before others
entity_read : (byte : ℕ) (others : List ℕ) → read_attribute 0 (entity byte ++ others) ≡ with_byte byte (read_attribute 0 others)
unfolding read_attribute
entity_read byte others =
    elim (cases_Bool (byte == 38)) [
      | inl and_sign ↦ rw (same_byte byte 38 and_sign) refl
      | inr a ↦
          elim (cases_Bool (byte == 60)) [
            | inl less ↦ rw (same_byte byte 60 less) refl
            | inr b ↦
                elim (cases_Bool (byte == 62)) [
                  | inl more ↦ rw (same_byte byte 62 more) refl
                  | inr d ↦
                      elim (cases_Bool (byte == 34)) [
                        | inl quote ↦ rw (same_byte byte 34 quote) refl
                        | inr e ↦
                            elim (cases_Bool (byte == 39)) [
                              | inl apostrophe ↦ rw (same_byte byte 39 apostrophe) refl
                              | inr f ↦ simp (a, b, d, e, f)
                            ]
                      ]
                ]
          ]
    ]

pub attribute_back : (value rest : List ℕ) → read_attribute 0 (attribute value ++ 34 ∷ rest) ≡ (value, rest)
unfolding read_attribute
attribute_back [] rest = refl
attribute_back (byte ∷ value) rest =
    ap (read_attribute 0) (append_assoc (entity byte) (attribute value) (34 ∷ rest))
    ∙ entity_read byte (attribute value ++ 34 ∷ rest) ∙ ap (with_byte byte) (attribute_back value rest)
