use Rattle.std.proofs.Common.{◌≡◌, List, ℕ, false, inl, inr, sym}
use Rattle.std.proofs.lemmas.Bool.{cases_Bool}
use Rattle.std.proofs.lemmas.Str.{IsUtf8-from_is_utf8, is_utf8-from_IsUtf8}
use Rattle.std.specs.Str.{IsUtf8, is_utf8}
use Rattle.split_export.proofs.text.is_utf8.Goals as goal

is_not : (bytes : List ℕ) → ¬ (IsUtf8 bytes) → false ≡ is_utf8 bytes
is_not bytes none = elim (cases_Bool (is_utf8 bytes)) [ inl is ↦ absurd (none (IsUtf8-from_is_utf8 bytes is)) | inr is ↦ sym is ]

pub returns-in-Ok : goal.returns-in-Ok
returns-in-Ok c = sym (is_utf8-from_IsUtf8 _ c.in-Ok.ensures.cases.1)

pub returns-in-Err : goal.returns-in-Err
returns-in-Err c = is_not _ c.in-Err.ensures.cases.0
