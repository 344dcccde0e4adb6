use Rattle.std.proofs.Common.{◌≡◌, List, ℕ, inl, inr, ap, ◌∙◌, chars, encode_utf8_all, refl, Vec}
use Rattle.std.proofs.lemmas.Bool.{cases_Bool}
use Rattle.std.proofs.lemmas.Str.{IsUtf8-from_is_utf8, is_utf8-from_IsUtf8}
use Rattle.std.specs.Str.{IsUtf8, is_utf8}
use Rattle.caseless.specs.Caseless.{canonical_key}
use Rattle.split_names.specs.Names.{folded}
use Rattle.split_names.proofs.folded.folded.Goals as goal

-- bytes that are UTF-8 are folded
of_text : (bytes text : List ℕ) → (text ≡ bytes) × IsUtf8 bytes → encode_utf8_all (canonical_key (chars text)) ≡ folded bytes
unfolding folded
of_text bytes text is = rw (is_utf8-from_IsUtf8 bytes is.1) (ap (λ t. encode_utf8_all (canonical_key (chars t))) is.0)

-- others stay
of_no_text : (bytes : List ℕ) → ¬ (IsUtf8 bytes) → bytes ≡ folded bytes
unfolding folded
of_no_text bytes none = elim (cases_Bool (is_utf8 bytes)) [ inl is ↦ absurd (none (IsUtf8-from_is_utf8 bytes is)) | inr is_not ↦ rw is_not refl ]

pub returns-in_ok-folded_text-in-Ok : goal.returns-in_ok-folded_text-in-Ok
returns-in_ok-folded_text-in-Ok c =
    ap (λ (v : Vec _ _). v.items) c.into_bytes.ensures.value ∙ (c.in_ok-folded_text-in-Ok.ensures ∙ of_text _ _ c.in-Ok.ensures.cases)

pub returns-in_ok-from_slice-in-Err : goal.returns-in_ok-from_slice-in-Err
returns-in_ok-from_slice-in-Err c = c.in_ok-from_slice-in-Err.ensures.items ∙ of_no_text _ c.in-Err.ensures.cases.0
