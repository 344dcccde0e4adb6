-- From what is said of a refusal to one line.
use Rattle.std.proofs.Common.{◌≡◌, ◌⊎◌, ◌∙◌, refl, Bool, true, false, inl, inr, List, ℕ, Option, Some, Result, Ok, Err, String, Global, string_bytes, subst}
use Rattle.std.specs.Prelude.{IfErr, IfOk, OnErr, OnOk}
use Rattle.std.specs.declared.alloc.AllocError.{AllocError}
use Rattle.std.specs.declared.io.Error.{Error}
use Rattle.std.specs.Io.KnownBytes.{Appends}
use Rattle.range_texts.specs.Seen.{IsOneLine}
use Rattle.range_run.specs.WrittenPrefix.{AppendsPrefix}
use Rattle.range_command.specs.SaidLine.{HasLeft, IsSaid, SaysOneLine}
use Rattle.range_command.specs.Command.{IsOfSystem, IsTold, World}
use Rattle.range_command.specs.Outlet.{AppendsOrFails, IsKnown}
use Rattle.range_command.specs.RefusalText.{IsOfOneLine, IsTelling, line_of, refusal_text, short_line}
use Rattle.range_command.specs.declared.refusal.Refusal.{Refusal}
use Rattle.range_command.specs.declared.refusal.Refusal.TheVariants as refusals
use Rattle.range_command.proofs.OneLine.{refusal_line, short_is_one_line}
use Rattle.clap.specs.Words.{Text}

-- what words are told is no text of many lines
pub told_in_one : (said : List Text) (w : World) (refusal : Refusal) → IsTold said w refusal → IsOfOneLine refusal
told_in_one said w refusals.OutOfMemory told = tt
told_in_one said w (refusals.NotText word) told = tt
told_in_one said w (refusals.BadWords line) told = tt
told_in_one said w (refusals.CommandLine fault) told = told.0
told_in_one said w (refusals.Unopened path reason) told = tt
told_in_one said w (refusals.Unwritten reason) told = tt
told_in_one said w (refusals.Run files fault reason) told = tt

-- a refusal of the system is no text of many lines
pub system_in_one : (refusal : Refusal) → IsOfSystem refusal → IsOfOneLine refusal
system_in_one refusals.OutOfMemory told = tt
system_in_one (refusals.NotText word) told = tt
system_in_one (refusals.BadWords line) told = absurd told
system_in_one (refusals.CommandLine fault) told = absurd told
system_in_one (refusals.Unopened path reason) told = absurd told
system_in_one (refusals.Unwritten reason) told = absurd told
system_in_one (refusals.Run files fault reason) told = absurd told

-- a text that was written, whole or up to a call that failed
written_or_failed : {T : Type 0} (text : List ℕ) (old new : Option (List ℕ)) (last_failure : Option (Option Error)) (r : Result T Error)
    → OnOk r (Appends old new text) → OnErr r (AppendsPrefix old new text) → IfErr r (λ error. IsKnown (Some error) last_failure)
    → AppendsOrFails last_failure old new text
written_or_failed text old new last_failure (Ok done) written prefix failed = inl written
written_or_failed text old new last_failure (Err error) written prefix failed = inr ((error, failed), prefix)

-- such a text is the line of the refusal, or the short one where there was no memory for that
pub told_or_failed : {T : Type 0} (refusal : Refusal) (line : Result (String Global) AllocError) (text : List ℕ) (old new : Option (List ℕ))
    (last_failure : Option (Option Error)) (r : Result T Error)
    → IfOk line (λ l. string_bytes l ≡ line_of (refusal_text refusal)) → IfOk line (λ l. text ≡ string_bytes l) → IfErr line (λ _. text ≡ short_line refusal)
    → OnOk r (Appends old new text) → OnErr r (AppendsPrefix old new text) → IfErr r (λ error. IsKnown (Some error) last_failure)
    → IsTelling refusal last_failure old new
told_or_failed refusal (Ok l) text old new last_failure r is whole short written prefix failed =
    inl (subst (λ (t : List ℕ). AppendsOrFails last_failure old new t) (whole ∙ is) (written_or_failed text old new last_failure r written prefix failed))
told_or_failed refusal (Err refused) text old new last_failure r is whole short written prefix failed =
    inr (subst (λ (t : List ℕ). AppendsOrFails last_failure old new t) short (written_or_failed text old new last_failure r written prefix failed))

-- what was told by what is known of the output's last failure is said
pub said_or_left : {X : Type 0} (last : Option (Option Error)) (contents : X → Option (List ℕ)) (last_failure : X → Option (Option Error)) (refusal : Refusal)
    (old new : X) (failure : Option Error) (left : Bool)
    → IsKnown failure last → (left ≡ true → HasLeft failure) → (left ≡ false → ¬ (HasLeft failure)) → (left ≡ true → new ≡ old)
    → (left ≡ false → IsTelling refusal (last_failure new) (contents old) (contents new))
    → IsSaid last refusal contents last_failure old new
said_or_left last contents last_failure refusal old new failure true known has_left has_not kept told = (failure, known, inl (has_left refl, kept refl))
said_or_left last contents last_failure refusal old new failure false known has_left has_not kept told = (failure, known, inr (has_not refl, told refl))

line_in_one : (refusal : Refusal) (last_failure : Option (Option Error)) (old new : Option (List ℕ)) → IsOfOneLine refusal
    → IsTelling refusal last_failure old new → (text : List ℕ) × IsOneLine text × AppendsOrFails last_failure old new (line_of text)
line_in_one refusal last_failure old new alone (inl told) = (refusal_text refusal, refusal_line refusal alone, told)
line_in_one refusal last_failure old new alone (inr told) =
    let line = short_is_one_line refusal in (line.0, line.1, subst (λ (l : List ℕ). AppendsOrFails last_failure old new l) line.2 told)

in_one : {X : Type 0} (contents : X → Option (List ℕ)) (last_failure : X → Option (Option Error)) (failure : Option Error) (refusal : Refusal) (old new : X)
    → IsOfOneLine refusal
    → (HasLeft failure × (new ≡ old)) ⊎ (¬ (HasLeft failure) × IsTelling refusal (last_failure new) (contents old) (contents new))
    → (HasLeft failure × (new ≡ old))
    ⊎ ((text : List ℕ) × IsOneLine text × AppendsOrFails (last_failure new) (contents old) (contents new) (line_of text))
in_one contents last_failure failure refusal old new alone (inl left) = inl left
in_one contents last_failure failure refusal old new alone (inr said) =
    inr (line_in_one refusal (last_failure new) (contents old) (contents new) alone said.1)

-- what is said is one line
pub said_in_one : {X : Type 0} (last : Option (Option Error)) (contents : X → Option (List ℕ)) (last_failure : X → Option (Option Error)) (refusal : Refusal)
    (old new : X) → IsOfOneLine refusal → IsSaid last refusal contents last_failure old new → SaysOneLine last contents last_failure old new
said_in_one last contents last_failure refusal old new alone said =
    (said.0, said.1, in_one contents last_failure said.0 refusal old new alone said.2)
