-- What is known of a line that ends.
use Rattle.std.proofs.Common.{Result, Ok, Err, ◌≡◌, ℕ, zero, suc, ◌+◌, ◌<◌, List, [], ◌∷◌, ◌++◌, map, take, drop, set, length, sym, refl, ap, ◌∙◌, subst}
use Rattle.std.proofs.Common.{append_assoc, arith}
use Rattle.std.specs.Prelude.{All, MatchResult, IfNone, slice_index_or}
use Rattle.std.specs.List.Sorted.{IsPermutation}
use Rattle.std.proofs.lemmas.List.Elements.{All-map}
use Rattle.std.specs.Result.{result_ok}
use Rattle.std.proofs.lemmas.List.{append-nil, map-append}
use mathlib.Core.Option.{some, some-injective}
use Rattle.crossbeam_channel.specs.Claims.{view}
use Rattle.crossbeam_channel.specs.Fifo.{Held}
use Rattle.range_line.specs.declared.message.Message.{Message}
use Rattle.range_line.specs.declared.rule.Transcript.{Transcript}
use Rattle.range_line.specs.declared.rule.PassView.{PassView}
use Rattle.range_line.specs.Messages.{of_file, IsOrderly}
use Rattle.range_line.specs.Rule.{Takes, IsRest}
use Rattle.range_line.specs.LineEnds.{Line, FeederView, ended_feeder, AreForFiles, AreOfLine, IsTakenOf}
use Rattle.range_line.specs.Passes.{LinePass, taken_by, transcript_of, after_joining_all, AreOf, HasTranscripts}
use Rattle.range_line.proofs.RuleSteps.{At, not_in_none}
use Rattle.range_line.proofs.Orderly.{of_file_append, mark_is_last}

-- a read within the list gives the member at its index, whatever the default
pub at_or : {A : Type 0} (xs : List A) (k : ℕ) (d : A) → k < length xs → At xs k (slice_index_or xs k d)
at_or [] k d less = absurd (omega arith)
at_or (x ∷ xs) zero d less = refl
at_or (x ∷ xs) (suc k) d less = at_or xs k d (omega arith)

pub or_at : {A : Type 0} (xs : List A) (k : ℕ) (d x : A) → At xs k x → slice_index_or xs k d ≡ x
or_at [] k d x at = absurd (not_in_none k x at)
or_at (y ∷ ys) zero d x at = some-injective y x at
or_at (y ∷ ys) (suc k) d x at = or_at ys k d x at

pub at_less : {A : Type 0} (xs : List A) (k : ℕ) (x : A) → At xs k x → k < length xs
at_less [] k x at = absurd (not_in_none k x at)
at_less (y ∷ ys) zero x at = omega arith
at_less (y ∷ ys) (suc k) x at = let h = at_less ys k x at in omega arith

at_after : {A : Type 0} (xs ys : List A) (k : ℕ) (y : A) → At ys k y → At (xs ++ ys) (length xs + k) y
at_after [] ys k y at = let e : k ≡ 0 + k = omega arith in subst (λ n. At ys n y) e at
at_after (x ∷ xs) ys k y at = let e : suc (length xs + k) ≡ suc (length xs) + k = omega arith in subst (λ n. At (x ∷ xs ++ ys) n y) e (at_after xs ys k y at)

at_map : {A B : Type 0} (f : A → B) (xs : List A) (k : ℕ) (x : A) → At xs k x → At (map f xs) k (f x)
at_map f [] k x at = absurd (not_in_none k x at)
at_map f (y ∷ ys) zero x at = ap (λ z. some (f z)) (some-injective y x at)
at_map f (y ∷ ys) (suc k) x at = at_map f ys k x at

at_settled : (fs : List FeederView) (k : ℕ) (f : FeederView) → At (map ended_feeder fs) k f → (e : FeederView) × At fs k e × (ended_feeder e ≡ f)
at_settled [] k f at = absurd (not_in_none k f at)
at_settled (e ∷ es) zero f at = (e, refl, some-injective (ended_feeder e) f at)
at_settled (e ∷ es) (suc k) f at = at_settled es k f at

-- ending the feeder at k
pub settles_at : (fs : List FeederView) (k : ℕ) (f : FeederView) → At fs k f
    → set (map ended_feeder (take k fs) ++ drop k fs) k (ended_feeder f) ≡ map ended_feeder (take (suc k) fs) ++ drop (suc k) fs
settles_at [] k f at = absurd (not_in_none k f at)
settles_at (e ∷ es) zero f at = λ i. ended_feeder (sym (some-injective e f at) i) ∷ es
settles_at (e ∷ es) (suc k) f at = ap (λ l. ended_feeder e ∷ l) (settles_at es k f at)

-- the feeder at index k, once those before it have ended, is the one that was there
pub unsettled_at : (fs : List FeederView) (k : ℕ) (f : FeederView) → At (map ended_feeder (take k fs) ++ drop k fs) k f → At fs k f
unsettled_at [] zero f at = at
unsettled_at [] (suc k) f at = absurd (not_in_none (suc k) f at)
unsettled_at (e ∷ es) zero f at = at
unsettled_at (e ∷ es) (suc k) f at = unsettled_at es k f at

take_at : {A : Type 0} (xs : List A) (k : ℕ) (x : A) → At xs k x → take (suc k) xs ≡ take k xs ++ x ∷ []
take_at [] k x at = absurd (not_in_none k x at)
take_at (y ∷ ys) zero x at = ap (λ z. z ∷ []) (some-injective y x at)
take_at (y ∷ ys) (suc k) x at = ap (λ l. y ∷ l) (take_at ys k x at)

-- to take in the feeders before index k and then the one at k is to take in the first k + 1
pub shows_at : (v : PassView) (fs : List FeederView) (k : ℕ) (f : FeederView) → At fs k f
    → after_joining_all (after_joining_all v (take k fs)) (f ∷ []) ≡ after_joining_all v (take (suc k) fs)
shows_at v fs k f at = ap (λ (l : List Transcript). let w : PassView = record v { transcripts = l } in w)
    (append_assoc v.transcripts (map transcript_of (take k fs)) (transcript_of f ∷ [])
    ∙ ap (λ l. v.transcripts ++ l) (sym (map-append transcript_of (take k fs) (f ∷ [])) ∙ ap (map transcript_of) (sym (take_at fs k f at))))

-- feeders that all name the line are of it, index by index
pub all_are : (line : Line) (fs : List FeederView) → All (λ f. f.line ≡ line) fs → AreOf line fs
all_are line fs all k f at = sym (all k f (at_less fs k f at)) ∙ ap (λ (x : FeederView). x.line) (or_at fs k f f at)

-- once they have ended the feeders are still of the line, index by index
pub are_settled : (line : Line) (fs : List FeederView) → AreOf line fs → AreOf line (map ended_feeder fs)
are_settled line fs are k f at = let e = at_settled fs k f at in are k e.0 e.1 ∙ ap (λ (x : FeederView). x.line) e.2

transcripts_of_ended : (fs : List FeederView) → map transcript_of (map ended_feeder fs) ≡ map transcript_of fs
transcripts_of_ended [] = refl
transcripts_of_ended (f ∷ fs) = ap (λ l. transcript_of f ∷ l) (transcripts_of_ended fs)

-- what the messages that are still to come make of what was taken
compared_at : (taken items : List Message) (f : FeederView) → of_file (taken ++ items) f.file ≡ f.sent → IsOrderly (of_file (taken ++ items) f.file)
    → IsTakenOf taken f
compared_at taken items f sent run =
    let parts = of_file_append taken items f.file in
    record {
      prefix = (of_file items f.file, sym parts ∙ sent);
      marked = λ mark. sym (append-nil (of_file taken f.file)) ∙ ap (λ l. of_file taken f.file ++ l)
          (sym (mark_is_last (of_file taken f.file) (of_file items f.file) (subst IsOrderly parts run) mark)) ∙ sym parts ∙ sent;
    }

sent_at : (v : PassView) (items : List Message) (before : List Transcript) (fs : List FeederView) (k : ℕ) (f : FeederView) → IsRest v items
    → v.transcripts ≡ before ++ map transcript_of fs → At fs k f → of_file (v.taken ++ items) f.file ≡ f.sent
sent_at v items before fs k f c is at = c.sent (length before + k) (transcript_of f)
    (subst (λ l. At l (length before + k) (transcript_of f)) (sym is)
    (at_after before (map transcript_of fs) k (transcript_of f) (at_map transcript_of fs k f at)))

-- where the rest is known, a beginning of what each feeder sent was taken, and all of it where its mark was
pub compared : (p : LinePass) (items : List Message) (fs : List FeederView) → IsRest (view p) items → HasTranscripts p fs
    → All (λ f. IsTakenOf (taken_by p) f) fs
compared p items fs c s k d less = let f = slice_index_or fs k d in
    compared_at (taken_by p) items f (sent_at (view p) items s.before fs k f c s.is (at_or fs k d less)) (c.lawful f.file)

none_left : (items : List Message) → length items ≡ 0 → items ≡ []
none_left [] e = refl
none_left (m ∷ ms) e = absurd (omega arith)

-- where no message came, all was taken
pub whole : {E : Type 0} (p q : LinePass) (r : Result Message E) (fs : List FeederView) → HasTranscripts q fs
    → MatchResult r (λ m. Takes (view p) m (view q)) (λ _. (view q ≡ view p) × Held 0 (λ items. IsRest (view p) items))
    → IfNone (result_ok r) (All (λ f. of_file (taken_by q) f.file ≡ f.sent) fs)
whole p q (Ok m) fs s e = tt
whole p q (Err _) fs s e = λ k d less.
    let f = slice_index_or fs k d in
    let h = e.1 in
    let none = none_left h.0 h.1 in
    let carried = subst (λ (v : PassView). IsRest v h.0) (sym e.0) h.2 in
    ap (λ l. of_file l f.file) (sym (append-nil (taken_by q)) ∙ ap (λ l. taken_by q ++ l) (sym none))
    ∙ sent_at (view q) h.0 s.before fs k f carried s.is (at_or fs k d less)

-- a pass that has taken in those of these feeders has their transcripts, last
pub has_transcripts : (p q : LinePass) (fs : List FeederView) → view q ≡ after_joining_all (view p) fs → HasTranscripts q fs
has_transcripts p q fs e = record { before = (view p).transcripts; is = ap (λ (v : PassView). v.transcripts) e }

-- after a receive the pass has the same transcripts, of feeders that have ended
pub received_transcripts : {E : Type 0} (Z : Type 0) (p q : LinePass) (r : Result Message E) (fs : List FeederView) → HasTranscripts p fs
    → MatchResult r (λ m. Takes (view p) m (view q)) (λ _. (view q ≡ view p) × Z) → HasTranscripts q (map ended_feeder fs)
received_transcripts Z p q (Ok m) fs s e = record {
  before = s.before;
  is = ap (λ (v : PassView). v.transcripts) e.0 ∙ s.is
      ∙ ap (λ l. s.before ++ l) (sym (transcripts_of_ended fs));
}
received_transcripts Z p q (Err _) fs s e = record {
  before = s.before;
  is = ap (λ (v : PassView). v.transcripts) e.0 ∙ s.is
      ∙ ap (λ l. s.before ++ l) (sym (transcripts_of_ended fs));
}

-- once they have ended the feeders are still of the line
pub ended_of_line : (line : Line) (fs : List FeederView) → AreOfLine fs line → AreOfLine (map ended_feeder fs) line
ended_of_line line fs all = All-map (λ (f : FeederView). f.line ≡ line) ended_feeder fs all

ended_files : (fs : List FeederView) → map (λ f. f.file) (map ended_feeder fs) ≡ map (λ f. f.file) fs
ended_files [] = refl
ended_files (f ∷ fs) = ap (λ l. f.file ∷ l) (ended_files fs)

-- once they have ended the feeders are still for the same files
pub ended_for_files : (fs : List FeederView) (files : List ℕ) → AreForFiles fs files → AreForFiles (map ended_feeder fs) files
ended_for_files fs files all = subst (λ l. IsPermutation l files) (sym (ended_files fs)) all
