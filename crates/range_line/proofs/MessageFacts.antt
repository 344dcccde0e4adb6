-- Laws of lines and of their messages.
use Rattle.std.proofs.Common.{◌≡◌, ℕ, Bool, true, false, List, [], ◌∷◌, ◌++◌, length, sym, refl, ap, ◌∙◌, subst, length-append, arith}
use Rattle.std.specs.Prelude.{◌==◌, Contains, cond, slice_index_or}
use Rattle.std.proofs.lemmas.List.{append-nil}
use Rattle.range_line.specs.declared.message.Message.{Message}
use Rattle.range_line.specs.Messages.{of_file, all_fixes, fixes, fixes_in, has_mark, IsOrderly}
use Rattle.range_line.specs.Laws.{IsInOrder, LinesAreInOrder, TheMarkIsLast, MessagesAddTheirFixes, LastMessagesComeNext}
use Rattle.range_line.proofs.Orderly.{joined_append, of_file_append, of_file_push, mark_is_last, no_cons}
use Rattle.range_line.proofs.RuleSteps.{At}
use Rattle.range_line.proofs.EndFacts.{at_or}

contains_at : {A : Type 0} (xs : List A) (x : A) → Contains xs x → (k : ℕ) × At xs k x
contains_at xs x c = (c.0, subst (At xs c.0) c.2 (at_or xs c.0 x c.1))

-- where the rule holds, what a line's taker has taken and what the channel holds are in order
pub lines_are_in_order : LinesAreInOrder
lines_are_in_order items views taker ruled has takes =
    let carried = ruled.carried in
    let pass = contains_at views taker has in
    let mine = (carried.each pass.0 taker pass.1).takes takes in
    let all = ruled.taken ++ items in
    subst (λ (x : List Message × List ℕ × ℕ). IsInOrder x.0 items x.1 x.2 views) (λ i. (sym mine.1 i, sym mine.2 i, sym mine.3 i))
    record {
      of_line = λ k d less. carried.of_line k (slice_index_or all k d) (at_or all k d less);
      sent = λ v t a b. let p = contains_at views v a in let q = contains_at v.transcripts t b in ((carried.each p.0 v p.1).shows q.0 t q.1).0.sent;
      lawful = carried.lawful;
      closed = λ v t a b. let p = contains_at views v a in let q = contains_at v.transcripts t b in ((carried.each p.0 v p.1).shows q.0 t q.1).0.closed;
      room = ruled.room;
    }

-- a beginning of a file's lawful messages that holds the mark is all of them
pub the_mark_is_last : TheMarkIsLast
the_mark_is_last messages beginning file lawful prefix marked =
    sym (append-nil beginning) ∙ ap (λ l. beginning ++ l) (sym (mark_is_last beginning prefix.0 (subst IsOrderly (sym prefix.1) lawful) marked)) ∙ prefix.1

joined_if : (b : Bool) (m : Message) → all_fixes (cond b (m ∷ []) []) ≡ cond b (fixes_in m.body) []
joined_if true m = append-nil (fixes_in m.body)
joined_if false m = refl

-- one more message adds its fixes to those of its file, and none to those of another
pub messages_add_their_fixes : MessagesAddTheirFixes
messages_add_their_fixes messages m file =
    ap all_fixes (of_file_append messages (m ∷ []) file) ∙ joined_append (of_file messages file) (of_file (m ∷ []) file)
    ∙ ap (λ l. fixes messages file ++ l) (joined_if (m.file == file) m)

not_true : (b : Bool) → (b ≡ true → ⊥) → b ≡ false
not_true true not_so = absurd (not_so refl)
not_true false not_so = refl

-- where messages with m last are lawful for its file, m may come next behind the others
pub last_messages_come_next : LastMessagesComeNext
last_messages_come_next messages m lawful =
    let before = of_file messages m.file in
    let orderly = subst IsOrderly (of_file_push messages m) lawful in
    let placed = orderly.each before m [] refl in
    let room = orderly.room in
    record {
      place = placed.place;
      body = placed.body;
      room = omega (
        arith,
        ap length (joined_append before (m ∷ [])),
        length-append (all_fixes before) (all_fixes (m ∷ [])),
        ap length (append-nil (fixes_in m.body)),
      );
      unmarked = not_true (has_mark before) (λ marked. no_cons m [] (sym (mark_is_last before (m ∷ []) orderly marked)));
    }
