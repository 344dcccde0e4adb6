-- What is known of a pass after each step.
use Rattle.std.proofs.Common.{Result, Ok, Err, ◌≡◌, ℕ, Bool, true, false, not, List, [], ◌∷◌, ◌++◌, length, get_or, sym, refl, ap, ◌∙◌, subst, ◌+◌, ◌≤◌, ⊎_elim}
use Rattle.std.proofs.Common.{◌||◌, true≢false, length-append, arith}
use Rattle.std.specs.Prelude.{Contains, IfSome, MatchResult}
use Rattle.std.specs.Result.{result_ok}
use Rattle.atomic_table.specs.declared.badge.Badge.{Badge}
use Rattle.crossbeam_channel.specs.declared.flavors.array.Key.{Key}
use Rattle.crossbeam_channel.specs.declared.flavors.array.Doing.{Doing}
use Rattle.crossbeam_channel.specs.declared.flavors.array.Rows.{Rows}
use Rattle.crossbeam_channel.specs.Claims.{view, IsSeatAt}
use Rattle.range_plane.specs.Fix.{fix_limit}
use Rattle.range_plane.specs.declared.Fix.{Fix}
use Rattle.range_options.specs.Limits.{block_limit}
use Rattle.range_line.specs.declared.message.Body.{Body}
use Rattle.range_line.specs.declared.message.Message.{Message}
use Rattle.range_line.specs.declared.rule.PassView.{PassView}
use Rattle.range_line.specs.Messages.{block_of, the_mark, of_file, all_fixes, fixes_in, is_mark, has_mark, IsFit, IsOrderly, IsLawful}
use Rattle.range_line.specs.Rule.{feeder_pass, taker_pass, IsRuled, after_sending, Takes, IsRest, after_ending, after_joining, spent_pass}
use Rattle.crossbeam_channel.specs.Fifo.{Pushes, Pops, Forks, Merges, Learns}
use Rattle.std.proofs.lemmas.List.{append-nil}
use Rattle.range_line.proofs.Orderly.{joined_append, of_file_push, orderly_push, has_mark_push}
use Rattle.range_line.proofs.RuleSteps.{sends, takes, completes, ends, joins, At, at_end}
use Rattle.range_line.specs.LineEnds.{FeederView, TakerView, new_taker, next_message}
use Rattle.range_line.specs.Passes.{LinePass, first_known, line_of, first_sent, sent_by, may_send, taken_by, files_known, depth_known, IsFeeding, IsTaking}

-- two passes of one channel that show the same first file are of one line
pub same_line : {Q M L A : Type 0} (c : Rows (Badge (Key Message)) (Doing Message PassView) Q M (Key Message) L A) (a b : LinePass) → IsSeatAt c a
    → IsSeatAt c b → first_known a ≡ first_known b → line_of a ≡ line_of b
same_line c a b x y same i = ((x.0 ∙ sym y.0) i, (x.1 ∙ sym y.1) i, same i)

-- a pass of the same line, which holds no slot, is of the channel too
pub seat_of_line : {Q M L A : Type 0} (c : Rows (Badge (Key Message)) (Doing Message PassView) Q M (Key Message) L A) (a b : LinePass) → IsSeatAt c a
    → line_of b ≡ line_of a → b.me.1 ≡ [] → IsSeatAt c b
seat_of_line c a b x same free = (ap (λ l. l.0) same ∙ x.0, ap (λ l. l.1) same ∙ x.1, free, x.3)

-- a pass that shows what a feeder's shows, with orderly messages of its file alone as sent, is that of a feeder
pub feeding_of : (p : LinePass) (depth first file : ℕ) (sent : List Message) (closed may : Bool) (fixes : ℕ)
    → view p ≡ feeder_pass depth first file sent closed may → of_file sent file ≡ sent → IsOrderly sent → has_mark sent ≡ closed → fixes ≡ length (all_fixes sent)
    → IsFeeding p depth file closed fixes
feeding_of p depth first file sent closed may fixes e own run marked count =
    let all : (view p ≡ feeder_pass depth (first_known p) file (sent_by p) closed (may_send p)) × (of_file (sent_by p) file ≡ sent_by p) × IsOrderly (sent_by p)
    × (has_mark (sent_by p) ≡ closed) × (fixes ≡ length (all_fixes (sent_by p))) =
    subst (λ (v : PassView). (v ≡ feeder_pass depth (get_or v.files 0 0) file (first_sent v.transcripts) closed v.sends)
    × (of_file (first_sent v.transcripts) file ≡ first_sent v.transcripts) × IsOrderly (first_sent v.transcripts)
    × (has_mark (first_sent v.transcripts) ≡ closed) × (fixes ≡ length (all_fixes (first_sent v.transcripts)))) (sym e)
    (refl, own, run, marked, count) in
    record { shows = all.0; own = all.1; orderly = all.2; marked = all.3; count = all.4 }

-- what contracts see of the feeder of this pass
abbrev pub seen_as : LinePass → ℕ → Bool → FeederView
seen_as p file closed = record { line = line_of p; file = file; sent = sent_by p; closed = closed; ended = not (may_send p) }

-- what contracts see of the taker of a new line
abbrev pub new_view : LinePass → TakerView
new_view p = record { line = line_of p; files = files_known p; depth = depth_known p; taken = taken_by p; ended = false }

-- a taker's pass that has taken nothing and taken in no feeder is seen as the taker of a new line
pub new_taker_view : (p : LinePass) (files : List ℕ) (depth : ℕ) → view p ≡ taker_pass (view p).depth files [] [] → (view p).depth ≡ depth
    → new_view p ≡ new_taker (line_of p) files depth
new_taker_view p files depth e deep i = record { line = line_of p; files = (e i).files; depth = deep i; taken = (e i).taken; ended = false }

may : (b : Bool) → not b ≡ false → b ≡ true
may true e = refl
may false e = absurd (true≢false e)

-- the feeder of this pass, seen as f, is open, and m is its next message, with this body
pub record IsNext (p : LinePass) (depth file : ℕ) (closed : Bool) (fixes : ℕ) (f : FeederView) (body : Body) (m : Message) : Type 0 where
  pub feeding : IsFeeding p depth file closed fixes
  pub seen : seen_as p file closed ≡ f
  pub live : (f.closed ≡ false) × (f.ended ≡ false)
  pub next : m ≡ next_message f body
  pub fit : IsFit body []
  pub room : length (all_fixes f.sent) + length (fixes_in body) ≤ fix_limit

-- what IsNext says of the pass alone
record Follows (p : LinePass) (depth file : ℕ) (m : Message) : Type 0 where
  shows : view p ≡ feeder_pass depth (first_known p) file (sent_by p) false true
  unmarked : has_mark (sent_by p) ≡ false
  is : m.file ≡ file
  place : m.place ≡ length (all_fixes (sent_by p))
  fit : IsFit m.body []
  room : length (all_fixes (sent_by p)) + length (fixes_in m.body) ≤ fix_limit

module _ (p : LinePass) (depth file : ℕ) (closed : Bool) (fixes : ℕ) (f : FeederView) (body : Body) (m : Message)
    (n : IsNext p depth file closed fixes f body m) where
  follows : Follows p depth file m
  follows =
      let open_ = ap (λ (x : FeederView). x.closed) n.seen ∙ n.live.0 in
      let live = may (may_send p) (ap (λ (x : FeederView). x.ended) n.seen ∙ n.live.1) in
      let sent = ap (λ (x : FeederView). length (all_fixes x.sent)) n.seen in
      record {
        shows = n.feeding.shows ∙ (λ i. feeder_pass depth (first_known p) file (sent_by p) (open_ i) (live i));
        unmarked = n.feeding.marked ∙ open_;
        is = ap (λ (x : Message). x.file) n.next ∙ sym (ap (λ (x : FeederView). x.file) n.seen);
        place = ap (λ (x : Message). x.place) n.next ∙ sym sent;
        fit = subst (λ b. IsFit b []) (sym (ap (λ (x : Message). x.body) n.next)) n.fit;
        room = let room = n.room in omega (arith, sent, ap (λ (x : Message). length (fixes_in x.body)) n.next);
      }

  -- it may be sent
  pub pushes : Pushes IsRuled depth p.id (view p) m (λ w. w ≡ after_sending (view p) m)
  pushes = let t = follows in
      subst (λ (v : PassView). Pushes IsRuled depth p.id v m (λ w. w ≡ after_sending v m)) (sym t.shows)
      (sends depth p.id (first_known p) file (sent_by p) m t.is n.feeding.orderly t.unmarked t.place t.fit t.room)

  -- and the pass is then this one
  pub pushed : (q : LinePass) → view q ≡ after_sending (view p) m → IsFeeding q depth file (is_mark body) (fixes + length (fixes_in body))
  pushed q e =
      let t = follows in
      let sent = sent_by p in
      let known : view q ≡ feeder_pass depth (first_known p) file (sent ++ m ∷ []) (is_mark m.body) true = e ∙ ap (λ v. after_sending v m) t.shows in
      let count = n.feeding.count in
      subst (λ b. IsFeeding q depth file (is_mark b) (fixes + length (fixes_in b))) (ap (λ (x : Message). x.body) n.next)
      (feeding_of q depth (first_known p) file (sent ++ m ∷ []) (is_mark m.body) true (fixes + length (fixes_in m.body)) known
      (ap (of_file (sent ++ m ∷ [])) (sym t.is) ∙ of_file_push sent m ∙ ap (λ l. l ++ m ∷ []) (ap (of_file sent) t.is ∙ n.feeding.own))
      (orderly_push sent m n.feeding.orderly t.unmarked t.place t.fit t.room)
      (has_mark_push sent m ∙ ap (λ b. b || is_mark m.body) t.unmarked)
      (omega (arith, ap length (joined_append sent (m ∷ [])), length-append (all_fixes sent) (all_fixes (m ∷ [])), ap length (append-nil (fixes_in m.body)))))

-- a block of at least one fix and at most the limit, for which there is room, may be an open feeder's next message
pub block_is_next : (p : LinePass) (depth file : ℕ) (closed : Bool) (fixes : ℕ) (f : FeederView) (given block : List Fix) (m : Message)
    → IsFeeding p depth file closed fixes → seen_as p file closed ≡ f
    → (f.closed ≡ false) × (f.ended ≡ false) → (1 ≤ length given) × (length given ≤ block_limit) → length (all_fixes f.sent) + length given ≤ fix_limit
    → block ≡ given → m ≡ next_message f (block_of block)
    → IsNext p depth file closed fixes f (block_of block) m
block_is_next p depth file closed fixes f given block m feeding seen live size room is next = record {
  feeding = feeding;
  seen = seen;
  live = live;
  next = next;
  fit = subst (λ l. (1 ≤ length l) × (length l ≤ block_limit)) (sym is) size;
  room = omega (arith, room, ap length is);
}

-- the mark may be an open feeder's next message
pub mark_is_next : (p : LinePass) (depth file : ℕ) (closed : Bool) (fixes : ℕ) (f : FeederView) (m : Message) → IsFeeding p depth file closed fixes
    → seen_as p file closed ≡ f
    → (f.closed ≡ false) × (f.ended ≡ false) → m ≡ next_message f the_mark → IsNext p depth file closed fixes f the_mark m
mark_is_next p depth file closed fixes f m feeding seen live next = record {
  feeding = feeding;
  seen = seen;
  live = live;
  next = next;
  fit = refl;
  room = let room = feeding.orderly.room in omega (arith, ap (λ (x : FeederView). length (all_fixes x.sent)) seen);
}

-- what IsTaking says, of what a pass shows
abbrev TakesAs : PassView → Type 0
TakesAs v = (v ≡ taker_pass v.depth v.files v.taken v.transcripts) × ((file : ℕ) → IsLawful v.taken file)
    × ((k : ℕ) (m : Message) → At v.taken k m → Contains v.files m.file)

-- a pass that shows what a taker's shows is that of a taker
pub taking_of : (p : LinePass) (v : PassView) → view p ≡ v → TakesAs v → IsTaking p
taking_of p v e t = let u = subst TakesAs (sym e) t in record { shows = u.0; lawful = u.1; of_line = u.2 }

-- a taker's pass may take the message at the front
pub pops : (p : LinePass) → IsTaking p → Pops IsRuled p.id (view p) (Takes (view p))
pops p t = let v = view p in subst (λ (u : PassView). Pops IsRuled p.id u (Takes u)) (sym t.shows) (takes p.id v.depth v.files v.taken v.transcripts)

-- a taker's pass learns that what the channel holds is the rest
pub learns : (p : LinePass) → IsTaking p → Learns IsRuled p.id (view p) (λ items. IsRest (view p) items)
learns p t = let v = view p in subst (λ (u : PassView). Learns IsRuled p.id u (λ items. IsRest u items)) (sym t.shows)
    (completes p.id v.depth v.files v.taken v.transcripts)

pub popped : (p q : LinePass) (m : Message) → IsTaking p → Takes (view p) m (view q) → IsTaking q
popped p q m t e = taking_of q (let v = view p in record v { taken = v.taken ++ m ∷ [] }) e.0 (
  ap (λ (v : PassView). let w : PassView = record v { taken = v.taken ++ m ∷ [] } in w) t.shows,
  e.2,
  λ k u h. ⊎_elim (λ (x : At (taken_by p) k u). t.of_line k u x) (λ (x : (k ≡ length (taken_by p)) × (m ≡ u)). subst
      (λ (y : Message). Contains (files_known p) y.file) x.1 e.1) (at_end (taken_by p) m u k h),
)

-- what a receive leaves, whether a message came or not: where none came, what is known then has it that nothing changed
pub received : {E N : Type 0} (p q : LinePass) (none : N → view q ≡ view p) (r : Result Message E) → IsTaking p
    → MatchResult r (λ m. Takes (view p) m (view q)) (λ _. N) → IsTaking q
received p q none (Ok m) t e = popped p q m t e
received p q none (Err _) t e = taking_of q (view p) (none e) (t.shows, t.lawful, t.of_line)

-- a receive leaves the files of the line as they were
pub received_files : {E : Type 0} (Z : Type 0) (p q : LinePass) (r : Result Message E)
    → MatchResult r (λ m. Takes (view p) m (view q)) (λ _. (view q ≡ view p) × Z) → files_known q ≡ files_known p
received_files Z p q (Ok m) e = ap (λ (v : PassView). v.files) e.0
received_files Z p q (Err _) e = ap (λ (v : PassView). v.files) e.0

-- a message that a receive gives is of a file of the line
pub received_of_line : {E : Type 0} (N : Type 0) (p q : LinePass) (r : Result Message E) → MatchResult r (λ m. Takes (view p) m (view q)) (λ _. N)
    → IfSome (result_ok r) (λ m. Contains (files_known p) m.file)
received_of_line N p q (Ok m) e = e.1
received_of_line N p q (Err _) e = tt

-- a feeder's pass once it has ended
pub ended_of : (p q : LinePass) (depth file : ℕ) (closed : Bool) (fixes : ℕ) → IsFeeding p depth file closed fixes → view q ≡ after_ending (view p)
    → view q ≡ feeder_pass depth (first_known p) file (sent_by p) closed false
ended_of p q depth file closed fixes f e = e ∙ ap after_ending f.shows

-- a feeder's pass may end, with a new pass that shows the same as it then does
pub forks : (p : LinePass) (depth file : ℕ) (closed : Bool) (fixes : ℕ) → IsFeeding p depth file closed fixes
    → Forks IsRuled p.id (view p) (after_ending (view p)) (after_ending (view p))
forks p depth file closed fixes f = subst (λ (v : PassView). Forks IsRuled p.id v (after_ending v) (after_ending v)) (sym f.shows)
    (ends p.id depth (first_known p) file (sent_by p) closed (may_send p))

-- a taker's pass may take in that of a feeder that has ended, which is then spent
pub merges : (p q : LinePass) (depth first file : ℕ) (sent : List Message) (closed : Bool) → IsTaking p
    → view q ≡ feeder_pass depth first file sent closed false → Merges IsRuled p.id (view p) q.id (view q) (after_joining (view p) (view q)) spent_pass
merges p q depth first file sent closed t e = let v = view p in
    subst (λ (x : PassView × PassView). Merges IsRuled p.id x.0 q.id x.1 (after_joining x.0 x.1) spent_pass) (λ i. (sym t.shows i, sym e i))
    (joins p.id v.depth v.files v.taken v.transcripts q.id depth first file sent closed)

-- a taker's pass that has taken in another is still that of a taker
pub merged : (p q r : LinePass) → IsTaking p → view r ≡ after_joining (view p) (view q) → IsTaking r
merged p q r t e = taking_of r (after_joining (view p) (view q)) e (ap (λ v. after_joining v (view q)) t.shows, t.lawful, t.of_line)
