-- Each step keeps the rule of a line.
use Rattle.std.proofs.Common.{◌≡◌, ◌≢◌, ℕ, zero, suc, ◌+◌, ◌≤◌, ◌⊎◌, Bool, true, false, true≢false, ◌||◌, List, [], ◌∷◌, ◌++◌, length, get_or, set, inl, inr}
use Rattle.std.proofs.Common.{⊎_elim, sym, refl, ap, ◌∙◌, subst, append_assoc, length-append, arith, ne_eqb}
use Rattle.std.specs.Prelude.{Contains, cond}
use Rattle.std.proofs.lemmas.List.Elements.{Contains-append_left, Contains-append_right}
use Rattle.std.proofs.lemmas.Bool.{cases_eq}
use mathlib.Core.Option.{some, some-injective, some-ne-none}
use lib.ListN.{get_elem?}
use Rattle.crossbeam_channel.specs.Fifo.{Pushes, Pops, Forks, Merges, Learns}
use Rattle.atomic_table.proofs.Lists.{at_set}
use Rattle.range_plane.specs.Fix.{fix_limit}
use Rattle.range_line.specs.declared.message.Message.{Message}
use Rattle.range_line.specs.declared.rule.Transcript.{Transcript}
use Rattle.range_line.specs.declared.rule.PassView.{PassView}
use Rattle.range_line.specs.Messages.{of_file, all_fixes, fixes_in, is_mark, has_mark, IsFit, IsOrderly, IsLawful}
use Rattle.range_line.specs.Rule.{transcript, feeder_pass, taker_pass, first_pass, spent_pass, IsTranscript, IsTruthful, SendAlone, IsCarried, IsRuled}
use Rattle.range_line.specs.Rule.{after_sending, Takes, IsRest, after_opening}
use Rattle.range_line.proofs.Orderly.{of_file_append, of_file_push, of_file_push_other, orderly_empty, orderly_prefix, orderly_push, has_mark_push}

-- x is the member at index k
abbrev pub At : {A : Type 0} → List A → ℕ → A → Type 0
At xs k x = get_elem? xs k ≡ some x

-- an empty list has no member at any index
pub not_in_none : {A : Type 0} (k : ℕ) (x : A) → At [] k x → ⊥
not_in_none k x e = some-ne-none x (sym e)

-- a member of a list with a at its end is one of the list, or a itself at the last index
pub at_end : {A : Type 0} (xs : List A) (a b : A) (j : ℕ) → At (xs ++ a ∷ []) j b → At xs j b ⊎ ((j ≡ length xs) × (a ≡ b))
at_end [] a b zero e = inr (refl, some-injective a b e)
at_end [] a b (suc j) e = absurd (some-ne-none b (sym e))
at_end (x ∷ xs) a b zero e = inl e
at_end {A} (x ∷ xs) a b (suc j) e = ⊎_elim (λ (t : At xs j b). inl t) (λ (t : (j ≡ length xs) × (a ≡ b)). inr (ap suc t.0, t.1)) (at_end xs a b j e)

pub at_one : {A : Type 0} (a b : A) (k : ℕ) → At (a ∷ []) k b → a ≡ b
at_one a b zero e = some-injective a b e
at_one a b (suc k) e = absurd (not_in_none k b e)

pub at_middle : {A : Type 0} (xs : List A) (a : A) (ys : List A) → At (xs ++ a ∷ ys) (length xs) a
at_middle [] a ys = refl
at_middle (x ∷ xs) a ys = at_middle xs a ys

none_in : (x : ℕ) → Contains [] x → ⊥
none_in x c = let l = c.1 in omega arith

short : (items : List Message) (depth : ℕ) → ((m : Message) (rest : List Message) → items ≡ m ∷ rest → ⊥) → length items ≤ depth
short [] depth never = omega arith
short (m ∷ rest) depth never = absurd (never m rest refl)

none_of : (ms : List Message) (file : ℕ) → ((k : ℕ) (m : Message) → At ms k m → m.file ≡ file → ⊥) → of_file ms file ≡ []
none_of [] file never = refl
none_of (m ∷ ms) file never = ap (λ b. cond b (m ∷ of_file ms file) (of_file ms file)) (ne_eqb m.file file (never 0 m refl))
    ∙ none_of ms file (λ k u e. never (suc k) u e)

pub at_append : {A : Type 0} (xs ys : List A) (k : ℕ) (a : A) → At (xs ++ ys) k a → At xs k a ⊎ ((l : ℕ) × At ys l a)
at_append [] ys k a e = inr (k, e)
at_append (x ∷ xs) ys zero a e = inl e
at_append (x ∷ xs) ys (suc k) a e = at_append xs ys k a e

abbrev Each : (ℕ → PassView → Type 0) → List PassView → Type 0
Each F views = (pass : ℕ) (v : PassView) → At views pass v → F pass v

each_set : (F : ℕ → PassView → Type 0) (views : List PassView) (pass : ℕ) (w : PassView) → F pass w → ((j : ℕ) (u : PassView) → j ≢ pass → At views j u → F j u)
    → Each F (set views pass w)
each_set F views pass w mine others j u e = ⊎_elim (λ (x : (j ≡ pass) × (w ≡ u)). subst (λ (y : ℕ × PassView). F y.0 y.1) (λ i. (sym x.0 i, x.1 i)) mine)
    (λ (x : (j ≢ pass) × At views j u). others j u x.0 x.1) (at_set views pass j w u e)

each_push : (F : ℕ → PassView → Type 0) (views : List PassView) (w : PassView) → F (length views) w → Each F views → Each F (views ++ w ∷ [])
each_push F views w mine others j u e = ⊎_elim (λ (x : At views j u). others j u x)
    (λ (x : (j ≡ length views) × (w ≡ u)). subst (λ (y : ℕ × PassView). F y.0 y.1) (λ i. (sym x.0 i, x.1 i)) mine) (at_end views w u j e)

-- what a pass may send or shows, it could send or showed before
record Covers (v w : PassView) : Type 0 where
  sends : w.sends ≡ true → v.sends ≡ true
  shows : (k : ℕ) (e : Transcript) → At w.transcripts k e → (l : ℕ) × (f : Transcript) × At v.transcripts l f × (f.file ≡ e.file)

covers_same : (v : PassView) → Covers v v
covers_same v = record { sends = λ s. s; shows = λ k e h. (k, e, h, refl) }

alone_covered : (views vs : List PassView) → SendAlone views → Each (λ p w. (v : PassView) × At views p v × Covers v w) vs → SendAlone vs
alone_covered views vs alone covered p q v w k l e f at_p at_q sends at_k at_l same =
    let a = covered p v at_p in let b = covered q w at_q in let c = a.2.shows k e at_k in let d = b.2.shows l f at_l in
    alone p q a.0 b.0 c.0 d.0 c.1 d.1 a.1 b.1 (a.2.sends sends) c.2 d.2 (c.3 ∙ same ∙ sym d.3)

alone_set : (views : List PassView) (pass : ℕ) (v w : PassView) → At views pass v → Covers v w → SendAlone views → SendAlone (set views pass w)
alone_set views pass v w at covers alone = alone_covered views (set views pass w) alone
    (each_set (λ p u. (t : PassView) × At views p t × Covers t u) views pass w (v, at, covers) (λ j u other e. (u, e, covers_same u)))

alone_push : (views : List PassView) (w : PassView) → SendAlone views
    → ((p : ℕ) (v : PassView) (k l : ℕ) (e f : Transcript) → At views p v → v.sends ≡ true → At v.transcripts k e → At w.transcripts l f → e.file ≡ f.file → ⊥)
    → ((p : ℕ) (v : PassView) (k l : ℕ) (e f : Transcript) → At views p v → w.sends ≡ true → At w.transcripts k e → At v.transcripts l f → e.file ≡ f.file → ⊥)
    → SendAlone (views ++ w ∷ [])
alone_push views w alone one other p q v u k l e f at_p at_q sends at_k at_l same =
    ⊎_elim (λ (a : At views p v).
    ⊎_elim (λ (b : At views q u). alone p q v u k l e f a b sends at_k at_l same)
    (λ (b : (q ≡ length views) × (w ≡ u)). absurd (one p v k l e f a sends at_k (subst (λ (x : PassView). At x.transcripts l f) (sym b.1) at_l) same))
    (at_end views w u q at_q))
    (λ (a : (p ≡ length views) × (w ≡ v)).
    let is = sym a.1 in
    let s = subst (λ (x : PassView). x.sends ≡ true) is sends in
    let h = subst (λ (x : PassView). At x.transcripts k e) is at_k in
    ⊎_elim (λ (b : At views q u). absurd (other q u k l e f b s h at_l same)) (λ (b : (q ≡ length views) × (w ≡ u)). a.0 ∙ sym b.0) (at_end views w u q at_q))
    (at_end views w v p at_p)

-- a new line has carried nothing
pub begins : IsRuled [] (first_pass ∷ [])
begins =
    record {
      reader = 0;
      taken = [];
      files = [];
      depth = 0;
      room = omega arith;
      carried = record {
        of_line = λ k m e. absurd (not_in_none k m e);
        lawful = λ file. orderly_empty;
        each = each_push (λ p v. IsTruthful 0 [] [] [] 0 p v) [] first_pass
            (record { takes = λ t. (refl, refl, refl, refl); shows = λ k e h. absurd (not_in_none k e h) }) (λ p v e. absurd (not_in_none p v e));
        alone = alone_push [] first_pass (λ p q v w k l e f h. absurd (not_in_none p v h)) (λ p v k l e f h. absurd (not_in_none p v h))
            (λ p v k l e f h. absurd (not_in_none p v h));
      };
    }

-- a feeder sends: the message fits behind what it sent
pub sends : (n pass first file : ℕ) (sent : List Message) (m : Message) → m.file ≡ file → IsOrderly sent → has_mark sent ≡ false
    → m.place ≡ length (all_fixes sent) → IsFit m.body []
    → length (all_fixes sent) + length (fixes_in m.body) ≤ fix_limit
    → Pushes IsRuled n pass (feeder_pass n first file sent false true) m (λ w. w ≡ after_sending (feeder_pass n first file sent false true) m)
sends n pass first file sent m is run open_ place fit room items views less kept at =
    let v = feeder_pass n first file sent false true in
    let w = after_sending v m in
    let carried = kept.carried in
    let all = kept.taken ++ items in
    let mine = (carried.each pass v at).shows 0 (transcript file sent false) refl in
    let now : of_file (all ++ m ∷ []) file ≡ sent ++ m ∷ [] = ap (of_file (all ++ m ∷ [])) (sym is) ∙ of_file_push all m
    ∙ ap (λ l. l ++ m ∷ []) (ap (of_file all) is ∙ mine.0.sent) in
    let closed : has_mark (sent ++ m ∷ []) ≡ (false || is_mark m.body) = has_mark_push sent m ∙ ap (λ b. b || is_mark m.body) open_ in
    let carried' : IsCarried kept.reader kept.taken (all ++ m ∷ []) kept.files kept.depth (set views pass w) =
    record {
      of_line = λ k u e. ⊎_elim (λ (h : At all k u). carried.of_line k u h)
          (λ (h : (k ≡ length all) × (m ≡ u)). subst (λ (x : Message). Contains kept.files x.file) h.1 (subst (Contains kept.files) (sym is) mine.0.of_line))
          (at_end all m u k e);
      lawful = λ i. ⊎_elim (λ (h : file ≡ i). subst (λ i. IsLawful (all ++ m ∷ []) i) h
          (subst IsOrderly (sym now) (orderly_push sent m run open_ place fit room)))
          (λ (h : file ≡ i → ⊥). subst IsOrderly (sym (of_file_push_other all m i (λ e. h (sym is ∙ e)))) (carried.lawful i)) (cases_eq file i);
      each = each_set (IsTruthful kept.reader kept.taken (all ++ m ∷ []) kept.files kept.depth) views pass w
          (record {
            takes = λ t. absurd (true≢false (sym t));
            shows = λ k e h. subst (λ (x : Transcript). IsTranscript (all ++ m ∷ []) kept.files x × (n ≡ kept.depth))
                (at_one (transcript file (sent ++ m ∷ []) (false || is_mark m.body)) e k h)
                (record { sent = now; closed = closed; of_line = mine.0.of_line }, mine.1);
          })
          (λ j u other e. let f = carried.each j u e in record {
            takes = f.takes;
            shows = λ k s h. let x = f.shows k s h in (
              record {
                sent = of_file_push_other all m s.file (λ same. other
                    (sym (carried.alone pass j v u 0 k (transcript file sent false) s at e refl refl h (sym is ∙ same)))) ∙ x.0.sent;
                closed = x.0.closed;
                of_line = x.0.of_line;
              },
              x.1,
            );
          });
      alone = alone_set views pass v w at (record {
        sends = λ s. s;
        shows =
            λ k e h. (
              0,
              transcript file sent false,
              refl,
              ap (λ (x : Transcript). x.file)
                  (at_one (transcript file (sent ++ m ∷ []) (false || is_mark m.body)) e k h),
            );
      }) carried.alone;
    } in (
      w,
      record {
        reader = kept.reader;
        taken = kept.taken;
        files = kept.files;
        depth = kept.depth;
        room = omega (arith, length-append items (m ∷ []), mine.1);
        carried = subst (λ a. IsCarried kept.reader kept.taken a kept.files kept.depth (set views pass w)) (append_assoc kept.taken items (m ∷ [])) carried';
      },
      refl,
    )

-- the taker takes the message at the front
pub takes : (pass depth : ℕ) (files : List ℕ) (taken : List Message) (feeders : List Transcript)
    → Pops IsRuled pass (taker_pass depth files taken feeders) (Takes (taker_pass depth files taken feeders))
takes pass depth files taken feeders m items views kept at =
    let v = taker_pass depth files taken feeders in
    let w = taker_pass depth files (taken ++ m ∷ []) feeders in
    let carried = kept.carried in
    let fits = carried.each pass v at in
    let mine = fits.takes refl in
    let all = kept.taken ++ m ∷ items in
    let more = kept.taken ++ m ∷ [] in
    let carried' : IsCarried kept.reader more all kept.files kept.depth (set views pass w) =
    record {
      of_line = carried.of_line;
      lawful = carried.lawful;
      each = each_set (IsTruthful kept.reader more all kept.files kept.depth) views pass w
          (record { takes = λ t. (mine.0, ap (λ l. l ++ m ∷ []) mine.1, mine.2, mine.3); shows = fits.shows })
          (λ j u other e. let f = carried.each j u e in record { takes = λ t. absurd (other ((f.takes t).0 ∙ sym mine.0)); shows = f.shows });
      alone = alone_set views pass v w at (record { sends = λ s. s; shows = λ k e h. (k, e, h, refl) }) carried.alone;
    } in
    let same : more ++ items ≡ all = append_assoc kept.taken (m ∷ []) items in (
      w,
      record {
        reader = kept.reader;
        taken = more;
        files = kept.files;
        depth = kept.depth;
        room = let r = kept.room in omega arith;
        carried = subst (λ a. IsCarried kept.reader more a kept.files kept.depth (set views pass w)) (sym same) carried';
      },
      (
        refl,
        subst (λ fs. Contains fs m.file) (sym mine.2) (carried.of_line (length kept.taken) m (at_middle kept.taken m items)),
        λ file. subst (λ l. IsLawful (l ++ m ∷ []) file) (sym mine.1)
            (orderly_prefix (of_file more file) (of_file items file)
            (subst IsOrderly (ap (λ l. of_file l file) (sym same) ∙ of_file_append more items file) (carried.lawful file))),
      ),
    )

-- a feeder for a new file is made
pub opens : (pass : ℕ) (old depth file : ℕ) (files : List ℕ) (taken : List Message) (feeders : List Transcript) → (Contains files file → ⊥) → (files ≡ [])
    ⊎ (old ≡ depth)
    → Forks IsRuled pass (taker_pass old files taken feeders) (after_opening depth file (taker_pass old files taken feeders))
    (feeder_pass depth (get_or files 0 file) file [] false true)
opens pass old depth file files taken feeders new first items views kept at =
    let v = taker_pass old files taken feeders in
    let left = taker_pass depth (files ++ file ∷ []) taken feeders in
    let right = feeder_pass depth (get_or files 0 file) file [] false true in
    let carried = kept.carried in
    let fits = carried.each pass v at in
    let mine = fits.takes refl in
    let all = kept.taken ++ items in
    let more = kept.files ++ file ∷ [] in
    let strange : (x : ℕ) → Contains kept.files x → x ≡ file → ⊥ = λ x c e. new (subst (λ (t : List ℕ × ℕ). Contains t.0 t.1) (λ i. (sym mine.2 i, e i)) c) in
    let none : of_file all file ≡ [] = none_of all file (λ k m e same. strange m.file (carried.of_line k m e) same) in
    let deep : (x : ℕ) → Contains kept.files x → (d : ℕ) → d ≡ kept.depth → d ≡ depth =
    λ x c d e. ⊎_elim (λ (h : files ≡ []). absurd (none_in x (subst (λ fs. Contains fs x) (sym mine.2 ∙ h) c)))
    (λ (h : old ≡ depth). e ∙ sym mine.3 ∙ h) first in
    let wider : (e : Transcript) → IsTranscript all kept.files e → IsTranscript all more e =
    λ e s. record { sent = s.sent; closed = s.closed; of_line = Contains-append_left kept.files (file ∷ []) e.file s.of_line } in
    let F = IsTruthful kept.reader kept.taken all more depth in
    let lists : Each (λ p u. (k : ℕ) (e : Transcript) → At u.transcripts k e → Contains kept.files e.file) (set views pass left) =
    each_set (λ p u. (k : ℕ) (e : Transcript) → At u.transcripts k e → Contains kept.files e.file) views pass left (λ k e h. (fits.shows k e h).0.of_line)
    (λ j u other a k e h. ((carried.each j u a).shows k e h).0.of_line) in
    record {
      reader = kept.reader;
      taken = kept.taken;
      files = more;
      depth = depth;
      room = ⊎_elim (λ (h : files ≡ []). short items depth (λ m rest is. none_in m.file
          (subst (λ fs. Contains fs m.file) (sym mine.2 ∙ h) (carried.of_line (length kept.taken) m
          (subst (λ l. At (kept.taken ++ l) (length kept.taken) m) (sym is) (at_middle kept.taken m rest))))))
          (λ (h : old ≡ depth). let r = kept.room in let d = mine.3 in omega arith) first;
      carried = record {
        of_line = λ k m e. Contains-append_left kept.files (file ∷ []) m.file (carried.of_line k m e);
        lawful = carried.lawful;
        each = each_push F (set views pass left) right
            (record {
              takes = λ t. absurd (true≢false (sym t));
              shows = λ k e h. subst (λ (x : Transcript). IsTranscript all more x × (depth ≡ depth)) (at_one (transcript file [] false) e k h)
                  (record { sent = none; closed = refl; of_line = Contains-append_right kept.files (file ∷ []) file (0, omega arith, refl) }, refl);
            })
            (each_set F views pass left (record {
              takes = λ t. (mine.0, mine.1, ap (λ l. l ++ file ∷ []) mine.2, refl);
              shows =
                  λ k e h. (wider e (fits.shows k e h).0, refl);
            })
            (λ j u other a. let f = carried.each j u a in record {
              takes = λ t. absurd (other ((f.takes t).0 ∙ sym mine.0));
              shows = λ k e h. let x =
                  f.shows k e h in (wider e x.0, deep e.file x.0.of_line u.depth x.1);
            }));
        alone = alone_push (set views pass left) right (alone_set views pass v left at
            (record { sends = λ s. s; shows = λ k e h. (k, e, h, refl) }) carried.alone)
            (λ p u k l e f a s h i same. strange e.file (lists p u a k e h)
            (same ∙ ap (λ (x : Transcript). x.file) (sym (at_one (transcript file [] false) f l i))))
            (λ p u k l e f a s h i same. strange f.file (lists p u a l f i)
            (sym same ∙ ap (λ (x : Transcript). x.file) (sym (at_one (transcript file [] false) e k h))));
      };
    }

-- a feeder ends, and what it sent is shown by another pass too
pub ends : (pass depth first file : ℕ) (sent : List Message) (closed may : Bool)
    → Forks IsRuled pass (feeder_pass depth first file sent closed may) (feeder_pass depth first file sent closed false)
    (feeder_pass depth first file sent closed false)
ends pass depth first file sent closed may items views kept at =
    let v = feeder_pass depth first file sent closed may in
    let w = feeder_pass depth first file sent closed false in
    let carried = kept.carried in
    let fits = carried.each pass v at in
    let all = kept.taken ++ items in
    let F = IsTruthful kept.reader kept.taken all kept.files kept.depth in
    let fits' : (p : ℕ) → F p w = λ p. record { takes = λ t. absurd (true≢false (sym t)); shows = fits.shows } in
    record {
      reader = kept.reader;
      taken = kept.taken;
      files = kept.files;
      depth = kept.depth;
      room = kept.room;
      carried = record {
        of_line = carried.of_line;
        lawful = carried.lawful;
        each = each_push F (set views pass w) w (fits' (length (set views pass w))) (each_set F views pass w (fits' pass) (λ j u other a. carried.each j u a));
        alone = alone_push (set views pass w) w (alone_set views pass v w at
            (record { sends = λ s. absurd (true≢false (sym s)); shows = λ k e h. (k, e, h, refl) }) carried.alone)
            (λ p u k l e f a s h i same.
            ⊎_elim (λ (x : (p ≡ pass) × (w ≡ u)). true≢false (sym s ∙ ap (λ (y : PassView). y.sends) (sym x.1)))
            (λ (x : (p ≢ pass) × At views p u). x.0 (carried.alone p pass u v k l e f x.1 at s h i same))
            (at_set views pass p w u a))
            (λ p u k l e f a s h i same. true≢false (sym s));
      };
    }

-- the taker takes in what a feeder that has ended shows
pub joins : (pass depth : ℕ) (files : List ℕ) (taken : List Message) (feeders : List Transcript) (other depth' own file : ℕ) (sent : List Message)
    (closed : Bool)
    → Merges IsRuled pass (taker_pass depth files taken feeders) other (feeder_pass depth' own file sent closed false)
    (taker_pass depth files taken (feeders ++ transcript file sent closed ∷ [])) spent_pass
joins pass depth files taken feeders other depth' own file sent closed items views kept at two at' =
    let v = taker_pass depth files taken feeders in
    let w = feeder_pass depth' own file sent closed false in
    let both = taker_pass depth files taken (feeders ++ transcript file sent closed ∷ []) in
    let carried = kept.carried in
    let all = kept.taken ++ items in
    let F = IsTruthful kept.reader kept.taken all kept.files kept.depth in
    let fits = carried.each pass v at in
    let mine = fits.takes refl in
    let vs = set views pass both in
    let was : At views other w = ⊎_elim (λ (x : (other ≡ pass) × (both ≡ w)). absurd (two x.0)) (λ (x : (other ≢ pass) × At views other w). x.1)
    (at_set views pass other both w at') in
    let theirs = carried.each other w was in
    let now : Each F vs = each_set F views pass both
    (record {
      takes = λ t. mine;
      shows = λ k e h. ⊎_elim (λ (x : At feeders k e). fits.shows k e x)
          (λ (x : (l : ℕ) × At (transcript file sent closed ∷ []) l e). ((theirs.shows x.0 e x.1).0, mine.3))
          (at_append feeders (transcript file sent closed ∷ []) k e h);
    })
    (λ j u apart a. carried.each j u a) in
    let alone : SendAlone vs =
    λ p q y z k l e f a b s h i same.
    ⊎_elim (λ (x : (p ≡ pass) × (both ≡ y)). absurd (true≢false (sym s ∙ ap (λ (t : PassView). t.sends) (sym x.1))))
    (λ (x : (p ≢ pass) × At views p y).
    ⊎_elim (λ (t : (q ≡ pass) × (both ≡ z)).
    ⊎_elim (λ (r : At feeders l f). absurd (x.0 (carried.alone p pass y v k l e f x.1 at s h r same)))
    (λ (r : (n : ℕ) × At (transcript file sent closed ∷ []) n f).
    let here = carried.alone p other y w k r.0 e f x.1 was s h r.1 same in
    absurd (true≢false (sym s ∙ ap (λ (t : PassView). t.sends) (some-injective y w (sym x.1 ∙ ap (get_elem? views) here ∙ was)))))
    (at_append feeders (transcript file sent closed ∷ []) l f (subst (λ (t : PassView). At t.transcripts l f) (sym t.1) i)))
    (λ (t : (q ≢ pass) × At views q z). carried.alone p q y z k l e f x.1 t.1 s h i same)
    (at_set views pass q both z b))
    (at_set views pass p both y a) in
    record {
      reader = kept.reader;
      taken = kept.taken;
      files = kept.files;
      depth = kept.depth;
      room = kept.room;
      carried = record {
        of_line = carried.of_line;
        lawful = carried.lawful;
        each = each_set F vs other spent_pass (record { takes = λ t. absurd (true≢false (sym t)); shows = λ k e h. absurd (not_in_none k e h) })
            (λ j u apart a. now j u a);
        alone = alone_set vs other w spent_pass at' (record { sends = λ s. absurd (true≢false (sym s)); shows = λ k e h. absurd (not_in_none k e h) }) alone;
      };
    }

-- what the rule tells the taker
pub completes : (pass depth : ℕ) (files : List ℕ) (taken : List Message) (feeders : List Transcript)
    → Learns IsRuled pass (taker_pass depth files taken feeders) (λ items. IsRest (taker_pass depth files taken feeders) items)
completes pass depth files taken feeders items views kept at =
    let v = taker_pass depth files taken feeders in
    let fits = kept.carried.each pass v at in
    let same = (fits.takes refl).1 in
    record {
      sent = λ k e h. ap (λ l. of_file (l ++ items) e.file) same ∙ (fits.shows k e h).0.sent;
      lawful = λ file. subst (λ l. IsLawful (l ++ items) file) (sym same) (kept.carried.lawful file);
    }
