-- What the threads of a line give back, and the results of its files.
use Rattle.std.proofs.Common.{◌≡◌, ℕ, zero, suc, ◌+◌, ◌-◌, ◌*◌, ◌<◌, ◌≤◌, List, [], ◌∷◌, ◌++◌, length, map, take, drop, refl, ap, sym, subst, ◌∙◌, arith}
use Rattle.std.proofs.Common.{slice_get, Some, Option, All, Bool, true, false, length-append, inl, inr, ◌⊎◌}
use Rattle.std.proofs.Math.Nat.{lt-div-mul-add}
use Rattle.std.proofs.lemmas.List.FromFn.{length-map-range_with_len}
use Rattle.std.proofs.lemmas.Option.{same_Some, slice_get_within}
use Rattle.std.specs.List.{range_with_len}
use Rattle.range_plane.specs.declared.fix.Fix.{Fix}
use Rattle.range_plane.specs.declared.scale.Scale.{Scale}
use Rattle.range_options.specs.declared.plan.Plan.{Plan}
use Rattle.range_fixes.specs.Reading.{Reading}
use Rattle.range_line.specs.declared.message.Message.{Message}
use Rattle.range_line.specs.LineEnds.{ended_feeder, files_from, new_feeder, AreOfLine, FeederView, Line, TakerView}
use Rattle.range_line.specs.Messages.{block, block_count, all_fixes, of_file, stream, IsLawful}
use Rattle.range_estimator.specs.Estimation.{Estimation}
use Rattle.range_collect.specs.Follow.{Holds, IsFollowedAs, IsResult}
use Rattle.range_collect.specs.LineFiles.{IsLineRun, IsSeen}
use Rattle.range_pump.specs.Pump.{IsPumped, IsPumpedFrom, ReadResult}
use Rattle.range_lemmas.proofs.Indices.{all_of, map_length, mapped, mapped_from, of_all, range_at, same_indices, there_is, Threes, Twos}

-- ---- what the pumps gave
module _ {S H : Type 0} (tell : Scale → S → Option Reading) (source : H → S) (feeder : H → FeederView) (plan : H → Plan) where
  -- by their handles, which are in the order of the sources and the feeders
  pub pumped_at : (line : Line) (first step n : ℕ) (p : Plan) (handles : List H) (sources : List S) (feeders back : List FeederView) (reads : List ReadResult)
      → map source handles ≡ sources → map feeder handles ≡ feeders → feeders ≡ map (new_feeder line) (files_from first step n) → All (λ h. plan h ≡ p) handles
      → length back ≡ length handles → Threes (λ h f r. IsPumped (tell (plan h).unit (source h)) (plan h).block (feeder h) f r) handles back reads
      → (index : ℕ) (told : Option Reading) (f : FeederView) (r : ReadResult) → slice_get (map (tell p.unit) sources) index ≡ Some told
      → slice_get back index ≡ Some f → slice_get reads index ≡ Some r
      → IsPumped told p.block (new_feeder line (first + index * step)) f r
  pumped_at line first step n p handles sources feeders back reads of_sources of_feeders fresh plans count pumped index told f r in_sources in_back in_reads =
      let below : index < length handles = (let within = slice_get_within back index f in_back in omega (arith, within, count)) in
      let h = there_is handles index below in
      let plan_is : plan h.0 ≡ p = of_all (λ (h : H). plan h ≡ p) handles index h.0 plans h.1 in
      let one = rw plan_is at (pumped index h.0 f r h.1 in_back in_reads) in
      let says : tell p.unit (source h.0) ≡ told = same_Some (tell p.unit (source h.0)) told
      (sym (ap (λ (l : List S). slice_get (map (tell p.unit) l) index) (sym of_sources)
      ∙ mapped (tell p.unit) (map source handles) index (source h.0) (mapped source handles index h.0 h.1)) ∙ in_sources) in
      let at : slice_get (map (new_feeder line) (files_from first step n)) index ≡ Some (feeder h.0) =
      subst (λ (l : List FeederView). slice_get l index ≡ Some (feeder h.0)) (of_feeders ∙ fresh) (mapped feeder handles index h.0 h.1) in
      let file = mapped_from (new_feeder line) (files_from first step n) index (feeder h.0) at in
      let number = (range_at (λ (j : ℕ). first + j * step) n index file.0 file.1).1 in
      let new : feeder h.0 ≡ new_feeder line (first + index * step) = sym file.2 ∙ ap (new_feeder line) number in
      rw (← says, ← new) one

-- what is known of the ends of the file at a index
pumped_of : (first step size : ℕ) (sources : List (Option Reading)) (feeders : List FeederView) (reads : List ReadResult) (worker : TakerView)
    → IsLineRun first step size sources feeders reads worker
    → (index : ℕ) (f : FeederView) → slice_get feeders index ≡ Some f → (told : Option Reading) × (r : ReadResult)
    × IsPumped told size (new_feeder worker.line (first + index * step)) f r
pumped_of first step size sources feeders reads worker line index f is =
    let within = slice_get_within feeders index f is in
    let source = there_is sources index (let count = line.counts.0 in omega (arith, within, count)) in
    let read = there_is reads index (let count = line.counts.0 in let same = line.counts.1 in omega (arith, within, count, same)) in
    (source.0, read.0, line.pumped index source.0 f read.0 source.1 is read.1)

-- the feeders of a line that has run are of its worker's line
pub line_of_feeders : (first step size : ℕ) (sources : List (Option Reading)) (feeders : List FeederView) (reads : List ReadResult) (worker : TakerView)
    → IsLineRun first step size sources feeders reads worker → AreOfLine feeders worker.line
line_of_feeders first step size sources feeders reads worker line =
    all_of (λ (f : FeederView). f.line ≡ worker.line) feeders (λ index f is. (pumped_of first step size sources feeders reads worker line index f is).2.line)

-- and their files are the worker's
pub files_of_line : (first step size : ℕ) (sources : List (Option Reading)) (feeders : List FeederView) (reads : List ReadResult) (worker : TakerView)
    → IsLineRun first step size sources feeders reads worker
    → map (λ (f : FeederView). f.file) feeders ≡ worker.files
files_of_line first step size sources feeders reads worker line =
    let files : List ℕ = files_from first step (length sources) in
    let count : length (map (λ (f : FeederView). f.file) feeders) ≡ length files =
    map_length (λ (f : FeederView). f.file) feeders ∙ (line.counts.0 ∙ sym (length-map-range_with_len (λ (j : ℕ). first + j * step) 0 (length sources))) in
    same_indices (map (λ (f : FeederView). f.file) feeders) files count (λ index x y in_feeders in_files.
    let f = mapped_from (λ (f : FeederView). f.file) feeders index x in_feeders in
    sym f.2 ∙ ((pumped_of first step size sources feeders reads worker line index f.0 f.1).2.file
    ∙ sym (range_at (λ (j : ℕ). first + j * step) (length sources) index y in_files).1))
    ∙ sym line.files

-- ---- the results
some_taken : (size : ℕ) (all : List Fix) → 0 < size → 0 < length all → 0 < length (take size all)
some_taken size [] some_size some = absurd (omega (arith, some))
some_taken zero (x ∷ all) some_size some = absurd (omega (arith, some_size))
some_taken (suc size) (x ∷ all) some_size some = omega arith

some_sent : (file : ℕ) (all : List Fix) (size count : ℕ) (rest : List Message) → 0 < count → 0 < size → 0 < length all
    → 0 < length (all_fixes (map (block file all size) (range_with_len 0 count) ++ rest))
some_sent file all size zero rest some_count some_size some = absurd (omega (arith, some_count))
some_sent file all size (suc count) rest some_count some_size some =
    let head : List Fix = take size (drop (0 * size) all) in
    let none : 0 * size ≡ 0 = omega arith in
    let taken : 0 < length head = rw none (some_taken size all some_size some) in
    let both = length-append head (all_fixes (map (block file all size) (range_with_len 1 count) ++ rest)) in
    omega (arith, taken, both)

some_blocks : (count size n : ℕ) → 0 < n → n + size - 1 < count * size + size → 0 < count
some_blocks zero size n some within = let none : zero * size ≡ zero = omega arith in absurd (omega (arith, none, some, within))
some_blocks (suc count) size n some within = omega arith

-- a file that has fixes sends some
some_streamed : (file : ℕ) (all : List Fix) (size : ℕ) → 1 ≤ size → 0 < length all → 0 < length (all_fixes (stream file all size))
some_streamed file all size some_size some =
    let within = lt-div-mul-add {a = length all + size - 1} {b = size} some_size in
    let counted : 0 < block_count all size = some_blocks (block_count all size) size (length all) some within in
    some_sent file all size (block_count all size) _ counted some_size some

-- ending a feeder changes nothing of what it sent
pumped_ended : (told : Option Reading) (size : ℕ) (f : FeederView) (r : ReadResult) → IsPumpedFrom told size f r → IsPumpedFrom told size (ended_feeder f) r
pumped_ended told size f r p = record {
  fixes = p.fixes;
  sent = record { closed = p.sent.closed; unmarked = p.sent.unmarked; gone = p.sent.gone };
  some = p.some;
  told = p.told;
}

open_or_closed : (b : Bool) → (b ≡ true) ⊎ (b ≡ false)
open_or_closed true = inl refl
open_or_closed false = inr refl

result_of : (told : Option Reading) (size : ℕ) (f : FeederView) (r : ReadResult) (e : Estimation) → 1 ≤ size → IsPumpedFrom told size f r → Holds e (all_fixes f.sent)
    → IsResult f r e f.closed
result_of told size f r e some p holds = record {
  marked = λ closed. closed;
  gone = λ gone. elim (open_or_closed f.closed) as (λ _. f.closed ≡ false) [ inl closed ↦ absurd ((p.sent.closed closed).1 gone) | inr open' ↦ open' ];
  some = λ ok closed running.
      let has = some_streamed f.file p.fixes size some (p.some ok) in
      let all = ap length (holds.whole running ∙ ap all_fixes (p.sent.closed closed).0) in
      omega (arith, has, all);
}

-- the ends of the files of a line may be paired
pub results_of_line : (first step size : ℕ) (sources : List (Option Reading)) (feeders ended : List FeederView) (reads : List ReadResult) (worker : TakerView)
    (es : List Estimation) → 1 ≤ size
    → IsLineRun first step size sources feeders reads worker → ended ≡ map ended_feeder feeders → Twos (λ (f : FeederView) e. Holds e (all_fixes f.sent)) ended es
    → Threes (λ (f : FeederView) r e. IsResult f r e f.closed) ended reads es
results_of_line first step size sources feeders ended reads worker es some line are holds index f r e in_feeders in_reads in_es =
    let before = mapped_from ended_feeder feeders index f (subst (λ (l : List FeederView). slice_get l index ≡ Some f) are in_feeders) in
    let within = slice_get_within feeders index before.0 before.1 in
    let source = there_is sources index (let count = line.counts.0 in omega (arith, within, count)) in
    let pumped = line.pumped index source.0 before.0 r source.1 before.1 in_reads in
    result_of source.0 size f r e some (subst (λ (f : FeederView). IsPumpedFrom source.0 size f r) before.2
    (pumped_ended source.0 size before.0 r pumped.pumped)) (holds index f e in_feeders in_es)

followed_of : (told : Option Reading) (number size : ℕ) (line : Line) (before f : FeederView) (r : ReadResult) (e : Estimation) (mark : Bool)
    → IsPumped told size (new_feeder line number) before r → ended_feeder before ≡ f
    → IsSeen f mark → Holds e (all_fixes f.sent) → IsFollowedAs told number size f r e mark
followed_of told number size line before f r e mark p same seen holds =
    let file : f.file ≡ number = sym (ap (λ (x : FeederView). x.file) same) ∙ p.file in
    let own : of_file f.sent number ≡ f.sent = ap (of_file f.sent) (sym file) ∙ seen.own in
    record {
      file = file;
      ended = sym (ap (λ (x : FeederView). x.ended) same);
      pumped = subst (λ (x : FeederView). IsPumpedFrom told size x r) same (pumped_ended told size before r p.pumped);
      lawful = subst (λ (n : ℕ). IsLawful f.sent n) file seen.lawful;
      holds = subst (λ (ms : List Message). Holds e (all_fixes ms)) (sym own) holds;
      marked = seen.marked;
    }

module _ {F : Type 0} (feeder : F → FeederView) (read : F → ReadResult) (estimator : F → Estimation) (marked : F → Bool) where
  -- the results that were paired, by the lists that they were made of
  pub line_followed : (first step size : ℕ) (sources : List (Option Reading)) (feeders ended : List FeederView) (reads : List ReadResult) (worker : TakerView)
      (es : List Estimation) (results : List F)
      → IsLineRun first step size sources feeders reads worker → ended ≡ map ended_feeder feeders
      → Twos (λ (f : FeederView) e. Holds e (all_fixes f.sent)) ended es
      → map feeder results ≡ ended → map read results ≡ reads → map estimator results ≡ es → All (λ x. IsSeen (feeder x) (marked x)) results
      → (index : ℕ) (told : Option Reading) (x : F) → slice_get sources index ≡ Some told → slice_get results index ≡ Some x
      → IsFollowedAs told (first + index * step) size (feeder x) (read x) (estimator x) (marked x)
  line_followed first step size sources feeders ended reads worker es results line are holds of_feeders of_reads of_es seen index told x in_sources in_results =
      let in_ended : slice_get ended index ≡ Some (feeder x) = subst (λ (l : List FeederView). slice_get l index ≡ Some (feeder x)) of_feeders
      (mapped feeder results index x in_results) in
      let in_reads : slice_get reads index ≡ Some (read x) = subst (λ (l : List ReadResult). slice_get l index ≡ Some (read x)) of_reads
      (mapped read results index x in_results) in
      let in_es : slice_get es index ≡ Some (estimator x) = subst (λ (l : List Estimation). slice_get l index ≡ Some (estimator x)) of_es
      (mapped estimator results index x in_results) in
      let before = mapped_from ended_feeder feeders index (feeder x) (subst (λ (l : List FeederView). slice_get l index ≡ Some (feeder x)) are in_ended) in
      let pumped = line.pumped index told before.0 (read x) in_sources before.1 in_reads in
      followed_of told (first + index * step) size worker.line before.0 (feeder x) (read x) (estimator x) (marked x) pumped before.2
      (of_all (λ (x : F). IsSeen (feeder x) (marked x)) results index x seen in_results) (holds index (feeder x) (estimator x) in_ended in_es)

  -- the results of a line's feeders are of that line
  pub all_of_line : (line : Line) (feeders ended : List FeederView) (results : List F) → AreOfLine feeders line → ended ≡ map ended_feeder feeders
      → map feeder results ≡ ended → All (λ x. (feeder x).line ≡ line) results
  all_of_line line feeders ended results of_line are of_feeders =
      all_of (λ (x : F). (feeder x).line ≡ line) results (λ index x is.
      let before = mapped_from ended_feeder feeders index (feeder x)
      (subst (λ (l : List FeederView). slice_get l index ≡ Some (feeder x)) (of_feeders ∙ are) (mapped feeder results index x is)) in
      sym (ap (λ (f : FeederView). f.line) before.2) ∙ of_all (λ (f : FeederView). f.line ≡ line) feeders index before.0 of_line before.1)
