-- A table of counts, in which an animal has more.
use Rattle.std.proofs.Common.{◌≡◌, ◌<◌, ◌≤◌, ◌+◌, ◌-◌, ◌*◌, ◌^◌, ◌==◌, ℕ, Bool, true, false, ◌&&◌, true≢false, List, [], ◌∷◌, ◌++◌, None, Some, refl, sym, ap, ◌∙◌, inl, inr, arith, if◌then◌else◌}
use Rattle.std.specs.Prelude.{Vec, unwrap_or}
use Rattle.std.specs.Map.{lookup}
use Rattle.std.specs.Str.{bytes_eq}
use Rattle.std.proofs.lemmas.Bool.{cases_Bool}
use Rattle.std.proofs.lemmas.List.{length-append}
use Rattle.std.proofs.lemmas.List.Sums.{sum_by-append}
use Rattle.std.proofs.lemmas.Slice.Eq.{bytes_eq-Decides}
use Rattle.split_tracks.specs.declared.fate.Reason.{Reason}
use Rattle.indexmap.specs.IndexMap.{insert_entry}
use Rattle.split_tracks.specs.declared.fate.Reason.TheVariants as reasons
use Rattle.page_record.specs.Counts.{Adds, AreMore, AreUpTo, IsTallyOf, count_if, counts_at, left_by, left_in, marked_by, place_in, records_by}
use Rattle.page_record.specs.Reading.{LeftSaid, TrackSaid}
use Rattle.page_record.specs.declared.counts.Counts.{Counts}
use Rattle.page_record.specs.declared.counts.TheConstants.{NO_COUNTS}

-- what a name has in a table into which an entry was put
lookup_put : {A : Type 0} (name : List ℕ) (key : Vec ℕ A) (counts : Counts) (entries : List (Vec ℕ A × Counts))
    → lookup (λ (own : Vec ℕ A). bytes_eq name own.items) (insert_entry (λ (one other : Vec ℕ A). bytes_eq one.items other.items) entries key counts)
    ≡ (if bytes_eq name key.items then Some counts else lookup (λ (own : Vec ℕ A). bytes_eq name own.items) entries)
lookup_put name key counts [] = refl
lookup_put {A} name key counts (entry ∷ entries) =
    elim (cases_Bool (bytes_eq key.items entry.0.items)) [
      | inl same ↦
          let is = (bytes_eq-Decides key.items entry.0.items).0 same in
          elim (cases_Bool (bytes_eq name key.items)) [
            | inl own ↦
                let there : bytes_eq name entry.0.items ≡ true = ap (bytes_eq name) (sym is) ∙ own in
                rw (same, there, own) refl
            | inr other ↦
                let not_there : bytes_eq name entry.0.items ≡ false = ap (bytes_eq name) (sym is) ∙ other in
                rw (same, not_there, other) refl
          ]
      | inr differ ↦
          elim (cases_Bool (bytes_eq name entry.0.items)) [
            | inl there ↦
                elim (cases_Bool (bytes_eq name key.items)) [
                  | inl own ↦
                      let is = sym ((bytes_eq-Decides name key.items).0 own) ∙ (bytes_eq-Decides name entry.0.items).0 there in
                      absurd (true≢false (sym ((bytes_eq-Decides key.items entry.0.items).1 is) ∙ differ))
                  | inr other ↦ rw (differ, there, other) refl
                ]
            | inr none ↦ rw (differ, none) (lookup_put {A = A} name key counts entries)
          ]
    ]

module _ {A : Type 0} (key : Vec ℕ A) (counts : Counts) (old new : List (Vec ℕ A × Counts)) (animal : List ℕ) (records : ℕ) (reason : Reason) (left : ℕ)
    (put : new ≡ insert_entry (λ (one other : Vec ℕ A). bytes_eq one.items other.items) old key counts) (named : key.items ≡ animal)
    (are_more : AreMore records reason left (counts_at {A = A} animal old) counts) where
  of_animal : (name : List ℕ) → bytes_eq name animal ≡ true → counts_at {A = A} name new ≡ counts
  of_animal name own =
      let is : bytes_eq name key.items ≡ true = ap (bytes_eq name) named ∙ own in
      ap (counts_at {A = A} name) put ∙ ap (λ found. unwrap_or found NO_COUNTS) (lookup_put {A = A} name key counts old) ∙ rw is refl

  of_other : (name : List ℕ) → bytes_eq name animal ≡ false → counts_at {A = A} name new ≡ counts_at {A = A} name old
  of_other name other =
      let is : bytes_eq name key.items ≡ false = ap (bytes_eq name) named ∙ other in
      ap (counts_at {A = A} name) put ∙ ap (λ found. unwrap_or found NO_COUNTS) (lookup_put {A = A} name key counts old) ∙ rw is refl

  more_records : (name : List ℕ) → (counts_at {A = A} name new).records ≡ (counts_at {A = A} name old).records + count_if (bytes_eq name animal) records
  more_records name = elim (cases_Bool (bytes_eq name animal)) [
    | inl own ↦
        let is = (bytes_eq-Decides name animal).0 own in
        rw own (ap (λ counts. counts.records) (of_animal name own) ∙ are_more.more ∙ ap (λ n. (counts_at {A = A} n old).records + records) (sym is))
    | inr other ↦
        let none : (counts_at {A = A} name old).records ≡ (counts_at {A = A} name old).records + 0 = omega arith in
        rw other (ap (λ counts. counts.records) (of_other name other) ∙ none)
  ]

  more_left : (name : List ℕ) (other : Reason) → left_in (counts_at {A = A} name new) other
      ≡ left_in (counts_at {A = A} name old) other + count_if (bytes_eq name animal && place_in other == place_in reason) left
  more_left name why = elim (cases_Bool (bytes_eq name animal)) [
    | inl own ↦
        let is = (bytes_eq-Decides name animal).0 own in
        rw own (ap (λ counts. left_in counts why) (of_animal name own) ∙ are_more.more_left why
        ∙ ap (λ n. left_in (counts_at {A = A} n old) why + count_if (place_in why == place_in reason) left) (sym is))
    | inr other ↦
        let none : left_in (counts_at {A = A} name old) why ≡ left_in (counts_at {A = A} name old) why + 0 = omega arith in
        rw other (ap (λ counts. left_in counts why) (of_other name other) ∙ none)
  ]

  pub adds : Adds {A = A} animal records reason left old new
  adds = record { more = more_records; more_left = more_left }

-- ---- lines and tracks
-- no line and no track
pub none_counted : {A : Type 0} (entries : List (Vec ℕ A × Counts)) → entries ≡ [] → IsTallyOf {A = A} [] [] entries
none_counted {A} entries none = record {
  records = λ animal. ap (λ own. (counts_at {A = A} animal own).records) none;
  left_out = λ animal reason. ap (λ own. left_in (counts_at {A = A} animal own) reason) none ∙ nothing reason;
  small = λ animal. record {
    records = omega (arith, ap (λ own. (counts_at {A = A} animal own).records) none);
    left = λ reason. omega (arith, ap (λ own. left_in (counts_at {A = A} animal own) reason) none ∙ nothing reason);
  };
}
  where
    nothing : (reason : Reason) → left_in NO_COUNTS reason ≡ 0
    nothing reasons.Animal = refl
    nothing reasons.Coordinates = refl
    nothing reasons.Zero = refl
    nothing reasons.Sensor = refl
    nothing reasons.Outlier = refl
    nothing reasons.Class = refl
    nothing reasons.NoDop = refl
    nothing reasons.Dop = refl
    nothing reasons.Type = refl
    nothing reasons.Before = refl
    nothing reasons.After = refl
    nothing reasons.Grid = refl
    nothing reasons.Speed = refl
    nothing reasons.Every = refl

count_if_le : (is_so : Bool) (number most : ℕ) → number ≤ most → count_if is_so number ≤ most
count_if_le true number most small = small
count_if_le false number most small = omega arith

-- a count with nothing more asked
nothing_more : (is_so : Bool) (number : ℕ) → count_if (is_so && true) number ≡ count_if is_so number
nothing_more true number = refl
nothing_more false number = refl

-- one line more
pub line_counted : {A : Type 0} (left : List LeftSaid) (line : LeftSaid) (old new : List (Vec ℕ A × Counts)) → IsTallyOf {A = A} left [] old → line.count < 2 ^ 32
    → Adds {A = A} line.name line.count line.reason line.count old new → IsTallyOf {A = A} (left ++ line ∷ []) [] new
line_counted {A} left line old new so_far small added =
    let longer = length-append left (line ∷ []) in
    record {
      records = λ animal.
          let was = so_far.records animal in
          let now = added.more animal in
          let sum = sum_by-append (left_by (Some animal) None) left (line ∷ []) in
          let own = nothing_more (bytes_eq animal line.name) line.count in
          omega (arith, was, now, sum, own);
      left_out = λ animal reason.
          let was = so_far.left_out animal reason in
          let now = added.more_left animal reason in
          let sum = sum_by-append (left_by (Some animal) (Some reason)) left (line ∷ []) in
          omega (arith, was, now, sum);
      small = λ animal. record {
        records =
            let was = (so_far.small animal).records in
            let now = added.more animal in
            let few = count_if_le (bytes_eq animal line.name) line.count (2 ^ 32) (omega (arith, small)) in
            omega (arith, was, now, few, longer);
        left = λ reason.
            let was = (so_far.small animal).left reason in
            let now = added.more_left animal reason in
            let few = count_if_le (bytes_eq animal line.name && place_in reason == place_in line.reason) line.count (2 ^ 32) (omega (arith, small)) in
            omega (arith, was, now, few, longer);
      };
    }

-- one track more
pub track_counted : {A : Type 0} (left : List LeftSaid) (tracks : List TrackSaid) (track : TrackSaid) (old new : List (Vec ℕ A × Counts)) → IsTallyOf {A = A} left tracks old → track.records < 2 ^ 32
    → Adds {A = A} track.name track.records reasons.Outlier (track.records - track.used) old new → IsTallyOf {A = A} left (tracks ++ track ∷ []) new
track_counted {A} left tracks track old new so_far small added =
    let longer = length-append tracks (track ∷ []) in
    record {
      records = λ animal.
          let was = so_far.records animal in
          let now = added.more animal in
          let sum = sum_by-append (records_by (Some animal)) tracks (track ∷ []) in
          omega (arith, was, now, sum);
      left_out = λ animal reason.
          let was = so_far.left_out animal reason in
          let now = added.more_left animal reason in
          let sum = sum_by-append (marked_by (Some animal) reason) tracks (track ∷ []) in
          omega (arith, was, now, sum);
      small = λ animal. record {
        records =
            let was = (so_far.small animal).records in
            let now = added.more animal in
            let few = count_if_le (bytes_eq animal track.name) track.records (2 ^ 32) (omega (arith, small)) in
            omega (arith, was, now, few, longer);
        left = λ reason.
            let was = (so_far.small animal).left reason in
            let now = added.more_left animal reason in
            let few = count_if_le (bytes_eq animal track.name && place_in reason == place_in reasons.Outlier) (track.records - track.used) (2 ^ 32) (omega (arith, small)) in
            omega (arith, was, now, few, longer);
      };
    }

-- counts of so many lines and tracks have room for more
pub have_room : (lines tracks : ℕ) (counts : Counts) → lines < 2 ^ 64 → tracks < 2 ^ 64 → AreUpTo ((lines + tracks) * 2 ^ 32) counts → AreUpTo (2 ^ 100) counts
have_room lines tracks counts few_lines few_tracks small =
    let most : (lines + tracks) * 2 ^ 32 ≤ 2 ^ 100 = omega (arith, few_lines, few_tracks) in
    record { records = omega (arith, small.records, most); left = λ reason. omega (arith, small.left reason, most) }
