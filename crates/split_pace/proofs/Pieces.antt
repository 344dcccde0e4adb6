-- A track is parted entry by entry, beside the pieces of time that were seen.
use Rattle.std.proofs.Common.{◌≡◌, ◌+◌, ◌<◌, ◌||◌, ◌++◌, ◌∙◌, ℕ, ℤ, Bool, true, false, not, List, [], ◌∷◌, length, take, get_or, refl, sym, ap, append_assoc, arith, inl, inr}
use Rattle.std.specs.List.{list_any}
use Rattle.std.proofs.lemmas.Bool.{cases_Bool, cond-false, cond-true}
use Rattle.std.proofs.lemmas.Int.{ints}
use Rattle.std.specs.Ordering.{int_eq}
use Rattle.std.proofs.lemmas.List.{map-append}
use Rattle.std.proofs.lemmas.List.Sums.{fold_more}
use Rattle.split_tracks.specs.declared.fate.Entry.{Entry}
use Rattle.split_pace.specs.Every.{is_first}
use Rattle.split_pace.specs.Filters.{Parted, left_of, none_yet, parted, with_entry}

module _ (passes : List Entry → Entry → Bool) where
  -- one entry more
  pub parted_more : (track : List Entry) (i : ℕ) (d : Entry) → i < length track → parted passes (take (i + 1) track) ≡ with_entry passes (parted passes (take i track)) (get_or track i d)
  parted_more track i d below = fold_more (with_entry passes) none_yet track i d below

  pub keeps : (p : Parted) (entry : Entry) → entry.is_used ≡ true → passes p.kept entry ≡ true → with_entry passes p entry ≡ record { kept = entry ∷ p.kept; left = p.left }
  keeps p entry used does = cond-true _ _ _ used ∙ cond-true _ _ _ does

  pub leaves : (p : Parted) (entry : Entry) → entry.is_used ≡ true → passes p.kept entry ≡ false → with_entry passes p entry ≡ record { kept = p.kept; left = p.left ++ entry ∷ [] }
  leaves p entry used does = cond-true _ _ _ used ∙ cond-false _ _ _ does

  pub passes_over : (p : Parted) (entry : Entry) → entry.is_used ≡ false → with_entry passes p entry ≡ p
  passes_over p entry unused = cond-false _ _ _ unused

-- numbers that are told to be equal are
pub int_eq-true : (a b : ℤ) → int_eq a b ≡ true → a ≡ b
int_eq-true a b e = grind (arith, ints)

pub not-false : (b : Bool) → not b ≡ false → b ≡ true
not-false true e = refl
not-false false e = sym e

-- the pieces that were seen are those of the entries that are kept
abbrev pub AreSeen : (Entry → ℤ) → (ℤ → Bool) → List Entry → Type 0
AreSeen piece seen kept = (other : ℤ) → seen other ≡ list_any (λ before. int_eq (piece before) other) kept

module _ (piece : Entry → ℤ) (track : List Entry) (i : ℕ) (d : Entry) (own : ℤ) (below : i < length track) (is_own : own ≡ piece (get_or track i d)) where
  entry : Entry
  entry = get_or track i d

  kept : List Entry
  kept = (parted (is_first piece) (take i track)).kept

  module _ (old : ℤ → Bool) (seen : AreSeen piece old (parted (is_first piece) (take i track)).kept) where
    -- whether the entry is the first of its piece
    first_is : is_first piece kept entry ≡ not (old own)
    unfolding entry kept
    first_is = ap not (sym (seen (piece (get_or track i d))) ∙ ap old (sym is_own))

    -- an entry of a new piece
    pub kept_more : (before left : List ℕ) (new : ℤ → Bool) (is_new : Bool) → (get_or track i d).is_used ≡ true → left ≡ before ++ left_of (is_first piece) (take i track)
        → is_new ≡ not (old own) → is_new ≡ true → ((other : ℤ) → new other ≡ (int_eq own other || old other))
        → (left ≡ before ++ left_of (is_first piece) (take (i + 1) track)) × AreSeen piece new (parted (is_first piece) (take (i + 1) track)).kept
    unfolding entry kept
    kept_more before left new is_new used so_far tells first after =
        let more = parted_more (is_first piece) track i d below ∙ keeps (is_first piece) (parted (is_first piece) (take i track)) (get_or track i d) used (first_is ∙ (sym tells ∙ first)) in
        rw more (so_far, λ other. after other ∙ (ap (λ b. int_eq own other || b) (seen other) ∙ ap (λ n. int_eq n other || list_any (λ one. int_eq (piece one) other) (parted (is_first piece) (take i track)).kept) is_own))

    -- the same piece again is no more
    same_seen : (other : ℤ) → old own ≡ true → (int_eq own other || old other) ≡ old other
    same_seen other there = elim (cases_Bool (int_eq own other)) [
      | inl same ↦ rw same (sym (ap old (sym (int_eq-true own other same)) ∙ there))
      | inr differ ↦ rw differ refl
    ]

    -- an entry of a piece that was seen
    pub left_more : (before left after_left : List ℕ) (new : ℤ → Bool) (is_new : Bool) → (get_or track i d).is_used ≡ true → left ≡ before ++ left_of (is_first piece) (take i track)
        → is_new ≡ not (old own) → is_new ≡ false → after_left ≡ left ++ (get_or track i d).«record» ∷ [] → ((other : ℤ) → new other ≡ (int_eq own other || old other))
        → (after_left ≡ before ++ left_of (is_first piece) (take (i + 1) track)) × AreSeen piece new (parted (is_first piece) (take (i + 1) track)).kept
    unfolding entry kept
    left_more before left after_left new is_new used so_far tells again pushed after =
        let p = parted (is_first piece) (take i track) in
        let more = parted_more (is_first piece) track i d below ∙ leaves (is_first piece) p (get_or track i d) used (first_is ∙ (sym tells ∙ again)) in
        let there : old own ≡ true = not-false (old own) (sym tells ∙ again) in
        rw more (
          pushed ∙ (ap (λ l. l ++ (get_or track i d).«record» ∷ []) so_far ∙ search (append_assoc, map-append)),
          λ other. after other ∙ (same_seen other there ∙ seen other),
        )

    -- an entry that is not used
    pub nothing_more : (before left : List ℕ) → (get_or track i d).is_used ≡ false → left ≡ before ++ left_of (is_first piece) (take i track)
        → (left ≡ before ++ left_of (is_first piece) (take (i + 1) track)) × AreSeen piece old (parted (is_first piece) (take (i + 1) track)).kept
    nothing_more before left unused so_far =
        let more = parted_more (is_first piece) track i d below ∙ passes_over (is_first piece) (parted (is_first piece) (take i track)) (get_or track i d) unused in
        rw more (so_far, seen)
