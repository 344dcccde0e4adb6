-- What the two filters keep of a track.
use Rattle.std.proofs.Common.{◌≡◌, ◌∙◌, ◌&&◌, ◌||◌, ℤ, Bool, true, false, not, fold, List, [], ◌∷◌, refl, sym, ap, subst, inl, inr}
use Rattle.std.specs.List.{list_any}
use Rattle.std.specs.Ordering.{int_eq}
use Rattle.std.proofs.lemmas.Bool.{cases_Bool}
use Rattle.range_plane.specs.declared.scale.Scale.{Scale}
use Rattle.split_tracks.specs.declared.fate.Entry.{Entry}
use Rattle.split_pace.specs.declared.speed.Speed.{Speed}
use Rattle.split_pace.specs.Every.{is_first}
use Rattle.split_pace.specs.Filters.{Parted, none_yet, with_entry}
use Rattle.split_pace.specs.Laws.{AreReached, KeptAreReached, OnlyFirstsAreKept}
use Rattle.split_pace.specs.Speed.{is_slow_enough}
use Rattle.split_pace.proofs.Pieces.{int_eq-true, keeps, leaves, not-false, passes_over}

-- ---- one fix in each piece
module _ (piece : Entry → ℤ) (own : ℤ) where
  in_kept : List Entry → Bool
  in_kept kept = list_any (λ other. int_eq (piece other) own) kept

  in_used : List Entry → Bool
  in_used track = list_any (λ other. other.is_used && int_eq (piece other) own) track

  or_false : (b : Bool) → b ≡ (b || false)
  or_false true = refl
  or_false false = refl

  moved : (a b c : Bool) → ((a || b) || c) ≡ (b || (a || c))
  moved true true c = refl
  moved true false c = refl
  moved false true c = refl
  moved false false c = refl

  -- an entry that is left out is in a piece that was seen
  again : (a b c : Bool) → (a ≡ true → b ≡ true) → (b || c) ≡ (b || (a || c))
  again true true c seen = refl
  again true false c seen = let clash = seen refl in cc
  again false b c seen = refl

  -- the pieces of what is kept are those of what is used
  kept_from : (p : Parted) (track : List Entry) → in_kept (fold (with_entry (is_first piece)) p track).kept ≡ (in_kept p.kept || in_used track)
  unfolding in_kept in_used
  kept_from p [] = or_false (in_kept p.kept)
  kept_from p (entry ∷ track) =
      elim (cases_Bool entry.is_used) [
        | inr unused ↦
            ap (λ q. in_kept (fold (with_entry (is_first piece)) q track).kept) (passes_over (is_first piece) p entry unused)
            ∙ (kept_from p track ∙ ap (λ b. in_kept p.kept || ((b && int_eq (piece entry) own) || in_used track)) (sym unused))
        | inl used ↦
            elim (cases_Bool (is_first piece p.kept entry)) [
              | inl first ↦
                  ap (λ q. in_kept (fold (with_entry (is_first piece)) q track).kept) (keeps (is_first piece) p entry used first)
                  ∙ (kept_from (record { kept = entry ∷ p.kept; left = p.left }) track
                  ∙ (moved (int_eq (piece entry) own) (in_kept p.kept) (in_used track) ∙ ap (λ b. in_kept p.kept || ((b && int_eq (piece entry) own) || in_used track)) (sym used)))
              | inr later ↦
                  ap (λ q. in_kept (fold (with_entry (is_first piece)) q track).kept) (leaves (is_first piece) p entry used later)
                  ∙ (kept_from (record { kept = p.kept; left = _ }) track
                  ∙ (again (int_eq (piece entry) own) (in_kept p.kept) (in_used track)
                  (λ same. subst (λ n. list_any (λ other. int_eq (piece other) n) p.kept ≡ true) (int_eq-true (piece entry) own same) (not-false _ later))
                  ∙ ap (λ b. in_kept p.kept || ((b && int_eq (piece entry) own) || in_used track)) (sym used)))
            ]
      ]

pub only_firsts : OnlyFirstsAreKept
unfolding in_kept in_used
only_firsts piece before entry = ap not (kept_from piece (piece entry) none_yet before)

-- ---- the greatest speed
module _ (unit : Scale) (speed : Speed) where
  one_more : (kept : List Entry) (entry : Entry) → is_slow_enough unit speed kept entry ≡ true → AreReached unit speed kept → AreReached unit speed (entry ∷ kept)
  one_more [] entry comes reached = tt
  one_more (before ∷ others) entry comes reached = (comes, reached)

  reached_from : (p : Parted) (track : List Entry) → AreReached unit speed p.kept → AreReached unit speed (fold (with_entry (is_slow_enough unit speed)) p track).kept
  reached_from p [] reached = reached
  reached_from p (entry ∷ track) reached =
      let passes = is_slow_enough unit speed in
      let goal : Parted → Type 0 = λ q. AreReached unit speed (fold (with_entry passes) q track).kept in
      elim (cases_Bool entry.is_used) [
        | inr unused ↦ subst goal (sym (passes_over passes p entry unused)) (reached_from p track reached)
        | inl used ↦
            elim (cases_Bool (passes p.kept entry)) [
              | inl comes ↦
                  subst goal (sym (keeps passes p entry used comes)) (reached_from (record { kept = entry ∷ p.kept; left = p.left }) track (one_more p.kept entry comes reached))
              | inr fast ↦ subst goal (sym (leaves passes p entry used fast)) (reached_from (record { kept = p.kept; left = _ }) track reached)
            ]
      ]

pub all_reached : KeptAreReached
all_reached unit speed track = reached_from unit speed none_yet track tt
