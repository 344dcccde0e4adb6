-- Records are left out one after the other.
use Rattle.std.proofs.Common.{◌≡◌, ◌+◌, ◌-◌, ◌<◌, ◌≤◌, ◌==◌, ◌||◌, ◌++◌, ◌∙◌, ℕ, zero, suc, Bool, true, false, cond, List, [], ◌∷◌, length, map, set, get_or, refl, sym, ap, arith, inl, inr}
use Rattle.std.specs.List.{enumerate_from}
use Rattle.std.proofs.lemmas.Bool.{cases_Bool, ne_eqb}
use Rattle.std.proofs.lemmas.List.Folds.{list_any-append}
use Rattle.split_tracks.specs.declared.fate.Fate.{Fate}
use Rattle.split_tracks.specs.declared.fate.Fate.TheVariants.{InTrack, LeftOut}
use Rattle.split_tracks.specs.declared.fate.Reason.{Reason}
use Rattle.split_pace.specs.Leave.{fate_after, fates_after, is_among, left_fate}

module _ (reason : Reason) where
  -- left out twice is left out
  twice : (fate : Fate) → left_fate reason (left_fate reason fate) ≡ left_fate reason fate
  twice (InTrack animal entry) = refl
  twice (LeftOut animal why) = refl

  -- the fate of a record that is left out by one number more
  one_more : (left : List ℕ) (n s : ℕ) (fate : Fate) → fate_after reason (n ∷ []) (s, fate_after reason left (s, fate)) ≡ fate_after reason (left ++ n ∷ []) (s, fate)
  one_more left n s fate =
      ap (λ b. cond b (left_fate reason (fate_after reason left (s, fate))) (fate_after reason left (s, fate))) (alone n s)
      ∙ (by (is_among left s) (n == s) ∙ sym (ap (λ b. cond b (left_fate reason fate) fate) (list_any-append (λ one. one == s) left (n ∷ []) ∙ ap (λ b. is_among left s || b) (alone n s))))
    where
      alone : (n s : ℕ) → is_among (n ∷ []) s ≡ (n == s)
      alone n s = elim (cases_Bool (n == s)) [ inl same ↦ rw same refl | inr differ ↦ rw differ refl ]

      by : (a b : Bool) → cond b (left_fate reason (cond a (left_fate reason fate) fate)) (cond a (left_fate reason fate) fate) ≡ cond (a || b) (left_fate reason fate) fate
      by true true = twice fate
      by true false = refl
      by false true = refl
      by false false = refl

  more_from : (left : List ℕ) (n s : ℕ) (fates : List Fate)
      → map (fate_after reason (n ∷ [])) (enumerate_from s (map (fate_after reason left) (enumerate_from s fates))) ≡ map (fate_after reason (left ++ n ∷ [])) (enumerate_from s fates)
  more_from left n s [] = refl
  more_from left n s (fate ∷ fates) =
      ap (λ f. f ∷ map (fate_after reason (n ∷ [])) (enumerate_from (s + 1) (map (fate_after reason left) (enumerate_from (s + 1) fates)))) (one_more left n s fate)
      ∙ ap (λ l. fate_after reason (left ++ n ∷ []) (s, fate) ∷ l) (more_from left n (s + 1) fates)

  -- records are left out by one number more
  pub left_more : (left : List ℕ) (n : ℕ) (fates : List Fate) → fates_after reason (n ∷ []) (fates_after reason left fates) ≡ fates_after reason (left ++ n ∷ []) fates
  left_more left n fates = more_from left n 1 fates

  -- none is left out by no number
  none_from : (s : ℕ) (fates : List Fate) → map (fate_after reason []) (enumerate_from s fates) ≡ fates
  none_from s [] = refl
  none_from s (fate ∷ fates) = ap (λ l. fate ∷ l) (none_from (s + 1) fates)

  pub left_none : (fates : List Fate) → fates ≡ fates_after reason [] fates
  left_none fates = sym (none_from 1 fates)

  -- a record of another number stays
  other : (n s : ℕ) (fate : Fate) → (n == s) ≡ false → fate_after reason (n ∷ []) (s, fate) ≡ fate
  other n s fate differ = rw differ refl

  own : (n : ℕ) (fate : Fate) → fate_after reason (n ∷ []) (n, fate) ≡ left_fate reason fate
  own n fate = let same : (n == n) ≡ true = grind arith in rw same refl

  before_all : (n s : ℕ) (fates : List Fate) → n < s → map (fate_after reason (n ∷ [])) (enumerate_from s fates) ≡ fates
  before_all n s [] less = refl
  before_all n s (fate ∷ fates) less =
      ap (λ f. f ∷ map (fate_after reason (n ∷ [])) (enumerate_from (s + 1) fates)) (other n s fate (ne_eqb n s (λ e. omega (arith, e, less))))
      ∙ ap (λ l. fate ∷ l) (before_all n (s + 1) fates (omega (arith, less)))

  past_all : (n s : ℕ) (fates : List Fate) → s + length fates ≤ n → map (fate_after reason (n ∷ [])) (enumerate_from s fates) ≡ fates
  past_all n s [] past = refl
  past_all n s (fate ∷ fates) past =
      ap (λ f. f ∷ map (fate_after reason (n ∷ [])) (enumerate_from (s + 1) fates)) (other n s fate (ne_eqb n s (λ e. omega (arith, e, past))))
      ∙ ap (λ l. fate ∷ l) (past_all n (s + 1) fates (omega (arith, past)))

  within : (j n s : ℕ) (fates : List Fate) (d : Fate) → n ≡ s + j → j < length fates
      → set fates j (left_fate reason (get_or fates j d)) ≡ map (fate_after reason (n ∷ [])) (enumerate_from s fates)
  within j n s [] d is below = absurd (omega (arith, below))
  within zero n s (fate ∷ fates) d is below =
      let here : s ≡ n = omega (arith, is) in
      sym (ap (λ k. fate_after reason (n ∷ []) (k, fate) ∷ map (fate_after reason (n ∷ [])) (enumerate_from (s + 1) fates)) here
      ∙ (ap (λ f. f ∷ map (fate_after reason (n ∷ [])) (enumerate_from (s + 1) fates)) (own n fate)
      ∙ ap (λ l. left_fate reason fate ∷ l) (before_all n (s + 1) fates (omega (arith, is)))))
  within (suc j) n s (fate ∷ fates) d is below =
      sym (ap (λ f. f ∷ map (fate_after reason (n ∷ [])) (enumerate_from (s + 1) fates)) (other n s fate (ne_eqb n s (λ e. omega (arith, e, is))))
      ∙ ap (λ l. fate ∷ l) (sym (within j n (s + 1) fates d (omega (arith, is)) (omega (arith, below)))))

  -- the record of this number alone is left out
  pub one_left : (n : ℕ) (fates : List Fate) (d left : Fate) → 0 < n → n ≤ length fates → left ≡ left_fate reason (get_or fates (n - 1) d) → set fates (n - 1) left ≡ fates_after reason (n ∷ []) fates
  one_left n fates d left some most is = ap (λ f. set fates (n - 1) f) is ∙ within (n - 1) n 1 fates d (omega (arith, some)) (omega (arith, some, most))

  pub zero_left : (n : ℕ) (fates : List Fate) → n ≤ 0 → fates ≡ fates_after reason (n ∷ []) fates
  zero_left n fates least = sym (before_all n 1 fates (omega (arith, least)))

  pub none_left : (n : ℕ) (fates : List Fate) → length fates < n → fates ≡ fates_after reason (n ∷ []) fates
  none_left n fates past = sym (past_all n 1 fates (omega (arith, past)))
