-- The first repeat of a list of names, as a loop over a set finds it.
use Rattle.std.proofs.Common.{◌≡◌, ℕ, ◌+◌, ◌<◌, Bool, true, false, List, [], ◌∷◌, ◌++◌, length, get_or, map, take, Some, sym, ap, ◌∙◌, arith, inl, inr}
use Rattle.std.proofs.Common.{if◌then◌else◌}
use Rattle.std.specs.Prelude.{slice_get}
use Rattle.std.specs.Bool.{Decides}
use Rattle.std.specs.Borrow.{Bor}
use Rattle.std.specs.List.{list_any}
use Rattle.std.proofs.lemmas.Bool.{cases_lt}
use Rattle.std.proofs.lemmas.List.{get_or-map, get_or-take, length-map, take_more, length-take, map-append}
use Rattle.std.proofs.lemmas.List.Folds.{list_any_at}
use Rattle.std.proofs.lemmas.Option.{get_or_from_slice_get, slice_get_within}
use Rattle.indexmap.specs.IndexSet.{insert_key}
use Rattle.range_analysis.specs.Names.{name_at}
use Rattle.range_analysis.specs.Names.{DifferBefore}

-- a name where it stands
abbrev pub Key : Type 0
Key = Bor (List ℕ)

-- the names themselves
abbrev pub texts : List Key → List (List ℕ)
texts keys = map (λ (k : Key). k.now) keys

module _ (same : Key → Key → Bool) (decides : (x y : Key) → Decides (same x y) (x.now ≡ y.now)) where
  -- the set has the first so many names, and the next one is this
  pub record IsNext (names : List (List ℕ)) (keys : List Key) (index : ℕ) (key : Key) : Type 0 where
    pub seen : texts keys ≡ take index names
    pub within : index < length names
    pub next : key.now ≡ name_at names index

  module _ (names : List (List ℕ)) (keys : List Key) (index : ℕ) (key : Key) (next : IsNext names keys index key) where
    count : length keys ≡ index
    count = omega (arith, length-map keys (λ (k : Key). k.now), ap length next.seen, length-take index names, next.within)

    -- the key at an earlier index has the name there
    earlier : (i : ℕ) (k : Key) → i < index → (get_or keys i k).now ≡ name_at names i
    earlier i k before =
        let below : i < length keys = omega (arith, count, before) in
        sym (get_or-map (λ (x : Key). x.now) keys i k [] below) ∙ (ap (λ l. get_or l i []) next.seen ∙ get_or-take index names i [] before)

    -- a name that was there stands at the index where the set has it
    pub repeat_found : (after : List Key) (first : ℕ) (found : Key) → list_any (same key) keys ≡ true → after ≡ insert_key same keys key
        → slice_get after first ≡ Some found → same key found ≡ true
        → (first < index) × (name_at names first ≡ name_at names index)
    repeat_found after first found old inserted at equal =
        let stays : after ≡ keys = inserted ∙ ap (λ b. if b then keys else (keys ++ key ∷ [])) old in
        let within = slice_get_within after first found at in
        let before : first < index = omega (arith, count, ap length stays, within) in
        let is : get_or keys first found ≡ found = ap (λ l. get_or l first found) (sym stays) ∙ get_or_from_slice_get after first found found at in
        (before, sym (earlier first found before) ∙ (ap (λ (x : Key). x.now) is ∙ (sym ((decides key found).0 equal) ∙ next.next)))

    -- a new name: the set has one more of them, and they differ
    pub seen_more : (after : List Key) → list_any (same key) keys ≡ false → after ≡ insert_key same keys key → texts after ≡ take (index + 1) names
    seen_more after new inserted =
        let pushed : after ≡ keys ++ key ∷ [] = inserted ∙ ap (λ b. if b then keys else (keys ++ key ∷ [])) new in
        ap texts pushed ∙ (map-append (λ (k : Key). k.now) keys (key ∷ [])
        ∙ (ap (λ l. l ++ key.now ∷ []) next.seen ∙ (ap (λ n. take index names ++ n ∷ []) next.next ∙ sym (take_more names index [] next.within))))

    -- with a new name at the index no two of the names up to there are the same
    pub differ_more : list_any (same key) keys ≡ false → DifferBefore names index → DifferBefore names (index + 1)
    differ_more new differ i j before below equal = elim (cases_lt j index) [
      | inl under ↦ differ i j before under equal
      | inr over ↦
          let last : j ≡ index = omega arith in
          let before_last : i < index = omega arith in
          let hit : same key (get_or keys i key) ≡ true = (decides key (get_or keys i key)).1
          (next.next ∙ (ap (name_at names) (sym last) ∙ (sym equal ∙ sym (earlier i key before_last)))) in
          let any = list_any_at (same key) keys i key (omega (arith, count, before_last)) hit in
          cc
    ]
