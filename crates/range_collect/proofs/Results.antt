-- The results of all files, from those of the lines that they were dealt to.
use Rattle.std.proofs.Common.{◌≡◌, ℕ, ◌/◌, ◌%◌, ◌<◌, List, length, map, min, ap, sym, subst, ◌∙◌, arith, slice_get, Some, Option, inl}
use Rattle.std.proofs.Common.{inr}
use Rattle.std.proofs.Math.Nat.{mod-add-div', mod-eq_of_lt}
use Rattle.std.proofs.lemmas.Option.{same_Some, slice_get_within}
use Rattle.std.specs.declared.clone.Clone.{Ghosts}
use Rattle.range_fixes.specs.Reading.{Reading}
use Rattle.range_line.specs.LineEnds.{first_file}
use Rattle.range_collect.specs.Results.{IsFollowed}
use Rattle.range_collect.specs.LineFiles.{AreLinesFollowed, IsLineFollowed}
use Rattle.range_collect.specs.Shares.{AreDealt}
use Rattle.range_collect.specs.declared.followed.Followed.{Followed}
use Rattle.range_collect.proofs.Deals.{at_most_or_more, share_of}
use Rattle.range_lemmas.proofs.Indices.{map_length, mapped_from, of_all, same_indices, there_is}

-- ---- numbers
-- indexes that leave the same over by the number of workers do so by the number of lines
pub same_over : (i j n workers w : ℕ) → w ≡ min n workers → i < n → j < n → i % workers ≡ j % workers → i % w ≡ j % w
same_over i j n workers w is below_i below_j same =
    elim (at_most_or_more workers n) as (λ _. i % w ≡ j % w) [
      | inl all ↦ (let w_is : w ≡ workers = omega (arith, is, all) in rw w_is same)
      | inr few ↦
          (let i_is : i % workers ≡ i = mod-eq_of_lt (omega (arith, few, below_i)) in
          let j_is : j % workers ≡ j = mod-eq_of_lt (omega (arith, few, below_j)) in
          ap (λ (k : ℕ). k % w) (sym i_is ∙ (same ∙ j_is)))
    ]

-- and the other way round
pub same_under : (i j n workers w : ℕ) → w ≡ min n workers → i < n → j < n → i % w ≡ j % w → i % workers ≡ j % workers
same_under i j n workers w is below_i below_j same =
    elim (at_most_or_more workers n) as (λ _. i % workers ≡ j % workers) [
      | inl all ↦ (let w_is : w ≡ workers = omega (arith, is, all) in rw (← w_is) same)
      | inr few ↦
          (let w_is : w ≡ n = omega (arith, is, few) in
          let i_is : i % w ≡ i = mod-eq_of_lt (omega (arith, w_is, below_i)) in
          let j_is : j % w ≡ j = mod-eq_of_lt (omega (arith, w_is, below_j)) in
          ap (λ (k : ℕ). k % workers) (sym i_is ∙ (same ∙ j_is)))
    ]

-- ---- one line's results, by other words
-- one line's results are so for equal numbers, sources and results too
pub same_line_followed : {A : Type 0} {clone : Ghosts A} (first step block index w size : ℕ) (told sources : List (Option Reading))
    (results followed : List (Followed A clone))
    → first ≡ index → step ≡ w → block ≡ size → told ≡ sources → results ≡ followed → IsLineFollowed first step block told results
    → IsLineFollowed index w size sources followed
same_line_followed first step block index w size told sources results followed e1 e2 e3 e4 e5 is = rw (← e1, ← e2, ← e3, ← e4, ← e5) is

-- ---- the results of all lines
module _ {A : Type 0} {clone : Ghosts A} (size : ℕ) (sources : List (Option Reading)) (shares : List (List (Option Reading)))
    (results : List (List (Followed A clone))) where
  -- each line has as many results as sources
  pub shares_alike : AreLinesFollowed size shares results → map length results ≡ map length shares
  shares_alike are = same_indices (map length results) (map length shares) (map_length length results ∙ (are.count ∙ sym (map_length length shares)))
      (λ index x y in_results in_shares.
      let r = mapped_from length results index x in_results in
      let l = mapped_from length shares index y in_shares in
      sym r.2 ∙ ((are.each index l.0 r.0 l.1 r.1).count ∙ l.2))

  -- of all results that were dealt, the one at an index is that of the source there
  pub file_followed : (all : List (Followed A clone)) → AreDealt sources shares → AreDealt all results → AreLinesFollowed size shares results → 0 < length shares
      → (index : ℕ) (source : Option Reading) (f : Followed A clone) → slice_get sources index ≡ Some source → slice_get all index ≡ Some f
      → IsFollowed source index size f
  file_followed all dealt merged are some index source f in_sources in_all =
      let w : ℕ = length shares in
      let share = share_of sources shares index source dealt some in_sources in
      let some_results : 0 < length results = (let count = are.count in omega (arith, count, some)) in
      let count : length results ≡ w = are.count in
      let result = share_of all results index f merged some_results in_all in
      let in_results : slice_get results (index % w) ≡ Some result.0 = subst (λ (n : ℕ). slice_get results (index % n) ≡ Some result.0) count result.1 in
      let in_result : slice_get result.0 (index / w) ≡ Some f = subst (λ (n : ℕ). slice_get result.0 (index / n) ≡ Some f) count result.2 in
      let followed = (are.each (index % w) share.0 result.0 share.1 in_results).followed (index / w) source f share.2 in_result in
      subst (λ (n : ℕ). IsFollowed source n size f) (mod-add-div' index w) followed

  -- two files are of one line where their indexes leave the same remainder by the number of lines
  pub same_line : (all : List (Followed A clone)) → AreDealt all results → AreLinesFollowed size shares results → 0 < length shares
      → (i j : ℕ) (f g : Followed A clone) → slice_get all i ≡ Some f → slice_get all j ≡ Some g → i % length shares ≡ j % length shares
      → f.feeder.line ≡ g.feeder.line
  same_line all merged are some i j f g in_i in_j same =
      let count : length results ≡ length shares = are.count in
      let some_results : 0 < length results = omega (arith, count, some) in
      let over : j % length results ≡ i % length results = rw count (sym same) in
      let a = share_of all results i f merged some_results in_i in
      let b = share_of all results j g merged some_results in_j in
      let share_is : b.0 ≡ a.0 = same_Some b.0 a.0 (sym (subst (λ (k : ℕ). slice_get results k ≡ Some b.0) over b.1) ∙ a.1) in
      let in_a : slice_get a.0 (j / length results) ≡ Some g = subst
      (λ (l : List (Followed A clone)). slice_get l (j / length results) ≡ Some g) share_is b.2 in
      let below = slice_get_within results (i % length results) a.0 a.1 in
      let source = there_is shares (i % length results) (omega (arith, below, count)) in
      let share = are.each (i % length results) source.0 a.0 source.1 a.1 in
      let P : Followed A clone → Type 0 = λ x. x.feeder.line ≡ share.line in
      of_all P a.0 (i / length results) f share.of_line a.2 ∙ sym (of_all P a.0 (j / length results) g share.of_line in_a)

  -- the line of a file begins with the number that its index leaves over
  line_begins : (all : List (Followed A clone)) → AreDealt all results → AreLinesFollowed size shares results → 0 < length shares
      → (i : ℕ) (f : Followed A clone) → slice_get all i ≡ Some f → first_file f.feeder.line ≡ i % length shares
  line_begins all merged are some i f in_i =
      let count : length results ≡ length shares = are.count in
      let some_results : 0 < length results = omega (arith, count, some) in
      let a = share_of all results i f merged some_results in_i in
      let below = slice_get_within results (i % length results) a.0 a.1 in
      let source = there_is shares (i % length results) (omega (arith, below, count)) in
      let share = are.each (i % length results) source.0 a.0 source.1 a.1 in
      let of_line = of_all (λ (x : Followed A clone). x.feeder.line ≡ share.line) a.0 (i / length results) f share.of_line a.2 in
      ap first_file of_line ∙ (share.begins ∙ ap (λ (n : ℕ). i % n) count)

  -- files of one line have indexes that leave the same remainder by the number of lines
  pub same_share : (all : List (Followed A clone)) → AreDealt all results → AreLinesFollowed size shares results → 0 < length shares
      → (i j : ℕ) (f g : Followed A clone) → slice_get all i ≡ Some f → slice_get all j ≡ Some g → f.feeder.line ≡ g.feeder.line
      → i % length shares ≡ j % length shares
  same_share all merged are some i j f g in_i in_j same =
      sym (line_begins all merged are some i f in_i) ∙ (ap first_file same ∙ line_begins all merged are some j g in_j)
