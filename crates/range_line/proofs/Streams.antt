-- The stream of a file's messages is lawful, and its blocks joined are the fixes.
use Rattle.std.proofs.Common.{◌≡◌, ℕ, zero, suc, ◌+◌, ◌-◌, ◌*◌, ◌<◌, ◌≤◌, ◌||◌, false, List, [], ◌∷◌, ◌++◌, length, take, drop, sym, refl, ap, ◌∙◌, subst}
use Rattle.std.proofs.Common.{arith, suc-mul}
use Rattle.std.proofs.lemmas.List.{append-nil, take_all, length-take, length-drop}
use Rattle.std.proofs.lemmas.List.FromFn.{map-range_with_len_more}
use Rattle.std.proofs.Math.Nat.{lt-div-mul-add, div-mul-le_self}
use Rattle.std.proofs.Math.Seq.{take-add}
use Rattle.range_plane.specs.Fix.{fix_limit}
use Rattle.range_plane.specs.declared.Fix.{Fix}
use Rattle.range_options.specs.Limits.{block_limit}
use Rattle.range_line.specs.Messages.{message, the_mark, of_file, all_fixes, has_mark, IsOrderly, block, blocks, block_count, stream}
use Rattle.range_line.specs.Laws.{StreamsAreLawful}
use Rattle.range_line.proofs.Orderly.{joined_append, of_file_push, has_mark_push, orderly_empty, orderly_push}

record AreSent (file : ℕ) (all : List Fix) (size count : ℕ) : Type 0 where
  own : of_file (blocks file all size count) file ≡ blocks file all size count
  orderly : IsOrderly (blocks file all size count)
  unmarked : has_mark (blocks file all size count) ≡ false
  part : all_fixes (blocks file all size count) ≡ take (count * size) all

length_part : (n : ℕ) (xs : List Fix) → n ≤ length xs → length (take n xs) ≡ n
length_part n xs within = omega (arith, length-take n xs)

sent : (file : ℕ) (all : List Fix) (size count : ℕ) → 1 ≤ size → size ≤ block_limit → length all ≤ fix_limit → count * size < length all + size
    → AreSent file all size count
sent file all size zero some small few within = record {
  own = refl;
  orderly = orderly_empty;
  unmarked = refl;
  part = let none : 0 * size ≡ 0 = omega arith in
      rw none refl;
}
sent file all size (suc k) some small few within =
    let width : suc k * size ≡ k * size + size = omega (arith, suc-mul k size) in
    let before = sent file all size k some small few (omega arith) in
    let bs = blocks file all size k in
    let m = block file all size k in
    let one : List Fix = take size (drop (k * size) all) in
    let long = length-take size (drop (k * size) all) in
    let left = length-drop (k * size) all in
    let next : suc k ≡ k + 1 = omega arith in
    let more : blocks file all size (suc k) ≡ bs ++ m ∷ [] = ap (λ n. blocks file all size n) next
    ∙ map-range_with_len_more (block file all size) 0 k k (omega arith) in
    let place : k * size ≡ length (all_fixes bs) = sym (length_part (k * size) all (omega arith)) ∙ sym (ap length before.part) in
    let at_least : 1 ≤ length one = omega arith in
    let at_most : length one ≤ block_limit = omega arith in
    let room : length (all_fixes bs) + length one ≤ fix_limit = omega arith in
    record {
      own = ap (λ l. of_file l file) more ∙ of_file_push bs m ∙ ap (λ l. l ++ m ∷ []) before.own ∙ sym more;
      orderly = subst IsOrderly (sym more) (orderly_push bs m before.orderly before.unmarked place (at_least, at_most) room);
      unmarked = ap has_mark more ∙ has_mark_push bs m ∙ ap (λ b. b || false) before.unmarked;
      part = ap all_fixes more ∙ joined_append bs (m ∷ []) ∙ ap (λ l. all_fixes bs ++ l) (append-nil one) ∙ ap (λ l. l ++ one) before.part
          ∙ sym (take-add (k * size) size all) ∙ ap (λ n. take n all) (sym width);
    }

-- the stream of a file's messages is lawful, and its fixes are all those of the file
pub streams_are_lawful : StreamsAreLawful
streams_are_lawful file all size some small few =
    let k = block_count all size in
    let enough : length all ≤ k * size = omega (arith, lt-div-mul-add {a = length all + size - 1} {b = size} some) in
    let within : k * size < length all + size = omega (arith, div-mul-le_self (length all + size - 1) size) in
    let before = sent file all size k some small few within in
    let bs = blocks file all size k in
    let mark = message file (length all) the_mark in
    let whole : all_fixes bs ≡ all = before.part ∙ take_all (k * size) all enough in
    let own : of_file (stream file all size) file ≡ stream file all size = of_file_push bs mark ∙ ap (λ l. l ++ mark ∷ []) before.own in (
      subst IsOrderly (sym own) (orderly_push bs mark before.orderly before.unmarked (sym (ap length whole)) refl (omega (arith, ap length whole, few))),
      ap all_fixes own ∙ joined_append bs (mark ∷ []) ∙ append-nil (all_fixes bs) ∙ whole,
    )
