-- The blocks of fixes, and of these with one block more.
use Rattle.std.proofs.Common.{◌≡◌, ℕ, zero, suc, ◌+◌, ◌-◌, ◌*◌, ◌/◌, ◌≤◌, List, [], ◌∷◌, ◌++◌, length, take, drop, sym, refl, ap, ◌∙◌, arith, suc-mul}
use Rattle.std.proofs.Common.{length-append, length-drop}
use Rattle.std.proofs.lemmas.List.{drop-append-le, take-append-le, take_all}
use Rattle.std.proofs.lemmas.List.FromFn.{map-range_with_len_more}
use Rattle.std.proofs.lemmas.Nat.{div-mul-add}
use Rattle.std.proofs.Math.Seq.{drop-append_seam}
use Rattle.range_plane.specs.declared.Fix.{Fix}
use Rattle.range_line.specs.Messages.{block, block_count, block_of, blocks, message}

-- a block more
blocks_more : (file : ℕ) (all : List Fix) (size k : ℕ) → blocks file all size (k + 1) ≡ blocks file all size k ++ block file all size k ∷ []
blocks_more file all size k = map-range_with_len_more (block file all size) 0 k k (omega arith)

-- the blocks that the first fixes fill do not hang on the others
pub blocks_of_longer : (file : ℕ) (fixes more : List Fix) (size k : ℕ) → k * size ≤ length fixes → blocks file (fixes ++ more) size k ≡ blocks file fixes size k
blocks_of_longer file fixes more size zero within = refl
blocks_of_longer file fixes more size (suc k) within =
    let width : suc k * size ≡ k * size + size = omega (arith, suc-mul k size) in
    let next : suc k ≡ k + 1 = omega arith in
    let left = length-drop (k * size) fixes in
    let cut : take size (drop (k * size) (fixes ++ more)) ≡ take size (drop (k * size) fixes) =
    ap (λ l. take size l) (drop-append-le (k * size) fixes more (omega arith)) ∙ take-append-le size (drop (k * size) fixes) more (omega arith) in
    ap (λ n. blocks file (fixes ++ more) size n) next ∙ blocks_more file (fixes ++ more) size k
    ∙ (λ i. blocks_of_longer file fixes more size k (omega arith) i ++ message file (k * size) (block_of (cut i)) ∷ [])
    ∙ sym (blocks_more file fixes size k) ∙ ap (λ n. blocks file fixes size n) (sym next)

-- the last block, which may be shorter, where those before it are full
pub last_block : (file : ℕ) (fixes more : List Fix) (size k : ℕ) → length fixes ≡ k * size → length more ≤ size
    → blocks file (fixes ++ more) size (k + 1) ≡ blocks file fixes size k ++ message file (length fixes) (block_of more) ∷ []
last_block file fixes more size k whole small =
    let cut : take size (drop (k * size) (fixes ++ more)) ≡ more =
    ap (λ n. take size (drop n (fixes ++ more))) (sym whole) ∙ ap (λ l. take size l) (drop-append_seam fixes more) ∙ take_all size more small in
    blocks_more file (fixes ++ more) size k
    ∙ (λ i. blocks_of_longer file fixes more size k (omega arith) i ++ message file (sym whole i) (block_of (cut i)) ∷ [])

-- fixes that fill their blocks have as many blocks as they fill
pub count_of_full : (fixes : List Fix) (size k : ℕ) → 1 ≤ size → length fixes ≡ k * size → block_count fixes size ≡ k
count_of_full fixes size k some whole =
    let parts : length fixes + size - 1 ≡ k * size + (size - 1) = omega arith in
    ap (λ n. n / size) parts ∙ div-mul-add k size (size - 1) (omega arith)

-- and with fixes for a part of a block, one block more
pub count_of_more : (fixes more : List Fix) (size k : ℕ) → length fixes ≡ k * size → 1 ≤ length more → length more ≤ size
    → block_count (fixes ++ more) size ≡ k + 1
count_of_more fixes more size k whole some small =
    let width : (k + 1) * size ≡ k * size + size = omega (arith, suc-mul k size) in
    let parts : length (fixes ++ more) + size - 1 ≡ (k + 1) * size + (length more - 1) = omega (arith, length-append fixes more) in
    ap (λ n. n / size) parts ∙ div-mul-add (k + 1) size (length more - 1) (omega arith)
