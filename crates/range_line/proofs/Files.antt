-- The files of a line.
use Rattle.std.proofs.Common.{◌≡◌, ℕ, zero, suc, ◌+◌, ◌*◌, ◌<◌, ◌≤◌, [], ◌∷◌, ◌++◌, get_or, sym, ◌∙◌, suc-mul, mul-le-mul_right, arith, ap, length}
use Rattle.std.specs.Prelude.{Contains}
use Rattle.std.proofs.lemmas.List.FromFn.{length-map-range_with_len, get_or-map-range_with_len, map-range_with_len_more}
use Rattle.range_line.specs.Laws.{FilesAreStepsApart}
use Rattle.range_line.specs.LineEnds.{files_from}

-- the files of a line are those that are fewer steps than their count after the first
pub files_are_steps_apart : FilesAreStepsApart
files_are_steps_apart first step n file =
    let f : ℕ → ℕ = λ j. first + j * step in
    let len = length-map-range_with_len f 0 n in (
      λ c. let below : c.0 < n = (let less = c.1 in omega arith) in (c.0, below, sym c.2 ∙ get_or-map-range_with_len f 0 n c.0 c.0 file below (omega arith)),
      λ p. (p.0, (let less = p.1 in omega arith), get_or-map-range_with_len f 0 n p.0 p.0 file p.1 (omega arith) ∙ sym p.2),
    )

-- with one file more, the next one stands at the end
pub files_more : (first step n : ℕ) → files_from first step (n + 1) ≡ files_from first step n ++ (first + n * step) ∷ []
files_more first step n = map-range_with_len_more (λ j. first + j * step) 0 n n (omega arith)

-- the next file is none of those before it, where the step is at least 1
pub file_is_new : (first step n : ℕ) → 1 ≤ step → Contains (files_from first step n) (first + n * step) → ⊥
file_is_new first step n some_step c =
    let index = (files_are_steps_apart first step n (first + n * step)).0 c in
    let below = index.1 in
    let same = index.2 in
    let apart : suc index.0 * step ≤ n * step = mul-le-mul_right step (omega arith) in
    omega (arith, suc-mul index.0 step, same)

-- where there is a file, the one at index 0 is the first
pub first_of_files : (first step n none : ℕ) → 1 ≤ n → get_or (files_from first step n) 0 none ≡ first
first_of_files first step n none some =
    let start : first + 0 * step ≡ first = omega arith in
    get_or-map-range_with_len (λ j. first + j * step) 0 n 0 0 none (omega arith) (omega arith) ∙ start

-- the next file is the first one where there is none before it
pub first_or_next : (first step n : ℕ) → get_or (files_from first step n) 0 (first + n * step) ≡ first
first_or_next first step zero = let start : first + 0 * step ≡ first = omega arith in start
first_or_next first step (suc n) = first_of_files first step (suc n) (first + suc n * step) (omega arith)

-- where their count is at least 1, the list of files is not empty
pub has_a_file : (first step n : ℕ) → 1 ≤ n → files_from first step n ≡ [] → ⊥
has_a_file first step n some e =
    let len = length-map-range_with_len (λ j. first + j * step) 0 n in
    let none = ap length e in
    omega arith
