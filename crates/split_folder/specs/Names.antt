-- Names of files in a folder.
use Rattle.std.specs.Prelude.{◌≢◌, ◌<◌, ℕ, List, [], All, codes, length, slice_index_or}

-- a byte that a name of a file can have: not a slash, and not 0
abbrev pub IsOfName : ℕ → Type 0
IsOfName byte = (byte ≢ 47) × (byte ≢ 0)

-- a name that a file of a folder can have
abbrev pub IsPlain : List ℕ → Type 0
IsPlain name = (name ≢ []) × (name ≢ codes ".") × (name ≢ codes "..") × All IsOfName name

-- the name at an index
abbrev pub name_at : List (List ℕ) → ℕ → List ℕ
name_at names k = slice_index_or names k []

-- no name before this index is the one at it
abbrev pub IsFirst : List (List ℕ) → ℕ → Type 0
IsFirst names k = (j : ℕ) → j < k → name_at names j ≢ name_at names k

-- the names before this index are plain, and no two of them are the same
abbrev pub AreGoodBefore : List (List ℕ) → ℕ → Type 0
AreGoodBefore names n = (k : ℕ) → k < n → IsPlain (name_at names k) × IsFirst names k

-- the names are plain, and no two of them are the same
abbrev pub AreGood : List (List ℕ) → Type 0
AreGood names = AreGoodBefore names (length names)
