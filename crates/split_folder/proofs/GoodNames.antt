-- Names of files at their indices.
use Rattle.std.proofs.Common.{◌≡◌, ◌≢◌, ◌<◌, ◌+◌, ℕ, List, [], true, false, ◌⊎◌, inl, inr, bytes_eq, get_or, length, sym, subst, ◌∙◌, arith}
use Rattle.std.proofs.lemmas.Bool.{cases_lt}
use Rattle.std.proofs.lemmas.Bool.Decides.{not_from_Decides}
use Rattle.std.proofs.lemmas.List.{get_or-map}
use Rattle.std.proofs.lemmas.Slice.Eq.{bytes_eq-Decides}
use Rattle.split_folder.specs.declared.new_file.NewFile.{NewFile}
use Rattle.split_folder.specs.Names.{name_at}
use Rattle.split_folder.specs.Fault.{names_in}

pub named : (files : List NewFile) (k : ℕ) (d : NewFile) → k < length files → name_at (names_in files) k ≡ (get_or files k d).name.now
named files k d h = get_or-map (λ file. file.name.now) files k d [] h

pub same_name : (files : List NewFile) (j k : ℕ) (d : NewFile) → j < length files → k < length files → bytes_eq (get_or files j d).name.now (get_or files k d).name.now ≡ true → name_at (names_in files) j ≡ name_at (names_in files) k
same_name files j k d below within e = named files j d below ∙ ((bytes_eq-Decides _ _).0 e ∙ sym (named files k d within))

pub other_name : (files : List NewFile) (j k : ℕ) (d : NewFile) → j < length files → k < length files → bytes_eq (get_or files j d).name.now (get_or files k d).name.now ≡ false → name_at (names_in files) j ≢ name_at (names_in files) k
other_name files j k d below within e same = not_from_Decides _ (bytes_eq-Decides _ _) e (sym (named files j d below) ∙ (same ∙ named files k d within))

-- below a number that is one greater
below_more : (j n : ℕ) → j < n + 1 → (j < n) ⊎ (j ≡ n)
below_more j n h = elim (cases_lt j n) [
  | inl less ↦ inl less
  | inr not ↦ inr (omega (arith, h, not))
]

pub others_more : (names : List (List ℕ)) (n k : ℕ) → ((j : ℕ) → j < n → name_at names j ≢ name_at names k) → name_at names n ≢ name_at names k → (j : ℕ) → j < n + 1 → name_at names j ≢ name_at names k
others_more names n k before here j below = elim (below_more j n below) [
  | inl less ↦ before j less
  | inr is ↦ subst (λ i. name_at names i ≢ name_at names k) (sym is) here
]
