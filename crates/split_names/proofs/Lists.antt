-- Lists of texts by their bytes, and searches in lists.
use Rattle.std.proofs.Common.{◌≡◌, ℕ, ◌+◌, ◌<◌, ◌≤◌, Bool, true, false, List, [], ◌∷◌, ◌++◌, Vec, length, take, drop, map, get_or, refl, sym, ◌∙◌, ap, arith, add-one}
use Rattle.std.proofs.Math.Seq.{drop-cons}
use Rattle.std.proofs.lemmas.List.{get_or-map, length-drop, map_push, nil_from_length, take_more}
use Rattle.std.specs.List.{list_any}
use Rattle.range_lemmas.proofs.Indices.{map_length}
use Rattle.split_names.specs.Names.{bytes_of}

-- what is left from a place on begins with what stands there
left_from : {X : Type 0} (xs : List X) (i : ℕ) (d : X) → i < length xs → drop i xs ≡ get_or xs i d ∷ drop (i + 1) xs
left_from xs i d there = rw add-one (drop-cons xs i d there)

-- there are as many lists of bytes as texts
pub bytes_length : {A : Type 0} (texts : List (Vec ℕ A)) → length (bytes_of texts) ≡ length texts
bytes_length texts = map_length (λ text. text.items) texts

-- the bytes of the text at a place
bytes_at : {A : Type 0} (texts : List (Vec ℕ A)) (i : ℕ) (text : Vec ℕ A) → text ≡ get_or texts i text → i < length texts
    → get_or (bytes_of texts) i [] ≡ text.items
bytes_at texts i text is there = get_or-map (λ text. text.items) texts i text [] there ∙ ap (λ (t : Vec _ _). t.items) (sym is)

-- there are as many keys as texts of which they are
pub as_many : {A B : Type 0} (f : List ℕ → List ℕ) (texts : List (Vec ℕ A)) (keys : List (Vec ℕ B)) → bytes_of keys ≡ map f (bytes_of texts)
    → length keys ≡ length texts
as_many f texts keys all = sym (bytes_length keys) ∙ (ap length all ∙ (map_length f (bytes_of texts) ∙ bytes_length texts))

-- and each is that of the text at its place
pub key_at : {A B : Type 0} (f : List ℕ → List ℕ) (texts : List (Vec ℕ A)) (keys : List (Vec ℕ B)) (i : ℕ) (text : Vec ℕ A) (key : Vec ℕ B)
    → bytes_of keys ≡ map f (bytes_of texts) → text ≡ get_or texts i text → key ≡ get_or keys i key → i < length texts → key.items ≡ f text.items
key_at f texts keys i text key all is key_is there =
    let long = as_many f texts keys all in
    sym (bytes_at keys i key key_is (omega (arith, there, long)))
    ∙ (ap (λ l. get_or l i []) all
    ∙ (get_or-map f (bytes_of texts) i [] [] (omega (arith, there, bytes_length texts)) ∙ ap f (bytes_at texts i text is there)))

-- one more text
pub bytes_more : {A B : Type 0} (now before : Vec (Vec ℕ A) B) (text : Vec ℕ A) → now.items ≡ before.items ++ text ∷ []
    → bytes_of now.items ≡ bytes_of before.items ++ text.items ∷ []
bytes_more now before text is = ap bytes_of is ∙ map_push (λ text. text.items) before.items text

-- texts from a place on
pub bytes_left : {A : Type 0} (texts : List (Vec ℕ A)) (i : ℕ) (text : Vec ℕ A) → text ≡ get_or texts i text → i < length texts
    → drop i (bytes_of texts) ≡ text.items ∷ drop (i + 1) (bytes_of texts)
bytes_left texts i text is there =
    left_from (bytes_of texts) i [] (omega (arith, there, bytes_length texts)) ∙ ap (λ b. b ∷ drop (i + 1) (bytes_of texts)) (bytes_at texts i text is there)

pub nothing_left : {A : Type 0} (texts : List (Vec ℕ A)) (i : ℕ) → length texts ≤ i → drop i (bytes_of texts) ≡ []
nothing_left texts i past =
    nil_from_length (drop i (bytes_of texts)) (omega (arith, past, bytes_length texts, length-drop i (bytes_of texts)))

-- and up to a place
pub bytes_up_to : {A : Type 0} (texts : List (Vec ℕ A)) (i : ℕ) (text : Vec ℕ A) → text ≡ get_or texts i text → i < length texts
    → take (i + 1) (bytes_of texts) ≡ take i (bytes_of texts) ++ text.items ∷ []
bytes_up_to texts i text is there =
    take_more (bytes_of texts) i [] (omega (arith, there, bytes_length texts)) ∙ ap (λ b. take i (bytes_of texts) ++ b ∷ []) (bytes_at texts i text is there)

-- the first member passes a test, or it is asked of the others
pub any_first : {X : Type 0} (p : X → Bool) (x : X) (xs : List X) → p x ≡ true → list_any p (x ∷ xs) ≡ true
any_first p x xs is = rw is refl

pub any_later : {X : Type 0} (p : X → Bool) (x : X) (xs : List X) → p x ≡ false → list_any p (x ∷ xs) ≡ list_any p xs
any_later p x xs is_not = rw is_not refl
