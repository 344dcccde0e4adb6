-- The UTF-8 of a list of characters that grows.
use Rattle.std.proofs.Common.{◌≡◌, ◌+◌, ◌<◌, ℕ, List, [], ◌∷◌, ◌++◌, length, take, map, get_or, encode_utf8_all, ap, ◌∙◌}
use Rattle.std.proofs.lemmas.List.{append-nil, map_more, take_more}
use Rattle.std.proofs.lemmas.Str.{encodes-append}
use Rattle.std.specs.Char.{encode_utf8}

-- one more character adds its bytes
encode_utf8_all_push : (cs : List ℕ) (c : ℕ) → encode_utf8_all (cs ++ c ∷ []) ≡ encode_utf8_all cs ++ encode_utf8 c
encode_utf8_all_push cs c = encodes-append cs (c ∷ []) ∙ ap (λ bytes. encode_utf8_all cs ++ bytes) (append-nil (encode_utf8 c))

-- the first characters of a list, and one more
pub encode_utf8_all_more : (cs : List ℕ) (i d : ℕ) → i < length cs → encode_utf8_all (take (i + 1) cs) ≡ encode_utf8_all (take i cs) ++ encode_utf8 (get_or cs i d)
encode_utf8_all_more cs i d below = ap encode_utf8_all (take_more cs i d below) ∙ encode_utf8_all_push (take i cs) (get_or cs i d)

-- the same of characters that a function gives
pub encode_utf8_all_map_more : (f : ℕ → ℕ) (bs : List ℕ) (i d : ℕ) → i < length bs → encode_utf8_all (map f (take (i + 1) bs)) ≡ encode_utf8_all (map f (take i bs)) ++ encode_utf8 (f (get_or bs i d))
encode_utf8_all_map_more f bs i d below = ap encode_utf8_all (map_more f bs i d below) ∙ encode_utf8_all_push (map f (take i bs)) (f (get_or bs i d))
