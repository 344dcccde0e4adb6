use Rattle.std.proofs.Common.{◌≡◌, ◌∙◌, ◌++◌, false, is_some, map, subst, sym, ap, refl}
use Rattle.std.specs.List.{list_any}
use Rattle.std.specs.Str.{bytes_eq}
use Rattle.split_reading.proofs.Places.{place_found, place_missing}
use Rattle.split_reading.proofs.WordFacts.{place_in, with_new, with_old}
use Rattle.split_reading.proofs.words.number_of.Goals as goal
use Rattle.split_reading.proofs.words.number_of.Goals.{In-Some, In_default}

pub returns-in-Some-clause-number : goal.returns-in-Some-clause-number
returns-in-Some-clause-number c =
    place_found (λ k. bytes_eq c.args.word.now k.items) c.args.words.now.keys c.in-Some.number (sym c.in-Some.is ∙ c.get_index_of.ensures.index) ∙ place_in (λ k. k.items) c.args.word.now c.args.words.now.keys

pub returns-in-Some-clause-words : goal.returns-in-Some-clause-words
returns-in-Some-clause-words c =
    with_old (λ k. k.items) c.args.word.now c.args.words.now.keys (sym c.get_index_of.ensures.found ∙ ap is_some c.in-Some.is)

pub returns-clause-number : goal.returns-clause-number
returns-clause-number c =
    c.len-number.ensures.len ∙ (place_missing (λ k. bytes_eq c.args.word.now k.items) c.args.words.now.keys (sym c.in_default.is ∙ c.get_index_of.ensures.index) ∙ place_in (λ k. k.items) c.args.word.now c.args.words.now.keys)

pub returns-clause-words : goal.returns-clause-words
returns-clause-words c =
    let keys = c.args.words.now.keys in
    let key = c.extend_from_slice.new.self in
    let none : list_any (λ k. bytes_eq c.args.word.now k.items) keys ≡ false = sym c.get_index_of.ensures.found ∙ ap is_some c.in_default.is in
    let own : key.items ≡ c.args.word.now = c.in_ok-extend_from_slice.ensures.items ∙ ap (λ l. l ++ c.args.word.now) c.new-own.ensures.items in
    let absent : list_any (λ k. bytes_eq key.items k.items) keys ≡ false = subst (λ w. list_any (λ k. bytes_eq w k.items) keys ≡ false) (sym own) none in
    ap (λ l. map (λ k. k.items) l) (c.in_ok-insert.ensures.keys ∙ rw absent refl) ∙ with_new (λ k. k.items) c.args.word.now keys key own none
