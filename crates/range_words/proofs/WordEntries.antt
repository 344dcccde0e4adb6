-- What `clap` lets through of an option whose parser takes numbers from 1 to a limit.
use Rattle.std.proofs.Common.{◌≡◌, ℕ, ◌<◌, pos, Bool, true, false, List, [], ◌∷◌, length, get_or, Option, Some, None, refl, sym, ap, subst, ◌∙◌, arith, inl}
use Rattle.std.proofs.Common.{inr}
use Rattle.std.specs.Prelude.{option_map, slice_get}
use Rattle.std.specs.List.{All}
use Rattle.std.specs.Str.{bytes_eq}
use Rattle.std.specs.Str.Parse.{starts_with_minus}
use Rattle.std.specs.Borrow.{Bor}
use Rattle.std.proofs.lemmas.Int.{ints}
use Rattle.std.proofs.lemmas.Slice.Eq.{bytes_eq-Decides}
use Rattle.clap.specs.Lexer.{without_minus}
use Rattle.clap.specs.Facts.{Entry, EntryPasses, HasReading, PassesArg, ValuesPass, args_of, groups_of, parser_of_value}
use Rattle.clap.specs.Words.{Accepts, IsSignedIn, matched_of, one_text, read_as, reading_of}
use Rattle.clap.specs.declared.builder.arg.Arg.{Arg}
use Rattle.clap.specs.declared.builder.command.Command.{Command}
use Rattle.clap.specs.declared.builder.ValueParser.{ValueParser}
use Rattle.clap.specs.declared.builder.ValueParser.TheVariants as value_parser
use Rattle.clap.specs.declared.builder.value_parser.Reading.{Reading}
use Rattle.clap.specs.declared.builder.value_parser.Reading.TheVariants as reading
use Rattle.clap.specs.declared.parser.matches.Found.{Found}
use Rattle.clap.specs.declared.parser.matches.MatchedArg.{MatchedArg}
use Rattle.clap.proofs.CallerLemmas.{entry_by_id}

-- the parser of a number from 1 to the limit
abbrev pub number_parser : ℕ → ValueParser
number_parser limit = value_parser.Signed (pos 1) (pos limit)

-- arguments that have this id have this parser
abbrev pub AreNumbers : Command → List ℕ → ℕ → Type 0
AreNumbers c id limit = (x : Arg) → (j : ℕ) → j < length (args_of c) → get_or (args_of c) j x ≡ x → bytes_eq x.id.now id ≡ true
    → x.value_parser ≡ Some (number_parser limit)

-- a text that passed a range from 1 on has no minus
without_none : (t : List ℕ) → starts_with_minus t ≡ false → without_minus t ≡ t
without_none [] e = refl
without_none (x ∷ xs) e = rw e refl

-- of a text that passed a range from 1 on there is no minus to take away
pub no_minus : (limit : ℕ) (text : List ℕ) → IsSignedIn (pos 1) (pos limit) text → without_minus text ≡ text
no_minus limit text passed = go (starts_with_minus text) refl
  where
    go : (b : Bool) → starts_with_minus text ≡ b → without_minus text ≡ text
    go true minus =
        let low_ok = rw minus at passed.2 in
        absurd (omega (arith, ints))
    go false minus = without_none text minus

-- the first value of an entry
first_value_of : (x : MatchedArg) (vs : List (Bor (List ℕ))) (text : List ℕ) → option_map (λ s. read_as x.reading s.now) (slice_get vs 0) ≡ Some text
    → (v : Bor (List ℕ)) × (0 < length vs) × (v ≡ get_or vs 0 v) × (text ≡ read_as x.reading v.now)
first_value_of x [] text e = cc
first_value_of x (v ∷ vs) text e = (v, omega arith, refl, cc)

accepts_number : (c : Command) (id : List ℕ) (limit : ℕ) (v : List ℕ) → AreNumbers c id limit → PassesArg c id v → IsSignedIn (pos 1) (pos limit) v
accepts_number c id limit v numbers passes =
    subst (λ (q : ValueParser). Accepts passes.1.ignore_case q v) (ap parser_of_value (numbers passes.1 passes.0 passes.2 passes.3 passes.4.0)) passes.4.1

reads_number : (c : Command) (id : List ℕ) (limit : ℕ) (how : Reading) → AreNumbers c id limit → HasReading c id how → how ≡ reading.WithoutMinus
reads_number c id limit how numbers has = sym has.4.1 ∙ ap (λ (o : Option ValueParser). reading_of (parser_of_value o))
    (numbers has.1 has.0 has.2 has.3 has.4.0)

number_of_value : (c : Command) (id : List ℕ) (limit : ℕ) (how : Reading) (v text : List ℕ) → AreNumbers c id limit → PassesArg c id v → HasReading c id how
    → text ≡ read_as how v
    → IsSignedIn (pos 1) (pos limit) text
number_of_value c id limit how v text numbers passes has is =
    let accepted = accepts_number c id limit v numbers passes in
    let text_is : text ≡ v = is ∙ ap (λ (r : Reading). read_as r v) (reads_number c id limit how numbers has) ∙ no_minus limit v accepted in
    subst (λ (t : List ℕ). IsSignedIn (pos 1) (pos limit) t) (sym text_is) accepted

number_of_entry : (c : Command) (id : List ℕ) (limit : ℕ) (x : MatchedArg) (e : Entry) (text : List ℕ) → groups_of c ≡ [] → (id ≡ [] → ⊥)
    → AreNumbers c id limit
    → option_map (λ s. read_as x.reading s.now) (slice_get x.vals.items 0) ≡ Some text → e.1 ≡ x → e.0.now ≡ id → EntryPasses c e
    → IsSignedIn (pos 1) (pos limit) text
number_of_entry c id limit x e text none named numbers read same_x key pass =
    let no_group : e.1.is_group ≡ true → ⊥ = λ g. elim (pass.3 g) [
      | inl empty ↦ named (sym key ∙ empty)
      | inr lots ↦
          let bad : 0 < 0 = rw none at lots in
          absurd (omega arith)
    ] in
    let all : All (λ v. PassesArg c id v.now) x.vals.items = elim pass.0 [
      | inl g ↦ absurd (no_group g)
      | inr vals ↦ subst (λ (w : List ℕ). All (λ v. PassesArg c w v.now) x.vals.items) key (rw same_x at vals)
    ] in
    let how : HasReading c id x.reading = elim pass.4 [
      | inl g ↦ absurd (no_group g)
      | inr h ↦ subst (λ (w : List ℕ). HasReading c w x.reading) key (rw same_x at h)
    ] in
    let first = first_value_of x x.vals.items text read in
    number_of_value c id limit x.reading first.0.now text numbers
    (subst (λ (w : Bor (List ℕ)). PassesArg c id w.now) (sym first.2) (all 0 first.0 first.1)) how first.3

-- where all arguments with an id take numbers up to the limit, the one text found of it is such a number
pub number_found : (c : Command) (f : Found) (id : List ℕ) (limit : ℕ) → ValuesPass c f → groups_of c ≡ [] → (id ≡ [] → ⊥) → AreNumbers c id limit
    → (text : List ℕ) → one_text f id ≡ Some text → IsSignedIn (pos 1) (pos limit) text
number_found c f id limit values none named numbers text = go (matched_of f id) refl
  where
    step : (x : MatchedArg) (text : List ℕ) → option_map (λ s. read_as x.reading s.now) (slice_get x.vals.items 0) ≡ Some text
        → ((e : Entry) × (e.1 ≡ x) × (bytes_eq e.0.now id ≡ true) × EntryPasses c e) → IsSignedIn (pos 1) (pos limit) text
    step x text read got = number_of_entry c id limit x got.0 text none named numbers read got.1 ((bytes_eq-Decides got.0.0.now id).0 got.2) got.3

    go : (o : Option MatchedArg) → matched_of f id ≡ o → one_text f id ≡ Some text → IsSignedIn (pos 1) (pos limit) text
    go None e h =
        let bad : None ≡ Some text = rw e at h in
        cc
    go (Some x) e h = step x text (rw e at h) (entry_by_id (EntryPasses c) f.entries.items id x values e)
