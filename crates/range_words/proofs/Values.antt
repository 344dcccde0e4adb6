-- What is read of the matches, as what `clap` finds.
use Rattle.std.proofs.Common.{◌≡◌, ◌<◌, ◌^◌, ℕ, pos, List, Option, Some, None, refl, sym, ap, subst, ◌∙◌}
use Rattle.std.specs.Prelude.{option_map, unwrap_or, Result, Ok}
use Rattle.std.specs.Option.{option_map_or}
use Rattle.std.specs.Borrow.{Bor}
use Rattle.std.specs.Str.Parse.{ParsesUnsigned, digits_value, without_leading_plus}
use Rattle.clap.specs.Words.{IsSignedIn, ReadsOne}
use Rattle.clap.proofs.CallerReads.{signed_reads}
use Rattle.std.proofs.Common.{map, [], ◌⊎◌, inl, inr}
use Rattle.clap.specs.Words.{Kinds, IsAmong, Row}
use Rattle.clap.specs.declared.error.ErrorKind.{ErrorKind}
use Rattle.clap.specs.declared.error.ErrorKind.TheVariants as kind
use Rattle.range_words.specs.WordList.{IsRefusal, SpeaksFor}
use Rattle.range_words.specs.declared.words.WordFault.{WordFault}
use Rattle.range_words.specs.declared.words.WordFault.TheVariants.{OutOfMemory, Help, Version, BadWords, TooManyFiles, BadLevels}
use Rattle.range_words.proofs.WordEntries.{no_minus}

abbrev value_of : List ℕ → ℕ
value_of text = digits_value 10 (without_leading_plus text)

number_read : {E : Type 0} (G : List ℕ → Result ℕ E → Type 0) (limit : ℕ) (text : List ℕ) (r : Option ℕ) (n default : ℕ)
    → ((u : List ℕ) (x : Result ℕ E) → G u x → ParsesUnsigned 32 10 u x)
    → ReadsOne G text r → r ≡ Some n → unwrap_or r default ≡ value_of text
number_read G limit text None n default only read is = cc
number_read G limit text (Some v) n default only read is = (only text (Ok v) read).1

-- the number that a typed getter reads of a text in a range, or the default where there is no text
pub number_is : {E : Type 0} (G : List ℕ → Result ℕ E → Type 0) (limit : ℕ) (o : Option (List ℕ)) (r : Option ℕ) (default : ℕ) → limit < 2 ^ 32
    → ((u : List ℕ) (x : Result ℕ E) → G u x → ParsesUnsigned 32 10 u x) → (o ≡ None → r ≡ None) → ((text : List ℕ) → o ≡ Some text → ReadsOne G text r)
    → ((text : List ℕ) → o ≡ Some text → IsSignedIn (pos 1) (pos limit) text) → unwrap_or r default ≡ option_map_or value_of o default
number_is G limit None r default small only none some passed = ap (λ x. unwrap_or x default) (none refl)
number_is {E} G limit (Some text) r default small only none some passed =
    let read = some text refl in
    let plain = no_minus limit text (passed text refl) in
    let got = signed_reads E G 32 1 limit text r (subst (λ (t : List ℕ). ReadsOne G t r) (sym plain) read) only small (passed text refl) in
    number_read G limit text r got.0 default only read got.1

-- the text of an option, or of its default where it has none
pub text_or : (o : Option (Bor (List ℕ))) (default : Bor (List ℕ)) (x : Option (List ℕ)) → option_map (λ (s : Bor (List ℕ)). s.now) o ≡ x
    → (unwrap_or o default).now ≡ unwrap_or x default.now
text_or None default x e = ap (λ (y : Option (List ℕ)). unwrap_or y default.now) e
text_or (Some s) default x e = ap (λ (y : Option (List ℕ)). unwrap_or y default.now) e

abbrev texts_of : Bor (List (Bor (List ℕ))) → List (List ℕ)
texts_of s = map (λ (v : Bor (List ℕ)). v.now) s.now

-- where no texts are found there are none
pub no_texts : (o : Option (Bor (List (Bor (List ℕ))))) (x : Option (List (List ℕ))) → option_map texts_of o ≡ x → o ≡ None → [] ≡ unwrap_or x []
no_texts None x e is = ap (λ (y : Option (List (List ℕ))). unwrap_or y []) e
no_texts (Some s) x e is = cc

-- where texts are found they are those
pub some_texts : (o : Option (Bor (List (Bor (List ℕ))))) (s : Bor (List (Bor (List ℕ)))) (x : Option (List (List ℕ))) → option_map texts_of o ≡ x → o ≡ Some s
    → texts_of s ≡ unwrap_or x []
some_texts o s x e is = ap (λ (y : Option (List (List ℕ))). unwrap_or y []) (ap (option_map texts_of) (sym is) ∙ e)

-- what is made of a refusal by `clap` says why the words are refused
pub refusal_is : (k : ErrorKind) (kinds : Kinds) (rows : List Row) (fault : WordFault) → (k ≡ kind.OutOfMemory) ⊎ IsAmong k kinds → SpeaksFor k fault
    → IsRefusal kinds rows fault
refusal_is k kinds rows OutOfMemory among speaks = tt
refusal_is k kinds rows (Help text) (inl e) speaks = let named : k ≡ kind.DisplayHelp = speaks.0 in cc
refusal_is k kinds rows (Help text) (inr among) speaks = (subst (λ (x : ErrorKind). IsAmong x kinds) speaks.0 among, speaks.1)
refusal_is k kinds rows (Version text) (inl e) speaks = let named : k ≡ kind.DisplayVersion = speaks.0 in cc
refusal_is k kinds rows (Version text) (inr among) speaks = (subst (λ (x : ErrorKind). IsAmong x kinds) speaks.0 among, speaks.1)
refusal_is k kinds rows (BadWords text) (inl e) speaks = absurd (speaks.1 e)
refusal_is k kinds rows (BadWords text) (inr among) speaks = inl (k, among, speaks.0)
refusal_is k kinds rows TooManyFiles among speaks = absurd speaks
refusal_is k kinds rows (BadLevels fault) among speaks = absurd speaks
