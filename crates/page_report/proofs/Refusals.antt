-- What is refused within what is read.
use Rattle.std.proofs.Common.{◌≡◌, ◌<◌, ◌+◌, ◌-◌, suc, arith, ℕ, List, Result, Ok, Err, IfErr, sym, ap, subst, ◌∙◌, inl, inr}
use Rattle.page_report.specs.Reading.{Found, IsRefusal, put, then_read}
use Rattle.page_report.specs.declared.reading.ReadFault.{ReadFault}

-- a refusal of what is read first is one of all
pub first_refused : {A B : Type 0} (found : Found A) (more : A → List (List ℕ) → Found B) (fault : ReadFault) → IsRefusal found fault → IsRefusal (then_read found more) fault
first_refused found more fault (inl memory) = inl memory
first_refused found more fault (inr line) = inr (line.0, ap (λ own. then_read own more) line.1, line.2)

-- a refusal of what is read then is one of all
pub then_refused : {A B : Type 0} (found : Found A) (more : A → List (List ℕ) → Found B) (own : A) (behind : List (List ℕ)) (fault : ReadFault) → found ≡ Ok (own, behind)
    → IsRefusal (more own behind) fault → IsRefusal (then_read found more) fault
then_refused found more own behind fault is refused = subst (λ found. IsRefusal (then_read found more) fault) (sym is) refused

-- what is read, and then what is read behind
pub then_found : {A B : Type 0} (found : Found A) (more : A → List (List ℕ) → Found B) (own : A) (behind : List (List ℕ)) (all : Found B) → found ≡ Ok (own, behind)
    → more own behind ≡ all → then_read found more ≡ all
then_found found more own behind all is last = ap (λ found. then_read found more) is ∙ last

pub passed_on : {A B : Type 0} (found : Found A) (result : Result B ReadFault) (fault : ReadFault) → result ≡ Err fault → IsRefusal found fault → IfErr result (IsRefusal found)
passed_on found result fault is refused = subst (λ r. IfErr r (IsRefusal found)) (sym is) refused

-- a refusal of what stands behind others
pub put_refused : {A : Type 0} (xs : List A) (found : Found (List A)) (fault : ReadFault) → IsRefusal found fault → IsRefusal (put xs found) fault
put_refused xs found fault (inl memory) = inl memory
put_refused xs found fault (inr line) = inr (line.0, ap (put xs) line.1, line.2)

-- so many more, of which one is next
pub one_more : (all before : ℕ) → before < all → all - before ≡ suc (all - (before + 1))
one_more all before below = omega (arith, below)
