-- The records of parts that were taken from a whole.
use Rattle.std.proofs.Common.{◌≡◌, ◌∙◌, ◌+◌, ℕ, true, List, [], ◌∷◌, ◌++◌, Option, None, Some, IfSome, Ok, Bor, length, ap, ap₂, sym, subst, append-nil, append_assoc, length-append}
use Rattle.std.proofs.lemmas.Grind.{flat_map-append}
use Rattle.std.proofs.lemmas.List.{map-append}
use Rattle.std.proofs.lemmas.List.Elements.{All-push}
use Rattle.split_table.specs.Table.{TakesRecord, Titled, table_of}
use Rattle.split_table.specs.TableLeft.{Record, TableLeft}
use Rattle.split_join.specs.Joined.{AreParts, IsPart, Passed, records_of_all}

-- so many records of a part, of which these are left, were the first that the whole had left
pub record Taken (records : List Record) (left before after : Option (List Record)) (count : ℕ) : Type 0 where
  pub done : List Record
  pub more : List Record
  pub are : records ≡ done ++ more
  pub left_are : left ≡ Some more
  pub passed : Passed done before after
  pub counted : count ≡ length done

-- the same of a part whose records are known or not
abbrev pub SoFar : Option (List Record) → Option (List Record) → Option (List Record) → Option (List Record) → ℕ → Type 0
SoFar part left before after count = IfSome part (λ records. Taken records left before after count)

passed_more : (done next : List Record) (before whole after : Option (List Record)) → Passed done before whole → Passed next whole after → Passed (done ++ next) before after
passed_more done next None whole after p q = _
passed_more done next (Some all) whole after (rest, are, is) q = one (subst (λ o. Passed next o after) is q)
  where
    one : Passed next (Some rest) after → Passed (done ++ next) (Some all) after
    one (more, these, left) = (more, rw these at are ∙ sym (append_assoc done next more), left)

taken_more : (records : List Record) (left after before whole new : Option (List Record)) (fields : Record) (count : ℕ) → Taken records left before whole count
    → TakesRecord left true fields after → Passed (fields ∷ []) whole new → Taken records after before new (count + 1)
taken_more records left after before whole new fields count t takes passes = one (subst (λ o. TakesRecord o true fields after) t.left_are takes)
  where
    one : TakesRecord (Some t.more) true fields after → Taken records after before new (count + 1)
    one (more, next, is) = record {
      done = t.done ++ fields ∷ [];
      more = more;
      are = rw next at t.are ∙ sym (append_assoc t.done (fields ∷ []) more);
      left_are = is;
      passed = passed_more t.done (fields ∷ []) before whole new t.passed passes;
      counted = rw (length-append t.done (fields ∷ [])) (ap (λ (n : ℕ). n + 1) t.counted);
    }

-- one more record was taken of both
pub more : (part left after before whole new : Option (List Record)) (fields : Record) (count : ℕ) → SoFar part left before whole count
    → TakesRecord left true fields after → Passed (fields ∷ []) whole new → SoFar part after before new (count + 1)
more None left after before whole new fields count so takes passes = _
more (Some records) left after before whole new fields count so takes passes = taken_more records left after before whole new fields count so takes passes

records_more : (tables : List Titled) (last : Titled) → records_of_all (tables ++ last ∷ []) ≡ records_of_all tables ++ last.records
records_more tables last = flat_map-append (λ (table : Titled). table.records) tables (last ∷ []) ∙ ap (λ l. records_of_all tables ++ l) (append-nil last.records)

-- one more text is a part of the whole
pub one_part_more : (before whole after : TableLeft) (texts : List (Bor (List ℕ))) (text : Bor (List ℕ)) (counts : List ℕ) (count : ℕ) → AreParts before whole texts counts
    → whole.titles ≡ before.titles → IsPart whole after text.now count → AreParts before after (texts ++ text ∷ []) (counts ++ count ∷ [])
one_part_more before whole after texts text counts count are same part = record {
  tables = are.tables ++ part.table ∷ [];
  are_tables = record {
    are_of = map-append (λ (own : Bor (List ℕ)). table_of own.now) texts (text ∷ [])
        ∙ (ap₂ (λ l r. l ++ r ∷ []) are.are_tables.are_of part.is_table ∙ sym (map-append Ok are.tables (part.table ∷ [])));
    alike = All-push (λ table. table.titles ≡ before.titles) are.tables part.table are.are_tables.alike (part.alike ∙ same);
  };
  passed = subst (λ records. Passed records before.left after.left) (sym (records_more are.tables part.table))
      (passed_more (records_of_all are.tables) part.table.records before.left whole.left after.left are.passed part.passed);
  counted = ap₂ (λ l n. l ++ n ∷ []) are.counted part.counted ∙ sym (map-append (λ (table : Titled). length table.records) are.tables (part.table ∷ []));
}
