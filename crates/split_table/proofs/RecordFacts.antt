-- A read of a record takes the first of the records that are left.
use Rattle.std.proofs.Common.{◌≡◌, ◌+◌, ◌-◌, ◌<◌, ◌≤◌, ℕ, zero, suc, Bool, true, false, cond, List, [], ◌∷◌, ◌++◌, length, Option, Some, None, refl, sym, ◌∙◌}
use Rattle.std.proofs.Common.{ap, arith, add-one, Ok, Err}
use Rattle.std.specs.Option.{option_map}
use Rattle.csv.specs.Machine.{Read, ends_at_end, field_after, fields_after, is_end, next_record, step}
use Rattle.csv.specs.Reading.{NextIs, ReadRecord, ReadsNext, pending_of, records_from, records_next, source_of}
use Rattle.csv.specs.declared.parser.Config.{Config}
use Rattle.csv.specs.declared.parser.State.{State}
use Rattle.csv.specs.declared.parser.State.TheVariants as st
use Rattle.csv.specs.declared.reader.Reader.{Reader}
use Rattle.split_table.specs.Table.{TakesRecord, records_of, records_left, titled}
use Rattle.split_table.specs.TableLeft.{Record}
use Rattle.split_table.specs.declared.table.TableFault.TheVariants.{NoTitles}

-- at the end of a text no byte is left after a record
end_shrinks : (cfg : Config) (s : State) (f : List (List ℕ)) (g : List ℕ) (p : Read) → next_record cfg s f g [] ≡ Some p → length p.2 ≡ 0
unfolding next_record
end_shrinks cfg s f g p e = by (ends_at_end s) refl e
  where
    by : (b : Bool) → ends_at_end s ≡ b → cond b (Some (f ++ (g ∷ []), st.StartRecord, [])) None ≡ Some p → length p.2 ≡ 0
    by true h e = let last : p ≡ (f ++ (g ∷ []), st.StartRecord, []) = cc in rw last refl
    by false h e = cc e

-- a record takes at least a byte of a text that has one
shrinks : (cfg : Config) (s : State) (f : List (List ℕ)) (g : List ℕ) (xs : List ℕ) (p : Read) → next_record cfg s f g xs ≡ Some p → length p.2 ≤ length xs - 1
unfolding next_record
shrinks cfg s f g [] p e = let none = end_shrinks cfg s f g p e in omega arith
shrinks cfg s f g (c ∷ xs) p e = by (is_end (step cfg s c).1) refl e
    (shrinks cfg (step cfg s c).0 (fields_after (step cfg s c).1 f g) (field_after (step cfg s c).1 c g) xs p)
  where
    by : (b : Bool) → is_end (step cfg s c).1 ≡ b
        → cond b (Some (fields_after (step cfg s c).1 f g, (step cfg s c).0, xs))
        (next_record cfg (step cfg s c).0 (fields_after (step cfg s c).1 f g)
        (field_after (step cfg s c).1 c g) xs) ≡ Some p
        → (next_record cfg (step cfg s c).0 (fields_after (step cfg s c).1 f g)
        (field_after (step cfg s c).1 c g) xs ≡ Some p → length p.2 ≤ length xs - 1)
        → length p.2 ≤ length (c ∷ xs) - 1
    by true h e more = let last : p ≡ (fields_after (step cfg s c).1 f g, (step cfg s c).0, xs) = cc in rw last (omega arith)
    by false h e more = let less = more e in omega arith

-- at the end there are as many records whatever the count allows
none_at_end : (cfg : Config) (n : ℕ) → records_from cfg n st.StartRecord [] ≡ []
unfolding records_from next_record
none_at_end cfg zero = refl
none_at_end cfg (suc n) = refl

-- the record that the end of a text ends leaves no other
last_at_end : (cfg : Config) (s : State) (p : Read) (n m : ℕ) → next_record cfg s [] [] [] ≡ Some p
    → records_from cfg n p.1 p.2 ≡ records_from cfg m p.1 p.2
unfolding next_record
last_at_end cfg s p n m e = by (ends_at_end s) refl e
  where
    by : (b : Bool) → ends_at_end s ≡ b → cond b (Some (([] ∷ []), st.StartRecord, [])) None ≡ Some p
        → records_from cfg n p.1 p.2 ≡ records_from cfg m p.1 p.2
    by true h e = let last : p ≡ (([] ∷ []), st.StartRecord, []) = cc in rw last (none_at_end cfg n ∙ sym (none_at_end cfg m))
    by false h e = cc e

-- any count above the length of a text allows all its records
enough : (cfg : Config) (n m : ℕ) (s : State) (xs : List ℕ) → length xs < n → length xs < m → records_from cfg n s xs ≡ records_from cfg m s xs
unfolding records_from
enough cfg zero m s xs h k = absurd (omega arith)
enough cfg (suc n) zero s xs h k = absurd (omega arith)
enough cfg (suc n) (suc m) s xs h k = by xs (next_record cfg s [] [] xs) refl h k (enough cfg n m)
  where
    by : (ys : List ℕ) (o : Option Read) → next_record cfg s [] [] ys ≡ o → length ys < suc n → length ys < suc m
        → ((t : State) (zs : List ℕ) → length zs < n → length zs < m → records_from cfg n t zs ≡ records_from cfg m t zs)
        → records_next (records_from cfg n) o ≡ records_next (records_from cfg m) o
    by ys None e h k more = refl
    by [] (Some p) e h k more = ap (λ (more : List (List (List ℕ))). p.0 ∷ more) (last_at_end cfg s p n m e)
    by (c ∷ ys) (Some p) e h k more =
        let less = shrinks cfg s [] [] (c ∷ ys) p e in
        ap (λ (more : List (List (List ℕ))). p.0 ∷ more) (more p.1 p.2 (omega arith) (omega arith))

-- the records of a text, by its next one
pub records_step : (cfg : Config) (s : State) (xs : List ℕ) → records_of cfg s xs ≡ records_next (records_of cfg) (next_record cfg s [] [] xs)
unfolding records_from
records_step cfg s xs = rw add-one (by xs (next_record cfg s [] [] xs) refl)
  where
    by : (ys : List ℕ) (o : Option Read) → next_record cfg s [] [] ys ≡ o
        → records_next (records_from cfg (length ys)) o ≡ records_next (records_of cfg) o
    by ys None e = refl
    by [] (Some p) e = ap (λ (more : List (List (List ℕ))). p.0 ∷ more) (last_at_end cfg s p 0 (length p.2 + 1) e)
    by (c ∷ ys) (Some p) e =
        let less = shrinks cfg s [] [] (c ∷ ys) p e in
        ap (λ (more : List (List (List ℕ))). p.0 ∷ more) (enough cfg (length (c ∷ ys)) (length p.2 + 1) p.1 p.2 (omega arith) (omega arith))

takes_next : (cfg : Config) (s s2 : State) (xs ys : List ℕ) (found : Bool) (f : List (List ℕ)) (o : Option Read) → records_of cfg s xs ≡ records_next (records_of cfg) o
    → NextIs o found f s2 ys → TakesRecord (Some (records_of cfg s xs)) found f (Some (records_of cfg s2 ys))
takes_next cfg s s2 xs ys true f None e n = cc n
takes_next cfg s s2 xs ys false f None e n = e
takes_next cfg s s2 xs ys true f (Some p) e n = rw (n.1, n.2, n.3) (records_of cfg p.1 p.2, e, refl)
takes_next cfg s s2 xs ys false f (Some p) e n = cc n.0

takes_known : (cfg : Config) (s s2 : State) (source after : Option (List ℕ)) (found : Bool) (f : List (List ℕ)) → ReadsNext cfg s source after found f s2
    → TakesRecord (option_map (records_of cfg s) source) found f (option_map (records_of cfg s2) after)
takes_known cfg s s2 None after found f r = tt
takes_known cfg s s2 (Some xs) None found f r = absurd r
takes_known cfg s s2 (Some xs) (Some ys) found f r = takes_next cfg s s2 xs ys found f _ (records_step cfg s xs) r

-- a read of the crate `csv` takes the first of the records that are left, or finds that there is none
pub takes_record : {R : Type 0} (remaining : R → Option (List ℕ)) (a b : Reader R) (found : Bool) (f : List (List ℕ))
    → ReadRecord remaining a b found f → TakesRecord (records_left remaining a) found f (records_left remaining b)
takes_record remaining a b found f r =
    let plain = takes_known a.config a.state b.state (source_of remaining a) (pending_of (remaining b.rdr) b) found f r.0 in
    rw (r.1, r.2) plain

inner : {X : Type 0} {x y : X} → Some x ≡ Some y → x ≡ y
inner e = cc e

-- a first read gives the titles of a table, of which the other records are left
pub titles_read : (all : List Record) (left after : Option (List Record)) (f : Record) → left ≡ Some all → TakesRecord left true f after
    → option_map (λ records. Ok (record { titles = f; records = records })) after ≡ Some (titled all)
titles_read all (Some records) after f e (more, is, then) = rw (then, sym (inner e), is) refl
titles_read all None after f e t = cc e

-- or there are none
pub no_titles : (all : List Record) (left after : Option (List Record)) (f : Record) → left ≡ Some all → TakesRecord left false f after → titled all ≡ Err NoTitles
no_titles all (Some records) after f e t = rw (sym (inner e), t) refl
no_titles all None after f e t = cc e
