-- A read of a record takes the first of the records that are left.
use Rattle.std.proofs.Common.{◌≡◌, ◌+◌, ◌-◌, ◌<◌, ◌≤◌, ℕ, zero, suc, Bool, true, false, cond, List, [], ◌∷◌, ◌++◌, length, Option, Some, None, refl, sym, ◌∙◌}
use Rattle.std.proofs.Common.{ap, arith, add-one}
use Rattle.std.specs.Option.{option_map}
use Rattle.csv.specs.Machine.{Read, ends_at_end, field_after, fields_after, is_end, next_record, step}
use Rattle.csv.specs.Reading.{NextIs, ReadRecord, ReadsNext, default_config, pending_of, reader_config, records_from, records_next, source_of}
use Rattle.csv.specs.declared.parser.State.{State}
use Rattle.csv.specs.declared.parser.State.TheVariants as st
use Rattle.csv.specs.declared.reader.Reader.{Reader}
use Rattle.range_fixes.specs.Records.{TakesRecord, records_of, records_left}

-- at the end of a text no byte is left after a record
end_shrinks : (s : State) (f : List (List ℕ)) (g : List ℕ) (p : Read) → next_record default_config s f g [] ≡ Some p → length p.2 ≡ 0
unfolding next_record
end_shrinks s f g p e = by (ends_at_end s) refl e
  where
    by : (b : Bool) → ends_at_end s ≡ b → cond b (Some (f ++ (g ∷ []), st.StartRecord, [])) None ≡ Some p → length p.2 ≡ 0
    by true h e = let last : p ≡ (f ++ (g ∷ []), st.StartRecord, []) = cc in rw last refl
    by false h e = cc e

-- a record takes at least a byte of a text that has one
shrinks : (s : State) (f : List (List ℕ)) (g : List ℕ) (xs : List ℕ) (p : Read) → next_record default_config s f g xs ≡ Some p → length p.2 ≤ length xs - 1
unfolding next_record
shrinks s f g [] p e = let none = end_shrinks s f g p e in omega arith
shrinks s f g (c ∷ xs) p e = by (is_end (step default_config s c).1) refl e
    (shrinks (step default_config s c).0 (fields_after (step default_config s c).1 f g) (field_after (step default_config s c).1 c g) xs p)
  where
    by : (b : Bool) → is_end (step default_config s c).1 ≡ b
        → cond b (Some (fields_after (step default_config s c).1 f g, (step default_config s c).0, xs))
        (next_record default_config (step default_config s c).0 (fields_after (step default_config s c).1 f g)
        (field_after (step default_config s c).1 c g) xs) ≡ Some p
        → (next_record default_config (step default_config s c).0 (fields_after (step default_config s c).1 f g)
        (field_after (step default_config s c).1 c g) xs ≡ Some p → length p.2 ≤ length xs - 1)
        → length p.2 ≤ length (c ∷ xs) - 1
    by true h e more = let last : p ≡ (fields_after (step default_config s c).1 f g, (step default_config s c).0, xs) = cc in rw last (omega arith)
    by false h e more = let less = more e in omega arith

-- at the end there are as many records whatever the count allows
none_at_end : (n : ℕ) → records_from default_config n st.StartRecord [] ≡ []
unfolding records_from next_record
none_at_end zero = refl
none_at_end (suc n) = refl

-- the record that the end of a text ends leaves no other
last_at_end : (s : State) (p : Read) (n m : ℕ) → next_record default_config s [] [] [] ≡ Some p
    → records_from default_config n p.1 p.2 ≡ records_from default_config m p.1 p.2
unfolding next_record
last_at_end s p n m e = by (ends_at_end s) refl e
  where
    by : (b : Bool) → ends_at_end s ≡ b → cond b (Some (([] ∷ []), st.StartRecord, [])) None ≡ Some p
        → records_from default_config n p.1 p.2 ≡ records_from default_config m p.1 p.2
    by true h e = let last : p ≡ (([] ∷ []), st.StartRecord, []) = cc in rw last (none_at_end n ∙ sym (none_at_end m))
    by false h e = cc e

-- any count above the length of a text allows all its records
enough : (n m : ℕ) (s : State) (xs : List ℕ) → length xs < n → length xs < m → records_from default_config n s xs ≡ records_from default_config m s xs
unfolding records_from
enough zero m s xs h k = absurd (omega arith)
enough (suc n) zero s xs h k = absurd (omega arith)
enough (suc n) (suc m) s xs h k = by xs (next_record default_config s [] [] xs) refl h k (enough n m)
  where
    by : (ys : List ℕ) (o : Option Read) → next_record default_config s [] [] ys ≡ o → length ys < suc n → length ys < suc m
        → ((t : State) (zs : List ℕ) → length zs < n → length zs < m → records_from default_config n t zs ≡ records_from default_config m t zs)
        → records_next (records_from default_config n) o ≡ records_next (records_from default_config m) o
    by ys None e h k more = refl
    by [] (Some p) e h k more = ap (λ (more : List (List (List ℕ))). p.0 ∷ more) (last_at_end s p n m e)
    by (c ∷ ys) (Some p) e h k more =
        let less = shrinks s [] [] (c ∷ ys) p e in
        ap (λ (more : List (List (List ℕ))). p.0 ∷ more) (more p.1 p.2 (omega arith) (omega arith))

-- the records of a text, by its next one
records_step : (s : State) (xs : List ℕ) → records_of s xs ≡ records_next records_of (next_record default_config s [] [] xs)
unfolding records_from
records_step s xs = rw add-one (by xs (next_record default_config s [] [] xs) refl)
  where
    by : (ys : List ℕ) (o : Option Read) → next_record default_config s [] [] ys ≡ o
        → records_next (records_from default_config (length ys)) o ≡ records_next records_of o
    by ys None e = refl
    by [] (Some p) e = ap (λ (more : List (List (List ℕ))). p.0 ∷ more) (last_at_end s p 0 (length p.2 + 1) e)
    by (c ∷ ys) (Some p) e =
        let less = shrinks s [] [] (c ∷ ys) p e in
        ap (λ (more : List (List (List ℕ))). p.0 ∷ more) (enough (length (c ∷ ys)) (length p.2 + 1) p.1 p.2 (omega arith) (omega arith))

takes_next : (s s2 : State) (xs ys : List ℕ) (found : Bool) (f : List (List ℕ)) (o : Option Read) → records_of s xs ≡ records_next records_of o
    → NextIs o found f s2 ys → TakesRecord (Some (records_of s xs)) found f (Some (records_of s2 ys))
takes_next s s2 xs ys true f None e n = cc n
takes_next s s2 xs ys false f None e n = e
takes_next s s2 xs ys true f (Some p) e n = rw (n.1, n.2, n.3) (records_of p.1 p.2, e, refl)
takes_next s s2 xs ys false f (Some p) e n = cc n.0

takes_known : (s s2 : State) (source after : Option (List ℕ)) (found : Bool) (f : List (List ℕ)) → ReadsNext default_config s source after found f s2
    → TakesRecord (option_map (records_of s) source) found f (option_map (records_of s2) after)
takes_known s s2 None after found f r = tt
takes_known s s2 (Some xs) None found f r = absurd r
takes_known s s2 (Some xs) (Some ys) found f r = takes_next s s2 xs ys found f _ (records_step s xs) r

-- a read of the crate `csv` takes the first of the records that are left, or finds that there is none
pub takes_record : {R : Type 0} (remaining : R → Option (List ℕ)) (a b : Reader R) (found : Bool) (f : List (List ℕ)) → reader_config a ≡ default_config
    → ReadRecord remaining a b found f → TakesRecord (records_left remaining a) found f (records_left remaining b)
takes_record remaining a b found f config r =
    let plain = takes_known a.state b.state (source_of remaining a) (pending_of (remaining b.rdr) b) found f (rw config at r.0) in
    rw r.1 plain
