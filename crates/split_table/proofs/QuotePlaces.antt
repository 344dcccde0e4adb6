-- Quotes in a text, from one to the next.
use Rattle.std.proofs.Common.{◌≡◌, ◌⊎◌, ◌+◌, ◌-◌, ◌<◌, ◌≤◌, ℕ, zero, suc, Bool, true, false, cond, ◌==◌, not, List, [], ◌∷◌, None, length, drop, drop_of_length-le, get_or, inl, inr, arith, refl, subst, sym, ap, ◌∙◌}
use Rattle.std.proofs.lemmas.List.{drop_more}
use Rattle.csv.specs.Machine.{in_field, is_end, step}
use Rattle.csv.specs.declared.parser.Action.{Action}
use Rattle.csv.specs.declared.parser.State.{State}
use Rattle.csv.specs.declared.parser.State.TheVariants as st
use Rattle.memchr.specs.Find.{is_byte, places_between, places_from}
use Rattle.split_table.specs.Beside.{MayBegin, MayEnd}
use Rattle.split_table.specs.Quotes.{config_by, ended_with, is_open, is_stray, quote_fault_from, quote_fault_of}
use Rattle.split_table.proofs.QuoteFacts.{is_equal}

-- whether no quote was met in the field at hand
abbrev is_unquoted : State → Bool
is_unquoted st.StartRecord = true
is_unquoted st.StartField = true
is_unquoted st.InField = true
is_unquoted st.InQuoted = false
is_unquoted st.AfterQuote = false
is_unquoted st.InEscape = false
is_unquoted st.InComment = false
is_unquoted st.AfterCr = true

-- whether a quote may begin a field
abbrev begins : State → Bool
begins st.StartRecord = true
begins st.StartField = true
begins st.InField = false
begins st.InQuoted = false
begins st.AfterQuote = false
begins st.InEscape = false
begins st.InComment = false
begins st.AfterCr = true

-- a state behind a byte that is no quote: a quote may begin a field there, unless the byte may not stand beside one
abbrev suits : Bool → State → Bool
suits true s = is_unquoted s
suits false s = begins s

suits_unquoted : (stray : Bool) (s : State) → suits stray s ≡ true → is_unquoted s ≡ true
suits_unquoted true s h = h
suits_unquoted false st.StartRecord h = refl
suits_unquoted false st.StartField h = refl
suits_unquoted false st.InField h = refl
suits_unquoted false st.InQuoted h = h
suits_unquoted false st.AfterQuote h = h
suits_unquoted false st.InEscape h = h
suits_unquoted false st.InComment h = h
suits_unquoted false st.AfterCr h = refl

suits_start : (stray : Bool) (s : State) → s ≡ st.StartRecord → suits stray s ≡ true
suits_start true s e = rw e refl
suits_start false s e = rw e refl

-- a byte that is no quote meets none
module _ (separator b : ℕ) (h : (b == 34) ≡ false) where
  in_field_stays : suits (is_stray separator st.AfterQuote b) (in_field (config_by separator) b).0 ≡ true
  in_field_stays = by (b == separator) (b == 13) (b == 10) refl refl refl
    where
      by : (d r l : Bool) → (b == separator) ≡ d → (b == 13) ≡ r → (b == 10) ≡ l → suits (is_stray separator st.AfterQuote b) (in_field (config_by separator) b).0 ≡ true
      by true r l ed er el = rw (h, ed) refl
      by false true true ed er el = rw (h, ed, er, el) refl
      by false true false ed er el = rw (h, ed, er, el) refl
      by false false true ed er el = rw (h, ed, er, el) refl
      by false false false ed er el = rw (h, ed, er, el) refl

  like_in_field : (s : State) → step (config_by separator) s b ≡ in_field (config_by separator) b
      → suits (is_stray separator st.AfterQuote b) (step (config_by separator) s b).0 ≡ true
  like_in_field s e = ap (λ (t : State × Action). suits (is_stray separator st.AfterQuote b) t.0) e ∙ in_field_stays

  start_record_stays : suits (is_stray separator st.AfterQuote b) (step (config_by separator) st.StartRecord b).0 ≡ true
  start_record_stays = by (b == 13) (b == 10) refl refl
    where
      by : (r l : Bool) → (b == 13) ≡ r → (b == 10) ≡ l → suits (is_stray separator st.AfterQuote b) (step (config_by separator) st.StartRecord b).0 ≡ true
      by true l er el = suits_start _ _ (rw er refl)
      by false true er el = suits_start _ _ (rw (er, el) refl)
      by false false er el = like_in_field st.StartRecord (rw (er, el, h) refl)

  after_cr_stays : suits (is_stray separator st.AfterQuote b) (step (config_by separator) st.AfterCr b).0 ≡ true
  after_cr_stays = by (b == 10) refl
    where
      by : (l : Bool) → (b == 10) ≡ l → suits (is_stray separator st.AfterQuote b) (step (config_by separator) st.AfterCr b).0 ≡ true
      by true el = suits_start _ _ (rw el refl)
      by false el =
          let same : step (config_by separator) st.AfterCr b ≡ step (config_by separator) st.StartRecord b = rw el refl in
          ap (λ (t : State × Action). suits (is_stray separator st.AfterQuote b) t.0) same ∙ start_record_stays

  stays : (s : State) → is_unquoted s ≡ true → suits (is_stray separator st.AfterQuote b) (step (config_by separator) s b).0 ≡ true
  stays st.StartRecord u = start_record_stays
  stays st.StartField u = like_in_field st.StartField (rw h refl)
  stays st.InField u = in_field_stays
  stays st.AfterCr u = after_cr_stays
  stays st.InQuoted u = cc u
  stays st.AfterQuote u = cc u
  stays st.InEscape u = cc u
  stays st.InComment u = cc u

  -- nor is one stray that is none, where none was met
  not_stray : (s : State) → is_unquoted s ≡ true → is_stray separator s b ≡ false
  not_stray st.StartRecord u = refl
  not_stray st.StartField u = refl
  not_stray st.InField u = h
  not_stray st.AfterCr u = refl
  not_stray st.InQuoted u = refl
  not_stray st.AfterQuote u = cc u
  not_stray st.InEscape u = refl
  not_stray st.InComment u = refl

not_open : (s : State) → is_unquoted s ≡ true → is_open s ≡ false
not_open st.StartRecord u = refl
not_open st.StartField u = refl
not_open st.InField u = refl
not_open st.AfterCr u = refl
not_open st.InQuoted u = cc u
not_open st.AfterQuote u = refl
not_open st.InEscape u = refl
not_open st.InComment u = refl

-- a quote begins a field there
begun : (separator : ℕ) (s : State) → begins s ≡ true → (is_stray separator s 34 ≡ false) × ((step (config_by separator) s 34).0 ≡ st.InQuoted)
begun separator st.StartRecord e = (refl, refl)
begun separator st.StartField e = (refl, refl)
begun separator st.AfterCr e = (refl, refl)
begun separator st.InField e = cc e
begun separator st.InQuoted e = cc e
begun separator st.AfterQuote e = cc e
begun separator st.InEscape e = cc e
begun separator st.InComment e = cc e

-- the machine's state at a place of a text before which every quote but the last, if one is open, began or ended a field
abbrev pub Stands : ℕ → List ℕ → Bool → ℕ → State → Type 0
Stands separator text true place s = s ≡ st.InQuoted
Stands separator text false place s =
    ((is_unquoted s ≡ true) × (MayBegin separator text place → begins s ≡ true)) ⊎ ((s ≡ st.AfterQuote) × MayEnd separator text place)

-- by the byte beside it, a quote at this place may end the field that is open, or begin one
abbrev pub MayTurn : ℕ → List ℕ → Bool → ℕ → Type 0
MayTurn separator text true place = MayEnd separator text (place + 1)
MayTurn separator text false place = MayBegin separator text place

module _ (separator : ℕ) (text : List ℕ) (place : ℕ) where
  behind_other : (t : State) → suits (is_stray separator st.AfterQuote (get_or text place 0)) t ≡ true → Stands separator text false (place + 1) t
  behind_other t kept = inl (suits_unquoted _ t kept, λ may. subst (λ x. suits x t ≡ true) (may place refl) kept)

  -- a byte that is no quote
  goes_on : (quoted : Bool) (s : State) → place < length text → (get_or text place 0 == 34) ≡ false → Stands separator text quoted place s
      → (is_stray separator s (get_or text place 0) ≡ false) × Stands separator text quoted (place + 1) (step (config_by separator) s (get_or text place 0)).0
  goes_on true s lt h e = rw e (refl, rw h refl)
  goes_on false s lt h (inl (u, begin)) = (
    not_stray separator (get_or text place 0) h s u,
    behind_other _ (stays separator (get_or text place 0) h s u),
  )
  goes_on false s lt h (inr (e, end)) = rw e (end lt, behind_other _ (like_in_field separator (get_or text place 0) h st.AfterQuote (rw h refl)))

  -- a quote
  turns : (quoted : Bool) (s : State) → get_or text place 0 ≡ 34 → Stands separator text quoted place s → MayTurn separator text quoted place
      → (is_stray separator s (get_or text place 0) ≡ false) × Stands separator text (not quoted) (place + 1) (step (config_by separator) s (get_or text place 0)).0
  turns true s q e may = rw (q, e) (refl, inr (refl, may))
  turns false s q (inl (u, begin)) may = let opened = begun separator s (begin may) in rw q (opened.0, opened.1)
  turns false s q (inr (e, end)) may = rw (q, e) (refl, refl)

-- no fault was met before this place
pub record Reached (separator : ℕ) (text : List ℕ) (quoted : Bool) (place : ℕ) : Type 0 where
  pub state : State
  pub count : ℕ
  pub stands : Stands separator text quoted place state
  pub so_far : quote_fault_of separator text ≡ quote_fault_from separator state count (drop place text)

-- no fault was met before the quotes that are left
pub record Seen (separator : ℕ) (text : List ℕ) (quoted : Bool) (left : List ℕ) : Type 0 where
  pub place : ℕ
  pub within : place ≤ length text
  pub left_is : left ≡ places_between (is_byte 34) text place (length text)
  pub reached : Reached separator text quoted place

-- a byte that is not stray
step_on : (separator count b : ℕ) (s : State) (text : List ℕ) → is_stray separator s b ≡ false
    → quote_fault_from separator s count (b ∷ text)
    ≡ quote_fault_from separator (step (config_by separator) s b).0 (ended_with (is_end (step (config_by separator) s b).1) count) text
unfolding quote_fault_from
step_on separator count b s text h = rw h refl

-- the end of a text
at_end : (separator count : ℕ) (s : State) → is_open s ≡ false → quote_fault_from separator s count [] ≡ None
unfolding quote_fault_from
at_end separator count s h = rw h refl

module _ (separator : ℕ) (text : List ℕ) where
  -- a byte that the machine takes
  taken : (quoted next : Bool) (place : ℕ) (r : Reached separator text quoted place) → place < length text
      → (is_stray separator r.state (get_or text place 0) ≡ false) × Stands separator text next (place + 1) (step (config_by separator) r.state (get_or text place 0)).0
      → Reached separator text next (place + 1)
  taken quoted next place r lt (stands, then) = record {
    state = (step (config_by separator) r.state (get_or text place 0)).0;
    count = ended_with (is_end (step (config_by separator) r.state (get_or text place 0)).1) r.count;
    stands = then;
    so_far = r.so_far ∙ (ap (quote_fault_from separator r.state r.count) (drop_more text place 0 lt) ∙ step_on separator r.count _ r.state _ stands);
  }

  -- the next quote is at this place, and these are those behind it
  pub record Next (quoted : Bool) (place : ℕ) (left : List ℕ) : Type 0 where
    pub within : place < length text
    pub quote : get_or text place 0 ≡ 34
    pub left_is : left ≡ places_between (is_byte 34) text (place + 1) (length text)
    pub reached : Reached separator text quoted place

  -- a byte before that quote
  past : (quoted : Bool) (at : ℕ) → at < length text → (get_or text at 0 == 34) ≡ false → Reached separator text quoted at → Reached separator text quoted (at + 1)
  past quoted at lt q r = taken quoted quoted at r lt (goes_on separator text at quoted r.state lt q r.stands)

  -- from place to place to the next quote, and to the end where there is none
  to_quote : (quoted : Bool) (at n place : ℕ) (left : List ℕ) → at + n ≡ length text → place ∷ left ≡ places_from (is_byte 34) text at n
      → Reached separator text quoted at → Next quoted place left
  unfolding places_from
  to_quote quoted at zero place left sum e r = cc e
  to_quote quoted at (suc n) place left sum e r = by (get_or text at 0 == 34) refl e (λ q more. to_quote quoted (at + 1) n place left (omega arith) more (past quoted at (omega arith) q r))
    where
      by : (q : Bool) → (get_or text at 0 == 34) ≡ q
          → place ∷ left ≡ cond q (at ∷ places_from (is_byte 34) text (at + 1) n) (places_from (is_byte 34) text (at + 1) n)
          → ((get_or text at 0 == 34) ≡ false → place ∷ left ≡ places_from (is_byte 34) text (at + 1) n → Next quoted place left)
          → Next quoted place left
      by true q e more =
          let same : place ≡ at = cc e in
          let rest : left ≡ places_from (is_byte 34) text (at + 1) n = cc e in
          let count : n ≡ length text - (at + 1) = omega (arith, sum) in
          rw same (record {
            within = omega (arith, sum);
            quote = is_equal _ _ q;
            left_is = rest ∙ ap (places_from (is_byte 34) text (at + 1)) count;
            reached = r;
          })
      by false q e more = more q e

  to_end : (quoted : Bool) (at n : ℕ) → at + n ≡ length text → [] ≡ places_from (is_byte 34) text at n
      → Reached separator text quoted at → Reached separator text quoted (length text)
  unfolding places_from
  to_end quoted at zero sum e r = let same : at ≡ length text = omega (arith, sum) in rw same at r
  to_end quoted at (suc n) sum e r = by (get_or text at 0 == 34) refl e (λ q more. to_end quoted (at + 1) n (omega arith) more (past quoted at (omega arith) q r))
    where
      by : (q : Bool) → (get_or text at 0 == 34) ≡ q
          → [] ≡ cond q (at ∷ places_from (is_byte 34) text (at + 1) n) (places_from (is_byte 34) text (at + 1) n)
          → ((get_or text at 0 == 34) ≡ false → [] ≡ places_from (is_byte 34) text (at + 1) n → Reached separator text quoted (length text))
          → Reached separator text quoted (length text)
      by true q e more = cc e
      by false q e more = more q e

  -- all of them are left
  pub none_seen : Seen separator text false (places_between (is_byte 34) text 0 (length text))
  none_seen = record {
    place = 0;
    within = omega arith;
    left_is = refl;
    reached = record { state = st.StartRecord; count = 0; stands = inl (refl, λ may. refl); so_far = refl };
  }

  -- the next of the quotes that are left
  pub next : (quoted : Bool) (place : ℕ) (all left : List ℕ) → Seen separator text quoted all → all ≡ place ∷ left → Next quoted place left
  next quoted place all left seen e =
      to_quote quoted seen.place (length text - seen.place) place left (omega (arith, seen.within)) (sym e ∙ seen.left_is) seen.reached

  -- it stands where it may
  pub one_more : (quoted : Bool) (place : ℕ) (left : List ℕ) → Next quoted place left → MayTurn separator text quoted place → Seen separator text (not quoted) left
  one_more quoted place left n may = record {
    place = place + 1;
    within = omega (arith, n.within);
    left_is = n.left_is;
    reached = taken quoted (not quoted) place n.reached n.within (turns separator text place quoted n.reached.state n.quote n.reached.stands may);
  }

  -- no quote is left, and none is open
  pub no_more : (quoted : Bool) (left : List ℕ) → Seen separator text quoted left → left ≡ [] → not quoted ≡ true → quote_fault_of separator text ≡ None
  no_more true left seen e h = cc h
  no_more false left seen e h =
      let end = to_end false seen.place (length text - seen.place) (omega (arith, seen.within)) (sym e ∙ seen.left_is) seen.reached in
      end.so_far ∙ (ap (quote_fault_from separator end.state end.count) (drop_of_length-le text (omega arith))
      ∙ at_end separator end.count end.state (closed end.state end.stands))
    where
      closed : (s : State) → Stands separator text false (length text) s → is_open s ≡ false
      closed s (inl (u, begin)) = not_open s u
      closed s (inr (e, end)) = rw e refl
