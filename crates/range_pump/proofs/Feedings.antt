-- A feeder and its reader, between two blocks and at the end of the blocks.
use Rattle.std.proofs.Common.{◌≡◌, ◌≢◌, ℕ, ◌+◌, ◌*◌, ◌||◌, ◌<◌, ◌≤◌, List, [], ◌∷◌, ◌++◌, length, take, Option, Some, None, true, false, Ok, Err, Bool, IfErr}
use Rattle.std.proofs.Common.{IfOk, IfSome, IsOk, refl, sym, ap, ◌∙◌, subst, arith, eqb, rules, tests, length-append, suc-mul, drop}
use Rattle.std.specs.Prelude.{MatchBool}
use Rattle.std.proofs.lemmas.Grind.{flat_map-append}
use Rattle.std.proofs.lemmas.List.{append-nil, take_all, take-append-drop}
use mathlib.Core.List.{IsPrefix}
use Rattle.range_plane.specs.declared.Fix.{Fix}
use Rattle.range_fixes.specs.declared.read_fault.ReadFault.{ReadFault}
use Rattle.range_fixes.specs.declared.read_fault.ReadFault.TheVariants.{Gone, OutOfMemory}
use Rattle.range_fixes.specs.Progress.{Progress, Reads, is_of_text}
use Rattle.range_fixes.specs.Reading.{Reading}
use Rattle.range_line.specs.declared.message.Message.{Message}
use Rattle.range_line.specs.LineEnds.{FeederView, after_send}
use Rattle.range_line.specs.Messages.{block_count, block_of, blocks, fixes_in, all_fixes, message, the_mark}
use Rattle.range_pump.specs.Blocks.{EndsAfter, GivesNext, IsFed, after_block}
use Rattle.range_pump.specs.Pump.{IsPumped, IsReadAs, ReadResult}
use Rattle.range_pump.proofs.BlockCuts.{blocks_of_longer, count_of_full, count_of_more, last_block}

-- the fixes are the first that the reader gave
pub record GaveFirst (p : Progress) (fixes : List Fix) (r : Reading) : Type 0 where
  pub reads : Reads p r
  pub first : fixes ≡ take p.count r.fixes

-- `count` full blocks were sent, of all fixes that the reader gave
pub record IsUnderWay (source : Option Reading) (size : ℕ) (before : FeederView) (p : Progress) (f : FeederView) (count : ℕ) : Type 0 where
  pub line : f.line ≡ before.line
  pub file : f.file ≡ before.file
  pub unmarked : f.closed ≡ false
  pub live : f.ended ≡ false
  pub counted : p.count ≡ length (all_fixes f.sent)
  pub full : length (all_fixes f.sent) ≡ count * size
  pub sent : f.sent ≡ blocks f.file (all_fixes f.sent) size count
  pub told : IfSome source (GaveFirst p (all_fixes f.sent))

-- and then the reader gave the fixes of a block more
pub record HasRead (source : Option Reading) (size : ℕ) (before : FeederView) (p : Progress) (f : FeederView) (count : ℕ) (fixes : List Fix)
    (q : Progress) : Type 0 where
  pub width : 1 ≤ size
  pub way : IsUnderWay source size before p f count
  pub gives : GivesNext p fixes q
  pub small : length fixes ≤ size

-- the feeder g is f once the fixes were sent as the last block
record IsCut (f : FeederView) (size : ℕ) (g : FeederView) (fixes : List Fix) : Type 0 where
  whole : all_fixes g.sent ≡ all_fixes f.sent ++ fixes
  sent : g.sent ≡ blocks f.file (all_fixes f.sent ++ fixes) size (block_count (all_fixes f.sent ++ fixes) size)
  line : g.line ≡ f.line
  file : g.file ≡ f.file
  closed : g.closed ≡ f.closed
  ended : g.ended ≡ f.ended

cut : (f : FeederView) (size count : ℕ) (fixes : List Fix) → 1 ≤ size → length (all_fixes f.sent) ≡ count * size
    → f.sent ≡ blocks f.file (all_fixes f.sent) size count → length fixes ≤ size → IsCut f size (after_block f fixes) fixes
cut f size count [] some full sent small = record {
  whole = sym (append-nil (all_fixes f.sent));
  sent = let same = append-nil (all_fixes f.sent) in let all = count_of_full (all_fixes f.sent) size count some full in
      sent ∙ ap (λ n. blocks f.file (all_fixes f.sent) size n) (sym all) ∙ ap (λ l. blocks f.file l size (block_count l size)) (sym same);
  line = refl;
  file = refl;
  closed = refl;
  ended = refl;
}
cut f size count (x ∷ xs) some full sent small =
    let all = all_fixes f.sent ++ x ∷ xs in
    let m = message f.file (length (all_fixes f.sent)) (block_of (x ∷ xs)) in
    record {
      whole = flat_map-append (λ (n : Message). fixes_in n.body) f.sent (m ∷ []) ∙ ap (λ l. all_fixes f.sent ++ l) (append-nil (x ∷ xs));
      sent = ap (λ l. l ++ m ∷ []) sent ∙ sym (last_block f.file (all_fixes f.sent) (x ∷ xs) size count full small)
          ∙ ap (λ n. blocks f.file all size n) (sym (count_of_more (all_fixes f.sent) (x ∷ xs) size count full (omega arith) small));
      line = refl;
      file = refl;
      closed = search rules;
      ended = refl;
    }

-- before the first block
pub way_none : (source : Option Reading) (size : ℕ) (f : FeederView) (p : Progress) → (f.closed ≡ false) × (f.ended ≡ false) × (f.sent ≡ []) → p.count ≡ 0
    → IfSome source (Reads p) → IsUnderWay source size f p f 0
way_none source size f p new none reads =
    let empty : all_fixes f.sent ≡ [] = ap all_fixes new.2 in
    record {
      line = refl;
      file = refl;
      unmarked = new.0;
      live = new.1;
      counted = omega (arith, none, ap length empty);
      full = omega (arith, ap length empty);
      sent = new.2;
      told = told source reads;
    }
  where
    told : (known : Option Reading) → IfSome known (Reads p) → IfSome known (GaveFirst p (all_fixes f.sent))
    told None reads = tt
    told (Some r) reads = record { reads = reads; first = ap all_fixes new.2 ∙ ap (λ n. take n r.fixes) (sym none) }

-- all that was read is the first of the reading
told_more : {source : Option Reading} {size : ℕ} {before : FeederView} {p : Progress} {f : FeederView} {count : ℕ} {fixes : List Fix} {q : Progress}
    → HasRead source size before p f count fixes q → IfSome source (GaveFirst q (all_fixes f.sent ++ fixes))
told_more {source} {size} {before} {p} {f} {count} {fixes} {q} read = told source read.way.told
  where
    told : (known : Option Reading) → IfSome known (GaveFirst p (all_fixes f.sent)) → IfSome known (GaveFirst q (all_fixes f.sent ++ fixes))
    told None so_far = tt
    told (Some r) so_far = record {
      reads = read.gives.reads r so_far.reads;
      first = ap (λ l. l ++ fixes) so_far.first ∙ sym (read.gives.next r so_far.reads);
    }

-- a full block more
pub way_more : {source : Option Reading} {size : ℕ} {before : FeederView} {p : Progress} {f : FeederView} {count : ℕ} {fixes : List Fix} {q : Progress}
    (g : FeederView)
    → HasRead source size before p f count fixes q → length fixes ≡ size → g ≡ after_block f fixes → IsUnderWay source size before q g (count + 1)
way_more {source} {size} {before} {p} {f} {count} {fixes} {q} g read full after =
    let way = read.way in
    let c = cut f size count fixes read.width way.full way.sent read.small in
    let width : (count + 1) * size ≡ count * size + size = omega (arith, suc-mul count size) in
    let number = count_of_more (all_fixes f.sent) fixes size count way.full (omega (arith, read.width)) read.small in
    let long = length-append (all_fixes f.sent) fixes in
    subst (λ (v : FeederView). IsUnderWay source size before q v (count + 1)) (sym after)
    record {
      line = c.line ∙ way.line;
      file = c.file ∙ way.file;
      unmarked = c.closed ∙ way.unmarked;
      live = c.ended ∙ way.live;
      counted = omega (arith, ap length c.whole, long, read.gives.count, way.counted);
      full = omega (arith, ap length c.whole, long, way.full);
      sent = c.sent ∙ (λ i. blocks (sym c.file i) (sym c.whole i) size (number i));
      told = rw c.whole (told_more read);
    }

-- the fixes that were read are a beginning of the reading
is_prefix : (p : Progress) (fixes : List Fix) (r : Reading) → GaveFirst p fixes r → IsPrefix fixes r.fixes
is_prefix p fixes r gave = (drop p.count r.fixes, ap (λ l. l ++ drop p.count r.fixes) gave.first ∙ take-append-drop p.count r.fixes)

-- where there are no more, they are all of it
all_first : (p : Progress) (fixes : List Fix) (r : Reading) → GaveFirst p fixes r → length r.fixes ≡ p.count → r.fixes ≡ fixes
all_first p fixes r gave ends = sym (take_all p.count r.fixes (omega (arith, ends))) ∙ sym gave.first

-- the last block is handed back
pub fed_gone : {source : Option Reading} {size : ℕ} {before : FeederView} {p : Progress} {f : FeederView} {count : ℕ} {fixes : List Fix} {q : Progress}
    (g : FeederView)
    → HasRead source size before p f count fixes q → 1 ≤ length fixes → g ≡ f → IsFed source size before g (Err Gone)
fed_gone {source} {size} {before} {p} {f} {count} {fixes} {q} g read some same =
    let way = read.way in
    let all = all_fixes f.sent ++ fixes in
    let number = count_of_more (all_fixes f.sent) fixes size count way.full some read.small in
    subst (λ (v : FeederView). IsFed source size before v (Err Gone)) (sym same)
    record {
      pumped = record {
        line = way.line;
        file = way.file;
        live = way.live;
        pumped = record {
          fixes = all;
          sent = record {
            closed = λ e. absurd (cc);
            unmarked = λ e own. absurd (own refl);
            gone = λ e. (count, omega (arith, number), way.sent ∙ sym (blocks_of_longer f.file (all_fixes f.sent) fixes size count (omega (arith, way.full))));
          };
          some = λ e. cc;
          told = told source (told_more read);
        };
      };
      unmarked = way.unmarked;
      whole = λ own. absurd (own refl);
    }
  where
    told : (known : Option Reading) → IfSome known (GaveFirst q (all_fixes f.sent ++ fixes)) → IfSome known (λ r. IsReadAs r (all_fixes f.sent ++ fixes) (Err Gone))
    told None gave = tt
    told (Some r) gave = record { prefix = is_prefix q (all_fixes f.sent ++ fixes) r gave; name = λ name e. cc; fault = λ fault e text. cc }

-- all blocks are sent, whatever ended them
fed : {source : Option Reading} {size : ℕ} {before : FeederView} {p : Progress} {f : FeederView} {count : ℕ} {fixes : List Fix} {q : Progress} (g : FeederView)
    (said : ReadResult)
    → HasRead source size before p f count fixes q → g ≡ after_block f fixes → said ≢ Err Gone → (IsOk said → 0 < q.count)
    → ((r : Reading) → Reads p r → GaveFirst q (all_fixes f.sent ++ fixes) r → IsReadAs r (all_fixes f.sent ++ fixes) said) → IsFed source size before g said
fed {source} {size} {before} {p} {f} {count} {fixes} {q} g said read after own given as_read =
    let way = read.way in
    let c = cut f size count fixes read.width way.full way.sent read.small in
    let all = all_fixes f.sent ++ fixes in
    subst (λ (v : FeederView). IsFed source size before v said) (sym after)
    record {
      pumped = record {
        line = c.line ∙ way.line;
        file = c.file ∙ way.file;
        live = c.ended ∙ way.live;
        pumped = record {
          fixes = all;
          sent = record {
            closed = λ e. absurd (let open' = c.closed ∙ way.unmarked in cc);
            unmarked = λ e o. c.sent ∙ ap (λ n. blocks n all size (block_count all size)) (sym c.file);
            gone = λ e. absurd (own e);
          };
          some = λ ok. omega (arith, given ok, read.gives.count, way.counted, length-append (all_fixes f.sent) fixes);
          told = told source way.told (told_more read);
        };
      };
      unmarked = c.closed ∙ way.unmarked;
      whole = λ o. c.whole;
    }
  where
    told : (known : Option Reading) → IfSome known (GaveFirst p (all_fixes f.sent)) → IfSome known (GaveFirst q (all_fixes f.sent ++ fixes))
        → IfSome known (λ r. IsReadAs r (all_fixes f.sent ++ fixes) said)
    told None before_it gave = tt
    told (Some r) before_it gave = as_read r before_it.reads gave

-- the reader failed, or memory ran out
pub fed_fault : {source : Option Reading} {size : ℕ} {before : FeederView} {p : Progress} {f : FeederView} {count : ℕ} {fixes : List Fix} {q : Progress}
    (g : FeederView) (fault : ReadFault)
    → HasRead source size before p f count fixes q → g ≡ after_block f fixes → fault ≢ Gone → (is_of_text fault ≡ true → EndsAfter p q.count (Some fault))
    → IsFed source size before g (Err fault)
fed_fault {source} {size} {before} {p} {f} {count} {fixes} {q} g fault read after own ends =
    fed g (Err fault) read after (λ e. own (cc)) (λ ok. cc) (λ r reads gave.
    record {
      prefix = is_prefix q (all_fixes f.sent ++ fixes) r gave;
      name = λ name e. cc;
      fault = λ other e text.
          let same : fault ≡ other = cc in
          let end = ends (subst (λ (x : ReadFault). is_of_text x ≡ true) (sym same) text) r reads in
          (all_first q (all_fixes f.sent ++ fixes) r gave end.0, end.1 ∙ ap (λ x. Some x) same);
    })

-- the reader's end, with the name, or that memory ran out for it
pub fed_end : {source : Option Reading} {size : ℕ} {before : FeederView} {p : Progress} {f : FeederView} {count : ℕ} {fixes : List Fix} {q : Progress}
    (g : FeederView) (said : ReadResult)
    → HasRead source size before p f count fixes q → g ≡ after_block f fixes → 0 < q.count → EndsAfter p q.count None
    → IfOk said (λ name. q.animal ≡ Some name) → IfErr said (λ fault. fault ≡ OutOfMemory) → IsFed source size before g said
fed_end {source} {size} {before} {p} {f} {count} {fixes} {q} g (Ok name) read after given ends named refused =
    fed g (Ok name) read after (λ e. cc) (λ ok. given) (λ r reads gave.
    let later : eqb q.count 0 ≡ false = search (rules, tests) in
    let animal = rw later at gave.reads.animal in
    let end = ends r reads in
    record {
      prefix = is_prefix q (all_fixes f.sent ++ fixes) r gave;
      name = λ other e. (sym animal ∙ named ∙ cc, all_first q (all_fixes f.sent ++ fixes) r gave end.0, end.1);
      fault = λ fault e text. cc;
    })
fed_end g (Err fault) read after given ends named refused = fed_fault g fault read after (λ e. cc) (λ text. absurd (cc (ap is_of_text refused)))

-- the mark, where all blocks were sent
closed : (source : Option Reading) (size : ℕ) (before f : FeederView) (read : ReadResult) → IsFed source size before f read → read ≢ Err Gone
    → IsPumped source size before (after_send f the_mark) read
closed source size before f read fed own =
    let p = fed.pumped in
    let all = p.pumped.fixes in
    record {
      line = p.line;
      file = p.file;
      live = p.live;
      pumped = record {
        fixes = all;
        sent = record {
          closed = λ e. ((λ i. p.pumped.sent.unmarked fed.unmarked own i ++ message f.file (length (fed.whole own i)) the_mark ∷ []), own);
          unmarked = λ e o. absurd (let is : (f.closed || true) ≡ true = search (rules, tests) in cc);
          gone = λ e. absurd (own e);
        };
        some = p.pumped.some;
        told = p.pumped.told;
      };
    }

-- a file is pumped once the mark was offered, whether it was sent or not
pub pumped : (source : Option Reading) (size : ℕ) (before f g : FeederView) (read : ReadResult) (sent : Bool) → IsFed source size before f read → read ≢ Err Gone
    → MatchBool sent (g ≡ after_send f the_mark) (g ≡ f) → IsPumped source size before g read
pumped source size before f g read true fed own is = subst (λ (v : FeederView). IsPumped source size before v read) (sym is)
    (closed source size before f read fed own)
pumped source size before f g read false fed own is = subst (λ (v : FeederView). IsPumped source size before v read) (sym is) fed.pumped
