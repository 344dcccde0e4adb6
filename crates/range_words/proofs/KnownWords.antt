-- What `clap` says of the program's words.
use Rattle.std.proofs.Common.{◌≡◌, ℕ, zero, suc, ◌<◌, true, false, List, [], length, get_or, map, Some, codes, refl, sym, ap, subst, ◌∙◌, arith, inl, inr}
use Rattle.std.specs.Prelude.{Result}
use Rattle.std.specs.List.{All, list_all}
use Rattle.std.specs.Str.{bytes_eq}
use Rattle.std.proofs.lemmas.List.{get_or-map, length-map}
use Rattle.std.proofs.lemmas.Slice.Eq.{bytes_eq-Decides}
use Rattle.clap.specs.Facts.{args_of, groups_of}
use Rattle.clap.specs.Built.{IsAuto, IsParsedFrom, SameRules}
use Rattle.clap.specs.Words.{App, FailsBy, HasMatchesOf, Rule, Text, app_of, fault_of, found_of, is_simple, is_simple_and_free, matches_of, rows_of, rule_of}
use Rattle.clap.specs.declared.ArgMatches.{ArgMatches}
use Rattle.clap.specs.declared.builder.arg.Arg.{Arg}
use Rattle.clap.specs.declared.builder.command.Command.{Command}
use Rattle.clap.specs.declared.error.Error.{Error}
use Rattle.clap.proofs.CallerLemmas.{same_rules_by_id}
use Rattle.clap.proofs.OnLiterals.{clap_on_literals}
use Rattle.clap.proofs.SimpleLemmas.{HasPlainFields, plain_fields, simple_groups}
use Rattle.range_options.specs.Limits.{block_limit, depth_limit, worker_limit}
use Rattle.range_words.specs.CommandLine.{HasNumber, found_in, homerange}
use Rattle.range_words.proofs.WordEntries.{AreNumbers, number_found, number_parser}

rules_are : (c : Command) → app_of c ≡ homerange → map rule_of (args_of c) ≡ homerange.top.rules
rules_are c is = ap (λ (a : App). a.top.rules) is

arg_count : (c : Command) → app_of c ≡ homerange → length (args_of c) ≡ 6
arg_count c is = sym (length-map (args_of c) rule_of) ∙ ap length (rules_are c is)

rule_at : (c : Command) → app_of c ≡ homerange → (k : ℕ) (d : Arg) → k < length (args_of c)
    → rule_of (get_or (args_of c) k d) ≡ get_or homerange.top.rules k (rule_of d)
rule_at c is k d within = sym (get_or-map rule_of (args_of c) k d (rule_of d) within) ∙ ap (λ (rs : List Rule). get_or rs k (rule_of d)) (rules_are c is)

plain : (c : Command) → app_of c ≡ homerange → HasPlainFields c
plain c is = plain_fields c (ap (λ (a : App). a.top.is_plain) is)

names_no_group : (c : Command) → app_of c ≡ homerange → All (λ a. a.groups.items ≡ []) (args_of c)
names_no_group c is = simple_groups c (ap (λ (a : App). list_all (λ (r : Rule). r.is_simple) a.top.rules) is)

-- the index of an option of the program tells its name
id_at : (c : Command) → app_of c ≡ homerange → (k : ℕ) (d : Arg) → k < length (args_of c)
    → (get_or (args_of c) k d).id.now ≡ (get_or homerange.top.rules k (rule_of d)).id
id_at c is k d within = ap (λ (r : Rule). r.id) (rule_at c is k d within)

abbrev IsAt : List ℕ → ℕ → Type 0
IsAt name k = (j : ℕ) (r : Rule) → j < 6 → bytes_eq (get_or homerange.top.rules j r).id name ≡ true → j ≡ k

block_at : IsAt (codes "block") 1
block_at zero r lt e = cc
block_at (suc zero) r lt e = refl
block_at (suc (suc zero)) r lt e = cc
block_at (suc (suc (suc zero))) r lt e = cc
block_at (suc (suc (suc (suc zero)))) r lt e = cc
block_at (suc (suc (suc (suc (suc zero))))) r lt e = cc
block_at (suc (suc (suc (suc (suc (suc k)))))) r lt e = absurd (omega arith)

depth_at : IsAt (codes "depth") 2
depth_at zero r lt e = cc
depth_at (suc zero) r lt e = cc
depth_at (suc (suc zero)) r lt e = refl
depth_at (suc (suc (suc zero))) r lt e = cc
depth_at (suc (suc (suc (suc zero)))) r lt e = cc
depth_at (suc (suc (suc (suc (suc zero))))) r lt e = cc
depth_at (suc (suc (suc (suc (suc (suc k)))))) r lt e = absurd (omega arith)

workers_at : IsAt (codes "workers") 3
workers_at zero r lt e = cc
workers_at (suc zero) r lt e = cc
workers_at (suc (suc zero)) r lt e = cc
workers_at (suc (suc (suc zero))) r lt e = refl
workers_at (suc (suc (suc (suc zero)))) r lt e = cc
workers_at (suc (suc (suc (suc (suc zero))))) r lt e = cc
workers_at (suc (suc (suc (suc (suc (suc k)))))) r lt e = absurd (omega arith)

-- an option of the program that is a number: its index, which no other has with its name, and its rule
record IsNumber (name : List ℕ) (k limit : ℕ) : Type 0 where
  few : k < 6
  sole : IsAt name k
  rule : (r : Rule) → ((get_or homerange.top.rules k r).id ≡ name) × ((get_or homerange.top.rules k r).parser ≡ Some (number_parser limit))
  named : bytes_eq name [] ≡ false
  no_help : bytes_eq name (codes "help") ≡ false
  no_version : bytes_eq name (codes "version") ≡ false

block_is : IsNumber (codes "block") 1 block_limit
block_is = record { few = omega arith; sole = block_at; rule = λ r. (refl, refl); named = refl; no_help = refl; no_version = refl }

depth_is : IsNumber (codes "depth") 2 depth_limit
depth_is = record { few = omega arith; sole = depth_at; rule = λ r. (refl, refl); named = refl; no_help = refl; no_version = refl }

workers_is : IsNumber (codes "workers") 3 worker_limit
workers_is = record { few = omega arith; sole = workers_at; rule = λ r. (refl, refl); named = refl; no_help = refl; no_version = refl }

other_text : (a b : List ℕ) → bytes_eq a b ≡ false → a ≡ b → ⊥
other_text a b differ same =
    let equal : bytes_eq a b ≡ true = (bytes_eq-Decides a b).1 same in
    cc

are_numbers : (c : Command) (m : ArgMatches) (is : app_of c ≡ homerange) (p : IsParsedFrom c m) (name : List ℕ) (k limit : ℕ) → IsNumber name k limit
    → AreNumbers p.built name limit
are_numbers c m is p name k limit number x j high at same =
    let within : k < length (args_of c) = omega (arith, arg_count c is, number.few) in
    let own : (get_or (args_of c) k x).id.now ≡ name = id_at c is k x within ∙ (number.rule (rule_of x)).0 in
    let unique : (i : ℕ) (e : Arg) → i < length (args_of c) → bytes_eq (get_or (args_of c) i e).id.now (get_or (args_of c) k x).id.now ≡ true → i ≡ k =
    λ i e lt h. number.sole i (rule_of e) (omega (arith, arg_count c is)) (rw (id_at c is i e lt, own) at h) in
    let not_auto : IsAuto (get_or (args_of c) k x) → ⊥ = λ auto. elim auto [
      | inl h ↦ other_text name (codes "help") number.no_help (sym own ∙ h)
      | inr h ↦ other_text name (codes "version") number.no_version (sym own ∙ h)
    ] in
    let kept : SameRules (get_or (args_of c) k x) x = same_rules_by_id c m p k x within unique not_auto j x high at (rw own same) in
    kept.parser (number_parser limit) (ap (λ (r : Rule). r.parser) (rule_at c is k x within) ∙ (number.rule (rule_of x)).1)

number_of : (name : List ℕ) (k limit : ℕ) → IsNumber name k limit → (c : Command) (m : ArgMatches) → app_of c ≡ homerange → IsParsedFrom c m
    → HasNumber name limit m
number_of name k limit number c m is p =
    let values = (p.parsed (p.from.globals ∙ (plain c is).globals)).values in
    let none : groups_of p.built ≡ [] = (p.from.same_groups (names_no_group c is)).1 ∙ (plain c is).groups in
    number_found p.built (found_of m) name limit values none (other_text name [] number.named) (are_numbers c m is p name k limit number)

-- the text that is read of `--block` is a number from 1 to its limit
pub block_number : (c : Command) (m : ArgMatches) → app_of c ≡ homerange → IsParsedFrom c m → HasNumber (codes "block") block_limit m
block_number = number_of (codes "block") 1 block_limit block_is

-- and so is that of `--depth`
pub depth_number : (c : Command) (m : ArgMatches) → app_of c ≡ homerange → IsParsedFrom c m → HasNumber (codes "depth") depth_limit m
depth_number = number_of (codes "depth") 2 depth_limit depth_is

-- and that of `--workers`
pub workers_number : (c : Command) (m : ArgMatches) → app_of c ≡ homerange → IsParsedFrom c m → HasNumber (codes "workers") worker_limit m
workers_number = number_of (codes "workers") 3 worker_limit workers_is

simple : is_simple homerange ≡ true
unfolding clap_on_literals
simple = refl

free : is_simple_and_free homerange ≡ true
unfolding clap_on_literals
free = refl

-- what the matches of the words have is what `clap` finds in them
pub rows_found : (a : App) (words : List Text) (m : ArgMatches) → a ≡ homerange → HasMatchesOf a words m → rows_of (found_of m) ≡ found_in words
rows_found a words m is h = (h (ap is_simple is ∙ simple)).0 ∙ ap (λ (b : App). matches_of b words) is

-- where the app is that of homerange, a refusal is by what `clap` has against its words
pub fails_by : {T : Type 0} (a : App) (words : List Text) (r : Result T Error) → a ≡ homerange → (is_simple_and_free a ≡ true → FailsBy (fault_of a words) r)
    → FailsBy (fault_of homerange words) r
fails_by a words r is h = subst (λ (b : App). FailsBy (fault_of b words) r) is (h (ap is_simple_and_free is ∙ free))
