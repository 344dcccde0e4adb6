use Rattle.std.proofs.Common.{◌≡◌, inl, inr, map, string_bytes, subst, rules}
use Rattle.std.proofs.lemmas.Result.{IfErr-weaker, on_ok_weaker}
use Rattle.range_words.specs.WordList.{IsRefusalOf}
use Rattle.range_command.specs.Command.{BeginsReport, IsBegun, IsOfReply, IsOfRun, IsTold, world}
use Rattle.range_command.specs.Status.{refusal_status}
use Rattle.range_command.specs.declared.refusal.Refusal.{Refusal}
use Rattle.range_command.proofs.RunSources.{reply_begun, reply_told, told_of_run}
use Rattle.range_command.proofs.program.obey.Goals as goal

pub returns-in-Ok-clause-done : goal.returns-in-Ok-clause-done
returns-in-Ok-clause-done g c = on_ok_weaker c.run_over.result (λ written. inl (c.in-Ok.words, c.in-Ok.ensures.ok, written)) c.run_over.ensures.done

pub returns-in-Ok-clause-told : goal.returns-in-Ok-clause-told
returns-in-Ok-clause-told g c =
    let there = world (g.S.Read.remaining c.args.input) (g.O.Opener.finds c.args.opener.now) in
    let said = map string_bytes c.args.words.now in
    IfErr-weaker c.run_over.result (IsOfRun c.in-Ok.words there) (IsTold said there) (told_of_run said there c.in-Ok.words c.in-Ok.ensures.ok) c.run_over.ensures.told

pub returns-in-Err-Help-clause-done : goal.returns-in-Err-Help-clause-done
returns-in-Err-Help-clause-done g c =
    let asked = subst (IsRefusalOf (map string_bytes c.args.words.now)) c.in-Err-Help.field-0-is c.in-Err-Help.ensures.err in
    on_ok_weaker c.write_reply.result (λ written. inr (c.in-Err-Help.text, inl asked, search rules)) c.write_reply.ensures.text

pub returns-in-Err-Help-clause-told : goal.returns-in-Err-Help-clause-told
returns-in-Err-Help-clause-told g c =
    let there = world (g.S.Read.remaining c.args.input) (g.O.Opener.finds c.args.opener.now) in
    let said = map string_bytes c.args.words.now in
    let asked = subst (IsRefusalOf said) c.in-Err-Help.field-0-is c.in-Err-Help.ensures.err in
    IfErr-weaker c.write_reply.result IsOfReply (IsTold said there) (reply_told said there c.in-Err-Help.text (inl asked)) c.write_reply.ensures.refusal

pub returns-in-Err-Version-clause-done : goal.returns-in-Err-Version-clause-done
returns-in-Err-Version-clause-done g c =
    let asked = subst (IsRefusalOf (map string_bytes c.args.words.now)) c.in-Err-Version.field-0-is c.in-Err-Version.ensures.err in
    on_ok_weaker c.write_reply-in-Err-Version.result (λ written. inr (c.in-Err-Version.text, inr asked, search rules)) c.write_reply-in-Err-Version.ensures.text

pub returns-in-Err-BadWords-clause-done : goal.returns-in-Err-BadWords-clause-done
returns-in-Err-BadWords-clause-done g c = search rules

pub returns-in-Err-Version-clause-told : goal.returns-in-Err-Version-clause-told
returns-in-Err-Version-clause-told g c =
    let there = world (g.S.Read.remaining c.args.input) (g.O.Opener.finds c.args.opener.now) in
    let said = map string_bytes c.args.words.now in
    let asked = subst (IsRefusalOf said) c.in-Err-Version.field-0-is c.in-Err-Version.ensures.err in
    IfErr-weaker c.write_reply-in-Err-Version.result IsOfReply (IsTold said there) (reply_told said there c.in-Err-Version.text (inr asked))
    c.write_reply-in-Err-Version.ensures.refusal

pub returns-in-Ok-clause-begun : goal.returns-in-Ok-clause-begun
returns-in-Ok-clause-begun g c =
    let there = world (g.S.Read.remaining c.args.input) (g.O.Opener.finds c.args.opener.now) in
    let said = map string_bytes c.args.words.now in
    let old = g.W.Outlet.contents c.args.out.now in
    let new = g.W.Outlet.contents c.run_over.new.out in
    IfErr-weaker c.run_over.result (λ (refusal : Refusal). refusal_status refusal ≡ 4 → BeginsReport c.in-Ok.words there old new)
    (λ (refusal : Refusal). refusal_status refusal ≡ 4 → IsBegun said there old new)
    (λ refusal begun status. inl (c.in-Ok.words, c.in-Ok.ensures.ok, begun status)) c.run_over.ensures.begun

pub returns-in-Err-Help-clause-begun : goal.returns-in-Err-Help-clause-begun
returns-in-Err-Help-clause-begun g c =
    let there = world (g.S.Read.remaining c.args.input) (g.O.Opener.finds c.args.opener.now) in
    let said = map string_bytes c.args.words.now in
    let asked = subst (IsRefusalOf said) c.in-Err-Help.field-0-is c.in-Err-Help.ensures.err in
    reply_begun said there c.in-Err-Help.text _ _ c.write_reply.result (inl asked) (search rules)

pub returns-in-Err-Version-clause-begun : goal.returns-in-Err-Version-clause-begun
returns-in-Err-Version-clause-begun g c =
    let there = world (g.S.Read.remaining c.args.input) (g.O.Opener.finds c.args.opener.now) in
    let said = map string_bytes c.args.words.now in
    let asked = subst (IsRefusalOf said) c.in-Err-Version.field-0-is c.in-Err-Version.ensures.err in
    reply_begun said there c.in-Err-Version.text _ _ c.write_reply-in-Err-Version.result (inr asked) (search rules)
