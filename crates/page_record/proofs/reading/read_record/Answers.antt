use Rattle.std.proofs.Common.{◌≡◌, IfErr, IfOk, None, Ok, Some, arith, rules, subst, sym}
use Rattle.page_report.specs.Fields.{cut}
use Rattle.page_record.specs.Reading.{IsFaultOf, IsRefusal, SoFar, read, record_of, with_line}
use Rattle.page_record.proofs.ReadingFacts.{line_taken, none_behind, refused}
use Rattle.page_record.proofs.reading.read_record.Goals as goal

pub returns-in-Err-clause-fault : goal.returns-in-Err-clause-fault
returns-in-Err-clause-fault c =
    let first : cut 10 c.loop-line.rest.now ≡ Some (c.in-Some.line.now, c.in-Some.behind.now) = search rules in
    let so_far : SoFar = (c.loop-line.reader.last, read c.loop-line.reader.so_far) in
    let fault : IsFaultOf (with_line so_far c.in-Some.line.now) c.in-Err.fault = search rules in
    rw c.at_line.ensures (refused c.loop-line.number so_far c.loop-line.rest.now c.in-Some.line.now c.in-Some.behind.now (record_of c.args.text.now) c.in-Err.fault
    c.loop-line.invariant.so_far first fault)

pub loop-line-preserved : goal.loop-line-preserved
loop-line-preserved c =
    let first : cut 10 c.loop-line.rest.now ≡ Some (c.in-Some.line.now, c.in-Some.behind.now) = search rules in
    let so_far : SoFar = (c.loop-line.reader.last, read c.loop-line.reader.so_far) in
    let next : SoFar = (c.read_line.new.reader.last, read c.read_line.new.reader.so_far) in
    let taken : with_line so_far c.in-Some.line.now ≡ Ok next = search rules in
    record {
      so_far = line_taken c.loop-line.number so_far next c.loop-line.rest.now c.in-Some.line.now c.in-Some.behind.now (record_of c.args.text.now) c.loop-line.invariant.so_far first taken;
      few = omega (arith, c.in-Some.ensures.less);
    }

pub returns-clause-found : goal.returns-clause-found
returns-clause-found c =
    let none : cut 10 c.loop-line.rest.now ≡ None = search rules in
    let so_far : SoFar = (c.loop-line.reader.last, read c.loop-line.reader.so_far) in
    subst (λ found. IfOk c.finished.result (λ own. found ≡ Ok (read own)))
    (sym (none_behind c.loop-line.number so_far c.loop-line.rest.now (record_of c.args.text.now) c.loop-line.invariant.so_far none)) c.finished.ensures.found

pub returns-clause-fault : goal.returns-clause-fault
returns-clause-fault c =
    let none : cut 10 c.loop-line.rest.now ≡ None = search rules in
    let so_far : SoFar = (c.loop-line.reader.last, read c.loop-line.reader.so_far) in
    subst (λ found. IfErr c.finished.result (IsRefusal found))
    (sym (none_behind c.loop-line.number so_far c.loop-line.rest.now (record_of c.args.text.now) c.loop-line.invariant.so_far none)) c.finished.ensures.fault
