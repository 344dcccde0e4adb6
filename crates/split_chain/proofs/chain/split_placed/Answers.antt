use Rattle.std.proofs.Common.{subst}
use Rattle.split_chain.specs.Placed.{IsChoice}
use Rattle.split_chain.proofs.chain.split_placed.Goals as goal

pub returns : goal.returns
returns c =
    let look = c.args.look.now in
    let choice = c.choice_of-choice.result in
    record {
      split = (
        record {
          choice = choice;
          is_choice = subst (λ rows. IsChoice c.args.columns.now rows look.sheet.now.unit look.wish.now.keeps_marks choice) c.deref.ensures.value c.choice_of-choice.ensures;
          are_files = c.in_ok-files.ensures.made.0;
        },
        c.in_ok-files.ensures.made.1,
      );
      refused = tt;
    }
