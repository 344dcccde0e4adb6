use Rattle.std.proofs.Common.{rules}
use Rattle.range_words.proofs.words.words_in.Goals as goal

pub returns-clause-ok : goal.returns-clause-ok
returns-clause-ok c =
    record {
      files = c.in_ok-files.ensures.files;
      few_files = c.in_ok-files.ensures.few;
      levels = search rules;
      level_count = search rules;
      block = c.number_of.ensures.value;
      depth = c.number_of-2.ensures.value;
      workers = c.number_of-3.ensures.value;
      unit = c.in_ok-unit.ensures.unit;
    }

pub returns-in-Err-OutOfMemory-clause-err : goal.returns-in-Err-OutOfMemory-clause-err
returns-in-Err-OutOfMemory-clause-err c = search rules
