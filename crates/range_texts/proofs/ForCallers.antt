-- Texts as they are shown, for the proofs of crates above: the laws of `src/laws.rt`.
use Rattle.range_texts.specs.Laws.{JoinedLinesAreOneLine, NumbersAreOneLine, PrintableTextsAreOneLine, ShownNamesAreOneLine, ShownTextsAreOneLine, ShownTextsDiffer}
use Rattle.range_texts.proofs.OneLines.{joined, name_line, number, printable, shown_line}
use Rattle.range_texts.proofs.ReadBack.{shown_alike}

-- two lines, one after the other
pub joined_lines_are_one_line : JoinedLinesAreOneLine
joined_lines_are_one_line = joined

-- what ASCII prints
pub printable_texts_are_one_line : PrintableTextsAreOneLine
printable_texts_are_one_line = printable

-- the decimal digits of each number
pub numbers_are_one_line : NumbersAreOneLine
numbers_are_one_line = number

-- each text as it is shown, whatever its bytes
pub shown_texts_are_one_line : ShownTextsAreOneLine
shown_texts_are_one_line = shown_line

-- each name as it is shown
pub shown_names_are_one_line : ShownNamesAreOneLine
shown_names_are_one_line = name_line

-- two texts that are shown alike are the same text
pub shown_texts_differ : ShownTextsDiffer
shown_texts_differ = shown_alike
