-- What a part of a sentence is written as.
use Rattle.std.specs.Prelude.{ℕ, List}
use Rattle.std.specs.Fmt.{decimal}
use Rattle.sentence_text.specs.Quotation.{quoted}
use Rattle.sentence_text.specs.declared.part.Part.{Part}
use Rattle.sentence_text.specs.declared.part.Part.TheVariants as part

-- words as they are, numbers in decimal, and what is quoted
abbrev pub part_text : Part → List ℕ
part_text (part.Words words) = words.now
part_text (part.Number number) = decimal number
part_text (part.Quoted bytes) = quoted bytes.now
