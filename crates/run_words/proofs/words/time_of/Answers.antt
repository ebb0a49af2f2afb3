use Rattle.std.proofs.Common.{◌∙◌, refl, sym}
use Rattle.text_lines.proofs.Numbers.{time_parsed}
use Rattle.run_words.proofs.words.time_of.Goals as goal

pub returns : goal.returns
returns c = c.ok.ensures.value ∙ time_parsed c.args.word.now c.args.word.now c.parse.result refl c.parse.ensures.value.0 (sym c.is_number.ensures ∙ c.if-not-is_number.false)
