use Rattle.std.proofs.Common.{sym, ◌∙◌}
use Rattle.script_text.proofs.Names.{digits_utf8}
use Rattle.text_lines.proofs.Numbers.{number_digits, count_parsed}
use Rattle.script_text.proofs.words.count_of.Goals as goal

pub unreachable-requires : goal.unreachable-requires
unreachable-requires c = c.in-Err.ensures.cases.0 (digits_utf8 c.args.word.now (number_digits c.args.word.now (sym c.if-not-is_number.ensures)))

pub returns : goal.returns
returns c = c.ok.ensures.value ∙ count_parsed c.args.word.now c.in-Ok.digits.now c.parse.result c.in-Ok.ensures.cases.0 c.parse.ensures.value.0 (sym c.if-not-is_number.ensures)
