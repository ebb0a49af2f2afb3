use Rattle.std.proofs.Common.{◌<◌, length, arith}
use Rattle.std.proofs.lemmas.Bool.Decides.{nat_tests}
use Rattle.script_text.specs.Words.{first_word}
use Rattle.script_text.proofs.Spaces.{words_cut, words_none, behind_word-shorter}
use Rattle.script_text.proofs.words.next_word.Goals as goal

pub returns-then-is_empty-clause-none : goal.returns-then-is_empty-clause-none
returns-then-is_empty-clause-none c = λ _. words_none c.args.line.now (grind (arith, nat_tests, c.is_empty.ensures, c.if-is_empty.true, c.cut_word.ensures.word))

pub returns-else-is_empty-clause-some : goal.returns-else-is_empty-clause-some
returns-else-is_empty-clause-some c =
    let some : 0 < length (first_word c.args.line.now) = grind (arith, nat_tests, c.is_empty.ensures, c.if-is_empty.false, c.cut_word.ensures.word) in
    rw (c.cut_word.ensures.word, c.cut_word.ensures.behind) (words_cut c.args.line.now some)

pub returns-else-is_empty-clause-shorter : goal.returns-else-is_empty-clause-shorter
returns-else-is_empty-clause-shorter c =
    let some : 0 < length (first_word c.args.line.now) = grind (arith, nat_tests, c.is_empty.ensures, c.if-is_empty.false, c.cut_word.ensures.word) in
    rw c.cut_word.ensures.behind (behind_word-shorter c.args.line.now some)
