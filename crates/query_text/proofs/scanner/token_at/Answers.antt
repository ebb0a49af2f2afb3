use Rattle.std.proofs.Common.{◌≡◌, true, rules}
use Rattle.query_text.specs.Tokens.{begins_word}
use Rattle.query_text.proofs.Lexing.{word_utf8}
use Rattle.query_text.proofs.scanner.token_at.Goals as goal

pub word_found-requires : goal.word_found-requires
word_found-requires c =
    let letter : begins_word c.args.first ≡ true = search (rules, c.starts_word.ensures, c.if-starts_word.true) in
    rw c.word_part.ensures.value (word_utf8 c.args.first c.args.rest.now letter)
