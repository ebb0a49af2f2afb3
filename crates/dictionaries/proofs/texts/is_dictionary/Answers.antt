use Rattle.std.proofs.Common.{rules}
use Rattle.dictionaries.proofs.texts.is_dictionary.Goals as goal

pub returns-then-are_ends : goal.returns-then-are_ends
returns-then-are_ends c =
    let ends = c.if-are_ends in
    (λ is. record { ends = search rules; texts = c.are_texts.ensures.0 is }, λ is. c.are_texts.ensures.1 is.texts)
