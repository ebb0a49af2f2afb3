use Rattle.std.proofs.Common.{rules, below_more, subst}
use Rattle.dictionaries.specs.Dictionary.{IsText}
use Rattle.dictionaries.proofs.texts.are_texts.Goals as goal

pub loop-k-preserved : goal.loop-k-preserved
loop-k-preserved c =
    let h = c.if-not-is_text in let g = c.is_text in
    below_more _ _ c.loop-k.invariant (subst IsText c.text_bytes.ensures (search rules))
