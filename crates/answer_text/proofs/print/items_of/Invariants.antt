use Rattle.std.proofs.Common.{◌≡◌, take}
use Rattle.serde_json.specs.View.{items_view}
use Rattle.answer_text.specs.Answer.{strings}
use Rattle.answer_text.proofs.print.items_of.Given as goal

abbrev pub invariant-loop-text : goal.invariant-loop-text
invariant-loop-text l = items_view l.items.items ≡ strings (take l.text-index l.texts)
