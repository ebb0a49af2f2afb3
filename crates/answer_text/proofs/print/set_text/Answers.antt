use Rattle.std.proofs.Common.{ap, ◌∙◌}
use Rattle.serde_json.specs.Data.{array}
use Rattle.serde_json.specs.View.{view}
use Rattle.serde_json.specs.declared.value.Value as Json
use Rattle.answer_text.specs.Answer.{strings}
use Rattle.answer_text.proofs.SetText.{array_seen, no_float, text_given}
use Rattle.answer_text.proofs.print.set_text.Goals as goal

pub returns : goal.returns
returns c =
    let members = c.args.members.now in
    text_given c.to_string.result (view (Json.Array c.in_ok-items.items)) (array (strings members))
    (array_seen c.in_ok-items.items members (c.in_ok-items.ensures ∙ ap strings c.as_slice.ensures)) (no_float members) c.to_string.ensures.text
