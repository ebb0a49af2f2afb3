use Rattle.std.proofs.Common.{List, ap, ◌∙◌, rules}
use Rattle.std.specs.Prelude.{filter}
use Rattle.std.proofs.lemmas.Fn.{filter_same}
use Rattle.row_blocks.specs.Blocks.{Block}
use Rattle.row_blocks.specs.Live.{has_live}
use Rattle.row_blocks.proofs.blocks.Blocks.retain_live.Goals as goal

pub returns : goal.returns
returns c =
    filter_same _ (has_live c.args.horizon) _ (λ x b f' k. search rules) _ _ c.retain.ensures.filtered ∙ ap (λ (l : List Block). filter (has_live c.args.horizon) l) c.self.view_is
