use Rattle.std.proofs.Common.{[], ◌∷◌, ◌++◌, List, ap, ◌∙◌, append_assoc}
use Rattle.printed_lines.specs.declared.line.Line.{Line}
use Rattle.printed_lines.specs.declared.line.Line.TheVariants.{Lane}
use Rattle.bursts.proofs.lines.behind.Goals as goal

pub returns : goal.returns
returns c = record {
  before = c.in_ok-lines.lines;
  its = c.in_ok-own.own;
  lines_are = c.in_ok-lines.was;
  own_is = c.in_ok-own.was;
  all_are = c.in_ok-append.ensures.items
      ∙ (ap (λ (ls : List Line). ls ++ c.in_ok-own.own.items) c.in_ok-push.ensures.items ∙ append_assoc c.in_ok-lines.lines.items (Lane c.args.number ∷ []) c.in_ok-own.own.items);
}
