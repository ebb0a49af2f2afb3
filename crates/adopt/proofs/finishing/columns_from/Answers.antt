use Rattle.row_blocks.specs.declared.column.BlockColumn.{BlockColumn}
use Rattle.adopt.specs.Finishing.{after_column, named_front}
use Rattle.adopt.proofs.Making.{goes_on}
use Rattle.adopt.proofs.finishing.columns_from.Goals as goal

pub loop-place-preserved : goal.loop-place-preserved
loop-place-preserved c =
    goes_on named_front after_column (λ (b : BlockColumn). Unit {0}) c.args.places.items c.args.columns.now.items c.loop-place.made.items c.loop-place.rest.items c.loop-place.columns.items c.loop-place.invariant
    c.in-Some.place c.pop_front.new.self.items c.in-Some.ensures.items c.named_column.result c.push.new.self.items c.named_column.new.columns.items c.named_column.ensures.made tt c.in_ok-push.ensures.items c.named_column.ensures.left
