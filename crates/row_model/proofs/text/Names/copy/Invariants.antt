use Rattle.std.proofs.Common.{◌≡◌, take}
use Rattle.row_model.proofs.text.Names.copy.Given as goal

abbrev pub invariant-loop-item : goal.invariant-loop-item
invariant-loop-item l = l.inner.items ≡ take l.item-index l.item-items
