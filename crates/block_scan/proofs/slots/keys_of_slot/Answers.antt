use Rattle.std.proofs.Common.{◌≡◌, List, sym, subst}
use Rattle.std.specs.Prelude.{IfOk}
use Rattle.leaf_model.specs.declared.groups.Key.{Key}
use Rattle.block_scan.specs.declared.slots.Slots.{Slots}
use Rattle.block_scan.specs.Slots.{keys_at}
use Rattle.block_scan.proofs.slots.keys_of_slot.Goals as goal

pub returns-in-Found : goal.returns-in-Found
returns-in-Found c = subst (λ (s : Slots). IfOk c.found_keys.result (λ (keys : List Key). keys ≡ keys_at c.args.query.now s c.args.slot)) (sym c.in-Found.is) c.found_keys.ensures
