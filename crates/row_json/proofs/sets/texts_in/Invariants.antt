use Rattle.std.proofs.Common.{◌≡◌, ◌+◌, ◌≤◌, [], length, map, string_bytes}
use Rattle.std.specs.Vec.Iter.{into_iter_items}
use Rattle.serde_json.specs.View.{items_view}
use Rattle.row_json.specs.Row.{texts_with}
use Rattle.row_json.proofs.sets.texts_in.Given as goal

abbrev pub invariant-loop-item : goal.invariant-loop-item
invariant-loop-item l =
    (texts_with (map string_bytes l.texts.keys) (items_view (into_iter_items l.item-iterator)) ≡ texts_with [] (items_view l.fn.items.items))
    × (length l.texts.keys + length (into_iter_items l.item-iterator) ≤ length l.fn.items.items)
