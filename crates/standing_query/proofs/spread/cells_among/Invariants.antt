use Rattle.std.proofs.Common.{◌≡◌, map, take}
use Rattle.std.specs.List.{filter}
use Rattle.standing_query.specs.Names.{is_cell}
use Rattle.standing_query.proofs.spread.cells_among.Given as goal

abbrev pub invariant-loop-name : goal.invariant-loop-name
invariant-loop-name l = l.cells.items ≡ filter is_cell (map (λ n. n.now) (take l.name-index l.names))
