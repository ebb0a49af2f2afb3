use Rattle.std.proofs.Common.{sym, arith}
use Rattle.row_json.proofs.Placed.{behind, in_front_too}
use Rattle.row_json.proofs.quick_rows.place_of.Goals as goal

pub returns-in-Greater : goal.returns-in-Greater
returns-in-Greater c =
    let l = c.loop-place in
    behind c.args.cells.now c.args.name.now l.place c.index-cells-place.result (grind arith) l.invariant.0 (sym c.index-cells-place.is) (grind arith) c.requires l.invariant.1

pub loop-place-preserved : goal.loop-place-preserved
loop-place-preserved c =
    let l = c.loop-place in
    (grind arith, in_front_too c.args.cells.now c.args.name.now l.place c.index-cells-place.result (grind arith) l.invariant.0 (sym c.index-cells-place.is) (grind arith) l.invariant.1)
