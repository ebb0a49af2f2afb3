use Rattle.std.proofs.Common.{rules, to_z, of_z}
use Rattle.std.specs.Int.{w64}
use Rattle.std.proofs.lemmas.Int.{to_z-of_z}
use Rattle.region_inspect.proofs.Images.{none_is, table_is}
use Rattle.region_inspect.proofs.tables.inspect_table.Goals as goal

pub returns-in-Some-clause-some : goal.returns-in-Some-clause-some
returns-in-Some-clause-some g c = λ told.
    let region = (g.B.Berth.meaning c.args.berth.now).held.region in
    let t = c.args.table in
    let same = to_z-of_z w64 t.horizon c.requires.is.horizon.1 in
    table_is c.args.version region t c.requires.is (to_z w64 (of_z w64 t.horizon)) same c.in-Some.counted.rows c.in-Some.counted.blocks (search rules) (search rules)

pub returns-in-None-clause-none : goal.returns-in-None-clause-none
returns-in-None-clause-none g c = λ told none.
    let region = (g.B.Berth.meaning c.args.berth.now).held.region in
    none_is c.args.version region c.args.table (search rules)
