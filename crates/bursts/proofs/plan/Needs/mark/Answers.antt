use Rattle.std.proofs.Common.{◌≡◌, ◌∙◌, sym, ap, arith}
use Rattle.script_text.specs.Aims.{AtLeaf, AtNamed, AtTable, aim_in, aim_of}
use Rattle.transcript.specs.Pieces.{place_among}
use Rattle.bursts.proofs.Needed.{aimed_within, place_below}
use Rattle.bursts.proofs.plan.Needs.mark.Goals as goal

pub index_mut-requires : goal.index_mut-requires
index_mut-requires g c =
    let is : AtTable c.in-Table.table ≡ aim_of c.args.command.now = ap aim_in (sym c.in-Table.is) ∙ c.aim.ensures in
    let below = aimed_within c.args.crew.now.fleet c.args.command.now (AtTable c.in-Table.table) is c.requires.command in
    omega (arith, below, c.requires.places.tables, c.args.self.now.tables.ok.0)

pub index_mut-requires-in-Named : goal.index_mut-requires-in-Named
index_mut-requires-in-Named g c =
    let names = c.args.crew.now.fleet.names in
    let name = c.in-Named.name.now in
    let is : AtNamed name ≡ aim_of c.args.command.now = ap aim_in (sym c.in-Named.is) ∙ c.aim.ensures in
    let below = place_below name names (aimed_within c.args.crew.now.fleet c.args.command.now (AtNamed name) is c.requires.command) in
    let place : place_among c.as_str.result.now names ≡ place_among name names = ap (λ text. place_among text names) c.as_str.ensures in
    omega (arith, below, place, c.place_of-table.ensures, c.requires.places.tables, c.args.self.now.tables.ok.0)

pub index_mut-requires-in-Leaf : goal.index_mut-requires-in-Leaf
index_mut-requires-in-Leaf g c =
    let is : AtLeaf c.in-Leaf.leaf ≡ aim_of c.args.command.now = ap aim_in (sym c.in-Leaf.is) ∙ c.aim.ensures in
    let below = aimed_within c.args.crew.now.fleet c.args.command.now (AtLeaf c.in-Leaf.leaf) is c.requires.command in
    omega (arith, below, c.requires.places.leaves, c.args.self.now.leaves.ok.0)
