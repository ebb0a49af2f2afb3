use Rattle.std.proofs.Common.{◌≡◌, ◌+◌, ◌<◌, ◌++◌, ◌∷◌, [], length, drop, rules, arith, subst, sym}
use Rattle.std.specs.List.{AllByRecursion}
use Rattle.std.proofs.lemmas.Grind.{common_steps}
use Rattle.std.proofs.lemmas.List.{drop_more}
use Rattle.table_state.specs.Tables.{Table, bare, columns_most}
use Rattle.row_model.specs.Names.{AreDistinct}
use Rattle.region_layout.specs.Images.{TableImage, table_of}
use Rattle.adopt.specs.Finishing.{IsMade}
use Rattle.adopt.proofs.Arranging.{each_without, told_more}
use Rattle.adopt.proofs.tables.arranged.Goals as goal

pub loop-name-preserved : goal.loop-name-preserved
loop-name-preserved c =
    let names = c.args.names.now in
    let i = c.loop-name.name-index in
    let drained = c.loop-name.drained.items in
    let name = c.as_str.result.now in
    let within : i < length names = search rules in
    let more = drop_more names i name within in
    let item : drop i names ≡ name ∷ drop (i + 1) names = grind (arith, common_steps, more) in
    let had = c.loop-name.tables.items in
    let taken = c.take_named.result in
    let pushed : c.push.new.self.items ≡ had ++ taken ∷ [] = grind (arith, common_steps) in
    let distinct = subst AreDistinct item c.loop-name.invariant.distinct in
    let left = c.take_named.ensures.left in
    let columns = λ (t : TableImage). t.columns in
    record {
      so_far = told_more table_of bare name names i drained c.args.drained.items had taken c.push.new.self.items c.take_named.new.drained.items item distinct.0 pushed left c.loop-name.invariant.so_far c.take_named.ensures.taken;
      columns = told_more columns (λ (t : Table). columns_most t.store) name names i drained c.args.drained.items had taken c.push.new.self.items c.take_named.new.drained.items item distinct.0 pushed left
          c.loop-name.invariant.columns c.take_named.ensures.columns;
      distinct = distinct.1;
      each = subst (AllByRecursion IsMade) (sym left) (each_without IsMade name drained c.loop-name.invariant.each);
    }
