use Rattle.std.proofs.Common.{rules, List, IsTrue, sym, subst}
use Rattle.std.specs.Prelude.{IfSome}
use Rattle.std.specs.List.{AllByRecursion}
use Rattle.berth_face.specs.Berth.{Pair}
use Rattle.region_reading.proofs.Reading.{untouched_on}
use Rattle.region_inspect.specs.declared.seen.TableLine.{TableLine}
use Rattle.region_inspect.specs.Inspecting.{IsNone, IsSmallTable, TableIs, TablesSoFar}
use Rattle.region_inspect.proofs.Images.{has_none, table_more}
use Rattle.region_inspect.proofs.tables.inspect_tables.Goals as goal

pub returns-in_default-2-clause-none : goal.returns-in_default-2-clause-none
returns-in_default-2-clause-none g c = λ told none.
    let region = (g.B.Berth.meaning c.args.berth.now).held.region in
    let so_far = c.loop-table.invariant.untouched in
    let told_mid = subst IsTrue (sym so_far.time.tells) told in
    let broken = subst (λ (p : Pair). IsNone c.args.version p.region c.in-Some.table) (so_far.stays told).held (c.in_ok-line.ensures.none told_mid (search rules)) in
    has_none c.args.version region c.args.tables.items c.loop-table.lines.items c.loop-table.rest.items c.pop_front.new.self.items c.in-Some.table (c.loop-table.invariant.told told) c.in-Some.ensures.items broken

pub loop-table-preserved : goal.loop-table-preserved
loop-table-preserved g c =
    let old = g.B.Berth.meaning c.args.berth.now in
    let mid = g.B.Berth.meaning c.loop-table.berth in
    let region = old.held.region in
    let so_far = c.loop-table.invariant.untouched in
    record {
      told = λ told.
          let told_mid = subst IsTrue (sym so_far.time.tells) told in
          let one = subst (λ (p : Pair). TableIs c.args.version p.region c.in-Some.table c.in-Some-2.line) (so_far.stays told).held (subst (λ f. IfSome f (TableIs c.args.version mid.held.region c.in-Some.table)) c.in-Some-2.is (c.in_ok-line.ensures.some told_mid)) in
          subst (λ (ls : List TableLine). TablesSoFar c.args.version region c.args.tables.items ls c.pop_front.new.self.items) (sym c.in_ok-put.ensures)
          (table_more c.args.version region c.args.tables.items c.loop-table.lines.items c.loop-table.rest.items c.pop_front.new.self.items c.in-Some.table (c.loop-table.invariant.told told) c.in-Some.ensures.items c.in-Some-2.line one);
      untouched = untouched_on old mid (g.B.Berth.meaning c.inspect_table.new.berth) so_far c.inspect_table.ensures.untouched;
      small = (subst (AllByRecursion IsSmallTable) c.in-Some.ensures.items c.loop-table.invariant.small).1;
    }
