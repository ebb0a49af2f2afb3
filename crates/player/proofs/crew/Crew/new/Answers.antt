use Rattle.std.proofs.Common.{◌≡◌, ◌*◌, ◌<◌, ℕ, take, length, sym, ap, subst, ◌∙◌, arith}
use Rattle.leaf_table.specs.Fleet.{IsNewFleet}
use Rattle.leaf_table.specs.Lists.{lists_in}
use Rattle.player.specs.Crew.{new_holds}
use Rattle.player.specs.Beginning.{AreBegun, LeafIsReady}
use Rattle.player.proofs.Begun.{begun_held, begun_holds, begun_stands, new_members, new_seats, ready_at}
use Rattle.player.proofs.Columns.{lists_count}
use Rattle.player.proofs.crew.Crew.new.Goals as goal

pub begin_all-requires-clause-ready : goal.begin_all-requires-clause-ready
begin_all-requires-clause-ready g c = λ κs bounds leaf below.
    let count = c.args.machines * c.args.per_machine in
    let new = c.requires.new in
    let stewards_are = c.into_inner.ensures in
    let size : length c.into_inner.result.items ≡ count = omega (arith, lists_count c.into_inner.result.items, ap (λ ls. length ls) stewards_are, new.1.counts.1) in
    let within : leaf < count = omega (arith, below, size) in
    subst (λ ls. LeafIsReady g.B.Berth.meaning c.args.names c.args.tables.now ls c.args.berths.now.items leaf) (sym stewards_are)
    (ready_at new.0 count c.args.names c.args.tables.now c.args.stewards c.args.callers c.requires.named new.1 g.B.Berth.meaning c.args.berths.now.items leaf within
    (c.requires.alike leaf within) (λ b at founded. c.requires.ready leaf b within at founded))

pub invariant_of-result : goal.invariant_of-result
invariant_of-result g c =
    let count = c.args.machines * c.args.per_machine in
    let new = c.requires.new in
    let meaning = g.B.Berth.meaning in
    let stewards_are = c.into_inner.ensures in
    let callers_are = c.into_inner-2.ensures in
    let size : length c.into_inner.result.items ≡ count = omega (arith, lists_count c.into_inner.result.items, ap (λ ls. length ls) stewards_are, new.1.counts.1) in
    let begun =
    subst (λ ls. AreBegun meaning c.args.names c.args.tables.now ls c.args.berths.now.items count c.begin_all.new.leaves.items) stewards_are
    (subst (λ (n : ℕ). AreBegun meaning c.args.names c.args.tables.now (lists_in c.into_inner.result.items) c.args.berths.now.items n c.begin_all.new.leaves.items) size c.begin_all.ensures.begun) in
    new_members meaning new.0 c.args.stewards c.args.berths.now.items _ c.requires.named c.requires.leaves
    (subst (λ ls. IsNewFleet new.0 count c.args.names 65536 c.args.tables.now c.args.stewards ls) (sym callers_are) new.1) begun

pub returns-clause-holds : goal.returns-clause-holds
returns-clause-holds g c =
    let count = c.args.machines * c.args.per_machine in
    let new = c.requires.new in
    let meaning = g.B.Berth.meaning in
    let stewards_are = c.into_inner.ensures in
    let callers_are = c.into_inner-2.ensures in
    let size : length c.into_inner.result.items ≡ count = omega (arith, lists_count c.into_inner.result.items, ap (λ ls. length ls) stewards_are, new.1.counts.1) in
    let begun =
    subst (λ ls. AreBegun meaning c.args.names c.args.tables.now ls c.args.berths.now.items count c.begin_all.new.leaves.items) stewards_are
    (subst (λ (n : ℕ). AreBegun meaning c.args.names c.args.tables.now (lists_in c.into_inner.result.items) c.args.berths.now.items n c.begin_all.new.leaves.items) size c.begin_all.ensures.begun) in
    begun_holds meaning c.args.names c.args.tables.now c.args.stewards c.args.berths.now.items count c.begin_all.new.leaves.items (lists_in c.into_inner-2.result.items) c.requires.enough begun
    ∙ ap (λ ls. new_holds 0 c.args.names c.args.tables.now c.args.stewards ls (take count c.args.berths.now.items)) callers_are

pub returns-clause-stands : goal.returns-clause-stands
returns-clause-stands g c =
    let count = c.args.machines * c.args.per_machine in
    let new = c.requires.new in
    let meaning = g.B.Berth.meaning in
    let stewards_are = c.into_inner.ensures in
    let callers_are = c.into_inner-2.ensures in
    let size : length c.into_inner.result.items ≡ count = omega (arith, lists_count c.into_inner.result.items, ap (λ ls. length ls) stewards_are, new.1.counts.1) in
    let begun =
    subst (λ ls. AreBegun meaning c.args.names c.args.tables.now ls c.args.berths.now.items count c.begin_all.new.leaves.items) stewards_are
    (subst (λ (n : ℕ). AreBegun meaning c.args.names c.args.tables.now (lists_in c.into_inner.result.items) c.args.berths.now.items n c.begin_all.new.leaves.items) size c.begin_all.ensures.begun) in
    begun_stands meaning c.args.names c.args.tables.now c.args.stewards c.args.berths.now.items count c.begin_all.new.leaves.items (lists_in c.into_inner-2.result.items) begun

pub returns-clause-all : goal.returns-clause-all
returns-clause-all g c =
    let count = c.args.machines * c.args.per_machine in
    let new = c.requires.new in
    let meaning = g.B.Berth.meaning in
    let stewards_are = c.into_inner.ensures in
    let callers_are = c.into_inner-2.ensures in
    let callers = lists_in c.into_inner-2.result.items in
    let size : length c.into_inner.result.items ≡ count = omega (arith, lists_count c.into_inner.result.items, ap (λ ls. length ls) stewards_are, new.1.counts.1) in
    let begun =
    subst (λ ls. AreBegun meaning c.args.names c.args.tables.now ls c.args.berths.now.items count c.begin_all.new.leaves.items) stewards_are
    (subst (λ (n : ℕ). AreBegun meaning c.args.names c.args.tables.now (lists_in c.into_inner.result.items) c.args.berths.now.items n c.begin_all.new.leaves.items) size c.begin_all.ensures.begun) in
    record {
      leaves = begun_held meaning c.args.names c.args.tables.now c.args.stewards c.args.berths.now.items count c.begin_all.new.leaves.items callers begun;
      seats = new_seats new.0 count c.args.names c.args.tables.now c.args.stewards callers c.requires.named
          (subst (λ ls. IsNewFleet new.0 count c.args.names 65536 c.args.tables.now c.args.stewards ls) (sym callers_are) new.1) c.begin_all.new.leaves.items begun.length_is;
    }

pub begin_all-requires-clause-tables : goal.begin_all-requires-clause-tables
begin_all-requires-clause-tables g c = λ κs bounds.
    let count = c.args.machines * c.args.per_machine in
    let new = c.requires.new in
    let stewards_are = c.into_inner.ensures in
    let size : length c.into_inner.result.items ≡ count = omega (arith, lists_count c.into_inner.result.items, ap (λ ls. length ls) stewards_are, new.1.counts.1) in
    omega (arith, size, new.1.counts.0)

pub begin_all-requires-clause-enough : goal.begin_all-requires-clause-enough
begin_all-requires-clause-enough g c = λ κs bounds.
    let count = c.args.machines * c.args.per_machine in
    let new = c.requires.new in
    let stewards_are = c.into_inner.ensures in
    let size : length c.into_inner.result.items ≡ count = omega (arith, lists_count c.into_inner.result.items, ap (λ ls. length ls) stewards_are, new.1.counts.1) in
    omega (arith, size, c.requires.enough)
