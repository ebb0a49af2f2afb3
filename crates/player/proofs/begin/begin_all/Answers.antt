use Rattle.std.proofs.Common.{◌≡◌, ◌+◌, ◌<◌, length, ◌∙◌, arith}
use Rattle.leaf_table.specs.Lists.{lists_in}
use Rattle.player.proofs.Begun.{all_but_first, begun_more, first_of_all, front_gone, front_is, seated_same, seats_row, step_ready}
use Rattle.player.proofs.begin.begin_all.Goals as goal

pub begin-requires-clause-named : goal.begin-requires-clause-named
begin-requires-clause-named g c = λ κs bounds.
    let was = c.loop-number in
    let so_far = was.invariant in
    let names = c.args.names.now in
    let stewards = c.args.stewards.items in
    let below : was.number < length stewards = omega (arith, c.loop-number-test.true, c.len-number-end.ensures, c.args.stewards.ok.0) in
    let copy_is = first_of_all (λ copy. copy ≡ names) was.copies.items c.remove-copy.result (omega (arith, so_far.copies_left, below)) c.remove-copy.ensures.value so_far.same in
    let seats_at = front_is stewards was.stewards.items was.number c.remove-seats.result so_far.stewards (omega (arith, so_far.stewards_left, below)) c.remove-seats.ensures.value in
    let seats_are = seats_row stewards was.number c.remove-seats.result seats_at in
    let berth_at = front_is c.args.berths.now.items was.berths.items was.number c.remove-berth.result so_far.berths (omega (arith, so_far.berths_left, below)) c.remove-berth.ensures.value in
    (step_ready g.B.Berth.meaning names c.remove-copy.result c.args.tables.now (lists_in stewards) c.args.berths.now.items was.number c.leaf.result.now c.remove-seats.result.items c.remove-berth.result
    copy_is c.leaf.ensures seats_are berth_at (c.requires.ready was.number below)).named

pub begin-requires-clause-names : goal.begin-requires-clause-names
begin-requires-clause-names g c = λ κs bounds.
    let was = c.loop-number in
    let so_far = was.invariant in
    let names = c.args.names.now in
    let stewards = c.args.stewards.items in
    let below : was.number < length stewards = omega (arith, c.loop-number-test.true, c.len-number-end.ensures, c.args.stewards.ok.0) in
    let copy_is = first_of_all (λ copy. copy ≡ names) was.copies.items c.remove-copy.result (omega (arith, so_far.copies_left, below)) c.remove-copy.ensures.value so_far.same in
    let seats_at = front_is stewards was.stewards.items was.number c.remove-seats.result so_far.stewards (omega (arith, so_far.stewards_left, below)) c.remove-seats.ensures.value in
    let seats_are = seats_row stewards was.number c.remove-seats.result seats_at in
    let berth_at = front_is c.args.berths.now.items was.berths.items was.number c.remove-berth.result so_far.berths (omega (arith, so_far.berths_left, below)) c.remove-berth.ensures.value in
    (step_ready g.B.Berth.meaning names c.remove-copy.result c.args.tables.now (lists_in stewards) c.args.berths.now.items was.number c.leaf.result.now c.remove-seats.result.items c.remove-berth.result
    copy_is c.leaf.ensures seats_are berth_at (c.requires.ready was.number below)).names_are

pub begin-requires-clause-count : goal.begin-requires-clause-count
begin-requires-clause-count g c = λ κs bounds.
    let was = c.loop-number in
    let so_far = was.invariant in
    let names = c.args.names.now in
    let stewards = c.args.stewards.items in
    let below : was.number < length stewards = omega (arith, c.loop-number-test.true, c.len-number-end.ensures, c.args.stewards.ok.0) in
    let copy_is = first_of_all (λ copy. copy ≡ names) was.copies.items c.remove-copy.result (omega (arith, so_far.copies_left, below)) c.remove-copy.ensures.value so_far.same in
    let seats_at = front_is stewards was.stewards.items was.number c.remove-seats.result so_far.stewards (omega (arith, so_far.stewards_left, below)) c.remove-seats.ensures.value in
    let seats_are = seats_row stewards was.number c.remove-seats.result seats_at in
    let berth_at = front_is c.args.berths.now.items was.berths.items was.number c.remove-berth.result so_far.berths (omega (arith, so_far.berths_left, below)) c.remove-berth.ensures.value in
    (step_ready g.B.Berth.meaning names c.remove-copy.result c.args.tables.now (lists_in stewards) c.args.berths.now.items was.number c.leaf.result.now c.remove-seats.result.items c.remove-berth.result
    copy_is c.leaf.ensures seats_are berth_at (c.requires.ready was.number below)).count

pub begin-requires-clause-alike : goal.begin-requires-clause-alike
begin-requires-clause-alike g c = λ κs bounds.
    let was = c.loop-number in
    let so_far = was.invariant in
    let names = c.args.names.now in
    let stewards = c.args.stewards.items in
    let below : was.number < length stewards = omega (arith, c.loop-number-test.true, c.len-number-end.ensures, c.args.stewards.ok.0) in
    let copy_is = first_of_all (λ copy. copy ≡ names) was.copies.items c.remove-copy.result (omega (arith, so_far.copies_left, below)) c.remove-copy.ensures.value so_far.same in
    let seats_at = front_is stewards was.stewards.items was.number c.remove-seats.result so_far.stewards (omega (arith, so_far.stewards_left, below)) c.remove-seats.ensures.value in
    let seats_are = seats_row stewards was.number c.remove-seats.result seats_at in
    let berth_at = front_is c.args.berths.now.items was.berths.items was.number c.remove-berth.result so_far.berths (omega (arith, so_far.berths_left, below)) c.remove-berth.ensures.value in
    (step_ready g.B.Berth.meaning names c.remove-copy.result c.args.tables.now (lists_in stewards) c.args.berths.now.items was.number c.leaf.result.now c.remove-seats.result.items c.remove-berth.result
    copy_is c.leaf.ensures seats_are berth_at (c.requires.ready was.number below)).alike

pub begin-requires-clause-unused : goal.begin-requires-clause-unused
begin-requires-clause-unused g c = λ κs bounds.
    let was = c.loop-number in
    let so_far = was.invariant in
    let names = c.args.names.now in
    let stewards = c.args.stewards.items in
    let below : was.number < length stewards = omega (arith, c.loop-number-test.true, c.len-number-end.ensures, c.args.stewards.ok.0) in
    let copy_is = first_of_all (λ copy. copy ≡ names) was.copies.items c.remove-copy.result (omega (arith, so_far.copies_left, below)) c.remove-copy.ensures.value so_far.same in
    let seats_at = front_is stewards was.stewards.items was.number c.remove-seats.result so_far.stewards (omega (arith, so_far.stewards_left, below)) c.remove-seats.ensures.value in
    let seats_are = seats_row stewards was.number c.remove-seats.result seats_at in
    let berth_at = front_is c.args.berths.now.items was.berths.items was.number c.remove-berth.result so_far.berths (omega (arith, so_far.berths_left, below)) c.remove-berth.ensures.value in
    (step_ready g.B.Berth.meaning names c.remove-copy.result c.args.tables.now (lists_in stewards) c.args.berths.now.items was.number c.leaf.result.now c.remove-seats.result.items c.remove-berth.result
    copy_is c.leaf.ensures seats_are berth_at (c.requires.ready was.number below)).unused

pub begin-requires-clause-ready : goal.begin-requires-clause-ready
begin-requires-clause-ready g c = λ κs bounds.
    let was = c.loop-number in
    let so_far = was.invariant in
    let names = c.args.names.now in
    let stewards = c.args.stewards.items in
    let below : was.number < length stewards = omega (arith, c.loop-number-test.true, c.len-number-end.ensures, c.args.stewards.ok.0) in
    let copy_is = first_of_all (λ copy. copy ≡ names) was.copies.items c.remove-copy.result (omega (arith, so_far.copies_left, below)) c.remove-copy.ensures.value so_far.same in
    let seats_at = front_is stewards was.stewards.items was.number c.remove-seats.result so_far.stewards (omega (arith, so_far.stewards_left, below)) c.remove-seats.ensures.value in
    let seats_are = seats_row stewards was.number c.remove-seats.result seats_at in
    let berth_at = front_is c.args.berths.now.items was.berths.items was.number c.remove-berth.result so_far.berths (omega (arith, so_far.berths_left, below)) c.remove-berth.ensures.value in
    (step_ready g.B.Berth.meaning names c.remove-copy.result c.args.tables.now (lists_in stewards) c.args.berths.now.items was.number c.leaf.result.now c.remove-seats.result.items c.remove-berth.result
    copy_is c.leaf.ensures seats_are berth_at (c.requires.ready was.number below)).ready

pub loop-number-preserved : goal.loop-number-preserved
loop-number-preserved g c =
    let was = c.loop-number in
    let so_far = was.invariant in
    let names = c.args.names.now in
    let stewards = c.args.stewards.items in
    let below : was.number < length stewards = omega (arith, c.loop-number-test.true, c.len-number-end.ensures, c.args.stewards.ok.0) in
    let copy_is = first_of_all (λ copy. copy ≡ names) was.copies.items c.remove-copy.result (omega (arith, so_far.copies_left, below)) c.remove-copy.ensures.value so_far.same in
    let seats_at = front_is stewards was.stewards.items was.number c.remove-seats.result so_far.stewards (omega (arith, so_far.stewards_left, below)) c.remove-seats.ensures.value in
    let seats_are = seats_row stewards was.number c.remove-seats.result seats_at in
    let berth_at = front_is c.args.berths.now.items was.berths.items was.number c.remove-berth.result so_far.berths (omega (arith, so_far.berths_left, below)) c.remove-berth.ensures.value in
    let made = c.begin.ensures.leaves in
    record {
      begun = begun_more g.B.Berth.meaning names c.args.tables.now (lists_in stewards) c.args.berths.now.items was.number (was.number + 1) was.leaves.items c.begin.new.leaves.items
          (record { names = c.remove-copy.result; tables = c.leaf.result.now; seats = c.remove-seats.result.items }) c.remove-berth.result made.0 (omega arith) so_far.begun berth_at
          (seated_same c.remove-copy.result names c.leaf.result.now _ c.remove-seats.result.items _ copy_is c.leaf.ensures seats_are) made.2 made.1;
      same = all_but_first (λ copy. copy ≡ names) was.copies.items c.remove-copy.new.self.items c.remove-copy.ensures.items so_far.same;
      copies_left = omega (arith, so_far.copies_left, c.remove-copy.ensures.len, was.copies.ok.0, c.remove-copy.new.self.ok.0);
      stewards = front_gone stewards was.stewards.items c.remove-seats.new.self.items was.number (was.number + 1) (omega arith) so_far.stewards c.remove-seats.ensures.items;
      stewards_left = omega (arith, so_far.stewards_left, c.remove-seats.ensures.len, was.stewards.ok.0, c.remove-seats.new.self.ok.0);
      berths = front_gone c.args.berths.now.items was.berths.items c.remove-berth.new.self.items was.number (was.number + 1) (omega arith) so_far.berths c.remove-berth.ensures.items;
      berths_left = omega (arith, so_far.berths_left, c.remove-berth.ensures.len, was.berths.ok.0, c.remove-berth.new.self.ok.0);
      room = c.remove-berth.ensures.capacity ∙ so_far.room;
      space = omega (arith, so_far.space, c.begin.ensures.room);
    }
