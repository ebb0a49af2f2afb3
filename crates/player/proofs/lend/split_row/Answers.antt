use Rattle.std.proofs.Common.{◌≡◌, ◌+◌, ◌++◌, ◌∷◌, [], ℕ, List, length, Some, sym, ap, subst, ◌∙◌, arith}
use Rattle.std.specs.Prelude.{slice_get, slice_set}
use Rattle.std.proofs.lemmas.Option.{slice_get_within}
use Rattle.turnstile.specs.Seats.{IsSeatOf}
use Rattle.leaf_table.specs.Turns.{Shared}
use Rattle.leaf_table.specs.Calls.{SeatView}
use Rattle.leaf_table.specs.Lists.{row}
use Rattle.leaf_steward.proofs.Seating.{same_at}
use Rattle.player.specs.Lending.{SplitsFirst}
use Rattle.player.proofs.Calling.{stands_at}
use Rattle.player.proofs.Columns.{element_at}
use Rattle.player.proofs.Lent.{splits_more, splits_none}
use Rattle.player.proofs.lend.split_row.Goals as goal

pub loop-leaf-init : goal.loop-leaf-init
loop-leaf-init c = record { splits = splits_none c.args.seats.now.items c.args.off.now.items c.requires.none; room = c.requires.room }

pub bounds-leaf-table : goal.bounds-leaf-table
bounds-leaf-table c =
    let was = c.loop-leaf in
    let seats = c.args.seats.now in
    let s = element_at seats.items was.leaf (omega (arith, c.loop-leaf-test.true, c.len-leaf-end.ensures, seats.ok.0)) in
    let t = c.requires.may.each was.leaf s.0 s.1 in
    omega (arith, slice_get_within (row c.args.tables.now was.leaf) c.args.table t.0 t.1, ap (λ (ts : List Shared). length ts) c.leaf.ensures)

pub split_seat-cut-requires-clause-seat : goal.split_seat-cut-requires-clause-seat
split_seat-cut-requires-clause-seat c =
    let was = c.loop-leaf in
    let splits = was.invariant.splits in
    let s = c.index_mut.result.now in
    let at = stands_at was.seats.items was.leaf s (omega (arith, c.loop-leaf-test.true, c.len-leaf-end.ensures, c.args.seats.now.ok.0, splits.counts.0)) c.index_mut.ensures.value in
    let t = c.requires.may.each was.leaf s (sym (splits.others was.leaf (omega arith)) ∙ at) in
    let there = subst (λ (ts : List Shared). slice_get ts c.args.table ≡ Some t.0) (sym c.leaf.ensures) t.1 in
    let read = stands_at c.leaf.result.now c.args.table c.index-leaf-table.result (slice_get_within c.leaf.result.now c.args.table t.0 there) c.index-leaf-table.is in
    subst (λ (u : Shared). IsSeatOf s u.site) (same_at c.leaf.result.now c.args.table t.0 c.index-leaf-table.result there read) t.2

pub split_seat-cut-requires-clause-share : goal.split_seat-cut-requires-clause-share
split_seat-cut-requires-clause-share c =
    let was = c.loop-leaf in
    let splits = was.invariant.splits in
    let s = c.index_mut.result.now in
    let at = stands_at was.seats.items was.leaf s (omega (arith, c.loop-leaf-test.true, c.len-leaf-end.ensures, c.args.seats.now.ok.0, splits.counts.0)) c.index_mut.ensures.value in
    (c.requires.may.each was.leaf s (sym (splits.others was.leaf (omega arith)) ∙ at)).3

pub put_behind-requires : goal.put_behind-requires
put_behind-requires c =
    let was = c.loop-leaf in
    record { room = omega (arith, was.invariant.room, was.invariant.splits.counts.1, was.off.ok.0, c.loop-leaf-test.true, c.len-leaf-end.ensures, c.args.seats.now.ok.0) }

pub loop-leaf-preserved : goal.loop-leaf-preserved
loop-leaf-preserved c =
    let was = c.loop-leaf in
    let splits = was.invariant.splits in
    let s = c.index_mut.result.now in
    let at = stands_at was.seats.items was.leaf s (omega (arith, c.loop-leaf-test.true, c.len-leaf-end.ensures, c.args.seats.now.ok.0, splits.counts.0)) c.index_mut.ensures.value in
    let t = c.requires.may.each was.leaf s (sym (splits.others was.leaf (omega arith)) ∙ at) in
    record {
      splits = splits_more was.leaf (was.leaf + 1) c.args.seats.now.items was.off.items was.seats.items c.put_behind.new.items.items (slice_set was.seats.items was.leaf c.split_seat-cut.new.seat) s
          (omega arith) splits at t.3 (ap (λ (z : SeatView). slice_set was.seats.items was.leaf z) c.split_seat-cut.ensures.rest)
          (c.put_behind.ensures.items ∙ ap (λ (z : SeatView). was.off.items ++ z ∷ []) c.split_seat-cut.ensures.off);
      room = omega (arith, was.invariant.room, c.put_behind.ensures.room);
    }

pub returns : goal.returns
returns c =
    let was = c.loop-leaf in
    let all : was.leaf ≡ length c.args.seats.now.items = omega (arith, c.loop-leaf-test.false, was.auto.leaf-end, c.len-leaf-end.ensures, c.args.seats.now.ok.0) in
    record { splits = subst (λ (n : ℕ). SplitsFirst n c.args.seats.now.items was.off.items was.seats.items) all was.invariant.splits }
