use Rattle.std.proofs.Common.{[], ◌∷◌, length, ap, arith, length-append}
use Rattle.player.specs.Crew.{is_set}
use Rattle.player.proofs.Lent.{roomy_more, roomy_none}
use Rattle.player.proofs.lend.rooms.Goals as goal

pub loop-table-init : goal.loop-table-init
loop-table-init c = record { count = ap (λ rs. length rs) c.in_ok-rows.ensures.items; roomy = roomy_none (is_set c.args.marks.now) c.args.count c.in_ok-rows.rows.items c.in_ok-rows.ensures.items }

pub loop-table-preserved : goal.loop-table-preserved
loop-table-preserved c =
    let was = c.loop-table in
    let v = c.in_ok-with_capacity.field-0 in
    record {
      count = omega (arith, ap (λ rs. length rs) c.in_ok-push.ensures.items, length-append was.rows.items (v ∷ []), was.invariant.count);
      roomy = roomy_more (is_set c.args.marks.now) c.args.count was.table was.rows.items c.push.new.self.items v was.invariant.count was.invariant.roomy c.in_ok-push.ensures.items c.in_ok-with_capacity.ensures.items
          (λ set. let enough = c.room_if.ensures set in omega (arith, enough, c.in_ok-with_capacity.ensures.capacity));
    }

pub returns : goal.returns
returns c = let was = c.loop-table in (omega (arith, was.invariant.count, c.loop-table-test.false, was.auto.table-end), was.invariant.roomy)
