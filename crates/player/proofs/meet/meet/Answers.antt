use Rattle.std.proofs.Common.{refl, subst, ap, length, ◌∙◌, arith}
use Rattle.crash_moments.specs.Left.{NamedStates}
use Rattle.leaf_table.specs.Lists.{lists_in}
use Rattle.leaf_steward.specs.Seated.{AreFounded}
use Rattle.leaf_moves.specs.Stage.{LeafStands}
use Rattle.player.specs.Crew.{column}
use Rattle.leaf_deeds.specs.Held.{berth_of, seats_of, leaf_state}
use Rattle.leaf_deeds.proofs.Carrying.{keeps_on}
use Rattle.player.proofs.Columns.{lists_count, only_more, only_none}
use Rattle.player.proofs.MetFirst.{meet_all, meet_more, meet_none, meets_keep}
use Rattle.player.proofs.meet.meet.Goals as goal

pub loop-place-init : goal.loop-place-init
loop-place-init g c = record {
  met = meet_none (leaf_state c.args.leaf.now) (column c.args.number (lists_in c.args.rows.now.items)) (g.B.Berth.meaning (berth_of c.args.leaf.now));
  berth = refl;
  keeps = record { names = refl; tables = refl; seats = refl };
  may = c.requires;
  only = only_none c.args.number (lists_in c.args.rows.now.items);
}

pub meet_at-requires-clause-may : goal.meet_at-requires-clause-may
meet_at-requires-clause-may g c = λ κs bounds. c.loop-place.invariant.may

pub meet_at-requires-clause-table : goal.meet_at-requires-clause-table
meet_at-requires-clause-table g c = λ κs bounds.
    let same = ap (λ ts. length ts) c.loop-place.invariant.keeps.tables in
    omega (arith, c.loop-place.invariant.may.column.sizes.count, c.requires.column.sizes.count, same, lists_count c.loop-place.rows.items, lists_count c.args.rows.now.items)

pub loop-place-preserved : goal.loop-place-preserved
loop-place-preserved g c =
    let was = c.loop-place in
    let then = c.meet_at in
    let so_far = was.invariant in
    let met = meet_more was.place (leaf_state c.args.leaf.now) (leaf_state was.leaf) (leaf_state then.new.leaf) _ _ _
    (g.B.Berth.meaning (berth_of c.args.leaf.now)) so_far.met then.ensures.met
    (subst (λ b. (base : NamedStates) → AreFounded (seats_of was.leaf) → LeafStands base (leaf_state was.leaf) (g.B.Berth.meaning b) → LeafStands base (leaf_state then.new.leaf) (g.B.Berth.meaning b))
    so_far.berth then.ensures.stands) in
    record {
      met = met;
      berth = then.ensures.berth ∙ so_far.berth;
      keeps = keeps_on (seats_of c.args.leaf.now) (seats_of was.leaf) (seats_of then.new.leaf) so_far.keeps
          (meets_keep was.place (leaf_state was.leaf) _ (leaf_state then.new.leaf) _ then.ensures.met);
      may = then.ensures.may;
      only = only_more c.args.number _ _ _ so_far.only then.ensures.only;
    }

pub returns-clause-met : goal.returns-clause-met
returns-clause-met g c =
    meet_all c.loop-place.place (leaf_state c.args.leaf.now) _ (leaf_state c.loop-place.leaf) _ (g.B.Berth.meaning (berth_of c.args.leaf.now))
    c.loop-place.invariant.met
    (omega (arith, c.requires.seats, c.requires.column.sizes.count, lists_count c.args.rows.now.items, c.loop-place-test.false))
