use Rattle.std.proofs.Common.{Vec, Global, List, length, sym, subst}
use Rattle.std.specs.Prelude.{Option, IfSome}
use Rattle.std.specs.List.{AllByRecursion}
use Rattle.leaf_model.specs.declared.queries.Agg.{Agg}
use Rattle.block_scan.specs.declared.decoded.Decoded.{Decoded}
use Rattle.block_scan.specs.Decoded.{IsSized}
use Rattle.block_scan.specs.Reads.{columns_of, row_of}
use Rattle.block_scan.specs.Slots.{AreOfAggs}
use Rattle.block_scan.proofs.Split.{aggs_sized, all_keyed, slots_high}
use Rattle.block_scan.proofs.columns.fold_slots.Goals as goal

pub fold_by_slot-requires : goal.fold_by_slot-requires
fold_by_slot-requires c =
    let n = length c.args.times.now in let row = row_of c.args.times.now (columns_of c.args.others.now) in let slots = c.args.slots.now in
    let all = subst (λ (f : Option (Vec Decoded Global)). IfSome f (λ ds. AreOfAggs n row c.as_slice.result.now ds.items)) c.in-Some.is c.in_ok-decoded.ensures in
    record {
      held = c.requires.slots.held;
      decoded = subst (AllByRecursion (IsSized n)) (sym c.as_slice-in-Some.ensures.value) (aggs_sized n row c.as_slice.result.now c.in-Some.decoded.items all);
      sized = slots_high c.args.query.now row slots c.args.places.now c.requires.slots.each;
      inside = c.requires.places;
      few = c.requires.short;
    }

pub returns-in-Some-clause-groups : goal.returns-in-Some-clause-groups
returns-in-Some-clause-groups c =
    let n = length c.args.times.now in let row = row_of c.args.times.now (columns_of c.args.others.now) in
    let all = subst (λ (f : Option (Vec Decoded Global)). IfSome f (λ ds. AreOfAggs n row c.as_slice.result.now ds.items)) c.in-Some.is c.in_ok-decoded.ensures in
    let aggs = subst (λ (as_ : List Agg). AreOfAggs n row as_ c.as_slice-in-Some.result.now) c.as_slice.ensures
    (subst (AreOfAggs n row c.as_slice.result.now) (sym c.as_slice-in-Some.ensures.value) all) in
    c.fold_by_slot.ensures.groups row aggs (all_keyed c.args.query.now row c.args.slots.now c.args.places.now c.requires.slots.each c.requires.passing)
