use Rattle.std.proofs.Common.{◌+◌, List, length, take, sym, subst}
use Rattle.std.specs.Prelude.{Option, IfSome}
use Rattle.block_scan.specs.declared.decoded.Decoded.{Decoded}
use Rattle.block_scan.specs.Reads.{columns_of, row_of}
use Rattle.block_scan.specs.Slots.{AreOfAggs, IsOfAgg}
use Rattle.block_scan.proofs.Lists.{zip_more}
use Rattle.block_scan.proofs.aggregates.decode_aggs.Goals as goal

pub loop-agg-preserved : goal.loop-agg-preserved
loop-agg-preserved c =
    let n = length c.args.times.now in let row = row_of c.args.times.now (columns_of c.args.read.now) in let aggs = c.args.aggs.now in let k = c.loop-agg.agg-index in
    let agg = c.agg-item.result in
    let is = subst (λ (f : Option Decoded). IfSome f (IsOfAgg n row agg)) c.in-Some.is c.in_ok-decoded.ensures in
    subst (λ (l : List Decoded). AreOfAggs n row (take (k + 1) aggs) l) (sym c.in_ok-push-in-Some.ensures.items)
    (zip_more (IsOfAgg n row) aggs c.loop-agg.all.items k agg c.in-Some.decoded c.loop-agg-test.true c.agg-item.is c.loop-agg.invariant is)
