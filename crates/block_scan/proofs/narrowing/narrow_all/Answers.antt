use Rattle.std.proofs.Common.{◌≡◌, ◌<◌, ℕ, List, filter, length, sym, ap, subst, ◌∙◌}
use Rattle.std.specs.List.{AllByRecursion}
use Rattle.std.specs.Prelude.{Option, IfSome}
use Rattle.leaf_model.specs.Groups.{cond_accepts, value_of}
use Rattle.block_scan.specs.declared.decoded.Decoded.{Decoded}
use Rattle.block_scan.specs.Decoded.{IsDecoded, decoded_at}
use Rattle.block_scan.specs.Reads.{columns_of, row_of}
use Rattle.block_scan.proofs.Lists.{all_filter, filter_true}
use Rattle.block_scan.proofs.Decodes.{conds_more}
use Rattle.block_scan.proofs.narrowing.narrow_all.Goals as goal

pub loop-cond-init : goal.loop-cond-init
loop-cond-init c = record { inside = c.requires.places; left = sym (filter_true c.args.places.items) }

pub narrow-requires-clause-places : goal.narrow-requires-clause-places
narrow-requires-clause-places c = subst (λ (l : List ℕ). AllByRecursion (λ place. place < length c.args.times.now) l) (sym c.as_slice.ensures.value) c.loop-cond.invariant.inside

pub loop-cond-preserved : goal.loop-cond-preserved
loop-cond-preserved c =
    let n = length c.args.times.now in
    let row = row_of c.args.times.now (columns_of c.args.read.now) in
    let cond = c.cond-item.result in
    let decoded = subst (λ (f : Option Decoded). IfSome f (λ (d : Decoded). IsDecoded n (λ i. value_of cond.name (row i)) d)) c.in-Some.is c.in_ok-decoded.ensures in
    let left = c.loop-cond.left.items in
    let narrowed : c.in_ok-left.left.items ≡ filter (λ i. cond_accepts cond (decoded_at c.in-Some.decoded i)) left
    = c.in_ok-left.ensures ∙ ap (filter (λ i. cond_accepts cond (decoded_at c.in-Some.decoded i))) c.as_slice.ensures.value in
    record {
      inside = subst (λ (l : List ℕ). AllByRecursion (λ place. place < n) l) (sym narrowed)
          (all_filter (λ place. place < n) (λ i. cond_accepts cond (decoded_at c.in-Some.decoded i)) left c.loop-cond.invariant.inside);
      left = conds_more c.args.conds.now c.loop-cond.cond-index cond row (decoded_at c.in-Some.decoded) n c.args.places.items left c.in_ok-left.left.items c.loop-cond-test.true c.cond-item.is
          c.loop-cond.invariant.inside c.loop-cond.invariant.left decoded.each narrowed;
    }
