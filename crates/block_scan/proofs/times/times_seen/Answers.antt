use Rattle.std.proofs.Common.{◌≡◌, ℕ, ◌<◌, Vec, Global, true, ◌&&◌, ◌||◌, List, length, slice_index_or, ℤ, pos, to_z, of_z, sym, ap, ◌∙◌}
use Rattle.std.specs.Prelude.{bytes_eq}
use Rattle.std.specs.List.{list_any}
use Rattle.std.specs.Int.{w64}
use Rattle.std.proofs.lemmas.Int.{to_z-of_z}
use Rattle.row_blocks.specs.Blocks.{time_in_cell, value_in}
use Rattle.block_scan.specs.Reads.{is_wanted}
use Rattle.block_scan.specs.Scanning.{is_of_agg, is_of_cond}
use Rattle.block_scan.specs.Timed.{StandForTimes}
use Rattle.block_scan.proofs.Lists.{both_ok}
use Rattle.block_scan.proofs.Timed.{alike_stand, own_stand}
use Rattle.block_scan.proofs.times.times_seen.Goals as goal

pub returns-then-not-asks_for : goal.returns-then-not-asks_for
returns-then-not-asks_for c =
    let q = c.args.query.now in let times = c.args.times.now.column.now in
    let h = to_z-of_z w64 c.args.horizon c.ranges.horizon in let low = to_z-of_z w64 c.args.from c.ranges.from in let high = to_z-of_z w64 c.args.to c.ranges.to in
    let wanted : (is_wanted q c.args.horizon c.args.from && is_wanted q c.args.horizon c.args.to) ≡ true
    = sym (λ i. is_wanted q (h i) (low i) && is_wanted q (h i) (high i)) ∙ sym c.wants_both.ensures ∙ c.if-wants_both.true in
    let none = sym (ap (λ (name : List ℕ). list_any (is_of_cond name) q.conds || (list_any (bytes_eq name) q.keys || list_any (is_of_agg name) q.aggs)) c.requires.timed.name)
    ∙ sym c.asks_for.ensures ∙ c.if-not-asks_for.true in
    both_ok (λ (found : Vec ℤ Global). length found.items ≡ c.args.rows) (λ (found : Vec ℤ Global). (i : ℕ) → i < c.args.rows → slice_index_or found.items i (pos 0) ≡ to_z w64 (of_z w64 c.args.from))
    (λ (found : Vec ℤ Global). StandForTimes q c.args.rows times c.args.skip c.args.horizon found.items) c.times_alike.result c.times_alike.ensures.length c.times_alike.ensures.each
    (λ found count each. alike_stand q c.args.rows times c.args.skip c.args.horizon c.args.from c.args.to found.items c.requires.skip c.requires.between wanted none count (λ i lt. each i lt ∙ low))

pub returns : goal.returns
returns c =
    let q = c.args.query.now in let times = c.args.times.now.column.now in
    both_ok (λ (found : Vec ℤ Global). length found.items ≡ c.args.rows) (λ (found : Vec ℤ Global). (i : ℕ) → i < c.args.rows → slice_index_or found.items i (pos 0) ≡ time_in_cell (value_in times.bytes i))
    (λ (found : Vec ℤ Global). StandForTimes q c.args.rows times c.args.skip c.args.horizon found.items) c.times_in.result c.times_in.ensures.length c.times_in.ensures.each
    (λ found count each. own_stand q c.args.rows times c.args.skip c.args.horizon found.items c.requires.skip count each)
