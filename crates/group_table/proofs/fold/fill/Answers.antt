use Rattle.std.proofs.Common.{rules, ◌≡◌, ◌-◌, ◌+◌, ◌<◌, ◌^◌, drop, take, length, sym, ap, ◌∙◌, [], ◌∷◌, arith}
use Rattle.std.proofs.lemmas.List.{length-append}
use Rattle.leaf_model.specs.Lent.{lent_row, lent_rows, rows_parted}
use Rattle.group_table.specs.Kept.{kept}
use Rattle.group_table.specs.Reads.{seen_row}
use Rattle.group_table.proofs.Ends.{rest_left, some_left}
use Rattle.group_table.proofs.KeptLaws.{begun_split, begun_value, groups_next, kept_few, kept_first, kept_next, one_kept}
use Rattle.group_table.proofs.Split.{split_grows}
use Rattle.group_table.proofs.Within.{groups_fit, groups_grow}
use Rattle.group_table.proofs.fold.fill.Goals as goal

pub loop-i-init : goal.loop-i-init
loop-i-init c = record {
  bound = omega arith;
  left = search rules;
  same = search rules;
  value = λ xs start. begun_value c.args.query.now c.args.horizon xs (lent_rows c.args.rows.now) _ _ c.args.start c.begun-tables.ensures.settled c.begun-tables.ensures.fresh start;
  split = λ m within. begun_split (m + 0) c.args.query.now _ _ c.args.start c.begun-tables.ensures.settled c.begun-tables.ensures.fresh c.requires.start.made (groups_grow m (m + 0) c.args.start (omega arith) within);
}

pub unwrap-requires : goal.unwrap-requires
unwrap-requires c = some_left (lent_rows c.args.rows.now) c.loop-i.i c.split_seen.result (c.split_seen.ensures.parted ∙ c.loop-i.invariant.left) (omega (arith, c.loop-i-test.true, c.len-most.ensures))

pub take_row-requires-clause-split : goal.take_row-requires-clause-split
take_row-requires-clause-split c = λ counts.
    let h = c.args.horizon in
    let rows = lent_rows c.args.rows.now in
    let i = c.loop-i.i in
    let row = lent_row c.unwrap.result.0 in
    let rest = lent_rows c.unwrap.result.1 in
    let parted = c.split_seen.ensures.parted ∙ c.loop-i.invariant.left in
    let here : drop i rows ≡ row ∷ rest = sym parted ∙ ap rows_parted c.unwrap.ensures in
    let same : seen_row c.of-row.result ≡ row = ap lent_row c.of-row.ensures.row in
    let one = ap length (one_kept h row (rw same at counts)) in
    let most = c.requires.start.most in
    let few = kept_few h rows i in
    let first = ap (λ xs. length (kept h xs)) here ∙ kept_first h row rest in
    split_grows (most + length (kept h (take i rows))) (2 ^ 64 - 2) _ _ _ (omega (arith, few, first, one, c.requires.start.few)) (c.loop-i.invariant.split most c.requires.start.within)

pub loop-i-preserved : goal.loop-i-preserved
loop-i-preserved c =
    let q = c.args.query.now in
    let h = c.args.horizon in
    let rows = lent_rows c.args.rows.now in
    let i = c.loop-i.i in
    let row = lent_row c.unwrap.result.0 in
    let rest = lent_rows c.unwrap.result.1 in
    let parted = c.split_seen.ensures.parted ∙ c.loop-i.invariant.left in
    let here : drop i rows ≡ row ∷ rest = sym parted ∙ ap rows_parted c.unwrap.ensures in
    let same : seen_row c.of-row.result ≡ row = ap lent_row c.of-row.ensures.row in
    let lt : i < length rows = omega (arith, c.loop-i-test.true, c.len-most.ensures) in
    let more = ap length (kept_next h rows i row rest lt here) ∙ length-append (kept h (take i rows)) (kept h (row ∷ [])) in
    let one = ap (λ r. length (kept h (r ∷ []))) same in
    record {
      bound = omega (arith, c.loop-i-test.true, c.len-most.ensures);
      left = rest_left rows i row rest here;
      same = search rules;
      value = λ xs start. groups_next q h xs rows i row rest _ _ lt here (c.loop-i.invariant.value xs start) (rw same at c.in_ok-tables.ensures.value);
      split = λ m within.
          let before = m + length (kept h (take i rows)) in
          split_grows (before + length (kept h (seen_row c.of-row.result ∷ []))) (m + length (kept h (take (i + 1) rows))) _ _ _ (omega (arith, more, one)) (c.in_ok-tables.ensures.split before (c.loop-i.invariant.split m within));
    }

pub join_both-requires : goal.join_both-requires
join_both-requires c =
    let rows = lent_rows c.args.rows.now in
    let most = c.requires.start.most in
    let few = kept_few c.args.horizon rows c.loop-i.i in
    groups_fit (most + length (kept c.args.horizon (take c.loop-i.i rows))) _ (omega (arith, few, c.requires.start.few)) (c.loop-i.invariant.split most c.requires.start.within).within

pub returns-clause-within : goal.returns-clause-within
returns-clause-within c = λ m within. rw c.in_ok-table.ensures (c.loop-i.invariant.split m within).within
