use Rattle.std.proofs.Common.{rules, ℕ, IfOk, List, length, sym, ap, ◌∙◌, subst, arith}
use Rattle.std.specs.List.{AllByRecursion}
use Rattle.row_model.specs.declared.rows.Row.{Row}
use Rattle.leaf_table.specs.declared.replies.Reply.{Reply}
use Rattle.aggregator.specs.Sorts.{Divides}
use Rattle.aggregator.specs.Partial.{rows_seen_before, bases_in}
use Rattle.aggregator.specs.Merges.{IsAnswer, AreOver}
use Rattle.aggregator.proofs.Halves.{all_may, asked_replies, told_back}
use Rattle.aggregator.proofs.Replies.{all_answers, all_over}
use Rattle.aggregator.proofs.fan.ask_all.Goals as goal

pub ask_by_copy-requires-after_bounds : goal.ask_by_copy-requires-after_bounds
ask_by_copy-requires-after_bounds g c κs within =
    all_may c.args.fleet.now c.args.table c.args.seats.now c.deref_mut.result.now c.requires.seats
    (omega (arith, ap (λ (xs : List Reply). length xs) c.deref_mut.ensures.value, c.in_ok-replies.ensures))

pub sort_all-requires-clause-answers : goal.sort_all-requires-clause-answers
sort_all-requires-clause-answers g c =
    let q = c.args.query.now in
    let fleet = c.args.fleet.now in
    let then = c.ask_by_copy.new in
    let room = c.in_ok-replies.replies in
    let same = told_back fleet c.args.table q c.args.seats.now then.replies then.seats room.items room.len c.ask_by_copy.ensures c.in_ok-replies.ensures (search rules) in
    subst (AllByRecursion IsAnswer) (sym same) (all_answers q fleet c.args.table 0 c.args.seats.now then.replies then.seats c.ask_by_copy.ensures)

pub returns-clause-divides : goal.returns-clause-divides
returns-clause-divides g c =
    let q = c.args.query.now in
    let fleet = c.args.fleet.now in
    let then = c.ask_by_copy.new in
    let room = c.in_ok-replies.replies in
    let same = told_back fleet c.args.table q c.args.seats.now then.replies then.seats room.items room.len c.ask_by_copy.ensures c.in_ok-replies.ensures (search rules) in
    let count = asked_replies fleet c.args.table q 0 c.args.seats.now then.replies then.seats c.ask_by_copy.ensures in
    subst (λ (n : ℕ). IfOk c.sort_all.result (Divides n)) (ap (λ (xs : List Reply). length xs) same ∙ (count ∙ c.requires.seats.count)) c.sort_all.ensures.divides

pub returns-clause-groups : goal.returns-clause-groups
returns-clause-groups g c = λ histories go.
    let q = c.args.query.now in
    let fleet = c.args.fleet.now in
    let then = c.ask_by_copy.new in
    let room = c.in_ok-replies.replies in
    let same = told_back fleet c.args.table q c.args.seats.now then.replies then.seats room.items room.len c.ask_by_copy.ensures c.in_ok-replies.ensures (search rules) in
    let rows : ℕ → ℕ → List Row = λ leaf number. rows_seen_before (bases_in fleet c.args.table leaf) (histories leaf) number in
    c.sort_all.ensures.over q rows (subst (AreOver q rows 0) (sym same) (all_over q fleet c.args.table histories c.args.seats.now then.replies then.seats go c.ask_by_copy.ensures))
