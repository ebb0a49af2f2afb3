use Rattle.std.proofs.Common.{◌≤◌, subst, sym, ℕ}
use Rattle.leaf_model.proofs.LentLaws.{rows_count, front_rows, back_rows}
use Rattle.leaf_model.proofs.fronts.SpelledRows.split_at.Goals as goal

pub behind_rows-requires : goal.behind_rows-requires
behind_rows-requires c =
    let here = c.args.self.now in
    let few : c.args.count ≤ here.count = subst (λ (n : ℕ). c.args.count ≤ n) (sym (rows_count here.count here.bytes.now here.spelled)) c.requires in
    (front_rows c.args.count here.count here.bytes.now few here.spelled).0

pub overflow_sub-back : goal.overflow_sub-back
overflow_sub-back c = let here = c.args.self.now in subst (λ (n : ℕ). c.args.count ≤ n) (sym (rows_count here.count here.bytes.now here.spelled)) c.requires

pub invariant_of-front : goal.invariant_of-front
invariant_of-front c =
    let here = c.args.self.now in
    let few : c.args.count ≤ here.count = subst (λ (n : ℕ). c.args.count ≤ n) (sym (rows_count here.count here.bytes.now here.spelled)) c.requires in
    record { spelled = (front_rows c.args.count here.count here.bytes.now few here.spelled).0 }

pub invariant_of-back : goal.invariant_of-back
invariant_of-back c =
    let here = c.args.self.now in
    let few : c.args.count ≤ here.count = subst (λ (n : ℕ). c.args.count ≤ n) (sym (rows_count here.count here.bytes.now here.spelled)) c.requires in
    record { spelled = (back_rows c.args.count here.count here.bytes.now c.behind_rows.result.now few here.spelled c.behind_rows.ensures).some }

pub returns-clause-front : goal.returns-clause-front
returns-clause-front c =
    let here = c.args.self.now in
    let few : c.args.count ≤ here.count = subst (λ (n : ℕ). c.args.count ≤ n) (sym (rows_count here.count here.bytes.now here.spelled)) c.requires in
    (front_rows c.args.count here.count here.bytes.now few here.spelled).1

pub returns-clause-back : goal.returns-clause-back
returns-clause-back c =
    let here = c.args.self.now in
    let few : c.args.count ≤ here.count = subst (λ (n : ℕ). c.args.count ≤ n) (sym (rows_count here.count here.bytes.now here.spelled)) c.requires in
    (back_rows c.args.count here.count here.bytes.now c.behind_rows.result.now few here.spelled c.behind_rows.ensures).back
