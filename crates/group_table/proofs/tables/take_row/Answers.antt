use Rattle.std.proofs.Common.{◌≡◌, ◌∷◌, [], ◌+◌, ◌-◌, ◌^◌, true, length, sym, ap, ◌∙◌, arith}
use Rattle.leaf_model.specs.Groups.{groups}
use Rattle.group_table.specs.Joined.{joined}
use Rattle.group_table.specs.Kept.{is_kept, kept}
use Rattle.group_table.specs.Reads.{seen_row}
use Rattle.group_table.proofs.KeptLaws.{one_kept, none_kept}
use Rattle.group_table.proofs.Laws.{joined-nil}
use Rattle.group_table.proofs.Split.{split_grows}
use Rattle.group_table.proofs.Within.{groups_fit}
use Rattle.group_table.proofs.tables.take_row.Goals as goal

pub returns-then-not-is_kept-clause-value : goal.returns-then-not-is_kept-clause-value
returns-then-not-is_kept-clause-value c =
    let both = joined c.args.tables.settled.items c.args.tables.fresh.items in
    let none = none_kept c.args.horizon (seen_row c.args.row.now) (sym c.is_kept.ensures ∙ c.if-not-is_kept.true) in
    sym (ap (λ rows. joined both (groups c.args.query.now rows)) none ∙ joined-nil both)

pub returns-then-not-is_kept-clause-split : goal.returns-then-not-is_kept-clause-split
returns-then-not-is_kept-clause-split c = λ n split. split_grows n (n + length (kept c.args.horizon (seen_row c.args.row.now ∷ []))) _ _ _ (omega arith) split

pub make_room-requires : goal.make_room-requires
make_room-requires c =
    let counts : is_kept c.args.horizon (seen_row c.args.row.now) ≡ true = sym c.is_kept.ensures ∙ c.if-not-is_kept.false in
    groups_fit (2 ^ 64 - 2) _ (omega arith) (c.requires.split counts).within

pub add_row-requires-clause-split : goal.add_row-requires-clause-split
add_row-requires-clause-split c =
    let counts : is_kept c.args.horizon (seen_row c.args.row.now) ≡ true = sym c.is_kept.ensures ∙ c.if-not-is_kept.false in
    c.in_ok-tables.ensures.split _ _ (c.requires.split counts)

pub returns-clause-value : goal.returns-clause-value
returns-clause-value c =
    let counts : is_kept c.args.horizon (seen_row c.args.row.now) ≡ true = sym c.is_kept.ensures ∙ c.if-not-is_kept.false in
    rw (one_kept c.args.horizon (seen_row c.args.row.now) counts) (rw c.in_ok-tables.ensures.value at c.in_ok-add_row.ensures.value)

pub returns-clause-split : goal.returns-clause-split
returns-clause-split c = λ n split.
    let counts : is_kept c.args.horizon (seen_row c.args.row.now) ≡ true = sym c.is_kept.ensures ∙ c.if-not-is_kept.false in
    let one = one_kept c.args.horizon (seen_row c.args.row.now) counts in
    let more = c.in_ok-add_row.ensures.split n (c.in_ok-tables.ensures.split n c.args.query.now split) in
    split_grows (n + 1) (n + length (kept c.args.horizon (seen_row c.args.row.now ∷ []))) _ _ _ (omega (arith, ap length one)) more
