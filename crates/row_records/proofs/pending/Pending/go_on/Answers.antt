use Rattle.std.proofs.Common.{rules, ◌<◌, ◌^◌, ◌∙◌, length, sym, ap, subst, arith}
use Rattle.row_records.specs.Pending.{allows_sets, pending_bytes, pending_count}
use Rattle.leaf_model.specs.Bytes.{IsBytes}
use Rattle.row_records.proofs.Pended.{few, room, gone_on}
use Rattle.row_records.proofs.pending.Pending.go_on.Goals as goal

pub overflow_add-count : goal.overflow_add-count
overflow_add-count c =
    let bytes = c.self.inside.bytes.items in
    let small = few c.args.self.now bytes (c.self.inside.whole ∙ ap pending_bytes c.self.view_is) in
    let short : length bytes < 2 ^ 63 = search rules in
    omega (arith, small, short, c.self.inside.counted ∙ ap pending_count c.self.view_is)

pub add_write-requires-clause-room : goal.add_write-requires-clause-room
add_write-requires-clause-room c =
    let bytes = c.self.inside.bytes.items in
    let fits = room c.args.self.now bytes c.args.table.now c.requires.some c.requires.table (c.self.inside.whole ∙ ap pending_bytes c.self.view_is) in
    search (rules, fits)

pub invariant_of-self-inside-2 : goal.invariant_of-self-inside-2
invariant_of-self-inside-2 c =
    let bytes = c.self.inside.bytes.items in
    let all = gone_on c.args.self.now c.args.table.now bytes c.add_write.new.bytes.items c.self.inside.count c.args.write.now (subst IsBytes c.as_slice.ensures.value c.are_bytes.ensures) c.requires.some c.requires.table (sym (ap allows_sets c.self.view_is) ∙ c.self.inside.kind) c.requires.write (search rules)
    c.self.view_is (c.self.inside.whole ∙ ap pending_bytes c.self.view_is) (c.self.inside.counted ∙ ap pending_count c.self.view_is)
    (λ r is len more. c.in_ok-add_write.ensures.added r is (ap length c.as_str.ensures ∙ len) more) in
    (all.whole, (all.counted, (all.kind, tt)))

pub returns-clause-pushed : goal.returns-clause-pushed
returns-clause-pushed c =
    let bytes = c.self.inside.bytes.items in
    let all = gone_on c.args.self.now c.args.table.now bytes c.add_write.new.bytes.items c.self.inside.count c.args.write.now (subst IsBytes c.as_slice.ensures.value c.are_bytes.ensures) c.requires.some c.requires.table (sym (ap allows_sets c.self.view_is) ∙ c.self.inside.kind) c.requires.write (search rules)
    c.self.view_is (c.self.inside.whole ∙ ap pending_bytes c.self.view_is) (c.self.inside.counted ∙ ap pending_count c.self.view_is)
    (λ r is len more. c.in_ok-add_write.ensures.added r is (search rules) more) in
    all.of
