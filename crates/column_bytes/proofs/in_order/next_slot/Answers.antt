use Rattle.std.proofs.Common.{rules, ◌≡◌, ◌-◌, ◌*◌, ◌/◌, ◌<◌, length, slice_index, w64, FitsSigned, sym, ap, ◌∙◌, arith}
use Rattle.std.specs.Int.{div_ceil}
use Rattle.std.proofs.lemmas.Int.{to_z-of_z}
use Rattle.delta_codes.specs.Slots.{after}
use Rattle.delta_codes.proofs.Slots.{slot_anchored, slot_between}
use Rattle.dictionaries.specs.Fields.{i64_at}
use Rattle.column_bytes.specs.Cells.{anchors_at}
use Rattle.column_bytes.proofs.Parts.{anchors_at_place}
use Rattle.column_bytes.proofs.in_order.next_slot.Goals as goal

pub returns-then-i-eq0 : goal.returns-then-i-eq0
returns-then-i-eq0 c =
    let codes = c.args.codes.now in let extra = c.args.extra.now in let n = length codes in let i = c.args.i in
    let inside = c.requires.within in let multiple = c.if-i-eq0.true in
    let within : i / 64 < div_ceil n 64 = omega arith in
    let place : i / 8 ≡ 8 * (i / 64) = omega arith in
    let fits : FitsSigned w64 c.i64_at.result = search rules in
    to_z-of_z w64 _ fits ∙ c.i64_at.ensures ∙ ap (i64_at extra) place
    ∙ sym (anchors_at_place n extra (i / 64) within) ∙ sym (slot_anchored (anchors_at n extra) codes i multiple)

pub returns-else-i-eq0 : goal.returns-else-i-eq0
returns-else-i-eq0 c =
    let codes = c.args.codes.now in let extra = c.args.extra.now in let n = length codes in let i = c.args.i in
    let between = c.if-i-eq0.false in
    let some : 0 < i = omega arith in
    let fits : FitsSigned w64 c.undo.result = search rules in
    to_z-of_z w64 _ fits ∙ c.undo.ensures
    ∙ ap (λ b. after b (slice_index codes i)) (to_z-of_z w64 c.args.before c.ranges.before ∙ c.requires.before some)
    ∙ sym (slot_between (anchors_at n extra) codes (i - 1) i (omega arith) between)
