use Rattle.std.proofs.Common.{rules, ◌≡◌, ◌≢◌, ◌+◌, ◌-◌, ◌*◌, ◌/◌, ◌%◌, ◌<◌, sym, ap, ap₂, ◌∙◌, arith, w64, FitsSigned, to_z}
use Rattle.std.proofs.lemmas.Int.{to_z-of_z}
use Rattle.std.specs.Int.{div_ceil}
use Rattle.bit_columns.specs.Bits.{codes}
use Rattle.delta_codes.specs.Slots.{slot, after}
use Rattle.delta_codes.proofs.Slots.{slot_anchored, slot_between}
use Rattle.dictionaries.specs.Fields.{i64_at}
use Rattle.column_bytes.specs.Cells.{anchors_at}
use Rattle.column_bytes.proofs.Parts.{codes_at, anchors_at_place}
use Rattle.column_bytes.proofs.slots.slot_at.Goals as goal

pub loop-k-init : goal.loop-k-init
loop-k-init c =
    let packed = c.args.packed.now in let extra = c.args.extra.now in let n = packed.count in let i = c.args.i in
    let first = i - i % 64 in
    let inside = c.requires.inside in
    let within : first / 64 < div_ceil n 64 = omega arith in
    let multiple : first % 64 ≡ 0 = omega arith in
    let place : first / 8 ≡ 8 * (first / 64) = omega arith in
    let same : first ≡ first + 1 - 1 = omega arith in
    let fits : FitsSigned w64 c.i64_at-value.result = search rules in
    to_z-of_z w64 _ fits ∙ c.i64_at-value.ensures ∙ ap (i64_at extra) place
    ∙ sym (anchors_at_place n extra (first / 64) within)
    ∙ sym (slot_anchored (anchors_at n extra) (codes packed.bytes packed.width n) first multiple)
    ∙ ap (slot (anchors_at n extra) (codes packed.bytes packed.width n)) same

pub loop-k-preserved : goal.loop-k-preserved
loop-k-preserved c =
    let packed = c.args.packed.now in let extra = c.args.extra.now in let n = packed.count in let k = c.loop-k.k in
    let anchors = anchors_at n extra in let list = codes packed.bytes packed.width n in
    let test = c.loop-k-test.true in let auto = c.loop-k.auto.k in let inside = c.requires.inside in
    let between : k % 64 ≢ 0 = λ h. omega arith in
    let within : k < n = omega arith in
    let fits : FitsSigned w64 c.undo-value.result = search rules in
    let same : k ≡ k + 1 - 1 = omega arith in
    let before : to_z w64 c.loop-k.value-bits ≡ slot anchors list (k - 1) = c.loop-k.invariant in
    to_z-of_z w64 _ fits ∙ c.undo-value.ensures
    ∙ ap₂ after before (c.get.ensures.code ∙ sym (codes_at packed.bytes packed.width n k within))
    ∙ sym (slot_between anchors list (k - 1) k (omega arith) between)
    ∙ ap (slot anchors list) same
