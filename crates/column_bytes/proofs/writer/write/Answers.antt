use Rattle.std.proofs.Math.Nat.{mul-le-mul_left}
use Rattle.std.proofs.Common.{List, Bool, Option, ◌^◌, ◌≡◌, ℕ, ◌*◌, ◌≤◌, if◌then◌else◌, length, is_some, refl, sym, ap, ap₂, subst, ◌∙◌, arith}
use Rattle.std.proofs.lemmas.List.{length-map}
use Rattle.bit_columns.specs.Bits.{IsBits, codes}
use Rattle.column_bytes.specs.Coding.{column_bytes, front_bytes}
use Rattle.column_bytes.proofs.Spelled.{ReadsColumn, column_reads}
use Rattle.column_bytes.proofs.Laid.{laid, marker_small, marker_says, presence_few, kind_named}
use Rattle.column_bytes.proofs.writer.write.Goals as goal

packed_few : (n width : ℕ) (packed : List ℕ) → IsBits packed (n * width) → n ≤ 65536 → width ≤ 64 → length packed ≤ 2 ^ 40
packed_few n width packed is few narrow = let most : n * width ≤ n * 64 = mul-le-mul_left n narrow in omega (arith, is.whole, most)

reads : (c : goal.After-drop-presence-2)
    → ReadsColumn c.in_ok-bytes.bytes.items (front_bytes c.args.form c.width_of-width.result (if c.in_ok-presence.presence.all_there then 0 else 1))
    (length c.args.present.now) c.in_ok-presence.presence.bytes.items c.in_ok-packed.packed.items c.args.extra.now
reads c =
    let form = c.args.form in let list = c.args.codes.now in let extra = c.args.extra.now in
    let width = c.width_of-width.result in let marker : ℕ = if c.in_ok-presence.presence.all_there then 0 else 1 in
    let presence = c.in_ok-presence.presence.bytes.items in let packed = c.in_ok-packed.packed.items in
    let front : List ℕ = front_bytes form width marker in
    let n = length c.args.present.now in
    let few = c.requires.few in
    let count : length list ≡ n = c.requires.same in
    let bits : IsBits packed (n * width) = subst (λ m. IsBits packed (m * width)) count c.in_ok-packed.ensures.whole in
    let are : c.in_ok-bytes.bytes.items ≡ column_bytes front n presence packed extra
    = c.in_ok-bytes.ensures
    ∙ ap (λ f. column_bytes f (length list) c.deref.result.now c.deref-2.result.now extra) c.front_of-front.ensures
    ∙ ap₂ (λ p q. column_bytes front (length list) p q extra) c.deref.ensures.value c.deref-2.ensures.value
    ∙ ap (λ m. column_bytes front m presence packed extra) count in
    subst (λ bytes. ReadsColumn bytes front n presence packed extra) (sym are)
    (column_reads front n presence packed extra refl (omega arith)
    (presence_few c.in_ok-presence.presence.all_there presence n c.in_ok-presence.ensures.part few)
    (packed_few n width packed bits few c.width_of-width.ensures.few)
    c.requires.small)

pub returns-clause-cells : goal.returns-clause-cells
returns-clause-cells c = λ cells marked coding.
    let list = c.args.codes.now in
    let width = c.width_of-width.result in let marker : ℕ = if c.in_ok-presence.presence.all_there then 0 else 1 in
    let made = c.in_ok-presence.presence in let packed = c.in_ok-packed.packed.items in
    let n = length c.args.present.now in
    let count : length list ≡ n = c.requires.same in
    laid c.args.form cells list c.args.extra.now made.bytes.items packed c.in_ok-bytes.bytes.items n width marker made.all_there
    (reads c) (sym (length-map cells is_some) ∙ ap (λ (l : List Bool). length l) marked) c.requires.some c.requires.few c.width_of-width.ensures.few
    (marker_small made.all_there) (marker_says made.all_there)
    c.in_ok-presence.ensures.part
    (c.in_ok-presence.ensures.there ∙ sym marked)
    (subst (λ m. IsBits packed (m * width)) count c.in_ok-packed.ensures.whole)
    (ap (codes packed width) (sym count) ∙ c.in_ok-packed.ensures.codes)
    c.requires.extra coding

pub returns-clause-kind : goal.returns-clause-kind
returns-clause-kind c = kind_named c.args.form (length c.args.present.now) c.args.extra.now _ ((reads c).front_is 0 (omega arith))
