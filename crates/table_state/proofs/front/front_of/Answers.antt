use Rattle.std.proofs.Common.{◌≡◌, ◌+◌, ◌-◌, to_z, of_z, ℤ, length, drop, refl, ap, sym, subst, ◌∙◌, arith}
use Rattle.std.specs.Int.{w64}
use Rattle.std.proofs.lemmas.Int.{to_z-of_z}
use Rattle.row_blocks.specs.Blocks.{Block}
use Rattle.row_blocks.specs.Held.{live_rows}
use Rattle.row_blocks.proofs.LivePlaces.{any_default}
use Rattle.table_state.specs.Stored.{AreAhead, sealed_rows}
use Rattle.table_state.proofs.Ahead.{left_ahead}
use Rattle.table_state.proofs.Fronts.{ahead_here, ends_behind, ends_here, ends_last, uncut}
use Rattle.table_state.proofs.front.front_of.Goals as goal

pub returns-then-left-from-clause-rows : goal.returns-then-left-from-clause-rows
returns-then-left-from-clause-rows c =
    let h = to_z w64 (of_z w64 c.args.horizon) in let blocks = c.args.blocks.now in let i = c.loop-i.i in
    let same = to_z-of_z w64 c.args.horizon c.ranges.horizon in
    let block : c.index-blocks-i.result ≡ c.index-blocks-i-then-left-from.result
    = c.index-blocks-i.is ∙ any_default blocks i c.index-blocks-i.result c.index-blocks-i-then-left-from.result c.loop-i-test.true ∙ sym c.index-blocks-i-then-left-from.is in
    let count = c.count_live-live.ensures ∙ ap (λ (b : Block). length (live_rows c.loop-i.cut h b)) block in
    ap (λ (t : ℤ). sealed_rows (drop i blocks) c.place_behind-skip.result t) (sym same)
    ∙ ends_here blocks i c.index-blocks-i-then-left-from.result c.loop-i.cut h c.loop-i-test.true c.index-blocks-i-then-left-from.is c.loop-i.invariant.inside
    c.loop-i.left c.place_behind-skip.result (drop c.args.gone (sealed_rows blocks c.args.skip h)) (omega (arith, c.if-left-from.true, c.from.ensures, count)) c.place_behind-skip.ensures.place c.place_behind-skip.ensures.left c.loop-i.invariant.same
    ∙ ap (λ (t : ℤ). drop c.args.gone (sealed_rows blocks c.args.skip t)) same

pub returns-then-left-from-clause-ahead : goal.returns-then-left-from-clause-ahead
returns-then-left-from-clause-ahead c =
    let h = to_z w64 (of_z w64 c.args.horizon) in let blocks = c.args.blocks.now in let i = c.loop-i.i in
    let b = c.index-blocks-i-then-left-from.result in let place = c.place_behind-skip.result in let live = c.count_live-live.result in
    let block : c.index-blocks-i.result ≡ b
    = c.index-blocks-i.is ∙ any_default blocks i c.index-blocks-i.result b c.loop-i-test.true ∙ sym c.index-blocks-i-then-left-from.is in
    let count = c.count_live-live.ensures ∙ ap (λ (x : Block). length (live_rows c.loop-i.cut h x)) block in
    let few = left_ahead (live_rows place h b) (live_rows c.loop-i.cut h b) c.loop-i.left live (live - c.loop-i.left) c.place_behind-skip.ensures.left (omega (arith, count)) refl in
    subst (λ (t : ℤ). AreAhead (live - c.loop-i.left) (drop i blocks) place t) (to_z-of_z w64 c.args.horizon c.ranges.horizon)
    (ahead_here blocks i b c.loop-i.cut h c.loop-i-test.true c.index-blocks-i-then-left-from.is c.loop-i.invariant.inside place (live - c.loop-i.left) few)

pub loop-i-preserved : goal.loop-i-preserved
loop-i-preserved c =
    let h = to_z w64 (of_z w64 c.args.horizon) in let blocks = c.args.blocks.now in let i = c.loop-i.i in
    let behind = ends_behind blocks i c.index-blocks-i.result c.loop-i.cut h c.loop-i-test.true c.index-blocks-i.is c.loop-i.invariant.inside
    c.loop-i.left c.from-left.result (c.loop-i.left - c.from-left.result) (drop c.args.gone (sealed_rows blocks c.args.skip h)) (c.from-left.ensures ∙ c.count_live-live.ensures)
    (omega (arith, c.if-left-from.false, c.from.ensures, c.from-left.ensures)) (omega arith) c.loop-i.invariant.few c.loop-i.invariant.same in
    record { inside = uncut (drop (i + 1) blocks); few = behind.0; same = behind.1 }

pub returns-clause-rows : goal.returns-clause-rows
returns-clause-rows c =
    let h = to_z w64 (of_z w64 c.args.horizon) in let blocks = c.args.blocks.now in
    let same = to_z-of_z w64 c.args.horizon c.ranges.horizon in
    ap (λ (t : ℤ). sealed_rows (drop (length blocks) blocks) 0 t) (sym same)
    ∙ ends_last blocks c.loop-i.i c.loop-i.cut h c.loop-i.left (drop c.args.gone (sealed_rows blocks c.args.skip h)) c.loop-i-test.false c.loop-i.invariant.same
    ∙ ap (λ (t : ℤ). drop c.args.gone (sealed_rows blocks c.args.skip t)) same
