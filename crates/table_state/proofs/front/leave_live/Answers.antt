use Rattle.std.proofs.Common.{◌≤◌, to_z, of_z, ℕ, List, ℤ, sym, ap, ap₂, subst, ◌∙◌}
use Rattle.std.specs.Prelude.{filter}
use Rattle.std.specs.Int.{w64}
use Rattle.std.specs.List.{AllByRecursion}
use Rattle.std.proofs.lemmas.Int.{to_z-of_z}
use Rattle.row_blocks.specs.Blocks.{Block, IsBlock}
use Rattle.row_blocks.specs.Held.{IsSkip, columns_count}
use Rattle.row_blocks.specs.Live.{has_live}
use Rattle.table_state.specs.Stored.{AreAhead, sealed_rows, skip_left}
use Rattle.table_state.proofs.Ahead.{live_ahead}
use Rattle.table_state.proofs.Counting.{columns_live}
use Rattle.table_state.proofs.Fronts.{live_blocks, live_cut, live_left}
use Rattle.table_state.proofs.front.leave_live.Goals as goal

pub returns-clause-cut : goal.returns-clause-cut
returns-clause-cut c =
    let h = to_z w64 (of_z w64 c.args.horizon) in let blocks = c.args.blocks.now in
    let cut = c.skip_left-left.ensures ∙ ap (λ (l : List Block). skip_left c.args.skip h l) c.as_slice.ensures in
    subst (λ (l : List Block). IsSkip c.skip_left-left.result l) (sym (c.note_horizon.ensures ∙ c.retain_live.ensures))
    (subst (λ (n : ℕ). IsSkip n (filter (has_live h) blocks)) (sym cut) (live_cut c.args.skip h blocks c.requires.sealed c.requires.cut))

pub returns-clause-sealed : goal.returns-clause-sealed
returns-clause-sealed c =
    let h = to_z w64 (of_z w64 c.args.horizon) in
    subst (AllByRecursion IsBlock) (sym (c.note_horizon.ensures ∙ c.retain_live.ensures)) (live_blocks h c.args.blocks.now c.requires.sealed)

pub returns-clause-rows : goal.returns-clause-rows
returns-clause-rows c =
    let h = to_z w64 (of_z w64 c.args.horizon) in let blocks = c.args.blocks.now in
    let cut = c.skip_left-left.ensures ∙ ap (λ (l : List Block). skip_left c.args.skip h l) c.as_slice.ensures in
    let same = to_z-of_z w64 c.args.horizon c.ranges.horizon in
    ap (λ (t : ℤ). sealed_rows c.note_horizon.new.self c.skip_left-left.result t) (sym same)
    ∙ ap₂ (λ (l : List Block) (n : ℕ). sealed_rows l n h) (c.note_horizon.ensures ∙ c.retain_live.ensures) cut
    ∙ live_left c.args.skip h blocks c.requires.cut
    ∙ ap (λ (t : ℤ). sealed_rows blocks c.args.skip t) same

pub returns-clause-ahead : goal.returns-clause-ahead
returns-clause-ahead c n is =
    let h = to_z w64 (of_z w64 c.args.horizon) in let blocks = c.args.blocks.now in
    let cut = c.skip_left-left.ensures ∙ ap (λ (l : List Block). skip_left c.args.skip h l) c.as_slice.ensures in
    let same = to_z-of_z w64 c.args.horizon c.ranges.horizon in
    subst (λ (t : ℤ). AreAhead n c.note_horizon.new.self c.skip_left-left.result t) same
    (subst (λ (l : List Block). AreAhead n l c.skip_left-left.result h) (sym (c.note_horizon.ensures ∙ c.retain_live.ensures))
    (subst (λ (m : ℕ). AreAhead n (filter (has_live h) blocks) m h) (sym cut)
    (live_ahead n c.args.skip h blocks (subst (λ (t : ℤ). AreAhead n blocks c.args.skip t) (sym same) is))))

pub returns-clause-columns : goal.returns-clause-columns
returns-clause-columns c =
    let h = to_z w64 (of_z w64 c.args.horizon) in
    subst (λ (l : List Block). columns_count l ≤ columns_count c.args.blocks.now) (sym (c.note_horizon.ensures ∙ c.retain_live.ensures)) (columns_live h c.args.blocks.now)
