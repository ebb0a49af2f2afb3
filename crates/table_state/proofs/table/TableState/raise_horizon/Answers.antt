use Rattle.std.proofs.Common.{◌≡◌, ◌≤◌, ◌+◌, ◌++◌, ℤ, List, length, to_z, of_z, sym, ap, ap₂, subst, ◌∙◌, arith, rules}
use Rattle.std.specs.Int.{int_max, w64}
use Rattle.std.proofs.lemmas.Int.{to_z-of_z}
use Rattle.row_model.specs.declared.rows.Row.{Row}
use Rattle.leaf_model.specs.declared.writes.Write.TheVariants.{Expire}
use Rattle.leaf_model.specs.Content.{Contents, rows_from}
use Rattle.row_model.specs.Values.{IsTime}
use Rattle.row_blocks.specs.Blocks.{Block}
use Rattle.row_blocks.specs.Held.{columns_count, rows_and_cells}
use Rattle.table_state.specs.Stored.{AreAhead, sealed_rows}
use Rattle.table_state.specs.Tables.{Table, columns_most, most_rows, no_store, replayed}
use Rattle.table_state.proofs.Counting.{expired_columns}
use Rattle.table_state.proofs.Stood.{held_count, raised_contents, raised_few, raised_length, raised_stands}
use Rattle.table_state.proofs.table.TableState.raise_horizon.Goals as goal

pub recount-live-requires-clause-few : goal.recount-live-requires-clause-few
recount-live-requires-clause-few c =
    let t = c.self.inside in let left = c.leave_live-self-inside.new.blocks in let cut = c.leave_live-self-inside.result in
    let now = to_z w64 (of_z w64 c.max-self-inside.result) in
    let at : to_z w64 (of_z w64 t.horizon) ≡ t.horizon = search rules in
    let fits : now ≡ c.max-self-inside.result = search rules in
    let later = fits ∙ c.max-self-inside.ensures.value ∙ ap₂ int_max at (to_z-of_z w64 c.args.horizon c.ranges.horizon) in
    let same : to_z w64 (of_z w64 now) ≡ now = ap (λ (z : ℤ). to_z w64 (of_z w64 z)) fits in
    let rows = subst (λ (z : ℤ). sealed_rows left cut z ≡ sealed_rows t.blocks t.skip z) same c.leave_live-self-inside.ensures.rows in
    let law = c.masks_and_cuts.ensures.horizons in
    subst (λ (l : List Block). length (sealed_rows l cut (to_z w64 (of_z w64 now))) ≤ most_rows) (sym c.as_slice.ensures)
    (subst (λ (z : ℤ). length (sealed_rows left cut z) ≤ most_rows) (sym same) (raised_few t.blocks t.skip t.tail t.horizon c.args.horizon now later t.live c.self.invariant.0 law left cut rows))

pub recount-live-requires-clause-same : goal.recount-live-requires-clause-same
recount-live-requires-clause-same c e =
    let t = c.self.inside in let left = c.leave_live-self-inside.new.blocks in let cut = c.leave_live-self-inside.result in
    let now = to_z w64 (of_z w64 (to_z w64 (of_z w64 c.max-self-inside.result))) in
    let at : to_z w64 (of_z w64 t.horizon) ≡ t.horizon = search rules in
    let old : now ≡ t.horizon = sym e ∙ at in
    let counted = c.self.invariant.0.counted ∙ ap (λ (z : ℤ). length (sealed_rows t.blocks t.skip z)) (sym old) ∙ ap (λ (l : List Row). length l) (sym c.leave_live-self-inside.ensures.rows) in
    let ahead = c.leave_live-self-inside.ensures.ahead t.ahead (subst (λ (z : ℤ). AreAhead t.ahead t.blocks t.skip z) (sym old) c.self.invariant.1) in
    subst (λ (l : List Block). (t.live ≡ length (sealed_rows l cut now)) × AreAhead t.ahead l cut now) (sym c.as_slice.ensures) (counted, ahead)

pub invariant_of-self : goal.invariant_of-self
invariant_of-self c =
    let t = c.self.inside in let left = c.leave_live-self-inside.new.blocks in let cut = c.leave_live-self-inside.result in
    let now = to_z w64 (of_z w64 c.max-self-inside.result) in
    let at : to_z w64 (of_z w64 t.horizon) ≡ t.horizon = search rules in
    let fits : now ≡ c.max-self-inside.result = search rules in
    let later = fits ∙ c.max-self-inside.ensures.value ∙ ap₂ int_max at (to_z-of_z w64 c.args.horizon c.ranges.horizon) in
    let same : to_z w64 (of_z w64 now) ≡ now = ap (λ (z : ℤ). to_z w64 (of_z w64 z)) fits in
    let rows = subst (λ (z : ℤ). sealed_rows left cut z ≡ sealed_rows t.blocks t.skip z) same c.leave_live-self-inside.ensures.rows in
    let law = c.masks_and_cuts.ensures.horizons in
    let rest = subst (λ (z : ℤ). c.retain_from.new.self ≡ rows_from z t.tail) same c.retain_from.ensures in
    let time : IsTime now = search rules in
    let count = c.recount-live.ensures.all ∙ ap₂ (λ (l : List Block) (z : ℤ). length (sealed_rows l cut z)) c.as_slice.ensures same in (
      raised_stands t.blocks t.skip t.tail t.horizon c.args.horizon now later t.live c.self.invariant.0 law left cut rows c.retain_from.new.self c.recount-live.result.all rest time
          c.leave_live-self-inside.ensures.cut c.leave_live-self-inside.ensures.sealed count,
      subst (λ (z : ℤ). AreAhead c.recount-live.result.ahead left cut z) same
          (subst (λ (l : List Block). AreAhead c.recount-live.result.ahead l cut (to_z w64 (of_z w64 now))) c.as_slice.ensures c.recount-live.ensures.ahead),
    )

pub returns-clause-written : goal.returns-clause-written
returns-clause-written c =
    let t = c.self.inside in let left = c.leave_live-self-inside.new.blocks in let cut = c.leave_live-self-inside.result in
    let now = to_z w64 (of_z w64 c.max-self-inside.result) in
    let at : to_z w64 (of_z w64 t.horizon) ≡ t.horizon = search rules in
    let fits : now ≡ c.max-self-inside.result = search rules in
    let later = fits ∙ c.max-self-inside.ensures.value ∙ ap₂ int_max at (to_z-of_z w64 c.args.horizon c.ranges.horizon) in
    let same : to_z w64 (of_z w64 now) ≡ now = ap (λ (z : ℤ). to_z w64 (of_z w64 z)) fits in
    let rows = subst (λ (z : ℤ). sealed_rows left cut z ≡ sealed_rows t.blocks t.skip z) same c.leave_live-self-inside.ensures.rows in
    let law = c.masks_and_cuts.ensures.horizons in
    let rest = subst (λ (z : ℤ). c.retain_from.new.self ≡ rows_from z t.tail) same c.retain_from.ensures in
    let made : Contents → Table = λ k. record { contents = k; writes = t.writes + 1; pending = t.pending; store = no_store } in
    ap made (raised_contents t.blocks t.skip t.tail t.horizon c.args.horizon now later t.live c.self.invariant.0 law left cut rows c.retain_from.new.self rest)
    ∙ ap (λ (x : Table). replayed x (Expire c.args.horizon)) c.self.view_is

pub returns-clause-fewer : goal.returns-clause-fewer
returns-clause-fewer c =
    let t = c.self.inside in let left = c.leave_live-self-inside.new.blocks in let cut = c.leave_live-self-inside.result in
    let now = to_z w64 (of_z w64 c.max-self-inside.result) in
    let at : to_z w64 (of_z w64 t.horizon) ≡ t.horizon = search rules in
    let fits : now ≡ c.max-self-inside.result = search rules in
    let later = fits ∙ c.max-self-inside.ensures.value ∙ ap₂ int_max at (to_z-of_z w64 c.args.horizon c.ranges.horizon) in
    let same : to_z w64 (of_z w64 now) ≡ now = ap (λ (z : ℤ). to_z w64 (of_z w64 z)) fits in
    let rows = subst (λ (z : ℤ). sealed_rows left cut z ≡ sealed_rows t.blocks t.skip z) same c.leave_live-self-inside.ensures.rows in
    let law = c.masks_and_cuts.ensures.horizons in
    let rest = subst (λ (z : ℤ). c.retain_from.new.self ≡ rows_from z t.tail) same c.retain_from.ensures in
    let P : Table → Type 0 = λ x. length (sealed_rows left cut now ++ c.retain_from.new.self) ≤ length x.contents.rows in
    subst P c.self.view_is (omega (
      arith,
      raised_length t.blocks t.skip t.tail t.horizon c.args.horizon now later t.live c.self.invariant.0 law left cut rows c.retain_from.new.self rest,
      held_count t.blocks t.skip t.tail t.horizon t.live c.self.invariant.0,
    ))

pub returns-clause-few : goal.returns-clause-few
returns-clause-few c =
    let t = c.self.inside in let left = c.leave_live-self-inside.new.blocks in let cut = c.leave_live-self-inside.result in
    let now = to_z w64 (of_z w64 c.max-self-inside.result) in
    let at : to_z w64 (of_z w64 t.horizon) ≡ t.horizon = search rules in
    let fits : now ≡ c.max-self-inside.result = search rules in
    let later = fits ∙ c.max-self-inside.ensures.value ∙ ap₂ int_max at (to_z-of_z w64 c.args.horizon c.ranges.horizon) in
    let same : to_z w64 (of_z w64 now) ≡ now = ap (λ (z : ℤ). to_z w64 (of_z w64 z)) fits in
    let rows = subst (λ (z : ℤ). sealed_rows left cut z ≡ sealed_rows t.blocks t.skip z) same c.leave_live-self-inside.ensures.rows in
    let law = c.masks_and_cuts.ensures.horizons in
    let rest = subst (λ (z : ℤ). c.retain_from.new.self ≡ rows_from z t.tail) same c.retain_from.ensures in
    omega (arith, raised_length t.blocks t.skip t.tail t.horizon c.args.horizon now later t.live c.self.invariant.0 law left cut rows c.retain_from.new.self rest, c.self.invariant.0.few)

pub returns-clause-columns : goal.returns-clause-columns
returns-clause-columns c =
    let t = c.self.inside in let left = c.leave_live-self-inside.new.blocks in let rest = c.retain_from.new.self in
    let now = to_z w64 (of_z w64 c.max-self-inside.result) in
    subst (λ (x : Table). columns_count left + rows_and_cells rest ≤ columns_most x.store) c.self.view_is
    (expired_columns t.blocks left t.tail rest c.leave_live-self-inside.ensures.columns (to_z w64 (of_z w64 now)) c.retain_from.ensures)
