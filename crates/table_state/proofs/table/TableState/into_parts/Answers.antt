use Rattle.std.proofs.Common.{◌≡◌, ℤ, to_z, of_z, sym, ap, subst, ◌∙◌, rules}
use Rattle.std.specs.Int.{w64}
use Rattle.table_state.specs.Tables.{IsParts, IsPartsOf, Table}
use Rattle.table_state.proofs.Stood.{are_parts, parts_of}
use Rattle.table_state.proofs.table.TableState.into_parts.Goals as goal

pub returns-clause-of : goal.returns-clause-of
returns-clause-of c =
    let t = c.self.inside in
    let same : to_z w64 (of_z w64 t.horizon) ≡ t.horizon = search rules in
    let none = ap (λ (x : Table). x.store.tail) c.self.view_is ∙ c.requires.tail in
    subst (λ (h : ℤ). IsPartsOf (record { horizon = h; writes = t.writes; skip = t.skip; blocks = t.blocks }) c.args.self) (sym same)
    (subst (IsPartsOf (record { horizon = t.horizon; writes = t.writes; skip = t.skip; blocks = t.blocks })) c.self.view_is
    (parts_of t.blocks t.skip t.tail t.horizon t.live c.self.invariant.0 t.writes t.pending none))

pub returns-clause-parts : goal.returns-clause-parts
returns-clause-parts c =
    let t = c.self.inside in
    let same : to_z w64 (of_z w64 t.horizon) ≡ t.horizon = search rules in
    let none = ap (λ (x : Table). x.store.tail) c.self.view_is ∙ c.requires.tail in
    subst (λ (h : ℤ). IsParts (record { horizon = h; writes = t.writes; skip = t.skip; blocks = t.blocks })) (sym same)
    (are_parts t.blocks t.skip t.tail t.horizon t.live c.self.invariant.0 t.writes none)
