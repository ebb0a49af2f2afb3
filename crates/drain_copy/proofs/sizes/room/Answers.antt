use Rattle.std.proofs.Common.{◌+◌, ℕ, refl, sym, ap, ◌∙◌}
use Rattle.drain_copy.specs.declared.sizes.Sizes.{Sizes}
use Rattle.drain_copy.specs.Planned.{capped}
use Rattle.drain_copy.proofs.Large.{long_needs}
use Rattle.drain_copy.proofs.Reckoned.{has_room, lacks_room, too_long}
use Rattle.drain_copy.proofs.sizes.room.Goals as goal

pub returns-then-length-lt-TOO_LONG-clause-some : goal.returns-then-length-lt-TOO_LONG-clause-some
returns-then-length-lt-TOO_LONG-clause-some c =
    let none : Sizes = record { columns = 0; bytes = 0; entries = 9 } in
    has_room c.args.tables.now none c.with_tables-sizes.result c.saturating_add-length.result refl refl refl (sym c.any_is_wide.ensures ∙ c.if-any_is_wide.false) c.with_tables-sizes.ensures.grew
    (c.saturating_add-length.ensures ∙ ap (λ (n : ℕ). capped (n + 16)) c.saturating_add.ensures) c.if-length-lt-TOO_LONG.true

pub returns-else-length-lt-TOO_LONG-clause-none : goal.returns-else-length-lt-TOO_LONG-clause-none
returns-else-length-lt-TOO_LONG-clause-none c =
    let none : Sizes = record { columns = 0; bytes = 0; entries = 9 } in
    lacks_room c.args.tables.now none c.with_tables-sizes.result c.saturating_add-length.result refl refl c.with_tables-sizes.ensures.grew
    (c.saturating_add-length.ensures ∙ ap (λ (n : ℕ). capped (n + 16)) c.saturating_add.ensures) c.if-length-lt-TOO_LONG.false

pub returns-else-length-lt-TOO_LONG-clause-large : goal.returns-else-length-lt-TOO_LONG-clause-large
returns-else-length-lt-TOO_LONG-clause-large c =
    let tables = c.args.tables.now in
    let none : Sizes = record { columns = 0; bytes = 0; entries = 9 } in
    long_needs tables c.requires.few c.requires.names c.requires.parts c.with_tables-sizes.ensures.short
    (too_long tables none c.with_tables-sizes.result c.saturating_add-length.result refl refl c.with_tables-sizes.ensures.grew
    (c.saturating_add-length.ensures ∙ ap (λ (n : ℕ). capped (n + 16)) c.saturating_add.ensures) c.if-length-lt-TOO_LONG.false)
