use Rattle.std.proofs.Common.{◌∷◌, [], refl, sym, subst}
use Rattle.atomic_table.specs.Table.{opening}
use Rattle.turnstile.specs.Rule.{Turned}
use Rattle.turnstile.specs.Views.{first_view}
use Rattle.turnstile.proofs.Moving.{starts}
use Rattle.turnstile.proofs.steps.lay.Goals as goal

pub new-requires : goal.new-requires
new-requires g c = subst (λ xs. Turned g.O.Object.legal g.O.Object.stands c.args.start.base (opening (0 ∷ 0 ∷ 0 ∷ []) xs (first_view c.args.start))) (sym c.in_ok-slots.ensures)
    (starts g.O.Object.legal g.O.Object.stands c.args.start.base c.args.value c.args.start refl c.requires.share c.requires.value.0 c.requires.value.1)
