use Rattle.std.proofs.Common.{rules, ap, sym, ◌∙◌, subst, ◌∷◌, Some}
use Rattle.atomic_table.specs.Table.{rest}
use Rattle.turnstile.proofs.Leaving.{leaves}
use Rattle.turnstile.proofs.steps.leave.Goals as goal

pub exchange-requires : goal.exchange-requires
exchange-requires g c = (search rules, (_, c.requires.turn.2 ∙ ap (λ cs. (0, Rattle.std.proofs.Common.None) ∷ rest cs) (sym c.requires.turn.2)))

pub fetch_add-requires : goal.fetch_add-requires
fetch_add-requires g c = let now = c.exchange.ensures.3 in let same = ap (λ m. m.0) now in (
  search rules,
  search rules,
  leaves g.O.Object.legal g.O.Object.stands c.args.turns.now.key.base _ _ c.args.ticket _ c.args.value (ap (λ v. v.stage) same ∙ c.requires.turn.0)
      (ap (λ m. m.1) now ∙ ap (λ cs. (0, Some c.args.value) ∷ rest cs) c.requires.turn.2) c.args.turns.now.key.base (ap (λ v. v.base) same ∙ c.requires.turn.1)
      (subst (λ h. g.O.Object.stands c.args.turns.now.key.base h c.args.value) (sym (ap (λ v. v.seen) same)) c.requires.value),
)
