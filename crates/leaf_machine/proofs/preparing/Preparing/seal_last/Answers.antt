use Rattle.leaf_machine.proofs.PrepNames.{seal_is}
use Rattle.std.proofs.Common.{◌≡◌, true, None, sym, subst, ◌∙◌}
use Rattle.leaf_machine.proofs.preparing.Preparing.seal_last.Goals as goal

pub invariant_of-self : goal.invariant_of-self
invariant_of-self g c =
    let m = g.B.Berth.meaning c.self.inside.berth in
    let waits : c.self.inside.tables.waits ≡ true = subst (λ v. v.0.waits ≡ true) (sym c.self.view_is) c.requires.shut in
    let none : c.self.inside.log.log.owed ≡ None = subst (λ v. v.0.serving.owing.log.owed ≡ None) (sym c.self.view_is) c.requires.none in
    seal_is c.self.inside.seats c.self.inside.log m c.self.inside.tables c.seal.new.self c.self.invariant c.sits.ensures none waits c.seal.ensures.closed c.seal.ensures.columns _ c.index-names-place.result c.as_slice-names.result.now
    c.len-place.result c.index-names-place.is (c.as_slice-names.ensures ∙ c.names.ensures) c.len-place.ensures c.seal.result c.seal.ensures.done c.seal.ensures.failed
