use Rattle.std.proofs.Common.{sym, ap, subst, ◌∙◌}
use Rattle.std.specs.Prelude.{take}
use Rattle.leaf_machine.specs.States.{Serving, Shutting, treated}
use Rattle.leaf_machine.specs.PrepParts.{IsPartOfStep}
use Rattle.leaf_machine.proofs.PrepFew.{settled_few}
use Rattle.leaf_machine.proofs.PrepSettles.{settle_part, settle_stands, settled_is, settled_names}
use Rattle.leaf_machine.proofs.preparing.Preparing.settle.Goals as goal

pub invariant_of-self : goal.invariant_of-self
invariant_of-self g c =
    let x : Shutting = record { serving = record { seated = c.self.inside.seats; owing = c.self.inside.log }; closed = c.self.inside.tables.closed; waits = c.self.inside.tables.waits } in
    let m = g.B.Berth.meaning c.self.inside.berth in
    let m' = g.B.Berth.meaning c.settle_owed.new.berth in
    let says = c.settle_owed.ensures in
    let stands = settle_stands x.serving c.settle_owed.new.seats c.settle_owed.new.self m m' c.args.notes.now c.settle_owed.new.notes c.settle_owed.result says.settles says.runs says.time c.self.invariant.0.stands in
    let names = settled_names m'.clock x.serving.seated x.serving.owing c.args.notes.now c.settle_owed.result c.settle_owed.new.seats c.settle_owed.new.self c.settle_owed.new.notes says.settles in (
      settled_is x m m' c.self.invariant.0 c.sits.ensures m'.clock c.args.notes.now c.settle_owed.result c.settle_owed.new.seats c.settle_owed.new.self c.settle_owed.new.notes says.settles stands,
      c.self.invariant.1 ∙ ap (take (treated x)) (sym names),
      c.self.invariant.2,
      settled_few x m c.self.invariant.0 c.sits.ensures c.self.inside.tables.columns c.self.invariant.2 c.self.invariant.3 m'.clock c.args.notes.now c.settle_owed.result c.settle_owed.new.seats c.settle_owed.new.self
          c.settle_owed.new.notes says.settles,
    )

pub returns-clause-part : goal.returns-clause-part
returns-clause-part g c =
    let x : Serving = record { seated = c.self.inside.seats; owing = c.self.inside.log } in
    let y : Serving = record { seated = c.settle_owed.new.seats; owing = c.settle_owed.new.self } in
    let m' = g.B.Berth.meaning c.settle_owed.new.berth in
    let says = c.settle_owed.ensures in
    subst (λ v. IsPartOfStep v.0.serving y c.args.notes.now c.settle_owed.new.notes (g.B.Berth.meaning v.1) m') c.self.view_is
    (settle_part x y.seated y.owing (g.B.Berth.meaning c.self.inside.berth) m' c.args.notes.now c.settle_owed.new.notes c.settle_owed.result says.settles says.runs says.time says.region says.reads)
