use Rattle.std.proofs.Common.{rules, ◌≡◌, false, length, ap, sym, ◌∙◌}
use Rattle.std.specs.Prelude.{IsErr, IsOk}
use Rattle.disk_backup.proofs.Results.{of_err, of_ok}
use Rattle.leaf_machine.specs.States.{Shutting}
use Rattle.leaf_machine.specs.PrepParts.{PreparingSettles}
use Rattle.leaf_machine.proofs.PrepJoins.{part_join}
use Rattle.leaf_machine.proofs.PrepTreats.{failed_behind, more_open, seal_part, sealed_behind, shut_ok}
use Rattle.leaf_machine.proofs.preparing.Preparing.treat_next.Goals as goal

pub returns-then-is_err-clause-next : goal.returns-then-is_err-clause-next
returns-then-is_err-clause-next g c =
    let bad : IsErr c.settle.result = search rules in
    of_err c.settle.result bad c.settle.ensures.halts

pub returns-then-is_err-2-clause-next : goal.returns-then-is_err-2-clause-next
returns-then-is_err-2-clause-next g c =
    let x : Shutting = c.args.self.now.0 in
    let mid : Shutting = c.settle.new.self.0 in
    let good : IsOk c.settle.result = search rules in
    let settles : PreparingSettles x mid c.settle.new.notes = of_ok c.settle.result good c.settle.ensures.settled in
    let none : c.self.inside.tables.waits ≡ false = sym c.waits.ensures ∙ c.if-waits.false in
    let open_ : x.waits ≡ false = sym settles.shut ∙ ap (λ v. v.0.waits) (sym c.self.view_is) ∙ none in
    let y : Shutting = c.shut_next.new.self.0 in
    let next = c.shut_next.ensures.next in
    let bad : IsErr c.shut_next.result = search rules in
    failed_behind x mid c.settle.new.notes settles c.shut_next.new.notes next.0 open_ next.1 y c.shut_next.result bad next.2

pub returns-then-is_err-2-clause-part : goal.returns-then-is_err-2-clause-part
returns-then-is_err-2-clause-part g c =
    part_join c.args.self.now.0.serving c.settle.new.self.0.serving c.shut_next.new.self.0.serving c.args.notes.now c.settle.new.notes c.shut_next.new.notes
    (g.B.Berth.meaning c.args.self.now.1) (g.B.Berth.meaning c.settle.new.self.1) (g.B.Berth.meaning c.shut_next.new.self.1) c.settle.ensures.part c.shut_next.ensures.part

pub returns-clause-next : goal.returns-clause-next
returns-clause-next g c =
    let x : Shutting = c.args.self.now.0 in
    let mid : Shutting = c.settle.new.self.0 in
    let good : IsOk c.settle.result = search rules in
    let settles : PreparingSettles x mid c.settle.new.notes = of_ok c.settle.result good c.settle.ensures.settled in
    let none : c.self.inside.tables.waits ≡ false = sym c.waits.ensures ∙ c.if-waits.false in
    let open_ : x.waits ≡ false = sym settles.shut ∙ ap (λ v. v.0.waits) (sym c.self.view_is) ∙ none in
    let y : Shutting = c.shut_next.new.self.0 in
    let next = c.shut_next.ensures.next in
    let ok : IsOk c.shut_next.result = search rules in
    let shuts = shut_ok mid y next.0 c.shut_next.result ok next.2 in
    let seal = c.seal_last-2.ensures in
    sealed_behind x mid c.settle.new.notes settles c.shut_next.new.notes next.0 open_ next.1 c.shut_next.new.self c.seal_last-2.new.self shuts (more_open x (length x.serving.seated.tables) open_ c.requires.more)
    c.seal_last-2.result seal.done seal.failed seal.fault

pub returns-clause-part : goal.returns-clause-part
returns-clause-part g c =
    let seal = c.seal_last-2.ensures in
    let m = g.B.Berth.meaning c.args.self.now.1 in
    let both =
    part_join c.args.self.now.0.serving c.settle.new.self.0.serving c.shut_next.new.self.0.serving c.args.notes.now c.settle.new.notes c.shut_next.new.notes
    m (g.B.Berth.meaning c.settle.new.self.1) (g.B.Berth.meaning c.shut_next.new.self.1) c.settle.ensures.part c.shut_next.ensures.part in
    seal_part c.shut_next.new.self c.seal_last-2.new.self g.B.Berth.meaning c.args.self.now.0.serving c.args.notes.now c.shut_next.new.notes m c.seal_last-2.result seal.done seal.failed both
