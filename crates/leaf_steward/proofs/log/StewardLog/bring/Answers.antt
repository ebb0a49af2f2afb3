use Rattle.std.proofs.Common.{◌≡◌, ◌∙◌, Option, None, refl, sym, subst}
use Rattle.std.specs.Prelude.{IsSome}
use Rattle.row_records.specs.Records.{LogRecord}
use Rattle.disk_backup.specs.State.{LogState}
use Rattle.crash_serving.specs.Laws.{Owes}
use Rattle.crash_states.specs.Standing.{Runs}
use Rattle.leaf_steward.specs.Seated.{watched_by}
use Rattle.leaf_steward.specs.Owing.{Owing, Brings, SettlesOwed}
use Rattle.leaf_steward.proofs.Bringing.{offered_owes, nothing_owes, none_pending, settled_brings}
use Rattle.leaf_steward.proofs.log.StewardLog.bring.Goals as goal

pub returns-then-is_pending-clause-brings : goal.returns-then-is_pending-clause-brings
returns-then-is_pending-clause-brings g c =
    let clock = (g.B.Berth.meaning c.settle.new.berth).clock in
    let x = c.args.seats.now in
    let o : Owing = record { log = c.self.inside.log; owner = c.self.inside.owner; count = c.self.inside.count } in
    let given : Option LogRecord = c.args.pending in
    let some : IsSome given = sym c.is_pending.ensures.some ∙ c.if-is_pending.true in
    subst (λ (s : Owing). Brings clock x s c.args.table c.args.writes given c.args.notes.now c.settle.result c.settle.new.seats c.settle.new.self c.settle.new.notes) c.self.view_is
    (settled_brings clock x c.settle.new.seats o c.settle.new.self c.args.table c.args.writes given c.args.notes.now c.settle.new.notes c.settle.result some
    (subst (λ (l : LogState). SettlesOwed clock x (record { log = l; owner = c.args.table; count = c.args.writes }) c.args.notes.now c.settle.result c.settle.new.seats c.settle.new.self c.settle.new.notes) c.offer.ensures c.settle.ensures.settles))

pub returns-then-is_pending-clause-runs : goal.returns-then-is_pending-clause-runs
returns-then-is_pending-clause-runs g c = λ taken told founded has.
    let o : Owing = record { log = c.self.inside.log; owner = c.self.inside.owner; count = c.self.inside.count } in
    let given : Option LogRecord = c.args.pending in
    let owes : Owes given o.log c.offer.new.self = subst (λ (l : LogState). Owes given o.log l) (sym c.offer.ensures) (offered_owes o c.args.table c.args.writes given c.is_pending.ensures.whole) in
    c.settle.ensures.runs taken told founded (has c.offer.new.self (subst (λ (s : Owing). Owes given s.log c.offer.new.self) c.self.view_is owes))

pub returns-clause-brings : goal.returns-clause-brings
returns-clause-brings g c =
    let noted = c.note.ensures.noted in
    Brings.done noted.0 refl noted.1 noted.2 (subst (λ (s : Owing). s.log.owed ≡ None) (sym c.self.view_is) c.requires.nothing)

pub returns-clause-runs : goal.returns-clause-runs
returns-clause-runs g c = λ taken told founded has.
    let x = c.args.seats.now in
    let m = g.B.Berth.meaning c.args.berth.now in
    let given : Option LogRecord = c.args.pending in
    let o : Owing = record { log = c.self.inside.log; owner = c.self.inside.owner; count = c.self.inside.count } in
    let nothing : o.log.owed ≡ None = subst (λ (s : Owing). s.log.owed ≡ None) (sym c.self.view_is) c.requires.nothing in
    let none : given ≡ None = none_pending given (sym c.is_pending.ensures.some ∙ c.if-is_pending.false) in
    let owes : Owes given o.log o.log = subst (λ (r : Option LogRecord). Owes r o.log o.log) (sym none) (nothing_owes o.log nothing) in
    let runs : Runs (watched_by x) c.args.table o.log taken m = has o.log (subst (λ (s : Owing). Owes given s.log o.log) c.self.view_is owes) in
    c.note.ensures.runs taken founded nothing runs
