use Rattle.std.proofs.Common.{rules, arith, refl}
use Rattle.std.specs.Prelude.{IsOk, IsErr}
use Rattle.disk_backup.proofs.Results.{of_err}
use Rattle.leaf_machine.specs.States.{Serving}
use Rattle.leaf_machine.proofs.UpSeats.{count_taken, spares_taken}
use Rattle.leaf_machine.proofs.UpFlushing.{Goes, IsSettled, settle_goes, settle_done, settle_stuck, still_seated, flush_stuck, flush_worn, flush_half, flush_done}
use Rattle.leaf_machine.proofs.up.flush_table.Goals as goal

-- ---- what was owed is settled

pub returns-then-is_err : goal.returns-then-is_err
returns-then-is_err g c =
    let x : Serving = record { seated = c.args.seats.now; owing = c.args.log.now } in
    let y : Serving = record { seated = c.settle_owed.new.seats; owing = c.settle_owed.new.self } in
    let told = c.settle_owed.ensures in
    let goes : Goes x y c.settle_owed.new.notes (g.B.Berth.meaning c.args.berth.now) (g.B.Berth.meaning c.settle_owed.new.berth) =
    settle_goes x y c.clear.new.self c.settle_owed.new.notes c.settle_owed.result (g.B.Berth.meaning c.args.berth.now) (g.B.Berth.meaning c.settle_owed.new.berth) c.requires.up c.sits.ensures c.clear.ensures told.runs (record { region = told.region; time = told.time; cause = told.cause; reads = told.reads }) told.settles in
    let bad : IsErr c.settle_owed.result = search rules in
    flush_stuck c.args.table x y c.settle_owed.new.notes (g.B.Berth.meaning c.args.berth.now) (g.B.Berth.meaning c.settle_owed.new.berth) c.requires.up c.sits.ensures goes
    (settle_stuck x y c.clear.new.self c.settle_owed.new.notes c.settle_owed.result (g.B.Berth.meaning c.args.berth.now) (g.B.Berth.meaning c.settle_owed.new.berth) c.requires.up c.sits.ensures c.clear.ensures told.runs (record { region = told.region; time = told.time; cause = told.cause; reads = told.reads }) told.settles bad) (of_err c.settle_owed.result bad told.cause.failed)

-- ---- the table is taken

pub take-requires-clause-open_ : goal.take-requires-clause-open_
take-requires-clause-open_ g c κs within =
    let x : Serving = record { seated = c.args.seats.now; owing = c.args.log.now } in
    let y : Serving = record { seated = c.settle_owed.new.seats; owing = c.settle_owed.new.self } in
    let told = c.settle_owed.ensures in
    let goes : Goes x y c.settle_owed.new.notes (g.B.Berth.meaning c.args.berth.now) (g.B.Berth.meaning c.settle_owed.new.berth) =
    settle_goes x y c.clear.new.self c.settle_owed.new.notes c.settle_owed.result (g.B.Berth.meaning c.args.berth.now) (g.B.Berth.meaning c.settle_owed.new.berth) c.requires.up c.sits.ensures c.clear.ensures told.runs (record { region = told.region; time = told.time; cause = told.cause; reads = told.reads }) told.settles in
    goes.up.opened c.args.table

pub take-requires-clause-spares : goal.take-requires-clause-spares
take-requires-clause-spares g c κs within =
    let x : Serving = record { seated = c.args.seats.now; owing = c.args.log.now } in
    let y : Serving = record { seated = c.settle_owed.new.seats; owing = c.settle_owed.new.self } in
    let told = c.settle_owed.ensures in
    let goes : Goes x y c.settle_owed.new.notes (g.B.Berth.meaning c.args.berth.now) (g.B.Berth.meaning c.settle_owed.new.berth) =
    settle_goes x y c.clear.new.self c.settle_owed.new.notes c.settle_owed.result (g.B.Berth.meaning c.args.berth.now) (g.B.Berth.meaning c.settle_owed.new.berth) c.requires.up c.sits.ensures c.clear.ensures told.runs (record { region = told.region; time = told.time; cause = told.cause; reads = told.reads }) told.settles in
    λ t v at sat. let three = goes.up.spares c.args.table t v at sat in omega (arith, three)

pub returns-in_default : goal.returns-in_default
returns-in_default g c =
    let x : Serving = record { seated = c.args.seats.now; owing = c.args.log.now } in
    let y : Serving = record { seated = c.settle_owed.new.seats; owing = c.settle_owed.new.self } in
    let told = c.settle_owed.ensures in
    let goes : Goes x y c.settle_owed.new.notes (g.B.Berth.meaning c.args.berth.now) (g.B.Berth.meaning c.settle_owed.new.berth) =
    settle_goes x y c.clear.new.self c.settle_owed.new.notes c.settle_owed.result (g.B.Berth.meaning c.args.berth.now) (g.B.Berth.meaning c.settle_owed.new.berth) c.requires.up c.sits.ensures c.clear.ensures told.runs (record { region = told.region; time = told.time; cause = told.cause; reads = told.reads }) told.settles in
    let good : IsOk c.settle_owed.result = search rules in
    let settled : IsSettled x y c.settle_owed.new.notes = settle_done x y c.clear.new.self c.settle_owed.new.notes c.settle_owed.result (g.B.Berth.meaning c.args.berth.now) (g.B.Berth.meaning c.settle_owed.new.berth) c.requires.up c.sits.ensures c.clear.ensures told.runs (record { region = told.region; time = told.time; cause = told.cause; reads = told.reads }) told.settles good in
    let worn = c.in_default.ensures.worn in
    flush_worn c.args.table x y c.settle_owed.new.notes (g.B.Berth.meaning c.args.berth.now) (g.B.Berth.meaning c.settle_owed.new.berth) c.requires.up c.sits.ensures goes settled
    (record { seated = c.take.new.self; owing = c.settle_owed.new.self }) c.take.new.notes worn.1 refl worn.2 worn.0 _ (search rules)

-- ---- what was taken is brought onto the disk

pub bring-requires-clause-taken : goal.bring-requires-clause-taken
bring-requires-clause-taken g c κs within =
    let x : Serving = record { seated = c.args.seats.now; owing = c.args.log.now } in
    let y : Serving = record { seated = c.settle_owed.new.seats; owing = c.settle_owed.new.self } in
    let told = c.settle_owed.ensures in
    let goes : Goes x y c.settle_owed.new.notes (g.B.Berth.meaning c.args.berth.now) (g.B.Berth.meaning c.settle_owed.new.berth) =
    settle_goes x y c.clear.new.self c.settle_owed.new.notes c.settle_owed.result (g.B.Berth.meaning c.args.berth.now) (g.B.Berth.meaning c.settle_owed.new.berth) c.requires.up c.sits.ensures c.clear.ensures told.runs (record { region = told.region; time = told.time; cause = told.cause; reads = told.reads }) told.settles in
    let took = c.in-Some.ensures.took in
    count_taken (g.B.Berth.meaning c.settle_owed.new.berth).clock c.args.table took.0 c.in-Some.writes c.in-Some.pending y.seated c.take.new.self took.1
    (still_seated c.args.table x y c.settle_owed.new.notes (g.B.Berth.meaning c.args.berth.now) (g.B.Berth.meaning c.settle_owed.new.berth) c.requires.up c.sits.ensures goes)

pub bring-requires-clause-spares : goal.bring-requires-clause-spares
bring-requires-clause-spares g c κs within =
    let x : Serving = record { seated = c.args.seats.now; owing = c.args.log.now } in
    let y : Serving = record { seated = c.settle_owed.new.seats; owing = c.settle_owed.new.self } in
    let told = c.settle_owed.ensures in
    let goes : Goes x y c.settle_owed.new.notes (g.B.Berth.meaning c.args.berth.now) (g.B.Berth.meaning c.settle_owed.new.berth) =
    settle_goes x y c.clear.new.self c.settle_owed.new.notes c.settle_owed.result (g.B.Berth.meaning c.args.berth.now) (g.B.Berth.meaning c.settle_owed.new.berth) c.requires.up c.sits.ensures c.clear.ensures told.runs (record { region = told.region; time = told.time; cause = told.cause; reads = told.reads }) told.settles in
    let took = c.in-Some.ensures.took in
    let four = spares_taken (g.B.Berth.meaning c.settle_owed.new.berth).clock c.args.table took.0 c.in-Some.writes c.in-Some.pending y.seated c.take.new.self took.1
    (still_seated c.args.table x y c.settle_owed.new.notes (g.B.Berth.meaning c.args.berth.now) (g.B.Berth.meaning c.settle_owed.new.berth) c.requires.up c.sits.ensures goes) in
    λ t v at sat. let here = four t v at sat in omega (arith, here)

pub returns-then-is_err-2 : goal.returns-then-is_err-2
returns-then-is_err-2 g c =
    let x : Serving = record { seated = c.args.seats.now; owing = c.args.log.now } in
    let y : Serving = record { seated = c.settle_owed.new.seats; owing = c.settle_owed.new.self } in
    let told = c.settle_owed.ensures in
    let goes : Goes x y c.settle_owed.new.notes (g.B.Berth.meaning c.args.berth.now) (g.B.Berth.meaning c.settle_owed.new.berth) =
    settle_goes x y c.clear.new.self c.settle_owed.new.notes c.settle_owed.result (g.B.Berth.meaning c.args.berth.now) (g.B.Berth.meaning c.settle_owed.new.berth) c.requires.up c.sits.ensures c.clear.ensures told.runs (record { region = told.region; time = told.time; cause = told.cause; reads = told.reads }) told.settles in
    let good : IsOk c.settle_owed.result = search rules in
    let settled : IsSettled x y c.settle_owed.new.notes = settle_done x y c.clear.new.self c.settle_owed.new.notes c.settle_owed.result (g.B.Berth.meaning c.args.berth.now) (g.B.Berth.meaning c.settle_owed.new.berth) c.requires.up c.sits.ensures c.clear.ensures told.runs (record { region = told.region; time = told.time; cause = told.cause; reads = told.reads }) told.settles good in
    let took = c.in-Some.ensures.took in
    let z : Serving = record { seated = c.bring.new.seats; owing = c.bring.new.self } in
    let last = c.bring.ensures in
    let bad : IsErr c.bring.result = search rules in
    flush_half c.args.table took.0 c.in-Some.writes c.in-Some.pending x y z c.take.new.self c.settle_owed.new.notes c.take.new.notes c.bring.new.notes c.bring.result
    (g.B.Berth.meaning c.args.berth.now) (g.B.Berth.meaning c.settle_owed.new.berth) (g.B.Berth.meaning c.bring.new.berth)
    c.requires.up c.sits.ensures goes settled took.1 took.2 c.requires.table last.runs (record { region = last.region; time = last.time; cause = last.cause; reads = last.reads }) last.brings bad

pub returns : goal.returns
returns g c =
    let x : Serving = record { seated = c.args.seats.now; owing = c.args.log.now } in
    let y : Serving = record { seated = c.settle_owed.new.seats; owing = c.settle_owed.new.self } in
    let told = c.settle_owed.ensures in
    let goes : Goes x y c.settle_owed.new.notes (g.B.Berth.meaning c.args.berth.now) (g.B.Berth.meaning c.settle_owed.new.berth) =
    settle_goes x y c.clear.new.self c.settle_owed.new.notes c.settle_owed.result (g.B.Berth.meaning c.args.berth.now) (g.B.Berth.meaning c.settle_owed.new.berth) c.requires.up c.sits.ensures c.clear.ensures told.runs (record { region = told.region; time = told.time; cause = told.cause; reads = told.reads }) told.settles in
    let good : IsOk c.settle_owed.result = search rules in
    let settled : IsSettled x y c.settle_owed.new.notes = settle_done x y c.clear.new.self c.settle_owed.new.notes c.settle_owed.result (g.B.Berth.meaning c.args.berth.now) (g.B.Berth.meaning c.settle_owed.new.berth) c.requires.up c.sits.ensures c.clear.ensures told.runs (record { region = told.region; time = told.time; cause = told.cause; reads = told.reads }) told.settles good in
    let took = c.in-Some.ensures.took in
    let z : Serving = record { seated = c.bring.new.seats; owing = c.bring.new.self } in
    let last = c.bring.ensures in
    let fine : IsOk c.bring.result = search rules in
    flush_done c.args.table took.0 c.in-Some.writes c.in-Some.pending x y z c.take.new.self c.settle_owed.new.notes c.take.new.notes c.bring.new.notes c.bring.result
    (g.B.Berth.meaning c.args.berth.now) (g.B.Berth.meaning c.settle_owed.new.berth) (g.B.Berth.meaning c.bring.new.berth)
    c.requires.up c.sits.ensures goes settled took.1 took.2 c.requires.table last.runs (record { region = last.region; time = last.time; cause = last.cause; reads = last.reads }) last.brings fine _ (search rules)
