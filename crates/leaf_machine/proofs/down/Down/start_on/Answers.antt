use Rattle.std.proofs.Common.{ℕ, List, rules, sym, subst}
use Rattle.std.specs.Prelude.{Ok, Err}
use Rattle.leaf_steward.specs.Owing.{Owing}
use Rattle.leaf_machine.specs.declared.faults.StartFault.{StartFault}
use Rattle.leaf_machine.specs.States.{IsUp}
use Rattle.leaf_machine.specs.Starts.{IsFirstWorn}
use Rattle.leaf_machine.specs.Started.{Finds, Started}
use Rattle.leaf_machine.proofs.StartOpening.{may_few, may_hand, ok_starts, up_is}
use Rattle.leaf_machine.proofs.StartRefusing.{down_on, err_starts, worn_starts}
use Rattle.leaf_machine.proofs.down.Down.start_on.Goals as goal

-- ---- a seat is worn

pub returns-in-Some : goal.returns-in-Some
returns-in-Some g c =
    let worn : IsFirstWorn c.args.self.0 c.in-Some.table = search rules in
    worn_starts g.B.Berth.meaning c.args.self.0 c.args.self.1 c.in-Some.table c.clear.new.self worn c.clear.ensures

-- ---- the tables are opened

pub open_all-requires-clause-content : goal.open_all-requires-clause-content
open_all-requires-clause-content g c κs within =
    let m = g.B.Berth.meaning c.self.inside.berth in
    let n = g.B.Berth.meaning c.open_on.new.berth in
    let found = subst (λ (names : List (List ℕ)). Finds names (Ok c.in-Ok.opened) m n) c.names.ensures c.in-Ok.ensures in
    may_hand c.self.inside.seats c.sits.ensures m n c.in-Ok.opened found c.sits.ensures.alike c.self.invariant.stands

pub open_all-requires-clause-columns : goal.open_all-requires-clause-columns
open_all-requires-clause-columns g c κs within =
    let m = g.B.Berth.meaning c.self.inside.berth in
    let n = g.B.Berth.meaning c.open_on.new.berth in
    let found = subst (λ (names : List (List ℕ)). Finds names (Ok c.in-Ok.opened) m n) c.names.ensures c.in-Ok.ensures in
    may_few c.self.inside.seats c.sits.ensures m n c.in-Ok.opened found c.sits.ensures.alike c.self.invariant.stands

pub invariant_of-up : goal.invariant_of-up
invariant_of-up g c =
    let m = g.B.Berth.meaning c.self.inside.berth in
    let n = g.B.Berth.meaning c.open_on.new.berth in
    let found = subst (λ (names : List (List ℕ)). Finds names (Ok c.in-Ok.opened) m n) c.names.ensures c.in-Ok.ensures in
    let opened = c.open_all.ensures in
    subst (λ (log : Owing). IsUp (record { seated = c.open_all.new.self; owing = log }) n) (sym c.of.ensures)
    (up_is c.self.inside.seats c.sits.ensures m n c.in-Ok.opened found c.open_all.new.self c.open_all.new.notes opened.made opened.each c.self.invariant opened.open_ opened.spares)

pub returns-in-Ok : goal.returns-in-Ok
returns-in-Ok g c =
    let m = g.B.Berth.meaning c.self.inside.berth in
    let n = g.B.Berth.meaning c.open_on.new.berth in
    let found = subst (λ (names : List (List ℕ)). Finds names (Ok c.in-Ok.opened) m n) c.names.ensures c.in-Ok.ensures in
    let y = c.open_all.new.self in
    let notes = c.open_all.new.notes in
    subst (λ l. Started g.B.Berth.meaning l.0 l.1 notes (Ok ((record { seated = y; owing = c.of.result }, c.open_on.new.berth), c.in-Ok.opened.way))) c.self.view_is
    (subst (λ (log : Owing). Started g.B.Berth.meaning c.self.inside.seats c.self.inside.berth notes (Ok ((record { seated = y; owing = log }, c.open_on.new.berth), c.in-Ok.opened.way))) (sym c.of.ensures)
    (ok_starts g.B.Berth.meaning c.self.inside.seats c.self.inside.berth c.open_on.new.berth c.in-Ok.opened y notes c.sits.ensures c.in_default.ensures.none found c.open_all.ensures.made c.open_all.ensures.each))

-- ---- the opening is refused

pub invariant_of-result : goal.invariant_of-result
invariant_of-result g c =
    let m = g.B.Berth.meaning c.self.inside.berth in
    let n = g.B.Berth.meaning c.open_on.new.berth in
    let found = subst (λ (names : List (List ℕ)). Finds names (Err c.in-Err.fault) m n) c.names.ensures c.in-Err.ensures in
    down_on c.self.inside.seats c.sits.ensures m n c.in-Err.fault found c.self.invariant

pub returns-in-Err : goal.returns-in-Err
returns-in-Err g c =
    let x = c.self.inside.seats in
    let m = g.B.Berth.meaning c.self.inside.berth in
    let n = g.B.Berth.meaning c.open_on.new.berth in
    let found = subst (λ (names : List (List ℕ)). Finds names (Err c.in-Err.fault) m n) c.names.ensures c.in-Err.ensures in
    subst (λ l. Started g.B.Berth.meaning l.0 l.1 c.clear.new.self (Err ((x, c.open_on.new.berth), c.told.result))) c.self.view_is
    (subst (λ (e : StartFault). Started g.B.Berth.meaning x c.self.inside.berth c.clear.new.self (Err ((x, c.open_on.new.berth), e))) (sym c.told.ensures)
    (err_starts g.B.Berth.meaning x c.self.inside.berth c.open_on.new.berth c.in-Err.fault c.clear.new.self c.sits.ensures c.in_default.ensures.none found c.clear.ensures))
