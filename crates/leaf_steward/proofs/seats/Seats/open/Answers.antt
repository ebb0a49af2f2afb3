use Rattle.std.proofs.Common.{arith, rules}
use Rattle.leaf_table.specs.Turns.{is_founded, MayHandIn}
use Rattle.leaf_table.specs.Calls.{base_seen, state_seen, IsFresh, SeesOpen, SeesShut}
use Rattle.leaf_words.specs.declared.note.What.TheVariants as what
use Rattle.leaf_steward.specs.Seated.{Spares}
use Rattle.leaf_steward.proofs.Seating.{sits_at, there, there_now, fresh_at, seated_after, spares_after, enters}
use Rattle.leaf_steward.proofs.seats.Seats.open.Goals as goal

pub reopen-requires-clause-seat : goal.reopen-requires-clause-seat
reopen-requires-clause-seat g c κs within = (sits_at c.self.view_is c.self.invariant _ c.index-self-place.result _ c.requires.table c.index_mut.ensures.value).seated.seat

pub reopen-requires-clause-steward : goal.reopen-requires-clause-steward
reopen-requires-clause-steward g c κs within = fresh_at (sits_at c.self.view_is c.self.invariant _ c.index-self-place.result _ c.requires.table c.index_mut.ensures.value) c.self.view_is c.requires.fresh

pub reopen-requires-clause-shut : goal.reopen-requires-clause-shut
reopen-requires-clause-shut g c κs within = there SeesShut (sits_at c.self.view_is c.self.invariant _ c.index-self-place.result _ c.requires.table c.index_mut.ensures.value) c.self.view_is c.requires.shut

pub reopen-requires-clause-content : goal.reopen-requires-clause-content
reopen-requires-clause-content g c κs within =
    let h = sits_at c.self.view_is c.self.invariant _ c.index-self-place.result _ c.requires.table c.index_mut.ensures.value in
    let asked = there (λ t v. MayHandIn (is_founded (base_seen t)) (state_seen (base_seen t) v) c.args.content.writes c.args.content) h c.self.view_is c.requires.content in
    search rules

pub unreachable-requires : goal.unreachable-requires
unreachable-requires g c =
    let fresh = there (λ t v. IsFresh v) (sits_at c.self.view_is c.self.invariant _ c.index-self-place.result _ c.requires.table c.index_mut.ensures.value) c.self.view_is c.requires.fresh in
    let worn = c.in-Err.ensures.made.0 in
    omega (arith, fresh, worn)

pub invariant_of-self : goal.invariant_of-self
invariant_of-self g c = seated_after (sits_at c.self.view_is c.self.invariant _ c.index-self-place.result _ c.requires.table c.index_mut.ensures.value) c.self.invariant c.in-Ok.ensures.made.2

pub returns-clause-entry : goal.returns-clause-entry
returns-clause-entry g c =
    let h = sits_at c.self.view_is c.self.invariant _ c.index-self-place.result _ c.requires.table c.index_mut.ensures.value in
    let made = c.in-Ok.ensures.made in
    let one = enters h c.self.view_is _ _ (what.Opened c.writes-writes.result) c.reopen.new.steward made.1 (c.args.content.contents, made.2) in
    (c.in-Ok.number, rw (← c.writes-writes.ensures) one, search rules)

pub returns-clause-open_ : goal.returns-clause-open_
returns-clause-open_ g c = there_now SeesOpen (sits_at c.self.view_is c.self.invariant _ c.index-self-place.result _ c.requires.table c.index_mut.ensures.value) c.reopen.new.steward c.in-Ok.ensures.open

pub returns-clause-spares : goal.returns-clause-spares
returns-clause-spares g c =
    let h = sits_at c.self.view_is c.self.invariant _ c.index-self-place.result _ c.requires.table c.index_mut.ensures.value in
    there_now (Spares 1000) h c.reopen.new.steward (spares_after h c.self.view_is c.requires.fresh c.in-Ok.ensures.made.2)
