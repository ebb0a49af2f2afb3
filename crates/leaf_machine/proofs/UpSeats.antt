-- What a take leaves of a leaf that serves its tables.
use Rattle.std.proofs.Common.{◌≡◌, ℕ, ◌≤◌, [], Option, sym, subst, arith}
use Rattle.std.specs.Prelude.{IfSome}
use Rattle.row_records.specs.Records.{LogRecord}
use Rattle.leaf_history.specs.Calls as call
use Rattle.leaf_history.specs.Replies as reply
use Rattle.leaf_table.specs.Turns.{Shared}
use Rattle.leaf_table.specs.Calls.{SeatView, base_seen, name_of, state_before, state_seen, SeesOpen}
use Rattle.leaf_table.proofs.Knowing.{open_after_take, taken_after_take}
use Rattle.leaf_words.specs.declared.note.What.TheVariants as what
use Rattle.leaf_steward.specs.Seated.{Seated, AtPlace, IsSeated, AreSeated, Spares}
use Rattle.leaf_steward.specs.Making.{OneEntry, TakesAt}
use Rattle.leaf_steward.proofs.Seating.{at_new, may_enter, spares_less}
use Rattle.leaf_machine.proofs.PrepHolds.{Holds, shut_named, stays_holds}

module _ (clock place number n : ℕ) (pending : Option LogRecord) (x y : Seated) (takes : TakesAt clock x place number n pending y) (seated : AreSeated x) where
  takes_sits : IsSeated takes.table takes.before
  takes_sits = seated.each place takes.table takes.before takes.at takes.was

  takes_room : 1024 ≤ takes.before.room
  takes_room = takes_sits.room takes.fresh

  -- the entry that it is
  pub takes_entry : OneEntry clock x (record { table = place; number = number; what = what.Took n }) y
  takes_entry = record { table = takes.table; before = takes.before; after = takes.after; at = takes.at; was = takes.was; number = takes.counted; made = takes.made; now = takes.now }

  takes_spares : 4 ≤ takes.after.room
  takes_spares = spares_less takes.table clock 4 takes.before takes.after call.Take (reply.Counted n) takes.made (omega (arith, takes_room))

  -- each table stays open
  pub holds_taken : Holds [] x → Holds [] y
  holds_taken holds =
      let t : Shared = takes.table in
      let v : SeatView = takes.before in
      let w : SeatView = takes.after in
      let open_ : SeesOpen t v = holds.opened place t v takes.at takes.was (omega arith) in
      let live : SeesOpen t w = open_after_take (base_seen t) clock n v w takes.made (may_enter t v takes_sits (omega (arith, takes_room))) (omega (arith, takes_sits.share)) open_ in
      subst (Holds []) (sym takes.now) (stays_holds [] x holds place t v w takes.at takes.was (λ past. (live, omega (arith, takes_spares))) (λ before. absurd (omega (arith, before))))

  -- the table that was taken has room for one entry more than the others
  pub spares_taken : AtPlace (Spares 4) y place
  spares_taken = subst (λ (s : Seated). AtPlace (Spares 4) s place) (sym takes.now) (at_new (Spares 4) x place takes.table takes.before takes.after takes.at takes.was takes_spares)

  pub count_taken : AtPlace (λ t v. n ≤ (state_seen (base_seen t) v).taken) y place
  count_taken =
      let all : (state_seen (base_seen takes.table) takes.after).taken ≡ n = taken_after_take (base_seen takes.table) clock n takes.before takes.after takes.made in
      let few : n ≤ (state_seen (base_seen takes.table) takes.after).taken = omega (arith, all) in
      subst (λ (s : Seated). AtPlace (λ t v. n ≤ (state_seen (base_seen t) v).taken) s place) (sym takes.now) (at_new (λ t v. n ≤ (state_seen (base_seen t) v).taken) x place takes.table takes.before takes.after takes.at takes.was few)

  -- the record is of that table
  pub named_taken : IfSome pending (λ r. AtPlace (λ t v. name_of t ≡ r.name) y place)
  named_taken =
      subst (λ (s : Seated). IfSome pending (λ r. AtPlace (λ t v. name_of t ≡ r.name) s place)) (sym takes.now)
      (shut_named x place takes.table takes.before takes.after pending (state_before (base_seen takes.table) takes.before takes.made.between) takes.at takes.was takes.record_is)
