use Rattle.std.proofs.Common.{◌≡◌, ◌≤◌, ◌++◌, ◌∷◌, ℕ, false, List, [], length, None, sym, ap, ap₂, subst, ◌∙◌}
use Rattle.std.specs.Prelude.{take}
use Rattle.table_state.specs.Tables.{Table, bare}
use Rattle.leaf_table.specs.Calls.{base_seen, state_seen}
use Rattle.leaf_words.specs.declared.note.Note.{Note}
use Rattle.leaf_steward.specs.Seated.{Seated, AreSeated, AtPlace}
use Rattle.leaf_steward.specs.Owing.{Owing, Brings}
use Rattle.leaf_machine.specs.States.{Shutting, IsShutting, treated}
use Rattle.leaf_machine.specs.PrepParts.{PreparingGoes, ShutsNext}
use Rattle.leaf_machine.specs.Shut.{AreFewShut}
use Rattle.leaf_machine.proofs.PrepFew.{brought_few, count_next}
use Rattle.leaf_machine.proofs.PrepNames.{as_put, treated_put}
use Rattle.leaf_machine.proofs.PrepShuts.{brought_is, brought_names, brought_next, brought_part, count_then, one_spare}
use Rattle.leaf_machine.proofs.preparing.Preparing.shut_next.Goals as goal

pub bring-requires-clause-taken : goal.bring-requires-clause-taken
bring-requires-clause-taken g c κs within =
    let x : Shutting = record { serving = record { seated = c.self.inside.seats; owing = c.self.inside.log }; closed = c.self.inside.tables.closed; waits = c.self.inside.tables.waits } in
    let m = g.B.Berth.meaning c.self.inside.berth in
    let sits : AreSeated x.serving.seated = subst (λ v. AreSeated v.0.serving.seated) (sym c.self.view_is) c.first_open-place.ensures.seated in
    let none : x.serving.owing.log.owed ≡ None = subst (λ v. v.0.serving.owing.log.owed ≡ None) (sym c.self.view_is) c.requires.none in
    let place : ℕ = c.first_open-place.result in
    let next : place ≡ length x.closed = subst (λ v. place ≡ length v.0.closed) (sym c.self.view_is) c.first_open-place.ensures.place in
    let shut = c.shut-table.ensures in
    let t : Table = c.shut-table.result in
    let now : Table = c.take_pending-pending.new.self in
    let taken = c.take_pending-pending.result in
    let y : Seated = c.shut-table.new.self in
    subst (λ (n : ℕ). AtPlace (λ u s. n ≤ (state_seen (base_seen u) s).taken) y place) (sym c.writes-writes.ensures)
    (count_then x m c.self.invariant.0 sits none place shut.0 next t now taken y shut.1 c.take_pending-pending.ensures)

pub bring-requires-clause-spares : goal.bring-requires-clause-spares
bring-requires-clause-spares g c κs within =
    let x : Shutting = record { serving = record { seated = c.self.inside.seats; owing = c.self.inside.log }; closed = c.self.inside.tables.closed; waits = c.self.inside.tables.waits } in
    let m = g.B.Berth.meaning c.self.inside.berth in
    let sits : AreSeated x.serving.seated = subst (λ v. AreSeated v.0.serving.seated) (sym c.self.view_is) c.first_open-place.ensures.seated in
    let none : x.serving.owing.log.owed ≡ None = subst (λ v. v.0.serving.owing.log.owed ≡ None) (sym c.self.view_is) c.requires.none in
    let place : ℕ = c.first_open-place.result in
    let next : place ≡ length x.closed = subst (λ v. place ≡ length v.0.closed) (sym c.self.view_is) c.first_open-place.ensures.place in
    let shut = c.shut-table.ensures in
    let t : Table = c.shut-table.result in
    let now : Table = c.take_pending-pending.new.self in
    let taken = c.take_pending-pending.result in
    let y : Seated = c.shut-table.new.self in
    one_spare x m c.self.invariant.0 sits none place shut.0 next t now taken y shut.1 c.take_pending-pending.ensures

pub invariant_of-self : goal.invariant_of-self
invariant_of-self g c =
    let x : Shutting = record { serving = record { seated = c.self.inside.seats; owing = c.self.inside.log }; closed = c.self.inside.tables.closed; waits = c.self.inside.tables.waits } in
    let m = g.B.Berth.meaning c.self.inside.berth in
    let sits : AreSeated x.serving.seated = subst (λ v. AreSeated v.0.serving.seated) (sym c.self.view_is) c.first_open-place.ensures.seated in
    let none : x.serving.owing.log.owed ≡ None = subst (λ v. v.0.serving.owing.log.owed ≡ None) (sym c.self.view_is) c.requires.none in
    let place : ℕ = c.first_open-place.result in
    let next : place ≡ length x.closed = subst (λ v. place ≡ length v.0.closed) (sym c.self.view_is) c.first_open-place.ensures.place in
    let shut = c.shut-table.ensures in
    let t : Table = c.shut-table.result in
    let now : Table = c.take_pending-pending.new.self in
    let taken = c.take_pending-pending.result in
    let y : Seated = c.shut-table.new.self in
    let m' = g.B.Berth.meaning c.bring.new.berth in
    let z : Seated = c.bring.new.seats in
    let o : Owing = c.bring.new.self in
    let result = c.bring.result in
    let old : List Note = c.args.notes.now in
    let mid : List Note = c.shut-table.new.notes in
    let new : List Note = c.bring.new.notes in
    let brings = subst (λ (n : ℕ). Brings m'.clock y x.serving.owing place n taken mid result z o new) c.writes-writes.ensures c.bring.ensures.brings in
    let open_ : x.waits ≡ false = subst (λ v. v.0.waits ≡ false) (sym c.self.view_is) c.requires.rests in
    let tables = c.put.new.self in
    let closed : List Table = x.closed ++ bare now ∷ [] in
    let there : Shutting = record { serving = record { seated = z; owing = o }; closed = tables.closed; waits = tables.waits } in
    let names = brought_names x m c.self.invariant.0 sits none place shut.0 next t now taken y shut.1 c.take_pending-pending.ensures m' z o result old mid new shut.2 brings c.bring.ensures.time c.bring.ensures.runs in
    let had : List ℕ = c.self.inside.tables.columns in
    let count = count_next x m c.self.invariant.0 sits none place shut.0 next t now taken y shut.1 c.take_pending-pending.ensures had c.self.invariant.2 c.self.invariant.3 in
    let few = brought_few x m c.self.invariant.0 sits none place shut.0 next t now taken y shut.1 c.take_pending-pending.ensures had c.self.invariant.2 c.self.invariant.3 m'.clock z o result mid new brings in
    let treats : treated there ≡ treated x = treated_put x there (bare now) open_ c.put.ensures.waits c.put.ensures.closed in (
      as_put (λ l b. IsShutting (record { serving = record { seated = z; owing = o }; closed = l; waits = b }) m') closed tables.closed tables.waits c.put.ensures.closed c.put.ensures.waits
          (brought_is x m c.self.invariant.0 sits none place shut.0 next t now taken y shut.1 c.take_pending-pending.ensures m' z o result old mid new shut.2 brings c.bring.ensures.time c.bring.ensures.runs),
      c.put.ensures.names ∙ c.self.invariant.1 ∙ ap₂ (λ n l. take n l) (sym treats) (sym names),
      ap (λ l. length l) c.put.ensures.columns ∙ count ∙ ap (λ l. length l) (sym c.put.ensures.closed),
      subst (AreFewShut z) (sym c.put.ensures.columns) few,
    )

pub returns : goal.returns
returns g c =
    let x : Shutting = record { serving = record { seated = c.self.inside.seats; owing = c.self.inside.log }; closed = c.self.inside.tables.closed; waits = c.self.inside.tables.waits } in
    let m = g.B.Berth.meaning c.self.inside.berth in
    let sits : AreSeated x.serving.seated = subst (λ v. AreSeated v.0.serving.seated) (sym c.self.view_is) c.first_open-place.ensures.seated in
    let none : x.serving.owing.log.owed ≡ None = subst (λ v. v.0.serving.owing.log.owed ≡ None) (sym c.self.view_is) c.requires.none in
    let place : ℕ = c.first_open-place.result in
    let next : place ≡ length x.closed = subst (λ v. place ≡ length v.0.closed) (sym c.self.view_is) c.first_open-place.ensures.place in
    let shut = c.shut-table.ensures in
    let t : Table = c.shut-table.result in
    let now : Table = c.take_pending-pending.new.self in
    let taken = c.take_pending-pending.result in
    let y : Seated = c.shut-table.new.self in
    let m' = g.B.Berth.meaning c.bring.new.berth in
    let z : Seated = c.bring.new.seats in
    let o : Owing = c.bring.new.self in
    let result = c.bring.result in
    let old : List Note = c.args.notes.now in
    let mid : List Note = c.shut-table.new.notes in
    let new : List Note = c.bring.new.notes in
    let brings = subst (λ (n : ℕ). Brings m'.clock y x.serving.owing place n taken mid result z o new) c.writes-writes.ensures c.bring.ensures.brings in
    let open_ : x.waits ≡ false = subst (λ v. v.0.waits ≡ false) (sym c.self.view_is) c.requires.rests in
    let tables = c.put.new.self in
    let closed : List Table = x.closed ++ bare now ∷ [] in
    let there : Shutting = record { serving = record { seated = z; owing = o }; closed = tables.closed; waits = tables.waits } in
    subst (λ v. PreparingGoes v.0 there old new (g.B.Berth.meaning v.1) m' result) c.self.view_is (record {
      next = as_put (λ l b. (made : List Note) × (new ≡ old ++ made) × ShutsNext x (record { serving = record { seated = z; owing = o }; closed = l; waits = b }) made result) closed tables.closed tables.waits
          c.put.ensures.closed c.put.ensures.waits
          (brought_next x m c.self.invariant.0 sits none place shut.0 next t now taken y shut.1 c.take_pending-pending.ensures m' z o result old mid new shut.2 brings c.bring.ensures.time c.bring.ensures.runs open_);
      part = brought_part x m c.self.invariant.0 sits none place shut.0 next t now taken y shut.1 c.take_pending-pending.ensures m' z o result old mid new shut.2 brings c.bring.ensures.time c.bring.ensures.runs
          c.bring.ensures.region c.bring.ensures.reads;
      cause = c.bring.ensures.cause;
    })
