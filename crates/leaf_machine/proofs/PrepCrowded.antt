-- Founded tables make no image only where much was added to them.
use Rattle.std.proofs.Common.{◌≡◌, ℕ, zero, suc, ◌+◌, ◌≤◌, inl, inr, true, List, [], ◌∷◌, length, Some, refl, sym, ap, subst, ◌∙◌, arith}
use Rattle.std.specs.Prelude.{slice_get, Err}
use Rattle.std.specs.List.{AllByRecursion}
use Rattle.std.proofs.lemmas.List.{length-map}
use Rattle.std.proofs.lemmas.Option.{none-some, same_Some, slice_get_within}
use Rattle.berth_face.specs.Berth.{Meaning}
use Rattle.leaf_history.specs.History.{HistoryState}
use Rattle.row_blocks.specs.Held.{columns_count}
use Rattle.table_state.specs.Tables.{Table, added_count}
use Rattle.region_layout.specs.declared.drained.DrainTable.{DrainTable}
use Rattle.drain_copy.specs.declared.step.PlanFault.{PlanFault}
use Rattle.drain_copy.specs.declared.step.PlanFault.TheVariants as plan
use Rattle.drain_copy.specs.Planned.{NeedRoom, tables_count}
use Rattle.leaf_table.specs.Turns.{Shared, is_founded}
use Rattle.leaf_table.specs.Calls.{SeatView, base_seen, state_seen}
use Rattle.crash_moments.specs.Watched.{IsFoundation, IsWatched}
use Rattle.crash_states.proofs.Names.{each_at}
use Rattle.crash_states.proofs.States.{now_sound}
use Rattle.leaf_steward.specs.Seated.{AreFounded, AreSeated, watched, watched_by}
use Rattle.leaf_steward.proofs.WatchPlaces.{watch_all}
use Rattle.leaf_steward.proofs.WatchEntries.{now_seen}
use Rattle.leaf_steward.proofs.Watching.{watch_get}
use Rattle.leaf_machine.specs.declared.preparing.PrepareFault.{PrepareFault}
use Rattle.leaf_machine.specs.declared.preparing.PrepareFault.TheVariants.{NoRoom, NoMemory}
use Rattle.leaf_machine.specs.States.{IsShutting, Shutting, bulk_added}
use Rattle.leaf_machine.specs.Shut.{AreFewShut, AreTablesOf, drained_columns, drained_table}
use Rattle.leaf_machine.specs.Prepares.{CrowdsStep, PreparingIsCrowded, told_of_plan}
use Rattle.leaf_steward.proofs.Seating.{some_at}
use Rattle.leaf_machine.proofs.PrepCopies.{made_at}

-- ---- places of a leaf

-- the columns of a drain, each for a row or a cell that was added
bulk_columns : (ts : List Shared) (vs : List SeatView) (tables : List DrainTable) → length tables ≡ length ts → length vs ≡ length ts → AllByRecursion (λ (t : Shared). is_founded (base_seen t) ≡ true) ts
    → ((place : ℕ) (t : Shared) (v : SeatView) → slice_get ts place ≡ Some t → slice_get vs place ≡ Some v → is_founded (base_seen t) ≡ true
    → (n : ℕ) → slice_get (drained_columns tables) place ≡ Some n → n ≤ (state_seen (base_seen t) v).spare + added_count (state_seen (base_seen t) v).writes)
    → tables_count tables ≤ bulk_added ts vs
bulk_columns [] vs [] count seats founded few = omega arith
bulk_columns [] vs (d ∷ tables) count seats founded few = absurd (omega (arith, count))
bulk_columns (t ∷ ts) [] tables count seats founded few = absurd (omega (arith, seats))
bulk_columns (t ∷ ts) (v ∷ vs) [] count seats founded few = absurd (omega (arith, count))
bulk_columns (t ∷ ts) (v ∷ vs) (d ∷ tables) count seats founded few =
    let here : columns_count d.parts.blocks ≤ (state_seen (base_seen t) v).spare + added_count (state_seen (base_seen t) v).writes = few 0 t v refl refl founded.0 (columns_count d.parts.blocks) refl in
    let rest = bulk_columns ts vs tables (omega (arith, count)) (omega (arith, seats)) founded.1 (λ place s w at was is n found. few (suc place) s w at was is n found) in
    omega (arith, here, rest)

-- the writes of one table
bulk_writes : (ts : List Shared) (vs : List SeatView) (place n : ℕ) (t : Shared) (v : SeatView) → slice_get ts place ≡ Some t → slice_get vs place ≡ Some v
    → n ≤ length (state_seen (base_seen t) v).writes → n ≤ bulk_added ts vs
bulk_writes [] vs place n t v at was more = absurd (none-some t at)
bulk_writes (s ∷ ts) [] place n t v at was more = absurd (none-some v was)
bulk_writes (s ∷ ts) (u ∷ vs) zero n t v at was more =
    let table : s ≡ t = same_Some s t at in
    let seat : u ≡ v = same_Some u v was in
    let writes : length (state_seen (base_seen s) u).writes ≡ length (state_seen (base_seen t) v).writes =
    ap (λ (x : Shared). length (state_seen (base_seen x) u).writes) table ∙ ap (λ (x : SeatView). length (state_seen (base_seen t) x).writes) seat in
    omega (arith, more, writes)
bulk_writes (s ∷ ts) (u ∷ vs) (suc place) n t v at was more = let rest = bulk_writes ts vs place n t v at was more in omega (arith, rest)

-- ---- a leaf whose tables are all shut

module _ (x : Shutting) (m : Meaning) (is : IsShutting x m) (sits : AreSeated x.serving.seated) (all : length x.closed ≡ length x.serving.seated.tables) (tables : List DrainTable)
    (are : AreTablesOf x.serving.seated.names x.closed tables) (few : AreFewShut x.serving.seated (drained_columns tables)) where
  count : length tables ≡ length x.serving.seated.tables
  count = sym (length-map tables drained_table) ∙ ap (λ (l : List Table). length l) are.closed_are ∙ all

  -- the writes of the table in a place are all that its seat has seen accepted
  writes_at : AreFounded x.serving.seated → (place : ℕ) (d : DrainTable) (t : Shared) (v : SeatView) → slice_get tables place ≡ Some d → slice_get x.serving.seated.tables place ≡ Some t
      → slice_get x.serving.seated.seats place ≡ Some v → d.parts.writes ≡ length (state_seen (base_seen t) v).writes
  writes_at founded place d t v at there was =
      let s : HistoryState = state_seen (base_seen t) v in
      let bare = subst (λ (l : List Table). slice_get l place ≡ Some (drained_table d)) are.closed_are (made_at drained_table tables place d at) in
      let had = is.contents place t v there was (drained_table d) bare in
      let base : is_founded (base_seen t) ≡ true = watch_all (λ (a : Shared). is_founded (base_seen a) ≡ true) x.serving.seated.tables place t founded there in
      let stands = is.stands founded in
      let found : slice_get (watched_by x.serving.seated) place ≡ Some (watched t v) = watch_get x.serving.seated place t v there was in
      let sound : IsFoundation s =
      subst IsFoundation (now_seen t v base) (now_sound m.clock (watched t v) (each_at (IsWatched m.clock) (watched_by x.serving.seated) stands.1.1.watched.each place (watched t v) found)) in
      omega (arith, had.writes, sound.handed_in)

  pub crowded : NeedRoom tables → PreparingIsCrowded x.serving.seated
  crowded (inl many) founded =
      let bulk = bulk_columns x.serving.seated.tables x.serving.seated.seats tables count sits.count founded few in
      omega (arith, many, bulk)
  crowded (inr wide) founded =
      let here = slice_get_within tables wide.0 wide.1 wide.2 in
      let t = some_at x.serving.seated.tables wide.0 (omega (arith, here, count)) in
      let v = some_at x.serving.seated.seats wide.0 (omega (arith, here, count, sits.count)) in
      let writes = writes_at founded wide.0 wide.1 t.0 v.0 wide.2 t.1 v.1 in
      let bulk = bulk_writes x.serving.seated.tables x.serving.seated.seats wide.0 wide.1.parts.writes t.0 v.0 t.1 v.1 (omega (arith, writes)) in
      let much = wide.3 in
      omega (arith, bulk, much)

-- a plan that failed says so
pub crowds : {B : Type 0} (x y : Shutting) (b : B) (tables : List DrainTable) (f : PlanFault) (g : PrepareFault) → g ≡ told_of_plan f → (f ≡ plan.NoRoom → NeedRoom tables)
    → (NeedRoom tables → PreparingIsCrowded x.serving.seated) → CrowdsStep {B = B} x (Err ((y, b), g))
crowds {B = B} x y b tables plan.NoRoom g is needs large = subst (λ (k : PrepareFault). CrowdsStep {B = B} x (Err ((y, b), k))) (sym is) (large (needs refl))
crowds {B = B} x y b tables plan.NoMemory g is needs large = subst (λ (k : PrepareFault). CrowdsStep {B = B} x (Err ((y, b), k))) (sym is) tt
