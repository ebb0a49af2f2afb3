-- All tables are treated, and the copy of them is planned.
use Rattle.std.proofs.Common.{◌≡◌, ℕ, zero, suc, ◌+◌, ◌<◌, ◌≤◌, Bool, true, false, List, [], ◌∷◌, length, map, Some, None, refl, sym, ap, subst, ◌∙◌, arith}
use Rattle.std.specs.Prelude.{◌≢◌, ◌-◌, if◌then◌else◌, slice_get, take, Err}
use Rattle.std.specs.List.{AllByRecursion}
use Rattle.std.proofs.lemmas.List.{length-map, take_all}
use Rattle.std.proofs.lemmas.Option.{none-some, same_Some, slice_get_within}
use Rattle.leaf_model.specs.declared.writes.Write.{Write}
use Rattle.leaf_model.specs.Content.{Contents, content_from}
use Rattle.berth_face.specs.Berth.{Meaning}
use Rattle.leaf_history.specs.History.{HistoryState, write_count}
use Rattle.row_blocks.specs.Held.{columns_count}
use Rattle.table_state.specs.Tables.{IsParts, Table, added_count, contents_of_parts}
use Rattle.region_layout.specs.declared.drained.DrainTable.{DrainTable}
use Rattle.region_layout.specs.Drained.{all_columns, has_no_room, images_of as drained_images}
use Rattle.region_layout.specs.Region.{IsAdoptable, image_of_parts}
use Rattle.region_layout.specs.Images.{TableImage, images_by_name}
use Rattle.region_layout.specs.Names.{IsName}
use Rattle.drain_copy.specs.declared.step.Next.TheVariants as next
use Rattle.drain_copy.specs.Draining.{DrainState}
use Rattle.leaf_table.specs.Turns.{Shared, is_founded}
use Rattle.leaf_table.specs.Calls.{SeatView, base_seen, name_of, state_seen}
use Rattle.crash_moments.specs.Watched.{Watched, IsFoundation, IsWatched, now_of}
use Rattle.crash_moments.proofs.Telling.{none_more}
use Rattle.crash_states.specs.Standing.{Copies, IsContentOf, Runs}
use Rattle.crash_states.proofs.Lefts.{copies_told, runs_told}
use Rattle.crash_states.proofs.Names.{each_at}
use Rattle.crash_states.proofs.States.{now_sound}
use Rattle.crash_draining.specs.Laws.{AreTaken}
use Rattle.crash_draining.proofs.Copying.{planned}
use Rattle.leaf_words.specs.declared.note.Note.{Note}
use Rattle.leaf_steward.specs.Seated.{AreFounded, AreSeated, watched_by}
use Rattle.leaf_machine.proofs.PrepColumns.{drain_few, drain_long}
use Rattle.leaf_machine.proofs.PrepNames.{treated_all}
use Rattle.leaf_steward.proofs.WatchPlaces.{watch_all}
use Rattle.leaf_steward.proofs.WatchEntries.{now_seen}
use Rattle.leaf_steward.proofs.Watching.{watch_at, watch_length, watch_names}
use Rattle.leaf_machine.specs.declared.preparing.PrepareFault.{PrepareFault}
use Rattle.leaf_machine.specs.declared.preparing.PrepareFault.TheVariants.{DiskFault, NoRoom, NoMemory}
use Rattle.leaf_machine.specs.States.{Serving, Shutting, GoesOnCopying, ServingGoesOn, IsShutAndTaken, IsCopying, IsShutting, columns_added, treated}
use Rattle.leaf_machine.specs.Shut.{AreFewShut, AreTablesOf, drained_columns, drained_table}
use Rattle.leaf_machine.specs.Prepares.{AllTreated, IsCopyOf, IsTreatingStep}
use Rattle.leaf_machine.specs.PrepParts.{IsAllTreated, IsNextTreated}

-- ---- the tables of a drain

pub all_map : {A B : Type 0} (P : B → Type 0) (f : A → B) (xs : List A) → AllByRecursion P (map f xs) → AllByRecursion (λ (x : A). P (f x)) xs
all_map P f [] all = tt
all_map P f (x ∷ xs) all = (all.0, all_map P f xs all.1)

-- a table of a drain as a leaf holds it, with its blocks
abbrev pub full_table : DrainTable → Table
full_table t = record { contents = contents_of_parts t.parts; writes = t.parts.writes; pending = None; store = record { blocks = t.parts.blocks; skip = t.parts.skip; tail = [] } }

-- the images of their parts are those of what they hold
images_map : (tables : List DrainTable) → drained_images tables ≡ images_by_name (map (λ (t : DrainTable). t.name) tables) (map full_table tables)
images_map [] = refl
images_map (t ∷ tables) = ap (λ (l : List TableImage). image_of_parts t.name t.parts ∷ l) (images_map tables)

pub images_are : (names : List (List ℕ)) (closed : List Table) (tables : List DrainTable) → AreTablesOf names closed tables → drained_images tables ≡ images_by_name names (map full_table tables)
images_are names closed tables are = images_map tables ∙ ap (λ (own : List (List ℕ)). images_by_name own (map full_table tables)) are.names_are

-- their names are names of tables
pub names_are : (names : List (List ℕ)) (closed : List Table) (tables : List DrainTable) → AreTablesOf names closed tables → AllByRecursion IsName names → AllByRecursion (λ (t : DrainTable). IsName t.name) tables
names_are names closed tables are each = all_map IsName (λ (t : DrainTable). t.name) tables (subst (AllByRecursion IsName) (sym are.names_are) each)

-- the image of a drain of them
pub image_of : (x : Shutting) (drain : DrainState) (tables : List DrainTable) (end_ : ℕ) → end_ ≡ x.serving.owing.log.end
    → IsAdoptable drain.image (drained_images tables) end_ → IsAdoptable drain.image (drained_images tables) x.serving.owing.log.end
image_of x drain tables end_ place image = subst (λ (n : ℕ). IsAdoptable drain.image (drained_images tables) n) place image

-- a table that stands among them, as it was made
pub made_at : {A B : Type 0} (f : A → B) (xs : List A) (i : ℕ) (x : A) → slice_get xs i ≡ Some x → slice_get (map f xs) i ≡ Some (f x)
made_at f [] i x at = absurd (none-some x at)
made_at f (y ∷ xs) zero x at = ap (λ z. Some (f z)) (same_Some y x at)
made_at f (y ∷ xs) (suc i) x at = made_at f xs i x at

made_from : {A B : Type 0} (f : A → B) (xs : List A) (i : ℕ) (z : B) → slice_get (map f xs) i ≡ Some z → (x : A) × (slice_get xs i ≡ Some x) × (f x ≡ z)
made_from f [] i z at = absurd (none-some z at)
made_from f (x ∷ xs) zero z at = (x, refl, same_Some (f x) z at)
made_from f (x ∷ xs) (suc i) z at = made_from f xs i z at

-- where all are treated, the names of the sealed ones are all names
pub all_names : (x : Shutting) (names : List (List ℕ)) → AreSeated x.serving.seated → IsAllTreated x → names ≡ take (treated x) x.serving.seated.names → names ≡ x.serving.seated.names
all_names x names sits whole first =
    let count : length x.serving.seated.names ≡ length x.serving.seated.tables = ap (λ (l : List (List ℕ)). length l) (sym sits.names) ∙ length-map x.serving.seated.tables name_of in
    first ∙ take_all (treated x) x.serving.seated.names (omega (arith, count, treated_all x whole.shut, whole.all))

-- ---- nothing happens

pub all_treated : (x : Shutting) → IsAllTreated x → AllTreated x
all_treated x whole = ap (λ (b : Bool). if b then length x.closed - 1 else length x.closed) whole.shut ∙ whole.all

pub goes_none : (x : Serving) (m : Meaning) → ServingGoesOn x x m m
goes_none x m writes runs = record {
  later = writes;
  runs = runs;
  told = λ others. runs_told (watched_by x.seated) (watched_by x.seated) others x.owing.owner x.owing.log writes m runs (none_more m.clock m.clock (watched_by x.seated));
}

-- ---- the copy

begins : next.Begin ≢ next.Nothing
begins = λ same. cc

-- a table that was handed in nothing
content_is : (s : HistoryState) (t : DrainTable) → IsFoundation s → contents_of_parts t.parts ≡ content_from s.before s.writes → t.parts.writes ≡ write_count s → columns_count t.parts.blocks ≤ s.spare + added_count s.writes
    → IsContentOf s (full_table t)
content_is s t sound contents writes few = record {
  contents = contents ∙ ap (λ (c : Contents). content_from c s.writes) sound.before;
  writes = omega (arith, writes, sound.handed_in);
  few = omega (arith, few);
}

all_taken : (s : HistoryState) → IsFoundation s → s.taken ≡ write_count s → s.taken ≡ length s.writes
all_taken s sound taken = omega (arith, taken, sound.handed_in)

module _ (x : Shutting) (m : Meaning) (is : IsShutting x m) (sits : AreSeated x.serving.seated) (all : length x.closed ≡ length x.serving.seated.tables) (none : x.serving.owing.log.owed ≡ None)
    (drain : DrainState) (tables : List DrainTable) (are : AreTablesOf x.serving.seated.names x.closed tables) (few : AreFewShut x.serving.seated (drained_columns tables))
    (image : IsAdoptable drain.image (drained_images tables) x.serving.owing.log.end) (begin : drain.next ≡ next.Begin) where
  abbrev ws : List Watched
  ws = watched_by x.serving.seated

  abbrev full : List Table
  full = map full_table tables

  count : length tables ≡ length x.serving.seated.tables
  count = sym (length-map tables drained_table) ∙ ap (λ (l : List Table). length l) are.closed_are ∙ all

  closed_at : (place : ℕ) (t : Shared) (v : SeatView) → slice_get x.serving.seated.tables place ≡ Some t → slice_get x.serving.seated.seats place ≡ Some v → IsShutAndTaken (state_seen (base_seen t) v)
  closed_at place t v at was = is.closed_are place t v at was (omega (arith, slice_get_within x.serving.seated.tables place t at, all))

  -- what the watched table in a place is
  record IsTakenAt (place : ℕ) (w : Watched) : Type 0 where
    pub closed : IsShutAndTaken (now_of w)
    pub contents : (d : DrainTable) → slice_get tables place ≡ Some d
        → (contents_of_parts d.parts ≡ content_from (now_of w).before (now_of w).writes) × (d.parts.writes ≡ write_count (now_of w)) × (columns_count d.parts.blocks ≤ (now_of w).spare + added_count (now_of w).writes)

  taken_at : AreFounded x.serving.seated → (place : ℕ) (w : Watched) → slice_get ws place ≡ Some w → IsTakenAt place w
  taken_at founded place w found =
      let a = watch_at x.serving.seated place w found in
      let base : is_founded (base_seen a.0) ≡ true = watch_all (λ (s : Shared). is_founded (base_seen s) ≡ true) x.serving.seated.tables place a.0 founded a.2 in
      let same : state_seen (base_seen a.0) a.1 ≡ now_of w = sym (ap now_of a.4 ∙ now_seen a.0 a.1 base) in
      record {
        closed = subst IsShutAndTaken same (closed_at place a.0 a.1 a.2 a.3);
        contents = λ d at.
            let bare : slice_get x.closed place ≡ Some (drained_table d) =
            subst (λ (l : List Table). slice_get l place ≡ Some (drained_table d)) are.closed_are (made_at drained_table tables place d at) in
            let had = is.contents place a.0 a.1 a.2 a.3 (drained_table d) bare in
            let most : columns_count d.parts.blocks ≤ (state_seen (base_seen a.0) a.1).spare + added_count (state_seen (base_seen a.0) a.1).writes =
            few place a.0 a.1 a.2 a.3 base (columns_count d.parts.blocks) (made_at (λ (t : DrainTable). columns_count t.parts.blocks) tables place d at) in
            subst (λ (s : HistoryState). (contents_of_parts d.parts ≡ content_from s.before s.writes) × (d.parts.writes ≡ write_count s) × (columns_count d.parts.blocks ≤ s.spare + added_count s.writes)) same
            (had.contents, had.writes, most);
      }

  taken : AreFounded x.serving.seated → (writes : List ℕ → List Write) → Runs ws x.serving.owing.owner x.serving.owing.log writes m → AreTaken ws full
  taken founded writes runs = record {
    count = length-map tables full_table ∙ count ∙ sym (watch_length x.serving.seated sits);
    shut = λ place w found.
        let had : IsTakenAt place w = taken_at founded place w found in
        (had.closed.shut, all_taken (now_of w) (sound place w found) had.closed.taken);
    contents = λ place w c found at.
        let from = made_from full_table tables place c at in
        let had = (taken_at founded place w found).contents from.0 from.1 in
        subst (λ (t : Table). IsContentOf (now_of w) t) from.2 (content_is (now_of w) from.0 (sound place w found) had.0 had.1 had.2);
  }
    where
      sound : (place : ℕ) (w : Watched) → slice_get ws place ≡ Some w → IsFoundation (now_of w)
      sound place w found = now_sound m.clock w (each_at (IsWatched m.clock) ws runs.watched.each place w found)

  full_image : IsAdoptable drain.image (images_by_name (map (λ (w : Watched). w.name) ws) full) x.serving.owing.log.end
  full_image =
      subst (λ (names : List (List ℕ)). IsAdoptable drain.image (images_by_name names full) x.serving.owing.log.end) (sym (watch_names x.serving.seated sits))
      (subst (λ (images : List TableImage). IsAdoptable drain.image images x.serving.owing.log.end) (images_are x.serving.seated.names x.closed tables are) image)

  copies : AreFounded x.serving.seated → (writes : List ℕ → List Write) → Runs ws x.serving.owing.owner x.serving.owing.log writes m → Copies ws drain writes m
  copies founded writes runs =
      planned ws x.serving.owing.owner full x.serving.owing.log drain writes m runs none (taken founded writes runs) (record { image = full_image; begins = begin })

  pub copied_goes : AreFounded x.serving.seated → (writes : List ℕ → List Write) → Runs ws x.serving.owing.owner x.serving.owing.log writes m
      → GoesOnCopying x.serving.seated (record { seated = x.serving.seated; drain = drain }) m m
  copied_goes founded writes runs = record {
    writes = writes;
    copies = copies founded writes runs;
    told = λ others. copies_told ws ws others drain writes m (copies founded writes runs) (none_more m.clock m.clock ws);
  }

  pub copied_is : IsCopying (record { seated = x.serving.seated; drain = drain }) m
  copied_is = record {
    shut = λ place t v at was. (closed_at place t v at was).shut;
    spares = λ place t v at was. is.spares_closed place t v at was (omega (arith, slice_get_within x.serving.seated.tables place t at, all));
    more = λ same. begins (sym begin ∙ same);
    stands = λ founded. let old = is.stands founded in (old.0, (old.1.0, copies founded old.1.0 old.1.1));
  }

  pub is_copy : AllByRecursion (λ (t : DrainTable). IsParts t.parts) tables → has_no_room tables ≡ false → drain.heap ≡ all_columns tables
      → IsCopyOf x (record { seated = x.serving.seated; drain = drain })
  is_copy parts room heap = record {
    seated = refl;
    tables = tables;
    are = are;
    has_room = room;
    image = image;
    heap = heap;
    columns = drain_long x.serving.seated.tables x.serving.seated.seats x.closed tables drain.heap all (λ place t v c at was is_content. is.contents place t v at was c is_content) are.closed_are parts heap;
    few = λ founded.
        subst (λ (l : List (List ℕ)). length l ≤ columns_added x.serving.seated.tables x.serving.seated.seats) (sym heap)
        (drain_few x.serving.seated.tables x.serving.seated.seats tables count sits.count founded few);
    next = begin;
  }

-- ---- a step

-- one that did not end
pub err_step : {B : Type 0} (x y : Shutting) (b : B) (notes : List Note) (fault : PrepareFault) → treated x < length x.serving.seated.tables → IsNextTreated {T = Unit {0}} x y notes (Err fault)
    → IsTreatingStep {B = B} x notes (Err ((y, b), fault))
err_step x y b notes DiskFault more next = (more, next)
err_step x y b notes NoRoom more next = absurd next
err_step x y b notes NoMemory more next = next
