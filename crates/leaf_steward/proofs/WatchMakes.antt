-- Entries that were made one after another, and where they leave the seat at each place.
use Rattle.std.proofs.Common.{◌≡◌, ℕ, zero, suc, ◌+◌, ◌<◌, ◌≤◌, true, List, [], ◌∷◌, ◌++◌, length, Some, refl, sym, ap, subst, ◌∙◌, arith, inl, inr, le_refl, le_trans, append-nil}
use Rattle.std.specs.Prelude.{slice_get, slice_set}
use Rattle.std.proofs.lemmas.Bool.{cases_eq}
use Rattle.std.proofs.lemmas.Option.{none-some, same_Some}
use Rattle.table_state.specs.Tables.{Table}
use Rattle.leaf_history.specs.Calls.{Call}
use Rattle.leaf_history.specs.Replies.{EntryReply}
use Rattle.leaf_table.specs.Turns.{Shared, is_founded}
use Rattle.leaf_table.specs.Calls.{SeatView, base_seen}
use Rattle.crash_moments.specs.Watched.{Watched}
use Rattle.crash_moments.specs.Told.{SeenMore}
use Rattle.crash_moments.proofs.Telling.{between_append, more_on, none_more}
use Rattle.crash_states.specs.Entries.{Enters, stewards}
use Rattle.crash_states.proofs.Meeting.{callers_between}
use Rattle.leaf_words.specs.declared.note.Note.{Note}
use Rattle.leaf_words.specs.declared.note.What.{What}
use Rattle.leaf_words.specs.declared.note.What.TheVariants.{Opened}
use Rattle.leaf_steward.specs.Seated.{Seated, AreSeated, AreFounded, watched, watched_by, with_seat}
use Rattle.leaf_steward.specs.Making.{MadeAs, Makes, OneEntry, EachNoted, OpenedNotes}
use Rattle.leaf_steward.proofs.Seating.{same_at, set_get, set_other}
pub use Rattle.leaf_steward.proofs.Keeping.{makes_tables}
use Rattle.leaf_steward.proofs.Keeping.{SomeEntry, entry_seated, entry_tables, founded_as, makes_order, some_entry}
use Rattle.leaf_steward.proofs.WatchPlaces.{watch_all, get_watch, set_watch}
use Rattle.leaf_steward.proofs.WatchEntries.{made_enters}

-- ---- one entry

-- the table in one place has an entry more
enters_more : (from to clock place : ℕ) (c : Call) (r : EntryReply) (w w' : Watched) (ws : List Watched) → from ≤ clock → clock ≤ to → slice_get ws place ≡ Some w → Enters clock c r w w' → SeenMore from to ws (slice_set ws place w')
enters_more from to clock place c r w w' [] low high at enters = absurd (none-some w at)
enters_more from to clock zero c r w w' (v ∷ ws) low high at enters =
    let same : w ≡ v = sym (same_Some v w at) in
    subst (λ (u : Watched). SeenMore from to (u ∷ ws) (w' ∷ ws)) same (
      (
        enters.name,
        enters.base,
        (enters.between ++ stewards clock c r ∷ [], enters.seen, between_append from to enters.between (stewards clock c r ∷ []) (callers_between from to enters.between enters.others) ((λ steward. (low, high)), tt)),
      ),
      none_more from to ws,
    )
enters_more from to clock (suc place) c r w w' (v ∷ ws) low high at enters = ((refl, refl, ([], sym (append-nil v.seen), tt)), enters_more from to clock place c r w w' ws low high at enters)

entry_more : (clock : ℕ) (x : Seated) (note : Note) (y : Seated) → OneEntry clock x note y → (from to : ℕ) → from ≤ clock → clock ≤ to → AreSeated x → AreFounded x → SeenMore from to (watched_by x) (watched_by y)
entry_more clock x note y one from to low high seated founded =
    let made : SomeEntry (base_seen one.table) clock one.before one.after = some_entry (base_seen one.table) clock one.before note.what one.after one.made in
    let is_base : is_founded (base_seen one.table) ≡ true = watch_all (λ (t : Shared). is_founded (base_seen t) ≡ true) x.tables note.table one.table founded one.at in
    let enters : Enters clock made.call made.reply (watched one.table one.before) (watched one.table one.after) =
    (made_enters one.table one.before one.after clock made.call made.reply is_base (seated.each note.table one.table one.before one.at one.was) made.made).0 in
    let now : watched_by y ≡ slice_set (watched_by x) note.table (watched one.table one.after) = ap (λ (s : Seated). watched_by s) one.now ∙ set_watch x.tables x.seats note.table one.table one.after one.at in
    subst (λ (ws : List Watched). SeenMore from to (watched_by x) ws) (sym now)
    (enters_more from to clock note.table made.call made.reply (watched one.table one.before) (watched one.table one.after) (watched_by x) low high (get_watch x.tables x.seats note.table one.table one.before one.at one.was) enters)

-- ---- entries, one after another

pub makes_more : (from to : ℕ) (x : Seated) (notes : List Note) (y : Seated) → AreSeated x → AreFounded x → Makes from to x notes y → SeenMore from to (watched_by x) (watched_by y)
makes_more from to x notes y seated founded (Makes.none f u a ns b low no_note same) = subst (λ (s : Seated). SeenMore from to (watched_by x) (watched_by s)) (sym same) (none_more from to (watched_by x))
makes_more from to x notes y seated founded (Makes.more f u a ns b clock note rest between low one makes all) =
    let on : clock ≤ to = makes_order clock to between rest y makes in
    more_on from clock to (watched_by x) (watched_by between) (watched_by y) low on (entry_more clock x note between one from clock low (le_refl clock) seated founded)
    (makes_more clock to between rest y (entry_seated clock x note between seated one) (founded_as x between (entry_tables clock x note between one) founded) makes)

-- ---- each of so many tables, from a place on, has one entry

-- what each was noted as may depend on its place
abbrev pub NotedAs : (ℕ → What → Type 0) → ℕ → ℕ → List Note → Type 0
NotedAs P place count [] = count ≡ 0
NotedAs P place count (note ∷ notes) = (fewer : ℕ) × (count ≡ suc fewer) × (note.table ≡ place) × P place note.what × NotedAs P (suc place) fewer notes

pub each_noted : (P : What → Type 0) (place count : ℕ) (notes : List Note) → EachNoted P place count notes → NotedAs (λ i what. P what) place count notes
each_noted P place count [] each = each
each_noted P place count (note ∷ notes) each = (each.0, each.1, each.2, each.3, each_noted P (suc place) each.0 notes each.4)

-- opened with as many writes as the table in that place has
abbrev pub IsOpenedAs : List Table → ℕ → What → Type 0
IsOpenedAs tables place what = (t : Table) × (slice_get tables place ≡ Some t) × (what ≡ Opened t.writes)

pub opened_noted : (tables : List Table) (place : ℕ) (ts : List Table) (notes : List Note) → ((i : ℕ) (t : Table) → slice_get ts i ≡ Some t → slice_get tables (place + i) ≡ Some t)
    → OpenedNotes place ts notes → NotedAs (IsOpenedAs tables) place (length ts) notes
opened_noted tables place [] notes part each = subst (λ (l : List Note). NotedAs (IsOpenedAs tables) place 0 l) (sym each) refl
opened_noted tables place (t ∷ ts) [] part each = absurd each
opened_noted tables place (t ∷ ts) (note ∷ notes) part each = (
  length ts,
  refl,
  each.0,
  (t, subst (λ (k : ℕ). slice_get tables k ≡ Some t) (plus_none place) (part zero t refl), each.1),
  opened_noted tables (suc place) ts notes (λ i u at. subst (λ (k : ℕ). slice_get tables k ≡ Some u) (plus_next place i) (part (suc i) u at)) each.2,
)
  where
    plus_none : (n : ℕ) → n + 0 ≡ n
    plus_none n = omega arith

    plus_next : (n i : ℕ) → n + suc i ≡ suc n + i
    plus_next n i = omega arith

-- the entry of one of them
pub record MadeAt (P : ℕ → What → Type 0) (from to place : ℕ) (t : Shared) (v w : SeatView) : Type 0 where
  pub clock : ℕ
  pub low : from ≤ clock
  pub high : clock ≤ to
  pub what : What
  pub noted : P place what
  pub made : MadeAs (base_seen t) clock v what w

-- the tables before them are as they were, and each of them has its entry
pub record Went (P : ℕ → What → Type 0) (from to first count : ℕ) (x y : Seated) : Type 0 where
  pub before : (place : ℕ) → place < first → slice_get y.seats place ≡ slice_get x.seats place
  pub noted : (place : ℕ) (t : Shared) (v w : SeatView) → first ≤ place → place < first + count
      → slice_get x.tables place ≡ Some t → slice_get x.seats place ≡ Some v → slice_get y.seats place ≡ Some w → MadeAt P from to place t v w

no_notes : (P : ℕ → What → Type 0) (first count : ℕ) (notes : List Note) → notes ≡ [] → NotedAs P first count notes → count ≡ 0
no_notes P first count notes none noted = subst (λ (l : List Note). NotedAs P first count l) none noted

went_none : (P : ℕ → What → Type 0) (from to first count : ℕ) (x y : Seated) → y ≡ x → count ≡ 0 → Went P from to first count x y
went_none P from to first count x y same none = record {
  before = λ place lower. ap (λ (s : Seated). slice_get s.seats place) same;
  noted = λ place t v w least below here was is. absurd (omega (arith, least, below, none));
}

-- the first of them has its entry, and then the others
went_more : (P : ℕ → What → Type 0) (from to first count fewer clock : ℕ) (x : Seated) (note : Note) (between y : Seated) → count ≡ suc fewer → note.table ≡ first → P first note.what
    → from ≤ clock → clock ≤ to → OneEntry clock x note between → Went P clock to (suc first) fewer between y → Went P from to first count x y
went_more P from to first count fewer clock x note between y more place_is kind low high one went = record { before = old; noted = each }
  where
    now : between ≡ with_seat x first one.after
    now = one.now ∙ ap (λ (k : ℕ). with_seat x k one.after) place_is

    others : (place : ℕ) → (first ≡ place → ⊥) → slice_get between.seats place ≡ slice_get x.seats place
    others place apart = ap (λ (s : Seated). slice_get s.seats place) now ∙ set_other x.seats first place one.after (λ e. apart (sym e))

    old : (place : ℕ) → place < first → slice_get y.seats place ≡ slice_get x.seats place
    old place lower = went.before place (omega (arith, lower)) ∙ others place (λ e. omega (arith, e, lower))

    -- the entry that was made first is that of the first place
    here : (t : Shared) (v w : SeatView) → slice_get x.tables first ≡ Some t → slice_get x.seats first ≡ Some v → slice_get y.seats first ≡ Some w → MadeAt P from to first t v w
    here t v w at was is =
        let table : one.table ≡ t = same_at x.tables first one.table t (subst (λ (k : ℕ). slice_get x.tables k ≡ Some one.table) place_is one.at) at in
        let before : one.before ≡ v = same_at x.seats first one.before v (subst (λ (k : ℕ). slice_get x.seats k ≡ Some one.before) place_is one.was) was in
        let put : slice_get (slice_set x.seats first one.after) first ≡ Some w = ap (λ (s : Seated). slice_get s.seats first) (sym now) ∙ sym (went.before first (omega arith)) ∙ is in
        let after : one.after ≡ w = same_at (slice_set x.seats first one.after) first one.after w (set_get x.seats first v one.after was) put in
        let by_table : MadeAs (base_seen t) clock one.before note.what one.after = subst (λ (u : Shared). MadeAs (base_seen u) clock one.before note.what one.after) table one.made in
        let by_seat : MadeAs (base_seen t) clock v note.what one.after = subst (λ (u : SeatView). MadeAs (base_seen t) clock u note.what one.after) before by_table in
        record { clock = clock; low = low; high = high; what = note.what; noted = kind; made = subst (λ (u : SeatView). MadeAs (base_seen t) clock v note.what u) after by_seat }

    each : (place : ℕ) (t : Shared) (v w : SeatView) → first ≤ place → place < first + count
        → slice_get x.tables place ≡ Some t → slice_get x.seats place ≡ Some v → slice_get y.seats place ≡ Some w → MadeAt P from to place t v w
    each place t v w least below at was is = elim (cases_eq first place) [
      | inl same ↦
          subst (λ (k : ℕ). MadeAt P from to k t v w) same
          (here t v w (subst (λ (k : ℕ). slice_get x.tables k ≡ Some t) (sym same) at) (subst (λ (k : ℕ). slice_get x.seats k ≡ Some v) (sym same) was) (subst (λ (k : ℕ). slice_get y.seats k ≡ Some w) (sym same) is))
      | inr apart ↦
          let later : MadeAt P clock to place t v w =
          went.noted place t v w (omega (arith, least, apart)) (omega (arith, below, more)) (ap (λ (ts : List Shared). slice_get ts place) (entry_tables clock x note between one) ∙ at) (others place apart ∙ was) is in
          record { clock = later.clock; low = le_trans low later.low; high = later.high; what = later.what; noted = later.noted; made = later.made }
    ]

pub makes_went : (P : ℕ → What → Type 0) (from to first count : ℕ) (x : Seated) (notes : List Note) (y : Seated) → Makes from to x notes y → NotedAs P first count notes → Went P from to first count x y
makes_went P from to first count x notes y (Makes.none f u a ns b low no_note same) noted = went_none P from to first count x y same (no_notes P first count notes no_note noted)
makes_went P from to first count x notes y (Makes.more f u a ns b clock note rest between low one makes all) noted =
    let each : NotedAs P first count (note ∷ rest) = subst (λ (l : List Note). NotedAs P first count l) all noted in
    went_more P from to first count each.0 clock x note between y each.1 each.2 each.3 low (makes_order clock to between rest y makes) one (makes_went P clock to (suc first) each.0 between rest y makes each.4)
