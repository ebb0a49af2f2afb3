-- What a deed hands over: at least the columns that the histories tell, and of a copy that did not end at most the rows
-- and cells that they tell behind the last entries, with the spare columns of the base.
use Rattle.std.proofs.Common.{◌≡◌, ℕ, suc, ◌+◌, ◌-◌, ◌<◌, ◌≤◌, Bool, false, List, [], ◌∷◌, ◌++◌, length, take, Some, None, sym, ap, subst, ◌∙◌, arith, sum_by, refl, ap₂}
use Rattle.std.specs.Prelude.{slice_get, slice_set}
use Rattle.std.proofs.lemmas.List.{append_assoc, length-append, take-append-le}
use Rattle.std.proofs.Math.Seq.{take-append_seam}
use Rattle.leaf_history.specs.Calls as call
use Rattle.leaf_history.specs.Replies as reply
use Rattle.leaf_history.specs.History.{Entry, HistoryState, LegalFrom, after, contents_held}
use Rattle.leaf_history.specs.Laws.{CallersKeep}
use Rattle.leaf_history.proofs.Histories.{LegalFrom-back, LegalFrom-front, after-append, others_keep, after_spare}
use Rattle.leaf_table.specs.Turns.{Shared, is_founded, start_of}
use Rattle.leaf_table.specs.Calls.{SeatView, Made, base_seen, entry_seen, seen_of, state_seen, SeesShut, state_of}
use Rattle.leaf_table.proofs.Knowing.{callers_of}
use Rattle.leaf_words.specs.declared.note.Note.{Note}
use Rattle.leaf_words.specs.declared.note.What.{What}
use Rattle.leaf_words.specs.declared.note.What.TheVariants as what
use Rattle.leaf_steward.specs.Seated.{Seated, AtEach}
use Rattle.leaf_steward.specs.Making.{EachNoted, IsHandedNote, MadeAs, Makes}
use Rattle.leaf_steward.proofs.WatchMakes.{makes_tables}
use Rattle.leaf_machine.specs.States.{columns_seen, bulk_added, columns_added}
use Rattle.table_state.specs.Tables.{least_columns, added_count}
use Rattle.transcript.specs.Histories.{BaseState, rows_before}
use Rattle.transcript.specs.Answers.{columns_handed, columns_of, last_of, writes_then}
use Rattle.leaf_moves.specs.Stage.{Leaf, seated_of}
use Rattle.leaf_moves.specs.Steps.{AreShut}
use Rattle.transcript_leaf.specs.Session.{AreToldOn, IsStewards, base_state_of_table, IsNoted}
use Rattle.transcript_leaf.specs.Acting.{Hands}
use Rattle.transcript_leaf.proofs.Lists.{get_set_other, get_set_same, same_some}
use Rattle.transcript_leaf.proofs.CountingNotes.{AreStewards, entry_stewards}
use Rattle.transcript_leaf.proofs.Wearing.{seen_length}
use Rattle.std.specs.List.{range_with_len}
use Rattle.std.proofs.lemmas.List.Sums.{sum_by-cons}
use Rattle.leaf_model.specs.declared.writes.Write.{Write}

-- ---- a table that is handed over

-- it holds then what the steward's seat had seen it hold: others change nothing of a shut table
rows_handed : (g : BaseState) (entries more : List Entry) (t : Shared) (clock number : ℕ) (v w : SeatView) → IsStewards v → Made (base_seen t) clock v call.Done reply.Noted w → number ≡ length w.seen
    → g ≡ base_state_of_table t → entries ≡ seen_of w ++ more → rows_before g entries number ≡ (contents_held (state_seen (base_seen t) v)).rows
rows_handed g entries more t clock number v w steward made counted base_state on =
    ap (λ (x : BaseState). (contents_held (after x.founded x.base (take (number - 1) entries))).rows) base_state
    ∙ (ap (λ (es : List Entry). (contents_held (after founded start es)).rows) (ap (λ (n : ℕ). take n entries) count ∙ (ap (λ (es : List Entry). take (length front) es) entries_are ∙ take-append_seam front (own ∷ more)))
    ∙ ap (λ (s : HistoryState). (contents_held s).rows) (after-append founded start (seen_of v) made.between ∙ still))
  where
    founded : Bool
    founded = is_founded (base_seen t)

    start : HistoryState
    start = start_of (base_seen t)

    front : List Entry
    front = seen_of v ++ made.between

    own : Entry
    own = entry_seen v.id clock call.Done reply.Noted

    entries_are : entries ≡ front ++ (own ∷ more)
    entries_are = on ∙ (ap (λ (es : List Entry). es ++ more) made.seen ∙ append_assoc front (own ∷ []) more)

    count : number - 1 ≡ length front
    count = omega (arith, counted, seen_length w, ap (λ (es : List Entry). length es) made.seen, length-append front (own ∷ []))

    legal_front : LegalFrom founded start front
    legal_front = LegalFrom-front founded start front (own ∷ []) (subst (λ (es : List Entry). LegalFrom founded start es) made.seen made.legal)

    keeps : CallersKeep (state_seen (base_seen t) v) (after founded (state_seen (base_seen t) v) made.between)
    keeps = others_keep founded (state_seen (base_seen t) v) made.between (LegalFrom-back founded start (seen_of v) made.between legal_front)
        (callers_of v made.between steward.id (let share = steward.share in omega (arith, share)) made.others)

    shut : (state_seen (base_seen t) v).live ≡ false
    shut = sym keeps.live ∙ (ap (λ (s : HistoryState). s.live) (sym (after-append founded start (seen_of v) made.between)) ∙ made.allowed.1)

    still : after founded (state_seen (base_seen t) v) made.between ≡ state_seen (base_seen t) v
    still = keeps.shut shut

handed_made : (t : Shared) (clock : ℕ) (v : SeatView) (w : What) (u : SeatView) → IsHandedNote w → MadeAs (base_seen t) clock v w u → Made (base_seen t) clock v call.Done reply.Noted u
handed_made t clock v what.Handed u is made = made
handed_made t clock v w u is made = absurd is

-- a seat behind which others are noted stays
kept_seat : (from to : ℕ) (x : Seated) (notes : List Note) (z : Seated) (place first count : ℕ) → place < first → Makes from to x notes z → EachNoted IsHandedNote first count notes
    → slice_get z.seats place ≡ slice_get x.seats place
kept_seat from to x notes z place first count low (Makes.none f u a ns b order none same) each = ap (λ (s : Seated). slice_get s.seats place) same
kept_seat from to x notes z place first count low (Makes.more f u a ns b clock note rest between order one makes is) each =
    let all : EachNoted IsHandedNote first count (note ∷ rest) = subst (λ (xs : List Note). EachNoted IsHandedNote first count xs) is each in
    kept_seat clock to between rest z place (suc first) all.0 (omega (arith, low)) makes all.4
    ∙ (ap (λ (s : Seated). slice_get s.seats place) one.now ∙ get_set_other x.seats note.table place one.after (λ same. apart (omega (arith, sym all.2 ∙ same)) low))
  where
    apart : first ≡ place → place < first → ⊥
    apart same below = omega (arith, same, below)

-- ---- all that are handed over

from_first : (j : ℕ) → 0 + j ≡ j
from_first j = omega arith

module _ (g : ℕ → BaseState) (h : ℕ → List Entry) (z : Seated) (told : AreToldOn g h z) where
  columns_are : (from to : ℕ) (x : Seated) (notes : List Note) (ts : List Shared) (vs : List SeatView) (place count : ℕ) → Makes from to x notes z → EachNoted IsHandedNote place count notes
      → AreStewards x → ((j : ℕ) → slice_get x.tables (place + j) ≡ slice_get ts j) → ((j : ℕ) → slice_get x.seats (place + j) ≡ slice_get vs j)
      → columns_handed g h notes ≤ columns_seen ts vs
  columns_are from to x notes ts vs place count (Makes.none f u a ns b order none same) each are tables seats = omega (arith, ap (λ (xs : List Note). columns_handed g h xs) none)
  columns_are from to x notes ts vs place count (Makes.more f u a ns b clock note rest between order one makes is) each are tables seats =
      let sum : columns_handed g h notes ≡ columns_handed g h (note ∷ rest) = ap (λ (xs : List Note). columns_handed g h xs) is in
      omega (arith, sum, by ts vs tables seats (λ us ws tables_are seats_are. columns_are clock to between rest us ws (suc place) all.0 makes all.4 stewards tables_are seats_are))
    where
      all : EachNoted IsHandedNote place count (note ∷ rest)
      all = subst (λ (xs : List Note). EachNoted IsHandedNote place count xs) is each

      here : place + 0 ≡ note.table
      here = omega (arith, all.2)

      at : slice_get x.tables (place + 0) ≡ Some one.table
      at = ap (λ (n : ℕ). slice_get x.tables n) here ∙ one.at

      was : slice_get x.seats (place + 0) ≡ Some one.before
      was = ap (λ (n : ℕ). slice_get x.seats n) here ∙ one.was

      same_tables : between.tables ≡ x.tables
      same_tables = ap (λ (s : Seated). s.tables) one.now

      apart : (j : ℕ) → note.table ≡ suc place + j → ⊥
      apart j same = omega (arith, same, all.2)

      further : (j : ℕ) → suc place + j ≡ place + suc j
      further j = omega arith

      later : (j : ℕ) → slice_get between.seats (suc place + j) ≡ slice_get x.seats (place + suc j)
      later j = ap (λ (s : Seated). slice_get s.seats (suc place + j)) one.now
          ∙ (get_set_other x.seats note.table (suc place + j) one.after (apart j) ∙ ap (λ (n : ℕ). slice_get x.seats n) (further j))

      stewards : AreStewards between
      stewards = entry_stewards clock x note between one are

      -- the seat stays what it is behind its entry
      now : slice_get z.seats place ≡ Some one.after
      now = kept_seat clock to between rest z place (suc place) all.0 (omega arith) makes all.4
          ∙ (ap (λ (s : Seated). slice_get s.seats place) one.now
          ∙ subst (λ (n : ℕ). slice_get (slice_set x.seats note.table one.after) n ≡ Some one.after) all.2 (get_set_same x.seats note.table one.before one.after one.was))

      at_end : slice_get z.tables place ≡ Some one.table
      at_end = ap (λ (ts : List Shared). slice_get ts place) (makes_tables clock to between rest z makes ∙ same_tables) ∙ (ap (λ (n : ℕ). slice_get x.tables n) (sym all.2) ∙ one.at)

      rows : rows_before (g note.table) (h note.table) note.number ≡ (contents_held (state_seen (base_seen one.table) one.before)).rows
      rows =
          let goes = told.on place one.after now in
          rows_handed (g note.table) (h note.table) goes.0 one.table clock note.number one.before one.after (are note.table one.before one.was)
          (handed_made one.table clock one.before note.what one.after all.3 one.made) one.number
          (ap g all.2 ∙ told.known_base place one.table one.after at_end now)
          (ap h all.2 ∙ goes.1)

      first : least_columns (rows_before (g note.table) (h note.table) note.number) ≡ least_columns (contents_held (state_seen (base_seen one.table) one.before)).rows
      first = ap least_columns rows

      by : (us : List Shared) (ws : List SeatView) → ((j : ℕ) → slice_get x.tables (place + j) ≡ slice_get us j) → ((j : ℕ) → slice_get x.seats (place + j) ≡ slice_get ws j)
          → ((us' : List Shared) (ws' : List SeatView) → ((j : ℕ) → slice_get between.tables (suc place + j) ≡ slice_get us' j) → ((j : ℕ) → slice_get between.seats (suc place + j) ≡ slice_get ws' j)
          → columns_handed g h rest ≤ columns_seen us' ws')
          → columns_handed g h (note ∷ rest) ≤ columns_seen us ws
      by [] ws tables_are seats_are further_are = absurd (none_there (sym at ∙ tables_are 0))
        where
          none_there : Some one.table ≡ None → ⊥
          none_there e = cc
      by (t ∷ us) [] tables_are seats_are further_are = absurd (none_there (sym was ∙ seats_are 0))
        where
          none_there : Some one.before ≡ None → ⊥
          none_there e = cc
      by (t ∷ us) (v ∷ ws) tables_are seats_are further_are =
          let table : one.table ≡ t = same_some one.table t (sym at ∙ tables_are 0) in
          let seat : one.before ≡ v = same_some one.before v (sym was ∙ seats_are 0) in
          let same : least_columns (contents_held (state_seen (base_seen one.table) one.before)).rows ≡ least_columns (contents_held (state_seen (base_seen t) v)).rows =
          ap (λ (s : Shared). least_columns (contents_held (state_seen (base_seen s) one.before)).rows) table ∙ ap (λ (s : SeatView). least_columns (contents_held (state_seen (base_seen t) s)).rows) seat in
          let others = further_are us ws
          (λ j. ap (λ (ts : List Shared). slice_get ts (suc place + j)) same_tables ∙ (ap (λ (n : ℕ). slice_get x.tables n) (further j) ∙ tables_are (suc j)))
          (λ j. later j ∙ seats_are (suc j)) in
          omega (arith, first, same, others)

  -- all of a leaf's
  pub handed_columns : (from to : ℕ) (x : Seated) (notes : List Note) (count : ℕ) → Makes from to x notes z → EachNoted IsHandedNote 0 count notes → AreStewards x
      → columns_handed g h notes ≤ columns_seen x.tables x.seats
  handed_columns from to x notes count makes each are =
      columns_are from to x notes x.tables x.seats 0 count makes each are
      (λ j. ap (λ (k : ℕ). slice_get x.tables k) (from_first j)) (λ j. ap (λ (k : ℕ). slice_get x.seats k) (from_first j))

-- a deed that hands nothing over
pub hands_nothing : (leaf : Leaf) → Hands leaf
hands_nothing leaf = record { handed = []; columns = 0; most = 0; bulk = 0; told = λ base_states histories on. omega arith; few = λ base_states histories notes on noted. (omega arith, omega arith) }

module _ (g : ℕ → BaseState) (h : ℕ → List Entry) (notes : List Note) where
  -- the writes of a table, as its seat has seen them
  writes_seen : (place : ℕ) (t : Shared) (v : SeatView) (more : List Entry) → g place ≡ base_state_of_table t → h place ≡ seen_of v ++ more → IsNoted notes place t v → SeesShut t v
      → writes_then g h notes place ≡ (state_seen (base_seen t) v).writes
  writes_seen place t v more base_state on told shut =
      ap (λ (x : BaseState). (after x.founded x.base (take (last_of place notes) (h place))).writes) base_state
      ∙ (ap (λ (es : List Entry). (state_of (base_seen t) es).writes) (ap (λ (es : List Entry). take (last_of place notes) es) on ∙ take-append-le (last_of place notes) (seen_of v) more told.0)
      ∙ told.1 shut)

  -- and its spare columns
  spare_seen : (place : ℕ) (t : Shared) (v : SeatView) → g place ≡ base_state_of_table t → (g place).base.spare ≡ (state_seen (base_seen t) v).spare
  spare_seen place t v base_state = ap (λ (x : BaseState). x.base.spare) base_state ∙ sym (after_spare (is_founded (base_seen t)) (start_of (base_seen t)) (seen_of v))

  abbrev AreSeen : List Shared → List SeatView → ℕ → Type 0
  AreSeen ts vs place = (j k : ℕ) (t : Shared) (v : SeatView) → place + j ≡ k → slice_get ts j ≡ Some t → slice_get vs j ≡ Some v
      → (writes_then g h notes k ≡ (state_seen (base_seen t) v).writes) × ((g k).base.spare ≡ (state_seen (base_seen t) v).spare)

  -- what any measure of the writes and the spare columns comes to
  places_sum : (f : ℕ → List Write → ℕ) (sum : List Shared → List SeatView → ℕ)
      → ((vs : List SeatView) → sum [] vs ≡ 0) → ((t : Shared) (ts : List Shared) → sum (t ∷ ts) [] ≡ 0)
      → ((t : Shared) (ts : List Shared) (v : SeatView) (vs : List SeatView) → sum (t ∷ ts) (v ∷ vs) ≡ f (state_seen (base_seen t) v).spare (state_seen (base_seen t) v).writes + sum ts vs)
      → (ts : List Shared) (vs : List SeatView) (place : ℕ) → AreSeen ts vs place
      → sum ts vs ≤ sum_by (λ table. f (g table).base.spare (writes_then g h notes table)) (range_with_len place (length ts))
  places_sum f sum none short step [] vs place seen = omega (arith, none vs)
  places_sum f sum none short step (t ∷ ts) [] place seen = omega (arith, short t ts)
  places_sum f sum none short step (t ∷ ts) (v ∷ vs) place seen =
      let both = seen 0 place t v (omega arith) refl refl in
      let here : f (g place).base.spare (writes_then g h notes place) ≡ f (state_seen (base_seen t) v).spare (state_seen (base_seen t) v).writes = ap₂ f both.1 both.0 in
      let others = places_sum f sum none short step ts vs (place + 1) (λ j k u w is at sat. seen (suc j) k u w (omega (arith, is)) at sat) in
      let first = sum_by-cons (λ table. f (g table).base.spare (writes_then g h notes table)) place (range_with_len (place + 1) (length ts)) in
      omega (arith, step t ts v vs, here, others, first)

  -- each place of a leaf's tables
  all_seen : (x : Seated) → AreToldOn g h x → AtEach (IsNoted notes) x → AreShut x → AreSeen x.tables x.seats 0
  all_seen x told noted shut j k t v is at sat =
      let same : k ≡ j = omega (arith, is) in
      let table : slice_get x.tables k ≡ Some t = ap (λ (n : ℕ). slice_get x.tables n) same ∙ at in
      let seat : slice_get x.seats k ≡ Some v = ap (λ (n : ℕ). slice_get x.seats n) same ∙ sat in
      let on = told.on k v seat in
      (writes_seen k t v on.0 (told.known_base k t v table seat) on.1 (noted k t v table seat) (shut k t v table seat), spare_seen k t v (told.known_base k t v table seat))

  pub added_columns : (x : Seated) → AreToldOn g h x → AtEach (IsNoted notes) x → AreShut x → columns_added x.tables x.seats ≤ (columns_of g h (length x.tables) notes).most
  added_columns x told noted shut = places_sum (λ spare ws. spare + added_count ws) columns_added (λ vs. refl) (λ t ts. refl) (λ t ts v vs. refl) x.tables x.seats 0 (all_seen x told noted shut)

  pub added_bulk : (x : Seated) → AreToldOn g h x → AtEach (IsNoted notes) x → AreShut x → bulk_added x.tables x.seats ≤ (columns_of g h (length x.tables) notes).bulk
  added_bulk x told noted shut =
      places_sum (λ spare ws. length ws + spare + added_count ws) bulk_added (λ vs. refl) (λ t ts. refl) (λ t ts v vs. refl) x.tables x.seats 0 (all_seen x told noted shut)

-- a copy that did not end hands nothing over, and has at most these columns
abbrev pub hands_most : (leaf : Leaf) → AreShut (seated_of leaf) → Hands leaf
hands_most leaf shut = record {
  handed = [];
  columns = 0;
  most = columns_added (seated_of leaf).tables (seated_of leaf).seats;
  bulk = 0;
  told = λ base_states histories on. omega arith;
  few = λ base_states histories notes on noted. (added_columns base_states histories notes (seated_of leaf) on noted shut, omega arith);
}

-- nor does one that had no room, whose tables have so many rows, cells and writes
abbrev pub hands_bulk : (leaf : Leaf) → AreShut (seated_of leaf) → Hands leaf
hands_bulk leaf shut = record {
  handed = [];
  columns = 0;
  most = 0;
  bulk = bulk_added (seated_of leaf).tables (seated_of leaf).seats;
  told = λ base_states histories on. omega arith;
  few = λ base_states histories notes on noted. (omega arith, added_bulk base_states histories notes (seated_of leaf) on noted shut);
}
