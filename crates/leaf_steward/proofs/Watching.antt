-- What the steward's seats have seen, as tables that are watched.
use Rattle.std.proofs.Common.{◌≡◌, ℕ, ◌+◌, ◌<◌, true, List, length, map, Option, Some, sym, ap, subst, ◌∙◌, arith, inl, inr}
use Rattle.std.specs.Prelude.{slice_get, slice_set}
use Rattle.std.proofs.lemmas.Bool.{cases_lt}
use Rattle.std.proofs.lemmas.Option.{slice_get_within}
use Rattle.leaf_model.specs.declared.writes.Write.{Write}
use Rattle.table_state.specs.Tables.{Table}
use Rattle.leaf_model.specs.Content.{Contents, content}
use Rattle.leaf_history.specs.Calls as call
use Rattle.leaf_history.specs.Replies as reply
use Rattle.leaf_history.specs.History.{HistoryState}
use Rattle.leaf_table.specs.declared.base.TableBase.{TableBase}
use Rattle.leaf_table.specs.Turns.{Shared, is_founded}
use Rattle.leaf_table.specs.Calls.{SeatView, Made, base_seen, name_of, SeesShut}
use Rattle.crash_moments.specs.Watched.{IsFoundation, Watched, now_of}
use Rattle.crash_states.specs.Standing.{MayHave}
use Rattle.crash_states.specs.Entries.{ShutsAll, OpensAll, HandsAll}
use Rattle.leaf_words.specs.declared.note.Note.{Note}
use Rattle.leaf_words.specs.declared.note.What.{What}
use Rattle.leaf_words.specs.declared.note.What.TheVariants.{Opened, Took, Flushed, Closed, Handed}
use Rattle.leaf_steward.specs.Seated.{Seated, IsSeated, AreSeated, AreFounded, AtEach, watched, watched_by, with_seat}
use Rattle.leaf_steward.specs.Making.{MadeAs, Makes, EachNoted, IsClosedNote, IsHandedNote, OpenedNotes}
use Rattle.leaf_steward.proofs.Seating.{same_at}
use Rattle.leaf_steward.proofs.Keeping.{makes_seated, makes_tables}
use Rattle.leaf_steward.proofs.WatchPlaces.{watch_all, get_watch, at_watch, set_watch, names_watch, length_watch, pair_watch}
use Rattle.leaf_steward.proofs.WatchEntries.{made_enters, now_seen, watch_contents}
use Rattle.leaf_steward.proofs.WatchMakes.{IsOpenedAs, MadeAt, Went, each_noted, opened_noted, makes_went}
use Rattle.leaf_steward.proofs.WatchLists.{ShutsOne, OpensOne, HandsOne, pairs_all}

-- places
pub watch_get : (x : Seated) (place : ℕ) (t : Shared) (v : SeatView) → slice_get x.tables place ≡ Some t → slice_get x.seats place ≡ Some v → slice_get (watched_by x) place ≡ Some (watched t v)
watch_get x place t v at sat = get_watch x.tables x.seats place t v at sat

pub watch_at : (x : Seated) (place : ℕ) (w : Watched) → slice_get (watched_by x) place ≡ Some w
    → (t : Shared) × (v : SeatView) × (slice_get x.tables place ≡ Some t) × (slice_get x.seats place ≡ Some v) × (w ≡ watched t v)
watch_at x place w at = at_watch x.tables x.seats place w at

pub watch_set : (x : Seated) (place : ℕ) (t : Shared) (v : SeatView) → slice_get x.tables place ≡ Some t → watched_by (with_seat x place v) ≡ slice_set (watched_by x) place (watched t v)
watch_set x place t v at = set_watch x.tables x.seats place t v at

pub watch_names : (x : Seated) → AreSeated x → map (λ (w : Watched). w.name) (watched_by x) ≡ x.names
watch_names x seated = names_watch x.tables x.seats seated.count ∙ seated.names

pub watch_length : (x : Seated) → AreSeated x → length (watched_by x) ≡ length x.tables
watch_length x seated = length_watch x.tables x.seats seated.count

-- ---- the entries of each table, as what the seats have learned

same_length : (clock : ℕ) (x : Seated) (notes : List Note) (y : Seated) → AreSeated x → Makes clock clock x notes y → length (watched_by y) ≡ length (watched_by x)
same_length clock x notes y seated makes =
    watch_length y (makes_seated clock clock x notes y seated makes) ∙ ap (λ (ts : List Shared). length ts) (makes_tables clock clock x notes y makes) ∙ sym (watch_length x seated)

founded_at : (x : Seated) (place : ℕ) (t : Shared) → AreFounded x → slice_get x.tables place ≡ Some t → is_founded (base_seen t) ≡ true
founded_at x place t founded at = watch_all (λ (s : Shared). is_founded (base_seen s) ≡ true) x.tables place t founded at

-- what is made between a moment and the same is made then
made_then : (P : ℕ → What → Type 0) (clock place : ℕ) (t : Shared) (v w : SeatView) → (m : MadeAt P clock clock place t v w) → MadeAs (base_seen t) clock v m.what w
made_then P clock place t v w m =
    let then : m.clock ≡ clock = omega (arith, m.low, m.high) in
    subst (λ (k : ℕ). MadeAs (base_seen t) k v m.what w) then m.made

is_shut : (base : Option TableBase) (clock : ℕ) (v w : SeatView) (what : What) → IsClosedNote what → MadeAs base clock v what w → (n : ℕ) × Made base clock v call.Shut (reply.Counted n) w
is_shut base clock v w (Opened n) closed made = absurd closed
is_shut base clock v w (Took n) closed made = absurd closed
is_shut base clock v w (Flushed n) closed made = absurd closed
is_shut base clock v w (Closed n) closed made = (n, made)
is_shut base clock v w Handed closed made = absurd closed

is_done : (base : Option TableBase) (clock : ℕ) (v w : SeatView) (what : What) → IsHandedNote what → MadeAs base clock v what w → Made base clock v call.Done reply.Noted w
is_done base clock v w (Opened n) handed made = absurd handed
is_done base clock v w (Took n) handed made = absurd handed
is_done base clock v w (Flushed n) handed made = absurd handed
is_done base clock v w (Closed n) handed made = absurd handed
is_done base clock v w Handed handed made = made

-- each place, in turn
shuts_one : (clock first count : ℕ) (x y : Seated) → AreSeated x → AreFounded x → Went (λ i what. IsClosedNote what) clock clock first count x y → first + count ≡ length x.tables → AtEach (λ place t v. place < first → SeesShut t v) x
    → (place : ℕ) (t : Shared) (v w : SeatView) → slice_get x.tables place ≡ Some t → slice_get x.seats place ≡ Some v → slice_get y.seats place ≡ Some w → ShutsOne clock (watched t v) (watched t w)
shuts_one clock first count x y seated founded went all shut place t v w here was is = elim (cases_lt place first) [
  | inl lower ↦
      let same : w ≡ v = same_at x.seats place w v (sym (went.before place lower) ∙ is) was in
      inl (ap (λ (s : HistoryState). s.live) (now_seen t v (founded_at x place t founded here)) ∙ shut place t v here was lower, ap (λ (u : SeatView). watched t u) same)
  | inr least ↦
      let m : MadeAt (λ i what. IsClosedNote what) clock clock place t v w = went.noted place t v w least (omega (arith, slice_get_within x.tables place t here, all)) here was is in
      let made = is_shut (base_seen t) clock v w m.what m.noted (made_then (λ i what. IsClosedNote what) clock place t v w m) in
      inr (made.0, (made_enters t v w clock call.Shut (reply.Counted made.0) (founded_at x place t founded here) (seated.each place t v here was) made.1).0)
]

hands_one : (clock : ℕ) (x y : Seated) → AreSeated x → AreFounded x → Went (λ i what. IsHandedNote what) clock clock 0 (length x.tables) x y
    → (place : ℕ) (t : Shared) (v w : SeatView) → slice_get x.tables place ≡ Some t → slice_get x.seats place ≡ Some v → slice_get y.seats place ≡ Some w → HandsOne clock (watched t v) (watched t w)
hands_one clock x y seated founded went place t v w here was is =
    let m : MadeAt (λ i what. IsHandedNote what) clock clock place t v w = went.noted place t v w (omega arith) (omega (arith, slice_get_within x.tables place t here)) here was is in
    let made = is_done (base_seen t) clock v w m.what m.noted (made_then (λ i what. IsHandedNote what) clock place t v w m) in
    (made_enters t v w clock call.Done reply.Noted (founded_at x place t founded here) (seated.each place t v here was) made).0

opens_one : (clock : ℕ) (x y : Seated) (tables : List Table) (writes : List ℕ → List Write) → AreSeated x → AreFounded x → Went (IsOpenedAs tables) clock clock 0 (length tables) x y → length tables ≡ length x.tables
    → ((place : ℕ) (w : Watched) → slice_get (watched_by x) place ≡ Some w → IsFoundation (now_of w))
    → ((place : ℕ) (w : Watched) (t : Table) → slice_get (watched_by x) place ≡ Some w → slice_get tables place ≡ Some t → t.writes ≡ length (writes w.name))
    → ((place : ℕ) (w : Watched) → slice_get (watched_by x) place ≡ Some w → MayHave (writes w.name) (now_of w))
    → (place : ℕ) (t : Shared) (v w : SeatView) → slice_get x.tables place ≡ Some t → slice_get x.seats place ≡ Some v → slice_get y.seats place ≡ Some w → OpensOne clock writes (watched t v) (watched t w)
opens_one clock x y tables writes seated founded went count sound are may place t v w here was is =
    let m : MadeAt (IsOpenedAs tables) clock clock place t v w = went.noted place t v w (omega arith) (omega (arith, slice_get_within x.tables place t here, count)) here was is in
    let n : ℕ = m.noted.0.writes in
    let made : MadeAs (base_seen t) clock v (Opened n) w = subst (λ (what : What). MadeAs (base_seen t) clock v what w) m.noted.2 (made_then (IsOpenedAs tables) clock place t v w m) in
    let there : slice_get (watched_by x) place ≡ Some (watched t v) = watch_get x place t v here was in
    let own : List Write = writes (name_of t) in
    let as_many : n ≡ length own = are place (watched t v) m.noted.0 there m.noted.1 in
    let is_base : is_founded (base_seen t) ≡ true = founded_at x place t founded here in
    let sits : IsSeated t v = seated.each place t v here was in
    let contents : made.0 ≡ content own = watch_contents t v w clock n made.0 own is_base sits made.1 (sound place (watched t v) there) (may place (watched t v) there) as_many in
    let with_contents : Made (base_seen t) clock v (call.Open n (content own)) reply.Noted w = subst (λ (c : Contents). Made (base_seen t) clock v (call.Open n c) reply.Noted w) contents made.1 in
    let opened : Made (base_seen t) clock v (call.Open (length own) (content own)) reply.Noted w = subst (λ (k : ℕ). Made (base_seen t) clock v (call.Open k (content own)) reply.Noted w) as_many with_contents in
    (made_enters t v w clock (call.Open (length own) (content own)) reply.Noted is_base sits opened).0

-- each open table is shut, the first of which has this place
pub makes_shuts : (clock first count : ℕ) (x : Seated) (notes : List Note) (y : Seated) → AreSeated x → AreFounded x → Makes clock clock x notes y → first + count ≡ length x.tables
    → EachNoted IsClosedNote first count notes → AtEach (λ place t v. place < first → SeesShut t v) x → ShutsAll clock (watched_by x) (watched_by y)
makes_shuts clock first count x notes y seated founded makes all each shut =
    let went : Went (λ i what. IsClosedNote what) clock clock first count x y = makes_went (λ i what. IsClosedNote what) clock clock first count x notes y makes (each_noted IsClosedNote first count notes each) in
    pairs_all (ShutsOne clock) (ShutsAll clock) tt (λ w w' ws ws' one all. (one, all)) (watched_by x) (watched_by y) (same_length clock x notes y seated makes)
    (pair_watch (λ place a b. ShutsOne clock a b) x y (makes_tables clock clock x notes y makes) (shuts_one clock first count x y seated founded went all shut))

-- each table is handed over
pub makes_hands : (clock : ℕ) (x : Seated) (notes : List Note) (y : Seated) → AreSeated x → AreFounded x → Makes clock clock x notes y
    → EachNoted IsHandedNote 0 (length x.tables) notes → HandsAll clock (watched_by x) (watched_by y)
makes_hands clock x notes y seated founded makes each =
    let went : Went (λ i what. IsHandedNote what) clock clock 0 (length x.tables) x y =
    makes_went (λ i what. IsHandedNote what) clock clock 0 (length x.tables) x notes y makes (each_noted IsHandedNote 0 (length x.tables) notes each) in
    pairs_all (HandsOne clock) (HandsAll clock) tt (λ w w' ws ws' one all. (one, all)) (watched_by x) (watched_by y) (same_length clock x notes y seated makes)
    (pair_watch (λ place a b. HandsOne clock a b) x y (makes_tables clock clock x notes y makes) (hands_one clock x y seated founded went))

-- each table is opened with these writes
pub makes_opens : (clock : ℕ) (x : Seated) (tables : List Table) (writes : List ℕ → List Write) (notes : List Note) (y : Seated) → AreSeated x → AreFounded x → Makes clock clock x notes y
    → OpenedNotes 0 tables notes → length tables ≡ length x.tables
    → ((place : ℕ) (w : Watched) → slice_get (watched_by x) place ≡ Some w → IsFoundation (now_of w))
    → ((place : ℕ) (w : Watched) (t : Table) → slice_get (watched_by x) place ≡ Some w → slice_get tables place ≡ Some t → t.writes ≡ length (writes w.name))
    → ((place : ℕ) (w : Watched) → slice_get (watched_by x) place ≡ Some w → MayHave (writes w.name) (now_of w))
    → OpensAll clock writes (watched_by x) (watched_by y)
makes_opens clock x tables writes notes y seated founded makes each count sound are may =
    let went : Went (IsOpenedAs tables) clock clock 0 (length tables) x y =
    makes_went (IsOpenedAs tables) clock clock 0 (length tables) x notes y makes (opened_noted tables 0 tables notes (λ i t at. subst (λ (k : ℕ). slice_get tables k ≡ Some t) (none_before i) at) each) in
    pairs_all (OpensOne clock writes) (OpensAll clock writes) tt (λ w w' ws ws' one all. (one, all)) (watched_by x) (watched_by y) (same_length clock x notes y seated makes)
    (pair_watch (λ place a b. OpensOne clock writes a b) x y (makes_tables clock clock x notes y makes) (opens_one clock x y tables writes seated founded went count sound are may))
  where
    none_before : (i : ℕ) → i ≡ 0 + i
    none_before i = omega arith
