-- What a drain makes of how many writes of each table the next start opens, where the disk never failed.
use Rattle.std.proofs.Common.{◌≡◌, ℕ, zero, suc, ◌≤◌, Bool, true, false, List, [], ◌∷◌, ◌++◌, length, refl, sym, ap, ap₂, subst, ◌∙◌, le_refl, arith, inl, inr, Option, Some, None}
use Rattle.std.specs.Prelude.{if◌then◌else◌, slice_get, slice_set}
use Rattle.std.proofs.lemmas.List.{append-nil}
use Rattle.std.proofs.lemmas.Option.{slice_get_within}
use Rattle.berth_face.specs.Berth.{Meaning}
use Rattle.printed_lines.specs.declared.line.Ending.{Ending}
use Rattle.printed_lines.specs.declared.line.Ending.TheVariants as ending
use Rattle.crash_moments.specs.Left.{NamedStates}
use Rattle.leaf_table.specs.Turns.{Shared}
use Rattle.leaf_table.specs.Calls.{SeatView, name_of}
use Rattle.leaf_machine.specs.States.{IsShutAndTaken}
use Rattle.leaf_words.specs.declared.note.Note.{Note}
use Rattle.leaf_words.specs.declared.note.What.{What}
use Rattle.leaf_words.specs.declared.note.What.TheVariants as what
use Rattle.leaf_steward.specs.Seated.{Seated, AtEach}
use Rattle.leaf_steward.specs.Making.{EachNoted, IsClosedNote, IsHandedNote, Makes}
use Rattle.leaf_steward.proofs.WatchMakes.{makes_tables}
use Rattle.transcript.specs.Base.{LogHas}
use Rattle.transcript.specs.Counts.{is_disk_fault}
use Rattle.transcript.specs.Life.{BeginsAt, Copying, Down, NotesOf, Owed, Preparing, Progress, Shutting, StageOfDrain, Starves, StepOfDrain, StepsOfDrain, Treats, durable_after, first_open, words_in}
use Rattle.transcript.specs.Transcript.{Known}
use Rattle.leaf_moves.specs.Stage.{Leaf, IsDown, IsUp, IsPreparing, AreHandedNothing, LeafStands, seated_of}
use Rattle.leaf_moves.specs.Modes.{mode_of, progress_of}
use Rattle.leaf_moves.specs.Steps.{DrainMoves, MakesNoted, Reaches, Stops}
use Rattle.leaf_moves.proofs.Modes.{none_owed, owed_none}
use Rattle.transcript_leaf.specs.Session.{AtCounts, IsDurable, IsSettled}
use Rattle.transcript_leaf.proofs.Lists.{clash_bool}
use Rattle.transcript_leaf.proofs.Counting.{settled_handed, shut_handed, state_with}
use Rattle.transcript_leaf.proofs.CountingNotes.{AllNotes, AreReady, Counted, IsStill, SettledAt, ShutBelow, TablesFounded, all_closed, all_handed, closed_flushed, closed_shut, durable_append, durable_still, each_all, makes_leave, makes_nothing, makes_ready, makes_two}
use Rattle.transcript_leaf.proofs.CountingLogs.{AreLogged, rests_logged, serving_logged}
use Rattle.transcript_leaf.proofs.CountingGiven.{Given, count_behind, founded_of, left_alone, ready_of, stands_behind}

-- ---- notes, by what is told of them

heads : {A : Type 0} (x y : A) (xs ys : List A) → x ∷ xs ≡ y ∷ ys → x ≡ y
heads x y xs ys e = cc

tails : {A : Type 0} (x y : A) (xs ys : List A) → x ∷ xs ≡ y ∷ ys → xs ≡ ys
tails x y xs ys e = cc

no_words : (notes : List Note) → words_in notes ≡ [] → notes ≡ []
no_words [] e = refl
no_words (n ∷ ns) e = cc

note_is : (n : Note) (table : ℕ) (w : What) → n.table ≡ table → n.what ≡ w → n ≡ record { table = table; number = n.number; what = w }
note_is n table w at is = ap₂ (λ (t : ℕ) (v : What). let m : Note = record { table = t; number = n.number; what = v } in m) at is

-- a table that is told as closed and flushed
closed_words : (notes : List Note) (place n : ℕ) → words_in notes ≡ (place, what.Closed n) ∷ (place, what.Flushed n) ∷ []
    → (closing flushing : ℕ) × (notes ≡ record { table = place; number = closing; what = what.Closed n } ∷ record { table = place; number = flushing; what = what.Flushed n } ∷ [])
closed_words [] place n e = absurd cc
closed_words (a ∷ []) place n e = absurd cc
closed_words (a ∷ b ∷ []) place n e =
    let first = heads _ _ _ _ e in
    let second = heads _ _ _ _ (tails _ _ _ _ e) in (
      a.number,
      b.number,
      ap₂ (λ (x y : Note). x ∷ y ∷ [])
          (note_is a place (what.Closed n) (ap (λ (w : ℕ × What). w.0) first) (ap (λ (w : ℕ × What). w.1) first))
          (note_is b place (what.Flushed n) (ap (λ (w : ℕ × What). w.0) second) (ap (λ (w : ℕ × What). w.1) second)),
    )
closed_words (a ∷ b ∷ c ∷ ns) place n e = absurd cc

-- entries that were made in two parts
record Parts (from to : ℕ) (x : Seated) (a b : List Note) (y : Seated) : Type 0 where
  between : Seated
  clock : ℕ
  first : Makes from clock x a between
  second : Makes clock to between b y

makes_parts : (from to : ℕ) (x : Seated) (a b : List Note) (y : Seated) → Makes from to x (a ++ b) y → Parts from to x a b y
makes_parts from to x [] b y makes = record { between = x; clock = from; first = Makes.none from from x [] x (le_refl from) refl refl; second = makes }
makes_parts from to x (n ∷ a) b y (Makes.none f u i ns o high none same) = absurd cc
makes_parts from to x (n ∷ a) b y (Makes.more f u i ns o clock note rest between low one makes all) =
    let later = makes_parts clock to between a b y (subst (λ (l : List Note). Makes clock to between l y) (sym (tails _ _ _ _ all)) makes) in record {
      between = later.between;
      clock = later.clock;
      first = Makes.more from later.clock x (n ∷ a) later.between clock note a between low one later.first (ap (λ (k : Note). k ∷ a) (heads _ _ _ _ all));
      second = later.second;
    }

part_ready : (base : NamedStates) (x : Seated) (notes : List Note) (y : Seated) → MakesNoted x notes y → AreReady base x → AreReady base y
part_ready base x notes y part ready = makes_ready base part.from part.to x notes y part.made ready

part_tables : (x : Seated) (notes : List Note) (y : Seated) → MakesNoted x notes y → length y.tables ≡ length x.tables
part_tables x notes y part = ap (λ (ts : List Shared). length ts) (makes_tables part.from part.to x notes y part.made)

part_nothing : (x : Seated) (notes : List Note) (y : Seated) → MakesNoted x notes y → notes ≡ [] → y ≡ x
part_nothing x notes y part none = makes_nothing part.from part.to x notes y part.made none

-- where nothing is noted, what holds of counts and seats stays
stays : (P : List ℕ → Seated → Type 0) (counts : List ℕ) (x : Seated) (notes : List Note) (y : Seated) → notes ≡ [] → MakesNoted x notes y → P counts x → P (durable_after counts notes) y
stays P counts x notes y none part holds =
    subst (λ (ns : List Note). P (durable_after counts ns) y) (sym none) (subst (λ (s : Seated). P counts s) (sym (part_nothing x notes y part none)) holds)

-- ---- a leaf that shuts its tables

-- Nothing is owed, all that was taken of each table is flushed, and the first tables are shut with all of their writes
-- taken. What the berth holds makes no difference.
abbrev pub IsClean : NamedStates → List ℕ → Progress → Seated → Type 0
IsClean base counts p x = (p.owed ≡ None) × AtCounts (IsSettled base) x counts × AtEach (ShutBelow base (first_open p)) x

-- all writes of each table were taken and are flushed, and they are so many
abbrev pub AreDone : NamedStates → List ℕ → Seated → Type 0
AreDone base counts x = AtCounts (IsSettled base) x counts × AtEach (λ place t v. IsShutAndTaken (state_with base t v)) x

-- where a drain has come to
abbrev ComesTo : NamedStates → List ℕ → StageOfDrain → Seated → Type 0
ComesTo base counts (Shutting p) x = IsClean base counts p x
ComesTo base counts (Copying made) x = AreDone base counts x

-- a leaf that begins to shut its tables, or goes on
clean_first : (base : NamedStates) (counts : List ℕ) (leaf : Leaf) (p : Progress) (m : Meaning) → BeginsAt (mode_of leaf) p → IsDurable base counts leaf m → IsClean base counts p (seated_of leaf)
clean_first base counts (IsDown l) p m begins durable = absurd begins
clean_first base counts (IsUp s) p m begins durable =
    subst (λ (q : Progress). IsClean base counts q s.seated) (sym begins) (owed_none s.owing durable.1, durable.2, λ place t v at was below. absurd (omega (arith, below)))
clean_first base counts (IsPreparing l) p m begins durable =
    subst (λ (q : Progress). IsClean base counts q l.serving.seated) (sym begins) (owed_none l.serving.owing durable.1, durable.2, durable.3)

-- more is asked of no table
clean_as : (base : NamedStates) (counts : List ℕ) (p q : Progress) (x : Seated) → q.owed ≡ None → first_open q ≡ first_open p → IsClean base counts p x → IsClean base counts q x
clean_as base counts p q x none same clean = (none, clean.1, λ place t v at was below. clean.2 place t v at was (omega (arith, below, same)))

module _ (base : NamedStates) (counts : List ℕ) (x : Seated) (notes : List Note) (y : Seated) (sound : AreHandedNothing base) (ready : AreReady base x) (part : MakesNoted x notes y) where
  -- nothing was owed, and no table more is shut
  clean_same : (p q : Progress) → NotesOf p.owed p.treated [] notes → q.owed ≡ None → first_open q ≡ first_open p → IsClean base counts p x
      → IsClean base (durable_after counts notes) q y
  clean_same p q words none same clean =
      let nothing = no_words notes (subst (λ (o : Option Owed). NotesOf o p.treated [] notes) clean.0 words) in
      stays (λ (c : List ℕ) (s : Seated). IsClean base c q s) counts x notes y nothing part (clean_as base counts p q x none same clean)

  -- one table more is closed, and its writes are flushed
  clean_shuts : (p q : Progress) (n : ℕ) → first_open p ≡ p.treated → NotesOf p.owed p.treated (what.Closed n ∷ what.Flushed n ∷ []) notes → q.owed ≡ None → first_open q ≡ suc p.treated
      → IsClean base counts p x → IsClean base (durable_after counts notes) q y
  clean_shuts p q n from words none to clean =
      let place = p.treated in
      let both = closed_words notes place n (subst (λ (o : Option Owed). NotesOf o place (what.Closed n ∷ what.Flushed n ∷ []) notes) clean.0 words) in
      let two = makes_two part.from part.to x notes y _ _ part.made both.2 in
      let settled = closed_flushed base x y place sound ready counts both.0 both.1 n two clean.1 in
      let below = closed_shut base x y place sound ready both.0 both.1 n two (λ p t v at was few. clean.2 p t v at was (omega (arith, few, from))) in
      let now : IsClean base (slice_set counts place n) q y = (none, settled, λ p t v at was few. below p t v at was (omega (arith, few, to))) in
      subst (λ (ns : List Note). IsClean base (durable_after counts ns) q y) (sym both.2) now

  -- one table more is treated
  clean_treats : (p q : Progress) → Treats p notes q → IsClean base counts p x → IsClean base (durable_after counts notes) q y
  clean_treats p q step clean = by p.waits refl
    where
      none : q.owed ≡ None
      none = ap (λ (r : Progress). r.owed) step.1

      to : first_open q ≡ suc p.treated
      to = ap (λ (r : Progress). first_open r) step.1

      by : (b : Bool) → p.waits ≡ b → IsClean base (durable_after counts notes) q y
      by true waits =
          clean_same p q (subst (λ (c : Bool). NotesOf p.owed p.treated (if c then [] else what.Closed step.0.0 ∷ what.Flushed step.0.0 ∷ []) notes) waits step.0.1) none
          (to ∙ sym (ap (λ (c : Bool). if c then suc p.treated else p.treated) waits)) clean
      by false waits =
          clean_shuts p q step.0.0 (ap (λ (c : Bool). if c then suc p.treated else p.treated) waits)
          (subst (λ (c : Bool). NotesOf p.owed p.treated (if c then [] else what.Closed step.0.0 ∷ what.Flushed step.0.0 ∷ []) notes) waits step.0.1) none to clean

  -- there was no memory
  clean_starves : (tables : ℕ) (p q : Progress) → Starves tables p notes q → IsClean base counts p x → IsClean base (durable_after counts notes) q y
  clean_starves tables p q (inl h) clean = clean_same p q h.0 (ap (λ (r : Progress). r.owed) h.1) (ap (λ (r : Progress). first_open r) h.1) clean
  clean_starves tables p q (inr h) clean =
      clean_shuts p q h.0 (ap (λ (c : Bool). if c then suc p.treated else p.treated) h.1) h.3 (ap (λ (r : Progress). r.owed) h.4) (ap (λ (r : Progress). first_open r) h.4) clean

  -- all are treated
  all_done : (p : Progress) → p.treated ≡ length x.tables → IsClean base counts p x → AreDone base counts x
  all_done p all clean = (clean.1, λ place t v at was. clean.2 place t v at was (omega (arith, slice_get_within x.tables place t at, all, no_more p.waits)))
    where
      no_more : (b : Bool) → p.treated ≤ (if b then suc p.treated else p.treated)
      no_more true = omega arith
      no_more false = omega arith

  -- by one step
  clean_step : (copy : ℕ) (s t : StageOfDrain) → StepOfDrain (length x.tables) copy s notes t → ComesTo base counts s x → ComesTo base (durable_after counts notes) t y
  clean_step copy (Shutting p) (Shutting q) step come = clean_treats p q step.1 come
  clean_step copy (Shutting p) (Copying made) step come =
      stays (λ (c : List ℕ) (s : Seated). AreDone base c s) counts x notes y step.1 part (all_done p step.0 come)
  clean_step copy (Copying made) (Shutting q) step come = absurd step
  clean_step copy (Copying made) (Copying now) step come = stays (λ (c : List ℕ) (s : Seated). AreDone base c s) counts x notes y step.1 part come

-- by all of them
clean_steps : (base : NamedStates) (copy n : ℕ) (s : StageOfDrain) (notes : List Note) (t : StageOfDrain) (x y : Seated) (counts : List ℕ)
    → AreHandedNothing base → AreReady base x → StepsOfDrain (length x.tables) copy n s notes t → MakesNoted x notes y → ComesTo base counts s x → ComesTo base (durable_after counts notes) t y
clean_steps base copy zero s notes t x y counts sound ready steps part come =
    stays (λ (c : List ℕ) (z : Seated). ComesTo base c t z) counts x notes y steps.0 part (subst (λ (a : StageOfDrain). ComesTo base counts a x) (sym steps.1) come)
clean_steps base copy (suc n) s notes t x y counts sound ready steps part come =
    let made = makes_parts part.from part.to x steps.0 steps.1 y (subst (λ (l : List Note). Makes part.from part.to x l y) steps.5 part.made) in
    let first : MakesNoted x steps.0 made.between = record { from = part.from; to = made.clock; made = made.first } in
    let second : MakesNoted made.between steps.1 y = record { from = made.clock; to = part.to; made = made.second } in
    let one = clean_step base counts x steps.0 made.between sound ready first copy s steps.2 steps.3 come in
    let rest : StepsOfDrain (length made.between.tables) copy n steps.2 steps.1 t =
    subst (λ (k : ℕ). StepsOfDrain k copy n steps.2 steps.1 t) (sym (part_tables x steps.0 made.between first)) steps.4 in
    subst (λ (l : List Note). ComesTo base (durable_after counts l) t y) (sym steps.5)
    (subst (λ (c : List ℕ). ComesTo base c t y) (sym (durable_append counts steps.0 steps.1))
    (clean_steps base copy n steps.2 steps.1 t made.between y (durable_after counts steps.0) sound (part_ready base x steps.0 made.between first ready) rest second one))

-- handed over, they are as they were
handed_done : (base : NamedStates) (counts : List ℕ) (x : Seated) (count : ℕ) (notes : List Note) (y : Seated) → AreHandedNothing base → AreReady base x
    → MakesNoted x notes y → EachNoted IsHandedNote 0 count notes → AreDone base counts x → AreDone base counts y
handed_done base counts x count notes y sound ready part each done =
    let all : AllNotes IsHandedNote notes = each_all IsHandedNote 0 count notes each in (
      makes_leave base IsHandedNote (Counted (SettledAt base) counts) part.from part.to x notes y sound
          (λ place t clock v w what of sits handed made h n is. settled_handed base t clock v w of sits what n handed made (h n is)) part.made all ready done.0,
      makes_leave base IsHandedNote (λ place t v. IsShutAndTaken (state_with base t v)) part.from part.to x notes y sound
          (λ place t clock v w what of sits handed made h. shut_handed base t clock v w of sits what handed made h) part.made all ready done.1,
    )

-- ---- the leaf that a drain leaves, by its mode

module _ (base : NamedStates) (counts : List ℕ) (m : Meaning) where
  down_durable : (leaf : Leaf) → mode_of leaf ≡ Down → length counts ≡ length (seated_of leaf).tables → AreLogged m.held.disk counts (seated_of leaf) → IsDurable base counts leaf m
  down_durable (IsDown z) down long logged = (long, logged)
  down_durable (IsUp s) down long logged = absurd cc
  down_durable (IsPreparing y) down long logged = absurd cc

  -- at rest with all tables treated, each log has all of them
  done_durable : (leaf : Leaf) → mode_of leaf ≡ Down → length counts ≡ length (seated_of leaf).tables → LeafStands base leaf m → AreReady base (seated_of leaf) → AreDone base counts (seated_of leaf)
      → IsDurable base counts leaf m
  done_durable (IsDown z) down long stands ready done = (long, rests_logged base counts z m ready.founded long stands done.0 done.1)
  done_durable (IsUp s) down long stands ready done = absurd cc
  done_durable (IsPreparing y) down long stands ready done = absurd cc

  shutting_durable : (leaf : Leaf) (p : Progress) → mode_of leaf ≡ Preparing p → length counts ≡ length (seated_of leaf).tables → IsClean base counts p (seated_of leaf) → IsDurable base counts leaf m
  shutting_durable (IsDown z) p is long clean = absurd cc
  shutting_durable (IsUp s) p is long clean = absurd cc
  shutting_durable (IsPreparing y) p is long clean =
      let same : p ≡ progress_of y = cc in
      let now : IsClean base counts (progress_of y) y.serving.seated = subst (λ (q : Progress). IsClean base counts q y.serving.seated) same clean in
      (long, none_owed y.serving.owing now.0, now.1, now.2)

-- ---- a drain

module _ (names : List (List ℕ)) (k : Known) (counts : List ℕ) (m m' : Meaning) (leaf : Leaf) (notes : List Note) (leaf' : Leaf)
    (g : Given names k counts m m' notes leaf leaf') where
  -- how many writes of each table are durable behind these notes
  abbrev By : List Note → List ℕ
  By ns = durable_after counts ns

  abbrev Later : Type 0
  Later = IsDurable k.base (By notes) leaf' m'

  -- a count for each table still
  long : length (By notes) ≡ length (seated_of leaf').tables
  long = count_behind names k counts m m' notes leaf leaf' g

  stands : LeafStands k.base leaf' m'
  stands = stands_behind names k counts m m' notes leaf leaf' g

  ready : AreReady k.base (seated_of leaf)
  ready = ready_of names k counts m m' notes leaf leaf' g

  ready_behind : AreReady k.base (seated_of leaf')
  ready_behind = makes_ready k.base m.clock m'.clock (seated_of leaf) notes (seated_of leaf') g.carries.made ready

  module _ (copy : ℕ) (s : StageOfDrain) (r : Reaches leaf leaf' notes copy s) where
    comes_to : ComesTo k.base (By r.treating) s r.between
    comes_to = clean_steps k.base copy r.made (Shutting r.comes.0) r.treating s (seated_of leaf) r.between counts g.known.sound ready r.comes.2 r.treats
        (clean_first k.base counts leaf r.comes.0 m r.comes.1 g.durable)

    ready_there : AreReady k.base r.between
    ready_there = part_ready k.base (seated_of leaf) r.treating r.between r.treats ready

    -- where nothing was noted behind that
    comes_behind : r.last ≡ [] → ComesTo k.base (By notes) s (seated_of leaf')
    comes_behind none =
        let just : notes ≡ r.treating = r.notes_are ∙ (ap (λ (ns : List Note). r.treating ++ ns) none ∙ append-nil r.treating) in
        subst (λ (x : Seated). ComesTo k.base (By notes) s x) (sym (part_nothing r.between r.last (seated_of leaf') r.ends none))
        (subst (λ (ns : List Note). ComesTo k.base (By ns) s r.between) (sym just) comes_to)

    -- what was noted behind it left the counts
    by_treating : AllNotes IsStill r.last → By notes ≡ By r.treating
    by_treating still = ap By r.notes_are ∙ (durable_append counts r.treating r.last ∙ durable_still (By r.treating) r.last still)

  -- it was killed while it shut its tables: each that is open is shut
  killed : (copy : ℕ) (p : Progress) (r : Reaches leaf leaf' notes copy (Shutting p)) → mode_of leaf' ≡ Down → Stops m m' leaf leaf' notes copy (Shutting p) r → Later
  killed copy p r down stops =
      let closes = stops.3 in
      let serves = stops.5 k.base g.known.tells (founded_of names k counts m m' notes leaf leaf' g) g.known.sound g.known.stands in
      let clean : IsClean k.base (By r.treating) p r.between = comes_to copy (Shutting p) r in
      let had : AreLogged m'.held.disk (By r.treating) r.between =
      subst (λ (x : Seated). AreLogged m'.held.disk (By r.treating) x) serves.1
      (serving_logged k.base (By r.treating) serves.0 m' (subst (λ (x : Seated). TablesFounded k.base x) (sym serves.1) (ready_there copy (Shutting p) r).founded)
      (none_owed serves.0.owing (serves.2 ∙ clean.0)) serves.3 (subst (λ (x : Seated). AtCounts (IsSettled k.base) x (By r.treating)) (sym serves.1) clean.1)) in
      let has : AreLogged m'.held.disk (By r.treating) (seated_of leaf') =
      makes_leave k.base IsClosedNote LoggedAt r.ends.from r.ends.to r.between r.last (seated_of leaf') g.known.sound (λ place t clock v w what of sits closed made h. h) r.ends.made
      (each_all IsClosedNote (first_open p) stops.0 r.last closes) (ready_there copy (Shutting p) r) had in
      down_durable k.base (By notes) m' leaf' down long
      (subst (λ (c : List ℕ). AreLogged m'.held.disk c (seated_of leaf')) (sym (by_treating copy (Shutting p) r (all_closed (first_open p) stops.0 r.last closes))) has)
    where
      LoggedAt : ℕ → Shared → SeatView → Type 0
      LoggedAt place t v = (n : ℕ) → slice_get (By r.treating) place ≡ Some n → LogHas m'.held.disk (name_of t) n

  stopped : (copy : ℕ) (s : StageOfDrain) (r : Reaches leaf leaf' notes copy s) → Stops m m' leaf leaf' notes copy s r → mode_of leaf' ≡ Down → Later
  stopped copy (Shutting p) r stops down = killed copy p r down stops
  stopped copy (Copying made) r stops down = done_durable k.base (By notes) m' leaf' down long stands ready_behind (comes_behind copy (Copying made) r stops.1)

  -- one that tells of no fault of the disk leaves just as many writes of each table as its notes say
  pub drain_moves : (stop : Option ℕ) (ends : Ending) → DrainMoves m m' leaf stop notes ends leaf' → is_disk_fault ends ≡ false → Later
  drain_moves stop ending.Done h calm =
      let r = h.1 in
      let at = Copying h.0 in
      let kept = handed_done k.base (By r.treating) r.between _ r.last (seated_of leaf') g.known.sound (ready_there (suc h.0) at r) r.ends h.4 (comes_to (suc h.0) at r) in
      done_durable k.base (By notes) m' leaf' h.5 long stands ready_behind
      (subst (λ (c : List ℕ). AreDone k.base c (seated_of leaf')) (sym (by_treating (suc h.0) at r (all_handed 0 _ r.last h.4))) kept)
  drain_moves stop ending.FaultRegion h calm = done_durable k.base (By notes) m' leaf' h.6 long stands ready_behind (comes_behind h.0 (Copying h.1) h.2 h.5)
  drain_moves stop ending.FaultRoom h calm = shutting_durable k.base (By notes) m' leaf' h.0 h.7 long (comes_behind 0 (Shutting h.0) h.1 h.6)
  drain_moves stop ending.FaultMemory h calm =
      let r = h.2 in
      shutting_durable k.base (By notes) m' leaf' h.1 h.5 long (subst (λ (c : List ℕ). IsClean k.base c h.1 (seated_of leaf')) (sym (ap By r.notes_are ∙ durable_append counts r.treating r.last))
      (clean_starves k.base (By r.treating) r.between r.last (seated_of leaf') g.known.sound (ready_there 0 (Shutting h.0) r) r.ends _ h.0 h.1 h.4 (comes_to 0 (Shutting h.0) r)))
  drain_moves stop ending.FaultDisk h calm = absurd (clash_bool true refl calm)
  drain_moves stop ending.Stopped h calm = stopped h.0 h.1 h.2 h.4 h.5
  drain_moves stop ending.NotUp h calm = left_alone names k counts m m' notes leaf leaf' g h.1 h.2 h.3
  drain_moves stop ends h calm = absurd h
