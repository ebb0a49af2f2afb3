-- What the entries of a steward's command make of all tables of a leaf, and of how many of their writes are known to be
-- on the disk.
use Rattle.std.proofs.Common.{◌≡◌, ◌⊎◌, inl, inr, ℕ, zero, suc, ◌<◌, true, List, [], ◌∷◌, ◌++◌, length, map, refl, sym, ap, subst, ◌∙◌, arith, Option, Some, None}
use Rattle.std.specs.Prelude.{◌≢◌, slice_get, slice_set, ⊤}
use Rattle.std.specs.List.{AllByRecursion}
use Rattle.std.proofs.lemmas.Option.{none-some}
use Rattle.row_records.specs.Records.{LogRecord}
use Rattle.crash_moments.specs.Left.{NamedStates}
use Rattle.leaf_table.specs.Turns.{Shared, is_founded}
use Rattle.leaf_table.specs.Calls.{SeatView, base_seen, name_of}
use Rattle.leaf_steward.specs.Owing.{Owing}
use Rattle.leaf_machine.specs.Flushes.{OwedNotes}
use Rattle.leaf_machine.specs.States.{IsShutAndTaken}
use Rattle.leaf_words.specs.declared.note.Note.{Note}
use Rattle.leaf_words.specs.declared.note.What.{What}
use Rattle.leaf_words.specs.declared.note.What.TheVariants as what
use Rattle.leaf_steward.specs.Seated.{Seated, AtEach, AreFounded}
use Rattle.leaf_steward.specs.Making.{MadeAs, Makes, OneEntry, EachNoted, IsClosedNote, IsHandedNote}
use Rattle.leaf_steward.proofs.Seating.{set_either}
use Rattle.leaf_steward.proofs.Keeping.{entry_each, entry_tables, makes_tables, some_entry}
use Rattle.transcript.specs.Life.{durable_after, durable_by}
use Rattle.leaf_moves.specs.Stage.{AreHandedNothing}
use Rattle.transcript_leaf.specs.Session.{AreInPlace, IsSettled, IsStewards}
use Rattle.transcript_leaf.proofs.Lists.{element_at, get_set_other, length_mapped, length_set, same_some, within}
use Rattle.transcript_leaf.proofs.Counting.{IsFoundedWith, IsHalf, IsOf, half_closed, half_took, settled_flushed, shut_closed, shut_flushed, state_with}

-- ---- what is known of the seats of a leaf

-- each seat is the steward's
abbrev pub AreStewards : Seated → Type 0
AreStewards x = (place : ℕ) (v : SeatView) → slice_get x.seats place ≡ Some v → IsStewards v

-- each table is founded with the base
abbrev pub TablesFounded : NamedStates → Seated → Type 0
TablesFounded base x = (place : ℕ) (t : Shared) → slice_get x.tables place ≡ Some t → IsFoundedWith base t

pub record AreReady (base : NamedStates) (x : Seated) : Type 0 where
  pub founded : TablesFounded base x
  pub stewards : AreStewards x

-- as many tables as names
pub as_many : (names : List (List ℕ)) (ts : List Shared) → map name_of ts ≡ names → length ts ≡ length names
as_many names ts named = sym (length_mapped name_of ts) ∙ ap (λ (ns : List (List ℕ)). length ns) named

all_of : {X : Type 0} (P : X → Type 0) (xs : List X) → ((i : ℕ) (x : X) → slice_get xs i ≡ Some x → P x) → AllByRecursion P xs
all_of P [] each = tt
all_of P (x ∷ xs) each = (each zero x refl, all_of P xs (λ i y at. each (suc i) y at))

-- the tables are founded with this base, place by place
abbrev pub AreFoundedWith : NamedStates → Seated → Type 0
AreFoundedWith base x = AtEach (λ place t v. IsFoundedWith base t) x

module _ (names : List (List ℕ)) (x : Seated) (in_place : AreInPlace names x) where
  -- where there is a table there is a seat of the steward
  pub seat_there : (place : ℕ) (t : Shared) → slice_get x.tables place ≡ Some t → (v : SeatView) × (slice_get x.seats place ≡ Some v)
  seat_there place t at = element_at x.seats place (omega (arith, within x.tables place t at, as_many names x.tables in_place.named, in_place.seats))

  pub tables_founded : (base : NamedStates) → AreFoundedWith base x → TablesFounded base x
  tables_founded base founded = λ place t at. let seat = seat_there place t at in founded place t seat.0 at seat.1

  pub are_founded : (base : NamedStates) → AreFoundedWith base x → AreFounded x
  are_founded base founded = all_of (λ (t : Shared). is_founded (base_seen t) ≡ true) x.tables (λ place t at. (tables_founded base founded place t at).0)

pub is_of : (base : NamedStates) (x : Seated) (place : ℕ) (t : Shared) → AreHandedNothing base → AreReady base x → slice_get x.tables place ≡ Some t → IsOf base t
is_of base x place t sound ready at = record { founded = ready.founded place t at; sound = sound (name_of t) }

module _ (clock : ℕ) (x : Seated) (note : Note) (y : Seated) (one : OneEntry clock x note y) where
  -- the seat has its ids still
  stays_stewards : IsStewards one.before → IsStewards one.after
  stays_stewards sits =
      let same = (some_entry (base_seen one.table) clock one.before note.what one.after one.made).made.place in
      record {
        id = ap (λ (u : SeatView). u.id) same ∙ sits.id;
        share = ap (λ (u : SeatView). u.share) same ∙ sits.share;
        taken = ap (λ (u : SeatView). u.taken) same ∙ sits.taken;
      }

  pub entry_stewards : AreStewards x → AreStewards y
  entry_stewards are place v at = by (set_either x.seats note.table place one.after v (subst (λ (s : Seated). slice_get s.seats place ≡ Some v) one.now at))
    where
      by : ((place ≡ note.table) × (v ≡ one.after)) ⊎ ((place ≢ note.table) × (slice_get x.seats place ≡ Some v)) → IsStewards v
      by (inl h) = subst IsStewards (sym h.1) (stays_stewards (are note.table one.before one.was))
      by (inr h) = are place v h.1

  pub entry_ready : (base : NamedStates) → AreReady base x → AreReady base y
  entry_ready base ready = record {
    founded = λ place t at. ready.founded place t (ap (λ (ts : List Shared). slice_get ts place) (sym (entry_tables clock x note y one)) ∙ at);
    stewards = entry_stewards ready.stewards;
  }

pub makes_stewards : (from to : ℕ) (x : Seated) (notes : List Note) (y : Seated) → Makes from to x notes y → AreStewards x → AreStewards y
makes_stewards from to x notes y (Makes.none f u a ns b le is same) are = subst AreStewards (sym same) are
makes_stewards from to x notes y (Makes.more f u a ns b clock first rest between le one makes is) are =
    makes_stewards clock to between rest y makes (entry_stewards clock x first between one are)

pub makes_ready : (base : NamedStates) (from to : ℕ) (x : Seated) (notes : List Note) (y : Seated) → Makes from to x notes y → AreReady base x → AreReady base y
makes_ready base from to x notes y makes ready = record {
  founded = λ place t at. ready.founded place t (ap (λ (ts : List Shared). slice_get ts place) (sym (makes_tables from to x notes y makes)) ∙ at);
  stewards = makes_stewards from to x notes y makes ready.stewards;
}

-- ---- entries leave how many seats there are

pub makes_seats : (from to : ℕ) (x : Seated) (notes : List Note) (y : Seated) → Makes from to x notes y → length y.seats ≡ length x.seats
makes_seats from to x notes y (Makes.none f u a ns b le is same) = ap (λ (s : Seated). length s.seats) same
makes_seats from to x notes y (Makes.more f u a ns b clock first rest between le one makes is) =
    makes_seats clock to between rest y makes ∙ (ap (λ (s : Seated). length s.seats) one.now ∙ length_set x.seats first.table one.after)

-- no note, no change
pub makes_nothing : (from to : ℕ) (x : Seated) (notes : List Note) (y : Seated) → Makes from to x notes y → notes ≡ [] → y ≡ x
makes_nothing from to x notes y (Makes.none f u a ns b le is same) none = same
makes_nothing from to x notes y (Makes.more f u a ns b clock first rest between le one makes is) none = absurd (clash first rest (sym is ∙ none))
  where
    clash : (n : Note) (ns : List Note) → n ∷ ns ≡ [] → ⊥
    clash n ns e = cc

-- where nothing is owed, nothing is noted of it
pub none_owed : (owed : Option LogRecord) (o : Owing) (notes : List Note) → owed ≡ None → OwedNotes owed o notes → notes ≡ []
none_owed owed o notes none noted = subst (λ (r : Option LogRecord). OwedNotes r o notes) none noted

-- ---- what each entry leaves as it is

-- of what each note tells
abbrev pub AllNotes : (What → Type 0) → List Note → Type 0
AllNotes W notes = AllByRecursion (λ (n : Note). W n.what) notes

pub each_all : (P : What → Type 0) (place count : ℕ) (notes : List Note) → EachNoted P place count notes → AllNotes P notes
each_all P place count [] each = tt
each_all P place count (note ∷ notes) each = (each.3, each_all P (suc place) each.0 notes each.4)

-- such an entry at a table leaves it with P
abbrev pub Leaves : NamedStates → (What → Type 0) → (ℕ → Shared → SeatView → Type 0) → Type 0
Leaves base W P = (place : ℕ) (t : Shared) (clock : ℕ) (v w : SeatView) (what : What)
    → IsOf base t → IsStewards v → W what → MadeAs (base_seen t) clock v what w → P place t v → P place t w

pub makes_leave : (base : NamedStates) (W : What → Type 0) (P : ℕ → Shared → SeatView → Type 0) (from to : ℕ) (x : Seated) (notes : List Note) (y : Seated)
    → AreHandedNothing base → Leaves base W P → Makes from to x notes y → AllNotes W notes → AreReady base x → AtEach P x → AtEach P y
makes_leave base W P from to x notes y sound leaves (Makes.none f u a ns b le is same) all ready each = subst (AtEach P) (sym same) each
makes_leave base W P from to x notes y sound leaves (Makes.more f u a ns b clock first rest between le one makes is) all ready each =
    let both : AllNotes W (first ∷ rest) = subst (AllNotes W) is all in
    let of = is_of base x first.table one.table sound ready one.at in
    let sits = ready.stewards first.table one.before one.was in
    let here : P first.table one.table one.after =
    leaves first.table one.table clock one.before one.after first.what of sits both.0 one.made (each first.table one.table one.before one.at one.was) in
    makes_leave base W P clock to between rest y sound leaves makes both.1 (entry_ready clock x first between one base ready)
    (entry_each P P clock x first between one (λ p u v apart h. h) here each)

-- ---- counts

-- P of each table, the seat at it and its count, by their place
abbrev pub Counted : (ℕ → Shared → SeatView → ℕ → Type 0) → List ℕ → ℕ → Shared → SeatView → Type 0
Counted P counts place t v = (n : ℕ) → slice_get counts place ≡ Some n → P place t v n

-- an entry, which may set the count of its table
pub entry_counts : (P Q : ℕ → Shared → SeatView → ℕ → Type 0) (counts later : List ℕ) (clock : ℕ) (x : Seated) (note : Note) (y : Seated) → (one : OneEntry clock x note y)
    → ((p : ℕ) → p ≢ note.table → slice_get later p ≡ slice_get counts p)
    → ((p : ℕ) (u : Shared) (v : SeatView) (n : ℕ) → p ≢ note.table → P p u v n → Q p u v n)
    → Counted Q later note.table one.table one.after
    → AtEach (Counted P counts) x → AtEach (Counted Q later) y
entry_counts P Q counts later clock x note y one still others here each =
    entry_each (Counted P counts) (Counted Q later) clock x note y one (λ p u v apart h n e. others p u v n apart (h n (sym (still p apart) ∙ e))) here each

-- what a place had whose element was set
set_had : (xs : List ℕ) (i y c : ℕ) → slice_get (slice_set xs i y) i ≡ Some c → (x : ℕ) × (slice_get xs i ≡ Some x) × (c ≡ y)
set_had [] i y c e = absurd (none-some c e)
set_had (x ∷ xs) zero y c e = (x, refl, sym (same_some y c e))
set_had (x ∷ xs) (suc i) y c e = set_had xs i y c e

-- what was there may be set again
pub set_same : (xs : List ℕ) (i c : ℕ) → slice_get xs i ≡ Some c → slice_set xs i c ≡ xs
set_same [] i c e = refl
set_same (x ∷ xs) zero c e = ap (λ (y : ℕ). y ∷ xs) (sym (same_some x c e))
set_same (x ∷ xs) (suc i) c e = ap (λ (ys : List ℕ). x ∷ ys) (set_same xs i c e)

length_by : (counts : List ℕ) (table : ℕ) (w : What) → length (durable_by counts table w) ≡ length counts
length_by counts table (what.Opened n) = length_set counts table n
length_by counts table (what.Flushed n) = length_set counts table n
length_by counts table w = refl

pub length_durable : (counts : List ℕ) (notes : List Note) → length (durable_after counts notes) ≡ length counts
length_durable counts [] = refl
length_durable counts (n ∷ ns) = length_durable (durable_by counts n.table n.what) ns ∙ length_by counts n.table n.what

pub durable_append : (counts : List ℕ) (xs ys : List Note) → durable_after counts (xs ++ ys) ≡ durable_after (durable_after counts xs) ys
durable_append counts [] ys = refl
durable_append counts (x ∷ xs) ys = durable_append (durable_by counts x.table x.what) xs ys

-- notes that leave them as they are
abbrev pub IsStill : What → Type 0
IsStill (what.Opened n) = ⊥
IsStill (what.Took n) = ⊤
IsStill (what.Flushed n) = ⊥
IsStill (what.Closed n) = ⊤
IsStill what.Handed = ⊤

still_by : (counts : List ℕ) (table : ℕ) (w : What) → IsStill w → durable_by counts table w ≡ counts
still_by counts table (what.Opened n) still = absurd still
still_by counts table (what.Flushed n) still = absurd still
still_by counts table w still = refl

pub durable_still : (counts : List ℕ) (notes : List Note) → AllNotes IsStill notes → durable_after counts notes ≡ counts
durable_still counts [] still = refl
durable_still counts (n ∷ ns) still =
    ap (λ (cs : List ℕ). durable_after cs ns) (still_by counts n.table n.what still.0) ∙ durable_still counts ns still.1

still_closed : (w : What) → IsClosedNote w → IsStill w
still_closed (what.Closed n) h = tt
still_closed w h = absurd h

still_handed : (w : What) → IsHandedNote w → IsStill w
still_handed what.Handed h = tt
still_handed w h = absurd h

all_still : (W : What → Type 0) → ((w : What) → W w → IsStill w) → (notes : List Note) → AllNotes W notes → AllNotes IsStill notes
all_still W still [] all = tt
all_still W still (n ∷ ns) all = (still n.what all.0, all_still W still ns all.1)

pub all_closed : (place count : ℕ) (notes : List Note) → EachNoted IsClosedNote place count notes → AllNotes IsStill notes
all_closed place count notes each = all_still IsClosedNote still_closed notes (each_all IsClosedNote place count notes each)

pub all_handed : (place count : ℕ) (notes : List Note) → EachNoted IsHandedNote place count notes → AllNotes IsStill notes
all_handed place count notes each = all_still IsHandedNote still_handed notes (each_all IsHandedNote place count notes each)

-- ---- a table that is taken or shut, and whose writes are then flushed

-- just two entries were made
pub record MakesTwo (x : Seated) (a b : Note) (y : Seated) : Type 0 where
  pub between : Seated
  pub first_clock : ℕ
  pub first : OneEntry first_clock x a between
  pub second_clock : ℕ
  pub second : OneEntry second_clock between b y

pub makes_two : (from to : ℕ) (x : Seated) (notes : List Note) (y : Seated) (a b : Note) → Makes from to x notes y → notes ≡ a ∷ b ∷ [] → MakesTwo x a b y
makes_two from to x notes y a b (Makes.none f u s ns z le is same) two = absurd (clash a (b ∷ []) (sym is ∙ two))
  where
    clash : (n : Note) (ns : List Note) → [] ≡ n ∷ ns → ⊥
    clash n ns e = cc
makes_two from to x notes y a b (Makes.more f u s ns z clock note rest between le one makes is) two =
    let last = makes_one clock to between rest y b makes (tails note a rest (b ∷ []) (sym is ∙ two)) in
    record {
      between = between;
      first_clock = clock;
      first = subst (λ (n : Note). OneEntry clock x n between) (heads note a rest (b ∷ []) (sym is ∙ two)) one;
      second_clock = last.0;
      second = last.1;
    }
  where
    heads : (n o : Note) (ns os : List Note) → n ∷ ns ≡ o ∷ os → n ≡ o
    heads n o ns os e = cc

    tails : (n o : Note) (ns os : List Note) → n ∷ ns ≡ o ∷ os → ns ≡ os
    tails n o ns os e = cc

    makes_one : (from to : ℕ) (x : Seated) (notes : List Note) (y : Seated) (b : Note) → Makes from to x notes y → notes ≡ b ∷ []
        → (clock : ℕ) × OneEntry clock x b y
    makes_one from to x notes y b (Makes.none f u s ns z le is same) one_is = absurd (none_is b [] (sym is ∙ one_is))
      where
        none_is : (n : Note) (ns : List Note) → [] ≡ n ∷ ns → ⊥
        none_is n ns e = cc
    makes_one from to x notes y b (Makes.more f u s ns z clock note rest between le one makes is) one_is =
        let same : y ≡ between = makes_nothing clock to between rest y makes (tails note b rest [] (sym is ∙ one_is)) in
        (clock, subst (λ (n : Note). OneEntry clock x n y) (heads note b rest [] (sym is ∙ one_is)) (subst (OneEntry clock x note) (sym same) one))

-- all that was taken of each table is flushed
abbrev pub SettledAt : NamedStates → ℕ → Shared → SeatView → ℕ → Type 0
SettledAt base place t v n = IsSettled base t v n

-- the first tables are shut
abbrev pub ShutBelow : NamedStates → ℕ → ℕ → Shared → SeatView → Type 0
ShutBelow base count place t v = place < count → IsShutAndTaken (state_with base t v)

module _ (base : NamedStates) (x : Seated) (y : Seated) (place : ℕ) (sound : AreHandedNothing base) (ready : AreReady base x) where
  -- between the two the table is the only one that is taken and not flushed
  abbrev Between : ℕ → ℕ → Shared → SeatView → ℕ → Type 0
  Between n p t v c = (p ≡ place → IsHalf n (state_with base t v)) × (p ≢ place → IsSettled base t v c)

  abbrev NoteOf : What → ℕ → Note
  NoteOf what number = record { table = place; number = number; what = what }

  -- the first entry takes the writes that the second one flushes
  abbrev Halves : ℕ → What → Type 0
  Halves n w = (t : Shared) (clock : ℕ) (u v : SeatView) (c : ℕ) → IsOf base t → IsStewards u → MadeAs (base_seen t) clock u w v → IsSettled base t u c → IsHalf n (state_with base t v)

  both_settled : (counts : List ℕ) (w : What) (taking flushing n : ℕ) → Halves n w → MakesTwo x (NoteOf w taking) (NoteOf (what.Flushed n) flushing) y
      → AtEach (Counted (SettledAt base) counts) x → AtEach (Counted (SettledAt base) (slice_set counts place n)) y
  both_settled counts w taking flushing n halves two all =
      let a = two.first in
      let b = two.second in
      let later = entry_ready two.first_clock x (NoteOf w taking) two.between a base ready in
      let of = is_of base x place a.table sound ready a.at in
      let sits = ready.stewards place a.before a.was in
      let here : Counted (Between n) counts place a.table a.after =
      λ c e. ((λ same. halves a.table two.first_clock a.before a.after c of sits a.made (all place a.table a.before a.at a.was c e)), λ apart. absurd (apart refl)) in
      let each : AtEach (Counted (Between n) counts) two.between =
      entry_counts (SettledAt base) (Between n) counts counts two.first_clock x (NoteOf w taking) two.between a (λ p apart. refl)
      (λ p t v c apart h. ((λ same. absurd (apart same)), λ other. h)) here all in
      let still = is_of base two.between place b.table sound later b.at in
      let sits_on = later.stewards place b.before b.was in
      let whole : Counted (SettledAt base) (slice_set counts place n) place b.table b.after =
      λ c e.
      let old = set_had counts place n c e in
      let half = (each place b.table b.before b.at b.was old.0 old.1).0 refl in
      subst (λ (k : ℕ). IsSettled base b.table b.after k) (sym old.2) (settled_flushed base b.table two.second_clock b.before b.after still sits_on n b.made half) in
      entry_counts (Between n) (SettledAt base) counts (slice_set counts place n) two.second_clock two.between (NoteOf (what.Flushed n) flushing) y b
      (λ p apart. get_set_other counts place p n (λ e. apart (sym e))) (λ p t v c apart h. h.1 apart) whole each

  pub took_flushed : (counts : List ℕ) (taking flushing n : ℕ) → MakesTwo x (NoteOf (what.Took n) taking) (NoteOf (what.Flushed n) flushing) y
      → AtEach (Counted (SettledAt base) counts) x → AtEach (Counted (SettledAt base) (slice_set counts place n)) y
  took_flushed counts taking flushing n two all =
      both_settled counts (what.Took n) taking flushing n (λ t clock u v c of sits made settled. half_took base t clock u v of sits n c made settled) two all

  pub closed_flushed : (counts : List ℕ) (closing flushing n : ℕ) → MakesTwo x (NoteOf (what.Closed n) closing) (NoteOf (what.Flushed n) flushing) y
      → AtEach (Counted (SettledAt base) counts) x → AtEach (Counted (SettledAt base) (slice_set counts place n)) y
  closed_flushed counts closing flushing n two all =
      both_settled counts (what.Closed n) closing flushing n (λ t clock u v c of sits made settled. half_closed base t clock u v of sits n c made settled) two all

  -- and one table more is shut
  pub closed_shut : (closing flushing n : ℕ) → MakesTwo x (NoteOf (what.Closed n) closing) (NoteOf (what.Flushed n) flushing) y
      → AtEach (ShutBelow base place) x → AtEach (ShutBelow base (suc place)) y
  closed_shut closing flushing n two all =
      let a = two.first in
      let b = two.second in
      let later = entry_ready two.first_clock x (NoteOf (what.Closed n) closing) two.between a base ready in
      let of = is_of base x place a.table sound ready a.at in
      let sits = ready.stewards place a.before a.was in
      let each : AtEach (ShutBelow base (suc place)) two.between =
      entry_each (ShutBelow base place) (ShutBelow base (suc place)) two.first_clock x (NoteOf (what.Closed n) closing) two.between a
      (λ p t v apart h below. h (earlier p apart below)) (λ below. shut_closed base a.table two.first_clock a.before a.after of sits n a.made) all in
      let still = is_of base two.between place b.table sound later b.at in
      let sits_on = later.stewards place b.before b.was in
      entry_each (ShutBelow base (suc place)) (ShutBelow base (suc place)) two.second_clock two.between (NoteOf (what.Flushed n) flushing) y b (λ p t v apart h. h)
      (λ below. shut_flushed base b.table two.second_clock b.before b.after still sits_on n b.made (each place b.table b.before b.at b.was below)) each
    where
      earlier : (p : ℕ) → p ≢ place → p < suc place → p < place
      earlier p apart below = omega (arith, apart, below)
