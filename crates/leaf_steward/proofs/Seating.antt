-- An entry of the steward, and a meeting, keep its seats as they have to be.
use Rattle.std.proofs.Common.{◌≡◌, ◌≢◌, ◌⊎◌, ℕ, zero, suc, ◌+◌, ◌<◌, ◌≤◌, List, [], ◌∷◌, ◌++◌, length, get_or, Option, Some, slice_get, slice_set, refl, sym, ap, ◌∙◌, subst, inl, inr, ⊎_elim, arith, length-append, length-set}
use Rattle.std.proofs.lemmas.List.{length-map}
use Rattle.std.proofs.lemmas.Option.{slice_get_read, slice_get-get_or}
use Rattle.turnstile.specs.Seats.{IsSeatOf, LearnsOthers, SeesAlso}
use Rattle.turnstile.proofs.Prefixes.{prefix_length}
use Rattle.leaf_history.specs.Calls.{Call}
use Rattle.leaf_history.specs.Replies.{EntryReply}
use Rattle.leaf_history.specs.Calls as call
use Rattle.leaf_history.specs.Replies as reply
use Rattle.leaf_history.specs.History.{Entry, LegalFrom}
use Rattle.row_records.specs.Records.{LogRecord}
use Rattle.leaf_table.specs.declared.replies.ClosedTable.{ClosedTable}
use Rattle.leaf_table.specs.Turns.{Shared, TurnsTaken, is_founded, start_of, told, history, untaken_record}
use Rattle.leaf_table.specs.Calls.{SeatView, Made, ClosedBy, base_seen, name_of, seen_of, state_before, entry_seen, IsFresh, IsSteward, IsWorn}
use Rattle.leaf_words.specs.declared.note.What.{What}
use Rattle.leaf_steward.specs.Seated.{Seated, AtEach, AtPlace, IsSeated, IsUnused, AreSeated, Spares, with_seat}
use Rattle.leaf_steward.specs.Making.{MadeAs, OneEntry, TakesAt, ShutsAt, WornAt}

-- ---- places

module _ {A : Type 0} where
  abbrev none_here : List A
  none_here = []

  pub no_place : (i : ℕ) (x : A) → slice_get none_here i ≡ Some x → ⊥
  no_place i x e = cc

  pub some_same : (x y : A) → Some x ≡ Some y → x ≡ y
  some_same x y e = cc

  -- one place has one element
  pub same_at : (xs : List A) (i : ℕ) (x y : A) → slice_get xs i ≡ Some x → slice_get xs i ≡ Some y → x ≡ y
  same_at xs i x y a b = some_same x y (sym a ∙ b)

  -- a place below the length has one
  pub some_at : (xs : List A) (i : ℕ) → i < length xs → (x : A) × (slice_get xs i ≡ Some x)
  some_at [] i within = absurd (omega (arith, within))
  some_at (x ∷ xs) zero within = (x, refl)
  some_at (x ∷ xs) (suc i) within = some_at xs i (omega (arith, within))

  pub set_get : (xs : List A) (i : ℕ) (x y : A) → slice_get xs i ≡ Some x → slice_get (slice_set xs i y) i ≡ Some y
  set_get [] i x y at = absurd (no_place i x at)
  set_get (z ∷ xs) zero x y at = refl
  set_get (z ∷ xs) (suc i) x y at = set_get xs i x y at

  pub set_other : (xs : List A) (i j : ℕ) (y : A) → j ≢ i → slice_get (slice_set xs i y) j ≡ slice_get xs j
  set_other [] i j y apart = refl
  set_other (x ∷ xs) zero zero y apart = absurd (apart refl)
  set_other (x ∷ xs) zero (suc j) y apart = refl
  set_other (x ∷ xs) (suc i) zero y apart = refl
  set_other (x ∷ xs) (suc i) (suc j) y apart = set_other xs i j y (λ e. apart (ap suc e))

  pub set_same : (xs : List A) (i : ℕ) (x : A) → slice_get xs i ≡ Some x → slice_set xs i x ≡ xs
  set_same [] i x at = absurd (no_place i x at)
  set_same (y ∷ xs) zero x at = ap (λ (z : A). z ∷ xs) (sym (some_same y x at))
  set_same (y ∷ xs) (suc i) x at = ap (λ (l : List A). y ∷ l) (set_same xs i x at)

  -- what stands somewhere after one place was set is the new element there, or stood there before
  pub set_either : (xs : List A) (i j : ℕ) (y z : A) → slice_get (slice_set xs i y) j ≡ Some z → ((j ≡ i) × (z ≡ y)) ⊎ ((j ≢ i) × (slice_get xs j ≡ Some z))
  set_either [] i j y z at = absurd (no_place j z at)
  set_either (x ∷ xs) zero zero y z at = inl (refl, sym (some_same y z at))
  set_either (x ∷ xs) zero (suc j) y z at = inr (λ e. omega (arith, e), at)
  set_either (x ∷ xs) (suc i) zero y z at = inr (λ e. omega (arith, e), at)
  set_either (x ∷ xs) (suc i) (suc j) y z at = ⊎_elim (λ h. inl (ap suc h.0, h.1)) (λ h. inr (λ e. h.0 (omega (arith, e)), h.1)) (set_either xs i j y z at)

-- what holds of each table and seat, and of the new seat, holds after it was set
pub each_with : (P Q : ℕ → Shared → SeatView → Type 0) (x : Seated) (place : ℕ) (t : Shared) (w : SeatView) → slice_get x.tables place ≡ Some t
    → ((p : ℕ) (u : Shared) (v : SeatView) → p ≢ place → P p u v → Q p u v) → Q place t w → AtEach P x → AtEach Q (with_seat x place w)
each_with P Q x place t w at others here each = λ p u v table seat. by p u v table (set_either x.seats place p w v seat)
  where
    by : (p : ℕ) (u : Shared) (v : SeatView) → slice_get x.tables p ≡ Some u → ((p ≡ place) × (v ≡ w)) ⊎ ((p ≢ place) × (slice_get x.seats p ≡ Some v)) → Q p u v
    by p u v table (inl h) =
        let is : t ≡ u = same_at x.tables place t u at (subst (λ n. slice_get x.tables n ≡ Some u) h.0 table) in
        subst (λ n. Q n u v) (sym h.0) (subst (λ s. Q place u s) (sym h.1) (subst (λ s. Q place s w) is here))
    by p u v table (inr h) = others p u v h.0 (each p u v table h.1)

-- what holds of the new seat holds at its place
pub at_new : (P : Shared → SeatView → Type 0) (x : Seated) (place : ℕ) (t : Shared) (v w : SeatView) → slice_get x.tables place ≡ Some t → slice_get x.seats place ≡ Some v → P t w → AtPlace P (with_seat x place w) place
at_new P x place t v w at was here = λ u s table seat.
    subst (P u) (same_at (slice_set x.seats place w) place w s (set_get x.seats place v w was) seat) (subst (λ y. P y w) (same_at x.tables place t u at table) here)

-- ---- one seat

seen_length : (v : SeatView) → length (seen_of v) ≡ length v.seen
seen_length v = length-map v.seen told

-- an entry lengthens what the seat has seen
longer : (xs ys : List Entry) (e : Entry) → length xs ≤ length ((xs ++ ys) ++ e ∷ [])
longer xs ys e = omega (arith, length-append (xs ++ ys) (e ∷ []), length-append xs ys)

pub sees_more : (t : Shared) (clock : ℕ) (v w : SeatView) (c : Call) (r : EntryReply) → Made (base_seen t) clock v c r w → length v.seen ≤ length w.seen
sees_more t clock v w c r m =
    let e = entry_seen v.id clock c r in
    let was = seen_length v in
    let now = seen_length w in
    let seen = ap (λ (es : List Entry). length es) m.seen in
    let more = longer (seen_of v) m.between e in
    omega (arith, was, now, seen, more)

-- an entry keeps a seat seated
pub keeps_seated : (t : Shared) (clock : ℕ) (v w : SeatView) (c : Call) (r : EntryReply) → IsSeated t v → Made (base_seen t) clock v c r w → IsSeated t w
keeps_seated t clock v w c r s m =
    let share = ap (λ (u : SeatView). u.share) m.place ∙ s.share in
    let more = sees_more t clock v w c r m in record {
      seat = record { at = ap (λ (u : SeatView). u.at) m.place ∙ s.seat.at; base = ap (λ (u : SeatView). u.base) m.place ∙ s.seat.base; has_id = omega (arith, share) };
      id = ap (λ (u : SeatView). u.id) m.place ∙ s.id;
      share = share;
      none_taken = ap (λ (u : SeatView). u.taken) m.place ∙ s.none_taken;
      legal = m.legal;
      room = λ fresh. subst (λ n. 1024 ≤ n) (sym (m.room.2 (omega (arith, fresh)))) (s.room (omega (arith, fresh, more)));
    }

-- one entry takes at most one of its room
pub spares_less : (t : Shared) (clock n : ℕ) (v w : SeatView) (c : Call) (r : EntryReply) → Made (base_seen t) clock v c r w → n + 1 ≤ v.room → n ≤ w.room
spares_less t clock n v w c r m spares = let room = m.room.1 in omega (arith, room, spares)

-- it may make an entry while it spares one
pub may_enter : (t : Shared) (v : SeatView) → IsSeated t v → Spares 1 t v → IsSteward v
may_enter t v s spares = let share = s.share in (s.id, omega (arith, share, spares))

-- of two legal histories that a seat is told it has seen one
pub told_legal : (t : Shared) (v u w : SeatView) → LegalFrom (is_founded (base_seen t)) (start_of (base_seen t)) (seen_of v) → LegalFrom (is_founded (base_seen t)) (start_of (base_seen t)) (seen_of u) → SeesAlso v u w
    → LegalFrom (is_founded (base_seen t)) (start_of (base_seen t)) (seen_of w)
told_legal t v u w own theirs h = ⊎_elim (λ is. legal_as v.seen own is) (λ is. legal_as u.seen theirs is) h.longer.one
  where
    legal_as : (es : TurnsTaken) → LegalFrom (is_founded (base_seen t)) (start_of (base_seen t)) (history es) → h.seen ≡ es → LegalFrom (is_founded (base_seen t)) (start_of (base_seen t)) (seen_of w)
    legal_as es legal is = subst (λ (l : TurnsTaken). LegalFrom (is_founded (base_seen t)) (start_of (base_seen t)) (history l)) (sym (ap (λ (x : SeatView). x.seen) h.view ∙ is)) legal

-- a seat that was told what another has seen is still seated
pub told_seated : (t : Shared) (v u w : SeatView) → IsSeated t v → LegalFrom (is_founded (base_seen t)) (start_of (base_seen t)) (seen_of u) → SeesAlso v u w → IsSeated t w
told_seated t v u w s legal h =
    let seen = ap (λ (x : SeatView). x.seen) h.view in
    let more = prefix_length v.seen h.seen h.longer.own in
    let size = ap (λ (x : SeatView). length x.seen) h.view in
    let room = ap (λ (x : SeatView). x.room) h.view in record {
      seat = record { at = ap (λ (x : SeatView). x.at) h.view ∙ s.seat.at; base = ap (λ (x : SeatView). x.base) h.view ∙ s.seat.base; has_id = omega (arith, ap (λ (x : SeatView). x.share) h.view, s.share) };
      id = ap (λ (x : SeatView). x.id) h.view ∙ s.id;
      share = ap (λ (x : SeatView). x.share) h.view ∙ s.share;
      none_taken = ap (λ (x : SeatView). x.taken) h.view ∙ s.none_taken;
      legal = told_legal t v u w s.legal legal h;
      room = λ fresh. subst (λ n. 1024 ≤ n) (sym room) (s.room (omega (arith, fresh, more, size)));
    }

-- a seat that was not used is seated
pub unused_seated : (t : Shared) (v : SeatView) → IsUnused t v → IsSeated t v
unused_seated t v h = record {
  seat = h.seat;
  id = ap (λ (x : SeatView). x.id) h.unused;
  share = ap (λ (x : SeatView). x.share) h.unused;
  none_taken = ap (λ (x : SeatView). x.taken) h.unused;
  legal = subst (λ (l : TurnsTaken). LegalFrom (is_founded (base_seen t)) (start_of (base_seen t)) (history l)) (sym (ap (λ (x : SeatView). x.seen) h.unused)) tt;
  room = λ fresh. subst (λ n. 1024 ≤ n) (sym (ap (λ (x : SeatView). x.room) h.unused)) (omega arith);
}

-- ---- all seats

-- there are at most 16 tables
pub few_tables : {x : Seated} → AreSeated x → length x.tables ≤ 16
few_tables {x} s = let few = s.named.few in omega (arith, few, ap (λ (l : List (List ℕ)). length l) s.names, length-map x.tables name_of)

-- one seat has become another that is seated
pub seated_with : (x : Seated) (place : ℕ) (t : Shared) (w : SeatView) → AreSeated x → slice_get x.tables place ≡ Some t → IsSeated t w → AreSeated (with_seat x place w)
seated_with x place t w s at seated = record {
  named = s.named;
  names = s.names;
  alike = s.alike;
  count = length-set x.seats place w ∙ s.count;
  each = each_with (λ p u v. IsSeated u v) (λ p u v. IsSeated u v) x place t w at (λ p u v apart h. h) seated s.each;
}

-- the steward sits at a table in its place
pub record SitsAt (x : Seated) (place : ℕ) (t : Shared) (v : SeatView) : Type 0 where
  pub at : slice_get x.tables place ≡ Some t
  pub sat : slice_get x.seats place ≡ Some v
  pub seated : IsSeated t v

pub sits_at : {x now : Seated} → x ≡ now → AreSeated x → (place : ℕ) (d : Shared) (v : SeatView) → place < length now.tables → v ≡ get_or x.seats place v → SitsAt x place (get_or x.tables place d) v
sits_at {x} {now} is s place d v within value =
    let same = ap (λ (y : Seated). length y.tables) is in
    let count = s.count in
    let at = slice_get-get_or x.tables place d (omega (arith, within, same)) in
    let sat = slice_get_read x.seats (length x.seats) place v refl (omega (arith, within, same, count)) value in
    record { at = at; sat = sat; seated = s.each place (get_or x.tables place d) v at sat }

-- what is asked of the table and seat of that place
pub there : (P : Shared → SeatView → Type 0) {x now : Seated} {place : ℕ} {t : Shared} {v : SeatView} → SitsAt x place t v → x ≡ now → AtPlace P now place → P t v
there P {x} {now} {place} {t} {v} h is asked = subst (λ (y : Seated). AtPlace P y place) (sym is) asked t v h.at h.sat

-- what holds of the one table and seat of a place
pub everywhere : (P : Shared → SeatView → Type 0) {x now : Seated} {place : ℕ} {t : Shared} {v : SeatView} → SitsAt x place t v → x ≡ now → P t v → AtPlace P now place
everywhere P {x} {now} {place} {t} {v} h is here = subst (λ (y : Seated). AtPlace P y place) is (λ u s table seat.
    subst (λ y. P u y) (same_at x.seats place v s h.sat seat) (subst (λ y. P y v) (same_at x.tables place t u h.at table) here))

-- what holds of the new seat
pub there_now : (P : Shared → SeatView → Type 0) {x : Seated} {place : ℕ} {t : Shared} {v : SeatView} → SitsAt x place t v → (w : SeatView) → P t w → AtPlace P (with_seat x place w) place
there_now P {x} {place} {t} {v} h w here = at_new P x place t v w h.at h.sat here

-- the steward may enter where its seat spares an entry
pub steward_at : {x now : Seated} {place : ℕ} {t : Shared} {v : SeatView} → SitsAt x place t v → x ≡ now → AtPlace (Spares 1) now place → IsSteward v
steward_at {x} {now} {place} {t} {v} h is spares = may_enter t v h.seated (there (Spares 1) h is spares)

-- its seats are as they have to be after an entry
pub seated_after : {x : Seated} {place : ℕ} {t : Shared} {v : SeatView} → SitsAt x place t v → AreSeated x → {clock : ℕ} {c : Call} {r : EntryReply} {w : SeatView} → Made (base_seen t) clock v c r w → AreSeated (with_seat x place w)
seated_after {x} {place} {t} {v} h s {clock} {c} {r} {w} m = seated_with x place t w s h.at (keeps_seated t clock v w c r h.seated m)

-- an entry with its note
pub enters : {x now : Seated} {place : ℕ} {t : Shared} {v : SeatView} → SitsAt x place t v → x ≡ now → (clock number : ℕ) (what : What) (w : SeatView) → number ≡ length w.seen → MadeAs (base_seen t) clock v what w
    → OneEntry clock now (record { table = place; number = number; what = what }) (with_seat x place w)
enters {x} {now} {place} {t} {v} h is clock number what w counted made = record {
  table = t;
  before = v;
  after = w;
  at = ap (λ (y : Seated). slice_get y.tables place) (sym is) ∙ h.at;
  was = ap (λ (y : Seated). slice_get y.seats place) (sym is) ∙ h.sat;
  number = counted;
  made = made;
  now = ap (λ (y : Seated). with_seat y place w) is;
}

pub takes : {x now : Seated} {place : ℕ} {t : Shared} {v : SeatView} → SitsAt x place t v → x ≡ now → (clock number n : ℕ) (pending : Option LogRecord) (w : SeatView) → IsFresh v → number ≡ length w.seen
    → (m : Made (base_seen t) clock v call.Take (reply.Counted n) w) → pending ≡ untaken_record (name_of t) (state_before (base_seen t) v m.between) → TakesAt clock now place number n pending (with_seat x place w)
takes {x} {now} {place} {t} {v} h is clock number n pending w fresh counted made record_is = record {
  table = t;
  before = v;
  after = w;
  at = ap (λ (y : Seated). slice_get y.tables place) (sym is) ∙ h.at;
  was = ap (λ (y : Seated). slice_get y.seats place) (sym is) ∙ h.sat;
  fresh = fresh;
  counted = counted;
  made = made;
  record_is = record_is;
  now = ap (λ (y : Seated). with_seat y place w) is;
}

pub shuts : {x now : Seated} {place : ℕ} {t : Shared} {v : SeatView} → SitsAt x place t v → x ≡ now → (clock : ℕ) (closed : ClosedTable) (w : SeatView) → ClosedBy (name_of t) (base_seen t) clock v closed w
    → ShutsAt clock now place closed.number closed.table.writes closed.table (with_seat x place w)
shuts {x} {now} {place} {t} {v} h is clock closed w by = counted_as closed.table.writes by.writes
  where
    counted_as : (n : ℕ) → n ≡ closed.writes → ShutsAt clock now place closed.number n closed.table (with_seat x place w)
    counted_as n same = subst (λ k. ShutsAt clock now place closed.number k closed.table (with_seat x place w)) (sym same) (record {
      table = t;
      before = v;
      after = w;
      at = ap (λ (y : Seated). slice_get y.tables place) (sym is) ∙ h.at;
      was = ap (λ (y : Seated). slice_get y.seats place) (sym is) ∙ h.sat;
      counted = by.number;
      made = by.made;
      writes = by.writes;
      contents = by.contents;
      record_is = by.pending;
      columns = by.columns;
      now = ap (λ (y : Seated). with_seat y place w) is;
    })

-- a worn seat stands in its place
pub worn_at : {x now : Seated} {place : ℕ} {t : Shared} {v : SeatView} → SitsAt x place t v → x ≡ now → IsWorn v → WornAt now place
worn_at {x} {now} {place} {t} {v} h is worn = (v, ap (λ (y : Seated). slice_get y.seats place) (sym is) ∙ h.sat, worn)

-- no entry was made: the seat is as it was
pub same_with : {x now : Seated} {place : ℕ} {t : Shared} {v : SeatView} → SitsAt x place t v → x ≡ now → (w : SeatView) → w ≡ v → with_seat x place w ≡ now
same_with {x} {now} {place} {t} {v} h is w same = ap (λ (l : List SeatView). record { names = x.names; tables = x.tables; seats = l }) (set_same x.seats place w (h.sat ∙ ap (λ (s : SeatView). Some s) (sym same))) ∙ is

-- a fresh seat may enter
pub fresh_at : {x now : Seated} {place : ℕ} {t : Shared} {v : SeatView} → SitsAt x place t v → x ≡ now → AtPlace (λ u s. IsFresh s) now place → IsSteward v
fresh_at {x} {now} {place} {t} {v} h is fresh = let room = h.seated.room (there (λ u s. IsFresh s) h is fresh) in may_enter t v h.seated (omega (arith, room))

-- and spares many an entry after that
pub spares_after : {x now : Seated} {place : ℕ} {t : Shared} {v : SeatView} → SitsAt x place t v → x ≡ now → AtPlace (λ u s. IsFresh s) now place → {clock : ℕ} {c : Call} {r : EntryReply} {w : SeatView} → Made (base_seen t) clock v c r w → Spares 1000 t w
spares_after {x} {now} {place} {t} {v} h is fresh {clock} {c} {r} {w} m =
    let room = h.seated.room (there (λ u s. IsFresh s) h is fresh) in
    spares_less t clock 1000 v w c r m (omega (arith, room))

-- ---- a meeting

-- a caller's seat of that table, which has seen a legal history
abbrev pub IsCallersOf : SeatView → Shared → SeatView → Type 0
IsCallersOf u t v = IsSeatOf u t.site × LegalFrom (is_founded (base_seen t)) (start_of (base_seen t)) (seen_of u)

pub met_seated : {x now : Seated} {place : ℕ} {t : Shared} {v : SeatView} → SitsAt x place t v → x ≡ now → AreSeated x → (u w : SeatView) → AtPlace (IsCallersOf u) now place → SeesAlso v u w → AreSeated (with_seat x place w)
met_seated {x} {now} {place} {t} {v} h is s u w callers told = seated_with x place t w s h.at (told_seated t v u w h.seated (there (IsCallersOf u) h is callers).1 told)

-- what the steward's seat has learned
abbrev pub Learned : Seated → Seated → ℕ → SeatView → Shared → SeatView → Type 0
Learned now after place u t v = (w : SeatView) × (after ≡ with_seat now place w) × SeesAlso v u w × LearnsOthers v w × LegalFrom (is_founded (base_seen t)) (start_of (base_seen t)) (seen_of w)

pub meets : {x now : Seated} {place : ℕ} {t : Shared} {v : SeatView} → SitsAt x place t v → x ≡ now → (u w : SeatView) → AtPlace (IsCallersOf u) now place → SeesAlso v u w → LearnsOthers v w
    → AtPlace (Learned now (with_seat x place w) place u) now place
meets {x} {now} {place} {t} {v} h is u w callers told others = everywhere (Learned now (with_seat x place w) place u) h is (
  w,
  ap (λ (y : Seated). with_seat y place w) is,
  told,
  others,
  told_legal t v u w h.seated.legal (there (IsCallersOf u) h is callers).1 told,
)

-- what the caller's seat has learned
abbrev pub Heard : SeatView → SeatView → Shared → SeatView → Type 0
Heard u w t v = IsSeatOf w t.site × SeesAlso u v w × LearnsOthers u w × LegalFrom (is_founded (base_seen t)) (start_of (base_seen t)) (seen_of w)

pub met_seat : {x now : Seated} {place : ℕ} {t : Shared} {v : SeatView} → SitsAt x place t v → x ≡ now → (u w : SeatView) → AtPlace (IsCallersOf u) now place → IsSeatOf w t.site → SeesAlso u v w → LearnsOthers u w → AtPlace (Heard u w) now place
met_seat {x} {now} {place} {t} {v} h is u w callers seat told others =
    everywhere (Heard u w) h is (seat, told, others, told_legal t u v w (there (IsCallersOf u) h is callers).1 h.seated.legal told)
