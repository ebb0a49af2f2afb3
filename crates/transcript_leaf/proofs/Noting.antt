-- The notes of a steward's deed: the entries that they are at each table, and the lines that tell them.
use Rattle.std.proofs.Common.{◌≡◌, inr, ℕ, suc, ◌+◌, ◌==◌, Bool, true, false, List, [], ◌∷◌, ◌++◌, length, refl, sym, ap, subst, ◌∙◌, arith, Option, Some, None}
use Rattle.std.specs.Prelude.{slice_get, slice_set}
use Rattle.std.proofs.lemmas.Bool.{eq-eqb, eqb-true, eqb-false}
use Rattle.std.proofs.lemmas.List.{append-nil, append_assoc, length-append, length-map}
use Rattle.leaf_history.specs.Calls.{Call}
use Rattle.leaf_history.specs.Calls as call
use Rattle.leaf_history.specs.Replies.{EntryReply}
use Rattle.leaf_history.specs.Replies as reply
use Rattle.leaf_history.specs.History.{Entry, LegalFrom}
use Rattle.printed_lines.specs.declared.line.Ending.{Ending}
use Rattle.leaf_table.specs.declared.base.TableBase.{TableBase}
use Rattle.leaf_table.specs.Turns.{Shared, told, is_founded, start_of}
use Rattle.leaf_table.specs.Calls.{SeatView, Made, base_seen, entry_seen, seen_of}
use Rattle.leaf_words.specs.declared.note.Note.{Note}
use Rattle.leaf_words.specs.declared.note.What.{What}
use Rattle.leaf_words.specs.declared.note.What.TheVariants as what
use Rattle.leaf_steward.specs.Seated.{Seated}
use Rattle.leaf_steward.specs.Making.{Makes, MadeAs, OneEntry}
use Rattle.printed_lines.specs.declared.line.Deed.{Deed}
use Rattle.transcript.specs.Pieces.{Acted, said_of_note}
use Rattle.transcript.specs.Histories.{Shown, ShowsEntry, shown, shown_notes}
use Rattle.transcript_leaf.specs.Session.{IsStewards, OwnedBy, TellsOf}
use Rattle.transcript_leaf.proofs.Lists.{same_some, get_set_same, get_set_other}
use Rattle.transcript_leaf.proofs.Ids.{SameIds, own_first, owns_same, same_back, same_here, same_made, same_on, stewards_still}
use Rattle.transcript_leaf.proofs.Merging.{tells_past, tells_same}

-- the lines of notes tell what the steward's seat at this table has made
pub record NotesAt (place : ℕ) (notes : List Note) (v w : SeatView) : Type 0 where
  pub entries : List Entry
  pub seen : seen_of w ≡ seen_of v ++ entries
  pub tells : TellsOf (OwnedBy (Some v)) (suc (length (seen_of v))) (shown_notes place notes) entries
  pub ids : SameIds v w

-- ---- one note

-- whatever a note tells of is one entry, which its line shows
one_made : (base : Option TableBase) (clock : ℕ) (v w : SeatView) (what : What) → MadeAs base clock v what w
    → (c : Call) × (r : EntryReply) × Made base clock v c r w × ShowsEntry None (said_of_note what) (entry_seen v.id clock c r)
one_made base clock v w (what.Opened n) m = (call.Open n m.0, reply.Noted, m.1, (refl, (m.0, refl)))
one_made base clock v w (what.Took n) m = (call.Take, reply.Counted n, m, (refl, refl, refl))
one_made base clock v w (what.Flushed n) m = (call.Flushed n, reply.Noted, m, (refl, refl))
one_made base clock v w (what.Closed n) m = (call.Shut, reply.Counted n, m, (refl, refl, refl))
one_made base clock v w what.Handed m = (call.Done, reply.Noted, m, (refl, refl))

made_ids : (base : Option TableBase) (clock : ℕ) (v w : SeatView) (what : What) → MadeAs base clock v what w → SameIds v w
made_ids base clock v w what made = let one = one_made base clock v w what made in same_made base clock v w one.0 one.1 one.2

made_legal : (base : Option TableBase) (clock : ℕ) (v w : SeatView) (what : What) → MadeAs base clock v what w → LegalFrom (is_founded base) (start_of base) (seen_of w)
made_legal base clock v w (what.Opened n) m = m.1.legal
made_legal base clock v w kind m = m.legal

-- what a note shows of a table: one line of its own, or nothing
shows_here : (place : ℕ) (note : Note) (notes : List Note) → (note.table == place) ≡ true
    → shown_notes place (note ∷ notes) ≡ record { number = note.number; call = None; said = said_of_note note.what } ∷ shown_notes place notes
shows_here place note notes here = rw here refl

shows_elsewhere : (place : ℕ) (note : Note) (notes : List Note) → (note.table == place) ≡ false
    → shown_notes place (note ∷ notes) ≡ shown_notes place notes
shows_elsewhere place note notes apart = rw apart refl

no_notes : (place : ℕ) (v w : SeatView) → w ≡ v → NotesAt place [] v w
no_notes place v w same = record {
  entries = [];
  seen = ap (λ (u : SeatView). seen_of u) same ∙ sym (append-nil (seen_of v));
  tells = refl;
  ids = same_here v w same;
}

-- the note of an entry at this table
note_here : (place : ℕ) (note : Note) (notes : List Note) (base : Option TableBase) (clock : ℕ) (v u w : SeatView) → IsStewards v
    → (note.table == place) ≡ true → note.number ≡ length u.seen → MadeAs base clock v note.what u → NotesAt place notes u w
    → NotesAt place (note ∷ notes) v w
note_here place note notes base clock v u w sits here number made more =
    let one = one_made base clock v u note.what made in
    let m : Made base clock v one.0 one.1 u = one.2 in
    let e : Entry = entry_seen v.id clock one.0 one.1 in
    let line : Shown = record { number = note.number; call = None; said = said_of_note note.what } in
    let lines : List Shown = shown_notes place notes in
    let same : SameIds v u = same_made base clock v u one.0 one.1 m in
    let size : length (seen_of u) ≡ length u.seen = length-map u.seen told in
    let count : length (seen_of u) ≡ length (seen_of v) + length m.between + 1 = ap (λ (es : List Entry). length es) m.seen
    ∙ (length-append (seen_of v ++ m.between) (e ∷ []) ∙ ap (λ k. k + 1) (length-append (seen_of v) m.between)) in
    let numbered : note.number ≡ suc (length (seen_of v)) + length m.between = omega (arith, number, size, count) in
    let next : suc (length (seen_of u)) ≡ suc (suc (length (seen_of v)) + length m.between) = omega (arith, count) in
    let tail : TellsOf (OwnedBy (Some v)) (suc (suc (length (seen_of v)) + length m.between)) lines more.entries =
    tells_same (OwnedBy (Some u)) (OwnedBy (Some v)) (suc (suc (length (seen_of v)) + length m.between)) lines more.entries (owns_same u v (same_back v u same))
    (subst (λ (k : ℕ). TellsOf (OwnedBy (Some u)) k lines more.entries) next more.tells) in
    let one_line : TellsOf (OwnedBy (Some v)) (suc (length (seen_of v)) + length m.between) (line ∷ lines) (e ∷ more.entries) =
    inr (own_first v (let share = sits.share in omega (arith, share)), line, lines, refl, numbered, one.3, tail) in
    let tells : TellsOf (OwnedBy (Some v)) (suc (length (seen_of v))) (line ∷ lines) (m.between ++ e ∷ more.entries) =
    tells_past (OwnedBy (Some v)) (suc (length (seen_of v))) (line ∷ lines) m.between (e ∷ more.entries) m.others one_line in
    record {
      entries = m.between ++ e ∷ more.entries;
      seen = more.seen ∙ (ap (λ (es : List Entry). es ++ more.entries) m.seen
          ∙ (append_assoc (seen_of v ++ m.between) (e ∷ []) more.entries ∙ append_assoc (seen_of v) m.between (e ∷ more.entries)));
      tells = subst (λ ss. TellsOf (OwnedBy (Some v)) (suc (length (seen_of v))) ss (m.between ++ e ∷ more.entries)) (sym (shows_here place note notes here)) tells;
      ids = same_on v u w same more.ids;
    }

-- of another table it tells nothing here
note_elsewhere : (place : ℕ) (note : Note) (notes : List Note) (v w : SeatView) → (note.table == place) ≡ false → NotesAt place notes v w → NotesAt place (note ∷ notes) v w
note_elsewhere place note notes v w apart more = record {
  entries = more.entries;
  seen = more.seen;
  tells = subst (λ ss. TellsOf (OwnedBy (Some v)) (suc (length (seen_of v))) ss more.entries) (sym (shows_elsewhere place note notes apart)) more.tells;
  ids = more.ids;
}

module _ (clock : ℕ) (x : Seated) (note : Note) (y : Seated) (place : ℕ) (one : OneEntry clock x note y) where
  -- the seat at its table
  was_here : (v : SeatView) → (note.table == place) ≡ true → slice_get x.seats place ≡ Some v → one.before ≡ v
  was_here v here was = same_some one.before v (sym one.was ∙ (ap (slice_get x.seats) (eqb-true note.table place here) ∙ was))

  now_here : (note.table == place) ≡ true → slice_get y.seats place ≡ Some one.after
  now_here here = ap (λ (s : Seated). slice_get s.seats place) one.now
      ∙ subst (λ k. slice_get (slice_set x.seats note.table one.after) k ≡ Some one.after) (eqb-true note.table place here) (get_set_same x.seats note.table one.before one.after one.was)

  -- and at another
  now_elsewhere : (v : SeatView) → (note.table == place) ≡ false → slice_get x.seats place ≡ Some v → slice_get y.seats place ≡ Some v
  now_elsewhere v apart was = ap (λ (s : Seated). slice_get s.seats place) one.now ∙ (get_set_other x.seats note.table place one.after (eqb-false note.table place apart) ∙ was)

  more_notes : (notes : List Note) (v w : SeatView) → slice_get x.seats place ≡ Some v → IsStewards v
      → ((u : SeatView) → slice_get y.seats place ≡ Some u → IsStewards u → NotesAt place notes u w) → NotesAt place (note ∷ notes) v w
  more_notes notes v w was sits more = by (note.table == place) refl
    where
      by : (b : Bool) → (note.table == place) ≡ b → NotesAt place (note ∷ notes) v w
      by true e =
          let sat : IsStewards one.before = subst (λ (u : SeatView). IsStewards u) (sym (was_here v e was)) sits in
          let still : IsStewards one.after = stewards_still one.before one.after (made_ids (base_seen one.table) clock one.before one.after note.what one.made) sat in
          subst (λ (u : SeatView). NotesAt place (note ∷ notes) u w) (was_here v e was)
          (note_here place note notes (base_seen one.table) clock one.before one.after w sat e one.number one.made (more one.after (now_here e) still))
      by false e = note_elsewhere place note notes v w e (more v (now_elsewhere v e was) sits)

  -- the seat has seen a legal history still
  more_legal : (t : Shared) (v : SeatView) → slice_get x.tables place ≡ Some t → slice_get x.seats place ≡ Some v → LegalFrom (is_founded (base_seen t)) (start_of (base_seen t)) (seen_of v)
      → (u : SeatView) × (slice_get y.seats place ≡ Some u) × LegalFrom (is_founded (base_seen t)) (start_of (base_seen t)) (seen_of u)
  more_legal t v at was legal = by (note.table == place) refl
    where
      by : (b : Bool) → (note.table == place) ≡ b → (u : SeatView) × (slice_get y.seats place ≡ Some u) × LegalFrom (is_founded (base_seen t)) (start_of (base_seen t)) (seen_of u)
      by true e =
          let table : one.table ≡ t = same_some one.table t (sym one.at ∙ (ap (slice_get x.tables) (eqb-true note.table place e) ∙ at)) in
          (one.after, now_here e, subst (λ (s : Shared). LegalFrom (is_founded (base_seen s)) (start_of (base_seen s)) (seen_of one.after)) table (made_legal (base_seen one.table) clock one.before one.after note.what one.made))
      by false e = (v, now_elsewhere v e was, legal)

-- ---- all notes of a deed

-- its entries at one table
pub notes_at : (from to : ℕ) (x : Seated) (notes : List Note) (y : Seated) (place : ℕ) (v w : SeatView)
    → Makes from to x notes y → slice_get x.seats place ≡ Some v → slice_get y.seats place ≡ Some w → IsStewards v
    → NotesAt place notes v w
notes_at from to x notes y place v w (Makes.none f u a ns b low no_note same) was now sits =
    subst (λ (xs : List Note). NotesAt place xs v w) (sym no_note)
    (no_notes place v w (same_some w v (sym now ∙ (ap (λ (s : Seated). slice_get s.seats place) same ∙ was))))
notes_at from to x notes y place v w (Makes.more f u a ns b clock note others between low one makes all) was now sits =
    subst (λ (xs : List Note). NotesAt place xs v w) (sym all)
    (more_notes clock x note between place one others v w was sits (λ s there sitting. notes_at clock to between others y place s w makes there now sitting))

-- and the history is legal still
pub legal_at : (from to : ℕ) (x : Seated) (notes : List Note) (y : Seated) (place : ℕ) (t : Shared) (v w : SeatView)
    → Makes from to x notes y → slice_get x.tables place ≡ Some t → slice_get x.seats place ≡ Some v → slice_get y.seats place ≡ Some w
    → LegalFrom (is_founded (base_seen t)) (start_of (base_seen t)) (seen_of v)
    → LegalFrom (is_founded (base_seen t)) (start_of (base_seen t)) (seen_of w)
legal_at from to x notes y place t v w (Makes.none f u a ns b low no_note same) at was now legal =
    let stays : v ≡ w = same_some v w (sym was ∙ (ap (λ (s : Seated). slice_get s.seats place) (sym same) ∙ now)) in
    subst (λ (s : SeatView). LegalFrom (is_founded (base_seen t)) (start_of (base_seen t)) (seen_of s)) stays legal
legal_at from to x notes y place t v w (Makes.more f u a ns b clock note others between low one makes all) at was now legal =
    let next = more_legal clock x note between place one t v at was legal in
    let tables : slice_get between.tables place ≡ Some t = ap (λ (s : Seated). slice_get s.tables place) one.now ∙ at in
    legal_at clock to between others y place t next.0 w makes tables next.1 now next.2

-- a deed of the leaf's steward shows the lines of its notes
pub acted_here : (number place : ℕ) (deed : Deed) (ends : Ending) (notes : List Note)
    → shown number place (Acted number deed notes ends ∷ []) ≡ shown_notes place notes
acted_here number place deed ends notes = rw (eq-eqb number number refl) (append-nil (shown_notes place notes))
