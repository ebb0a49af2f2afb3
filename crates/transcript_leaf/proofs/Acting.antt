-- One leaf by who holds it goes on by a deed of its steward, between two meetings.
use Rattle.std.proofs.Common.{◌≡◌, ◌⊎◌, inl, inr, ℕ, ◌<◌, ◌≤◌, List, [], ◌∷◌, ◌++◌, length, map, Option, Some, None, refl, sym, ap, subst, ◌∙◌, arith}
use Rattle.std.specs.Prelude.{slice_get}
use Rattle.std.proofs.lemmas.Bool.{cases_lt}
use Rattle.std.proofs.lemmas.Option.{slice_get_past}
use Rattle.berth_face.specs.Berth.{Meaning}
use Rattle.leaf_history.specs.History.{Entry, LegalFrom, HistoryState}
use Rattle.script_text.specs.declared.command.Command.{Command}
use Rattle.leaf_table.specs.Turns.{Shared, is_founded, start_of}
use Rattle.leaf_table.specs.Calls.{SeatView, base_seen, name_of, seen_of}
use Rattle.leaf_words.specs.declared.note.Note.{Note}
use Rattle.leaf_steward.proofs.Keeping.{makes_tables}
use Rattle.printed_lines.specs.declared.line.Ending.{Ending}
use Rattle.printed_lines.specs.declared.line.Deed.{Deed}
use Rattle.transcript.specs.Pieces.{Acted, Piece, PlayedItem, all_pieces}
use Rattle.transcript.specs.Histories.{BaseState}
use Rattle.transcript.specs.Transcript.{Known, base_state_of}
use Rattle.leaf_moves.specs.Stage.{Leaf, Carries, MeetAll, MeetsIf, seated_of}
use Rattle.leaf_moves.specs.Holds.{Hold, caller_in, seen_by, steward_in, with_leaf}
use Rattle.leaf_moves.specs.Steps.{DeedStep, Moves}
use Rattle.transcript_leaf.specs.Session.{AreMet, IsStewards, LeafHeld, LeafSession, TableSession}
use Rattle.transcript_leaf.proofs.Lists.{element_at, same_some, within}
use Rattle.transcript_leaf.proofs.Terms.{with_pieces}
use Rattle.transcript_leaf.proofs.Ids.{stewards_still}
use Rattle.transcript_leaf.proofs.CountingNotes.{makes_seats}
use Rattle.transcript_leaf.proofs.Noting.{NotesAt, legal_at, notes_at}
use Rattle.transcript_leaf.proofs.TableActs.{table_acts}
use Rattle.transcript_leaf.proofs.TableMeets.{GrowsAt, HasLearned, grows_as, grows_made, grows_met, grows_not, grows_then, learns_if, reaches_as, reaches_if, steward_legal}
use Rattle.transcript_leaf.proofs.Standing.{seats_become}
use Rattle.transcript_leaf.proofs.Behind.{held_meets}
use Rattle.transcript_leaf.proofs.Going.{held_acts}
use Rattle.transcript_leaf.proofs.Places.{caller_beyond, if_some, leaf_met, met_at, same_name, same_pair, seats_then}
use Rattle.transcript_leaf.proofs.Sessions.{are_met, many_seats, many_tables, meet_on, pieces_on, table_held}

module _ {B : Type 0} (meaning : B → Meaning) (number : ℕ) (names : List (List ℕ)) (known : Option Known) (old : Meaning) (before : List Piece) (start : ℕ → List Entry) (items : List PlayedItem)
    (c0 : Command) (ps : List Piece) (x : Hold B) (met moved l' : Leaf) (b b' : B) (callers : List (Option SeatView)) (deed : Deed) (notes : List Note) (ends : Ending)
    (now : LeafSession meaning number names known old before start (with_pieces items c0 ps) x) (are : AreMet x) (is : x.held ≡ Some (met, b))
    (moves : Moves deed (meaning b) (meaning b') met notes ends moved) (carries : Carries met moved notes (meaning b) (meaning b')) (second : MeetAll moved x.callers l' callers (meaning b')) where
  abbrev act : Piece
  act = Acted number deed notes ends

  now_held : LeafHeld number names known old (before ++ all_pieces (with_pieces items c0 ps)) met (meaning b)
  now_held = (now.held met b is).1

  stewards : (place : ℕ) (v : SeatView) → slice_get (seated_of met).seats place ≡ Some v → IsStewards v
  stewards place v sat =
      let below = within (seated_of met).seats place v sat in
      let t = element_at x.tables place (omega (
        arith,
        below,
        many_seats x now met b is,
        now.callers_are,
        many_tables x now,
      )) in
      (table_held x now met b is place t.0 v t.1 sat).stewards

  -- as many seats as before
  many : length (seated_of moved).seats ≡ length x.callers
  many = makes_seats (meaning b).clock (meaning b').clock (seated_of met) notes (seated_of moved) carries.made ∙ many_seats x now met b is

  -- what the steward's seat made
  pub made : (place : ℕ) (v w : SeatView) → slice_get (seated_of met).seats place ≡ Some v → slice_get (seated_of moved).seats place ≡ Some w → NotesAt place notes v w
  made place v w was sat = notes_at (meaning b).clock (meaning b').clock (seated_of met) notes (seated_of moved) place v w carries.made was sat (stewards place v was)

  -- its seat before
  pub seat_before : (place : ℕ) (w : SeatView) → slice_get (seated_of moved).seats place ≡ Some w → (v : SeatView) × (slice_get (seated_of met).seats place ≡ Some v)
  seat_before place w sat = element_at (seated_of met).seats place
      (omega (arith, within (seated_of moved).seats place w sat, many, many_seats x now met b is))

  table_then : (place : ℕ) (t : Shared) (w v' : SeatView) → slice_get x.tables place ≡ Some t → slice_get (seated_of moved).seats place ≡ Some w → MeetsIf w (caller_in x.callers place) v' (caller_in callers place)
      → TableSession (base_state_of known (name_of t)) (start place) number place (with_pieces items c0 (ps ++ act ∷ [])) (Some v') (caller_in callers place)
  table_then place t w v' at sat meets =
      let g : BaseState = base_state_of known (name_of t) in
      let v = seat_before place w sat in
      let was = table_held x now met b is place t v.0 at v.1 in
      let own = same_name names x.tables (seated_of met).tables now.named now_held.in_place.named place t at in
      let u : Shared = own.0 in
      let h : BaseState = base_state_of known (name_of u) in
      let known_base = now_held.known_base place u v.0 own.1 v.1 in
      let legal_first : LegalFrom h.founded h.base (seen_of v.0) = subst (λ (n : List ℕ). LegalFrom (base_state_of known n).founded (base_state_of known n).base (seen_of v.0)) (sym own.2)
      (steward_legal g (start place) number place (with_pieces items c0 ps) v.0 (caller_in x.callers place) was) in
      let legal_was : LegalFrom (is_founded (base_seen u)) (start_of (base_seen u)) (seen_of v.0) =
      subst (λ f. LegalFrom f (start_of (base_seen u)) (seen_of v.0)) (sym known_base.0) (subst (λ (s : HistoryState). LegalFrom h.founded s (seen_of v.0)) (sym known_base.1) legal_first) in
      let legal_then : LegalFrom (is_founded (base_seen u)) (start_of (base_seen u)) (seen_of w) =
      legal_at (meaning b).clock (meaning b').clock (seated_of met) notes (seated_of moved) place u v.0 w carries.made own.1 v.1 sat legal_was in
      let legal_is : LegalFrom g.founded g.base (seen_of w) = subst (λ (n : List ℕ). LegalFrom (base_state_of known n).founded (base_state_of known n).base (seen_of w)) own.2
      (subst (λ (s : HistoryState). LegalFrom h.founded s (seen_of w)) known_base.1 (subst (λ f. LegalFrom f (start_of (base_seen u)) (seen_of w)) known_base.0 legal_then)) in
      let steward_is : steward_in x.held place ≡ Some v.0 = ap (λ (h : Option (Leaf × B)). steward_in h place) is ∙ v.1 in
      table_acts g (start place) number place items c0 ps deed ends notes v.0 w (made place v.0 w v.1 sat)
      legal_is
      (caller_in x.callers place) v' (caller_in callers place) was
      (if_some (caller_in x.callers place) (λ s. seen_of v.0 ≡ seen_of s) (λ s e. (are place v.0 s steward_is e).0)) meets

  tables_then : (place : ℕ) (t : Shared) → slice_get x.tables place ≡ Some t
      → TableSession (base_state_of known (name_of t)) (start place) number place (with_pieces items c0 (ps ++ act ∷ [])) (slice_get (seated_of l').seats place) (caller_in callers place)
  tables_then place t at =
      let below : place < length x.callers = omega (arith, within x.tables place t at, now.callers_are, many_tables x now) in
      let m = met_at moved x.callers l' callers (meaning b') second many place below in
      subst (λ (s : Option SeatView). TableSession (base_state_of known (name_of t)) (start place) number place (with_pieces items c0 (ps ++ act ∷ [])) s (caller_in callers place)) (sym m.at_then)
      (table_then place t m.steward m.steward_then at m.at m.meets)

  same_tables : (seated_of moved).tables ≡ (seated_of met).tables
  same_tables = makes_tables (meaning b).clock (meaning b').clock (seated_of met) notes (seated_of moved) carries.made

  learned : (place : ℕ) (t : Shared) (w v' : SeatView) → slice_get (seated_of moved).tables place ≡ Some t → slice_get (seated_of moved).seats place ≡ Some w → slice_get (seated_of l').seats place ≡ Some v'
      → MeetsIf w (caller_in x.callers place) v' (caller_in callers place) → HasLearned (base_state_of known (name_of t)) w v'
  learned place t w v' at sat sat' meets =
      let there = same_name names (seated_of met).tables x.tables now_held.in_place.named now.named place t (ap (λ (ts : List Shared). slice_get ts place) (sym same_tables) ∙ at) in
      let v = seat_before place w sat in
      subst (λ (n : List ℕ). HasLearned (base_state_of known n) w v') there.2
      (learns_if (base_state_of known (name_of there.0)) w v' (caller_in x.callers place) (caller_in callers place) (stewards_still v.0 w (made place v.0 w v.1 sat).ids (stewards place v.0 v.1)) meets
      (steward_legal (base_state_of known (name_of there.0)) (start place) number place (with_pieces items c0 (ps ++ act ∷ [])) v' (caller_in callers place) (table_then place there.0 w v' there.1 sat meets)))

  held_then : LeafHeld number names known old (before ++ all_pieces (with_pieces items c0 (ps ++ act ∷ []))) l' (meaning b')
  held_then =
      subst (λ (qs : List Piece). LeafHeld number names known old qs l' (meaning b')) (pieces_on meaning number names known old before start items c0 ps act)
      (held_meets number names known old ((before ++ all_pieces (with_pieces items c0 ps)) ++ act ∷ []) moved l' (meaning b')
      (held_acts number names known old (before ++ all_pieces (with_pieces items c0 ps)) met moved (meaning b) (meaning b') deed notes ends now_held stewards moves carries)
      (leaf_met moved x.callers l' callers (meaning b') second many known learned))

  tables_are : map name_of (seated_of l').tables ≡ map name_of x.tables
  tables_are = ap (λ (k : Leaf). map name_of (seated_of k).tables) second.leaf_is
      ∙ (ap (λ s. map name_of s.tables) (seats_become moved second.seats) ∙ (ap (λ (ts : List Shared). map name_of ts) same_tables ∙ (now.held met b is).0))

  pub act_on : LeafSession meaning number names known old before start (with_pieces items c0 (ps ++ Acted number deed notes ends ∷ [])) (with_leaf x l' b' callers)
  act_on = record {
    named = now.named;
    callers_are = second.count.1 ∙ now.callers_are;
    tables = tables_then;
    known_base = now.known_base;
    held = λ k d e.
        same_pair (λ (h : Leaf × B). (map name_of (seated_of h.0).tables ≡ map name_of x.tables) × LeafHeld number names known old (before ++ all_pieces (with_pieces items c0 (ps ++ act ∷ []))) h.0 (meaning h.1)) (l', b') (k, d) e
        (tables_are, held_then);
  }

  -- of each table more has been seen
  pub acts_grow : (place : ℕ) → GrowsAt (steward_in x.held place) (caller_in x.callers place) (slice_get (seated_of l').seats place) (caller_in callers place)
  acts_grow place = by (cases_lt place (length x.callers))
    where
      by : (place < length x.callers) ⊎ (length x.callers ≤ place) → GrowsAt (steward_in x.held place) (caller_in x.callers place) (slice_get (seated_of l').seats place) (caller_in callers place)
      by (inl below) =
          let m = met_at moved x.callers l' callers (meaning b') second many place below in
          let v = seat_before place m.steward m.at in
          let own = made place v.0 m.steward v.1 m.at in
          grows_as (steward_in x.held place) (caller_in x.callers place) (slice_get (seated_of l').seats place) (caller_in callers place)
          (Some v.0) (caller_in x.callers place) (Some m.steward_then) (caller_in callers place) (ap (λ (h : Option (Leaf × B)). steward_in h place) is ∙ v.1) refl m.at_then refl
          (grows_then (Some v.0) (caller_in x.callers place) (Some m.steward) (caller_in x.callers place) (Some m.steward_then) (caller_in callers place)
          (grows_made v.0 m.steward (caller_in x.callers place) own.entries own.seen own.ids) (grows_met m.steward m.steward_then (caller_in x.callers place) (caller_in callers place) m.meets))
      by (inr beyond) =
          grows_as (steward_in x.held place) (caller_in x.callers place) (slice_get (seated_of l').seats place) (caller_in callers place) None None None None
          (ap (λ (h : Option (Leaf × B)). steward_in h place) is ∙ slice_get_past (seated_of met).seats place
          (omega (arith, beyond, many_seats x now met b is)))
          (caller_beyond x.callers place beyond)
          (ap (λ (vs : List SeatView). slice_get vs place) (seats_then moved x.callers l' callers (meaning b') second many) ∙ slice_get_past second.seats place (omega (arith, beyond, second.count.0, many)))
          (caller_beyond callers place (omega (arith, beyond, second.count.1)))
          (grows_not None None)

  -- as far as the steward's seat had seen it before the second meeting
  pub acts_reach : (place : ℕ) (w : SeatView) → slice_get (seated_of moved).seats place ≡ Some w
      → (more : List Entry) × (seen_by (slice_get (seated_of l').seats place) (caller_in callers place) ≡ seen_of w ++ more)
  acts_reach place w sat =
      let below : place < length x.callers = omega (arith, within (seated_of moved).seats place w sat, many) in
      let m = met_at moved x.callers l' callers (meaning b') second many place below in
      reaches_as (slice_get (seated_of l').seats place) m.steward_then m.steward w (caller_in callers place) m.at_then (same_some m.steward w (sym m.at ∙ sat))
      (reaches_if m.steward m.steward_then (caller_in x.callers place) (caller_in callers place) m.meets)

module _ {B : Type 0} (meaning : B → Meaning) (number : ℕ) (names : List (List ℕ)) (known : Option Known) (old : Meaning) (before : List Piece) (start : ℕ → List Entry) (items : List PlayedItem) where
  -- between two meetings
  pub leaf_acts : (c0 : Command) (ps : List Piece) (x : Hold B) (deed : Deed) (l l' : Leaf) (b b' : B) (p : Piece) (callers : List (Option SeatView))
      → LeafSession meaning number names known old before start (with_pieces items c0 ps) x → x.held ≡ Some (l, b)
      → DeedStep number deed (meaning b) (meaning b') l x.callers p l' callers
      → LeafSession meaning number names known old before start (with_pieces items c0 (ps ++ p ∷ [])) (with_leaf x l' b' callers)
  leaf_acts c0 ps x deed l l' b b' p callers now is step =
      subst (λ (q : Piece). LeafSession meaning number names known old before start (with_pieces items c0 (ps ++ q ∷ [])) (with_leaf x l' b' callers)) (sym step.piece_is)
      (act_on meaning number names known old before start items c0 ps (with_leaf x step.met b step.met_callers) step.met step.moved l' b b' callers deed step.notes step.ends
      (meet_on x l step.met b step.met_callers now is step.first)
      (are_met x l step.met b step.met_callers now is step.first)
      refl step.moves step.carries step.second)
