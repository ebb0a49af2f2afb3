-- One leaf by who holds it or seats of it: it goes on by calls, past pieces of others, and its seats meet.
use Rattle.std.proofs.Common.{◌≡◌, ◌⊎◌, inl, inr, ℕ, ◌+◌, ◌<◌, ◌==◌, Bool, true, false, List, [], ◌∷◌, ◌++◌, length, map, Option, Some, refl, sym, ap, subst, ◌∙◌, arith}
use Rattle.std.specs.Prelude.{slice_get}
use Rattle.std.proofs.lemmas.Bool.{eqb-true, eqb-false}
use Rattle.std.proofs.lemmas.List.{append-nil, append_assoc}
use Rattle.berth_face.specs.Berth.{Meaning}
use Rattle.leaf_history.specs.Calls.{Call}
use Rattle.leaf_history.specs.History.{Entry}
use Rattle.script_text.specs.declared.command.Command.{Command}
use Rattle.leaf_table.specs.declared.replies.Reply.{Reply}
use Rattle.leaf_table.specs.declared.replies.Reply.TheVariants as told
use Rattle.turnstile.specs.Seats.{AreIds}
use Rattle.leaf_table.specs.Turns.{Shared}
use Rattle.leaf_table.specs.Calls.{SeatView, name_of, seen_of}
use Rattle.printed_lines.specs.declared.line.Said.{Said}
use Rattle.printed_lines.specs.declared.line.Said.TheVariants as said
use Rattle.transcript.specs.Pieces.{Acted, Called, Piece, PlayedItem, Worn, all_pieces}
use Rattle.transcript.specs.Histories.{shown}
use Rattle.transcript.specs.Transcript.{Known, base_state_of}
use Rattle.leaf_moves.specs.Stage.{Leaf, MeetAll, MeetsIf, seated_of}
use Rattle.leaf_moves.specs.Holds.{Hold, HoldMeets, caller_in, steward_in, with_callers, with_leaf}
use Rattle.leaf_moves.specs.Steps.{CallStep, IsReplyPiece}
use Rattle.transcript_leaf.specs.Session.{AreMet, IsNoDeed, IsOthers, LeafHeld, LeafSession, TableSession}
use Rattle.transcript_leaf.proofs.Lists.{length_set, same_some, within}
use Rattle.transcript_leaf.proofs.Terms.{with_pieces}
use Rattle.transcript_leaf.proofs.Telling.{order_opens, pieces_more, pieces_with, retell}
use Rattle.transcript_leaf.proofs.TableCalls.{call_elsewhere, call_table, other_table}
use Rattle.transcript_leaf.proofs.TableMeets.{HasLearned, learns_if, same_if, steward_legal, table_meets}
use Rattle.transcript_leaf.proofs.Standing.{LeafMeets, seats_become}
use Rattle.transcript_leaf.proofs.Behind.{held_meets, held_past}
use Rattle.transcript_leaf.proofs.Places.{caller_is, caller_other, caller_set, leaf_met, met_at, same_name, same_pair, some_if}
use Rattle.transcript_leaf.proofs.CountingNotes.{as_many}

-- ---- which pieces those are

-- the piece of a reply is no deed of a steward
is_call : (number table : ℕ) (called : Call) (r : Reply) (p : Piece) → IsReplyPiece number table called r p → IsNoDeed number p
is_call number table called (told.Added n kept late) p says = subst (IsNoDeed number) (sym says) tt
is_call number table called r p says = subst (IsNoDeed number) (sym says) tt

pub call_piece : (number table : ℕ) (called : Call) (r : Reply) (p : Piece) → IsReplyPiece number table called r p
    → ((n : ℕ) × (said : Said) × (p ≡ Called number table called n said)) ⊎ (p ≡ Worn number table)
call_piece number table called (told.Added n kept late) p says = inl (n, said.Added kept late, says)
call_piece number table called (told.Removed n rows) p says = inl (n, said.Removed rows, says)
call_piece number table called (told.Groups n gs) p says = inl (n, said.Asked, says)
call_piece number table called (told.Shut n) p says = inl (n, said.RefusedShut, says)
call_piece number table called (told.Full n) p says = inl (n, said.RefusedFull, says)
call_piece number table called (told.NoMemory n) p says = inl (n, said.RefusedMemory, says)
call_piece number table called told.Worn p says = inr says

others_no_deed : (number : ℕ) (p : Piece) → IsOthers number p → IsNoDeed number p
others_no_deed number (Acted leaf deed notes ends) others = others
others_no_deed number p others = tt

others_shown : (number table : ℕ) (p : Piece) → IsOthers number p → shown number table (p ∷ []) ≡ []
others_shown number table (Called leaf t c n said) others = rw others refl
others_shown number table (Acted leaf deed notes ends) others = rw others refl
others_shown number table p others = refl

-- ---- the seats that are there

module _ {B : Type 0} {meaning : B → Meaning} {number : ℕ} {names : List (List ℕ)} {known : Option Known} {old : Meaning} {before : List Piece} {start : ℕ → List Entry} {items : List PlayedItem}
    (x : Hold B) (now : LeafSession meaning number names known old before start items x) where
  pub many_tables : length x.tables ≡ length names
  many_tables = as_many names x.tables now.named

  -- where the leaf is held, its steward has a seat at each table
  pub many_seats : (l : Leaf) (b : B) → x.held ≡ Some (l, b) → length (seated_of l).seats ≡ length x.callers
  many_seats l b e = (now.held l b e).1.in_place.seats ∙ sym now.callers_are

  pub table_held : (l : Leaf) (b : B) → x.held ≡ Some (l, b) → (place : ℕ) (t : Shared) (v : SeatView) → slice_get x.tables place ≡ Some t → slice_get (seated_of l).seats place ≡ Some v
      → TableSession (base_state_of known (name_of t)) (start place) number place items (Some v) (caller_in x.callers place)
  table_held l b e place t v at sat =
      subst (λ (s : Option SeatView). TableSession (base_state_of known (name_of t)) (start place) number place items s (caller_in x.callers place))
      (ap (λ (h : Option (Leaf × B)). steward_in h place) e ∙ sat) (now.tables place t at)

  -- its tables have the names of those
  pub table_of : (l : Leaf) (b : B) → x.held ≡ Some (l, b) → (place : ℕ) (t : Shared) → slice_get (seated_of l).tables place ≡ Some t
      → (u : Shared) × (slice_get x.tables place ≡ Some u) × (name_of u ≡ name_of t)
  table_of l b e place t at = same_name names (seated_of l).tables x.tables (now.held l b e).1.in_place.named now.named place t at

module _ {B : Type 0} (meaning : B → Meaning) (number : ℕ) (names : List (List ℕ)) (known : Option Known) (old : Meaning) (before : List Piece) (start : ℕ → List Entry) (items : List PlayedItem) where
  -- ---- one piece more of a command

  pub pieces_on : (c0 : Command) (ps : List Piece) (p : Piece) → (before ++ all_pieces (with_pieces items c0 ps)) ++ p ∷ [] ≡ before ++ all_pieces (with_pieces items c0 (ps ++ p ∷ []))
  pieces_on c0 ps p = append_assoc before (all_pieces (with_pieces items c0 ps)) (p ∷ []) ∙ ap (λ (qs : List Piece). before ++ qs) (sym (pieces_more items c0 ps p))

  held_on : (c0 : Command) (ps : List Piece) (p : Piece) (l : Leaf) (m : Meaning) → IsNoDeed number p → LeafHeld number names known old (before ++ all_pieces (with_pieces items c0 ps)) l m
      → LeafHeld number names known old (before ++ all_pieces (with_pieces items c0 (ps ++ p ∷ []))) l m
  held_on c0 ps p l m apart s =
      subst (λ (qs : List Piece). LeafHeld number names known old qs l m) (pieces_on c0 ps p)
      (held_past number names known old (before ++ all_pieces (with_pieces items c0 ps)) (p ∷ []) l m (apart, tt) s)

  -- a command more, of which nothing was printed yet
  pub leaf_opens : (c0 : Command) (x : Hold B) → LeafSession meaning number names known old before start items x → LeafSession meaning number names known old before start (with_pieces items c0 []) x
  leaf_opens c0 x now = record {
    named = now.named;
    callers_are = now.callers_are;
    tables = λ place t at.
        retell (base_state_of known (name_of t)) (start place) number place items (with_pieces items c0 []) (steward_in x.held place) (caller_in x.callers place) (now.tables place t at)
        (ap (λ (ps : List Piece). shown number place ps) same) (λ high h. order_opens number place (length (start place)) items c0 high h);
    known_base = now.known_base;
    held = λ l b e. let h = now.held l b e in (h.0, subst (λ (ps : List Piece). LeafHeld number names known old (before ++ ps) l (meaning b)) (sym same) h.1);
  }
    where
      same : all_pieces (with_pieces items c0 []) ≡ all_pieces items
      same = pieces_with items c0 [] ∙ append-nil (all_pieces items)

  -- past what tells nothing of it
  pub leaf_others : (c0 : Command) (ps : List Piece) (x : Hold B) (p : Piece) → IsOthers number p → LeafSession meaning number names known old before start (with_pieces items c0 ps) x
      → LeafSession meaning number names known old before start (with_pieces items c0 (ps ++ p ∷ [])) x
  leaf_others c0 ps x p others now = record {
    named = now.named;
    callers_are = now.callers_are;
    tables = λ place t at.
        other_table (base_state_of known (name_of t)) (start place) number place items c0 ps p (steward_in x.held place) (caller_in x.callers place) (now.tables place t at) (others_shown number place p others);
    known_base = now.known_base;
    held = λ l b e. let h = now.held l b e in (h.0, held_on c0 ps p l (meaning b) (others_no_deed number p others) h.1);
  }

  -- a caller's call
  pub leaf_calls : (c0 : Command) (ps : List Piece) (x : Hold B) (table : ℕ) (c : Call) (p : Piece) (callers : List (Option SeatView))
      → LeafSession meaning number names known old before start (with_pieces items c0 ps) x → CallStep number table c x.tables x.callers p callers
      → LeafSession meaning number names known old before start (with_pieces items c0 (ps ++ p ∷ [])) (with_callers x callers)
  leaf_calls c0 ps x table c p callers now step = record {
    named = now.named;
    callers_are = ap (λ (cs : List (Option SeatView)). length cs) step.now ∙ (length_set x.callers table (Some step.after) ∙ now.callers_are);
    tables = tables_then;
    known_base = now.known_base;
    held = λ l b e. let h = now.held l b e in (h.0, held_on c0 ps p l (meaning b) (is_call number table c step.reply p step.says) h.1);
  }
    where
      here : (t : Shared) → slice_get x.tables table ≡ Some t
          → TableSession (base_state_of known (name_of t)) (start table) number table (with_pieces items c0 (ps ++ p ∷ [])) (steward_in x.held table) (caller_in callers table)
      here t at =
          let same : t ≡ step.shared = same_some t step.shared (sym at ∙ step.at) in
          let known_base = now.known_base table step.shared step.at in
          let was : caller_in x.callers table ≡ Some step.before = caller_is x.callers table (Some step.before) step.was in
          let is : caller_in callers table ≡ Some step.after =
          ap (λ (cs : List (Option SeatView)). caller_in cs table) step.now ∙ caller_set x.callers table (Some step.before) (Some step.after) step.was in
          subst (λ (u : Shared). TableSession (base_state_of known (name_of u)) (start table) number table (with_pieces items c0 (ps ++ p ∷ [])) (steward_in x.held table) (caller_in callers table)) (sym same)
          (subst (λ (d : Option SeatView). TableSession (base_state_of known (name_of step.shared)) (start table) number table (with_pieces items c0 (ps ++ p ∷ [])) (steward_in x.held table) d) (sym is)
          (call_table (base_state_of known (name_of step.shared)) (start table) number table items c0 ps step.shared (steward_in x.held table) step.before step.after c step.reply p
          (subst (λ (d : Option SeatView). TableSession (base_state_of known (name_of step.shared)) (start table) number table (with_pieces items c0 ps) (steward_in x.held table) d) was
          (now.tables table step.shared step.at)) known_base.0 known_base.1 step.answered step.says))

      tables_then : (place : ℕ) (t : Shared) → slice_get x.tables place ≡ Some t
          → TableSession (base_state_of known (name_of t)) (start place) number place (with_pieces items c0 (ps ++ p ∷ [])) (steward_in x.held place) (caller_in callers place)
      tables_then place t at = by (table == place) refl
        where
          by : (b : Bool) → (table == place) ≡ b → TableSession (base_state_of known (name_of t)) (start place) number place (with_pieces items c0 (ps ++ p ∷ [])) (steward_in x.held place) (caller_in callers place)
          by true e = subst (λ (k : ℕ). TableSession (base_state_of known (name_of t)) (start k) number k (with_pieces items c0 (ps ++ p ∷ [])) (steward_in x.held k) (caller_in callers k)) (eqb-true table place e)
              (here t (subst (λ (k : ℕ). slice_get x.tables k ≡ Some t) (sym (eqb-true table place e)) at))
          by false e =
              let same : caller_in callers place ≡ caller_in x.callers place =
              ap (λ (cs : List (Option SeatView)). caller_in cs place) step.now ∙ caller_other x.callers table place (Some step.after) (eqb-false table place e) in
              subst (λ (d : Option SeatView). TableSession (base_state_of known (name_of t)) (start place) number place (with_pieces items c0 (ps ++ p ∷ [])) (steward_in x.held place) d) (sym same)
              (other_table (base_state_of known (name_of t)) (start place) number place items c0 ps p (steward_in x.held place) (caller_in x.callers place) (now.tables place t at)
              (call_elsewhere number table place c step.reply p (eqb-false table place e) step.says))

-- ---- a meeting

-- all seats meet of a leaf that is held
module _ {B : Type 0} {meaning : B → Meaning} {number : ℕ} {names : List (List ℕ)} {known : Option Known} {old : Meaning} {before : List Piece} {start : ℕ → List Entry} {items : List PlayedItem}
    (x : Hold B) (l l' : Leaf) (b : B) (callers : List (Option SeatView)) (now : LeafSession meaning number names known old before start items x) (is : x.held ≡ Some (l, b))
    (met : MeetAll l x.callers l' callers (meaning b)) where
  count : length (seated_of l).seats ≡ length x.callers
  count = many_seats x now l b is

  -- the seats of a table that is there
  place_below : (place : ℕ) (t : Shared) → slice_get x.tables place ≡ Some t → place < length x.callers
  place_below place t at = let below = within x.tables place t at in omega (arith, below, many_tables x now, now.callers_are)

  table_met : (place : ℕ) (t : Shared) (v w : SeatView) → slice_get x.tables place ≡ Some t → slice_get (seated_of l).seats place ≡ Some v → MeetsIf v (caller_in x.callers place) w (caller_in callers place)
      → TableSession (base_state_of known (name_of t)) (start place) number place items (Some w) (caller_in callers place)
  table_met place t v w at sat meets =
      table_meets (base_state_of known (name_of t)) (start place) number place items v w (caller_in x.callers place) (caller_in callers place) (table_held x now l b is place t v at sat) meets

  tables_then : (place : ℕ) (t : Shared) → slice_get x.tables place ≡ Some t
      → TableSession (base_state_of known (name_of t)) (start place) number place items (slice_get (seated_of l').seats place) (caller_in callers place)
  tables_then place t at =
      let m = met_at l x.callers l' callers (meaning b) met count place (place_below place t at) in
      subst (λ (s : Option SeatView). TableSession (base_state_of known (name_of t)) (start place) number place items s (caller_in callers place)) (sym m.at_then)
      (table_met place t m.steward m.steward_then at m.at m.meets)

  learned : (place : ℕ) (t : Shared) (v w : SeatView) → slice_get (seated_of l).tables place ≡ Some t → slice_get (seated_of l).seats place ≡ Some v → slice_get (seated_of l').seats place ≡ Some w
      → MeetsIf v (caller_in x.callers place) w (caller_in callers place) → HasLearned (base_state_of known (name_of t)) v w
  learned place t v w at sat sat' meets =
      let there = table_of x now l b is place t at in
      subst (λ (n : List ℕ). HasLearned (base_state_of known n) v w) there.2
      (learns_if (base_state_of known (name_of there.0)) v w (caller_in x.callers place) (caller_in callers place) (table_held x now l b is place there.0 v there.1 sat).stewards meets
      (steward_legal (base_state_of known (name_of there.0)) (start place) number place items w (caller_in callers place) (table_met place there.0 v w there.1 sat meets)))

  pub leaf_meeting : LeafMeets known l l' (meaning b)
  leaf_meeting = leaf_met l x.callers l' callers (meaning b) met count known learned

  same_tables : map name_of (seated_of l').tables ≡ map name_of x.tables
  same_tables = ap (λ (k : Leaf). map name_of (seated_of k).tables) met.leaf_is ∙ (ap (λ s. map name_of s.tables) (seats_become l met.seats) ∙ (now.held l b is).0)

  held_then : LeafHeld number names known old (before ++ all_pieces items) l' (meaning b)
  held_then = held_meets number names known old (before ++ all_pieces items) l l' (meaning b) (now.held l b is).1 leaf_meeting

  held_as : (k : Leaf) (d : B) → (with_leaf x l' b callers).held ≡ Some (k, d) → (map name_of (seated_of k).tables ≡ map name_of x.tables) × LeafHeld number names known old (before ++ all_pieces items) k (meaning d)
  held_as k d e =
      same_pair (λ (h : Leaf × B). (map name_of (seated_of h.0).tables ≡ map name_of x.tables) × LeafHeld number names known old (before ++ all_pieces items) h.0 (meaning h.1)) (l', b) (k, d) e (same_tables, held_then)

  pub meet_on : LeafSession meaning number names known old before start items (with_leaf x l' b callers)
  meet_on = record {
    named = now.named;
    callers_are = met.count.1 ∙ now.callers_are;
    tables = tables_then;
    known_base = now.known_base;
    held = held_as;
  }

  pub are_met : AreMet (with_leaf x l' b callers)
  are_met place v c sat called =
      let below : place < length x.callers = omega (arith, within (seated_of l').seats place v sat, ap (λ (vs : List SeatView). length vs) (seats_become_then), met.count.0, count) in
      let m = met_at l x.callers l' callers (meaning b) met count place below in
      let same : m.steward_then ≡ v = same_some m.steward_then v (sym m.at_then ∙ sat) in
      subst (λ (s : SeatView). (seen_of s ≡ seen_of c) × AreIds c.seen) same
      (some_if (caller_in callers place) (λ s. (seen_of m.steward_then ≡ seen_of s) × AreIds s.seen) c (same_if m.steward m.steward_then (caller_in x.callers place) (caller_in callers place) m.meets) called)
    where
      seats_become_then : (seated_of l').seats ≡ met.seats
      seats_become_then = ap (λ (k : Leaf). (seated_of k).seats) met.leaf_is ∙ ap (λ s. s.seats) (seats_become l met.seats)

module _ {B : Type 0} (meaning : B → Meaning) (number : ℕ) (names : List (List ℕ)) (known : Option Known) (old : Meaning) (before : List Piece) (start : ℕ → List Entry) (items : List PlayedItem) where
  pub leaf_meets : (x y : Hold B) → LeafSession meaning number names known old before start items x → HoldMeets meaning x y
      → LeafSession meaning number names known old before start items y × AreMet y
  leaf_meets x y now meet =
      subst (λ (z : Hold B). LeafSession meaning number names known old before start items z × AreMet z) (sym meet.now)
      (meet_on x meet.leaf meet.leaf_then meet.berth meet.callers_then now meet.held meet.met, are_met x meet.leaf meet.leaf_then meet.berth meet.callers_then now meet.held meet.met)
