-- A leaf ends: its tables' histories are those that were printed, and its berth is left so.
use Rattle.std.proofs.Common.{◌≡◌, ◌⊎◌, inl, inr, ℕ, zero, suc, ◌+◌, ◌<◌, List, [], ◌∷◌, ◌++◌, length, Option, Some, None, refl, sym, ap, subst, ◌∙◌, arith, IsPermutation}
use Rattle.std.specs.Prelude.{is_some, slice_get}
use Rattle.std.specs.List.{AllByRecursion}
use Rattle.std.proofs.lemmas.List.{append-nil}
use Rattle.berth_face.specs.Berth.{Meaning}
use Rattle.turnstile.specs.Seats.{AreIds, Owns}
use Rattle.leaf_history.specs.History.{Entry, LegalFrom}
use Rattle.leaf_table.specs.Turns.{Shared, is_founded, start_of}
use Rattle.leaf_table.specs.Calls.{SeatView, AreOwnOrStewards, OwnsTheRest, base_seen, name_of, seen_of}
use Rattle.leaf_table.proofs.Knowing.{makers_known}
use Rattle.leaf_machine.specs.Leaving.{LeavesBegin}
use Rattle.leaf_machine.proofs.LeaveRests.{rests_begin}
use Rattle.leaf_machine.proofs.LeaveRuns.{runs_begin}
use Rattle.printed_lines.specs.Lines.{name_at}
use Rattle.transcript.specs.Pieces.{Did, Piece, PlayedItem, all_pieces, deeds}
use Rattle.transcript.specs.Histories.{BaseState, InOrder, IsHistoryOf, Shown, Tells, shown}
use Rattle.transcript.specs.Strangers.{StrangersIn}
use Rattle.transcript.specs.Answers.{columns_of}
use Rattle.transcript.specs.Life.{Lives}
use Rattle.transcript.specs.Transcript.{Known, first_life, base_state_of}
use Rattle.transcript.specs.Leaving.{LeavesBerth}
use Rattle.leaf_moves.specs.Stage.{Leaf, seated_of}
use Rattle.leaf_moves.specs.Holds.{Hold, caller_in, base_state_at, seen_by, seen_in, steward_in}
use Rattle.transcript.specs.Moments.{MomentsRise, notes_told}
use Rattle.transcript_leaf.specs.Session.{AreMet, AreToldOn, IsStewards, IsWhole, LeafHeld, LeafSession, OneOf, OwnedBy, TableSession}
use Rattle.transcript_leaf.proofs.Lists.{element_at, get_map, name_is, same_some}
use Rattle.transcript_leaf.proofs.Merging.{tells_all, tells_nothing}
use Rattle.transcript_leaf.proofs.Standing.{leaves_met}
use Rattle.transcript_leaf.proofs.Lending.{seats_at, seen_is, table_whole}
use Rattle.transcript_leaf.proofs.Sessions.{many_tables}
use Rattle.transcript_leaf.proofs.ToldOn.{base_state_is, told_at_end}
use Rattle.transcript_leaf.proofs.Tables.{nothing_since}

-- ---- what its tables began from

base_state_there : (ts : List Shared) (table : ℕ) (t : Shared) → slice_get ts table ≡ Some t
    → base_state_at ts table ≡ record { founded = is_founded (base_seen t); base = start_of (base_seen t) }
base_state_there [] table t at = absurd cc
base_state_there (x ∷ xs) zero t at =
    ap (λ (u : Shared). let g : BaseState = record { founded = is_founded (base_seen u); base = start_of (base_seen u) } in g) (same_some x t at)
base_state_there (x ∷ xs) (suc table) t at = base_state_there xs table t at

-- ---- the history of one table

one_of_both : (v c : SeatView) (id : ℕ) → IsStewards v → Owns c id ⊎ (id ≡ 0) → OneOf (Some v) (Some c) id
one_of_both v c id sits (inl o) = inr o
one_of_both v c id sits (inr none) = let first = sits.id in let one = sits.share in inl (inl (omega (arith, first, none), omega (arith, first, one, none)))

all_of_both : (v c : SeatView) (es : List Entry) → IsStewards v → AreOwnOrStewards c es → AllByRecursion (λ (e : Entry). OneOf (Some v) (Some c) e.caller) es
all_of_both v c [] sits h = tt
all_of_both v c (e ∷ es) sits h = (one_of_both v c e.caller sits h.0, all_of_both v c es sits h.1)

module _ (g : BaseState) (number place : ℕ) (items : List PlayedItem) (v c : SeatView) (t : TableSession g [] number place items (Some v) (Some c)) (same : seen_of v ≡ seen_of c) where
  none : t.since ≡ []
  none = nothing_since [] t.met t.since (seen_of v) (seen_of c) t.seen_steward t.seen_caller same

  no_later : t.later ≡ []
  no_later = tells_nothing (OwnedBy (Some c)) (1 + length t.met) t.later t.since none t.tells_later

  whole_seen : seen_of c ≡ t.met
  whole_seen = sym same ∙ t.seen_steward

  -- the callers' seat owns all ids but the steward's, so of each entry there is a line
  pub table_history : AreIds c.seen → OwnsTheRest c → IsHistoryOf g (shown number place (all_pieces items)) (seen_of c)
  table_history ids rest = record {
    legal = subst (λ (es : List Entry). LegalFrom g.founded g.base es) (sym t.seen_caller) t.legal;
    placed = t.told;
    same = subst (λ (ss : List Shown). IsPermutation (shown number place (all_pieces items)) ss) (ap (λ (ss : List Shown). t.told ++ ss) no_later ∙ append-nil t.told) t.lines;
    tells = subst (λ (es : List Entry). Tells 1 t.told es) (sym whole_seen)
        (tells_all (OneOf (Some v) (Some c)) 1 t.told t.met t.tells
        (subst (λ (es : List Entry). AllByRecursion (λ (e : Entry). OneOf (Some v) (Some c) e.caller) es) whole_seen (all_of_both v c (seen_of c) t.stewards ((makers_known c ids).own rest))));
  }

  pub table_order : InOrder number place 0 items (length (seen_of c))
  table_order = subst (λ (k : ℕ). InOrder number place 0 items k) (nothing_before (length (t.met ++ t.since)) ∙ ap (λ (es : List Entry). length es) (sym t.seen_caller)) t.order
    where
      nothing_before : (n : ℕ) → 0 + n ≡ n
      nothing_before n = omega arith

-- ---- the leaf

-- another leaf may begin there
begins_again : (m : Meaning) → LeavesBegin m
begins_again m = record {
  rests = λ ws others least next tells rests. rests_begin ws others least next m rests tells;
  runs = λ ws others owner log writes tells sound runs. runs_begin ws others owner log writes m runs tells sound;
}

-- what its tables began from is what is known of it
pub leaf_base_state : {B : Type 0} (meaning : B → Meaning) (number : ℕ) (names : List (List ℕ)) (known : Option Known) (old : Meaning) (before : List Piece) (start : ℕ → List Entry) (items : List PlayedItem) (x : Hold B)
    → LeafSession meaning number names known old before start items x → (table : ℕ) → table < length names → base_state_at x.tables table ≡ base_state_of known (name_at names table)
leaf_base_state meaning number names known old before start items x now table below =
    let t = element_at x.tables table (omega (arith, below, many_tables x now)) in
    let from = now.known_base table t.0 t.1 in
    let named : name_of t.0 ≡ name_at names table =
    name_is names table (name_of t.0) (ap (λ (ns : List (List ℕ)). slice_get ns table) (sym now.named) ∙ get_map name_of x.tables table t.0 t.1) in
    base_state_there x.tables table t.0 t.1
    ∙ (base_state_is (base_state_of known (name_of t.0)) (is_founded (base_seen t.0)) (start_of (base_seen t.0)) from.0 from.1 ∙ ap (base_state_of known) named)

module _ {B : Type 0} (meaning : B → Meaning) (number : ℕ) (names : List (List ℕ)) (known : Option Known) (old : Meaning) (items : List PlayedItem) (x : Hold B)
    (now : LeafSession meaning number names known old [] (λ place. []) items x) where
  module _ (whole : IsWhole x) (met : AreMet x) (table : ℕ) (below : table < length names) where
    -- the table in that place
    at : (t : Shared) × (slice_get x.tables table ≡ Some t)
    at = element_at x.tables table (omega (arith, below, many_tables x now))

    named : name_of at.0 ≡ name_at names table
    named = name_is names table (name_of at.0) (ap (λ (ns : List (List ℕ)). slice_get ns table) (sym now.named) ∙ get_map name_of x.tables table at.0 at.1)

    seats : (v c : SeatView) × (steward_in x.held table ≡ Some v) × (caller_in x.callers table ≡ Some c) × OwnsTheRest c
    seats = seats_at meaning number names known old [] (λ place. []) items x now met whole table at.0 at.1

    session : TableSession (base_state_of known (name_of at.0)) [] number table items (Some seats.0) (Some seats.1)
    session = table_whole meaning number names known old [] (λ place. []) items x now met whole table at.0 seats.0 seats.1 at.1 seats.2 seats.3

    seen : seen_in x table ≡ seen_of seats.1
    seen = seen_is meaning number names known old [] (λ place. []) items x now met whole table seats.0 seats.1 seats.2 seats.3

    pub leaf_history : IsHistoryOf (base_state_of known (name_at names table)) (shown number table (all_pieces items)) (seen_in x table)
    leaf_history =
        let are = met table seats.0 seats.1 seats.2 seats.3 in
        subst (λ (es : List Entry). IsHistoryOf (base_state_of known (name_at names table)) (shown number table (all_pieces items)) es) (sym seen)
        (subst (λ (n : List ℕ). IsHistoryOf (base_state_of known n) (shown number table (all_pieces items)) (seen_of seats.1)) named
        (table_history (base_state_of known (name_of at.0)) number table items seats.0 seats.1 session are.0 are.1 seats.4))

    pub leaf_order : InOrder number table 0 items (length (seen_in x table))
    leaf_order =
        subst (λ (es : List Entry). InOrder number table 0 items (length es)) (sym seen)
        (table_order (base_state_of known (name_of at.0)) number table items seats.0 seats.1 session (met table seats.0 seats.1 seats.2 seats.3).0)

-- its starts found just the strangers that there are
strangers_of : (number : ℕ) (names : List (List ℕ)) (known : Option Known) (old : Meaning) (pieces : List Piece) (l : Leaf) (m : Meaning) (k : Known) → known ≡ Some k
    → LeafHeld number names known old pieces l m → StrangersIn names k.held.disk k.held.region (deeds number pieces)
strangers_of number names None old pieces l m k is s = absurd cc
strangers_of number names (Some d) old pieces l m k is s =
    subst (λ (x : Known). StrangersIn names x.held.disk x.held.region (deeds number pieces)) (same_some d k is)
    (subst (λ (ds : List Did). StrangersIn names d.held.disk d.held.region ds) (append-nil (deeds number pieces)) (s.of_known.named.on [] (λ rest. tt)))

pub leaf_strangers : {B : Type 0} (meaning : B → Meaning) (number : ℕ) (names : List (List ℕ)) (known : Option Known) (old : Meaning) (items : List PlayedItem) (x : Hold B) (k : Known) → known ≡ Some k
    → LeafSession meaning number names known old [] (λ place. []) items x → IsWhole x → StrangersIn names k.held.disk k.held.region (deeds number (all_pieces items))
leaf_strangers meaning number names known old items x k is now whole =
    strangers_of number names known old (all_pieces items) whole.leaf (meaning whole.berth) k is (now.held whole.leaf whole.berth whole.held).1

-- ---- what is left of its berth

left_of : (number : ℕ) (names : List (List ℕ)) (known : Option Known) (old : Meaning) (pieces : List Piece) (l : Leaf) (m : Meaning) (histories : ℕ → List Entry) (k : Known) → known ≡ Some k
    → (s : LeafHeld number names known old pieces l m) → ((place : ℕ) (v : SeatView) → slice_get (seated_of l).seats place ≡ Some v → seen_of v ≡ histories place)
    → LeavesBerth names k.base s.life histories old m
left_of number names None old pieces l m histories k is s seen = absurd cc
left_of number names (Some d) old pieces l m histories k is s seen =
    subst (λ (x : Known). LeavesBerth names x.base s.life histories old m) (same_some d k is)
    (leaves_met names d.base s.life l histories old m (begins_again m) s.of_known.now.tells s.of_known.now.sound s.in_place s.known_base (λ place t v at sat. seen place v sat)
    s.of_known.now.stands s.of_known.told s.next.0)

module _ {B : Type 0} (meaning : B → Meaning) (number : ℕ) (names : List (List ℕ)) (known : Option Known) (old : Meaning) (items : List PlayedItem) (x : Hold B) where
  -- its steward's seats have seen what there is
  seen_at_end : AreMet x → (l : Leaf) (b : B) → x.held ≡ Some (l, b) → (place : ℕ) (v : SeatView) → slice_get (seated_of l).seats place ≡ Some v → seen_of v ≡ seen_in x place
  seen_at_end met l b held place v sat =
      alike (caller_in x.callers place) (λ s e. (met place v s steward_is e).0) ∙ ap (λ (w : Option SeatView). seen_by w (caller_in x.callers place)) (sym steward_is)
    where
      steward_is : steward_in x.held place ≡ Some v
      steward_is = ap (λ (h : Option (Leaf × B)). steward_in h place) held ∙ sat

      alike : (c : Option SeatView) → ((s : SeatView) → c ≡ Some s → seen_of v ≡ seen_of s) → seen_of v ≡ seen_by (Some v) c
      alike None same = refl
      alike (Some c) same = same c refl

  told_all : (now : LeafSession meaning number names known old [] (λ place. []) items x) → AreMet x → (l : Leaf) (b : B) → x.held ≡ Some (l, b)
      → AreToldOn (λ table. base_state_of known (name_at names table)) (λ table. seen_in x table) (seated_of l)
  told_all now met l b held =
      let is = (now.held l b held).1 in
      told_at_end names known (seated_of l) (λ table. seen_in x table) is.in_place is.known_base (λ place v sat. ([], sym (seen_at_end met l b held place v sat) ∙ sym (append-nil (seen_of v))))

  pub leaf_leaves : (k : Known) → known ≡ Some k → (now : LeafSession meaning number names known old [] (λ place. []) items x) → AreMet x → (l : Leaf) (b : B) (held : x.held ≡ Some (l, b))
      → LeavesBerth names k.base (now.held l b held).1.life (λ place. seen_in x place) old (meaning b)
  leaf_leaves k is now met l b held = left_of number names known old (all_pieces items) l (meaning b) (λ place. seen_in x place) k is (now.held l b held).1 (seen_at_end met l b held)

  -- ---- its life

  pub leaf_lives : (now : LeafSession meaning number names known old [] (λ place. []) items x) → AreMet x → (l : Leaf) (b : B) (held : x.held ≡ Some (l, b))
      → Lives (is_some known) (length names) (columns_of (λ table. base_state_of known (name_at names table)) (λ table. seen_in x table) (length names)) [] (first_life known names) (deeds number (all_pieces items))
      (now.held l b held).1.life
  leaf_lives now met l b held = (now.held l b held).1.lives (λ table. base_state_of known (name_at names table)) (λ table. seen_in x table) (told_all now met l b held)

  -- ---- the moments of its entries

  pub moments_all : LeafSession meaning number names known old [] (λ place. []) items x → AreMet x → (l : Leaf) (b : B) → x.held ≡ Some (l, b)
      → MomentsRise (λ table. seen_in x table) old.clock (notes_told number (all_pieces items)) (meaning b).clock
  moments_all now met l b held = (now.held l b held).1.moments (λ table. base_state_of known (name_at names table)) (λ table. seen_in x table) (told_all now met l b held)
