-- Histories that go on from what a leaf's seats have seen go on from what they had seen before an entry, or a meeting.
use Rattle.std.proofs.Common.{◌≡◌, ◌∙◌, ℕ, List, ◌++◌, length, Option, Some, sym, ap, ap₂, arith}
use Rattle.std.specs.Prelude.{Bool, slice_get}
use Rattle.std.proofs.lemmas.List.{append_assoc}
use Rattle.berth_face.specs.Berth.{Meaning}
use Rattle.leaf_history.specs.History.{Entry, HistoryState}
use Rattle.leaf_table.specs.Turns.{Shared, is_founded, start_of}
use Rattle.leaf_table.specs.Calls.{SeatView, base_seen, name_of, seen_of}
use Rattle.leaf_words.specs.declared.note.Note.{Note}
use Rattle.leaf_steward.specs.Seated.{Seated}
use Rattle.leaf_steward.specs.Making.{Makes}
use Rattle.leaf_steward.proofs.WatchMakes.{makes_tables}
use Rattle.printed_lines.specs.Lines.{name_at}
use Rattle.transcript.specs.Histories.{BaseState}
use Rattle.transcript.specs.Transcript.{Known, base_state_of}
use Rattle.leaf_moves.specs.Stage.{Leaf, seated_of, seated_with}
use Rattle.transcript_leaf.specs.Session.{HaveKnownBase, AreInPlace, AreToldOn}
use Rattle.transcript_leaf.proofs.CountingNotes.{AreStewards, as_many, makes_seats}
use Rattle.transcript_leaf.proofs.Lists.{element_at, get_map, name_is, within}
use Rattle.transcript_leaf.proofs.Noting.{notes_at}
use Rattle.transcript_leaf.proofs.Standing.{LeafMeets, seats_become}

module _ (base_states : ℕ → BaseState) (histories : ℕ → List Entry) where
  -- tables and as many seats stay, and each seat has then seen what it had, and more
  told_before : (x y : Seated) → y.tables ≡ x.tables → length y.seats ≡ length x.seats
      → ((place : ℕ) (v w : SeatView) → slice_get x.seats place ≡ Some v → slice_get y.seats place ≡ Some w → (more : List Entry) × (seen_of w ≡ seen_of v ++ more))
      → AreToldOn base_states histories y → AreToldOn base_states histories x
  told_before x y tables seats more told = record {
    known_base = λ place t v at was. told.known_base place t (then place v was).0 (ap (λ (ts : List Shared). slice_get ts place) tables ∙ at) (then place v was).1;
    on = λ place v was.
        let w = then place v was in
        let on = told.on place w.0 w.1 in
        let own = more place v w.0 was w.1 in
        (own.0 ++ on.0, on.1 ∙ (ap (λ (es : List Entry). es ++ on.0) own.1 ∙ append_assoc (seen_of v) own.0 on.0));
  }
    where
      then : (place : ℕ) (v : SeatView) → slice_get x.seats place ≡ Some v → (w : SeatView) × (slice_get y.seats place ≡ Some w)
      then place v was = let below = within x.seats place v was in element_at y.seats place (omega (arith, below, seats))

  -- before the entries of a deed
  pub told_made : (from to : ℕ) (x : Seated) (notes : List Note) (y : Seated) → Makes from to x notes y → AreStewards x → AreToldOn base_states histories y → AreToldOn base_states histories x
  told_made from to x notes y makes stewards told =
      told_before x y (makes_tables from to x notes y makes) (makes_seats from to x notes y makes)
      (λ place v w was sat. let own = notes_at from to x notes y place v w makes was sat (stewards place v was) in (own.entries, own.seen)) told

  -- before a meeting
  pub told_met : (names : List (List ℕ)) (known : Option Known) (leaf leaf' : Leaf) (m : Meaning) → AreInPlace names (seated_of leaf) → LeafMeets known leaf leaf' m
      → AreToldOn base_states histories (seated_of leaf') → AreToldOn base_states histories (seated_of leaf)
  told_met names known leaf leaf' m in_place met told =
      told_before (seated_of leaf) (seated_of leaf') (ap (λ (s : Seated). s.tables) now) (ap (λ (s : Seated). length s.seats) now ∙ met.count) learned told
    where
      now : seated_of leaf' ≡ seated_with (seated_of leaf) met.seats
      now = ap seated_of met.leaf_is ∙ seats_become leaf met.seats

      learned : (place : ℕ) (v w : SeatView) → slice_get (seated_of leaf).seats place ≡ Some v → slice_get (seated_of leaf').seats place ≡ Some w → (more : List Entry) × (seen_of w ≡ seen_of v ++ more)
      learned place v w was sat =
          let below = within (seated_of leaf).seats place v was in
          let t = element_at (seated_of leaf).tables place (omega (arith, below, as_many names (seated_of leaf).tables in_place.named, in_place.seats)) in
          let has = met.each place t.0 v w t.1 was (ap (λ (s : Seated). slice_get s.seats place) (sym now) ∙ sat) in
          (has.more, has.seen)

pub base_state_is : (g : BaseState) (founded : Bool) (base : HistoryState) → founded ≡ g.founded → base ≡ g.base → record { founded = founded; base = base } ≡ g
base_state_is g founded base e f = ap₂ (λ (b : Bool) (s : HistoryState). let h : BaseState = record { founded = b; base = s } in h) e f

-- what has been seen to the end is so, over the base states that are known
pub told_at_end : (names : List (List ℕ)) (known : Option Known) (x : Seated) (histories : ℕ → List Entry) → AreInPlace names x → HaveKnownBase known x
    → ((place : ℕ) (v : SeatView) → slice_get x.seats place ≡ Some v → (more : List Entry) × (histories place ≡ seen_of v ++ more))
    → AreToldOn (λ table. base_state_of known (name_at names table)) histories x
told_at_end names known x histories in_place known_base on = record {
  known_base = λ place t v at was.
      let from = known_base place t v at was in
      let named : name_of t ≡ name_at names place =
      name_is names place (name_of t) (ap (λ (ns : List (List ℕ)). slice_get ns place) (sym in_place.named) ∙ get_map name_of x.tables place t at) in
      ap (base_state_of known) (sym named) ∙ sym (base_state_is (base_state_of known (name_of t)) (is_founded (base_seen t)) (start_of (base_seen t)) from.0 from.1);
  on = on;
}
