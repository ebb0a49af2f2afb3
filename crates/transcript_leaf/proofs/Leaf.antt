-- One leaf of a run, by who holds it or seats of it: how it begins, goes on, is lent to lanes and taken back, and ends.
use Rattle.std.proofs.Common.{◌≡◌, ◌⊎◌, ℕ, List, [], ◌∷◌, ◌++◌, Option}
use Rattle.berth_face.specs.Berth.{Meaning}
use Rattle.leaf_history.specs.Calls.{Call}
use Rattle.leaf_history.specs.History.{Entry}
use Rattle.region_layout.specs.Names.{AreNames}
use Rattle.leaf_table.specs.Turns.{Shared}
use Rattle.leaf_table.specs.Calls.{SeatView}
use Rattle.crash_moments.specs.Left.{NamedStates}
use Rattle.printed_lines.specs.declared.line.Said.{Said}
use Rattle.transcript.specs.Pieces.{Called, Piece, Played, PlayedItem, Burst, Worn, all_pieces}
use Rattle.transcript.specs.Answers.{WornIsLong}
use Rattle.transcript.specs.Transcript.{Known}
use Rattle.leaf_moves.specs.Holds.{Hold, seen_in, with_callers}
use Rattle.leaf_moves.specs.Steps.{CallStep}
use Rattle.transcript_leaf.specs.Session.{AreMet, AreSame, IsNewHold, IsWhole, LeafSession}
use Rattle.transcript_leaf.proofs.Beginning.{begins, begins_whole}
use Rattle.transcript_leaf.proofs.Sessions.{call_piece}
use Rattle.transcript_leaf.proofs.Growing.{call_all}
use Rattle.transcript_leaf.proofs.Wearing.{called_worn}
use Rattle.transcript_leaf.proofs.Lending.{joined_on}
pub use Rattle.transcript_leaf.proofs.Terms.{Grows, TellsOn, with_pieces}
-- It goes on: by a command more, of which nothing was printed yet, by a caller's call, and past what tells nothing of
-- it; and its seats meet.
pub use Rattle.transcript_leaf.proofs.Sessions.{leaf_opens, leaf_calls, leaf_others, leaf_meets}
-- by a deed of its steward
pub use Rattle.transcript_leaf.proofs.Acting.{leaf_acts}
-- what has been seen grows, who holds what stays, the run holds all of it still, and a seat is told as worn only of a
-- long history
pub use Rattle.transcript_leaf.proofs.Growing.{deed_grows, meet_grows, whole_still, deed_worn}
-- a burst begins, once all seats have met; lanes that were played one after another are a burst too
pub use Rattle.transcript_leaf.proofs.Lending.{leaf_lends, leaf_in_turn}
-- something is cut off for a lane, and the lane is taken back
pub use Rattle.transcript_leaf.proofs.Cutting.{leaf_cuts}
pub use Rattle.transcript_leaf.proofs.Returning.{leaf_back}
-- it ends: what its tables began from, its histories, its life, the strangers that it found, and what it leaves
pub use Rattle.transcript_leaf.proofs.Ended.{leaf_base_state, leaf_history, leaf_order, leaf_lives, leaf_strangers, leaf_leaves}

module _ {B : Type 0} (meaning : B → Meaning) (number : ℕ) (names : List (List ℕ)) (known : Option Known) where
  pub leaf_begins : (base : Option NamedStates) (x : Hold B) → AreNames names → (new : IsNewHold meaning names base known x)
      → LeafSession meaning number names known (meaning new.berth) [] (λ place. []) [] x × IsWhole x
  leaf_begins base x are new = (begins meaning number names known base x new, begins_whole meaning number names known base x new)

  module _ (old : Meaning) (before : List Piece) (start : ℕ → List Entry) (items : List PlayedItem) where
    pub call_grows : (x : Hold B) (table : ℕ) (c : Call) (p : Piece) (callers : List (Option SeatView))
        → LeafSession meaning number names known old before start items x → CallStep number table c x.tables x.callers p callers → Grows x (with_callers x callers) × AreSame x (with_callers x callers)
    call_grows x table c p callers now step = call_all number x table c p callers step

    pub piece_of_call : (table : ℕ) (c : Call) (tables : List Shared) (seats seats' : List (Option SeatView)) (p : Piece) → CallStep number table c tables seats p seats'
        → ((n : ℕ) × (said : Said) × (p ≡ Called number table c n said)) ⊎ (p ≡ Worn number table)
    piece_of_call table c tables seats seats' p step = call_piece number table c step.reply p step.says

    pub call_worn : (x : Hold B) (table : ℕ) (c : Call) (p : Piece) (callers : List (Option SeatView)) (histories : ℕ → ℕ → List Entry)
        → LeafSession meaning number names known old before start items x → CallStep number table c x.tables x.callers p callers → TellsOn number (with_callers x callers) histories → WornIsLong histories p
    call_worn x table c p callers histories now step on = called_worn number x table c p callers histories step on

    -- a burst ends
    pub leaf_joined : (lanes : List (List Played)) (x y : Hold B) → LeafSession meaning number names known old before start items x → AreMet x → IsWhole x → AreSame x y
        → LeafSession meaning number names known old (before ++ all_pieces items) (λ place. seen_in x place) (Burst lanes ∷ []) y
        → LeafSession meaning number names known old before start (items ++ Burst lanes ∷ []) y
    leaf_joined lanes x y was met whole same now = joined_on meaning number names known old before start items x was met whole lanes y same now
