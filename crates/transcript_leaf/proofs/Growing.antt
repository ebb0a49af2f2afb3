-- What has been seen of a leaf's tables grows, who holds which ids stays, and a deed tells of a worn seat only at a table
-- with a long history.
use Rattle.std.proofs.Common.{◌≡◌, ◌⊎◌, inl, inr, ℕ, ◌<◌, ◌≤◌, ◌==◌, Bool, true, false, List, [], ◌∷◌, ◌++◌, length, Option, Some, None, refl, sym, ap, subst, ◌∙◌, arith, IfSome, ◌+◌}
use Rattle.std.specs.Prelude.{is_some, slice_get}
use Rattle.std.proofs.lemmas.Bool.{eqb-true, eqb-false, cases_lt}
use Rattle.std.proofs.lemmas.List.{append-nil, append_assoc, length-append}
use Rattle.std.proofs.lemmas.Option.{slice_get_past}
use Rattle.berth_face.specs.Berth.{Meaning}
use Rattle.leaf_history.specs.Calls.{Call}
use Rattle.leaf_table.specs.declared.base.TableBase.{TableBase}
use Rattle.leaf_table.specs.declared.replies.Reply.{Reply}
use Rattle.leaf_table.specs.declared.replies.Reply.TheVariants as told
use Rattle.leaf_table.specs.Calls.{SeatView, OwnsTheRest, Replied, Answered as CallAnswered, base_seen, entry_seen, seen_of}
use Rattle.turnstile.specs.Seats.{Owns}
use Rattle.transcript.specs.Pieces.{Piece, PlayedItem}
use Rattle.leaf_moves.specs.Stage.{Leaf, MeetAll, seated_of}
use Rattle.leaf_moves.specs.Holds.{Hold, caller_in, steward_in, with_callers, HoldMeets, with_leaf, seen_by}
use Rattle.leaf_moves.specs.Steps.{CallStep, DeedStep}
use Rattle.transcript_leaf.specs.Session.{AreSame, IsStewards, OneOf, OwnedBy, IsWhole, LeafSession}
use Rattle.transcript_leaf.proofs.Terms.{Grows, TellsOn}
use Rattle.transcript_leaf.proofs.Ids.{SameIds, one_same, owns_same, same_here, same_made, stewards_own}
use Rattle.transcript_leaf.proofs.TableMeets.{GrowsAt, SeesMore, grows_as, grows_met, grows_not, grows_then}
use Rattle.transcript_leaf.proofs.Places.{caller_beyond, caller_is, caller_other, caller_set, met_at, seats_then, caller_found}
use Rattle.transcript_leaf.proofs.Merging.{all_refl}
use Rattle.leaf_history.specs.History.{Entry}
use Rattle.script_text.specs.declared.command.Command.TheVariants as command
use Rattle.printed_lines.specs.declared.line.Deed.{Deed}
use Rattle.transcript.specs.Transcript.{Known}
use Rattle.transcript_leaf.proofs.Lists.{element_at}
use Rattle.transcript_leaf.proofs.Sessions.{are_met, many_seats, many_tables, meet_on, leaf_opens}
use Rattle.transcript_leaf.proofs.Acting.{acts_grow, acts_reach}
use Rattle.transcript.specs.Answers.{WornIsLong}
use Rattle.transcript_leaf.proofs.Wearing.{Reach, acted_worn}

-- ---- a call

replied_more : (base : Option TableBase) (v : SeatView) (c : Call) (r : Reply) (w : SeatView) → Replied base v c r w → SeesMore v w × SameIds v w
replied_more base v c r w h =
    let own = entry_seen v.id 0 c h.1 ∷ [] in
    ((h.2.between ++ own, h.2.seen ∙ append_assoc (seen_of v) h.2.between own), same_made base 0 v w c h.1 h.2)

pub answered_more : (base : Option TableBase) (v : SeatView) (c : Call) (r : Reply) (w : SeatView) → CallAnswered base v c r w → SeesMore v w × SameIds v w
answered_more base v c told.Worn w h = (([], ap (λ (s : SeatView). seen_of s) h.1 ∙ sym (append-nil (seen_of v))), same_here v w h.1)
answered_more base v c r w h = replied_more base v c r w h

grows_called : (v : Option SeatView) (c d : SeatView) → SeesMore c d → SameIds c d → GrowsAt v (Some c) v (Some d)
grows_called v c d more same = (more, one_same v v (Some c) (Some d) (all_refl (OwnedBy v)) (owns_same c d same))

-- ---- who owns all ids but the steward's

stewards_none : (v : Option SeatView) (x : ℕ) → IfSome v IsStewards → 0 < x → OneOf v None x → ⊥
stewards_none None x sits some (inl o) = o
stewards_none (Some v) x sits some (inl o) = let none = stewards_own v x sits o in absurd (omega (arith, none, some))
stewards_none v x sits some (inr o) = absurd o

the_rest : (v : Option SeatView) (s : SeatView) (x : ℕ) → IfSome v IsStewards → 0 < x → OneOf v (Some s) x → Owns s x
the_rest v s x sits some (inr o) = o
the_rest None s x sits some (inl o) = absurd o
the_rest (Some v) s x sits some (inl o) = let none = stewards_own v x sits o in absurd (omega (arith, none, some))

pub rest_there : (v c : Option SeatView) → IfSome v IsStewards → ((x : ℕ) → 0 < x → x < 65537 → OneOf v c x) → (s : SeatView) × (c ≡ Some s) × OwnsTheRest s
rest_there v None sits all = absurd (stewards_none v 1 sits (omega arith) (all 1 (omega arith) (omega arith)))
rest_there v (Some s) sits all = (s, refl, λ x some few. the_rest v s x sits some (all x some few))

pub some_there : {X : Type 0} (o : Option X) → is_some o ≡ true → (x : X) × (o ≡ Some x)
some_there None e = absurd cc
some_there (Some x) e = (x, refl)

-- ---- the leaf

module _ {B : Type 0} where
  pub grows_all : (x y : Hold B) → is_some x.held ≡ is_some y.held → ((place : ℕ) → GrowsAt (steward_in x.held place) (caller_in x.callers place) (steward_in y.held place) (caller_in y.callers place))
      → Grows x y × AreSame x y
  grows_all x y held each = (λ place. (each place).0, record { ids = λ place id. (each place).1 id; held = held })

  pub call_all : (number : ℕ) (x : Hold B) (table : ℕ) (c : Call) (p : Piece) (callers : List (Option SeatView)) → CallStep number table c x.tables x.callers p callers → Grows x (with_callers x callers) × AreSame x (with_callers x callers)
  call_all number x table c p callers step = grows_all x (with_callers x callers) refl each
    where
      more : SeesMore step.before step.after × SameIds step.before step.after
      more = answered_more (base_seen step.shared) step.before c step.reply step.after step.answered

      each : (place : ℕ) → GrowsAt (steward_in x.held place) (caller_in x.callers place) (steward_in x.held place) (caller_in callers place)
      each place = by (table == place) refl
        where
          here : GrowsAt (steward_in x.held table) (caller_in x.callers table) (steward_in x.held table) (caller_in callers table)
          here = grows_as (steward_in x.held table) (caller_in x.callers table) (steward_in x.held table) (caller_in callers table)
              (steward_in x.held table) (Some step.before) (steward_in x.held table) (Some step.after) refl (caller_is x.callers table (Some step.before) step.was) refl
              (ap (λ (cs : List (Option SeatView)). caller_in cs table) step.now ∙ caller_set x.callers table (Some step.before) (Some step.after) step.was)
              (grows_called (steward_in x.held table) step.before step.after more.0 more.1)

          by : (b : Bool) → (table == place) ≡ b → GrowsAt (steward_in x.held place) (caller_in x.callers place) (steward_in x.held place) (caller_in callers place)
          by true e = subst (λ (k : ℕ). GrowsAt (steward_in x.held k) (caller_in x.callers k) (steward_in x.held k) (caller_in callers k)) (eqb-true table place e) here
          by false e = grows_as (steward_in x.held place) (caller_in x.callers place) (steward_in x.held place) (caller_in callers place)
              (steward_in x.held place) (caller_in x.callers place) (steward_in x.held place) (caller_in x.callers place) refl refl refl
              (ap (λ (cs : List (Option SeatView)). caller_in cs place) step.now ∙ caller_other x.callers table place (Some step.after) (eqb-false table place e))
              (grows_not (steward_in x.held place) (caller_in x.callers place))

  -- at a meeting
  pub grows_meeting : (x : Hold B) (l l' : Leaf) (b : B) (callers : List (Option SeatView)) (m : Meaning) → x.held ≡ Some (l, b) → length (seated_of l).seats ≡ length x.callers → MeetAll l x.callers l' callers m
      → (place : ℕ) → GrowsAt (steward_in x.held place) (caller_in x.callers place) (slice_get (seated_of l').seats place) (caller_in callers place)
  grows_meeting x l l' b callers m is many met place = by (cases_lt place (length x.callers))
    where
      steward_is : steward_in x.held place ≡ slice_get (seated_of l).seats place
      steward_is = ap (λ (h : Option (Leaf × B)). steward_in h place) is

      by : (place < length x.callers) ⊎ (length x.callers ≤ place) → GrowsAt (steward_in x.held place) (caller_in x.callers place) (slice_get (seated_of l').seats place) (caller_in callers place)
      by (inl below) =
          let at = met_at l x.callers l' callers m met many place below in
          grows_as (steward_in x.held place) (caller_in x.callers place) (slice_get (seated_of l').seats place) (caller_in callers place)
          (Some at.steward) (caller_in x.callers place) (Some at.steward_then) (caller_in callers place) (steward_is ∙ at.at) refl at.at_then refl
          (grows_met at.steward at.steward_then (caller_in x.callers place) (caller_in callers place) at.meets)
      by (inr beyond) =
          grows_as (steward_in x.held place) (caller_in x.callers place) (slice_get (seated_of l').seats place) (caller_in callers place) None None None None
          (steward_is ∙ slice_get_past (seated_of l).seats place (omega (arith, beyond, many)))
          (caller_beyond x.callers place beyond)
          (ap (λ (vs : List SeatView). slice_get vs place) (seats_then l x.callers l' callers m met many) ∙ slice_get_past met.seats place (omega (arith, beyond, met.count.0, many)))
          (caller_beyond callers place (omega (arith, beyond, met.count.1)))
          (grows_not None None)

module _ {B : Type 0} (meaning : B → Meaning) (number : ℕ) (names : List (List ℕ)) (known : Option Known) (old : Meaning) (before : List Piece) (start : ℕ → List Entry) (items : List PlayedItem) where
  pub meet_grows : (x y : Hold B) → LeafSession meaning number names known old before start items x → HoldMeets meaning x y → Grows x y × AreSame x y
  meet_grows x y now meet =
      subst (λ (z : Hold B). Grows x z × AreSame x z) (sym meet.now)
      (grows_all x (with_leaf x meet.leaf_then meet.berth meet.callers_then) (ap is_some meet.held)
      (grows_meeting x meet.leaf meet.leaf_then meet.berth meet.callers_then (meaning meet.berth) meet.held (many_seats x now meet.leaf meet.berth meet.held) meet.met))

  pub deed_grows : (x : Hold B) (deed : Deed) (l l' : Leaf) (b b' : B) (p : Piece) (callers : List (Option SeatView))
      → LeafSession meaning number names known old before start items x → x.held ≡ Some (l, b) → DeedStep number deed (meaning b) (meaning b') l x.callers p l' callers
      → Grows x (with_leaf x l' b' callers) × AreSame x (with_leaf x l' b' callers)
  deed_grows x deed l l' b b' p callers now is step =
      grows_all x (with_leaf x l' b' callers) (ap is_some is) (λ place.
      grows_then (steward_in x.held place) (caller_in x.callers place) (slice_get (seated_of step.met).seats place) (caller_in step.met_callers place) (slice_get (seated_of l').seats place) (caller_in callers place)
      (grows_meeting x l step.met b step.met_callers (meaning b) is (many_seats x now l b is) step.first place)
      (acts_grow meaning number names known old before start items (command.Kill number) [] (with_leaf x step.met b step.met_callers) step.met step.moved l' b b' callers deed step.notes step.ends
      (leaf_opens meaning number names known old before start items (command.Kill number) (with_leaf x step.met b step.met_callers) (meet_on x l step.met b step.met_callers now is step.first))
      (are_met x l step.met b step.met_callers now is step.first)
      refl step.moves step.carries step.second place))

  -- who holds the same ids, and the leaf or not
  pub whole_still : (x y : Hold B) → length x.callers ≡ length names → LeafSession meaning number names known old before start items y → AreSame x y → IsWhole x → IsWhole y
  whole_still x y many now same whole = record {
    leaf = held.0.0;
    berth = held.0.1;
    held = held.1;
    seats = seats_there;
  }
    where
      held : (h : Leaf × B) × (y.held ≡ Some h)
      held = some_there y.held (sym same.held ∙ ap is_some whole.held)

      seats_there : (place : ℕ) → place < length y.callers → (c : SeatView) × (slice_get y.callers place ≡ Some (Some c)) × OwnsTheRest c
      seats_there place below =
          let was = whole.seats place (omega (arith, below, many, now.callers_are)) in
          let t = element_at y.tables place (omega (arith, below, now.callers_are, many_tables y now)) in
          let there = rest_there (steward_in y.held place) (caller_in y.callers place) (now.tables place t.0 t.1).stewards (λ x0 some few.
          (same.ids place x0).0 (subst (λ (d : Option SeatView). OneOf (steward_in x.held place) d x0) (sym (caller_is x.callers place (Some was.0) was.1)) (inr (was.2 x0 some few)))) in
          (there.0, caller_found y.callers place there.0 below there.1, there.2)

module _ {B : Type 0} (meaning : B → Meaning) (number : ℕ) (names : List (List ℕ)) (known : Option Known) (old : Meaning) (before : List Piece) (start : ℕ → List Entry) (items : List PlayedItem) where
  pub deed_worn : (x : Hold B) (deed : Deed) (l l' : Leaf) (b b' : B) (p : Piece) (callers : List (Option SeatView)) (histories : ℕ → ℕ → List Entry)
      → LeafSession meaning number names known old before start items x → x.held ≡ Some (l, b) → DeedStep number deed (meaning b) (meaning b') l x.callers p l' callers
      → TellsOn number (with_leaf x l' b' callers) histories → WornIsLong histories p
  deed_worn x deed l l' b b' p callers histories now is step on =
      subst (λ (q : Piece). WornIsLong histories q) (sym step.piece_is) (acted_worn number deed histories (meaning b) (meaning b') step.met step.notes step.ends step.moved step.moves far)
    where
      far : Reach number step.moved histories
      far place w sat =
          let reached = acts_reach meaning number names known old before start items (command.Kill number) [] (with_leaf x step.met b step.met_callers) step.met step.moved l' b b' callers deed step.notes step.ends
          (leaf_opens meaning number names known old before start items (command.Kill number) (with_leaf x step.met b step.met_callers) (meet_on x l step.met b step.met_callers now is step.first))
          (are_met x l step.met b step.met_callers now is step.first)
          refl step.moves step.carries step.second place w sat in
          let here = on place in
          let first : length (histories number place) ≡ length (seen_by (slice_get (seated_of l').seats place) (caller_in callers place)) + length here.0 =
          ap (λ (es : List Entry). length es) here.1 ∙ length-append (seen_by (slice_get (seated_of l').seats place) (caller_in callers place)) here.0 in
          let second : length (seen_by (slice_get (seated_of l').seats place) (caller_in callers place)) ≡ length (seen_of w) + length reached.0 =
          ap (λ (es : List Entry). length es) reached.1 ∙ length-append (seen_of w) reached.0 in
          omega (arith, first, second)
