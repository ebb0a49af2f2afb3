-- The places of a leaf: which seats are there, and how they meet.
use Rattle.std.proofs.Common.{◌≡◌, ℕ, zero, suc, ◌<◌, ◌≤◌, List, [], ◌∷◌, length, map, Option, Some, None, refl, sym, ap, subst, ◌∙◌, arith, IfSome}
use Rattle.std.specs.Prelude.{slice_get, slice_set}
use Rattle.berth_face.specs.Berth.{Meaning}
use Rattle.leaf_table.specs.Turns.{Shared}
use Rattle.leaf_table.specs.Calls.{SeatView, name_of}
use Rattle.transcript.specs.Transcript.{Known, base_state_of}
use Rattle.leaf_moves.specs.Stage.{Leaf, MeetAll, MeetsIf, seated_of}
use Rattle.leaf_moves.specs.Holds.{caller_in}
use Rattle.transcript_leaf.proofs.Lists.{element_at, get_map, name_is, get_set_same, same_some, within}
use Rattle.transcript_leaf.proofs.Standing.{LeafMeets, seats_become}
use Rattle.transcript_leaf.proofs.TableMeets.{HasLearned}
use Rattle.transcript_leaf.proofs.CountingNotes.{as_many}

-- ---- one of some

pub if_some : {X : Type 0} (o : Option X) (P : X → Type 0) → ((x : X) → o ≡ Some x → P x) → IfSome o P
if_some None P f = tt
if_some (Some x) P f = f x refl

pub some_if : {X : Type 0} (o : Option X) (P : X → Type 0) (x : X) → IfSome o P → o ≡ Some x → P x
some_if None P x h e = absurd cc
some_if (Some y) P x h e = subst P (same_some y x e) h

pub same_pair : {X Y : Type 0} (P : X × Y → Type 0) (p q : X × Y) → Some p ≡ Some q → P p → P q
same_pair P p q e h = subst P (same_some p q e) h

-- tables of the same names, place by place
pub same_name : (names : List (List ℕ)) (ts us : List Shared) → map name_of ts ≡ names → map name_of us ≡ names → (place : ℕ) (t : Shared) → slice_get ts place ≡ Some t
    → (u : Shared) × (slice_get us place ≡ Some u) × (name_of u ≡ name_of t)
same_name names ts us named named' place t at =
    let u = element_at us place (omega (arith, within ts place t at, as_many names ts named, as_many names us named')) in (
      u.0,
      u.1,
      name_is names place (name_of u.0) (ap (λ (ns : List (List ℕ)). slice_get ns place) (sym named') ∙ get_map name_of us place u.0 u.1)
          ∙ sym (name_is names place (name_of t) (ap (λ (ns : List (List ℕ)). slice_get ns place) (sym named) ∙ get_map name_of ts place t at)),
    )

-- ---- callers' seats

pub caller_at : (cs : List (Option SeatView)) (place : ℕ) → place < length cs → slice_get cs place ≡ Some (caller_in cs place)
caller_at [] place l = absurd (omega (arith, l))
caller_at (c ∷ cs) zero l = refl
caller_at (c ∷ cs) (suc place) l = caller_at cs place (omega (arith, l))

pub caller_beyond : (cs : List (Option SeatView)) (place : ℕ) → length cs ≤ place → caller_in cs place ≡ None
caller_beyond [] place l = refl
caller_beyond (c ∷ cs) zero l = absurd (omega (arith, l))
caller_beyond (c ∷ cs) (suc place) l = caller_beyond cs place (omega (arith, l))

pub caller_is : (cs : List (Option SeatView)) (place : ℕ) (c : Option SeatView) → slice_get cs place ≡ Some c → caller_in cs place ≡ c
caller_is [] place c e = cc
caller_is (d ∷ cs) zero c e = same_some d c e
caller_is (d ∷ cs) (suc place) c e = caller_is cs place c e

pub caller_found : (cs : List (Option SeatView)) (place : ℕ) (c : SeatView) → place < length cs → caller_in cs place ≡ Some c → slice_get cs place ≡ Some (Some c)
caller_found cs place c below e = caller_at cs place below ∙ ap (λ (d : Option SeatView). Some d) e

pub caller_set : (cs : List (Option SeatView)) (place : ℕ) (c d : Option SeatView) → slice_get cs place ≡ Some c → caller_in (slice_set cs place d) place ≡ d
caller_set cs place c d e = caller_is (slice_set cs place d) place d (get_set_same cs place c d e)

pub caller_other : (cs : List (Option SeatView)) (table place : ℕ) (d : Option SeatView) → (table ≡ place → ⊥) → caller_in (slice_set cs table d) place ≡ caller_in cs place
caller_other [] table place d apart = refl
caller_other (c ∷ cs) zero zero d apart = absurd (apart refl)
caller_other (c ∷ cs) zero (suc place) d apart = refl
caller_other (c ∷ cs) (suc table) zero d apart = refl
caller_other (c ∷ cs) (suc table) (suc place) d apart = caller_other cs table place d (λ e. apart (ap suc e))

-- ---- a meeting, place by place

-- the seats at one place before and behind it
pub record MetAt (leaf : Leaf) (callers : List (Option SeatView)) (leaf' : Leaf) (callers' : List (Option SeatView)) (place : ℕ) : Type 0 where
  pub steward : SeatView
  pub steward_then : SeatView
  pub at : slice_get (seated_of leaf).seats place ≡ Some steward
  pub at_then : slice_get (seated_of leaf').seats place ≡ Some steward_then
  pub meets : MeetsIf steward (caller_in callers place) steward_then (caller_in callers' place)

module _ (leaf : Leaf) (callers : List (Option SeatView)) (leaf' : Leaf) (callers' : List (Option SeatView)) (m : Meaning) (met : MeetAll leaf callers leaf' callers' m)
    (count : length (seated_of leaf).seats ≡ length callers) where
  pub seats_then : (seated_of leaf').seats ≡ met.seats
  seats_then = ap (λ (l : Leaf). (seated_of l).seats) met.leaf_is ∙ ap (λ s. s.seats) (seats_become leaf met.seats)

  pub met_at : (place : ℕ) → place < length callers → MetAt leaf callers leaf' callers' place
  met_at place below =
      let v = element_at (seated_of leaf).seats place (omega (arith, below, count)) in
      let w = element_at met.seats place (omega (arith, below, count, met.count.0)) in
      record {
        steward = v.0;
        steward_then = w.0;
        at = v.1;
        at_then = ap (λ (vs : List SeatView). slice_get vs place) seats_then ∙ w.1;
        meets = met.each place v.0 w.0 (caller_in callers place) (caller_in callers' place) v.1 (caller_at callers place below) w.1 (caller_at callers' place (omega (arith, below, met.count.1)));
      }

  -- what each steward's seat learns
  pub leaf_met : (known : Option Known)
      → ((place : ℕ) (t : Shared) (v w : SeatView) → slice_get (seated_of leaf).tables place ≡ Some t → slice_get (seated_of leaf).seats place ≡ Some v → slice_get (seated_of leaf').seats place ≡ Some w
      → MeetsIf v (caller_in callers place) w (caller_in callers' place) → HasLearned (base_state_of known (name_of t)) v w)
      → LeafMeets known leaf leaf' m
  leaf_met known each = record {
    seats = met.seats;
    leaf_is = met.leaf_is;
    count = met.count.0;
    each = λ place t v w at sat sat'.
        let below : place < length callers = subst (λ (k : ℕ). place < k) count (within (seated_of leaf).seats place v sat) in
        each place t v w at sat (ap (λ (vs : List SeatView). slice_get vs place) seats_then ∙ sat')
        (met.each place v w (caller_in callers place) (caller_in callers' place) sat (caller_at callers place below) sat' (caller_at callers' place (omega (arith, below, met.count.1))));
    stands = met.stands;
  }
