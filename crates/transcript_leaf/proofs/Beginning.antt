-- A leaf begins: at rest, over any berth, and with what is known of that berth's base; the run holds all of it.
use Rattle.std.proofs.Common.{◌≡◌, inl, ℕ, false, List, [], map, Option, Some, None, refl, sym, ap, subst, ◌∙◌, arith}
use Rattle.std.specs.Prelude.{IfSome, slice_get}
use Rattle.std.proofs.lemmas.List.Sorted.{IsPermutation-refl}
use Rattle.berth_face.specs.Berth.{Meaning}
use Rattle.turnstile.specs.Seats.{unused_seat}
use Rattle.crash_moments.specs.Left.{NamedStates}
use Rattle.leaf_table.specs.Turns.{Shared}
use Rattle.leaf_table.specs.Calls.{SeatView, OwnsTheRest, name_of}
use Rattle.leaf_steward.specs.Seated.{Seated, AtEach}
use Rattle.transcript.specs.Histories.{BaseState, Shown}
use Rattle.transcript.specs.Transcript.{Known, first_life, base_state_of}
use Rattle.transcript.specs.Leaving.{IsKnown}
use Rattle.leaf_moves.specs.Stage.{Leaf, IsDown, seated_of}
use Rattle.leaf_moves.specs.Holds.{Hold, caller_in, steward_in}
use Rattle.transcript.specs.Life.{Down}
use Rattle.transcript_leaf.specs.Session.{HaveKnownBase, AreInPlace, FitsNext, IsNewHold, IsWhole, KnownLeaf, LeafHeld, LeafSession, StandsFirst, TableSession}
use Rattle.transcript_leaf.proofs.Lists.{clash_bool, element_at, same_some}
use Rattle.transcript_leaf.proofs.Places.{caller_is, same_pair}
use Rattle.transcript_leaf.proofs.Durable.{first_durable}
use Rattle.transcript_leaf.proofs.Latest.{noted_unused}
use Rattle.transcript_leaf.proofs.Named.{named_first}
use Rattle.transcript_leaf.proofs.Standing.{told_first}
use Rattle.transcript_leaf.proofs.CountingNotes.{as_many}

abbrev no_lines : List Shown
no_lines = []

first_table : (g : BaseState) (number place : ℕ) (t : Shared) → TableSession g [] number place [] (Some (unused_seat t.site 0 1 1024)) (Some (unused_seat t.site 1 65536 65536))
first_table g number place t = record {
  stewards = record { id = refl; share = refl; taken = refl };
  callers = record { id = omega arith; share = omega arith; apart = tt };
  met = [];
  since = [];
  seen_steward = refl;
  seen_caller = refl;
  alone = (λ x. refl, λ x. refl);
  told = [];
  later = [];
  lines = IsPermutation-refl no_lines;
  tells = refl;
  tells_later = refl;
  order = omega arith;
  legal = tt;
}

first_mode : (known : Option Known) (names : List (List ℕ)) → (first_life known names).mode ≡ Down
first_mode None names = refl
first_mode (Some k) names = refl

first_next : (names : List (List ℕ)) (base : Option NamedStates) (known : Option Known) (x : Seated) (m : Meaning)
    → AreInPlace names x → IsKnown base m known → FitsNext known (first_life known names) (IsDown x) m
first_next names base None x m in_place is = (refl, refl)
first_next names None (Some k) x m in_place is = absurd is
first_next names (Some b) (Some k) x m in_place is = ((is.2, λ begun memory. absurd (clash_bool false begun refl)), first_durable names k m x in_place is.3)

first_known : (number : ℕ) (names : List (List ℕ)) (base : Option NamedStates) (known : Option Known) (x : Seated) (m : Meaning)
    → AreInPlace names x → HaveKnownBase known x → AtEach (λ place t v. v ≡ unused_seat t.site 0 1 1024) x → IfSome base (StandsFirst x m) → IsKnown base m known
    → IfSome known (KnownLeaf number names m (first_life known names) [] (IsDown x) m)
first_known number names base None x m in_place known_base unused first is = tt
first_known number names None (Some k) x m in_place known_base unused first is = absurd is
first_known number names (Some b) (Some k) x m in_place known_base unused first is =
    let stands : StandsFirst x m k.base = subst (λ (n : NamedStates). StandsFirst x m n) (sym is.0) first in
    record {
      now = record { tells = stands.begins.0; sound = stands.begins.1.2.sound; stands = stands.stands };
      told = told_first names k.base x m in_place known_base unused stands.stands;
      named = named_first number names k m is.1;
      own = λ begun. absurd (clash_bool false begun refl);
    }

module _ {B : Type 0} (meaning : B → Meaning) (number : ℕ) (names : List (List ℕ)) (known : Option Known) (base : Option NamedStates) (x : Hold B) (new : IsNewHold meaning names base known x) where
  named_so : map name_of x.tables ≡ names
  named_so = ap (λ (ts : List Shared). map name_of ts) (sym new.tables) ∙ new.in_place.named

  there : (place : ℕ) (t : Shared) → slice_get new.seated.tables place ≡ Some t → slice_get x.tables place ≡ Some t
  there place t at = ap (λ (ts : List Shared). slice_get ts place) (sym new.tables) ∙ at

  here : (place : ℕ) (t : Shared) → slice_get x.tables place ≡ Some t → slice_get new.seated.tables place ≡ Some t
  here place t at = ap (λ (ts : List Shared). slice_get ts place) new.tables ∙ at

  held_first : LeafHeld number names known (meaning new.berth) [] (IsDown new.seated) (meaning new.berth)
  held_first = record {
    life = first_life known names;
    lives = λ base_states histories told. refl;
    moments = λ base_states histories told. omega arith;
    noted = λ place t v at sat. noted_unused place t v (same_some v _ (sym sat ∙ (new.unused place t (there place t at)).0));
    in_place = new.in_place;
    known_base = new.known_base;
    mode = first_mode known names;
    next = first_next names base known new.seated (meaning new.berth) new.in_place new.is_known;
    of_known = first_known number names base known new.seated (meaning new.berth) new.in_place new.known_base
        (λ place t v at sat. same_some v _ (sym sat ∙ (new.unused place t (there place t at)).0)) new.first new.is_known;
  }

  tables_first : (place : ℕ) (t : Shared) → slice_get x.tables place ≡ Some t → TableSession (base_state_of known (name_of t)) [] number place [] (steward_in x.held place) (caller_in x.callers place)
  tables_first place t at =
      let g : BaseState = base_state_of known (name_of t) in
      let unused = new.unused place t at in
      subst (λ (s : Option SeatView). TableSession g [] number place [] s (caller_in x.callers place)) (sym (ap (λ (h : Option (Leaf × B)). steward_in h place) new.down ∙ unused.0))
      (subst (λ (c : Option SeatView). TableSession g [] number place [] (Some (unused_seat t.site 0 1 1024)) c) (sym (caller_is x.callers place (Some (unused_seat t.site 1 65536 65536)) unused.1))
      (first_table g number place t))

  pub begins : LeafSession meaning number names known (meaning new.berth) [] (λ place. []) [] x
  begins = record {
    named = named_so;
    callers_are = new.callers_are;
    tables = tables_first;
    known_base = λ place t at. new.known_base place t (unused_seat t.site 0 1 1024) (here place t at) (new.unused place t at).0;
    held = λ l b e.
        same_pair (λ (h : Leaf × B). (map name_of (seated_of h.0).tables ≡ map name_of x.tables) × LeafHeld number names known (meaning new.berth) [] h.0 (meaning h.1))
        (IsDown new.seated, new.berth) (l, b) (sym new.down ∙ e) (ap (λ (ts : List Shared). map name_of ts) new.tables, held_first);
  }

  all_others : (c : SeatView) → c.id ≡ 1 → c.share ≡ 65536 → OwnsTheRest c
  all_others c id share x0 some few = inl (omega (arith, id, some), omega (arith, id, share, few))

  pub begins_whole : IsWhole x
  begins_whole = record {
    leaf = IsDown new.seated;
    berth = new.berth;
    held = new.down;
    seats = λ place below.
        let t = element_at x.tables place (omega (arith, below, new.callers_are, as_many names x.tables named_so)) in
        (unused_seat t.0.site 1 65536 65536, (new.unused place t.0 t.1).1, all_others (unused_seat t.0.site 1 65536 65536) refl refl);
  }
