-- A leaf behind a meeting of its seats, and past what is no deed of its steward.
use Rattle.std.proofs.Common.{◌≡◌, ℕ, List, [], ◌++◌, length, Option, Some, None, sym, ap, subst, ◌∙◌}
use Rattle.std.specs.Prelude.{IfSome, is_some}
use Rattle.std.proofs.lemmas.List.{append-nil}
use Rattle.leaf_words.specs.declared.note.Note.{Note}
use Rattle.berth_face.specs.Berth.{Meaning}
use Rattle.leaf_steward.specs.Seated.{AtEach, Seated}
use Rattle.transcript.specs.Pieces.{Did, Piece}
use Rattle.transcript.specs.Strangers.{StrangersIn}
use Rattle.transcript.specs.Life.{Life, Lives}
use Rattle.transcript.specs.Answers.{columns_of}
use Rattle.transcript.specs.Transcript.{Known, first_life}
use Rattle.leaf_moves.specs.Stage.{Leaf, seated_of, seated_with}
use Rattle.leaf_moves.specs.Modes.{mode_of}
use Rattle.transcript.specs.Moments.{MomentsRise, notes_told}
use Rattle.transcript_leaf.proofs.Rising.{notes_between}
use Rattle.transcript_leaf.specs.Session.{HaveKnownBase, AreInPlace, FitsNext, HasNoDeed, IsDurable, IsNoted, KnownLeaf, LeafHeld}
use Rattle.transcript_leaf.proofs.Latest.{noted_met}
use Rattle.transcript_leaf.proofs.Lives.{deeds_between}
use Rattle.transcript_leaf.proofs.Modes.{mode_with, some_weaken}
use Rattle.transcript_leaf.proofs.ToldOn.{told_met}
use Rattle.transcript_leaf.proofs.Durable.{durable_met}
use Rattle.transcript_leaf.proofs.Owned.{owned_met}
use Rattle.transcript_leaf.proofs.Standing.{LeafMeets, seats_become, stands_met, told_on}
use Rattle.transcript_leaf.proofs.CountingNotes.{seat_there}

-- ---- what a meeting leaves of a leaf

-- its tables, and the seats that it has then
pub met_seated : (known : Option Known) (leaf leaf' : Leaf) (m : Meaning) → (met : LeafMeets known leaf leaf' m) → seated_of leaf' ≡ seated_with (seated_of leaf) met.seats
met_seated known leaf leaf' m met = ap seated_of met.leaf_is ∙ seats_become leaf met.seats

place_met : (names : List (List ℕ)) (known : Option Known) (leaf leaf' : Leaf) (m : Meaning) → AreInPlace names (seated_of leaf) → LeafMeets known leaf leaf' m → AreInPlace names (seated_of leaf')
place_met names known leaf leaf' m in_place met = subst (λ (x : Seated). AreInPlace names x) (sym (met_seated known leaf leaf' m met)) (record {
  named = in_place.named;
  same_names = in_place.same_names;
  seats = met.count ∙ in_place.seats;
  distinct = in_place.distinct;
})

known_base_met : (names : List (List ℕ)) (known : Option Known) (leaf leaf' : Leaf) (m : Meaning) → AreInPlace names (seated_of leaf) → LeafMeets known leaf leaf' m
    → HaveKnownBase known (seated_of leaf) → HaveKnownBase known (seated_of leaf')
known_base_met names known leaf leaf' m in_place met known_base =
    subst (λ (x : Seated). HaveKnownBase known x) (sym (met_seated known leaf leaf' m met)) (λ place t v at sat.
    let before = seat_there names (seated_of leaf) in_place place t at in
    known_base place t before.0 at before.1)

-- the next start will be as it would have been
next_met : (known : Option Known) (life : Life) (leaf leaf' : Leaf) (m : Meaning) → LeafMeets known leaf leaf' m → FitsNext known life leaf m → FitsNext known life leaf' m
next_met None life leaf leaf' m met next = next
next_met (Some k) life leaf leaf' m met next = (
  next.0,
  some_weaken life.durable (λ counts. IsDurable k.base counts leaf m) (λ counts. IsDurable k.base counts leaf' m) (λ counts durable. durable_met k counts leaf leaf' m met durable) next.1,
)

-- what stands of the berth stands
known_met : (number : ℕ) (names : List (List ℕ)) (known : Option Known) (old : Meaning) (life : Life) (pieces : List Piece) (leaf leaf' : Leaf) (m : Meaning)
    → AreInPlace names (seated_of leaf) → HaveKnownBase known (seated_of leaf) → LeafMeets known leaf leaf' m
    → IfSome known (KnownLeaf number names old life pieces leaf m) → IfSome known (KnownLeaf number names old life pieces leaf' m)
known_met number names None old life pieces leaf leaf' m in_place known_base met s = tt
known_met number names (Some k) old life pieces leaf leaf' m in_place known_base met s =
    let on = stands_met names k.base (Some k) leaf leaf' m s.now.tells in_place known_base s.now.stands met in
    record {
      now = record { tells = s.now.tells; sound = s.now.sound; stands = on.stands };
      told = told_on k.base names leaf leaf' old m m s.told on;
      named = s.named;
      own = λ begun. owned_met names k.base leaf leaf' m on (s.own begun);
    }

-- the leaf
pub held_meets : (number : ℕ) (names : List (List ℕ)) (known : Option Known) (old : Meaning) (pieces : List Piece) (leaf leaf' : Leaf) (m : Meaning)
    → LeafHeld number names known old pieces leaf m → LeafMeets known leaf leaf' m → LeafHeld number names known old pieces leaf' m
held_meets number names known old pieces leaf leaf' m now met = record {
  life = now.life;
  lives = λ base_states histories told. now.lives base_states histories (told_met base_states histories names known leaf leaf' m now.in_place met told);
  moments = λ base_states histories told. now.moments base_states histories (told_met base_states histories names known leaf leaf' m now.in_place met told);
  noted = noted_met (notes_told number pieces) known leaf leaf' m now.known_base met now.noted;
  in_place = place_met names known leaf leaf' m now.in_place met;
  known_base = known_base_met names known leaf leaf' m now.in_place met now.known_base;
  mode = now.mode ∙ sym (ap mode_of met.leaf_is ∙ mode_with leaf met.seats);
  next = next_met known now.life leaf leaf' m met now.next;
  of_known = known_met number names known old now.life pieces leaf leaf' m now.in_place now.known_base met now.of_known;
}

-- ---- past what is no deed of its steward

known_between : (number : ℕ) (names : List (List ℕ)) (known : Option Known) (old : Meaning) (life : Life) (before none more : List Piece) (leaf : Leaf) (m : Meaning) → HasNoDeed number none
    → IfSome known (KnownLeaf number names old life (before ++ more) leaf m) → IfSome known (KnownLeaf number names old life (before ++ (none ++ more)) leaf m)
known_between number names None old life before none more leaf m apart s = tt
known_between number names (Some k) old life before none more leaf m apart s = record {
  now = s.now;
  told = s.told;
  named = record {
    rest = s.named.rest;
    on = λ others all.
        subst (λ (ds : List Did). StrangersIn names k.held.disk k.held.region (ds ++ others)) (sym (deeds_between number before none more apart)) (s.named.on others all);
  };
  own = s.own;
}

-- such pieces may stand between the others
pub held_between : (number : ℕ) (names : List (List ℕ)) (known : Option Known) (old : Meaning) (before none more : List Piece) (leaf : Leaf) (m : Meaning) → HasNoDeed number none
    → LeafHeld number names known old (before ++ more) leaf m → LeafHeld number names known old (before ++ (none ++ more)) leaf m
held_between number names known old before none more leaf m apart s = record {
  life = s.life;
  lives = λ base_states histories told.
      subst (λ (ds : List Did). Lives (is_some known) (length names) (columns_of base_states histories (length names)) [] (first_life known names) ds s.life) (sym (deeds_between number before none more apart))
      (s.lives base_states histories told);
  moments = λ base_states histories told.
      subst (λ (ns : List Note). MomentsRise histories old.clock ns m.clock) (sym (notes_between number before none more apart)) (s.moments base_states histories told);
  noted = subst (λ (ns : List Note). AtEach (IsNoted ns) (seated_of leaf)) (sym (notes_between number before none more apart)) s.noted;
  in_place = s.in_place;
  known_base = s.known_base;
  mode = s.mode;
  next = s.next;
  of_known = known_between number names known old s.life before none more leaf m apart s.of_known;
}

-- or behind them
pub held_past : (number : ℕ) (names : List (List ℕ)) (known : Option Known) (old : Meaning) (pieces none : List Piece) (leaf : Leaf) (m : Meaning) → HasNoDeed number none
    → LeafHeld number names known old pieces leaf m → LeafHeld number names known old (pieces ++ none) leaf m
held_past number names known old pieces none leaf m apart s =
    subst (λ (ps : List Piece). LeafHeld number names known old (pieces ++ ps) leaf m) (append-nil none)
    (held_between number names known old pieces none [] leaf m apart (subst (λ (ps : List Piece). LeafHeld number names known old ps leaf m) (sym (append-nil pieces)) s))
