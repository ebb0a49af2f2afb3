-- A leaf that is held goes on by a deed of its steward, behind a meeting of its seats.
use Rattle.std.proofs.Common.{◌≡◌, ◌≤◌, ℕ, true, List, [], ◌∷◌, ◌++◌, length, Option, sym, subst}
use Rattle.std.specs.Prelude.{IfSome, is_some}
use Rattle.berth_face.specs.Berth.{Meaning}
use Rattle.leaf_history.specs.History.{Entry}
use Rattle.leaf_words.specs.declared.note.Note.{Note}
use Rattle.leaf_steward.specs.Seated.{AtEach}
use Rattle.printed_lines.specs.declared.line.Ending.{Ending}
use Rattle.printed_lines.specs.declared.line.Deed.{Deed}
use Rattle.transcript.specs.Pieces.{Acted, Did, Piece, deeds}
use Rattle.transcript.specs.Histories.{BaseState}
use Rattle.transcript.specs.Answers.{columns_of}
use Rattle.transcript.specs.Life.{Lives}
use Rattle.transcript.specs.Transcript.{Known, first_life}
use Rattle.leaf_moves.specs.Stage.{Leaf, Carries, seated_of}
use Rattle.leaf_moves.specs.Steps.{Moves}
use Rattle.transcript_leaf.specs.Session.{HaveKnownBase, AreInPlace, AreToldOn, IsNoted, IsOwn, KnownLeaf, LeafHeld, StandsKnown}
use Rattle.transcript_leaf.specs.Acting.{Lived}
use Rattle.transcript_leaf.proofs.CountingNotes.{AreStewards, as_many}
use Rattle.transcript_leaf.proofs.Deeds.{deed_lives}
use Rattle.transcript_leaf.proofs.Latest.{noted_made}
use Rattle.transcript_leaf.proofs.Lives.{deeds_act, did, lives_act}
use Rattle.transcript.specs.Moments.{MomentsRise, notes_told}
use Rattle.transcript_leaf.proofs.Rising.{makes_rise, rise_on, told_act}
use Rattle.transcript_leaf.proofs.ToldOn.{told_made}
use Rattle.transcript_leaf.proofs.Moved.{known_base_moved, known_moved, next_moved, place_moved}
use Rattle.transcript_leaf.proofs.Modes.{Stood, some_weaken}

module _ (number : ℕ) (names : List (List ℕ)) (known : Option Known) (old : Meaning) (pieces : List Piece) (met moved : Leaf) (m m' : Meaning) (deed : Deed) (notes : List Note) (ends : Ending)
    (s : LeafHeld number names known old pieces met m) (stewards : AreStewards (seated_of met)) (moves : Moves deed m m' met notes ends moved) (carries : Carries met moved notes m m') where
  stands : IfSome known (λ k. StandsKnown k met m)
  stands = some_weaken known (KnownLeaf number names old s.life pieces met m) (λ k. StandsKnown k met m) (λ k h. h.now) s.of_known

  own : IfSome known (λ k. s.life.begun ≡ true → IsOwn names (seated_of met) m)
  own = some_weaken known (KnownLeaf number names old s.life pieces met m) (λ k. s.life.begun ≡ true → IsOwn names (seated_of met) m) (λ k h. h.own) s.of_known

  given : Stood names known s.life met m
  given = record { in_place = s.in_place; known_base = s.known_base; stewards = stewards; stands = stands; own = own; mode = s.mode; next = s.next }

  -- the life of the leaf behind the deed
  lived : Lived known (length names) deed s.life notes ends moved m'
  lived = deed_lives names known s.life m m' met given deed notes ends moved carries moves

  moved_place : AreInPlace names (seated_of moved)
  moved_place = place_moved names met moved notes m m' s.in_place carries

  moved_known_base : HaveKnownBase known (seated_of moved)
  moved_known_base = known_base_moved names met moved notes m m' s.in_place carries known s.known_base

  -- the entries that are told of it by then
  abbrev all_notes : List Note
  all_notes = notes_told number pieces ++ notes

  moved_noted : AtEach (IsNoted all_notes) (seated_of moved)
  moved_noted = noted_made (notes_told number pieces) m.clock m'.clock (seated_of met) notes (seated_of moved) carries.made s.noted

  -- it copied no more columns than its tables add then, and its copy had no room only where that much was
  few_columns : (base_states : ℕ → BaseState) (histories : ℕ → List Entry) → AreToldOn base_states histories (seated_of moved)
      → (lived.hands.most ≤ (columns_of base_states histories (length names) all_notes).most) × (lived.hands.bulk ≤ (columns_of base_states histories (length names) all_notes).bulk)
  few_columns base_states histories told =
      subst (λ (n : ℕ). (lived.hands.most ≤ (columns_of base_states histories n all_notes).most) × (lived.hands.bulk ≤ (columns_of base_states histories n all_notes).bulk)) (as_many names (seated_of moved).tables moved_place.named)
      (lived.hands.few base_states histories all_notes told moved_noted)

  pub held_acts : LeafHeld number names known old (pieces ++ Acted number deed notes ends ∷ []) moved m'
  held_acts = record {
    life = lived.next;
    lives = λ base_states histories told.
        subst (λ (ds : List Did). Lives (is_some known) (length names) (columns_of base_states histories (length names)) [] (first_life known names) ds lived.next) (sym (deeds_act number pieces deed notes ends))
        (lives_act (is_some known) (length names) (columns_of base_states histories (length names)) [] (first_life known names) s.life lived.next (deeds number pieces) (did deed notes ends)
        (s.lives base_states histories (told_made base_states histories m.clock m'.clock (seated_of met) notes (seated_of moved) carries.made stewards told))
        (lived.does (columns_of base_states histories (length names) all_notes) (lived.hands.told base_states histories told) (λ is. few_columns base_states histories told)));
    moments = λ base_states histories told.
        subst (λ (ns : List Note). MomentsRise histories old.clock ns m'.clock) (sym (told_act number pieces deed notes ends))
        (rise_on histories old.clock m.clock m'.clock (notes_told number pieces) notes
        (s.moments base_states histories (told_made base_states histories m.clock m'.clock (seated_of met) notes (seated_of moved) carries.made stewards told))
        (makes_rise base_states histories m.clock m'.clock (seated_of met) notes (seated_of moved) carries.made stewards told));
    noted = subst (λ (ns : List Note). AtEach (IsNoted ns) (seated_of moved)) (sym (told_act number pieces deed notes ends)) moved_noted;
    in_place = moved_place;
    known_base = moved_known_base;
    mode = lived.mode;
    next = next_moved names known deed s.life m m' met notes ends moved given carries moves lived;
    of_known = known_moved number names known old deed s.life pieces m m' met notes ends moved given moves carries lived s.of_known;
  }
