-- The moments of the entries that a leaf's steward makes do not fall.
use Rattle.std.proofs.Common.{◌≡◌, ℕ, ◌-◌, ◌≤◌, List, [], ◌∷◌, ◌++◌, length, Option, Some, refl, sym, ap, subst, ◌∙◌, arith, append-nil}
use Rattle.std.specs.Prelude.{slice_get, option_map}
use Rattle.std.proofs.lemmas.List.{length-append}
use Rattle.std.proofs.lemmas.Grind.{flat_map-append}
use Rattle.leaf_history.specs.History.{Entry}
use Rattle.leaf_table.specs.declared.base.TableBase.{TableBase}
use Rattle.leaf_table.specs.Calls.{SeatView, base_seen, entry_seen, seen_of}
use Rattle.leaf_words.specs.declared.note.Note.{Note}
use Rattle.leaf_words.specs.declared.note.What.{What}
use Rattle.leaf_words.specs.declared.note.What.TheVariants as what
use Rattle.leaf_steward.specs.Seated.{Seated}
use Rattle.leaf_steward.specs.Making.{MadeAs, Makes, OneEntry}
use Rattle.printed_lines.specs.declared.line.Ending.{Ending}
use Rattle.printed_lines.specs.declared.line.Deed.{Deed}
use Rattle.transcript.specs.Pieces.{Acted, Did, Piece, deeds}
use Rattle.transcript.specs.Histories.{BaseState}
use Rattle.transcript.specs.Moments.{MomentsRise, notes_told}
use Rattle.transcript_leaf.specs.Session.{AreToldOn, HasNoDeed}
use Rattle.transcript_leaf.proofs.Lists.{get_set_same}
use Rattle.transcript_leaf.proofs.Lives.{deeds_act, deeds_between, did, notes_of}
use Rattle.transcript_leaf.proofs.CountingNotes.{AreStewards, entry_stewards}
use Rattle.transcript_leaf.proofs.ToldOn.{told_made}
use Rattle.transcript_leaf.proofs.Wearing.{seen_length}

-- ---- moments one behind another

pub rise_on : (histories : ℕ → List Entry) (from mid to : ℕ) (ns ms : List Note) → MomentsRise histories from ns mid → MomentsRise histories mid ms to → MomentsRise histories from (ns ++ ms) to
rise_on histories from mid to [] ms first next = sooner ms first next
  where
    sooner : (ms : List Note) → from ≤ mid → MomentsRise histories mid ms to → MomentsRise histories from ms to
    sooner [] low high = omega (arith, low, high)
    sooner (n ∷ ms) low rise = (rise.0, rise.1, omega (arith, low, rise.2), rise.3)
rise_on histories from mid to (n ∷ ns) ms first next = (first.0, first.1, first.2, rise_on histories first.0 mid to ns ms first.3 next)

-- ---- one entry

-- an entry behind others, in a list that goes on
stands_at : (front : List Entry) (e : Entry) (more : List Entry) → slice_get ((front ++ e ∷ []) ++ more) (length front) ≡ Some e
stands_at [] e more = refl
stands_at (f ∷ front) e more = stands_at front e more

-- what a note tells of carries the clock
made_last : (base : Option TableBase) (clock : ℕ) (v w : SeatView) (kind : What) → MadeAs base clock v kind w
    → (front : List Entry) × (e : Entry) × (seen_of w ≡ front ++ e ∷ []) × (e.clock ≡ clock)
made_last base clock v w (what.Opened n) m = (seen_of v ++ m.1.between, entry_seen v.id clock _ _, m.1.seen, refl)
made_last base clock v w kind m = (seen_of v ++ m.between, entry_seen v.id clock _ _, m.seen, refl)

module _ (base_states : ℕ → BaseState) (histories : ℕ → List Entry) where
  -- histories that go on from the seat have that entry under its number
  moment_is : (clock : ℕ) (x : Seated) (note : Note) (y : Seated) → OneEntry clock x note y → AreToldOn base_states histories y → option_map (λ (e : Entry). e.clock) (slice_get (histories note.table) (note.number - 1)) ≡ Some clock
  moment_is clock x note y one told =
      let last = made_last (base_seen one.table) clock one.before one.after note.what one.made in
      let seat : slice_get y.seats note.table ≡ Some one.after =
      ap (λ (s : Seated). slice_get s.seats note.table) one.now ∙ get_set_same x.seats note.table one.before one.after one.was in
      let on = told.on note.table one.after seat in
      let count : note.number - 1 ≡ length last.0 =
      omega (arith, one.number, seen_length one.after, ap (λ (es : List Entry). length es) last.2, length-append last.0 (last.1 ∷ [])) in
      let here : slice_get (histories note.table) (note.number - 1) ≡ Some last.1 =
      ap (λ (es : List Entry). slice_get es (note.number - 1)) (on.1 ∙ ap (λ (es : List Entry). es ++ on.0) last.2)
      ∙ (ap (λ n. slice_get ((last.0 ++ last.1 ∷ []) ++ on.0) n) count ∙ stands_at last.0 last.1 on.0) in
      ap (λ (o : Option Entry). option_map (λ (e : Entry). e.clock) o) here ∙ ap (λ n. Some n) last.3

  -- the entries of a deed
  pub makes_rise : (from to : ℕ) (x : Seated) (notes : List Note) (y : Seated) → Makes from to x notes y → AreStewards x → AreToldOn base_states histories y → MomentsRise histories from notes to
  makes_rise from to x notes y (Makes.none f u a ns b le is same) are told = subst (λ (ks : List Note). MomentsRise histories from ks to) (sym is) le
  makes_rise from to x notes y (Makes.more f u a ns b clock first rest between le one makes is) are told =
      let stewards = entry_stewards clock x first between one are in
      let later = told_made base_states histories clock to between rest y makes stewards told in
      subst (λ (ks : List Note). MomentsRise histories from ks to) (sym is)
      (clock, moment_is clock x first between one later, le, makes_rise clock to between rest y makes stewards told)

-- ---- of pieces

pub told_act : (leaf : ℕ) (ps : List Piece) (deed : Deed) (notes : List Note) (ends : Ending) → notes_told leaf (ps ++ Acted leaf deed notes ends ∷ []) ≡ notes_told leaf ps ++ notes
told_act leaf ps deed notes ends =
    ap notes_of (deeds_act leaf ps deed notes ends)
    ∙ (flat_map-append (λ (d : Did). d.notes) (deeds leaf ps) (did deed notes ends ∷ []) ∙ ap (λ (ns : List Note). notes_told leaf ps ++ ns) (append-nil notes))

pub notes_between : (leaf : ℕ) (before none more : List Piece) → HasNoDeed leaf none → notes_told leaf (before ++ (none ++ more)) ≡ notes_told leaf (before ++ more)
notes_between leaf before none more apart = ap notes_of (deeds_between leaf before none more apart)
