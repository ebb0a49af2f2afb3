-- The deeds of one leaf's steward among the pieces of a run, and its life, which goes on by each.
use Rattle.std.proofs.Common.{◌≡◌, ℕ, ◌==◌, Bool, true, false, List, [], ◌∷◌, ◌++◌, refl, sym, ap, subst, ◌∙◌}
use Rattle.std.specs.Prelude.{if◌then◌else◌}
use Rattle.std.proofs.lemmas.Bool.{eq-eqb}
use Rattle.std.specs.List.{flat_map}
use Rattle.std.proofs.lemmas.Grind.{flat_map-append}
use Rattle.std.proofs.lemmas.List.{append-nil, append_assoc}
use Rattle.leaf_words.specs.declared.note.Note.{Note}
use Rattle.printed_lines.specs.declared.line.Ending.{Ending}
use Rattle.printed_lines.specs.declared.line.Deed.{Deed}
use Rattle.transcript.specs.Pieces.{Acted, Did, Piece, deeds, did_in}
use Rattle.transcript.specs.Life.{Columns, Does, Life, Lives}
use Rattle.transcript_leaf.specs.Session.{HasNoDeed}

-- ---- the deeds among pieces

deeds_append : (leaf : ℕ) (ps qs : List Piece) → deeds leaf (ps ++ qs) ≡ deeds leaf ps ++ deeds leaf qs
deeds_append leaf ps qs = flat_map-append (did_in leaf) ps qs

abbrev pub did : Deed → List Note → Ending → Did
did deed notes ending = record { deed = deed; notes = notes; ending = ending }

-- one of its own
pub deeds_act : (leaf : ℕ) (ps : List Piece) (deed : Deed) (notes : List Note) (ending : Ending) → deeds leaf (ps ++ Acted leaf deed notes ending ∷ []) ≡ deeds leaf ps ++ did deed notes ending ∷ []
deeds_act leaf ps deed notes ending = deeds_append leaf ps (Acted leaf deed notes ending ∷ []) ∙ ap (λ (ds : List Did). deeds leaf ps ++ ds) (by (leaf == leaf) (eq-eqb leaf leaf refl))
  where
    by : (b : Bool) → b ≡ true → (if b then did deed notes ending ∷ [] else []) ++ [] ≡ did deed notes ending ∷ []
    by true e = refl
    by false e = absurd cc

-- and none
none_by : (b : Bool) (own rest : List Did) → b ≡ false → (if b then own else []) ++ rest ≡ rest
none_by true own rest e = absurd cc
none_by false own rest e = refl

deeds_none : (leaf : ℕ) (ps : List Piece) → HasNoDeed leaf ps → deeds leaf ps ≡ []
deeds_none leaf [] apart = refl
deeds_none leaf (Acted l d ns e ∷ ps) apart = none_by (l == leaf) (did d ns e ∷ []) (deeds leaf ps) apart.0 ∙ deeds_none leaf ps apart.1
deeds_none leaf (p ∷ ps) apart = deeds_none leaf ps apart.1

pub deeds_between : (leaf : ℕ) (before none more : List Piece) → HasNoDeed leaf none → deeds leaf (before ++ (none ++ more)) ≡ deeds leaf (before ++ more)
deeds_between leaf before none more apart =
    deeds_append leaf before (none ++ more)
    ∙ (ap (λ (ds : List Did). deeds leaf before ++ ds) (deeds_append leaf none more ∙ ap (λ (ds : List Did). ds ++ deeds leaf more) (deeds_none leaf none apart))
    ∙ sym (deeds_append leaf before more))

-- ---- the life

-- the entries of these deeds
abbrev pub notes_of : List Did → List Note
notes_of ds = flat_map (λ (d : Did). d.notes) ds

-- behind entries that were there, and those of the deeds so far
pub lives_act : (told : Bool) (tables : ℕ) (columns : List Note → Columns) (before : List Note) (first life next : Life) (ds : List Did) (d : Did)
    → Lives told tables columns before first ds life → Does told tables (columns ((before ++ notes_of ds) ++ d.notes)) d.deed life d.notes d.ending next
    → Lives told tables columns before first (ds ++ d ∷ []) next
lives_act told tables columns before first life next [] d so_far does = (
  next,
  subst (λ (l : Life). Does told tables (columns (before ++ d.notes)) d.deed l d.notes d.ending next) so_far
      (subst (λ (ns : List Note). Does told tables (columns (ns ++ d.notes)) d.deed life d.notes d.ending next) (append-nil before) does),
  refl,
)
lives_act told tables columns before first life next (e ∷ es) d so_far does = (
  so_far.0,
  so_far.1,
  lives_act told tables columns (before ++ e.notes) so_far.0 life next es d so_far.2
      (subst (λ (ns : List Note). Does told tables (columns (ns ++ d.notes)) d.deed life d.notes d.ending next) (sym (append_assoc before e.notes (notes_of es))) does),
)
