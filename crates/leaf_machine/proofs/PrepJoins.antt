-- The parts of a step, one after another.
use Rattle.std.proofs.Common.{◌≡◌, ℕ, ◌≤◌, List, [], ◌∷◌, ◌++◌, refl, sym, ap, subst, ◌∙◌, le_refl, append_assoc, append-nil}
use Rattle.std.specs.Prelude.{IsTrue}
use Rattle.leaf_model.specs.declared.writes.Write.{Write}
use Rattle.berth_face.specs.Berth.{Meaning}
use Rattle.berth_face.proofs.Moments.{passes_on}
use Rattle.crash_moments.proofs.Telling.{told_join}
use Rattle.crash_states.specs.Standing.{Runs}
use Rattle.leaf_words.specs.declared.note.Note.{Note}
use Rattle.leaf_steward.specs.Seated.{Seated, AreFounded, watched_by}
use Rattle.leaf_steward.specs.Making.{Makes, NotesOn, OneEntry}
use Rattle.leaf_steward.proofs.Keeping.{founded_as, makes_join, makes_one, makes_tables}
use Rattle.leaf_steward.specs.Owing.{RunsTo}
use Rattle.leaf_machine.specs.States.{Serving, ServingGoesOn, GoesOnServing, UpStands}
use Rattle.leaf_machine.specs.PrepParts.{IsPartOfStep}

-- ---- entries, one after another

notes_join : (a b c : ℕ) (x y z : Seated) (old mid new : List Note) → NotesOn a b x old mid y → NotesOn b c y mid new z → NotesOn a c x old new z
notes_join a b c x y z old mid new first second =
    (first.0 ++ second.0, second.1 ∙ ap (λ (notes : List Note). notes ++ second.0) first.1 ∙ append_assoc old first.0 second.0, makes_join a b c x y z first.0 second.0 first.2 second.2)

-- none is made
pub no_notes : (a b : ℕ) (x y : Seated) (notes after : List Note) → a ≤ b → after ≡ notes → y ≡ x → NotesOn a b x notes after y
no_notes a b x y notes after low none same = ([], none ∙ sym (append-nil notes), Makes.none a b x [] y low refl same)

pub makes_two : (a b : ℕ) (x : Seated) (first : Note) (y : Seated) (second : Note) (z : Seated) → a ≤ b → OneEntry a x first y → OneEntry b y second z → Makes a b x (first ∷ second ∷ []) z
makes_two a b x first y second z later one two = Makes.more a b x (first ∷ second ∷ []) z a first (second ∷ []) y (le_refl a) one (makes_one a b b y second z later (le_refl b) two) refl

-- all notes are of this call
pub notes_are : (a b : ℕ) (x y : Seated) (old new : List Note) → old ≡ [] → NotesOn a b x old new y → Makes a b x new y
notes_are a b x y old new none on = subst (λ (notes : List Note). Makes a b x notes y) (sym (on.1 ∙ ap (λ (notes : List Note). notes ++ on.0) none)) on.2

-- ---- the tables stay

pub tables_on : (a b : ℕ) (x y : Seated) (old new : List Note) → NotesOn a b x old new y → y.tables ≡ x.tables
tables_on a b x y old new on = makes_tables a b x on.0 y on.2

-- ---- what stands

-- a leaf that goes on stands
pub stands_on : (x y : Serving) (m m' : Meaning) → UpStands x m → (IsTrue m.tells → AreFounded x.seated → ServingGoesOn x y m m') → y.seated.tables ≡ x.seated.tables → m'.tells ≡ m.tells → UpStands y m'
stands_on x y m m' stands goes same tells founded =
    let was = stands (founded_as y.seated x.seated (sym same) founded) in
    let on : GoesOnServing x y m m' = goes was.0 (founded_as y.seated x.seated (sym same) founded) was.1.0 was.1.1 in
    (tells ∙ was.0, (on.later, on.runs))

-- as the log's own steps tell it
pub goes_to : (x y : Serving) (m m' : Meaning)
    → ((writes : List ℕ → List Write) → IsTrue m.tells → AreFounded x.seated → Runs (watched_by x.seated) x.owing.owner x.owing.log writes m → RunsTo x.seated y.seated y.owing m m')
    → IsTrue m.tells → AreFounded x.seated → ServingGoesOn x y m m'
goes_to x y m m' runs tells founded writes was =
    let on : RunsTo x.seated y.seated y.owing m m' = runs writes tells founded was in
    record { later = on.later; runs = on.runs; told = on.told }

-- ---- parts

module _ (x y z : Serving) (old mid new : List Note) (m m' m'' : Meaning) (first : IsPartOfStep x y old mid m m') (second : IsPartOfStep y z mid new m' m'') where
  tells_still : IsTrue m.tells → IsTrue m'.tells
  tells_still tells = first.time.tells ∙ tells

  both_go : IsTrue m.tells → AreFounded x.seated → ServingGoesOn x z m m''
  both_go tells founded writes runs =
      let one : GoesOnServing x y m m' = first.crash tells founded writes runs in
      let two : GoesOnServing y z m' m'' = second.crash (tells_still tells) (founded_as x.seated y.seated (tables_on m.clock m'.clock x.seated y.seated old mid first.made) founded) one.later one.runs in
      record {
        later = two.later;
        runs = two.runs;
        told = λ others. told_join others (watched_by x.seated) (watched_by y.seated) (watched_by z.seated) m m' m'' (one.told others) (two.told others);
      }

  pub part_join : IsPartOfStep x z old new m m''
  part_join = record {
    made = notes_join m.clock m'.clock m''.clock x.seated y.seated z.seated old mid new first.made second.made;
    crash = both_go;
    region = λ tells. second.region (tells_still tells) ∙ first.region tells;
    time = passes_on m m' m'' first.time second.time;
    reads = second.reads ∙ first.reads;
  }
