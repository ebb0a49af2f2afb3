-- A leaf that goes on while its tables are treated.
use Rattle.std.proofs.Common.{◌≡◌, List, [], ◌++◌, refl, ◌∙◌, le_refl}
use Rattle.std.specs.Prelude.{IsTrue}
use Rattle.berth_face.specs.Berth.{Meaning, Passes}
use Rattle.berth_face.proofs.Moments.{passes_none, passes_on}
use Rattle.crash_moments.proofs.Telling.{told_join}
use Rattle.leaf_words.specs.declared.note.Note.{Note}
use Rattle.leaf_steward.specs.Seated.{AreFounded, watched_by}
use Rattle.leaf_steward.specs.Making.{Makes}
use Rattle.leaf_steward.proofs.Keeping.{makes_join, makes_tables}
use Rattle.leaf_machine.specs.States.{Serving, Shutting, ServingGoesOn, GoesOnServing}
use Rattle.leaf_machine.proofs.PrepCopies.{goes_none}
use Rattle.leaf_moves.specs.Stage.{IsPreparing, Carries}
use Rattle.leaf_moves.specs.Steps.{SameRegion}
use Rattle.leaf_deeds.proofs.Carrying.{founded_on}

-- ---- the leaf goes on

pub goes_join : (s t u : Serving) (a b c : Meaning) → ServingGoesOn s t a b → ServingGoesOn t u b c → ServingGoesOn s u a c
goes_join s t u a b c first second writes runs =
    let one : GoesOnServing s t a b = first writes runs in
    let two : GoesOnServing t u b c = second one.later one.runs in
    record {
      later = two.later;
      runs = two.runs;
      told = λ others. told_join others (watched_by s.seated) (watched_by t.seated) (watched_by u.seated) a b c (one.told others) (two.told others);
    }

-- the steward made entries with these notes, the leaf went on, the region is as it was, and the disk was not read
pub record GoesFar (x y : Shutting) (notes : List Note) (m n : Meaning) : Type 0 where
  pub made : Makes m.clock n.clock x.serving.seated notes y.serving.seated
  pub goes : IsTrue m.tells → AreFounded x.serving.seated → ServingGoesOn x.serving y.serving m n
  pub region : SameRegion m n
  pub reads : n.disk_reads ≡ m.disk_reads
  pub passes : Passes m n

pub far_none : (x : Shutting) (m : Meaning) → GoesFar x x [] m m
far_none x m = record {
  made = Makes.none m.clock m.clock x.serving.seated [] x.serving.seated (le_refl m.clock) refl refl;
  goes = λ tells founded. goes_none x.serving m;
  region = λ tells. refl;
  reads = refl;
  passes = passes_none m;
}

module _ (x y : Shutting) (first : List Note) (a b : Meaning) (far : GoesFar x y first a b) where
  -- its tables are founded still
  pub far_founded : AreFounded x.serving.seated → AreFounded y.serving.seated
  far_founded = founded_on x.serving.seated y.serving.seated (makes_tables a.clock b.clock x.serving.seated first y.serving.seated far.made)

  pub far_tells : IsTrue a.tells → IsTrue b.tells
  far_tells tells = far.passes.tells ∙ tells

  pub far_on : (z : Shutting) (second : List Note) (c : Meaning) → GoesFar y z second b c → GoesFar x z (first ++ second) a c
  far_on z second c later = record {
    made = makes_join a.clock b.clock c.clock x.serving.seated y.serving.seated z.serving.seated first second far.made later.made;
    goes = λ tells founded. goes_join x.serving y.serving z.serving a b c (far.goes tells founded) (later.goes (far_tells tells) (far_founded founded));
    region = λ tells. later.region (far_tells tells) ∙ far.region tells;
    reads = later.reads ∙ far.reads;
    passes = passes_on a b c far.passes later.passes;
  }

  -- so what stood of it stands
  pub far_carries : Carries (IsPreparing x) (IsPreparing y) first a b
  far_carries = record {
    made = far.made;
    stands = λ base tells founded sound stands.
        let on : GoesOnServing x.serving y.serving a b = far.goes tells founded stands.0 stands.1 in
        record { stands = (on.later, on.runs); told = on.told base };
  }
