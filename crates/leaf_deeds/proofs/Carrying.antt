-- Carrying on: what the steward's entries leave standing, one after another.
use Rattle.std.proofs.Common.{◌≡◌, ℕ, List, [], ◌++◌, length, refl, sym, ap, subst, ◌∙◌, le_refl, length-set}
use Rattle.std.specs.Prelude.{IsTrue}
use Rattle.berth_face.specs.Berth.{Meaning}
use Rattle.crash_moments.specs.Left.{NamedStates}
use Rattle.crash_moments.specs.Told as moments
use Rattle.crash_moments.proofs.Telling.{none_more, told_join}
use Rattle.crash_states.proofs.Lefts.{runs_told, rests_told}
use Rattle.leaf_words.specs.declared.note.Note.{Note}
use Rattle.leaf_steward.specs.Seated.{Seated, AreFounded, watched_by}
use Rattle.leaf_steward.specs.Making.{Makes, OneEntry}
use Rattle.leaf_steward.proofs.Keeping.{founded_as, makes_join, makes_tables}
use Rattle.leaf_moves.specs.Stage.{Leaf, IsDown, IsUp, IsPreparing, LeafStands, StandsOn, Carries, seated_of}
use Rattle.leaf_deeds.specs.Held.{KeepsSeats}

-- at the same tables, founded ones stay founded
pub founded_on : (x y : Seated) → y.tables ≡ x.tables → AreFounded x → AreFounded y
founded_on x y same founded = founded_as x y same founded

-- what stands is told of the one moment
pub stands_told : (base : NamedStates) (leaf : Leaf) (m : Meaning) → LeafStands base leaf m → moments.Told base (watched_by (seated_of leaf)) (watched_by (seated_of leaf)) m m
stands_told base (IsDown x) m stands = rests_told (watched_by x) (watched_by x) base stands.0 stands.1 m stands.2 (none_more m.clock m.clock (watched_by x))
stands_told base (IsUp x) m stands =
    runs_told (watched_by x.seated) (watched_by x.seated) base x.owing.owner x.owing.log stands.0 m stands.1 (none_more m.clock m.clock (watched_by x.seated))
stands_told base (IsPreparing x) m stands =
    runs_told (watched_by x.serving.seated) (watched_by x.serving.seated) base x.serving.owing.owner x.serving.owing.log stands.0 m stands.1
    (none_more m.clock m.clock (watched_by x.serving.seated))

-- no entry is made, and the berth is as it was
pub carries_none : (leaf : Leaf) (m : Meaning) → Carries leaf leaf [] m m
carries_none leaf m = record {
  made = Makes.none m.clock m.clock (seated_of leaf) [] (seated_of leaf) (le_refl m.clock) refl refl;
  stands = λ base tells founded sound stands. record { stands = stands; told = stands_told base leaf m stands };
}

-- some entries are made, and then others
pub carries_on : (leaf between leaf' : Leaf) (xs ys : List Note) (a b c : Meaning) → Carries leaf between xs a b → Carries between leaf' ys b c → Carries leaf leaf' (xs ++ ys) a c
carries_on leaf between leaf' xs ys a b c first second = record {
  made = makes_join a.clock b.clock c.clock (seated_of leaf) (seated_of between) (seated_of leaf') xs ys first.made second.made;
  stands = λ base tells founded sound stands.
      let half : StandsOn base leaf between a b = first.stands base tells founded sound stands in
      let tells_then : IsTrue b.tells = half.told.passes.tells ∙ tells in
      let founded_then : AreFounded (seated_of between) =
      founded_on (seated_of leaf) (seated_of between) (makes_tables a.clock b.clock (seated_of leaf) xs (seated_of between) first.made) founded in
      let whole : StandsOn base between leaf' b c = second.stands base tells_then founded_then sound half.stands in
      record {
        stands = whole.stands;
        told = told_join base (watched_by (seated_of leaf)) (watched_by (seated_of between)) (watched_by (seated_of leaf')) a b c half.told whole.told;
      };
}

-- ---- the steward's seats stay at the same tables

pub keeps_none : (x : Seated) → KeepsSeats x x
keeps_none x = record { names = refl; tables = refl; seats = refl }

pub keeps_on : (x y z : Seated) → KeepsSeats x y → KeepsSeats y z → KeepsSeats x z
keeps_on x y z first second = record { names = second.names ∙ first.names; tables = second.tables ∙ first.tables; seats = second.seats ∙ first.seats }

-- other seats, as many, at the same tables
entry_keeps : (clock : ℕ) (x : Seated) (note : Note) (y : Seated) → OneEntry clock x note y → KeepsSeats x y
entry_keeps clock x note y one = record {
  names = ap (λ (s : Seated). s.names) one.now;
  tables = ap (λ (s : Seated). s.tables) one.now;
  seats = ap (λ (s : Seated). length s.seats) one.now ∙ length-set x.seats note.table one.after;
}

-- entries keep them
pub makes_keeps : (from to : ℕ) (x : Seated) (notes : List Note) (y : Seated) → Makes from to x notes y → KeepsSeats x y
makes_keeps from to x notes y (Makes.none f u a ns b on no_note same) = subst (KeepsSeats x) (sym same) (keeps_none x)
makes_keeps from to x notes y (Makes.more f u a ns b clock note rest between on one makes all) = keeps_on x between y (entry_keeps clock x note between one) (makes_keeps clock to between rest y makes)
