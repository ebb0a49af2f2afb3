-- A pair that fits a state is left by a crash, and fits the state after it.
use Rattle.std.proofs.Common.{◌≡◌, ℕ, ◌+◌, Bool, true, false, List, [], ◌∷◌, refl, sym, inl, None}
use Rattle.std.specs.Prelude.{if◌then◌else◌, bytes_eq}
use Rattle.berth_face.specs.Berth.{Pair}
use Rattle.row_records.specs.Records.{LogRecord}
use Rattle.crash_moments.specs.Left.{NamedStates}
use Rattle.crash_events.specs.Machine.{Machine, Tracked, Down, RegionIs, Closed, Whole, Either, Other}
use Rattle.crash_events.specs.Events.{Resettled, AfterCrash, Step, crash}
use Rattle.crash_events.specs.Kept.{AllPlaces}
use Rattle.crash_events.specs.Fits.{FitsPair, RegionFits, shows_closed, shows_whole, shows_either, shows_other, states_by_name, IsElsewhere}
use Rattle.crash_events.proofs.Places.{no}
use Rattle.crash_events.proofs.Fresh.{MayHave}
use Rattle.crash_events.proofs.Ready.{image_of}

-- the tables after a crash that left a log
record After (m : Machine) (records : List LogRecord) (b : ℕ) (xs : List Tracked) : Type 0 where
  tables : List Tracked
  resettled : Resettled m b xs tables
  logs : (n : Machine) → AllPlaces (MayHave n records) b tables
  states : (name : List ℕ) → states_by_name tables name ≡ states_by_name xs name
  far : (name : List ℕ) → IsElsewhere name tables → IsElsewhere name xs

after : (m : Machine) (records : List LogRecord) (b : ℕ) (xs : List Tracked) → AllPlaces (MayHave m records) b xs → After m records b xs
after m records b [] logs = record { tables = []; resettled = tt; logs = λ n. tt; states = λ name. refl; far = λ name f. tt }
after m records b (x ∷ xs) logs =
    let rest : After m records (b + 1) xs = after m records (b + 1) xs logs.1 in
    let y : Tracked = record x { sure = logs.0.0 } in record {
      tables = y ∷ rest.tables;
      resettled = ((logs.0.0, logs.0.1, refl), rest.resettled);
      logs = λ n. ((logs.0.0, inl refl, logs.0.2), rest.logs n);
      states = λ name. by name (bytes_eq name x.name) rest.tables (rest.states name);
      far = λ name f. (f.0, rest.far name f.1);
    }
  where
    by : (name : List ℕ) (c : Bool) (ys : List Tracked) → states_by_name ys name ≡ states_by_name xs name → (if c then x.state else states_by_name ys name) ≡ (if c then x.state else states_by_name xs name)
    by name true ys e = refl
    by name false ys e = e

closes : (r : RegionIs) → AfterCrash r Closed
closes Closed = tt
closes Whole = tt
closes Either = tt
closes Other = tt

region_after : (reads : ℕ → Bool) (base tables : NamedStates) (pair : Pair) (r : RegionIs) → ((name : List ℕ) → tables name ≡ base name) → RegionFits reads base pair r
    → (r' : RegionIs) × AfterCrash r r' × RegionFits reads tables pair r'
region_after reads base tables pair r same (shows_closed shut) = (Closed, closes r, shows_closed shut)
region_after reads base tables pair Whole same (shows_whole v images records end may is of shut) = (Whole, tt, shows_whole v images records end may is (image_of base tables images same of) shut)
region_after reads base tables pair Either same (shows_either (shows_closed shut)) = (Closed, tt, shows_closed shut)
region_after reads base tables pair Either same (shows_either (shows_whole v images records end may is of shut)) = (Whole, tt, shows_whole v images records end may is (image_of base tables images same of) shut)
region_after reads base tables pair Other same (shows_other v head not) = (Other, tt, shows_other v head not)

pub crashes_fit : (reads : ℕ → Bool) (m : Machine) (pair : Pair) → FitsPair reads m pair → (m' : Machine) × (m'.mode ≡ Down) × Step m m' × FitsPair reads m' pair
crashes_fit reads m pair f =
    let a : After m f.sound.0 0 m.tables = after m f.sound.0 0 m.tables f.logs in
    let r = region_after reads (states_by_name m.tables) (states_by_name a.tables) pair m.region a.states f.region in
    let m' : Machine = record { tables = a.tables; hand = None; mode = Down; region = r.0 } in (
      m',
      refl,
      crash r.0 a.tables r.1 a.resettled refl,
      record {
        sound = f.sound;
        logs = a.logs m';
        others = λ name far. f.others name (a.far name far);
        region = r.2;
      },
    )
