-- Where a leaf may begin over each berth, a base of each can be kept.
use Rattle.std.proofs.Common.{◌≡◌, ◌<◌, ◌≤◌, ◌∙◌, inl, ℕ, Bool, true, false, List, [], length, Option, Some, None, refl, sym, lit<, lit≤}
use Rattle.std.specs.Prelude.{IfSome, nat_lt, slice_get}
use Rattle.std.proofs.lemmas.Bool.{false≢true, lt-ltb, ltb-true}
use Rattle.berth_face.specs.Berth.{Meaning, OpenedOn, Pair}
use Rattle.region_layout.specs.Region.{reads}
use Rattle.leaf_history.specs.History.{base_of}
use Rattle.disk_backup.specs.Logs.{is_short}
use Rattle.disk_backup.proofs.SoundLogs.{none_short}
use Rattle.crash_moments.specs.Left.{Left, NamedStates, closed}
use Rattle.crash_states.proofs.Opened.{begins_on}
use Rattle.play.specs.Empty.{nothing_kept}
use Rattle.play.specs.Played.{IsBase}
use Rattle.play.proofs.Lists.{choose_each}
use Rattle.play_again.specs.Keeping.{KeptName, base_kept}
use Rattle.play_again.specs.Over.{BelongsToTables, HasBase, HasBaseSince, HaveBases, IsBaseKept, KeepsBases}
use Rattle.play_again.proofs.KeepsBase.{base_there}
use Rattle.play_again.proofs.Listing.{front_same, list_kept}

-- over a berth that was opened on a pair which belongs to some tables
pub base_opened : (tables : NamedStates) (p : Pair) (m : Meaning) → Left reads tables p → OpenedOn p.region p.disk m → m.leaves m.clock m.held → HasBase m
base_opened tables p m left opened there =
    let begins = begins_on tables p m left opened there in
    (λ name. base_of (begins.logged name) (length (begins.logged name)) (begins.spare name), record { begins = begins.begins; is = λ name. refl; least = begins.least })

-- over one that was opened on what a crash of another berth left
pub base_crashed : (from t : ℕ) (p : Pair) (crashed m : Meaning) → HasBaseSince from crashed → from ≤ t → t ≤ crashed.clock → crashed.leaves t p → OpenedOn p.region p.disk m → m.leaves m.clock m.held → HasBase m
base_crashed from t p crashed m since after before left opened there =
    let belongs : BelongsToTables p = since.crashed t p after before left in
    base_opened belongs.0 p m belongs.1 opened there

-- ---- no bytes

abbrev empty : Pair
empty = record { region = []; disk = [] }

-- an empty region and an empty disk belong to tables that have no writes
empty_left : Left reads nothing_kept empty
empty_left = record {
  sound = ([], 0, is_short (lit≤ tt) refl refl, λ name. none_short);
  front = λ name. (0, lit≤ tt, lit≤ tt, refl);
  region = closed (inl (lit< tt));
  serving = λ name serves. inl (lit< tt);
}

pub base_empty : (m : Meaning) → OpenedOn [] [] m → m.leaves m.clock m.held → HasBase m
base_empty m opened there = base_opened nothing_kept empty m empty_left opened there

-- ---- a base of each

module _ {B : Type 0} (leaves : ℕ) (meaning : B → Meaning) (berths : List B) (have : HaveBases leaves meaning berths) where
  -- what is kept of a berth: a base, where a leaf uses it
  abbrev IsKeptAt : ℕ → B → Option (List KeptName) → Type 0
  IsKeptAt leaf b k = IfSome (base_kept k) (λ states. IsBase states (meaning b)) × (leaf < leaves → IsBaseKept (meaning b) k)

  kept_at : (leaf : ℕ) (b : B) → slice_get berths leaf ≡ Some b → (is_used : Bool) → nat_lt leaf leaves ≡ is_used → (k : Option (List KeptName)) × IsKeptAt leaf b k
  kept_at leaf b at true used =
      let own = have leaf b (ltb-true leaf leaves used) at in
      let kept = list_kept own.0 own.0 (meaning b) own.1 (λ name. front_same (own.0 name)) in
      (Some kept.0, (kept.1.is_base, λ _. kept.1.is_base))
  kept_at leaf b at false unused = (None, (tt, λ used. absurd (false≢true (sym unused ∙ lt-ltb leaf leaves used))))

  kept_one : (leaf : ℕ) (b : B) → slice_get berths leaf ≡ Some b → (k : Option (List KeptName)) × IsKeptAt leaf b k
  kept_one leaf b at = kept_at leaf b at (nat_lt leaf leaves) refl

  pub all_kept : (kept : List (Option (List KeptName))) × KeepsBases leaves meaning berths kept
  all_kept =
      let all = choose_each IsKeptAt berths kept_one in (
        all.0,
        record {
          as_many = all.1;
          each = λ leaf b k used at is. (all.2 leaf b k at is).1 used;
          bases = λ leaf b at. base_there meaning b all.0 leaf (λ k is. (all.2 leaf b k at is).0);
        },
      )
