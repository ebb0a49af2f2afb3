-- After a run a leaf may begin again over each berth whose base was named, and over what a crash left of it.
use Rattle.std.proofs.Common.{◌≡◌, inl, inr, ◌∙◌, ℕ, zero, suc, ◌<◌, ◌≤◌, List, [], ◌∷◌, length, Option, Some, None, refl, sym, ap, subst, arith}
use Rattle.std.specs.Prelude.{IfSome, drop, map, slice_get}
use Rattle.std.proofs.lemmas.Bool.{cases_lt}
use Rattle.berth_face.specs.Berth.{Meaning}
use Rattle.leaf_history.specs.History.{Entry}
use Rattle.crash_moments.specs.Left.{NamedStates}
use Rattle.crash_moments.specs.Watched.{tables_then}
use Rattle.rollover_watch.specs.Watches.{Held}
use Rattle.script_text.specs.declared.fleet.FleetShape.{FleetShape}
use Rattle.script_text.specs.declared.item.Item.{Item}
use Rattle.script_text.specs.Commands.{leaf_count}
use Rattle.printed_lines.specs.declared.line.Line.{Line}
use Rattle.transcript.specs.Base.{watched_from}
use Rattle.transcript.specs.Leaving.{AreKnown, IsKnown, IsToldRun, LeavesBerth}
use Rattle.transcript.specs.Life.{Life}
use Rattle.transcript.specs.Pieces.{all_lines, item_of, script_fleet}
use Rattle.transcript.specs.Transcript.{Known}
use Rattle.transcript_leaf.proofs.Lists.{same_some, within}
use Rattle.run_ends.specs.declared.status.Status.{Status}
use Rattle.run_words.specs.declared.words.Request.{Request}
use Rattle.run_words.specs.declared.words.Request.TheVariants.{Count, Inspect, Play, Soak}
use Rattle.run_words.specs.Words.{IfCount}
use Rattle.soak.specs.Soak.{soak_script}
use Rattle.play.specs.Inspected.{InspectEndsShort, IsLookedAt}
use Rattle.play.specs.Outcome.{IsDone, IsShort, UnlessPlayed}
use Rattle.play.specs.Played.{AreBases, IsBase, leaves_asked}
use Rattle.play.specs.Ran.{HasRun, Outside, Sight}
use Rattle.play_again.specs.Keeping.{KeptName, bases_of}
use Rattle.play_again.specs.Over.{HasBaseSince, HaveBasesAgain, IsBaseKept, KeepsBases, NamedHaveBases}
use Rattle.play_again.proofs.BaseStays.{looked_have, same_stays}
use Rattle.play.proofs.Lists.{same_dropped}
use Rattle.play_again.proofs.KeepsBase.{all_known, base_known}

-- ---- all berths of a run that is told

-- of a leaf that told its run
base_left : (names : List (List ℕ)) (base : NamedStates) (life : Life) (histories : ℕ → List Entry) (old new : Meaning) → LeavesBerth names base life histories old new → HasBaseSince old.clock new
base_left names base life histories old new leaves = record {
  base = (leaves.begins.base, record { begins = leaves.begins.begins; is = leaves.begins.is; least = leaves.begins.least });
  crashed = λ t p from to left. (tables_then base t (watched_from 0 names base histories), leaves.crash.left t p from to left);
}

module _ {B : Type 0} (base : ℕ → Option NamedStates) (meaning : B → Meaning) (olds news : List B) (items : List Item) (known : ℕ → Option Known) (lines : List Line) (watching watched : List Held)
    (are : AreBases base meaning olds) (are_known : AreKnown meaning olds news base known) (told : IsToldRun meaning olds news items known lines watching watched) where
  abbrev fleet : FleetShape
  fleet = script_fleet items

  -- a berth that no leaf uses
  unused_has : (leaf : ℕ) (old new : B) (k : Known) → slice_get olds leaf ≡ Some old → slice_get news leaf ≡ Some new → known leaf ≡ Some k → leaf_count fleet ≤ leaf → HasBaseSince (meaning old).clock (meaning new)
  unused_has leaf old new k at now is past =
      let was : IsBase k.base (meaning old) = base_known (base leaf) (meaning old) (known leaf) k is (are_known leaf old at) (are leaf old at) in
      same_stays meaning old new (same_dropped (leaf_count fleet) olds news leaf old new past told.others at now) (k.base, was)

  known_has : (leaf : ℕ) (old new : B) (k : Known) → slice_get olds leaf ≡ Some old → slice_get news leaf ≡ Some new → known leaf ≡ Some k → HasBaseSince (meaning old).clock (meaning new)
  known_has leaf old new k at now is = elim (cases_lt leaf (leaf_count fleet)) [
    | inl below ↦ base_left fleet.names k.base (told.transcript.lives leaf) (told.transcript.histories leaf) (meaning old) (meaning new) (told.leaves leaf k below is old new at now)
    | inr past ↦ unused_has leaf old new k at now is past
  ]

  -- where a base is named, something is known
  base_has : (leaf : ℕ) (old new : B) (o : Option NamedStates) (k : Option Known) → slice_get olds leaf ≡ Some old → slice_get news leaf ≡ Some new → known leaf ≡ k → IsKnown o (meaning old) k
      → IfSome o (λ states. HasBaseSince (meaning old).clock (meaning new))
  base_has leaf old new None k at now e is = tt
  base_has leaf old new (Some states) None at now e is = absurd is
  base_has leaf old new (Some states) (Some k) at now e is = known_has leaf old new k at now e

  pub told_have : NamedHaveBases base meaning olds news
  told_have leaf old new at now = base_has leaf old new (base leaf) (known leaf) at now refl (are_known leaf old at)

-- ---- however a run ended

module _ {B : Type 0} (base : ℕ → Option NamedStates) (meaning : B → Meaning) (olds news : List B) (are : AreBases base meaning olds) where
  all_have : (items : List Item) (lines : List Line) (watching watched : List Held) → ((known : ℕ → Option Known) → AreKnown meaning olds news base known → IsToldRun meaning olds news items known lines watching watched)
      → NamedHaveBases base meaning olds news
  all_have items lines watching watched told =
      let known = all_known base meaning olds news are in
      told_have base meaning olds news items known.0 lines watching watched are known.1 (told known.0 known.1)

  same_has : (o : Option NamedStates) (old new : B) → old ≡ new → IfSome o (λ states. IsBase states (meaning old)) → IfSome o (λ states. HasBaseSince (meaning old).clock (meaning new))
  same_has None old new same is = tt
  same_has (Some states) old new same is = same_stays meaning old new same (states, is)

  -- where nothing was played
  same_have : news ≡ olds → NamedHaveBases base meaning olds news
  same_have same leaf old new at there = same_has (base leaf) old new (same_some old new (sym at ∙ (ap (λ bs. slice_get bs leaf) (sym same) ∙ there))) (are leaf old at)

module _ {S K B W : Type 0} (base : ℕ → Option NamedStates) (meaning : B → Meaning) (of : Sight S K) (old new : Outside S K B W) (are : AreBases base meaning old.berths.items) where
  abbrev HaveSince : Type 0
  HaveSince = NamedHaveBases base meaning old.berths.items new.berths.items

  untouched_have : new.berths ≡ old.berths → HaveSince
  untouched_have same = same_have base meaning old.berths.items new.berths.items are (ap (λ v. v.items) same)

  played_have : (items : List Item) (lines : List Line) → ((known : ℕ → Option Known) → AreKnown meaning old.berths.items new.berths.items base known → IsToldRun meaning old.berths.items new.berths.items items known lines old.held new.held) → HaveSince
  played_have items lines told = all_have base meaning old.berths.items new.berths.items are items lines old.held new.held told

  looked_again : {leaf : ℕ} → IsLookedAt meaning leaf old.berths.items new.berths.items → HaveSince
  looked_again {leaf} looked = looked_have base meaning leaf old.berths.items new.berths.items are looked

  -- of a request, where what it asks for was done, or some of it; a count plays nothing
  done_have : (request : Request) → IfCount (Some request) (λ range. new.berths ≡ old.berths)
      → IsDone base meaning (of.left old.source) (of.left new.source) (of.written old.sink) (of.written new.sink) old.berths.items new.berths.items old.held new.held (Some request) → HaveSince
  done_have (Count range) counted done = untouched_have counted
  done_have Play counted (text, script, read, is_script, enough, written) = played_have script.items written.lines written.told
  done_have (Soak seed rows) counted (enough, written) = played_have (soak_script seed rows).items written.lines written.told
  done_have (Inspect leaf) counted done = looked_again done.is.looked

  some_have : (request : Request) → IfCount (Some request) (λ range. new.berths ≡ old.berths)
      → IsShort base meaning (of.left old.source) (of.left new.source) (of.written old.sink) (of.written new.sink) old.berths.items new.berths.items old.held new.held (Some request) → HaveSince
  some_have (Count range) counted ends = untouched_have counted
  some_have Play counted (inl (unwritten, unplayed, unwatched)) = same_have base meaning old.berths.items new.berths.items are unplayed
  some_have Play counted (inr (text, script, read, is_script, enough, shortened)) = played_have (map item_of shortened.played) (all_lines shortened.played) shortened.told
  some_have (Soak seed rows) counted (inl (unwritten, unplayed, unwatched)) = same_have base meaning old.berths.items new.berths.items are unplayed
  some_have (Soak seed rows) counted (inr (enough, shortened)) = played_have (map item_of shortened.played) (all_lines shortened.played) shortened.told
  some_have (Inspect leaf) counted (InspectEndsShort.nothing unwritten looked) = looked_again looked
  some_have (Inspect leaf) counted (InspectEndsShort.some seen is front) = looked_again is.looked

  ended_have : (request : Request) (status : Status) → HasRun base meaning of (Some request) status old new → HaveSince
  ended_have request Status.Done ran = done_have request ran.count_unplayed (ran.done refl)
  ended_have request Status.Words ran = untouched_have ran.unplayed
  ended_have request (Status.Script line why) ran = untouched_have ran.unplayed
  ended_have request Status.ReadFault ran = untouched_have ran.unplayed
  ended_have request Status.WriteFault ran = some_have request ran.count_unplayed ran.short
  ended_have request Status.NoMemory ran = some_have request ran.count_unplayed ran.short

-- of what every run ensures
pub named_bases : {S K B W : Type 0} {base : ℕ → Option NamedStates} {meaning : B → Meaning} {of : Sight S K} {request : Option Request} {status : Status} {old new : Outside S K B W}
    → HasRun base meaning of request status old new → AreBases base meaning old.berths.items → NamedHaveBases base meaning old.berths.items new.berths.items
named_bases {base = base} {meaning = meaning} {of = of} {request = None} {old = old} {new = new} ran are =
    untouched_have base meaning of old new are (subst (λ (s : Status). UnlessPlayed s (new.berths ≡ old.berths)) (ran.words.1 refl) ran.unplayed)
named_bases {base = base} {meaning = meaning} {of = of} {request = Some request} {status = status} {old = old} {new = new} ran are = ended_have base meaning of old new are request status ran

-- ---- over bases that were kept

-- a base that is kept is named
is_named : (P : Type 0) (m : Meaning) (kept : List (Option (List KeptName))) (leaf : ℕ) → ((k : Option (List KeptName)) → slice_get kept leaf ≡ Some k → IsBaseKept m k) → leaf < length kept → IfSome (bases_of kept leaf) (λ states. P) → P
is_named P m [] leaf each below named = absurd (omega (arith, below))
is_named P m (None ∷ more) zero each below named = absurd (each None refl)
is_named P m (Some kept ∷ more) zero each below named = named
is_named P m (k ∷ more) (suc leaf) each below named = is_named P m more leaf each (omega (arith, below)) named

module _ {B : Type 0} (leaves : ℕ) (meaning : B → Meaning) (olds news : List B) (kept : List (Option (List KeptName))) (keeps : KeepsBases leaves meaning olds kept) (others : drop leaves news ≡ drop leaves olds)
    (named : NamedHaveBases (bases_of kept) meaning olds news) where
  have_again : HaveBasesAgain meaning olds news
  have_again leaf old new at now has = elim (cases_lt leaf leaves) [
    | inl below ↦ is_named (HasBaseSince (meaning old).clock (meaning new)) (meaning old) kept leaf (λ k is. keeps.each leaf old k below at is) (omega (arith, within olds leaf old at, keeps.as_many)) (named leaf old new at now)
    | inr past ↦ same_stays meaning old new (same_dropped leaves olds news leaf old new past others at now) has
  ]

pub bases_again : {S K B W : Type 0} {meaning : B → Meaning} {kept : List (Option (List KeptName))} {of : Sight S K} {request : Option Request} {status : Status} {old new : Outside S K B W}
    → HasRun (bases_of kept) meaning of request status old new → KeepsBases (leaves_asked request (of.left old.source)) meaning old.berths.items kept → HaveBasesAgain meaning old.berths.items new.berths.items
bases_again {S} {K} {B} {W} {meaning} {kept} {of} {request} {status} {old} {new} ran keeps =
    have_again (leaves_asked request (of.left old.source)) meaning old.berths.items new.berths.items kept keeps ran.left.others (named_bases ran keeps.bases)
