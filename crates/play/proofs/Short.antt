-- What a play that stops has played and written, and what it leaves of the berths.
use Rattle.std.proofs.Common.{◌≡◌, ◌≤◌, ◌⊎◌, inl, inr, ⊎_elim, ℕ, length, List, [], ◌∷◌, ◌++◌, refl, sym, ap, subst, ◌∙◌, Option, Some}
use Rattle.std.specs.Prelude.{Ok, map, slice_get}
use Rattle.berth_face.specs.Berth.{Meaning}
use Rattle.berth_face.specs.Streams.{ReadsAll}
use Rattle.crash_moments.specs.Left.{NamedStates}
use Rattle.rollover_watch.specs.Watches.{Held}
use Rattle.script_text.specs.declared.item.Item.{Item}
use Rattle.script_text.specs.declared.item.Item.TheVariants as item
use Rattle.script_text.specs.declared.fleet.FleetShape.{FleetShape}
use Rattle.script_text.specs.declared.script.Script.{Script}
use Rattle.script_text.specs.Script.{script_of}
use Rattle.soak.specs.Soak.{soak_script}
use Rattle.run_ends.specs.declared.status.Status.{Status}
use Rattle.run_words.specs.declared.words.Request.TheVariants.{Play, Soak}
use Rattle.transcript.specs.Pieces.{PlayedItem, all_lines, item_of, plays_in, script_fleet}
use Rattle.transcript.specs.Transcript.{Known}
use Rattle.transcript.specs.Leaving.{IsToldRun, IsWritten}
use Rattle.transcript.specs.Watching.{HearsAll}
use Rattle.leaf_moves.specs.Holds.{HasMet, Hold}
use Rattle.lane_play.specs.Shortened.{BeginsItem}
use Rattle.play.specs.Cut.{IsShortened, PlaysSome}
use Rattle.play.specs.Outcome.{IsDone, IsShort}
use Rattle.play.specs.Played.{leaves_in, soak_leaves}
use Rattle.play.specs.Shortened.{IfShort, RunShort, StopsShort}
use Rattle.play.proofs.Ends.{IsCrewOf, has_told, nothing_told, same_berths}
use Rattle.play.proofs.Holding.{AreHeld}

-- ---- the fleet

head_fleet : (x : Item) (xs ys : List Item) → script_fleet (x ∷ xs) ≡ script_fleet (x ∷ ys)
head_fleet (item.One c) xs ys = refl
head_fleet (item.Burst lanes) xs ys = refl

begun_fleet : (y x : Item) (ys xs : List Item) → BeginsItem y x → script_fleet (y ∷ ys) ≡ script_fleet (x ∷ xs)
begun_fleet (item.One c) (item.One d) ys xs same = ap (λ e. script_fleet (item.One e ∷ [])) same
begun_fleet (item.One c) (item.Burst wholes) ys xs none = absurd none
begun_fleet (item.Burst lanes) (item.One d) ys xs none = absurd none
begun_fleet (item.Burst lanes) (item.Burst wholes) ys xs begun = refl

-- what was played, if anything was, has the fleet of all items
fleet_begins : (items played : List Item) → PlaysSome items played → (played ≡ []) ⊎ (script_fleet played ≡ script_fleet items)
fleet_begins items [] some = inl refl
fleet_begins items (p ∷ ps) (inl (rest, is)) = inr (head_fleet p ps (ps ++ rest) ∙ ap (λ (all : List Item). script_fleet all) (sym is))
fleet_begins items (p ∷ ps) (inr (before, behind, last, of, is, begins, all)) =
    inr (ap (λ (ps : List Item). script_fleet ps) all ∙ (by before ∙ ap (λ (ps : List Item). script_fleet ps) (sym is)))
  where
    by : (front : List Item) → script_fleet (front ++ last ∷ []) ≡ script_fleet (front ++ of ∷ behind)
    by [] = begun_fleet last of [] behind begins
    by (x ∷ xs) = head_fleet x (xs ++ last ∷ []) (xs ++ of ∷ behind)

-- ---- no item

none_played : (ps : List PlayedItem) → map item_of ps ≡ [] → ps ≡ []
none_played [] e = refl
none_played (p ∷ ps) e = absurd cc

-- ---- a run over the first berths

-- once all seats have met, what a play did that stopped is told
pub run_shortened : {B : Type 0} {base : ℕ → Option NamedStates} {meaning : B → Meaning} {given items : List Item} {fleet : FleetShape} {olds rest news : List B} {firsts xs : List (Hold B)} {was now : Option (List ℕ)} {watching watched : List Held}
    → IsCrewOf items fleet olds rest firsts → (own : List B) → AreHeld own xs → news ≡ own ++ rest → given ≡ items
    → RunShort base meaning fleet firsts was now watching watched given xs → ((leaf : ℕ) (x : Hold B) → slice_get xs leaf ≡ Some x → HasMet meaning x)
    → IsShortened meaning olds news base items was now watching watched
run_shortened {B} {base} {meaning} {given} {items} {fleet} {olds} {rest} {news} {firsts} {xs} {was} {now} {watching} {watched} crew own are back all stopped met =
    let run : RunShort base meaning (script_fleet items) firsts was now watching watched items xs =
    subst (λ (f : FleetShape). RunShort base meaning f firsts was now watching watched items xs) crew.is
    (subst (λ (is : List Item). RunShort base meaning fleet firsts was now watching watched is xs) all stopped) in
    record {
      played = run.played;
      some = run.some;
      rest = run.rest;
      written = run.text;
      last = run.last;
      cut = run.cut;
      told = λ known bases. elim (fleet_begins items (map item_of run.played) run.some) [
        | inl none ↦ untouched known run.played (none_played run.played none) run.has.heard (same_berths crew run.has.time own are back (run.untouched (none_played run.played none)))
        | inr same ↦ has_told crew run.has.time own are back known bases run.played same run.has met (λ is histories on. run.followed known is histories on)
      ];
    }
  where
    untouched : (known : ℕ → Option Known) (played : List PlayedItem) → played ≡ [] → HearsAll (script_fleet items) (plays_in played) watching watched → news ≡ olds
        → IsToldRun meaning olds news (map item_of played) known (all_lines played) watching watched
    untouched known [] none heard still = rw (still, heard) (nothing_told meaning olds known watching)
    untouched known (p ∷ played) none heard still = absurd cc

-- what follows at a status that is short
pub if_short : (status : Status) {P Q : Type 0} → IfShort status P → (P → Q) → IfShort status Q
if_short Status.WriteFault p f = f p
if_short Status.NoMemory p f = f p
if_short Status.Done p f = tt
if_short Status.Words p f = tt
if_short (Status.Script line why) p f = tt
if_short Status.ReadFault p f = tt

-- ---- what the request for a play is told

module _ {B : Type 0} (base : ℕ → Option NamedStates) (meaning : B → Meaning) (before after was now : Option (List ℕ)) (olds news : List B) (watching watched : List Held) (script : Script) where
  -- a source that was read whole
  pub source_short : (text : List ℕ) → ReadsAll before after text → script_of text ≡ Ok script → leaves_in script.items ≤ length olds → (status : Status)
      → IfShort status (StopsShort meaning olds news base script.items was now watching watched) → IfShort status (IsShort base meaning before after was now olds news watching watched (Some Play))
  source_short text read is enough status short = if_short status short (⊎_elim inl (λ some. inr (text, script, read, is, enough, some)))

  -- a soak
  module _ (seed rows : ℕ) (is : script ≡ soak_script seed rows) (enough : soak_leaves ≤ length olds) where
    pub soak_done : IsWritten meaning olds news base script.items was now watching watched → IsDone base meaning before after was now olds news watching watched (Some (Soak seed rows))
    soak_done all = (enough, subst (λ (s : Script). IsWritten meaning olds news base s.items was now watching watched) is all)

    pub soak_short : (status : Status) → IfShort status (StopsShort meaning olds news base script.items was now watching watched) → IfShort status (IsShort base meaning before after was now olds news watching watched (Some (Soak seed rows)))
    soak_short status short = if_short status short (⊎_elim inl (λ some. inr (enough, subst (λ (s : Script). IsShortened meaning olds news base s.items was now watching watched) is some)))
