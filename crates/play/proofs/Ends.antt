-- A play from its beginning to its end.
use Rattle.std.proofs.Common.{◌≡◌, inl, inr, ℕ, ◌+◌, ◌-◌, ◌<◌, ◌≤◌, List, [], ◌∷◌, ◌++◌, length, refl, sym, ap, subst, ◌∙◌, arith, Option, Some, None, take-append-drop}
use Rattle.std.specs.Prelude.{Result, Ok, drop, map, slice_get, take}
use Rattle.std.proofs.Math.Seq.{length_front}
use Rattle.std.proofs.lemmas.Bool.{cases_lt}
use Rattle.std.proofs.lemmas.List.{append-nil, length-drop, length-take-le}
use Rattle.std.proofs.lemmas.Slice.{drop-append-drop}
use Rattle.berth_face.specs.Berth.{Meaning}
use Rattle.berth_face.specs.Streams.{ReadsAll}
use Rattle.berth_face.proofs.Streams.{appends_none}
use Rattle.leaf_history.specs.History.{Entry}
use Rattle.region_layout.specs.Names.{AreNames, IsName}
use Rattle.crash_moments.specs.Left.{NamedStates}
use Rattle.rollover_watch.specs.Watches.{Held}
use Rattle.script_text.specs.declared.command.Command.{Command}
use Rattle.script_text.specs.declared.command.Command.TheVariants as command
use Rattle.script_text.specs.declared.item.Item.{Item}
use Rattle.script_text.specs.declared.item.Item.TheVariants as item
use Rattle.script_text.specs.declared.script.Script.{Script}
use Rattle.script_text.specs.Commands.{Fault, leaf_count}
use Rattle.script_text.specs.Script.{script_of}
use Rattle.script_text.specs.Fits.{AreItems, AreTables, IsAlone, IsItem, IsTableName}
use Rattle.printed_lines.specs.Lines.{lines_text}
use Rattle.script_text.specs.declared.fleet.FleetShape.{FleetShape}
use Rattle.transcript.specs.Pieces.{One, Played, PlayedItem, all_lines, all_pieces, deeds, script_fleet, item_of, plays_in}
use Rattle.transcript.specs.Counts.{CountsRose}
use Rattle.transcript.specs.Strangers.{StrangersIn}
use Rattle.transcript.specs.Telling.{AreTold}
use Rattle.transcript.specs.Transcript.{Known, first_life, base_states_of}
use Rattle.leaf_moves.specs.Holds.{GoOn, HasMet, Hold, berth_in}
use Rattle.transcript.specs.Leaving.{AreKnown, IsToldRun, IsWritten}
use Rattle.leaf_moves.specs.Stage.{Leaf}
use Rattle.transcript.specs.Watching.{HearsAll}
use Rattle.transcript.specs.Moments.{MomentsRise, notes_told}
use Rattle.transcript_fleet.specs.Laws.{IsToldFleet}
use Rattle.play.specs.Standing.{MayRun, MayRunAlone}
use Rattle.play.specs.Played.{LeavesBerths, leaves_in, leaves_of, leaves_told}
use Rattle.play.specs.Runs.{HasPlayed, IsFleetOf, RunSoFar, berths_in}
use Rattle.transcript_fleet.proofs.Lists.{All-weaken}
use Rattle.transcript_fleet.proofs.Ending.{ended}
use Rattle.transcript_standing.specs.Followed.{FollowedSome}
use Rattle.transcript_standing.proofs.Following.{follow_to_end}
use Rattle.transcript_standing.proofs.Lists.{get_before}
use Rattle.transcript_standing.proofs.Right.{tell_right}
use Rattle.standing_feed.specs.declared.follower.Follower.{Follower}
use Rattle.player.specs.Crew.{AllPass, CountedIf, PassesIf}
use Rattle.play.proofs.Holding.{AreHeld, held_at, held_berths, held_count, held_there, keeps_passed, keeps_same}
use Rattle.play.proofs.Lists.{drop_later, get_front, get_take, same_dropped}
use Rattle.play.proofs.Plays.{run_as}

-- ---- the fleet of some items

-- a fleet with these numbers of machines and leaves and these names
abbrev pub fleet_named : ℕ → ℕ → List (List ℕ) → FleetShape
fleet_named machines per_machine names = record { machines = machines; per_machine = per_machine; names = names }

tables_are_names : (names : List (List ℕ)) → AreTables names → AreNames names
tables_are_names names t = record {
  some = t.some;
  few = t.few;
  each = All-weaken IsTableName IsName (λ name n. (n.utf8, omega (arith, n.short))) names t.names;
  distinct = t.distinct;
}

-- a command behind the fleet may be played by a run
alone_may : (fleet : FleetShape) (c : Command) → IsAlone (leaf_count fleet) fleet.names c → MayRunAlone fleet c
alone_may fleet (command.Fleet m p ts) h = absurd h
alone_may fleet _ h = h

item_may : (fleet : FleetShape) (x : Item) → IsItem (leaf_count fleet) fleet.names x → MayRun fleet x
item_may fleet (item.One c) h = alone_may fleet c h
item_may fleet (item.Burst lanes) h = h

-- of items that begin with a fleet
fleet_is : (machines per_machine : ℕ) (tables : List (List ℕ)) (more : List Item) → AreItems (item.One (command.Fleet machines per_machine tables) ∷ more)
    → IsFleetOf (item.One (command.Fleet machines per_machine tables) ∷ more) (fleet_named machines per_machine tables)
fleet_is machines per_machine tables more c = record {
  is = refl;
  are_names = tables_are_names tables c.1;
  leaves = c.0;
  may_play = (tt, All-weaken (IsItem (leaf_count (fleet_named machines per_machine tables)) tables) (MayRun (fleet_named machines per_machine tables)) (item_may (fleet_named machines per_machine tables)) more c.2);
}

-- what was read of the first item is that fleet
pub plan_is : (items : List Item) → AreItems items → 0 < length items → (machines per_machine : ℕ) (names : List (List ℕ))
    → machines ≡ (script_fleet items).machines → per_machine ≡ (script_fleet items).per_machine → names ≡ (script_fleet items).names → IsFleetOf items (fleet_named machines per_machine names)
plan_is [] c some machines per_machine names e f h = absurd (omega (arith, some))
plan_is (item.One (command.Fleet m p tables) ∷ more) c some machines per_machine names e f h = rw (e, f, h) (fleet_is m p tables more c)
plan_is (item.One _ ∷ more) c some machines per_machine names e f h = absurd c
plan_is (item.Burst lanes ∷ more) c some machines per_machine names e f h = absurd c

-- ---- no item

none_below : (leaf : ℕ) → leaf < 0 → ⊥
none_below leaf below = omega (arith, below)

-- no item stands among none
none_before : (before : List PlayedItem) (p : Played) (behind : List PlayedItem) → [] ≡ before ++ One p ∷ behind → ⊥
none_before [] p behind is = cc
none_before (y ∷ before) p behind is = cc

-- nothing was done to any berth
pub nothing_told : {B : Type 0} (meaning : B → Meaning) (berths : List B) (known : ℕ → Option Known) (watches : List Held) → IsToldRun meaning berths berths [] known [] watches watches
nothing_told meaning berths known watches = record {
  transcript = record {
    played = [];
    histories = λ leaf table. [];
    lives = λ leaf. first_life None [];
    items_are = refl;
    text = refl;
    prints = tt;
    each_lives = λ leaf below. absurd (none_below leaf below);
    one_history = λ leaf table below t. absurd (none_below leaf below);
    in_order = λ leaf table below t. absurd (none_below leaf below);
    answers = tt;
    worn = tt;
  };
  lines_are = refl;
  standing = λ before behind p is. absurd (none_before before p behind is);
  watched = refl;
  counts = λ leaf below. absurd (none_below leaf below);
  strangers = λ leaf k below is. absurd (none_below leaf below);
  leaves = λ leaf k below is. absurd (none_below leaf below);
  moments = λ leaf below. absurd (none_below leaf below);
  others = refl;
}

pub nothing_written : {B : Type 0} (base : ℕ → Option NamedStates) (meaning : B → Meaning) (items : List Item) (was : Option (List ℕ)) (berths : List B) (watches : List Held) → items ≡ []
    → IsWritten meaning berths berths base items was was watches watches
nothing_written base meaning items was berths watches e = rw e (record {
  lines = [];
  written = appends_none was;
  told = λ known are. nothing_told meaning berths known watches;
})

-- ---- a run over the first berths

-- A crew was made over the first berths, for the fleet of these items. The other berths are left.
pub record IsCrewOf {B : Type 0} (items : List Item) (fleet : FleetShape) (olds rest : List B) (firsts : List (Hold B)) : Type 0 where
  pub is : fleet ≡ script_fleet items
  pub names : AreNames (script_fleet items).names
  pub enough : leaves_in items ≤ length olds
  pub held : AreHeld (take (leaves_in items) olds) firsts
  pub left : rest ≡ drop (leaves_in items) olds

module _ {B : Type 0} {meaning : B → Meaning} {items : List Item} {fleet : FleetShape} {olds rest : List B} {firsts xs : List (Hold B)} (crew : IsCrewOf items fleet olds rest firsts) (time : AllPass meaning firsts xs) where
  crew_count : length xs ≡ leaves_in items
  crew_count = time.count ∙ (sym (held_count (take (leaves_in items) olds) firsts crew.held) ∙ length-take-le (leaves_in items) olds crew.enough)

  -- there is room for the berths that were taken
  pub room_again : (len capacity : ℕ) → len ≡ length rest → length olds ≤ capacity → length xs + len ≤ capacity
  room_again len capacity is room =
      let others : length rest ≡ length olds - leaves_in items = ap (λ (bs : List B). length bs) crew.left ∙ length-drop (leaves_in items) olds in
      omega (arith, crew.enough, crew_count, others, is, room)

-- the berths `own` of its leaves were put back before the others
module _ {B : Type 0} {meaning : B → Meaning} {items : List Item} {fleet : FleetShape} {olds rest news : List B} {firsts xs : List (Hold B)} (crew : IsCrewOf items fleet olds rest firsts) (time : AllPass meaning firsts xs)
    (own : List B) (are : AreHeld own xs) (back : news ≡ own ++ rest) where
  own_count : length own ≡ leaves_in items
  own_count = held_count own xs are ∙ crew_count crew time

  news_are : news ≡ own ++ drop (leaves_in items) olds
  news_are = back ∙ ap (λ (bs : List B). own ++ bs) crew.left

  firsts_are : berths_in firsts ≡ take (leaves_in items) olds
  firsts_are = held_berths (take (leaves_in items) olds) firsts crew.held

  same_behind : drop (leaves_in items) news ≡ drop (leaves_in items) olds
  same_behind = ap (drop (leaves_in items)) news_are ∙ drop-append-drop (leaves_in items) olds own (leaves_in items) (omega arith) own_count

  -- the leaf of a berth, as it was and as it is
  was_at : (leaf : ℕ) (old : B) → leaf < leaves_in items → slice_get olds leaf ≡ Some old → (x : Hold B) × (slice_get firsts leaf ≡ Some x) × (berth_in x ≡ Some old)
  was_at leaf old below at = held_at (take (leaves_in items) olds) firsts crew.held leaf old (get_front (leaves_in items) olds leaf below ∙ at)

  now_at : (leaf : ℕ) (new : B) → leaf < leaves_in items → slice_get news leaf ≡ Some new → (x : Hold B) × (slice_get xs leaf ≡ Some x) × (berth_in x ≡ Some new)
  now_at leaf new below at =
      held_at own xs are leaf new (sym (get_before own rest leaf (omega (arith, below, own_count))) ∙ (ap (λ (bs : List B). slice_get bs leaf) (sym back) ∙ at))

  -- what holds of each leaf, as it was and as it is, holds of its berth
  both_at : (P : Option (Leaf × B) → Option (Leaf × B) → Type 0) (leaf : ℕ) → leaf < leaves_in items
      → ((x y : Hold B) → slice_get firsts leaf ≡ Some x → slice_get xs leaf ≡ Some y → P x.held y.held)
      → (old new : B) → slice_get olds leaf ≡ Some old → slice_get news leaf ≡ Some new → (l : Leaf) × (m : Leaf) × P (Some (l, old)) (Some (m, new))
  both_at P leaf below each old new at now =
      let x = was_at leaf old below at in
      let y = now_at leaf new below now in
      let was = held_there x.0 old x.2 in
      let is = held_there y.0 new y.2 in
      (was.0, is.0, subst (λ (h : Option (Leaf × B)). P h (Some (is.0, new))) was.1 (subst (λ (h : Option (Leaf × B)). P x.0.held h) is.1 (each x.0 y.0 x.1 y.1)))

  pub leaves_berths : LeavesBerths meaning (leaves_in items) olds news
  leaves_berths = record {
    as_many = ap (λ (bs : List B). length bs) news_are ∙ length_front olds own (leaves_in items) (own_count ∙ sym (length-take-le (leaves_in items) olds crew.enough));
    used = λ leaf old new at now. elim (cases_lt leaf (leaves_in items)) [
      | inl below ↦ keeps_passed (meaning old) (meaning new) (both_at (PassesIf meaning) leaf below (time.each leaf) old new at now).2
      | inr past ↦ keeps_same meaning old new (same_dropped (leaves_in items) olds news leaf old new past same_behind at now)
    ];
    others = same_behind;
  }

  -- where nothing was done, all berths are as they were
  pub same_berths : xs ≡ firsts → news ≡ olds
  same_berths same =
      let still : own ≡ take (leaves_in items) olds = sym (held_berths own xs are) ∙ (ap (λ (hs : List (Hold B)). berths_in hs) same ∙ firsts_are) in
      news_are ∙ (ap (λ (bs : List B). bs ++ drop (leaves_in items) olds) still ∙ take-append-drop (leaves_in items) olds)

  -- once all seats have met again, what was played of the items is told
  module _ {base : ℕ → Option NamedStates} {watching watched : List Held} (known : ℕ → Option Known) (bases : AreKnown meaning olds news base known) (played : List PlayedItem) (same : script_fleet (map item_of played) ≡ script_fleet items)
      (given : HasPlayed base meaning (script_fleet items) firsts watching watched played xs) (met : (leaf : ℕ) (x : Hold B) → slice_get xs leaf ≡ Some x → HasMet meaning x)
      (follows : AreKnown meaning (berths_in firsts) (berths_in firsts) base known → (histories : ℕ → ℕ → List Entry) → GoOn xs histories → FollowedSome (script_fleet items) (base_states_of (script_fleet items) known) histories played []) where
    abbrev played_fleet : FleetShape
    played_fleet = script_fleet (map item_of played)

    known_first : AreKnown meaning (berths_in firsts) (berths_in firsts) base known
    known_first leaf old at = bases leaf old (get_take (leaves_in items) olds leaf old (ap (λ (bs : List B). slice_get bs leaf) (sym firsts_are) ∙ at))

    first_at : (leaf : ℕ) (old : B) → leaf < leaves_in items → slice_get olds leaf ≡ Some old → slice_get (berths_in firsts) leaf ≡ Some old
    first_at leaf old below at = ap (λ (bs : List B). slice_get bs leaf) firsts_are ∙ (get_front (leaves_in items) olds leaf below ∙ at)

    inside : (leaf : ℕ) → leaf < leaf_count played_fleet → leaf < leaves_in items
    inside leaf below = subst (λ (f : FleetShape). leaf < leaf_count f) same below

    has_played : HasPlayed base meaning played_fleet firsts watching watched played xs
    has_played = subst (λ (f : FleetShape). HasPlayed base meaning f firsts watching watched played xs) (sym same) given

    told : IsToldFleet meaning played_fleet known played (berths_in firsts) xs
    told = ended meaning (berths_in firsts) played_fleet known played xs (has_played.session known known_first) met

    rightly : AreTold played_fleet (base_states_of played_fleet known) told.transcript.histories told.transcript.played
    rightly = tell_right played_fleet known (map item_of played) (lines_text played_fleet.names (all_lines played)) told.transcript (subst (λ (f : FleetShape). AreNames f.names) (sym same) crew.names)
        (subst (λ (ps : List PlayedItem). FollowedSome played_fleet (base_states_of played_fleet known) told.transcript.histories ps []) (sym told.played_is)
        (subst (λ (f : FleetShape). FollowedSome f (base_states_of f known) told.transcript.histories played []) (sym same) (follows known_first told.transcript.histories told.go_on)))

    pub has_told : IsToldRun meaning olds news (map item_of played) known (all_lines played) watching watched
    has_told = record {
      transcript = told.transcript;
      lines_are = ap all_lines told.played_is;
      standing = rightly;
      watched = subst (λ (ps : List PlayedItem). HearsAll played_fleet (plays_in ps) watching watched) (sym told.played_is) has_played.heard;
      counts = λ leaf below old new at now. subst (λ (ps : List PlayedItem). CountsRose leaf (all_pieces ps) (meaning old) (meaning new)) (sym told.played_is)
          (both_at (CountedIf meaning leaf (all_pieces played)) leaf (inside leaf below) (has_played.counted.each leaf) old new at now).2;
      strangers = λ leaf k below is. subst (λ (ps : List PlayedItem). StrangersIn played_fleet.names k.held.disk k.held.region (deeds leaf (all_pieces ps))) (sym told.played_is) (told.strangers leaf k below is);
      leaves = λ leaf k below is old new at now.
          let x = now_at leaf new (inside leaf below) now in
          told.leaves leaf k old new x.0 is (first_at leaf old (inside leaf below) at) x.1 x.2;
      moments = λ leaf below old new at now.
          let x = now_at leaf new (inside leaf below) now in
          subst (λ (ps : List PlayedItem). MomentsRise (told.transcript.histories leaf) (meaning old).clock (notes_told leaf (all_pieces ps)) (meaning new).clock) (sym told.played_is)
          (told.moments leaf old new x.0 (first_at leaf old (inside leaf below) at) x.1 x.2);
      others = subst (λ (f : FleetShape). drop (leaf_count f) news ≡ drop (leaf_count f) olds) (sym same) same_behind;
    }

  pub run_written : {base : ℕ → Option NamedStates} {was now : Option (List ℕ)} {watching watched : List Held} {given : List Item} {fs : List Follower} → given ≡ items
      → RunSoFar base meaning fleet firsts was now watching watched given fs xs → ((leaf : ℕ) (x : Hold B) → slice_get xs leaf ≡ Some x → HasMet meaning x) → IsWritten meaning olds news base items was now watching watched
  run_written {base} {was} {now} {watching} {watched} {given} {fs} all ran met =
      let run : RunSoFar base meaning (script_fleet items) firsts was now watching watched items fs xs =
      subst (λ (f : FleetShape). RunSoFar base meaning f firsts was now watching watched items fs xs) crew.is (run_as (sym all) refl ran) in
      record {
        lines = all_lines run.played;
        written = run.text;
        told = λ known bases. subst (λ (is : List Item). IsToldRun meaning olds news is known (all_lines run.played) watching watched) run.items_are
            (has_told known bases run.played (ap (λ (is : List Item). script_fleet is) run.items_are) run.has met
            (λ is histories on. follow_to_end (script_fleet items) (base_states_of (script_fleet items) known) histories run.played [] fs (run.followed known is histories on)));
      }

-- ---- what a source tells of it

few_leaves : (items : List Item) → AreItems items → leaves_in items ≤ 256
few_leaves [] c = omega arith
few_leaves (item.One (command.Fleet m p tables) ∷ more) c = c.0.few
few_leaves (item.One _ ∷ more) c = absurd c
few_leaves (item.Burst lanes ∷ more) c = absurd c

more_leaves : {B : Type 0} (meaning : B → Meaning) (few many : ℕ) (olds news : List B) → few ≤ many → LeavesBerths meaning few olds news → LeavesBerths meaning many olds news
more_leaves meaning few many olds news below leaves = record { as_many = leaves.as_many; used = leaves.used; others = drop_later few many news olds below leaves.others }

all_read : (xs text ys : List ℕ) → xs ≡ text ++ ys → ys ≡ [] → text ≡ xs
all_read xs text ys e none = sym (append-nil text) ∙ (ap (λ (zs : List ℕ). text ++ zs) (sym none) ∙ sym e)

-- the leaves of the script that was read
pub leaves_as_told : {B : Type 0} (meaning : B → Meaning) (before after : Option (List ℕ)) (text : List ℕ) (script : Script) (olds news : List B) → ReadsAll before after text → script_of text ≡ Ok script → AreItems script.items
    → LeavesBerths meaning (leaves_in script.items) olds news → LeavesBerths meaning (leaves_told before) olds news
leaves_as_told meaning None after text script had has read is are leaves = more_leaves meaning (leaves_in script.items) 256 had has (few_leaves script.items are) leaves
leaves_as_told meaning (Some xs) None text script had has read is are leaves = absurd read.0
leaves_as_told meaning (Some xs) (Some ys) text script had has read is are leaves =
    let whole : text ≡ xs = all_read xs text ys read.0 read.1 in
    subst (λ n. LeavesBerths meaning n had has) (ap (λ (r : Result Script Fault). leaves_of r) (sym is) ∙ ap (λ (t : List ℕ). leaves_of (script_of t)) whole) leaves
