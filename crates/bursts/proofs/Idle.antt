-- Lanes for which nothing is cut off, and which play nothing.
use Rattle.std.proofs.Common.{◌≡◌, ℕ, zero, suc, false, List, [], ◌∷◌, ◌++◌, map, Option, Some, None, refl, sym, ap, subst, ◌∙◌}
use Rattle.std.specs.Prelude.{option_map, slice_get}
use Rattle.std.proofs.lemmas.List.{length-map}
use Rattle.std.proofs.lemmas.Option.{same_Some, slice_get-map}
use Rattle.berth_face.specs.Berth.{Meaning}
use Rattle.leaf_table.specs.Calls.{SeatView}
use Rattle.script_text.specs.declared.command.Command.{Command}
use Rattle.script_text.specs.declared.fleet.FleetShape.{FleetShape}
use Rattle.rollover_watch.specs.Watches.{Held}
use Rattle.printed_lines.specs.declared.line.Line.{Line}
use Rattle.transcript.specs.Pieces.{Played, commands_in, pieces_in}
use Rattle.transcript.specs.Watching.{HearsAll}
use Rattle.leaf_moves.specs.Holds.{Hold, caller_in}
use Rattle.leaf_moves.specs.Lanes.{CutsOff, CutsOffAt, Fans, SplitsIf, TakesBack, TakesBackAt, JoinsIf}
use Rattle.player.specs.Crew.{AllCounted}
use Rattle.lane_play.proofs.Held.{counted_none, one_there}
use Rattle.lane_play.proofs.Playing.{plays_none}
use Rattle.bursts.specs.Lanes.{ArePrefixes, FansWent, LanesFit, all_of}

-- ---- a hand that holds nothing

abbrev no_seats : List (Option SeatView) → List (Option SeatView)
no_seats callers = map (λ (c : Option SeatView). None) callers

abbrev nothing_of : {B : Type 0} → Hold B → Hold B
nothing_of x = record { tables = x.tables; callers = no_seats x.callers; held = None }

no_caller : (callers : List (Option SeatView)) (table : ℕ) → caller_in (no_seats callers) table ≡ None
no_caller [] table = refl
no_caller (c ∷ cs) zero = refl
no_caller (c ∷ cs) (suc table) = no_caller cs table

splits_none : (c off : Option SeatView) → off ≡ None → SplitsIf false c off c
splits_none None off none = (none, refl)
splits_none (Some s) off none = (none, refl)

joins_none : (c off : Option SeatView) → off ≡ None → JoinsIf c off c
joins_none c off none = subst (λ (o : Option SeatView). JoinsIf c o c) (sym none) (by c)
  where
    by : (d : Option SeatView) → JoinsIf d None d
    by None = refl
    by (Some s) = refl

module _ {B : Type 0} (meaning : B → Meaning) (xs : List (Hold B)) where
  abbrev off : List (Hold B)
  off = map (λ (x : Hold B). nothing_of x) xs

  off_at : (leaf : ℕ) (x o : Hold B) → slice_get xs leaf ≡ Some x → slice_get off leaf ≡ Some o → o ≡ nothing_of x
  off_at leaf x o at there =
      same_Some o (nothing_of x) (sym there ∙ (slice_get-map (λ (y : Hold B). nothing_of y) xs leaf ∙ ap (λ (h : Option (Hold B)). option_map (λ (y : Hold B). nothing_of y) h) at))

  cuts_at : (x : Hold B) → CutsOffAt (λ table. false) false x (nothing_of x) x
  cuts_at x = record {
    tables = (refl, refl);
    counts = (length-map x.callers (λ (c : Option SeatView). None), refl);
    seats = λ table. splits_none (caller_in x.callers table) (caller_in (no_seats x.callers) table) (no_caller x.callers table);
    held = (refl, refl);
  }

  cuts : CutsOff (λ table. false) (λ leaf. false) xs off xs
  cuts = record {
    counts = (length-map xs (λ (x : Hold B). nothing_of x), refl);
    each = λ leaf x o r at there rest.
        subst (λ (h : Hold B). CutsOffAt (λ table. false) false x o h) (sym (one_there xs leaf x r at rest))
        (subst (λ (h : Hold B). CutsOffAt (λ table. false) false x h x) (sym (off_at leaf x o at there)) (cuts_at x));
  }

  back_at : (x : Hold B) → TakesBackAt meaning x (nothing_of x) x
  back_at x = record {
    tables = refl;
    joined = x.callers;
    count = refl;
    seats = λ table. joins_none (caller_in x.callers table) (caller_in (no_seats x.callers) table) (no_caller x.callers table);
    held = (refl, refl);
  }

  back : TakesBack meaning xs off xs
  back = record {
    counts = (refl, length-map xs (λ (x : Hold B). nothing_of x));
    each = λ leaf r o x at there now.
        subst (λ (h : Hold B). TakesBackAt meaning r o h) (sym (one_there xs leaf r x at now))
        (subst (λ (h : Hold B). TakesBackAt meaning r h r) (sym (off_at leaf r o at there)) (back_at r));
  }

-- ---- lanes of which nothing was played

abbrev unplayed : List (List Command) → List (List Played)
unplayed [] = []
unplayed (lane ∷ lanes) = [] ∷ unplayed lanes

unplayed_snoc : (lanes : List (List Command)) → [] ∷ unplayed lanes ≡ unplayed lanes ++ [] ∷ []
unplayed_snoc [] = refl
unplayed_snoc (lane ∷ lanes) = ap (λ (ps : List (List Played)). [] ∷ ps) (unplayed_snoc lanes)

unplayed_begin : (lanes : List (List Command)) → ArePrefixes (map commands_in (unplayed lanes)) lanes
unplayed_begin [] = tt
unplayed_begin (lane ∷ lanes) = ((lane, refl), unplayed_begin lanes)

unplayed_all : (lanes : List (List Command)) → all_of (unplayed lanes) ≡ []
unplayed_all [] = refl
unplayed_all (lane ∷ lanes) = unplayed_all lanes

unplayed_fit : (names : List (List ℕ)) (lanes : List (List Command)) → LanesFit names (unplayed lanes)
unplayed_fit names [] = tt
unplayed_fit names (lane ∷ lanes) = (tt, unplayed_fit names lanes)

module _ {B : Type 0} (meaning : B → Meaning) (fleet : FleetShape) (xs : List (Hold B)) where
  idle_fans : (lanes : List (List Command)) → Fans meaning fleet xs (unplayed lanes) xs
  idle_fans [] = Fans.none xs [] xs refl refl
  idle_fans (lane ∷ lanes) =
      Fans.beside xs ([] ∷ unplayed lanes) xs (unplayed lanes) [] (λ table. false) (λ leaf. false) (off meaning xs) xs xs (off meaning xs)
      (cuts meaning xs) (idle_fans lanes) (plays_none meaning fleet (off meaning xs)) (back meaning xs) (unplayed_snoc lanes)

  pub fans_idle : (lanes : List (List Command)) (us : List Held) (ys : List (Hold B)) (told : Option (List Line)) → ys ≡ xs → told ≡ None → FansWent meaning fleet lanes xs us told ys us
  fans_idle lanes us ys told same none =
      subst (λ (hs : List (Hold B)). FansWent meaning fleet lanes xs us told hs us) (sym same) (subst (λ (o : Option (List Line)). FansWent meaning fleet lanes xs us o xs us) (sym none) (record {
        played = unplayed lanes;
        begun = unplayed_begin lanes;
        plays = idle_fans lanes;
        counted = subst (λ qs. AllCounted meaning (pieces_in qs) xs xs) (sym (unplayed_all lanes)) (counted_none meaning xs);
        fit = unplayed_fit fleet.names lanes;
        heard = subst (λ qs. HearsAll fleet qs us us) (sym (unplayed_all lanes)) refl;
        lines_are = tt;
      }))
