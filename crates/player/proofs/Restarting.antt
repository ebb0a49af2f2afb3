-- Leaves are drained and started one after another.
use Rattle.std.proofs.Common.{◌≡◌, ℕ, ◌<◌, Bool, true, false, List, [], ◌∷◌, ◌++◌, map, None, Result, Vec, Global, refl, sym, ap, subst, ◌∙◌, append_assoc}
use Rattle.std.specs.Prelude.{IfOk}
use Rattle.std.specs.List.{AllByRecursion}
use Rattle.std.proofs.lemmas.Option.{slice_get_within}
use Rattle.berth_face.specs.Berth.{Meaning}
use Rattle.leaf_table.specs.Lists.{lists_in}
use Rattle.rollover_driver.specs.Calls.{FleetCall}
use Rattle.rollover_driver.specs.Calls as call
use Rattle.printed_lines.specs.declared.line.Line.{Line}
use Rattle.printed_lines.specs.Lines.{IsOf}
use Rattle.script_text.specs.declared.fleet.FleetShape.{FleetShape}
use Rattle.script_text.specs.Commands.{leaf_count}
use Rattle.transcript.specs.Pieces.{Piece, Says}
use Rattle.player.specs.declared.answer.DeedOutcome.{DeedOutcome}
use Rattle.printed_lines.specs.declared.line.Deed.{Deed}
use Rattle.printed_lines.specs.declared.line.Deed.TheVariants as deed
use Rattle.player.specs.declared.members.Members.{Members}
use Rattle.player.specs.Crew.{HasLeaf}
use Rattle.player.specs.Lines.{AreJoined}
use Rattle.player.specs.Members.{AreMembers, GoesWith, fleet_in, holds_in}
use Rattle.player.specs.Restarts as restart
use Rattle.player.specs.Restarts.{Chain, DeedIsDone, MayDo, Puts, RollsOn, head_at, heads_left}
use Rattle.player.proofs.Chains.{goes_with_more, goes_with_said, joined_lines, no_lines}
use Rattle.player.proofs.HoldLists.{holds_count, still_leaf}

-- pieces after pieces
puts_more : (cs ds : List FleetCall) (heads heads' heads'' : List Line) (draining draining' draining'' : Bool) (ps qs : List Piece) → Puts heads draining cs ps heads' draining' → Puts heads' draining' ds qs heads'' draining''
    → Puts heads draining (cs ++ ds) (ps ++ qs) heads'' draining''
puts_more [] ds heads heads' heads'' draining draining' draining'' ps qs puts more =
    subst (λ (rs : List Piece). Puts heads draining ds (rs ++ qs) heads'' draining'') (sym puts.0)
    (subst (λ (ls : List Line). Puts ls draining ds qs heads'' draining'') puts.1 (subst (λ (b : Bool). Puts heads' b ds qs heads'' draining'') puts.2 more))
puts_more (call.Drains leaf got ∷ cs) ds heads heads' heads'' draining draining' draining'' ps qs puts more =
    let rest = puts_more cs ds (heads_left heads draining) heads' heads'' true draining' draining'' puts.1 qs puts.4 more in
    (puts.0, puts.1 ++ qs, puts.2, ap (λ (rs : List Piece). rs ++ qs) puts.3 ∙ append_assoc (map Says (head_at heads draining)) (puts.0 ∷ puts.1) qs, rest)
puts_more (call.Starts leaf got ∷ cs) ds heads heads' heads'' draining draining' draining'' ps qs puts more =
    let rest = puts_more cs ds heads heads' heads'' false draining' draining'' puts.1 qs puts.4 more in
    (puts.0, puts.1 ++ qs, puts.2, ap (λ (rs : List Piece). rs ++ qs) puts.3, rest)

-- what holds of the lines of all waves holds of the next and of those that are left
parted : (P : Line → Type 0) (heads : List Line) (draining : Bool) → AllByRecursion P heads → AllByRecursion P (head_at heads draining) × AllByRecursion P (heads_left heads draining)
parted P heads true all = (tt, all)
parted P [] false all = (tt, tt)
parted P (l ∷ heads) false all = ((all.0, tt), all.1)

module _ {B E : Type 0} (meaning : B → Meaning) where
  rolls_none : (x : Members B) (heads heads' : List Line) (lines : Result (Vec Line Global) E) (draining : Bool) → IfOk lines (λ ls. ls.items ≡ []) → AllByRecursion (IsOf x.names) heads → heads' ≡ heads → draining ≡ false
      → RollsOn meaning x heads [] lines x heads' draining
  rolls_none x heads heads' lines draining empty fit same begins = record {
    pieces = [];
    puts = (refl, same, begins);
    members = λ are. are;
    same = record { fleet = refl; tables = refl };
    goes = goes_with_said meaning x.names (holds_in x) [] lines tt empty;
    fit = subst (AllByRecursion (IsOf x.names)) (sym same) fit;
  }

  module _ (x y z : Members B) (heads heads' heads'' : List Line) (draining draining' : Bool) (calls : List FleetCall) (number : ℕ) (answer : DeedOutcome) (lines more lines' : Result (Vec Line Global) E)
      (so_far : RollsOn meaning x heads calls lines y heads' draining) where
    rolls_more : (c : FleetCall) (t : Deed) (between : List Line) → (done : DeedIsDone meaning number t y (answer, more) z) → Puts heads' draining (c ∷ []) (map Says between ++ done.acted.piece ∷ []) heads'' draining'
        → AllByRecursion (IsOf x.names) between → AllByRecursion (IsOf x.names) heads'' → IfOk lines' (λ ls. AreJoined lines between more ls.items) → RollsOn meaning x heads (calls ++ c ∷ []) lines' z heads'' draining'
    rolls_more c t between done puts fit fit_left joined =
        let piece = done.acted.piece in
        let own : List Piece = map Says between ++ piece ∷ [] in
        record {
          pieces = so_far.pieces ++ own;
          puts = puts_more calls (c ∷ []) heads heads' heads'' false draining draining' so_far.pieces own so_far.puts puts;
          members = λ are. done.members;
          same = record { fleet = done.same.fleet ∙ so_far.same.fleet; tables = done.same.tables ∙ so_far.same.tables };
          goes = goes_with_more meaning x.names (holds_in x) (holds_in y) (holds_in z) so_far.pieces own lines no_lines lines' so_far.goes
              (goes_with_more meaning x.names (holds_in y) (holds_in y) (holds_in z) (map Says between) (piece ∷ []) no_lines more no_lines (goes_with_said meaning x.names (holds_in y) between no_lines fit tt)
              (subst (λ (names : List (List ℕ)). GoesWith meaning names (holds_in y) more (piece ∷ []) (holds_in z)) (ap (λ (f : FleetShape). f.names) so_far.same.fleet) done.acted.goes) tt)
              (joined_lines lines more lines' between so_far.pieces (piece ∷ []) so_far.goes.lines_are done.acted.goes.lines_are joined);
          fit = fit_left;
        }

    drained_more : (between : List Line) → DeedIsDone meaning number (deed.Drain None) y (answer, more) z → between ≡ head_at heads' draining → heads'' ≡ heads_left heads' draining → draining' ≡ true
        → IfOk lines' (λ ls. AreJoined lines between more ls.items) → RollsOn meaning x heads (calls ++ call.Drains number answer.drained ∷ []) lines' z heads'' draining'
    drained_more between done head left drains joined =
        let fits = parted (IsOf x.names) heads' draining so_far.fit in
        let piece = done.acted.piece in
        rolls_more (call.Drains number answer.drained) (deed.Drain None) between done
        (piece, [], (done.acted.prints, ap (λ (a : DeedOutcome). a.drained) done.acted.answered), ap (λ (ls : List Line). map Says ls ++ piece ∷ []) head, (refl, left, drains))
        (subst (AllByRecursion (IsOf x.names)) (sym head) fits.0) (subst (AllByRecursion (IsOf x.names)) (sym left) fits.1) joined

    started_more : DeedIsDone meaning number deed.Start y (answer, more) z → heads'' ≡ heads' → draining' ≡ false
        → IfOk lines' (λ ls. AreJoined lines [] more ls.items) → RollsOn meaning x heads (calls ++ call.Starts number answer.started ∷ []) lines' z heads'' draining'
    started_more done left starts joined =
        rolls_more (call.Starts number answer.started) deed.Start [] done
        (done.acted.piece, [], (done.acted.prints, ap (λ (a : DeedOutcome). a.started) done.acted.answered), refl, (refl, left, starts)) tt
        (subst (AllByRecursion (IsOf x.names)) (sym left) so_far.fit) joined

  -- a chain of deeds, whose lines were begun with none
  pub chained : (x : Members B) (heads : List Line) (first : Result (Vec Line Global) E) → IfOk first (λ ls. ls.items ≡ []) → AllByRecursion (IsOf x.names) heads
      → (calls : List FleetCall) (y : Members B) (lines : Result (Vec Line Global) E) (heads' : List Line) (draining : Bool) → Chain (λ x leaf t r y. DeedIsDone meaning leaf t x r y) x first heads false calls y lines heads' draining
      → RollsOn meaning x heads calls lines y heads' draining
  chained x heads first empty fit calls y lines heads' draining (restart.none cs z ls hs d none same kept left begins) =
      subst (λ (ds : List FleetCall). RollsOn meaning x heads ds ls z hs d) (sym none) (subst (λ (w : Members B). RollsOn meaning x heads [] ls w hs d) (sym same)
      (rolls_none x heads hs ls d (subst (λ (o : Result (Vec Line Global) E). IfOk o (λ all. all.items ≡ [])) (sym kept) empty) fit left begins))
  chained x heads first empty fit calls y lines heads' draining (restart.drained cs z ls hs d earlier mid ls_mid hs_mid d_mid leaf answer more between so_far done joined head left drains is) =
      subst (λ (ds : List FleetCall). RollsOn meaning x heads ds ls z hs d) (sym is)
      (drained_more x mid z heads hs_mid hs d_mid d earlier leaf answer ls_mid more ls (chained x heads first empty fit earlier mid ls_mid hs_mid d_mid so_far) between done head left drains joined)
  chained x heads first empty fit calls y lines heads' draining (restart.started cs z ls hs d earlier mid ls_mid hs_mid d_mid leaf answer more so_far done joined left starts is) =
      subst (λ (ds : List FleetCall). RollsOn meaning x heads ds ls z hs d) (sym is)
      (started_more x mid z heads hs_mid hs d_mid d earlier leaf answer ls_mid more ls (chained x heads first empty fit earlier mid ls_mid hs_mid d_mid so_far) done left starts joined)

-- a crew that has each leaf of its fleet has all
pub all_held : {B : Type 0} (x : Members B) → AreMembers x → ((leaf : ℕ) → leaf < leaf_count (fleet_in x) → HasLeaf (holds_in x) leaf) → (leaf : ℕ) → HasLeaf (holds_in x) leaf
all_held x are held leaf = λ h at.
    held leaf (subst (λ (n : ℕ). leaf < n) (holds_count 0 x.tables.now x.leaves.items (lists_in x.rows.items) ∙ are.leaves) (slice_get_within (holds_in x) leaf h at)) h at

-- what is known of each leaf of waves
pub of_waves : (P Q : ℕ → Type 0) (waves : List (List ℕ)) → ((leaf : ℕ) → P leaf → Q leaf) → AllByRecursion (λ wave. AllByRecursion P wave) waves → AllByRecursion (λ wave. AllByRecursion Q wave) waves
of_waves P Q [] by known = tt
of_waves P Q (wave ∷ waves) by known = (of_wave wave known.0, of_waves P Q waves by known.1)
  where
    of_wave : (leaves : List ℕ) → AllByRecursion P leaves → AllByRecursion Q leaves
    of_wave [] are = tt
    of_wave (leaf ∷ leaves) are = (by leaf are.0, of_wave leaves are.1)

-- what may be done of a leaf may be done of each other, once one was drained or started
pub may_still : {B E : Type 0} (meaning : B → Meaning) (number : ℕ) (t : Deed) (x y : Members B) (result : DeedOutcome × Result (Vec Line Global) E) → DeedIsDone meaning number t x result y
    → (other : ℕ) → MayDo x other → MayDo y other
may_still meaning number t x y result done other may = record {
  members = done.members;
  within = subst (λ (f : FleetShape). other < leaf_count f) (sym done.same.fleet) may.within;
  held = λ leaf. still_leaf (holds_in x) (holds_in y) done.acted.goes.still leaf (may.held leaf);
}
