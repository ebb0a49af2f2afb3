-- What a rollover comes to.
use Rattle.std.proofs.Common.{◌≡◌, ℕ, ◌+◌, ◌<◌, List, [], ◌∷◌, ◌++◌, length, map, false, Result, Ok, Err, Vec, Global, refl, sym, ap, ap₂, subst, ◌∙◌, append-nil, arith}
use Rattle.std.specs.Prelude.{IfOk}
use Rattle.std.specs.List.{AllByRecursion, flat_map}
use Rattle.berth_face.specs.Berth.{Meaning}
use Rattle.rollover_plan.specs.Plan.{IsPlan}
use Rattle.rollover_watch.specs.Watches.{Held}
use Rattle.rollover_driver.specs.declared.driving.Rolled.{Rolled}
use Rattle.rollover_driver.specs.Calls.{FleetCall}
use Rattle.rollover_driver.specs.Drives.{Drives}
use Rattle.script_text.specs.declared.order.Order.TheVariants as order
use Rattle.printed_lines.specs.declared.line.Line.{Line}
use Rattle.printed_lines.specs.declared.line.Line.TheVariants as line
use Rattle.printed_lines.specs.Lines.{IsOf}
use Rattle.transcript.specs.Pieces.{Piece, Says, lines_in}
use Rattle.transcript.specs.Shapes.{Rolls}
use Rattle.transcript.specs.Watching.{calls_in, watch_line}
use Rattle.player.specs.declared.members.Members.{Members}
use Rattle.player.specs.Crew.{PlaysOrder}
use Rattle.player.specs.Members.{fleet_in, holds_in}
use Rattle.player.specs.Rolled.{AreFollowed, RollsThrough, end_lines, watch_lines}
use Rattle.player.proofs.Chains.{goes_with_more, goes_with_said, lines_more, lines_said, no_lines}
use Rattle.player.proofs.Rolling.{Rolling, calls_more, rolled_waves, said_calls, told_calls}

-- ---- the pieces behind the waves

abbrev pub watch_piece : List ℕ → Piece
watch_piece text = Says (line.Watch text)

said_watches : (watches : List Held) → map Says (watch_lines watches) ≡ map watch_piece (map watch_line watches)
said_watches [] = refl
said_watches (w ∷ ws) = ap (λ (ps : List Piece). watch_piece (watch_line w) ∷ ps) (said_watches ws)

watches_fit : (names : List (List ℕ)) (watches : List Held) → AllByRecursion (IsOf names) (watch_lines watches)
watches_fit names [] = tt
watches_fit names (w ∷ ws) = (tt, watches_fit names ws)

-- their lines behind those of the deeds
followed : {E : Type 0} (lines result : Result (Vec Line Global) E) (ps : List Piece) (ls : List Line) → IfOk lines (λ all. all.items ≡ lines_in ps) → IfOk result (λ all. AreFollowed lines ls all.items)
    → IfOk result (λ all. all.items ≡ lines_in (ps ++ map Says ls))
followed (Ok lines) (Ok all) ps ls told are =
    are ∙ ap (λ (ks : List Line). ks ++ ls) told ∙ sym (lines_more ps (map Says ls) ∙ ap (λ (ks : List Line). lines_in ps ++ ks) (lines_said ls))
followed (Err e) (Ok all) ps ls told are = absurd are
followed lines (Err e) ps ls told are = tt

module _ {B E : Type 0} (meaning : B → Meaning) (x y : Members B) (percent : ℕ) (plan : List (List ℕ)) (old new : List Held) (rolled : Rolled) (lines result : Result (Vec Line Global) E)
    (is_plan : IsPlan x.machines x.per_machine percent plan) (some : AllByRecursion (λ (wave : List ℕ). 0 < length wave) plan) (through : RollsThrough meaning plan x old rolled lines y new)
    (now : List Held) (same : now ≡ new) (told : IfOk result (λ all. AreFollowed lines (end_lines rolled (length plan) now) all.items)) where
  abbrev deeds : List Piece
  deeds = through.rolls.pieces

  abbrev ends : List Line
  ends = end_lines rolled (length plan) new

  abbrev all : List Piece
  all = deeds ++ map Says ends

  waves : Rolling (length plan) 0 plan rolled deeds
  waves = rolled_waves (length plan) through.left through.draining 0 plan false old through.calls rolled through.drives.between deeds through.drives.goes some through.rolls.puts

  count : rolled.waves ≡ length waves.pieces
  count = waves.count ∙ omega arith

  rolls : Rolls (fleet_in x) percent all
  rolls = record {
    plan = plan;
    is_plan = is_plan;
    roll = record {
      begun = waves.pieces;
      halted = rolled.halted;
      texts = map watch_line new;
      each = waves.each;
      halt = waves.halted;
      are = ap₂ (λ (ps : List Piece) (n : ℕ). ps ++ (Says (line.Rolled rolled.halted n (length plan)) ∷ map Says (watch_lines new))) waves.are count
          ∙ ap (λ (ps : List Piece). flat_map (λ (wave : List Piece). wave) waves.pieces ++ (Says (line.Rolled rolled.halted (length waves.pieces) (length plan)) ∷ ps)) (said_watches new);
    };
  }

  calls_are : calls_in all ≡ through.calls
  calls_are =
      calls_more deeds (map Says ends) ∙ ap (λ (cs : List FleetCall). calls_in deeds ++ cs) (said_calls ends) ∙ append-nil (calls_in deeds)
      ∙ told_calls through.calls _ through.left false through.draining deeds through.rolls.puts

  pub rollover_plays : PlaysOrder meaning (fleet_in x) (order.Rollover percent) (holds_in x) old result (holds_in y) new
  unfolding rolls waves
  rollover_plays =
      let goes = goes_with_more meaning x.names (holds_in x) (holds_in y) (holds_in y) deeds (map Says ends) lines no_lines result through.rolls.goes
      (goes_with_said meaning x.names (holds_in y) ends no_lines (tt, watches_fit x.names new) tt)
      (followed lines result deeds ends through.rolls.goes.lines_are (subst (λ (ws : List Held). IfOk result (λ all. AreFollowed lines (end_lines rolled (length plan) ws) all.items)) same told)) in
      record {
        pieces = all;
        goes = goes.goes;
        prints = rolls;
        answers = λ histories go. tt;
        counted = goes.counted;
        fit = goes.fit;
        heard = record {
          rolls = rolls;
          drives = subst (λ (cs : List FleetCall). Drives plan old cs (record { waves = length waves.pieces; halted = rolled.halted }) new) (sym calls_are)
              (subst (λ (n : ℕ). Drives plan old through.calls (record { waves = n; halted = rolled.halted }) new) count through.drives);
          texts_are = refl;
        };
        lines_are = goes.lines_are;
      }
