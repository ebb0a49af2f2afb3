-- The commands of a lane, one after another.
use Rattle.std.proofs.Common.{◌≡◌, inl, inr, List, [], ◌∷◌, ◌++◌, Option, Some, None, Result, Vec, Global, refl, sym, ap, ap₂, subst, ◌∙◌, append_assoc}
use Rattle.std.specs.Prelude.{Ok, Err, IfOk, IfSome, IsErr, ◌⊎◌}
use Rattle.std.specs.List.{AllByRecursion}
use Rattle.std.proofs.lemmas.Grind.{flat_map-append}
use Rattle.std.proofs.lemmas.List.{append-nil, map-append}
use Rattle.berth_face.specs.Berth.{Meaning}
use Rattle.script_text.specs.declared.command.Command.{Command}
use Rattle.rollover_watch.specs.Watches.{Held}
use Rattle.printed_lines.specs.declared.line.Line.{Line}
use Rattle.printed_lines.specs.Lines.{IsOf}
use Rattle.script_text.specs.declared.fleet.FleetShape.{FleetShape}
use Rattle.transcript.specs.Pieces.{Played, commands_in, lines_in, piece_lines, pieces_in}
use Rattle.transcript.specs.Watching.{HearsAll}
use Rattle.leaf_moves.specs.Holds.{Hold}
use Rattle.leaf_moves.specs.Lanes.{PlaysOn}
use Rattle.player.specs.Crew.{AllCounted, PlaysWith}
use Rattle.lane_play.specs.Went.{LaneWent, told_lines}
use Rattle.lane_play.proofs.Held.{all_counted_on, counted_none}
use Rattle.lane_play.proofs.Heard.{watched_join, watched_one}

pub all_append : {A : Type 0} (P : A → Type 0) (xs ys : List A) → AllByRecursion P xs → AllByRecursion P ys → AllByRecursion P (xs ++ ys)
all_append P [] ys a b = b
all_append P (x ∷ xs) ys a b = (a.0, all_append P xs ys a.1 b)

pieces_snoc : (ps : List Played) (p : Played) → pieces_in (ps ++ p ∷ []) ≡ pieces_in ps ++ p.pieces
pieces_snoc ps p = flat_map-append (λ (q : Played). q.pieces) ps (p ∷ []) ∙ ap (λ xs. pieces_in ps ++ xs) (append-nil p.pieces)

lines_snoc : (ps : List Played) (p : Played) → lines_in (pieces_in (ps ++ p ∷ [])) ≡ lines_in (pieces_in ps) ++ lines_in p.pieces
lines_snoc ps p = ap lines_in (pieces_snoc ps p) ∙ flat_map-append piece_lines (pieces_in ps) p.pieces

-- no command is left
pub all_done : (commands : List Command) (played : List Played) (rest : List Command) → commands ≡ commands_in played ++ rest → rest ≡ [] → commands ≡ commands_in played
all_done commands played rest is none = is ∙ (ap (λ (cs : List Command). commands_in played ++ cs) none ∙ append-nil (commands_in played))

-- an answer without lines tells none
pub no_lines : {E : Type 0} (result : Result (Vec Line Global) E) (e : E) → result ≡ Err e → told_lines result ≡ None
no_lines {E} result e is = ap (λ (r : Result (Vec Line Global) E). told_lines r) is

-- a command that gave lines was played
pub was_played : {P Q R : Type 0} (E : Type 0) (lines : Vec Line Global) → P ⊎ (IsErr {E = E} (Ok lines) × Q × R) → P
was_played E lines (inl p) = p
was_played E lines (inr none) = let wrong = none.0 in absurd cc

module _ {B : Type 0} (meaning : B → Meaning) (fleet : FleetShape) where
  pub plays_none : (xs : List (Hold B)) → PlaysOn meaning fleet xs [] xs
  plays_none xs = PlaysOn.none xs [] xs refl refl

  pub plays_join : (xs : List (Hold B)) (a : List Played) (ys : List (Hold B)) (b : List Played) (zs : List (Hold B)) → PlaysOn meaning fleet xs a ys → PlaysOn meaning fleet ys b zs → PlaysOn meaning fleet xs (a ++ b) zs
  plays_join xs a ys b zs (PlaysOn.none k l w empty same) on =
      subst (λ (ls : List Played). PlaysOn meaning fleet xs (ls ++ b) zs) (sym empty) (subst (λ (hs : List (Hold B)). PlaysOn meaning fleet hs b zs) same on)
  plays_join xs a ys b zs (PlaysOn.more k l w p others between step rest is) on =
      PlaysOn.more xs (a ++ b) zs p (others ++ b) between step (plays_join between others ys b zs rest on) (ap (λ (ls : List Played). ls ++ b) is)

  -- of a lane that has not begun nothing was played
  pub lane_idle : (commands : List Command) (xs : List (Hold B)) (ws : List Held) → LaneWent meaning fleet commands xs ws None xs ws
  lane_idle commands xs ws = record {
    played = [];
    rest = commands;
    commands_are = refl;
    plays = plays_none xs;
    counted = counted_none meaning xs;
    fit = tt;
    heard = refl;
    lines_are = tt;
  }

  -- a lane without commands has no lines
  pub lane_begins : (xs : List (Hold B)) (ws : List Held) (lines : List Line) → lines ≡ [] → LaneWent meaning fleet [] xs ws (Some lines) xs ws
  lane_begins xs ws lines empty = record {
    played = [];
    rest = [];
    commands_are = refl;
    plays = plays_none xs;
    counted = counted_none meaning xs;
    fit = tt;
    heard = refl;
    lines_are = (refl, empty);
  }

  -- the commands so far were played, and their lines are at hand
  module _ (xs ys : List (Hold B)) (us vs : List Held) (done : List Command) (lines : List Line) (a : LaneWent meaning fleet done xs us (Some lines) ys vs) where
    -- one command more was played; if there are lines, it was the last, and its lines are behind the others
    pub lane_goes_on : {E : Type 0} (c : Command) (left : List Command) (result : Result (Vec Line Global) E) (told : Option (List Line)) (zs : List (Hold B)) (ws : List Held) → PlaysWith meaning fleet c ys vs result zs ws
        → IfSome told (λ all. (more : Vec Line Global) × (left ≡ []) × (result ≡ Ok more) × (all ≡ lines ++ more.items)) → LaneWent meaning fleet (done ++ c ∷ left) xs us told zs ws
    lane_goes_on {E} c left result told zs ws b all =
        let p : Played = record { command = c; pieces = b.pieces } in
        record {
          played = a.played ++ p ∷ [];
          rest = left;
          commands_are = ap (λ cs. cs ++ c ∷ left) (all_done done a.played a.rest a.commands_are a.lines_are.0)
              ∙ (sym (append_assoc (commands_in a.played) (c ∷ []) left) ∙ ap (λ cs. cs ++ left) (sym (map-append (λ (q : Played). q.command) a.played (p ∷ []))));
          plays = plays_join xs a.played ys (p ∷ []) zs a.plays (PlaysOn.more ys (p ∷ []) zs p [] zs b.plays (plays_none zs) refl);
          counted = subst (λ ps. AllCounted meaning ps xs zs) (sym (pieces_snoc a.played p)) (all_counted_on meaning xs ys zs (pieces_in a.played) b.pieces a.counted b.counted);
          fit = subst (AllByRecursion (IsOf fleet.names)) (sym (lines_snoc a.played p)) (all_append (IsOf fleet.names) (lines_in (pieces_in a.played)) (lines_in b.pieces) a.fit b.fit);
          heard = watched_join fleet a.played (p ∷ []) us vs ws a.heard (watched_one fleet p vs ws b.heard);
          lines_are = by told all;
        }
      where
        by : (o : Option (List Line)) → IfSome o (λ all. (more : Vec Line Global) × (left ≡ []) × (result ≡ Ok more) × (all ≡ lines ++ more.items))
            → IfSome o (λ all. (left ≡ []) × (all ≡ lines_in (pieces_in (a.played ++ record { command = c; pieces = b.pieces } ∷ []))))
        by None none = tt
        by (Some all) are =
            let its = subst (λ (r : Result (Vec Line Global) E). IfOk r (λ more. more.items ≡ lines_in b.pieces)) are.2 b.lines_are in (
              are.1,
              are.3 ∙ (ap₂ (λ (ls ms : List Line). ls ++ ms) a.lines_are.1 its ∙ sym (lines_snoc a.played (record { command = c; pieces = b.pieces }))),
            )

    -- at a command without lines it stops: that was played, or nothing was
    pub lane_stops : {E : Type 0} (c : Command) (left all : List Command) (result : Result (Vec Line Global) E) (told : Option (List Line)) (zs : List (Hold B)) (ws : List Held)
        → (PlaysWith meaning fleet c ys vs result zs ws) ⊎ (IsErr result × (zs ≡ ys) × (ws ≡ vs)) → done ++ c ∷ left ≡ all → told ≡ None → LaneWent meaning fleet all xs us told zs ws
    lane_stops c left all result told zs ws step is none =
        subst (λ (cs : List Command). LaneWent meaning fleet cs xs us told zs ws) is
        (subst (λ (o : Option (List Line)). LaneWent meaning fleet (done ++ c ∷ left) xs us o zs ws) (sym none) (by step))
      where
        by : (PlaysWith meaning fleet c ys vs result zs ws) ⊎ (IsErr result × (zs ≡ ys) × (ws ≡ vs)) → LaneWent meaning fleet (done ++ c ∷ left) xs us None zs ws
        by (inl b) = lane_goes_on c left result None zs ws b tt
        by (inr same) = record {
          played = a.played;
          rest = c ∷ left;
          commands_are = ap (λ cs. cs ++ c ∷ left) (all_done done a.played a.rest a.commands_are a.lines_are.0);
          plays = subst (λ (hs : List (Hold B)). PlaysOn meaning fleet xs a.played hs) (sym same.1) a.plays;
          counted = subst (λ (hs : List (Hold B)). AllCounted meaning (pieces_in a.played) xs hs) (sym same.1) a.counted;
          fit = a.fit;
          heard = subst (λ (os : List Held). HearsAll fleet a.played us os) (sym same.2) a.heard;
          lines_are = tt;
        }

-- what a command did over the same fleet
pub over_fleet : {B E : Type 0} (meaning : B → Meaning) (fleet fleet' : FleetShape) → fleet' ≡ fleet → (xs ys : List (Hold B)) (us vs : List Held) (c : Command) (result : Result (Vec Line Global) E)
    → (PlaysWith meaning fleet' c xs us result ys vs) ⊎ (IsErr result × (ys ≡ xs) × (vs ≡ us)) → (PlaysWith meaning fleet c xs us result ys vs) ⊎ (IsErr result × (ys ≡ xs) × (vs ≡ us))
over_fleet meaning fleet fleet' same xs ys us vs c result = subst (λ (f : FleetShape). (PlaysWith meaning f c xs us result ys vs) ⊎ (IsErr result × (ys ≡ xs) × (vs ≡ us))) same
