-- Lanes, one more after those before it.
use Rattle.std.proofs.Common.{◌≡◌, ℕ, suc, ◌+◌, List, [], ◌∷◌, ◌++◌, length, map, Some, Result, Vec, Global, refl, sym, ap, ap₂, subst, ◌∙◌, arith, append_assoc}
use Rattle.std.specs.Prelude.{Ok, Err, IfOk, IfSome}
use Rattle.std.specs.List.{AllByRecursion}
use Rattle.std.proofs.lemmas.Grind.{flat_map-append}
use Rattle.std.proofs.lemmas.List.{append-nil, map-append, length-map}
use Rattle.std.proofs.lemmas.Slice.Zip.{all_zipped_more}
use Rattle.berth_face.specs.Berth.{Meaning}
use Rattle.script_text.specs.declared.command.Command.{Command}
use Rattle.rollover_watch.specs.Watches.{Held}
use Rattle.printed_lines.specs.declared.line.Line.{Line}
use Rattle.printed_lines.specs.declared.line.Line.TheVariants.{Lane}
use Rattle.printed_lines.specs.Lines.{IsOf}
use Rattle.script_text.specs.declared.fleet.FleetShape.{FleetShape}
use Rattle.transcript.specs.Pieces.{Played, commands_in, lane_lines, lines_in, pieces_in}
use Rattle.transcript.specs.Watching.{HearsAll}
use Rattle.leaf_moves.specs.Holds.{Hold}
use Rattle.leaf_moves.specs.Lanes.{Fans, PlaysOn}
use Rattle.player.specs.Crew.{AllCounted}
use Rattle.lane_play.specs.Shortened.{Begins}
use Rattle.lane_play.specs.Went.{LaneWent, told_lines}
use Rattle.lane_play.proofs.Heard.{watched_join}
use Rattle.lane_play.proofs.Held.{all_counted_on, counted_none}
use Rattle.lane_play.proofs.Playing.{all_append, all_done, lane_idle, plays_join, plays_none}
use Rattle.bursts.specs.Lanes.{ArePrefixes, FansWent, IsBehind, LanesFit, LanesWent, TurnsWent, all_of}

all_snoc : (ps : List (List Played)) (p : List Played) → all_of (ps ++ p ∷ []) ≡ all_of ps ++ p
all_snoc ps p = flat_map-append (λ (q : List Played). q) ps (p ∷ []) ∙ ap (λ xs. all_of ps ++ xs) (append-nil p)

pieces_all_snoc : (ps : List (List Played)) (p : List Played) → pieces_in (all_of (ps ++ p ∷ [])) ≡ pieces_in (all_of ps) ++ pieces_in p
pieces_all_snoc ps p = ap pieces_in (all_snoc ps p) ∙ flat_map-append (λ (q : Played). q.pieces) (all_of ps) p

-- the lines of one lane more
lane_snoc : (first : ℕ) (ps : List (List Played)) (p : List Played) (number : ℕ) → number ≡ first + length ps
    → lane_lines first (ps ++ p ∷ []) ≡ lane_lines first ps ++ Lane number ∷ lines_in (pieces_in p)
lane_snoc first [] p number is =
    let same : first ≡ number = omega (arith, is) in
    ap₂ (λ (n : ℕ) (ls : List Line). Lane n ∷ ls) same (append-nil (lines_in (pieces_in p)))
lane_snoc first (q ∷ ps) p number is =
    ap (λ (ls : List Line). Lane first ∷ (lines_in (pieces_in q) ++ ls)) (lane_snoc (suc first) ps p number (omega (arith, is)))
    ∙ ap (λ (ls : List Line). Lane first ∷ ls) (sym (append_assoc (lines_in (pieces_in q)) (lane_lines (suc first) ps) (Lane number ∷ lines_in (pieces_in p))))

same_count : (played : List (List Played)) (lanes : List (List Command)) (number : ℕ) → map commands_in played ≡ lanes → length lanes ≡ number → number ≡ 0 + length played
same_count played lanes number are long =
    let one : length (map commands_in played) ≡ length played = length-map played commands_in in
    let two : length (map commands_in played) ≡ length lanes = ap (λ (ls : List (List Command)). length ls) are in
    omega (arith, one, two, long)

lines_more : {E : Type 0} (played : List (List Played)) (p : List Played) (back : List (List Command)) (lane : List Command) (number : ℕ) (lines own all : Result (Vec Line Global) E) (rest : List Command)
    → lane ≡ commands_in p ++ rest
    → IfSome (told_lines lines) (λ ls. (map commands_in played ≡ back) × (ls ≡ lane_lines 0 played)) → IfSome (told_lines own) (λ ls. (rest ≡ []) × (ls ≡ lines_in (pieces_in p)))
    → length back ≡ number → IfOk all (λ v. IsBehind lines number own v.items)
    → IfSome (told_lines all) (λ ls. (map commands_in (played ++ p ∷ []) ≡ back ++ lane ∷ []) × (ls ≡ lane_lines 0 (played ++ p ∷ [])))
lines_more played p back lane number lines own (Err e) rest commands a b count more = tt
lines_more {E} played p back lane number lines own (Ok all) rest commands a b count more =
    let firsts = subst (λ (r : Result (Vec Line Global) E). IfSome (told_lines r) (λ ls. (map commands_in played ≡ back) × (ls ≡ lane_lines 0 played))) more.lines_are a in
    let its = subst (λ (r : Result (Vec Line Global) E). IfSome (told_lines r) (λ ls. (rest ≡ []) × (ls ≡ lines_in (pieces_in p)))) more.own_is b in (
      map-append commands_in played (p ∷ []) ∙ ap₂ (λ (ls : List (List Command)) (l : List Command). ls ++ l ∷ []) firsts.0 (sym (all_done lane p rest commands its.0)),
      more.all_are ∙ (ap₂ (λ (ls ms : List Line). ls ++ Lane number ∷ ms) firsts.1 its.1 ∙ sym (lane_snoc 0 played p number (same_count played back number firsts.0 count))),
    )

-- the lines of lanes are of the fleet
pub lanes_fit : (names : List (List ℕ)) (first : ℕ) (lanes : List (List Played)) → LanesFit names lanes → AllByRecursion (IsOf names) (lane_lines first lanes)
lanes_fit names first [] fit = tt
lanes_fit names first (lane ∷ lanes) fit = (tt, all_append (IsOf names) (lines_in (pieces_in lane)) (lane_lines (suc first) lanes) fit.0 (lanes_fit names (suc first) lanes fit.1))

module _ {B : Type 0} (meaning : B → Meaning) (fleet : FleetShape) where
  -- no lane
  pub lanes_begin : (P : List (List Played) → Type 0) → P [] → (lanes : List (List Command)) (xs : List (Hold B)) (ws : List Held) (lines : List Line) → lanes ≡ [] → lines ≡ [] → LanesWent meaning fleet P lanes xs ws (Some lines) xs ws
  lanes_begin P none lanes xs ws lines no_lanes empty = subst (λ (ls : List (List Command)). LanesWent meaning fleet P ls xs ws (Some lines) xs ws) (sym no_lanes) (record {
    played = [];
    begun = tt;
    plays = none;
    counted = counted_none meaning xs;
    fit = tt;
    heard = refl;
    lines_are = (refl, empty);
  })

  -- One lane more. The others played as P says, over xs, and all of them as Q says, over hs.
  pub lanes_go_on : {E : Type 0} (P Q : List (List Played) → Type 0) (back : List (List Command)) (lane : List Command) (xs ys off off' hs zs : List (Hold B)) (left left' its its' us vs : List Held)
      (lines own all : Result (Vec Line Global) E) (number : ℕ)
      → (a : LanesWent meaning fleet P back xs left (told_lines lines) ys left') → (b : LaneWent meaning fleet lane off its (told_lines own) off' its')
      → Q (a.played ++ b.played ∷ []) → AllCounted meaning (pieces_in (all_of a.played) ++ pieces_in b.played) hs zs → HearsAll fleet (all_of a.played ++ b.played) us vs
      → length back ≡ number → IfOk all (λ v. IsBehind lines number own v.items) → LanesWent meaning fleet Q (back ++ lane ∷ []) hs us (told_lines all) zs vs
  lanes_go_on P Q back lane xs ys off off' hs zs left left' its its' us vs lines own all number a b plays counted heard count more = record {
    played = a.played ++ b.played ∷ [];
    begun = subst (λ ls. ArePrefixes ls (back ++ lane ∷ [])) (sym (map-append commands_in a.played (b.played ∷ [])))
        (all_zipped_more (λ (front whole : List Command). Begins front whole) (map commands_in a.played) back (commands_in b.played) lane a.begun (b.rest, b.commands_are));
    plays = plays;
    counted = subst (λ ps. AllCounted meaning ps hs zs) (sym (pieces_all_snoc a.played b.played)) counted;
    fit = all_append (λ (l : List Played). AllByRecursion (IsOf fleet.names) (lines_in (pieces_in l))) a.played (b.played ∷ []) a.fit (b.fit, tt);
    heard = subst (λ ps. HearsAll fleet ps us vs) (sym (all_snoc a.played b.played)) heard;
    lines_are = lines_more a.played b.played back lane number lines own all b.rest b.commands_are a.lines_are b.lines_are count more;
  }

  pub turns_begin : (lanes : List (List Command)) (xs : List (Hold B)) (ws : List Held) (lines : List Line) → lanes ≡ [] → lines ≡ [] → TurnsWent meaning fleet lanes xs ws (Some lines) xs ws
  turns_begin lanes xs = lanes_begin (λ played. PlaysOn meaning fleet xs (all_of played) xs) (plays_none meaning fleet xs) lanes xs

  pub fans_begin : (lanes : List (List Command)) (xs : List (Hold B)) (ws : List Held) (lines : List Line) → lanes ≡ [] → lines ≡ [] → FansWent meaning fleet lanes xs ws (Some lines) xs ws
  fans_begin lanes xs = lanes_begin (λ played. Fans meaning fleet xs played xs) (Fans.none xs [] xs refl refl) lanes xs

  -- one lane more is played after the others
  pub turns_go_on : {E : Type 0} (back : List (List Command)) (lane : List Command) (lanes : List (List Command)) → lanes ≡ back ++ lane ∷ [] → (xs ys zs : List (Hold B)) (us vs ws : List Held) (fleet' : FleetShape) → fleet' ≡ fleet
      → (lines own all : Result (Vec Line Global) E) (number : ℕ) → TurnsWent meaning fleet back xs us (told_lines lines) ys vs → LaneWent meaning fleet' lane ys vs (told_lines own) zs ws
      → length back ≡ number → IfOk all (λ v. IsBehind lines number own v.items) → TurnsWent meaning fleet lanes xs us (told_lines all) zs ws
  turns_go_on back lane lanes are xs ys zs us vs ws fleet' same lines own all number a b' count more =
      let b : LaneWent meaning fleet lane ys vs (told_lines own) zs ws = subst (λ (f : FleetShape). LaneWent meaning f lane ys vs (told_lines own) zs ws) same b' in
      subst (λ (ls : List (List Command)). TurnsWent meaning fleet ls xs us (told_lines all) zs ws) (sym are)
      (lanes_go_on (λ played. PlaysOn meaning fleet xs (all_of played) ys) (λ played. PlaysOn meaning fleet xs (all_of played) zs) back lane xs ys ys zs xs zs us vs vs ws us ws lines own all number a b
      (subst (λ ps. PlaysOn meaning fleet xs ps zs) (sym (all_snoc a.played b.played)) (plays_join meaning fleet xs (all_of a.played) ys b.played zs a.plays b.plays))
      (all_counted_on meaning xs ys zs (pieces_in (all_of a.played)) (pieces_in b.played) a.counted b.counted)
      (watched_join fleet (all_of a.played) b.played us vs ws a.heard b.heard) count more)

  -- one lane more is not played
  pub turns_stop : {E : Type 0} (back : List (List Command)) (lane : List Command) (lanes : List (List Command)) → lanes ≡ back ++ lane ∷ [] → (xs ys : List (Hold B)) (us vs : List Held) (lines all : Result (Vec Line Global) E) (e : E) → all ≡ Err e
      → TurnsWent meaning fleet back xs us (told_lines lines) ys vs → TurnsWent meaning fleet lanes xs us (told_lines all) ys vs
  turns_stop {E} back lane lanes are xs ys us vs lines all e is a =
      subst (λ (r : Result (Vec Line Global) E). TurnsWent meaning fleet lanes xs us (told_lines r) ys vs) (sym is)
      (turns_go_on back lane lanes are xs ys ys us vs vs fleet refl lines (Err e) (Err e) (length back) a (lane_idle meaning fleet lane ys vs) refl tt)
