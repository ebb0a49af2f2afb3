-- An item: a command, or a burst.
use Rattle.std.proofs.Common.{◌≡◌, List, [], ◌∷◌, ◌++◌, inl, inr, map, Option, Some, None, Result, Vec, Global, refl, sym, ap, subst, ◌∙◌}
use Rattle.std.specs.Prelude.{◌⊎◌, Ok, Err, IfOk, IfSome, IsErr}
use Rattle.std.specs.List.{AllByRecursion}
use Rattle.std.proofs.lemmas.List.{append-nil}
use Rattle.berth_face.specs.Berth.{Meaning}
use Rattle.script_text.specs.declared.command.Command.{Command}
use Rattle.script_text.specs.declared.item.Item.{Item}
use Rattle.script_text.specs.declared.item.Item.TheVariants as item
use Rattle.rollover_watch.specs.Watches.{Held}
use Rattle.printed_lines.specs.declared.line.Line.{Line}
use Rattle.printed_lines.specs.Lines.{IsOf}
use Rattle.script_text.specs.declared.fleet.FleetShape.{FleetShape}
use Rattle.transcript.specs.Pieces.{One, Burst, Piece, Played, lane_lines, lines_in, pieces_in}
use Rattle.transcript.specs.Pieces as pieces
use Rattle.leaf_moves.specs.Holds.{Hold, AllMeet}
use Rattle.leaf_moves.specs.Lanes.{Fans, PlaysItem, PlaysOn}
use Rattle.player.specs.Crew.{AllCounted, HasAll, PlaysWith, StillHas}
use Rattle.lane_play.specs.Went.{ItemWent, OrNothing, told_lines}
use Rattle.lane_play.proofs.Heard.{watched_one}
use Rattle.lane_play.proofs.Held.{all_counted_on, counted_met, counted_none, still_leaf, still_seats}
use Rattle.bursts.specs.Lanes.{ArePrefixes, FansWent, LanesWent, TurnsWent, all_of}
use Rattle.bursts.proofs.Lanes.{lanes_fit}

-- those of a burst, without those of items behind it
alone_pieces : (lanes : List (List Played)) → pieces_in (all_of lanes ++ []) ≡ pieces_in (all_of lanes)
alone_pieces lanes = ap pieces_in (append-nil (all_of lanes))

module _ {B : Type 0} (meaning : B → Meaning) (fleet : FleetShape) (xs ys : List (Hold B)) (us vs : List Held) where
  pub one_went : {E : Type 0} (c : Command) (result : Result (Vec Line Global) E) → (PlaysWith meaning fleet c xs us result ys vs) ⊎ (IsErr result × (ys ≡ xs) × (vs ≡ us))
      → OrNothing (ItemWent meaning fleet (item.One c) xs us (told_lines result) ys vs) xs us (told_lines result) ys vs
  one_went {E = E} c result (inl p) =
      let q : Played = record { command = c; pieces = p.pieces } in
      let pieces : pieces_in (q ∷ []) ≡ p.pieces = append-nil p.pieces in
      inl (record {
        played = One q;
        begun = refl;
        plays = PlaysItem.one q refl p.plays;
        counted = subst (λ (ps : List Piece). AllCounted meaning ps xs ys) (sym pieces) p.counted;
        fit = p.fit;
        heard = watched_one fleet q us vs p.heard;
        lines_are = by result p.lines_are;
      })
    where
      by : (r : Result (Vec Line Global) E) → IfOk r (λ lines. lines.items ≡ lines_in p.pieces) → IfSome (told_lines r) (λ ls. (item.One c ≡ item.One c) × (ls ≡ lines_in p.pieces))
      by (Ok ls) are = (refl, are)
      by (Err e) are = tt
  one_went c (Ok ls) (inr none) = let wrong = none.0 in absurd cc
  one_went c (Err e) (inr none) = inr (record { refused = refl; holds = none.1; watches = none.2 })

  -- the lanes of a burst, which played over the seats as they were, or as they were after they met
  pub burst_went : (P : List (List Played) → Type 0) (met : List (Hold B)) (cut lanes : List (List Command)) (lines : Option (List Line)) → cut ≡ lanes → LanesWent meaning fleet P cut met us lines ys vs
      → ((played : List (List Played)) → P played → PlaysItem meaning fleet xs (Burst played) ys) → AllCounted meaning [] xs met → ItemWent meaning fleet (item.Burst lanes) xs us lines ys vs
  burst_went P met cut lanes lines are went plays counted = record {
    played = Burst went.played;
    begun = subst (λ ls. ArePrefixes (map pieces.commands_in went.played) ls) are went.begun;
    plays = plays went.played went.plays;
    counted = subst (λ (ps : List Piece). AllCounted meaning ps xs ys) (sym (alone_pieces went.played)) (all_counted_on meaning xs met ys [] (pieces_in (all_of went.played)) counted went.counted);
    fit = lanes_fit fleet.names 0 went.played went.fit;
    heard = went.heard;
    lines_are = by lines went.lines_are;
  }
    where
      by : (o : Option (List Line)) → IfSome o (λ ls. (map pieces.commands_in went.played ≡ cut) × (ls ≡ lane_lines 0 went.played))
          → IfSome o (λ ls. (item.Burst (map pieces.commands_in went.played) ≡ item.Burst lanes) × (ls ≡ lane_lines 0 went.played))
      by None e = tt
      by (Some ls) e = (ap (λ (l : List (List Command)). item.Burst l) (e.0 ∙ are), e.1)

  pub turns_went : (cut lanes : List (List Command)) (lines : Option (List Line)) → cut ≡ lanes → TurnsWent meaning fleet cut xs us lines ys vs → ItemWent meaning fleet (item.Burst lanes) xs us lines ys vs
  turns_went cut lanes lines are went =
      burst_went (λ played. PlaysOn meaning fleet xs (all_of played) ys) xs cut lanes lines are went (λ played plays. PlaysItem.in_turn played refl plays) (counted_none meaning xs)

  pub beside_went : (met : List (Hold B)) (cut lanes : List (List Command)) (lines : Option (List Line)) (fleet' : FleetShape) → fleet' ≡ fleet → cut ≡ lanes → AllMeet meaning xs met → FansWent meaning fleet' cut met us lines ys vs
      → ItemWent meaning fleet (item.Burst lanes) xs us lines ys vs
  beside_went met cut lanes lines fleet' same are meet went =
      burst_went (λ played. Fans meaning fleet met played ys) met cut lanes lines are (subst (λ (f : FleetShape). FansWent meaning f cut met us lines ys vs) same went)
      (λ played plays. PlaysItem.beside played met refl meet plays) (counted_met meaning xs met meet)

  -- the lines are of the fleet
  pub lines_of_item : {E : Type 0} (x : Item) (result : Result (Vec Line Global) E) → OrNothing (ItemWent meaning fleet x xs us (told_lines result) ys vs) xs us (told_lines result) ys vs
      → IfOk result (λ lines. AllByRecursion (IsOf fleet.names) lines.items)
  lines_of_item x (Err e) went = tt
  lines_of_item x (Ok ls) (inl went) = subst (AllByRecursion (IsOf fleet.names)) (sym went.lines_are.1) went.fit
  lines_of_item x (Ok ls) (inr none) = let wrong = none.refused in absurd cc

-- all is held still
pub all_on : {B : Type 0} (fleet fleet' : FleetShape) (xs ys : List (Hold B)) → fleet' ≡ fleet → StillHas xs ys → HasAll fleet xs → HasAll fleet' ys
all_on fleet fleet' xs ys same still all = subst (λ (f : FleetShape). HasAll f ys) (sym same) (record {
  leaves = λ leaf. still_leaf xs ys still leaf (all.leaves leaf);
  seats = λ table below. still_seats xs ys still table (all.seats table below);
})
