-- What the watches hear of commands one after another, and which lane has the rollover.
use Rattle.std.proofs.Common.{◌≡◌, ◌⊎◌, inl, inr, ℕ, ◌+◌, ◌≤◌, Bool, true, false, cond, List, [], ◌∷◌, ◌++◌, length, map, refl, sym, ap, subst, ◌∙◌, arith}
use Rattle.std.specs.Prelude.{MatchBool}
use Rattle.std.proofs.lemmas.Bool.{or_cases, or_from, or_left, or_parts, or_right}
use Rattle.std.specs.List.{filter}
use Rattle.script_text.specs.declared.command.Command.{Command}
use Rattle.script_text.specs.declared.command.Command.TheVariants as command
use Rattle.script_text.specs.Fits.{OneSteward}
use Rattle.script_text.specs.Stewards.{has_steward, is_stewards}
use Rattle.rollover_watch.specs.Watches.{Held}
use Rattle.script_text.specs.declared.fleet.FleetShape.{FleetShape}
use Rattle.transcript.specs.Pieces.{Piece, Played, commands_in}
use Rattle.transcript.specs.Watching.{Hears, HearsAll}
use Rattle.lane_play.proofs.Heard.{watched_join}
use Rattle.bursts.specs.Lanes.{ArePrefixes, all_of}
use Rattle.bursts.specs.Rolling.{IsHandedOver, has_rollover, is_rollover, one_if, rolling}

-- ---- what is heard

-- of another command than a rollover nothing is heard
quiet_one : (fleet : FleetShape) (c : Command) (pieces : List Piece) (ws : List Held) → is_rollover c ≡ false → Hears fleet (record { command = c; pieces = pieces }) ws ws
quiet_one fleet (command.Rollover percent) pieces ws never = absurd cc
quiet_one fleet _ pieces ws never = refl

quiet : (fleet : FleetShape) (ps : List Played) (ws : List Held) → has_rollover (commands_in ps) ≡ false → HearsAll fleet ps ws ws
quiet fleet [] ws never = refl
quiet fleet (p ∷ ps) ws never =
    let both = or_parts (is_rollover p.command) (has_rollover (commands_in ps)) never in
    (ws, quiet_one fleet p.command p.pieces ws both.0, quiet fleet ps ws both.1)

-- where a lane has no rollover, none of its first commands is one
front_never : (front rest : List Command) → has_rollover (front ++ rest) ≡ false → has_rollover front ≡ false
front_never [] rest never = refl
front_never (c ∷ front) rest never =
    let both = or_parts (is_rollover c) (has_rollover (front ++ rest)) never in
    or_from (is_rollover c) (has_rollover front) both.0 (front_never front rest both.1)

-- so nothing is heard of its first commands
pub quiet_front : (fleet : FleetShape) (played : List Played) (lane rest : List Command) (ws : List Held) → lane ≡ commands_in played ++ rest → has_rollover lane ≡ false → HearsAll fleet played ws ws
quiet_front fleet played lane rest ws is never = quiet fleet played ws (front_never (commands_in played) rest (ap (λ (cs : List Command). has_rollover cs) (sym is) ∙ never))

first_quiet : (lane : List Command) (n : ℕ) → one_if (has_rollover lane) + n ≡ 0 → has_rollover lane ≡ false
first_quiet lane n none = by (has_rollover lane) none
  where
    by : (b : Bool) → one_if b + n ≡ 0 → b ≡ false
    by true none = absurd (omega (arith, none))
    by false none = refl

-- nor of lanes of which none has a rollover
pub quiet_lanes : (fleet : FleetShape) (played : List (List Played)) (lanes : List (List Command)) (ws : List Held) → ArePrefixes (map commands_in played) lanes → rolling lanes ≡ 0 → HearsAll fleet (all_of played) ws ws
quiet_lanes fleet [] [] ws begun none = refl
quiet_lanes fleet [] (l ∷ ls) ws begun none = absurd begun
quiet_lanes fleet (p ∷ ps) [] ws begun none = absurd begun
quiet_lanes fleet (p ∷ ps) (l ∷ ls) ws begun none =
    watched_join fleet p (all_of ps) ws ws ws (quiet_front fleet p l begun.0.0 ws begun.0.1 (first_quiet l (rolling ls) none)) (quiet_lanes fleet ps ls ws begun.1 (omega (arith, none)))

-- The watches go with the second lane if it has the rollover, else with the first. They hear all that both tell.
pub both_hear : (fleet : FleetShape) (rolls : Bool) (ps qs : List Played) (us left left' its its' now : List Held) → IsHandedOver rolls us left its → MatchBool rolls (now ≡ its') (now ≡ left')
    → HearsAll fleet ps left left' → HearsAll fleet qs its its' → (rolls ≡ true → HearsAll fleet ps us us) → (rolls ≡ false → HearsAll fleet qs left' left') → HearsAll fleet (ps ++ qs) us now
both_hear fleet true ps qs us left left' its its' now over taken a b quiet_ps quiet_qs =
    watched_join fleet ps qs us us now (quiet_ps refl)
    (subst (λ (ws : List Held). HearsAll fleet qs us ws) (sym taken) (subst (λ (ws : List Held). HearsAll fleet qs ws its') over.0 b))
both_hear fleet false ps qs us left left' its its' now over taken a b quiet_ps quiet_qs =
    watched_join fleet ps qs us left' now (subst (λ (ws : List Held). HearsAll fleet ps ws left') over a)
    (subst (λ (ws : List Held). HearsAll fleet qs left' ws) (sym taken) (quiet_qs refl))

-- ---- which lane has the rollover

pub rolling_append : (xs ys : List (List Command)) → rolling (xs ++ ys) ≡ rolling xs + rolling ys
rolling_append [] ys = omega arith
rolling_append (x ∷ xs) ys = let more = rolling_append xs ys in omega (arith, more)

roll_is : (c : Command) → is_rollover c ≡ true → is_stewards 0 c ≡ true
roll_is (command.Rollover percent) e = refl
roll_is _ e = absurd cc

rolls_steward : (cs : List Command) → has_rollover cs ≡ true → has_steward 0 cs ≡ true
rolls_steward [] e = absurd cc
rolls_steward (c ∷ cs) e = by (or_cases (is_rollover c) (has_rollover cs) e) (rolls_steward cs)
  where
    by : (is_rollover c ≡ true) ⊎ (has_rollover cs ≡ true) → (has_rollover cs ≡ true → has_steward 0 cs ≡ true) → has_steward 0 (c ∷ cs) ≡ true
    by (inl here) more = or_left (is_stewards 0 c) (has_steward 0 cs) (roll_is c here)
    by (inr there) more = or_right (is_stewards 0 c) (has_steward 0 cs) (more there)

fewer_roll : (lanes : List (List Command)) → rolling lanes ≤ length (filter (has_steward 0) lanes)
fewer_roll [] = omega arith
fewer_roll (l ∷ ls) = by (has_rollover l) (has_steward 0 l) (filter (has_steward 0) ls) (rolling ls) (rolls_steward l) (fewer_roll ls)
  where
    by : (a b : Bool) (vs : List (List Command)) (n : ℕ) → (a ≡ true → b ≡ true) → n ≤ length vs → one_if a + n ≤ length (cond b (l ∷ vs) vs)
    by true true vs n m le = omega (arith, le)
    by true false vs n m le = let wrong : false ≡ true = m refl in absurd cc
    by false true vs n m le = omega (arith, le)
    by false false vs n m le = omega (arith, le)

-- a rollover is a steward's command of each leaf, so that one lane at most has one
pub one_rolls : (lanes : List (List Command)) → OneSteward lanes → rolling lanes ≤ 1
one_rolls lanes one = omega (arith, fewer_roll lanes, one 0)

pub one_if_true : (b : Bool) → b ≡ true → one_if b ≡ 1
one_if_true b e = ap one_if e
