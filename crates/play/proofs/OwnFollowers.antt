-- The standing queries of a run stay those of its fleet.
use Rattle.std.proofs.Common.{◌≡◌, ℕ, ◌<◌, List, [], ◌∷◌, ◌++◌, length, map, Option, sym, ap, subst}
use Rattle.std.specs.Prelude.{IfSome}
use Rattle.std.specs.List.{AllByRecursion}
use Rattle.leaf_model.specs.declared.queries.Query.{Query}
use Rattle.script_text.specs.declared.command.Command.TheVariants as command
use Rattle.script_text.specs.declared.fleet.FleetShape.{FleetShape}
use Rattle.script_text.specs.Commands.{leaf_count}
use Rattle.standing_feed.specs.declared.follower.Follower.{Follower}
use Rattle.standing_feed.specs.declared.place.TableAt.{TableAt}
use Rattle.standing_feed.specs.Hearing.{TablePlace}
use Rattle.standing_feed.specs.Following.{AreFor, CallsAt, StayInPlace, new_follower, table_place_of}
use Rattle.transcript.specs.Pieces.{place_among}
use Rattle.transcript_standing.specs.Followed.{IsFollower}
use Rattle.transcript_fleet.proofs.Lists.{All-append}
use Rattle.bursts.proofs.Needed.{place_below}
use Rattle.play.specs.Standing.{MayRunAlone}

-- one more that was declared stands behind the others
pub declared_behind : (fs gs more : List Follower) → gs ≡ fs ++ more → StayInPlace fs gs
declared_behind fs gs more is noted are = subst (AreFor noted) (sym is) (by noted fs are)
  where
    by : (noted : List (Option CallsAt)) (fs : List Follower) → AreFor noted fs → AreFor noted (fs ++ more)
    by [] fs are = tt
    by (n ∷ noted) [] are = absurd are
    by (n ∷ noted) (f ∷ fs) are = (are.0, by noted fs are.1)

first_places : (f g : Follower) (fs gs : List Follower) → map table_place_of (g ∷ gs) ≡ map table_place_of (f ∷ fs) → (table_place_of g ≡ table_place_of f) × (map table_place_of gs ≡ map table_place_of fs)
first_places f g fs gs same = parts (table_place_of g) (table_place_of f) (map table_place_of gs) (map table_place_of fs) same
  where
    parts : (a b : TablePlace) (ps qs : List TablePlace) → a ∷ ps ≡ b ∷ qs → (a ≡ b) × (ps ≡ qs)
    parts a b ps qs e = (cc, cc)

-- the same tables in the same order
pub same_tables : (fs gs : List Follower) → map table_place_of gs ≡ map table_place_of fs → StayInPlace fs gs
same_tables fs gs same [] are = tt
same_tables [] gs same (n ∷ noted) are = absurd are
same_tables (f ∷ fs) [] same (n ∷ noted) are = absurd cc
same_tables (f ∷ fs) (g ∷ gs) same (n ∷ noted) are =
    let both = first_places f g fs gs same in
    (subst (λ (at : TableAt). IfSome n (λ (c : CallsAt). c.at ≡ at)) (ap (λ (p : TablePlace). record { leaf = p.leaf; table = p.table }) (sym both.0)) are.0, same_tables fs gs both.1 noted are.1)

-- one more that was declared
pub declared_follower : (fleet : FleetShape) (leaf table : ℕ) (q : Query) (fs gs : List Follower) → MayRunAlone fleet (command.Standing leaf q) → table ≡ place_among q.table fleet.names → gs ≡ fs ++ new_follower leaf table q ∷ []
    → AllByRecursion (IsFollower fleet) fs → AllByRecursion (IsFollower fleet) gs
declared_follower fleet leaf table q fs gs may at is all =
    let below : table < length fleet.names = subst (λ n. n < length fleet.names) (sym at) (place_below q.table fleet.names may.1) in
    subst (AllByRecursion (IsFollower fleet)) (sym is) (All-append (IsFollower fleet) fs (new_follower leaf table q ∷ []) all ((may.0, below), tt))

-- the same tables
pub followers_stay : (fleet : FleetShape) (fs gs : List Follower) → map table_place_of gs ≡ map table_place_of fs → AllByRecursion (IsFollower fleet) fs → AllByRecursion (IsFollower fleet) gs
followers_stay fleet [] [] same all = tt
followers_stay fleet [] (g ∷ gs) same all = absurd cc
followers_stay fleet (f ∷ fs) [] same all = absurd cc
followers_stay fleet (f ∷ fs) (g ∷ gs) same all =
    let both = first_places f g fs gs same in
    let leaf : g.leaf ≡ f.leaf = ap (λ (p : TablePlace). p.leaf) both.0 in
    let table : g.table ≡ f.table = ap (λ (p : TablePlace). p.table) both.0 in
    ((subst (λ n. n < leaf_count fleet) (sym leaf) all.0.0, subst (λ n. n < length fleet.names) (sym table) all.0.1), followers_stay fleet fs gs both.1 all.1)
