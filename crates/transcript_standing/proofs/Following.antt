-- Standing queries follow the items of a run, one after another.
use Rattle.std.proofs.Common.{◌≡◌, ℕ, ◌<◌, List, [], ◌∷◌, ◌++◌, refl, sym, ap, subst, ◌∙◌, arith, length}
use Rattle.std.specs.Prelude.{◌-◌, int_le, take, true}
use Rattle.row_model.specs.declared.rows.Row.{Row}
use Rattle.leaf_model.specs.Content.{Contents}
use Rattle.std.specs.List.{AllByRecursion}
use Rattle.std.proofs.lemmas.List.{append-nil}
use Rattle.leaf_model.specs.Groups.{groups}
use Rattle.standing_query.specs.Spread.{spread}
use Rattle.leaf_history.specs.History.{Entry, after, contents_held}
use Rattle.script_text.specs.declared.fleet.FleetShape.{FleetShape}
use Rattle.standing_feed.specs.declared.follower.Follower.{Follower}
use Rattle.script_text.specs.declared.command.Command.{Command}
use Rattle.script_text.specs.declared.command.Command.TheVariants as command
use Rattle.script_text.specs.Commands.{leaf_count}
use Rattle.transcript.specs.Pieces.{Piece, PlayedItem, One, Burst}
use Rattle.transcript.specs.Histories.{BaseState}
use Rattle.transcript_standing.specs.Followed.{AreFollowers, AreTimes, DoesItself, FollowedAll, FollowsItem, IsFollower, TellsItself, held_before}
use Rattle.transcript_standing.proofs.Lists.{each_at}
use Rattle.transcript_standing.specs.Laws.{FollowOn, FollowToEnd, FollowToStop}

module _ (fleet : FleetShape) (base_states : ℕ → ℕ → BaseState) (histories : ℕ → ℕ → List Entry) where
  one_more : (items : List PlayedItem) (x : PlayedItem) (olds news behind : List Follower) → FollowedAll fleet base_states histories items olds news
      → FollowsItem fleet base_states histories x news behind → FollowedAll fleet base_states histories (items ++ x ∷ []) olds behind
  one_more [] x olds news behind all step = (behind, subst (λ (fs : List Follower). FollowsItem fleet base_states histories x fs behind) all step, refl)
  one_more (y ∷ items) x olds news behind all step = (all.0, all.1, one_more items x all.0 news behind all.2 step)

pub follow_on : FollowOn
follow_on fleet base_states histories items x olds news behind all step = one_more fleet base_states histories items x olds news behind all step

pub follow_to_end : FollowToEnd
follow_to_end fleet base_states histories items olds news all = record {
  whole = items;
  last = [];
  between = news;
  items_are = sym (append-nil items);
  followed = all;
  behind = tt;
  one = omega arith;
}

pub follow_to_stop : FollowToStop
follow_to_stop fleet base_states histories items x olds news behind all itself = record {
  whole = items;
  last = x ∷ [];
  between = news;
  items_are = refl;
  followed = all;
  behind = ((behind, itself), tt);
  one = omega arith;
}

-- ---- what the tables began from

-- two say the same of each table of the fleet
abbrev pub SameBaseStates : FleetShape → (ℕ → ℕ → BaseState) → (ℕ → ℕ → BaseState) → Type 0
SameBaseStates fleet f g = (leaf table : ℕ) → leaf < leaf_count fleet → table < length fleet.names → f leaf table ≡ g leaf table

module _ (fleet : FleetShape) (f g : ℕ → ℕ → BaseState) (histories : ℕ → ℕ → List Entry) (same : SameBaseStates fleet f g) where
  tells_same : (standing : ℕ) (old new : Follower) (pieces : List Piece) → IsFollower fleet old → TellsItself fleet f histories standing old pieces new → TellsItself fleet g histories standing old pieces new
  tells_same standing old new pieces is (TellsItself.fresh told fresh are right stays) = TellsItself.fresh told fresh are right stays
  tells_same standing old new pieces is (TellsItself.made_fresh number gs told stale are asked right now) =
      let base_state : f old.leaf old.table ≡ g old.leaf old.table = same old.leaf old.table is.0 is.1 in
      let contents : held_before fleet f histories old number ≡ held_before fleet g histories old number =
      ap (λ (x : BaseState). contents_held (after x.founded x.base (take (number - 1) (histories old.leaf old.table)))) base_state in
      TellsItself.made_fresh number gs told stale are (record {
        times = subst (λ (c : Contents). AreTimes c.rows) contents asked.times;
        none_below = subst (λ (c : Contents). AllByRecursion (λ (row : Row). int_le c.horizon row.time ≡ true) c.rows) contents asked.none_below;
        are = asked.are ∙ ap (λ (c : Contents). groups (spread old.standing.query) c.rows) contents;
      }) right now
  tells_same standing old new pieces is (TellsItself.stays_stale asked why stale ask untold are now) = TellsItself.stays_stale asked why stale ask untold are now

  pub does_same : (x : PlayedItem) (olds news : List Follower) → AreFollowers fleet olds → DoesItself fleet f histories x olds news → DoesItself fleet g histories x olds news
  does_same (One p) olds news all does = by p.command does
    where
      by : (c : Command) → DoesItself fleet f histories (One (record { command = c; pieces = p.pieces })) olds news → DoesItself fleet g histories (One (record { command = c; pieces = p.pieces })) olds news
      by (command.Standing leaf q) d = record { leaf_is = d.leaf_is; table_is = d.table_is; pieces_are = d.pieces_are; news_are = d.news_are }
      by (command.Tell standing) d = record {
        old = d.old;
        new = d.new;
        at = d.at;
        tells = tells_same standing d.old d.new p.pieces (each_at (IsFollower fleet) olds all standing d.old d.at) d.tells;
        news_are = d.news_are;
      }
      by _ d = d
  does_same (Burst lanes) olds news all does = does
