-- What standing queries note of an item.
use Rattle.std.proofs.Common.{◌≡◌, ℕ, ◌<◌, Bool, true, false, List, [], ◌∷◌, length, map, get_or, Option, None, Some, refl, ap, ap₂, ◌∙◌, arith}
use Rattle.std.specs.Prelude.{IfSome, if◌then◌else◌}
use Rattle.std.proofs.lemmas.List.{get_or-map, length-map}
use Rattle.script_text.specs.declared.item.Item.{Item}
use Rattle.standing_feed.specs.declared.follower.Follower.{Follower}
use Rattle.standing_feed.specs.declared.meant.Meant.{Meant}
use Rattle.standing_feed.specs.Hearing.{TablePlace, meant_in}
use Rattle.standing_feed.specs.Following.{AreFor, CallsAt, calls_for, calls_in, meant_for, table_of, table_place_of}
use Rattle.standing_feed.specs.Sharing.{IsLike}

pub noted_for : (x : Item) (fs : List Follower) → AreFor (map (calls_for x) fs) fs
noted_for x [] = tt
noted_for x (f ∷ fs) = (one f.standing.stale, noted_for x fs)
  where
    one : (b : Bool) → IfSome (if b then None else Some (record { at = table_of f; calls = meant_in (table_place_of f) x })) (λ (c : CallsAt). c.at ≡ table_of f)
    one true = tt
    one false = refl

pub noted_calls : (x : Item) (fs : List Follower) → map calls_in (map (calls_for x) fs) ≡ map (meant_for x) fs
noted_calls x [] = refl
noted_calls x (f ∷ fs) = ap₂ (λ (c : List Meant) (cs : List (List Meant)). c ∷ cs) (one f.standing.stale) (noted_calls x fs)
  where
    one : (b : Bool) → calls_in (if b then None else Some (record { at = table_of f; calls = meant_in (table_place_of f) x })) ≡ (if b then [] else meant_in (table_place_of f) x)
    one true = refl
    one false = refl

-- what another of the same table noted
pub noted_like : (x : Item) (fs : List Follower) (noted : List (Option CallsAt)) (i : ℕ) (f : Follower) → noted ≡ map (calls_for x) fs → i < length fs → IsLike (get_or fs i f) f → get_or noted i None ≡ calls_for x f
noted_like x fs noted i f is h like =
    ap (λ (ns : List (Option CallsAt)). get_or ns i None) is
    ∙ (get_or-map (calls_for x) fs i f None h ∙ ap₂ by like.stale like.place)
  where
    by : Bool → TablePlace → Option CallsAt
    by stale p = if stale then None else Some (record { at = record { leaf = p.leaf; table = p.table }; calls = meant_in p x })

pub noted_within : (x : Item) (fs : List Follower) (noted : List (Option CallsAt)) (i : ℕ) → noted ≡ map (calls_for x) fs → i < length fs → i < length noted
noted_within x fs noted i is h = let same : length noted ≡ length fs = ap (λ (ns : List (Option CallsAt)). length ns) is ∙ length-map fs (calls_for x) in omega (arith, same, h)
