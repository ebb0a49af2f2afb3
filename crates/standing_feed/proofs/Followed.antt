-- Standing queries that follow one after another.
use Rattle.std.proofs.Common.{◌≡◌, ℕ, zero, suc, ◌+◌, ◌<◌, ◌≤◌, List, [], ◌∷◌, ◌++◌, length, map, take, drop, set, get_or, refl, sym, ap, ◌∙◌, subst, arith, take-append-drop}
use Rattle.std.proofs.Math.Seq.{map-set_same}
use Rattle.std.proofs.lemmas.List.{set-get_or}
use Rattle.std.specs.Prelude.{Bool, true, false, Option, None, Some, IsPermutation, MatchBool}
use Rattle.std.specs.List.{AllZip}
use Rattle.printed_lines.specs.declared.line.Line.{Line}
use Rattle.standing_feed.specs.declared.follower.Follower.{Follower}
use Rattle.standing_feed.specs.declared.heard.Heard.{Heard}
use Rattle.standing_feed.specs.declared.meant.Meant.{Meant}
use Rattle.standing_feed.specs.declared.place.TableAt.{TableAt}
use Rattle.standing_feed.specs.Hearing.{heard as heard_of, named}
use Rattle.standing_feed.specs.Following.{AreFor, CallsAt, FollowAll, Follows, HeedsAll, HeedsInOrder, IsFor, calls_in, table_place_of}
use Rattle.standing_feed.specs.Sharing.{FeedsNext, HeedsNext, IsHeardBy}

next : (n : ℕ) → suc n ≡ n + 1
next n = omega arith

-- the one in this place, and then those behind it
follow_next : (calls : List Meant) (notes : List (List Meant)) (lines : List Line) (xs : List Follower) (i : ℕ) (old new : Follower) (news : List Follower)
    → i < length xs → old ≡ get_or xs i old → Follows calls lines old new
    → FollowAll notes lines (drop (suc i) (set xs i new)) news
    → FollowAll (calls ∷ notes) lines (drop i xs) (new ∷ news)
follow_next calls notes lines [] i old new news h is one others = absurd (omega arith)
follow_next calls notes lines (x ∷ xs) zero old new news h is one others = (subst (λ f. Follows calls lines f new) is one, others)
follow_next calls notes lines (x ∷ xs) (suc i) old new news h is one others = follow_next calls notes lines xs i old new news (omega arith) is one others

set_at_end : {X : Type 0} (xs : List X) (i : ℕ) (y : X) (further : List X) → i < length xs → take (suc i) (set xs i y) ++ further ≡ take i xs ++ y ∷ further
set_at_end [] i y further h = absurd (omega arith)
set_at_end (x ∷ xs) zero y further h = refl
set_at_end (x ∷ xs) (suc i) y further h = ap (λ rest. x ∷ rest) (set_at_end xs i y further (omega arith))

-- a loop's step, where those behind go on from what was followed
follow_more : (lines : List Line) (P : List Follower → Type 0) (xs : List Follower) (i : ℕ) (old new : Follower) (calls : List Meant) (others : List (List Meant))
    → ((news : List Follower) → FollowAll (calls ∷ others) lines (drop i xs) news → P (take i xs ++ news))
    → i < length xs → old ≡ get_or xs i old → Follows calls lines old new
    → (news : List Follower) → FollowAll others lines (drop (i + 1) (set xs i new)) news → P (take (i + 1) (set xs i new) ++ news)
follow_more lines P xs i old new calls others so_far h is one =
    subst (λ n. (news : List Follower) → FollowAll others lines (drop n (set xs i new)) news → P (take n (set xs i new) ++ news)) (next i)
    (λ news behind. subst P (sym (set_at_end xs i new news h)) (so_far (new ∷ news) (follow_next calls others lines xs i old new news h is one behind)))

follow_end : (lines : List Line) (P : List Follower → Type 0) (xs : List Follower) (i : ℕ) → ((news : List Follower) → FollowAll [] lines (drop i xs) news → P (take i xs ++ news)) → P xs
follow_end lines P xs i so_far = subst P (take-append-drop i xs) (so_far (drop i xs) refl)

-- ---- those that were fed, and those that are left

-- by the calls that they noted
abbrev pub FollowNoted : List Line → List (Option CallsAt) → List Follower → List Follower → Type 0
FollowNoted lines noted olds news = FollowAll (map calls_in noted) lines olds news

-- the first of the followers were fed the entries of their tables, and these are left
pub record FollowedSome (lines : List Line) (noted : List (Option CallsAt)) (olds xs : List Follower) (i : ℕ) (entries : List (Option (List Heard))) : Type 0 where
  pub places : map table_place_of xs ≡ map table_place_of olds
  pub left : List (Option CallsAt)
  pub heard : AllZip (IsHeardBy lines) left entries
  pub are_for : AreFor left (drop i xs)
  pub so_far : (news : List Follower) → FollowNoted lines left (drop i xs) news → FollowNoted lines noted olds (take i xs ++ news)

pub followed_none : (lines : List Line) (noted : List (Option CallsAt)) (olds : List Follower) (entries : List (Option (List Heard)))
    → AllZip (IsHeardBy lines) noted entries → AreFor noted olds → FollowedSome lines noted olds olds 0 entries
followed_none lines noted olds entries heard are_for = record { places = refl; left = noted; heard = heard; are_for = are_for; so_far = λ news all. all }

for_within : (n : Option CallsAt) (left : List (Option CallsAt)) (xs : List Follower) (i : ℕ) → AreFor (n ∷ left) (drop i xs) → i < length xs
for_within n left [] zero are = absurd are
for_within n left [] (suc i) are = absurd are
for_within n left (x ∷ xs) zero are = omega arith
for_within n left (x ∷ xs) (suc i) are = let inside = for_within n left xs i are in omega (arith, inside)

for_here : (n : Option CallsAt) (left : List (Option CallsAt)) (xs : List Follower) (i : ℕ) (f : Follower) → AreFor (n ∷ left) (drop i xs) → f ≡ get_or xs i f → IsFor n f
for_here n left [] zero f are is = absurd are
for_here n left [] (suc i) f are is = absurd are
for_here n left (x ∷ xs) zero f are is = subst (IsFor n) (sym is) are.0
for_here n left (x ∷ xs) (suc i) f are is = for_here n left xs i f are is

for_others : (n : Option CallsAt) (left : List (Option CallsAt)) (xs : List Follower) (i : ℕ) (g : Follower) → AreFor (n ∷ left) (drop i xs) → AreFor left (drop (suc i) (set xs i g))
for_others n left [] zero g are = absurd are
for_others n left [] (suc i) g are = absurd are
for_others n left (x ∷ xs) zero g are = are.1
for_others n left (x ∷ xs) (suc i) g are = for_others n left xs i g are

follows_table : (lines : List Line) (n : Option CallsAt) (entries : Option (List Heard)) (f g : Follower) → IsHeardBy lines n entries → IsFor n f → HeedsNext lines entries f g → Follows (calls_in n) lines f g
follows_table lines None None f g heard at fed = fed
follows_table lines None (Some hs) f g heard at fed = absurd heard
follows_table lines (Some c) None f g heard at fed = absurd heard
follows_table lines (Some c) (Some hs) f g heard at fed = record { place = fed.0; hears = by f.standing.stale fed.1 }
  where
    by : (b : Bool) → MatchBool b (g ≡ f) (HeedsAll f.standing hs g.standing) → MatchBool b (g ≡ f) (HeedsInOrder f.standing (heard_of (table_place_of f) c.calls lines) g.standing)
    by true same = same
    by false heeds = record {
      in_order = hs;
      same = subst (λ (at : TableAt). IsPermutation (heard_of (named at f.standing.query.table) c.calls lines) hs) at (heard.same f.standing.query.table);
      ascend = heard.ascend;
      heeds = heeds;
    }

-- the next one is fed, or was declared later
pub followed_next : (lines : List Line) (noted : List (Option CallsAt)) (olds xs : List Follower) (i : ℕ) (entries rest : List (Option (List Heard))) (f g : Follower)
    → FollowedSome lines noted olds xs i entries → i < length xs → f ≡ get_or xs i f → table_place_of g ≡ table_place_of f → FeedsNext lines entries rest f g
    → FollowedSome lines noted olds (set xs i g) (i + 1) rest
followed_next lines noted olds xs i entries rest f g some inside is place feeds = by some.left entries some.heard some.are_for some.so_far feeds
  where
    places : map table_place_of (set xs i g) ≡ map table_place_of olds
    places = map-set_same table_place_of xs i g f (place ∙ ap table_place_of is) ∙ some.places

    by : (left : List (Option CallsAt)) (entries : List (Option (List Heard))) → AllZip (IsHeardBy lines) left entries → AreFor left (drop i xs)
        → ((news : List Follower) → FollowNoted lines left (drop i xs) news → FollowNoted lines noted olds (take i xs ++ news))
        → FeedsNext lines entries rest f g → FollowedSome lines noted olds (set xs i g) (i + 1) rest
    by [] [] heard are so_far feeds =
        let same : set xs i g ≡ xs = ap (λ (x : Follower). set xs i x) (feeds.1 ∙ is) ∙ set-get_or xs i f in
        record {
          places = places;
          left = [];
          heard = subst (λ (es : List (Option (List Heard))). AllZip (IsHeardBy lines) [] es) (sym feeds.0) tt;
          are_for = tt;
          so_far = λ news behind.
              subst (FollowNoted lines noted olds) (sym (ap (λ (more : List Follower). take (i + 1) (set xs i g) ++ more) behind ∙ (take-append-drop (i + 1) (set xs i g) ∙ same)))
              (follow_end lines (FollowNoted lines noted olds) xs i so_far);
        }
    by [] (e ∷ others) heard are so_far feeds = absurd heard
    by (n ∷ left) [] heard are so_far feeds = absurd heard
    by (n ∷ left) (e ∷ others) heard are so_far feeds = record {
      places = places;
      left = left;
      heard = subst (λ (es : List (Option (List Heard))). AllZip (IsHeardBy lines) left es) (sym feeds.0) heard.1;
      are_for = subst (λ (k : ℕ). AreFor left (drop k (set xs i g))) (next i) (for_others n left xs i g are);
      so_far = follow_more lines (FollowNoted lines noted olds) xs i f g (calls_in n) (map calls_in left) so_far inside is (follows_table lines n e f g heard.0 (for_here n left xs i f are is) feeds.1);
    }

pub followed_all : (lines : List Line) (noted : List (Option CallsAt)) (olds xs : List Follower) (i : ℕ) (entries : List (Option (List Heard)))
    → FollowedSome lines noted olds xs i entries → length xs ≤ i → FollowNoted lines noted olds xs
followed_all lines noted olds xs i entries some past = by some.left some.are_for some.so_far
  where
    by : (left : List (Option CallsAt)) → AreFor left (drop i xs) → ((news : List Follower) → FollowNoted lines left (drop i xs) news → FollowNoted lines noted olds (take i xs ++ news)) → FollowNoted lines noted olds xs
    by [] are so_far = follow_end lines (FollowNoted lines noted olds) xs i so_far
    by (n ∷ left) are so_far = let inside = for_within n left xs i are in absurd (omega (arith, inside, past))
