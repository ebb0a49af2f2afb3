-- Histories of the leaves of a fleet as somebody's seats have seen them: those of one leaf, and how they grow while who
-- holds what stays.
use Rattle.std.proofs.Common.{◌≡◌, ℕ, zero, suc, ◌≤◌, Bool, true, false, List, [], ◌∷◌, ◌++◌, length, refl, sym, ap, subst, ◌∙◌, arith, Some}
use Rattle.std.specs.Prelude.{slice_get, slice_set, nat_lt}
use Rattle.std.proofs.lemmas.Bool.{ltb-true, ltb-false}
use Rattle.std.proofs.lemmas.List.{append-nil, append_assoc}
use Rattle.leaf_history.specs.History.{Entry}
use Rattle.leaf_moves.specs.Holds.{GoOn, Hold, base_state_at, base_states_in, histories_of, seen_in}
use Rattle.transcript_leaf.specs.Session.{AreSame}
use Rattle.transcript_leaf.proofs.Lists.{element_at, length_set, same_some}
use Rattle.transcript_leaf.proofs.Terms.{Grows}
use Rattle.transcript_fleet.proofs.Lists.{also_at, one_at, touched_each}

-- entries with more behind them
abbrev pub Longer : List Entry → List Entry → Type 0
Longer es fs = (more : List Entry) × (fs ≡ es ++ more)

pub longer_still : (es fs gs : List Entry) → Longer es fs → Longer fs gs → Longer es gs
longer_still es fs gs first then = (
  first.0 ++ then.0,
  then.1 ∙ (ap (λ (hs : List Entry). hs ++ then.0) first.1 ∙ append_assoc es first.0 then.0),
)

-- each has seen what was seen before at its place, and maybe more
pub record AllGrow {B : Type 0} (xs ys : List (Hold B)) : Type 0 where
  pub count : length ys ≡ length xs
  pub each : (leaf : ℕ) (x y : Hold B) → slice_get xs leaf ≡ Some x → slice_get ys leaf ≡ Some y → Grows x y

-- and holds the same as before
pub record Becomes {B : Type 0} (xs ys : List (Hold B)) : Type 0 where
  pub grow : AllGrow xs ys
  pub same : (leaf : ℕ) (x y : Hold B) → slice_get xs leaf ≡ Some x → slice_get ys leaf ≡ Some y → AreSame x y

module _ {B : Type 0} where
  -- ---- one leaf

  pub histories_here : (xs : List (Hold B)) (leaf : ℕ) (x : Hold B) (table : ℕ) → slice_get xs leaf ≡ Some x → histories_of xs leaf table ≡ seen_in x table
  histories_here [] leaf x table at = absurd cc
  histories_here (y ∷ ys) zero x table at = ap (λ (z : Hold B). seen_in z table) (same_some y x at)
  histories_here (y ∷ ys) (suc leaf) x table at = histories_here ys leaf x table at

  -- there are none of a leaf that the fleet does not have
  pub no_histories : (xs : List (Hold B)) (leaf table : ℕ) → length xs ≤ leaf → histories_of xs leaf table ≡ []
  no_histories [] leaf table h = refl
  no_histories (x ∷ xs) zero table h = absurd (omega (arith, h))
  no_histories (x ∷ xs) (suc leaf) table h = no_histories xs leaf table (omega (arith, h))

  pub base_states_here : (xs : List (Hold B)) (leaf : ℕ) (x : Hold B) (table : ℕ) → slice_get xs leaf ≡ Some x → base_states_in xs leaf table ≡ base_state_at x.tables table
  base_states_here [] leaf x table at = absurd cc
  base_states_here (y ∷ ys) zero x table at = ap (λ (z : Hold B). base_state_at z.tables table) (same_some y x at)
  base_states_here (y ∷ ys) (suc leaf) x table at = base_states_here ys leaf x table at

  -- histories that go on from all go on from each
  pub goes_on_here : (xs : List (Hold B)) (leaf : ℕ) (x : Hold B) (histories : ℕ → ℕ → List Entry) → slice_get xs leaf ≡ Some x → GoOn xs histories
      → (table : ℕ) → Longer (seen_in x table) (histories leaf table)
  goes_on_here xs leaf x histories at on table =
      let g = on leaf table in
      (g.0, g.1 ∙ ap (λ (es : List Entry). es ++ g.0) (histories_here xs leaf x table at))

  -- and those that go on from each go on from all
  pub goes_on_all : (xs : List (Hold B)) (histories : ℕ → ℕ → List Entry)
      → ((leaf : ℕ) (x : Hold B) → slice_get xs leaf ≡ Some x → (table : ℕ) → Longer (seen_in x table) (histories leaf table)) → GoOn xs histories
  goes_on_all xs histories each leaf table = by (nat_lt leaf (length xs)) refl
    where
      by : (b : Bool) → nat_lt leaf (length xs) ≡ b → Longer (histories_of xs leaf table) (histories leaf table)
      by true e =
          let x = element_at xs leaf (ltb-true leaf (length xs) e) in
          let longer = each leaf x.0 x.1 table in
          (longer.0, longer.1 ∙ ap (λ (es : List Entry). es ++ longer.0) (sym (histories_here xs leaf x.0 table x.1)))
      by false e = (histories leaf table, ap (λ (es : List Entry). es ++ histories leaf table) (sym (no_histories xs leaf table (ltb-false leaf (length xs) e))))

  -- those that go on from what is behind go on from what was before
  pub went_back : {xs ys : List (Hold B)} (histories : ℕ → ℕ → List Entry) → AllGrow xs ys → GoOn ys histories → GoOn xs histories
  went_back {xs} {ys} histories grow on = goes_on_all xs histories
      (λ leaf x at table.
      let y = also_at xs ys leaf x grow.count at in
      longer_still (seen_in x table) (seen_in y.0 table) (histories leaf table) (grow.each leaf x y.0 at y.1 table) (goes_on_here ys leaf y.0 histories y.1 on table))

  -- ---- from one moment to another

  pub grows_self : (x : Hold B) → Grows x x
  grows_self x place = ([], sym (append-nil (seen_in x place)))

  pub grows_still : (x y z : Hold B) → Grows x y → Grows y z → Grows x z
  grows_still x y z first then place = longer_still (seen_in x place) (seen_in y place) (seen_in z place) (first place) (then place)

  pub same_self : (x : Hold B) → AreSame x x
  same_self x = record { ids = λ place id. ((λ o. o), (λ o. o)); held = refl }

  pub same_still : (x y z : Hold B) → AreSame x y → AreSame y z → AreSame x z
  same_still x y z first then = record {
    ids = λ place id. ((λ o. (then.ids place id).0 ((first.ids place id).0 o)), (λ o. (first.ids place id).1 ((then.ids place id).1 o)));
    held = first.held ∙ then.held;
  }

  pub becomes_self : {xs : List (Hold B)} → Becomes xs xs
  becomes_self {xs} = record {
    grow = record {
      count = refl;
      each = λ leaf x y at_x at_y. subst (λ (z : Hold B). Grows x z) (one_at xs leaf x y at_x at_y) (grows_self x);
    };
    same = λ leaf x y at_x at_y. subst (λ (z : Hold B). AreSame x z) (one_at xs leaf x y at_x at_y) (same_self x);
  }

  all_grow_still : {xs ys zs : List (Hold B)} → AllGrow xs ys → AllGrow ys zs → AllGrow xs zs
  all_grow_still {xs} {ys} {zs} first then = record {
    count = then.count ∙ first.count;
    each = λ leaf x z at_x at_z.
        let y = also_at xs ys leaf x first.count at_x in
        grows_still x y.0 z (first.each leaf x y.0 at_x y.1) (then.each leaf y.0 z y.1 at_z);
  }

  pub becomes_still : {xs ys zs : List (Hold B)} → Becomes xs ys → Becomes ys zs → Becomes xs zs
  becomes_still {xs} {ys} {zs} first then = record {
    grow = all_grow_still first.grow then.grow;
    same = λ leaf x z at_x at_z.
        let y = also_at xs ys leaf x first.grow.count at_x in
        same_still x y.0 z (first.same leaf x y.0 at_x y.1) (then.same leaf y.0 z y.1 at_z);
  }

  -- one leaf is touched
  pub touched : (xs : List (Hold B)) (here : ℕ) (x y : Hold B) → slice_get xs here ≡ Some x → Grows x y × AreSame x y → Becomes xs (slice_set xs here y)
  touched xs here x y at on = record {
    grow = record {
      count = length_set xs here y;
      each = λ leaf a b at_a at_b. touched_each (λ (v w : Hold B). Grows v w) xs here x y at on.0 grows_self leaf a b at_a at_b;
    };
    same = λ leaf a b at_a at_b. touched_each (λ (v w : Hold B). AreSame v w) xs here x y at on.1 same_self leaf a b at_a at_b;
  }
