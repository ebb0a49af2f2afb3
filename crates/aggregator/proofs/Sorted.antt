-- The pass over the replies.
use Rattle.std.proofs.Common.{◌≡◌, ℕ, suc, ◌+◌, ◌*◌, ◌^◌, ◌≤◌, List, [], ◌∷◌, ◌++◌, length, refl, sym, ap, ◌∙◌, subst, arith}
use Rattle.std.specs.List.{AllByRecursion}
use Rattle.std.proofs.lemmas.List.{append-nil, append_assoc}
use Rattle.std.proofs.lemmas.List.Concat.{flat_map-append}
use Rattle.row_model.specs.declared.rows.Row.{Row}
use Rattle.leaf_model.specs.declared.queries.Query.{Query}
use Rattle.leaf_model.specs.Groups.{groups}
use Rattle.leaf_model.specs.declared.groups.Group.{Group}
use Rattle.group_table.specs.Joined.{IsWithin}
use Rattle.group_table.proofs.Within.{groups_grow}
use Rattle.leaf_table.specs.declared.replies.Reply.{Reply}
use Rattle.aggregator.specs.declared.lists.Named.{Named}
use Rattle.aggregator.specs.declared.fanned.Fanned.{Fanned}
use Rattle.aggregator.specs.Sorts.{named_of, shut_of, starved_of, worn_of, by_leaf, Sorts, PutsOne}
use Rattle.aggregator.specs.Partial.{rows_of_all}
use Rattle.aggregator.specs.Merges.{no_leaf, IsAnswer, IsOver, AreOver}

-- what so many leaves can give, one more can
pub still_within : (leaves : ℕ) (gs : List Group) → AllByRecursion (IsWithin (leaves * 2 ^ 40)) gs → AllByRecursion (IsWithin (leaves * 2 ^ 40 + 2 ^ 40)) gs
still_within leaves gs within = groups_grow (leaves * 2 ^ 40) (leaves * 2 ^ 40 + 2 ^ 40) gs (omega arith) within

-- What stands in a list, and what the replies that are left give to it.
pub record Collects {X : Type 0} (gives : ℕ → Reply → List X) (all : List Reply) (leaf : ℕ) (rest : List Reply) (xs : List X) : Type 0 where
  pub is : xs ++ by_leaf gives leaf rest ≡ by_leaf gives 0 all

-- the replies before this leaf are sorted and merged, and these are left
pub record Sorting (all : List Reply) (leaf : ℕ) (rest : List Reply) (f : Fanned) : Type 0 where
  pub named : Collects named_of all leaf rest f.named
  pub shut : Collects shut_of all leaf rest f.shut
  pub starved : Collects starved_of all leaf rest f.starved
  pub worn : Collects worn_of all leaf rest f.worn
  pub few : leaf + length rest ≤ 256
  pub answers : AllByRecursion IsAnswer rest
  pub within : AllByRecursion (IsWithin (leaf * 2 ^ 40)) f.groups
  pub over : (q : Query) (rows : ℕ → ℕ → List Row) → AreOver q rows 0 all → AreOver q rows leaf rest × (f.groups ≡ groups q (rows_of_all rows f.named))

one_more : {X : Type 0} (gives : ℕ → Reply → List X) (all : List Reply) (leaf : ℕ) (r : Reply) (rest : List Reply) (xs ys : List X)
    → Collects gives all leaf (r ∷ rest) xs → ys ≡ xs ++ gives leaf r → Collects gives all (leaf + 1) rest ys
one_more {X} gives all leaf r rest xs ys so_far is =
    let next : leaf + 1 ≡ suc leaf = omega arith in
    record {
      is = ap (λ (n : ℕ). ys ++ by_leaf gives n rest) next
          ∙ (ap (λ (zs : List X). zs ++ by_leaf gives (suc leaf) rest) is ∙ (append_assoc xs (gives leaf r) (by_leaf gives (suc leaf) rest) ∙ so_far.is));
    }

all_there : {X : Type 0} (gives : ℕ → Reply → List X) (all : List Reply) (leaf : ℕ) (xs : List X) → Collects gives all leaf [] xs → xs ≡ by_leaf gives 0 all
all_there gives all leaf xs so_far = sym (append-nil xs) ∙ so_far.is

-- at the beginning
pub sorting_begins : (all : List Reply) → length all ≤ 256 → AllByRecursion IsAnswer all → Sorting all 0 all no_leaf
sorting_begins all few answers = record {
  named = record { is = refl };
  shut = record { is = refl };
  starved = record { is = refl };
  worn = record { is = refl };
  few = omega (arith, few);
  answers = answers;
  within = tt;
  over = λ q rows over. (over, refl);
}

-- one reply more
pub sorting_goes_on : (all : List Reply) (leaf : ℕ) (r : Reply) (rest : List Reply) (f g : Fanned) → Sorting all leaf (r ∷ rest) f → PutsOne leaf r f g
    → AllByRecursion (IsWithin (leaf * 2 ^ 40 + 2 ^ 40)) g.groups
    → ((q : Query) (xs ys : List Row) → f.groups ≡ groups q xs → IsOver q ys r → g.groups ≡ groups q (xs ++ ys))
    → Sorting all (leaf + 1) rest g
sorting_goes_on all leaf r rest f g so_far puts within over =
    let few = so_far.few in
    let product : leaf * 2 ^ 40 + 2 ^ 40 ≡ (leaf + 1) * 2 ^ 40 = omega arith in
    let next : suc leaf ≡ leaf + 1 = omega arith in
    record {
      named = one_more named_of all leaf r rest f.named g.named so_far.named puts.named;
      shut = one_more shut_of all leaf r rest f.shut g.shut so_far.shut puts.shut;
      starved = one_more starved_of all leaf r rest f.starved g.starved so_far.starved puts.starved;
      worn = one_more worn_of all leaf r rest f.worn g.worn so_far.worn puts.worn;
      few = omega (arith, few);
      answers = so_far.answers.1;
      within = subst (λ (n : ℕ). AllByRecursion (IsWithin n) g.groups) product within;
      over = λ q rows all_over.
          let here = so_far.over q rows all_over in
          let row : Named → List Row = λ (n : Named). rows n.leaf n.number in (
            subst (λ (n : ℕ). AreOver q rows n rest) next here.0.1,
            over q (rows_of_all rows f.named) (rows_of_all rows (named_of leaf r)) here.1 here.0.0
                ∙ ap (groups q) (sym (ap (λ (ns : List Named). rows_of_all rows ns) puts.named ∙ flat_map-append row f.named (named_of leaf r))),
          );
    }

-- at the end
pub sorting_ends : (all : List Reply) (leaf : ℕ) (f : Fanned) → Sorting all leaf [] f → Sorts all f
sorting_ends all leaf f so_far = record {
  named = all_there named_of all leaf f.named so_far.named;
  shut = all_there shut_of all leaf f.shut so_far.shut;
  starved = all_there starved_of all leaf f.starved so_far.starved;
  worn = all_there worn_of all leaf f.worn so_far.worn;
}
