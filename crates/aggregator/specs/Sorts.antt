-- The list of each reply.
use Rattle.std.specs.Prelude.{◌≡◌, ℕ, suc, ◌≤◌, List, [], ◌∷◌, ◌++◌, map, ⊤}
use Rattle.std.specs.List.{range_with_len}
use Rattle.std.specs.List.Sorted.{IsPermutation}
use Rattle.leaf_table.specs.declared.replies.Reply.{Reply}
use Rattle.leaf_table.specs.declared.replies.Reply.TheVariants as told
use Rattle.aggregator.specs.declared.lists.Named.{Named}
use Rattle.aggregator.specs.declared.fanned.Fanned.{Fanned}

-- a leaf, with the number of its entry
abbrev pub with_number : ℕ → ℕ → Named
with_number leaf number = record { leaf = leaf; number = number }

-- a leaf is named if it replied with groups
abbrev pub named_of : ℕ → Reply → List Named
named_of leaf (told.Groups number gs) = with_number leaf number ∷ []
named_of leaf _ = []

-- a leaf is among the shut if its table was shut
abbrev pub shut_of : ℕ → Reply → List Named
shut_of leaf (told.Shut number) = with_number leaf number ∷ []
shut_of leaf _ = []

-- a leaf is among the starved if it ran out of memory
abbrev pub starved_of : ℕ → Reply → List Named
starved_of leaf (told.NoMemory number) = with_number leaf number ∷ []
starved_of leaf _ = []

-- a leaf is among the worn if its seat is worn
abbrev pub worn_of : ℕ → Reply → List ℕ
worn_of leaf told.Worn = leaf ∷ []
worn_of leaf _ = []

-- what the leaves from `leaf` on give to a list, in their order
abbrev pub by_leaf : {X : Type 0} → (ℕ → Reply → List X) → ℕ → List Reply → List X
by_leaf gives leaf [] = []
by_leaf gives leaf (reply ∷ replies) = gives leaf reply ++ by_leaf gives (suc leaf) replies

-- each leaf is in the list of its reply and in no other, and each list is in the order of the leaves
pub record Sorts (replies : List Reply) (f : Fanned) : Type 0 where
  pub named : f.named ≡ by_leaf named_of 0 replies
  pub shut : f.shut ≡ by_leaf shut_of 0 replies
  pub starved : f.starved ≡ by_leaf starved_of 0 replies
  pub worn : f.worn ≡ by_leaf worn_of 0 replies

-- the leaves of all lists
abbrev pub leaves_in : Fanned → List ℕ
leaves_in f = map (λ (n : Named). n.leaf) f.named ++ (map (λ (n : Named). n.leaf) f.shut ++ (map (λ (n : Named). n.leaf) f.starved ++ f.worn))

-- the numbers strictly ascend, and are at least `low`
abbrev pub AscendsFrom : {X : Type 0} → (X → ℕ) → ℕ → List X → Type 0
AscendsFrom number low [] = ⊤
AscendsFrom number low (x ∷ xs) = (low ≤ number x) × AscendsFrom number (suc (number x)) xs

-- each of `count` leaves is in exactly one list, and each list ascends
pub record Divides (count : ℕ) (f : Fanned) : Type 0 where
  pub once : IsPermutation (leaves_in f) (range_with_len 0 count)
  pub named : AscendsFrom (λ (n : Named). n.leaf) 0 f.named
  pub shut : AscendsFrom (λ (n : Named). n.leaf) 0 f.shut
  pub starved : AscendsFrom (λ (n : Named). n.leaf) 0 f.starved
  pub worn : AscendsFrom (λ (n : ℕ). n) 0 f.worn

-- one leaf was sorted
pub record PutsOne (leaf : ℕ) (reply : Reply) (f g : Fanned) : Type 0 where
  pub named : g.named ≡ f.named ++ named_of leaf reply
  pub shut : g.shut ≡ f.shut ++ shut_of leaf reply
  pub starved : g.starved ≡ f.starved ++ starved_of leaf reply
  pub worn : g.worn ≡ f.worn ++ worn_of leaf reply
