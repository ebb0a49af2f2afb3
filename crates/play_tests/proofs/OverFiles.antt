-- Berths over files, and what a play leaves of them.
use Rattle.std.proofs.Common.{◌≡◌, ◌∙◌, ℕ, List, [], ◌∷◌, ◌++◌, length, Option, Some, None, subst, arith}
use Rattle.std.specs.Prelude.{IfSome, slice_get}
use Rattle.std.specs.List.{AllByRecursion}
use Rattle.std.specs.Option.{option_to_list}
use Rattle.berth_face.specs.Berth.{Meaning, OpenedOn}
use Rattle.berth_files.specs.Files.{MeansFiles}
use Rattle.transcript_leaf.proofs.Lists.{element_at, within}
use Rattle.play.proofs.Lists.{all_each, each_at}
use Rattle.play_again.specs.Over.{HasBase, HasBaseSince, HaveBasesAgain}
use Rattle.play_tests.specs.Fresh.{IsFresh}

-- a berth over files that were opened on a region and a disk was opened on them
pub opened_over : (region disk : List ℕ) (files berth : Meaning) → MeansFiles files berth → OpenedOn region disk files → OpenedOn region disk berth
opened_over region disk files berth means opened = record {
  tells = means.tells ∙ opened.tells;
  held = means.held ∙ opened.held;
  pairs = λ p left. opened.pairs p (subst (λ (t : ℕ). files.leaves t p) means.clock ((means.leaves berth.clock p).0 left));
}

-- on files without bytes
pub opened_empty : (region disk : List ℕ) (files berth : Meaning) → region ≡ [] → disk ≡ [] → MeansFiles files berth → OpenedOn region disk files → OpenedOn [] [] berth
opened_empty region disk files berth no_region no_disk means opened =
    opened_over [] [] files berth means (subst (λ (r : List ℕ). OpenedOn r [] files) no_region (subst (λ (d : List ℕ). OpenedOn region d files) no_disk opened))

-- what holds where there is one holds of it
pub holds_of : {B : Type 0} (P : B → Type 0) (o : Option B) (b : B) → o ≡ Some b → IfSome o P → P b
holds_of {B} P o b is holds = subst (λ (x : Option B). IfSome x P) is holds

module _ {B : Type 0} (meaning : B → Meaning) where
  pub base_at : (berths : List B) → AllByRecursion (λ b. IsFresh (meaning b)) berths → (leaf : ℕ) (b : B) → slice_get berths leaf ≡ Some b → HasBase (meaning b)
  base_at berths fresh leaf b at = (each_at (λ b. IsFresh (meaning b)) berths fresh leaf b at).0

  -- over fresh berths the run began at the first moment
  pub all_again : (olds news : List B) → length news ≡ length olds → AllByRecursion (λ b. IsFresh (meaning b)) olds → HaveBasesAgain meaning olds news → AllByRecursion (λ b. HasBaseSince 0 (meaning b)) news
  all_again olds news many fresh again = all_each (λ b. HasBaseSince 0 (meaning b)) news (λ leaf new now.
      let old = element_at olds leaf (omega (arith, within news leaf new now, many)) in
      let is = each_at (λ b. IsFresh (meaning b)) olds fresh leaf old.0 old.1 in
      subst (λ (n : ℕ). HasBaseSince n (meaning new)) is.1 (again leaf old.0 new old.1 now is.0))

-- what holds of each element holds of the last
pub all_last : {B : Type 0} (P : B → Type 0) (all rest : List B) (last : Option B) → all ≡ rest ++ option_to_list last → AllByRecursion P all → IfSome last P
all_last {B} P all rest last is holds = by rest last (subst (AllByRecursion P) is holds)
  where
    by : (xs : List B) (o : Option B) → AllByRecursion P (xs ++ option_to_list o) → IfSome o P
    by [] None holds = tt
    by [] (Some b) holds = holds.0
    by (x ∷ xs) o holds = by xs o holds.1
