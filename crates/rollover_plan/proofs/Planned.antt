-- What leaves in order, cut by the share, are a plan, do.
use Rattle.std.proofs.Common.{◌≡◌, ℕ, ◌*◌, ◌<◌, ◌≤◌, List, length, map, ap, ◌∙◌, subst, arith}
use Rattle.std.specs.List.{range_with_len}
use Rattle.std.proofs.lemmas.List.FromFn.{length-map-range_with_len}
use Rattle.rollover_plan.specs.Plan.{share, by_place, times, IsCutInWaves, IsFewest, RollsEachOnce}
use Rattle.rollover_plan.proofs.Turns.{leaf_at, by_turns}
use Rattle.rollover_plan.proofs.Cuts.{cut_joined, cut_few, cut_all, cut_count}
use Rattle.rollover_plan.proofs.Apart.{leaves_known, cut_apart}
use Rattle.rollover_plan.proofs.Once.{leaf_once}
use Rattle.rollover_plan.proofs.Fewest.{cut_fewest}

module _ (m p percent : ℕ) (machines : 0 < m) (places : 0 < p) (waves : List (List ℕ)) (cut : IsCutInWaves (share m p percent) (by_place m p) waves) where
  at_least_one : 0 < share m p percent
  at_least_one = omega arith

  at_most_all : share m p percent ≤ m
  at_most_all = omega arith

  whole : length (by_place m p) ≡ m * p
  whole = ap length (by_turns m p machines) ∙ length-map-range_with_len (leaf_at m p) 0 (m * p)

  cut_turns : IsCutInWaves (share m p percent) (map (leaf_at m p) (range_with_len 0 (m * p))) waves
  cut_turns = subst (λ leaves. IsCutInWaves (share m p percent) leaves waves) (by_turns m p machines) cut

  pub planned : RollsEachOnce m p percent waves
  planned = record {
    once = λ leaf below. ap (times leaf) (cut_joined (share m p percent) (by_place m p) waves cut) ∙ leaf_once m p leaf machines places below;
    known = cut_all (λ leaf. leaf < m * p) (share m p percent) (map (leaf_at m p) (range_with_len 0 (m * p))) waves cut_turns (leaves_known m p machines);
    few = cut_few (share m p percent) (by_place m p) waves cut;
    apart = cut_apart m p machines (share m p percent) at_most_all 0 (m * p) (omega arith) waves cut_turns;
  }

  pub planned_fewest : IsFewest (m * p) (share m p percent) waves
  planned_fewest = cut_fewest (m * p) (share m p percent) (by_place m p) waves whole at_least_one cut

  pub planned_count : length waves ≤ m * p
  planned_count = omega (arith, cut_count (share m p percent) (by_place m p) waves cut at_least_one, whole)
