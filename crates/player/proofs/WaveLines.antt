-- The lines of the waves of a plan.
use Rattle.std.proofs.Common.{◌≡◌, ℕ, zero, suc, ◌+◌, ◌<◌, List, [], ◌∷◌, ◌++◌, length, take, drop, Some, ap, ap₂, ◌∙◌, arith}
use Rattle.std.specs.Prelude.{min, max, slice_get}
use Rattle.std.specs.List.{AllByRecursion}
use Rattle.std.proofs.lemmas.List.{length-take}
use Rattle.rollover_plan.specs.Plan.{IsCutInWaves, IsPlan, share}
use Rattle.printed_lines.specs.declared.line.Line.{Line}
use Rattle.printed_lines.specs.declared.line.Line.TheVariants as line
use Rattle.printed_lines.specs.Lines.{IsOf}
use Rattle.player.specs.Rolled.{wave_lines}
use Rattle.player.proofs.Columns.{same_some}

-- the line of one wave more
pub waves_next : (number total : ℕ) (waves : List (List ℕ)) (i : ℕ) (wave : List ℕ) → slice_get waves i ≡ Some wave
    → wave_lines number total (take (suc i) waves) ≡ wave_lines number total (take i waves) ++ line.Wave (number + i) total wave ∷ []
waves_next number total [] i wave at = absurd cc
waves_next number total (w ∷ waves) zero wave at =
    let none : number ≡ number + 0 = omega arith in
    ap₂ (λ (n : ℕ) (v : List ℕ). line.Wave n total v ∷ []) none (same_some w wave at)
waves_next number total (w ∷ waves) (suc i) wave at =
    let next : suc number + i ≡ number + suc i = omega arith in
    ap (λ (ls : List Line). line.Wave number total w ∷ ls)
    (waves_next (suc number) total waves i wave at ∙ ap (λ (n : ℕ). wave_lines (suc number) total (take i waves) ++ line.Wave n total wave ∷ []) next)

pub waves_fit : (names : List (List ℕ)) (number total : ℕ) (waves : List (List ℕ)) → AllByRecursion (IsOf names) (wave_lines number total waves)
waves_fit names number total [] = tt
waves_fit names number total (wave ∷ waves) = (tt, waves_fit names (suc number) total waves)

-- each wave of a plan has a leaf
cut_some : (size : ℕ) (leaves : List ℕ) (waves : List (List ℕ)) → 0 < size → IsCutInWaves size leaves waves → AllByRecursion (λ (wave : List ℕ). 0 < length wave) waves
cut_some size leaves [] some cut = tt
cut_some size leaves (wave ∷ waves) some cut =
    let count : length wave ≡ min size (length leaves) = ap (λ (ls : List ℕ). length ls) cut.1 ∙ length-take size leaves in
    (omega (arith, some, cut.0, count), cut_some size (drop size leaves) waves some cut.2)

some_share : (machines most : ℕ) → 0 < machines → 0 < min machines (max 1 most)
some_share machines most some = omega (arith, some)

pub plan_some : (machines per_machine percent : ℕ) (plan : List (List ℕ)) → 0 < machines → IsPlan machines per_machine percent plan → AllByRecursion (λ (wave : List ℕ). 0 < length wave) plan
plan_some machines per_machine percent plan some is = cut_some (share machines per_machine percent) _ plan (some_share machines _ some) is
