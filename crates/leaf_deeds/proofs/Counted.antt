-- Steps of a drain, one behind another, and how many may be made.
use Rattle.std.proofs.Common.{◌≡◌, ℕ, zero, suc, ◌+◌, ◌<◌, ◌≤◌, ◌∙◌, true, List, [], ◌++◌, Option, Some, None, append_assoc, append-nil, refl, sym, ap, subst, arith}
use Rattle.leaf_words.specs.declared.note.Note.{Note}
use Rattle.transcript.specs.Life.{Copying, MayMake, StageOfDrain, StepOfDrain, StepsOfDrain}
use Rattle.leaf_deeds.specs.Steps.{AreLeft, Spends}

-- ---- the steps that are made

module _ (tables copy : ℕ) where
  -- one step more
  pub steps_more : (n : ℕ) (s : StageOfDrain) (a : List Note) (t : StageOfDrain) (b : List Note) (u : StageOfDrain) → StepsOfDrain tables copy n s a t → StepOfDrain tables copy t b u → StepsOfDrain tables copy (suc n) s (a ++ b) u
  steps_more zero s a t b u steps step =
      (b, [], u, subst (λ (v : StageOfDrain). StepOfDrain tables copy v b u) steps.1 step, (refl, refl), ap (λ (ns : List Note). ns ++ b) steps.0 ∙ sym (append-nil b))
  steps_more (suc n) s a t b u steps step =
      (steps.0, steps.1 ++ b, steps.2, steps.3, steps_more n steps.2 steps.1 t b u steps.4 step, ap (λ (ns : List Note). ns ++ b) steps.5 ∙ append_assoc steps.0 steps.1 b)

  -- those of the copy, behind its plan
  pub copies_on : (n k : ℕ) (s : StageOfDrain) (a : List Note) → k < copy → StepsOfDrain tables copy n s a (Copying 0) → StepsOfDrain tables copy (n + k) s a (Copying k)
  copies_on n zero s a below steps =
      let size : n ≡ n + 0 = omega arith in
      subst (λ (i : ℕ). StepsOfDrain tables copy i s a (Copying 0)) size steps
  copies_on n (suc k) s a below steps =
      let before = copies_on n k s a (omega (arith, below)) steps in
      let size : suc (n + k) ≡ n + suc k = omega arith in
      subst (λ (i : ℕ). StepsOfDrain tables copy i s a (Copying (suc k))) size
      (subst (λ (ns : List Note). StepsOfDrain tables copy (suc (n + k)) s ns (Copying (suc k))) (append-nil a)
      (steps_more (n + k) s a (Copying k) [] (Copying (suc k)) before (below, refl, refl)))

-- ---- how many may be made

pub none_made : (stop : Option ℕ) → AreLeft stop 0 stop
none_made None = tt
none_made (Some stop) = omega arith

-- one step more
pub spent : (stop left rest : Option ℕ) (made : ℕ) → AreLeft stop made left → Spends left true rest → AreLeft stop (suc made) rest
spent None None None made a b = tt
spent None None (Some rest) made a b = absurd b
spent None (Some left) rest made a b = absurd a
spent (Some stop) None rest made a b = absurd a
spent (Some stop) (Some left) None made a b = absurd b
spent (Some stop) (Some left) (Some rest) made a b = omega (arith, a, b)

-- as many may be made as were
pub may_make : (stop left : Option ℕ) (made : ℕ) → AreLeft stop made left → MayMake stop made
may_make None left made a = tt
may_make (Some stop) None made a = absurd a
may_make (Some stop) (Some left) made a = omega (arith, a)

-- and those that may be made of what is left
pub may_make_more : (stop left : Option ℕ) (made more n : ℕ) → AreLeft stop made left → MayMake left more → n ≤ made + more → MayMake stop n
may_make_more None left made more n a may few = tt
may_make_more (Some stop) None made more n a may few = absurd a
may_make_more (Some stop) (Some left) made more n a may few = omega (arith, a, may, few)

-- all are made, once all that were left are
pub all_made : (stop left : Option ℕ) (made more n : ℕ) → AreLeft stop made left → left ≡ Some more → n ≡ made + more → stop ≡ Some n
all_made stop left made more n a e size = by stop (subst (λ (l : Option ℕ). AreLeft stop made l) e a)
  where
    by : (s : Option ℕ) → AreLeft s made (Some more) → s ≡ Some n
    by None a = absurd a
    by (Some s) a = ap (λ (k : ℕ). Some k) (sym a ∙ sym size)
