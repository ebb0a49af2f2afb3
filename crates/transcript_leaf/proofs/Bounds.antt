-- What no drain of a leaf says whose base is known.
use Rattle.std.proofs.Common.{◌≡◌, ℕ, zero, suc, ◌+◌, ◌<◌, ◌≤◌, ◌^◌, true, List, Option, Some, refl, ap, arith}
use Rattle.std.proofs.lemmas.Option.{same_Some}
use Rattle.leaf_words.specs.declared.note.Note.{Note}
use Rattle.printed_lines.specs.declared.line.Ending.TheVariants as ends
use Rattle.transcript.specs.Life.{Columns, Copying, Life, OfDrain, Progress, Shutting, StageOfDrain, StepOfDrain, StepsOfDrain}

-- ---- no room

pub much : (tables : ℕ) (columns : Columns) (stop : Option ℕ) (life : Life) (notes : List Note) (next : Life) → OfDrain true tables columns stop life notes ends.FaultRoom next → 2 ^ 25 ≤ columns.bulk
much tables columns stop life notes next h = h.2 refl

-- ---- steps

-- how many steps lead from the first to a stage at most
abbrev rank : ℕ → StageOfDrain → ℕ
rank tables (Shutting p) = p.treated
rank tables (Copying made) = suc (tables + made)

-- each leads further, and none past the copy's last
goes : (tables copy most : ℕ) (s : StageOfDrain) (notes : List Note) (t : StageOfDrain) → copy ≤ most + 3 → StepOfDrain tables copy s notes t → (rank tables s < rank tables t) × (rank tables t ≤ tables + (most + 3))
goes tables copy most (Shutting p) notes (Shutting q) long step =
    let now : q.treated ≡ suc p.treated = ap (λ (r : Progress). r.treated) step.1.1 in
    let few = step.0 in
    (omega (arith, now), omega (arith, now, few))
goes tables copy most (Shutting p) notes (Copying made) long step = let all = step.0 in let none = step.2 in (omega (arith, all, none), omega (arith, none))
goes tables copy most (Copying made) notes (Shutting q) long step = absurd step
goes tables copy most (Copying made) notes (Copying now) long step = let few = step.0 in let is = step.2 in (omega (arith, is), omega (arith, few, long))

steps_few : (tables copy most n : ℕ) (s : StageOfDrain) (notes : List Note) (t : StageOfDrain) → copy ≤ most + 3 → StepsOfDrain tables copy n s notes t → rank tables s ≤ tables + (most + 3) → n + rank tables s ≤ tables + (most + 3)
steps_few tables copy most zero s notes t long steps few = omega (arith, few)
steps_few tables copy most (suc n) s notes t long steps few =
    let one = goes tables copy most s steps.0 steps.2 long steps.3 in
    let on = steps_few tables copy most n steps.2 steps.1 t long steps.4 one.1 in
    omega (arith, one.0, on)

begun_few : (tables copy most n : ℕ) (p : Progress) (notes : List Note) (t : StageOfDrain) → copy ≤ most + 3 → StepsOfDrain tables copy n (Shutting p) notes t → n ≤ tables + (most + 3)
begun_few tables copy most zero p notes t long steps = omega arith
begun_few tables copy most (suc n) p notes t long steps =
    let one = goes tables copy most (Shutting p) steps.0 steps.2 long steps.3 in
    let on = steps_few tables copy most n steps.2 steps.1 t long steps.4 one.1 in
    omega (arith, one.0, on)

pub few : (tables n : ℕ) (columns : Columns) (life : Life) (notes : List Note) (next : Life) → OfDrain true tables columns (Some n) life notes ends.Stopped next → n ≤ tables + columns.most + 3
few tables n columns life notes next h =
    let same : n ≡ h.1 = same_Some n h.1 h.7 in
    let made = begun_few tables h.0 columns.most h.1 h.6.0 h.3 h.2 (h.5 refl) h.6.2 in
    omega (arith, same, made)
