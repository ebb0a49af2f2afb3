use Rattle.std.proofs.Common.{rules, ◌≡◌, ◌∷◌, List, ℕ, length, ap}
use Rattle.drain_copy.specs.declared.step.Next.TheVariants as next
use Rattle.drain_copy.proofs.Standing.{left_behind, less_held}
use Rattle.drain_copy.proofs.drain.Drain.take_column.Goals as goal

pub invariant_of-self-in-Some : goal.invariant_of-self-in-Some
invariant_of-self-in-Some c =
    let i = c.self.invariant in
    let heap = c.self.inside.columns.items in
    let rest = c.pop_front.new.self.items in
    let is : heap ≡ c.in-Some.column ∷ rest = c.in-Some.ensures.items in (
      i.0,
      i.1,
      less_held c.in-Some.column rest heap c.self.inside.held (length c.as_slice.result.now) is i.2 (ap (λ (l : List ℕ). length l) c.as_slice.ensures),
      left_behind c.in-Some.column rest heap c.self.inside.planned.value.items i.3.0 is i.3.1,
      (λ begins. let at : c.args.self.now.next ≡ next.Begin = search rules in absurd (c.requires.begun at)),
      i.5,
    )
