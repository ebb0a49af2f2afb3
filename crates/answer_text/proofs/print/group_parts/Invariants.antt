use Rattle.std.proofs.Common.{◌≡◌, ◌++◌, drop, take, map}
use Rattle.std.specs.Prelude.{string_bytes, zip}
use Rattle.answer_text.specs.Answer.{agg_text, group_parts, key_text}
use Rattle.answer_text.proofs.print.group_parts.Given as goal

abbrev pub invariant-loop-key : goal.invariant-loop-key
invariant-loop-key l = map string_bytes l.parts.items ≡ map key_text (take l.key-index l.key-items)

-- the parts so far, and those of the aggregates that are left
abbrev pub invariant-loop-i : goal.invariant-loop-i
invariant-loop-i l = map string_bytes l.parts.items ++ map (λ p. agg_text l.group.count p.0 p.1) (zip (drop l.i l.aggs) (drop l.i l.folds)) ≡ group_parts l.query l.group
