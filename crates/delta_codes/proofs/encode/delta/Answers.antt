use Rattle.std.proofs.Common.{rules, ◌≡◌, length, ap, ◌∙◌}
use Rattle.delta_codes.specs.Slots.{codes_of}
use Rattle.delta_codes.proofs.Slots.{written, length_anchors_of, codes_at_anchors}
use Rattle.std.proofs.lemmas.List.{take_at}
use Rattle.delta_codes.proofs.encode.delta.Goals as goal

are_codes : (c : goal.After-of) → c.of.result ≡ codes_of c.args.values.now
are_codes c = c.of.ensures ∙ take_at c.write_codes.new.codes _ c.in_ok-codes.codes.len (search rules) ∙ c.write_codes.ensures.codes

pub returns-clause-anchored : goal.returns-clause-anchored
returns-clause-anchored c = ap length c.in_ok-anchors.ensures ∙ length_anchors_of c.args.values.now

pub returns-clause-same : goal.returns-clause-same
returns-clause-same c = rw (c.in_ok-anchors.ensures, are_codes c) (written c.args.values.now c.write_codes.ensures.fit)

pub returns-clause-at_anchors : goal.returns-clause-at_anchors
returns-clause-at_anchors c = rw (are_codes c) (codes_at_anchors c.args.values.now)
