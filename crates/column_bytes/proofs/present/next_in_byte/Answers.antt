use Rattle.std.proofs.Common.{◌%◌, ◌==◌, ap, ◌∙◌}
use Rattle.std.specs.Int.{bit_at}
use Rattle.std.proofs.lemmas.Nat.Bits.{bit_at-zero}
use Rattle.column_bytes.proofs.present.next_in_byte.Goals as goal

pub returns-then-byte-eq0 : goal.returns-then-byte-eq0
returns-then-byte-eq0 c = λ i from to.
    ap (λ x. bit_at x (i % 8) == 1) (c.requires.at i from to ∙ c.if-byte-eq0.true) ∙ ap (λ x. x == 1) (bit_at-zero (i % 8))
