use Rattle.std.proofs.Common.{◌≡◌, length, ap, ◌∙◌, arith}
use Rattle.std.proofs.lemmas.List.FromFn.{fill_by_all}
use Rattle.bit_columns.specs.Bits.{code, codes, PackedCodes}
use Rattle.bit_columns.proofs.packed.Packed.fill.Goals as goal

pub returns : goal.returns
returns c =
    let inside = c.self.inside in
    let out = c.fill_codes.new.out in
    let width : c.from.result ≡ inside.width = c.from.ensures in
    let len : length out ≡ inside.count = omega (arith, ap (λ (p : PackedCodes). p.count) c.self.view_is) in
    fill_by_all (code inside.bytes.now inside.width) out inside.count 0 len (λ k h. c.fill_codes.ensures k h ∙ ap (λ w. code inside.bytes.now w k) width)
    ∙ ap (λ (p : PackedCodes). codes p.bytes p.width p.count) c.self.view_is
