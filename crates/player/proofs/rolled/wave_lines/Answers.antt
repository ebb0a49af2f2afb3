use Rattle.std.proofs.Common.{◌≡◌, ◌+◌, ◌<◌, ◌++◌, ◌∷◌, [], ℕ, suc, List, Some, length, take, slice_get, sym, ap, subst, ◌∙◌, arith, rules}
use Rattle.printed_lines.specs.declared.line.Line.{Line}
use Rattle.printed_lines.specs.declared.line.Line.TheVariants as line
use Rattle.player.specs.Rolled.{wave_lines}
use Rattle.player.proofs.Calling.{stands_at}
use Rattle.player.proofs.WaveLines.{waves_next}
use Rattle.player.proofs.rolled.wave_lines.Goals as goal

pub loop-begun-preserved : goal.loop-begun-preserved
loop-begun-preserved c =
    let was = c.loop-begun in
    let waves = c.as_slice-waves.result.now in
    let total = length waves in
    let wave = c.index-waves-begun.result in
    let low : was.begun < total = omega (arith, c.loop-begun-test.true) in
    let at : slice_get waves was.begun ≡ Some wave = stands_at waves was.begun wave low c.index-waves-begun.is in
    let number : 1 + was.begun ≡ was.begun + 1 = omega arith in
    let next : suc was.begun ≡ was.begun + 1 = omega arith in
    let pushed : c.push.new.self.items ≡ was.lines.items ++ line.Wave (was.begun + 1) total wave ∷ [] = search rules in
    subst (λ (k : ℕ). c.push.new.self.items ≡ wave_lines 1 total (take k waves)) next
    (pushed ∙ ap (λ (ls : List Line). ls ++ line.Wave (was.begun + 1) total wave ∷ []) was.invariant
    ∙ sym (waves_next 1 total waves was.begun wave at ∙ ap (λ (n : ℕ). wave_lines 1 total (take was.begun waves) ++ line.Wave n total wave ∷ []) number))
