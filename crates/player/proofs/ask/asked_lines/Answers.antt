use Rattle.std.proofs.Common.{◌≡◌, ◌+◌, ◌++◌, ◌∷◌, [], ℕ, suc, List, ap, subst, ◌∙◌, arith, rules}
use Rattle.printed_lines.specs.declared.line.Line.{Line}
use Rattle.player.specs.Commands.{asked_line, asked_lines}
use Rattle.player.proofs.ask.asked_lines.Goals as goal

pub loop-leaf-preserved : goal.loop-leaf-preserved
loop-leaf-preserved c =
    let was = c.loop-leaf in
    let next : suc was.leaf ≡ was.leaf + 1 = omega arith in
    let pushed : c.push.new.self.items ≡ was.lines.items ++ c.asked_line.result ∷ [] = search rules in
    subst (λ (k : ℕ). c.push.new.self.items ≡ asked_lines k c.args.table c.args.fanned.now) next
    (pushed ∙ (ap (λ (l : Line). was.lines.items ++ l ∷ []) c.asked_line.ensures ∙ ap (λ (ls : List Line). ls ++ asked_line was.leaf c.args.table c.args.fanned.now ∷ []) was.invariant))
