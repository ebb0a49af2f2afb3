use Rattle.std.proofs.Common.{◌≡◌, ℕ, ◌+◌, ◌-◌, ◌*◌, ◌%◌, ◌<◌, take, drop, ap, ◌∙◌, arith}
use Rattle.soak.proofs.Hosts.{host_there, row_there}
use Rattle.soak.proofs.row.cells_of.Goals as goal

pub returns-then-code-eq0 : goal.returns-then-code-eq0
returns-then-code-eq0 c =
    let place = 2 * (c.args.host % 50) in
    let count : place + 2 - (place + 1) ≡ 1 = omega arith in
    let none : c.args.code % 4 ≡ 0 = omega (arith, c.if-code-eq0.true) in
    ap (λ (n : ℕ). take n (drop (place + 1) c.args.cells.now)) count ∙ host_there c.args.cells.now c.args.host c.args.code c.requires.hosts none

pub returns-else-code-eq0 : goal.returns-else-code-eq0
returns-else-code-eq0 c =
    let place = 2 * (c.args.host % 50) in
    let count : place + 2 - place ≡ 2 = omega arith in
    let some : 0 < c.args.code % 4 = omega (arith, c.if-code-eq0.false) in
    ap (λ (n : ℕ). take n (drop place c.args.cells.now)) count ∙ row_there c.args.cells.now c.args.host c.args.code c.requires.hosts c.requires.code some
