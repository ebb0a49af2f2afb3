use Rattle.std.proofs.Common.{◌≤◌, sym, arith}
use Rattle.script_text.specs.Words.{words_of}
use Rattle.text_lines.specs.Numbers.{number_of}
use Rattle.script_text.proofs.Leaves.{are_leaves, few_machines, fleet_sizes}
use Rattle.script_text.proofs.fleet.sizes_of.Goals as goal

pub overflow_cast-result : goal.overflow_cast-result
overflow_cast-result c =
    let few : c.in_ok-machines-2.machines ≤ 256 = few_machines c.in_ok-machines-2.machines c.in_ok-per_machine-2.per_machine (are_leaves c.in_ok-machines-2.machines c.in_ok-per_machine-2.per_machine (sym c.if-not-leaves_in_range.ensures)) in
    omega (arith, few)

pub returns-clause-some : goal.returns-clause-some
returns-clause-some c =
    let first = number_of c.in_ok-machines.machines.now in
    let second = number_of c.in_ok-per_machine.per_machine.now in
    let names = words_of c.in_ok-per_machine.names.now in
    rw (c.in_ok-machines.ensures.some, c.in_ok-per_machine.ensures.some) (fleet_sizes first second c.in_ok-machines-2.machines c.in_ok-per_machine-2.per_machine names c.in_ok-machines-2.ensures c.in_ok-per_machine-2.ensures (sym c.if-not-leaves_in_range.ensures))
