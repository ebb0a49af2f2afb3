use Rattle.std.proofs.Common.{◌≡◌, ◌+◌, Bool, false, List, length, drop, sym, ap, subst, ◌∙◌, replicate}
use Rattle.std.specs.List.{AllByRecursion}
use Rattle.std.proofs.lemmas.List.{length-replicate}
use Rattle.script_text.specs.declared.command.Command.{Command}
use Rattle.script_text.specs.Fits.{IsCommand}
use Rattle.script_text.specs.Commands.{leaf_count}
use Rattle.bursts.specs.Needs.{leaves_acted_on, marked_by, table_needed}
use Rattle.bursts.proofs.Needed.{drop_next, marked_length}
use Rattle.bursts.proofs.plan.Needs.of.Goals as goal

pub loop-command-init : goal.loop-command-init
loop-command-init g c =
    let fleet = c.args.crew.now.fleet in
    let tables : c.in_ok-unmarked.field-0.items ≡ replicate (length fleet.names) false = c.in_ok-unmarked.ensures ∙ ap (λ n. replicate n false) c.table_count.ensures in
    let leaves : c.in_ok-unmarked-2.field-0.items ≡ replicate (leaf_count fleet) false = c.in_ok-unmarked-2.ensures ∙ ap (λ n. replicate n false) c.leaf_count.ensures in
    record {
      tables = ap (λ (ms : List Bool). marked_by (table_needed fleet.names) c.args.commands.now ms) tables;
      leaves = ap (λ (ms : List Bool). marked_by leaves_acted_on c.args.commands.now ms) leaves;
      places = record {
        tables = ap (λ (ms : List Bool). length ms) tables ∙ length-replicate (length fleet.names) false;
        leaves = ap (λ (ms : List Bool). length ms) leaves ∙ length-replicate (leaf_count fleet) false;
      };
      may = c.requires;
    }

pub loop-command-preserved : goal.loop-command-preserved
loop-command-preserved g c =
    let inv = c.loop-command.invariant in
    let fleet = c.args.crew.now.fleet in
    let one = c.command-item.result in
    let next = drop_next c.args.commands.now c.loop-command.command-index one c.loop-command-test.true c.command-item.is in
    let rest = drop (c.loop-command.command-index + 1) c.args.commands.now in
    record {
      tables = ap (λ (ms : List Bool). marked_by (table_needed fleet.names) rest ms) c.mark.ensures.tables
          ∙ (sym (ap (λ (cs : List Command). marked_by (table_needed fleet.names) cs c.loop-command.needs.tables.items) next) ∙ inv.tables);
      leaves = ap (λ (ms : List Bool). marked_by leaves_acted_on rest ms) c.mark.ensures.leaves
          ∙ (sym (ap (λ (cs : List Command). marked_by leaves_acted_on cs c.loop-command.needs.leaves.items) next) ∙ inv.leaves);
      places = record {
        tables = ap (λ (ms : List Bool). length ms) c.mark.ensures.tables ∙ (marked_length (table_needed fleet.names one) c.loop-command.needs.tables.items ∙ inv.places.tables);
        leaves = ap (λ (ms : List Bool). length ms) c.mark.ensures.leaves ∙ (marked_length (leaves_acted_on one) c.loop-command.needs.leaves.items ∙ inv.places.leaves);
      };
      may = (subst (AllByRecursion (IsCommand (leaf_count fleet) fleet.names)) next inv.may).1;
    }

pub mark-requires-clause-command : goal.mark-requires-clause-command
mark-requires-clause-command g c κs within =
    let fleet = c.args.crew.now.fleet in
    let next = drop_next c.args.commands.now c.loop-command.command-index c.command-item.result c.loop-command-test.true c.command-item.is in
    (subst (AllByRecursion (IsCommand (leaf_count fleet) fleet.names)) next c.loop-command.invariant.may).0
