use Rattle.std.proofs.Common.{◌≡◌, ◌++◌, ◌≤◌, length, true}
use Rattle.std.specs.List.{list_all}
use Rattle.row_model.specs.Names.{is_table_name, are_distinct}
use Rattle.script_text.specs.Words.{words_of}
use Rattle.script_text.proofs.fleet.tables.Given as goal

abbrev pub invariant-loop-word : goal.invariant-loop-word
invariant-loop-word l =
    (l.tables.items ++ words_of l.rest ≡ words_of l.words)
    × (length l.tables.items ≤ 16)
    × (list_all is_table_name l.tables.items ≡ true)
    × (are_distinct l.tables.items ≡ true)

abbrev pub decreases-loop-word : goal.decreases-loop-word
decreases-loop-word l = length l.rest
