use Rattle.std.proofs.Common.{◌∙◌, ℕ, List, ap, slice_index_or}
use Rattle.printed_lines.proofs.Names.{name_there}
use Rattle.printed_lines.proofs.parts.name_of.Goals as goal

pub returns : goal.returns
returns c =
    let name = c.index-as_slice-table.result in
    c.as_str.ensures
    ∙ c.index-as_slice-table.is
    ∙ ap (λ (names : List (List ℕ)). slice_index_or names c.args.table name) c.as_slice.ensures
    ∙ name_there c.args.names.now c.args.table name c.requires
