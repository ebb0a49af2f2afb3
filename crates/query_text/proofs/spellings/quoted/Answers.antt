use Rattle.std.proofs.Common.{◌≡◌, true, false, rules}
use Rattle.query_text.specs.Printing.{in_quotes}
use Rattle.query_text.proofs.Quoting.{quoted_utf8}
use Rattle.query_text.proofs.spellings.quoted.Goals as goal

pub unreachable-requires : goal.unreachable-requires
unreachable-requires c =
    let written : c.push-2.new.self.items ≡ in_quotes c.args.mark c.args.text.now = search rules in
    let bad : false ≡ true = c.in-Err.ensures.succeeds (rw written (quoted_utf8 c.args.mark c.args.text.now c.requires c.utf8.text)) in
    cc
