use Rattle.std.proofs.Common.{List, map, ap, sym, ◌∙◌, Vec, Global}
use Rattle.std.proofs.lemmas.List.{map-set}
use Rattle.standing_feed.specs.declared.heard.Heard.{Heard}
use Rattle.standing_feed.specs.Sharing.{entries_of, kept_in}
use Rattle.standing_feed.proofs.Kept.{kept_apart}
use Rattle.standing_feed.proofs.followed_entries.feed.Goals as goal

pub returns-clause-kept : goal.returns-clause-kept
returns-clause-kept c =
    let tables = c.args.tables.now.items in
    let left = c.replace.new.dest in
    ap (λ (kept : List (List Heard)). map (kept_in kept) c.args.rest.now.items) (map-set (λ (hs : Vec Heard Global). hs.items) tables c.args.table left)
    ∙ kept_apart (entries_of tables) c.args.table left.items c.args.rest.now.items (sym c.if-contains.ensures.value)
