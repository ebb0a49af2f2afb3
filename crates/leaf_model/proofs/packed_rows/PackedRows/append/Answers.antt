use Rattle.std.proofs.Common.{◌≡◌, ◌+◌, ◌≤◌, ◌++◌, ◌∙◌, length, ap, sym, subst, rules, ℕ, List}
use Rattle.row_model.specs.declared.rows.Row.{Row}
use Rattle.leaf_model.specs.Packed.{packed_rows, ArePacked}
use Rattle.leaf_model.proofs.PackedLaws.{are_packed, packed_is}
use Rattle.leaf_model.proofs.PackedBytes.{packed_few, rows_more}
use Rattle.leaf_model.proofs.packed_rows.PackedRows.append.Goals as goal

pub with_more-self-inside-requires : goal.with_more-self-inside-requires
with_more-self-inside-requires c =
    let count = c.self.inside.count in
    let bytes = c.self.inside.bytes in
    let more = c.others.inside.count in
    let others = c.others.inside.bytes in
    let now = c.append.new.self in
    let put : now ≡ bytes ++ others = search rules in
    let few = packed_few (count + more) now (packed_rows count bytes ++ packed_rows more others) (rows_more count more bytes others now (packed_rows count bytes) (packed_rows more others) (search rules) (search rules) put) in
    subst (λ (w : List ℕ). count + more ≤ length w) (search rules) few

pub invariant_of-self-2 : goal.invariant_of-self-2
invariant_of-self-2 c =
    let count = c.self.inside.count in
    let bytes = c.self.inside.bytes in
    let more = c.others.inside.count in
    let others = c.others.inside.bytes in
    let now = c.append.new.self in
    let put : now ≡ bytes ++ others = search rules in
    subst (λ (n : ℕ). ArePacked n now) (sym c.with_more-self-inside.ensures) (are_packed (count + more) now (packed_rows count bytes ++ packed_rows more others) (rows_more count more bytes others now (packed_rows count bytes) (packed_rows more others) (search rules) (search rules) put))

pub returns-clause-put : goal.returns-clause-put
returns-clause-put c =
    let count = c.self.inside.count in
    let bytes = c.self.inside.bytes in
    let more = c.others.inside.count in
    let others = c.others.inside.bytes in
    let now = c.append.new.self in
    let put : now ≡ bytes ++ others = search rules in
    let whole = packed_is (count + more) now (packed_rows count bytes ++ packed_rows more others) (rows_more count more bytes others now (packed_rows count bytes) (packed_rows more others) (search rules) (search rules) put) in
    ap (λ (n : ℕ). packed_rows n now) c.with_more-self-inside.ensures ∙ whole ∙ ap (λ (w : List Row). w ++ packed_rows more others) c.self.view_is ∙ ap (λ (w : List Row). c.args.self.now ++ w) c.others.view_is
