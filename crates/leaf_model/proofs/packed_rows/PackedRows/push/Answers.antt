use Rattle.std.proofs.Common.{◌≡◌, ◌+◌, ◌≤◌, ◌∷◌, ◌++◌, [], ◌∙◌, length, ap, sym, subst, rules, ℕ, List}
use Rattle.row_model.specs.declared.rows.Row.{Row}
use Rattle.leaf_model.specs.Bytes.{rows_bytes}
use Rattle.leaf_model.specs.Lent.{lent_row}
use Rattle.leaf_model.specs.Packed.{packed_rows, ArePacked}
use Rattle.leaf_model.proofs.PackedLaws.{are_packed, packed_is}
use Rattle.leaf_model.proofs.PackedBytes.{packed_few, row_more}
use Rattle.leaf_model.proofs.packed_rows.PackedRows.push.Goals as goal

pub with_more-self-inside-requires : goal.with_more-self-inside-requires
with_more-self-inside-requires c =
    let count = c.self.inside.count in
    let bytes = c.self.inside.bytes in
    let now = c.put.new.self in
    let rows = packed_rows count bytes in
    let row = lent_row c.args.row.now in
    let put : now ≡ bytes ++ rows_bytes (row ∷ []) = search rules in
    let few = packed_few (count + 1) now (rows ++ row ∷ []) (row_more count bytes now rows row (search rules) c.requires put) in
    subst (λ (w : List ℕ). count + 1 ≤ length w) (search rules) few

pub invariant_of-self-2 : goal.invariant_of-self-2
invariant_of-self-2 c =
    let count = c.self.inside.count in
    let bytes = c.self.inside.bytes in
    let now = c.put.new.self in
    let rows = packed_rows count bytes in
    let row = lent_row c.args.row.now in
    let put : now ≡ bytes ++ rows_bytes (row ∷ []) = search rules in
    subst (λ (n : ℕ). ArePacked n now) (sym c.with_more-self-inside.ensures) (are_packed (count + 1) now (rows ++ row ∷ []) (row_more count bytes now rows row (search rules) c.requires put))

pub returns-clause-put : goal.returns-clause-put
returns-clause-put c =
    let count = c.self.inside.count in
    let bytes = c.self.inside.bytes in
    let now = c.put.new.self in
    let rows = packed_rows count bytes in
    let row = lent_row c.args.row.now in
    let put : now ≡ bytes ++ rows_bytes (row ∷ []) = search rules in
    ap (λ (n : ℕ). packed_rows n now) c.with_more-self-inside.ensures ∙ packed_is (count + 1) now (rows ++ row ∷ []) (row_more count bytes now rows row (search rules) c.requires put) ∙ ap (λ (w : List Row). w ++ row ∷ []) c.self.view_is
