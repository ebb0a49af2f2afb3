use Rattle.std.proofs.Common.{◌≡◌, List, ℕ, ◌<◌, Bool, IfOk, length, map, is_some, sym, ap, ap₂, subst, ◌∙◌, arith}
use Rattle.std.proofs.lemmas.List.{length-map}
use Rattle.leaf_model.specs.Lent.{each_value}
use Rattle.column_bytes.specs.Cells.{Sets}
use Rattle.column_bytes.specs.Coding.{IsCoding, joined}
use Rattle.column_bytes.specs.Column.{HasCells}
use Rattle.dictionaries.specs.Sets.{sets_at, sets_by}
use Rattle.column_bytes.proofs.Lent.{there_same}
use Rattle.column_bytes.proofs.SetBytes.{bytes_joined}
use Rattle.column_bytes.proofs.set_codes.encode_sets.Goals as goal

pub set_dictionary_bytes-requires-clause-small : goal.set_dictionary_bytes-requires-clause-small
set_dictionary_bytes-requires-clause-small c =
    subst (λ (texts : List (List ℕ)). length (joined texts) < 4294967296) (sym c.as_slice.ensures)
    (omega (arith, bytes_joined c.cell_codes.new.texts, c.in_ok-codes.ensures.bytes))

pub returns-clause-cells : goal.returns-clause-cells
returns-clause-cells c =
    let cells = c.args.cells.now in
    let marks : c.deref.result.now ≡ map is_some cells = c.deref.ensures.value ∙ c.in_ok-present.ensures in
    let book : sets_at c.deref-3.result.now ≡ sets_by c.cell_codes.new.texts c.cell_codes.new.sets
    = ap sets_at c.deref-3.ensures.value ∙ c.in_ok-extra.ensures.same ∙ ap₂ (λ (t s : List (List ℕ)). sets_by t s) c.as_slice.ensures c.as_slice-2.ensures in
    let coding : IsCoding (each_value cells) c.deref-2.result.now (Sets (sets_at c.deref-3.result.now))
    = subst (λ (list : List ℕ). IsCoding (each_value cells) list (Sets (sets_at c.deref-3.result.now))) (sym c.deref-2.ensures.value)
    (subst (λ (s : List (List (List ℕ))). IsCoding (each_value cells) c.in_ok-codes.codes.items (Sets s)) (sym book) c.in_ok-codes.ensures.coding) in
    subst (λ (n : ℕ). IfOk c.write.result (λ bytes. HasCells bytes.items n (each_value cells))) (ap (λ (l : List Bool). length l) marks ∙ length-map cells is_some)
    (c.write.ensures.cells (each_value cells) (sym (there_same cells) ∙ sym marks) coding)
