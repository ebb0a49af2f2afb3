-- How many columns the tables come to that are shut, while the last of them is sealed.
use Rattle.std.proofs.Common.{◌≡◌, ℕ, ◌+◌, ◌≤◌, List, [], ◌∷◌, ◌++◌, Option, Some, None, sym, ap, ap₂, ◌∙◌, subst, arith, le_refl, append-nil}
use Rattle.std.proofs.lemmas.List.{map-append}
use Rattle.row_model.specs.declared.rows.Row.{Row}
use Rattle.row_blocks.specs.Blocks.{Block}
use Rattle.row_blocks.specs.Held.{columns_count, rows_and_cells}
use Rattle.table_state.specs.declared.parts.Parts.{Parts}
use Rattle.table_state.specs.Tables.{IsPartsOf, Table, columns_most}
use Rattle.region_layout.specs.declared.drained.DrainTable.{DrainTable}
use Rattle.leaf_machine.specs.Shut.{AreNoMore, drained_columns, last_columns}

-- the blocks of a table whose tail is sealed have all its columns
columns_by : (here blocks : List Block) (tail : List Row) → here ≡ blocks → tail ≡ [] → columns_count here ≡ columns_count blocks + rows_and_cells tail
columns_by here blocks tail same none = ap columns_count same ∙ omega arith ∙ ap (λ (rows : List Row). columns_count blocks + rows_and_cells rows) (sym none)

pub sealed_columns : (parts : Parts) (t : Table) → IsPartsOf parts t → columns_count parts.blocks ≡ columns_most t.store
sealed_columns parts t of = columns_by parts.blocks t.store.blocks t.store.tail of.blocks of.tail

-- nothing changes
pub none_more : (columns : List ℕ) → AreNoMore columns columns
none_more [] = tt
none_more (n ∷ columns) = (le_refl n, none_more columns)

-- the last comes to fewer, or as many
pub last_less : (columns : List ℕ) (now before : ℕ) → now ≤ before → AreNoMore (columns ++ now ∷ []) (columns ++ before ∷ [])
last_less [] now before less = (less, tt)
last_less (n ∷ columns) now before less = (le_refl n, last_less columns now before less)

pub same_less : (now before : List ℕ) → now ≡ before → AreNoMore now before
same_less now before same = subst (AreNoMore now) same (none_more now)

-- ---- the last of them is sealed, or is not

module _ (items reserved : List DrainTable) (last : Option Table) (old t : Table) (before : List ℕ) (room : reserved ≡ items) (there : last ≡ Some old) (whole : drained_columns items ++ last_columns last ≡ before)
    (fewer : columns_most t.store ≤ columns_most old.store) where
  was : drained_columns items ++ columns_most old.store ∷ [] ≡ before
  was = ap (λ (o : Option Table). drained_columns items ++ last_columns o) (sym there) ∙ whole

  less : (now : List ℕ) (n : ℕ) → now ≡ drained_columns items ++ n ∷ [] → n ≤ columns_most old.store → AreNoMore now before
  less now n is few =
      subst (λ (l : List ℕ). AreNoMore l before) (sym is)
      (subst (AreNoMore (drained_columns items ++ n ∷ [])) was (last_less (drained_columns items) n (columns_most old.store) few))

  pub waits_less : AreNoMore (drained_columns reserved ++ columns_most t.store ∷ []) before
  waits_less =
      less (drained_columns reserved ++ columns_most t.store ∷ []) (columns_most t.store) (ap (λ (l : List DrainTable). drained_columns l ++ columns_most t.store ∷ []) room) fewer

  pub kept_less : (now : List DrainTable) (kept : DrainTable) (none : Option Table) → now ≡ reserved ++ kept ∷ [] → columns_count kept.parts.blocks ≡ columns_most t.store → none ≡ None
      → AreNoMore (drained_columns now ++ last_columns none) before
  kept_less now kept none is count gone =
      let all : drained_columns now ++ last_columns none ≡ drained_columns items ++ columns_count kept.parts.blocks ∷ [] =
      ap₂ (λ (l : List DrainTable) (o : Option Table). drained_columns l ++ last_columns o) (is ∙ ap (λ (l : List DrainTable). l ++ kept ∷ []) room) gone
      ∙ append-nil (drained_columns (items ++ kept ∷ [])) ∙ map-append (λ (d : DrainTable). columns_count d.parts.blocks) items (kept ∷ []) in
      less (drained_columns now ++ last_columns none) (columns_count kept.parts.blocks) all (omega (arith, count, fewer))
