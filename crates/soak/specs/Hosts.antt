-- The cells of all hosts, made once for all rows.
use Rattle.std.specs.Prelude.{◌≡◌, ℕ, ◌+◌, ◌*◌, ◌<◌, ℤ, pos, List, [], length, slice_index_or, codes}
use Rattle.row_model.specs.declared.rows.Cell.{Cell}
use Rattle.row_model.specs.declared.rows.Value.TheVariants.{Int}
use Rattle.soak.specs.Soak.{host_cell}

-- the cell of a code
abbrev pub coded : ℤ → Cell
coded n = record { name = codes "code"; value = Int n }

-- for each host a cell of some code, and the cell of the host
pub record AreFirst (hosts : ℕ) (cells : List Cell) : Type 0 where
  pub counted : length cells ≡ 2 * hosts
  pub code : (k : ℕ) → k < hosts → (slice_index_or cells (2 * k) (coded (pos 0))).name ≡ codes "code"
  pub host : (k : ℕ) → k < hosts → slice_index_or cells (2 * k + 1) (coded (pos 0)) ≡ host_cell k

abbrev pub AreHosts : List Cell → Type 0
AreHosts cells = AreFirst 50 cells
