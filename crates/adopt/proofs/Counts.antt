-- Bytes mean one number of cells.
use Rattle.std.proofs.Common.{◌≡◌, ℕ, List}
use Rattle.row_blocks.specs.Columns.{MeanCells}
use Rattle.row_blocks.proofs.Means.{one_count}

pub one_number : (bytes : List ℕ) (n m : ℕ) → MeanCells bytes n → MeanCells bytes m → n ≡ m
one_number bytes n m first second = one_count bytes n m first second
