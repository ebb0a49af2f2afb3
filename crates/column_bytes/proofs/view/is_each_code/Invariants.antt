use Rattle.std.proofs.Common.{◌≡◌, ℕ, ◌<◌, true}
use Rattle.bit_columns.specs.Bits.{code}
use Rattle.column_bytes.specs.Cells.{is_there, IsCode, book_of}
use Rattle.column_bytes.proofs.view.is_each_code.Given as goal

abbrev pub invariant-loop-i : goal.invariant-loop-i
invariant-loop-i l = (j : ℕ) → j < l.i → is_there l.presence j ≡ true → IsCode (book_of l.form l.count l.extra) (code l.packed.bytes l.packed.width j)
