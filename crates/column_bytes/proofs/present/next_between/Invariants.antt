use Rattle.bit_columns.specs.Bits.{is_present}
use Rattle.column_bytes.specs.Next.{HasNone}
use Rattle.column_bytes.proofs.present.next_between.Given as goal

abbrev pub invariant-loop-i : goal.invariant-loop-i
invariant-loop-i l = HasNone (is_present l.bits.bytes) l.from l.i
