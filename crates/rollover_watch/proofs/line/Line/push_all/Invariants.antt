use Rattle.std.proofs.Common.{◌≡◌, ◌≤◌, ◌+◌, take, ◌++◌, length}
use Rattle.rollover_watch.specs.Lines.{ArePrintable}
use Rattle.rollover_watch.proofs.line.Line.push_all.Given as goal

abbrev pub invariant-loop-byte : goal.invariant-loop-byte
invariant-loop-byte l = record {
  so_far : l.self ≡ l.fn.self ++ take l.byte-index l.fitting;
  room : length l.fn.self + length l.fitting ≤ 80;
  printable : ArePrintable l.fitting;
}
