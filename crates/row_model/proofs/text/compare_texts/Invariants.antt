use Rattle.std.proofs.Common.{length, ◌-◌, ◌≡◌, ◌≤◌, drop}
use Rattle.row_model.specs.Texts.{texts_cmp}
use Rattle.row_model.proofs.text.compare_texts.Given as goal

-- what is left decides
abbrev pub invariant-loop-i : goal.invariant-loop-i
invariant-loop-i l = record {
  mine : l.i ≤ length l.a;
  theirs : l.i ≤ length l.b;
  same : texts_cmp l.a l.b ≡ texts_cmp (drop l.i l.a) (drop l.i l.b);
}

abbrev pub decreases-loop-i : goal.decreases-loop-i
decreases-loop-i l = length l.a - l.i
