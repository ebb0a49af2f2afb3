use Rattle.std.proofs.Common.{◌≡◌, ◌≤◌, ◌++◌, length}
use Rattle.std.specs.List.{flat_map, AllByRecursion}
use Rattle.leaf_model.specs.Bytes.{text_bytes, BeginsWith}
use Rattle.leaf_model.specs.Lent.{lent_texts}
use Rattle.leaf_model.proofs.row_writer.put_texts.Given as goal

abbrev pub invariant-loop-first : goal.invariant-loop-first
invariant-loop-first l = record {
  short : AllByRecursion (λ text. length text ≤ 65535) (lent_texts l.left);
  put : l.out.items ++ flat_map text_bytes (lent_texts l.left) ≡ l.initial.out.items ++ flat_map text_bytes (lent_texts l.texts);
  begins : BeginsWith l.initial.out.items l.out.items;
}

abbrev pub decreases-loop-first : goal.decreases-loop-first
decreases-loop-first l = length (lent_texts l.left)
