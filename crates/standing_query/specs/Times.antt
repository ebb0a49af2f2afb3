-- The groups of a row that stands there several times: counts and sums are multiplied, the least and the greatest stay.
use Rattle.std.specs.Prelude.{ℕ, ◌*◌, map, pos, ◌*ℤ◌}
use Rattle.leaf_model.specs.declared.groups.Fold.{Fold}
use Rattle.leaf_model.specs.declared.groups.Group.{Group}

abbrev pub fold_times : ℕ → Fold → Fold
fold_times k f = record { seen = k * f.seen; sum = pos k *ℤ f.sum; min = f.min; max = f.max }

abbrev pub group_times : ℕ → Group → Group
group_times k g = record { keys = g.keys; count = k * g.count; folds = map (fold_times k) g.folds }
