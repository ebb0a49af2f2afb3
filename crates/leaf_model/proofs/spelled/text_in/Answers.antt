use Rattle.std.proofs.Common.{subst, sym}
use Rattle.std.specs.Str.{IsUtf8}
use Rattle.leaf_model.proofs.LentLaws.{utf8_front}
use Rattle.leaf_model.proofs.spelled.text_in.Goals as goal

pub from_utf8_unchecked-requires : goal.from_utf8_unchecked-requires
from_utf8_unchecked-requires c = subst IsUtf8 (sym c.split_at.ensures.front) (utf8_front c.args.len c.args.bytes.now c.requires).1
