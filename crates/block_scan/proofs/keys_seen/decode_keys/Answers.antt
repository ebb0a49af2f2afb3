use Rattle.std.proofs.Common.{◌+◌, List, length, take, sym, subst}
use Rattle.std.specs.Prelude.{Option, IfSome}
use Rattle.block_scan.specs.declared.decoded.Decoded.{Decoded}
use Rattle.block_scan.specs.Keyed.{AreOfKeys, IsOfKey}
use Rattle.block_scan.specs.Reads.{columns_of, row_of}
use Rattle.block_scan.proofs.Lists.{zip_more}
use Rattle.block_scan.proofs.keys_seen.decode_keys.Goals as goal

pub loop-name-preserved : goal.loop-name-preserved
loop-name-preserved c =
    let n = length c.args.times.now in let row = row_of c.args.times.now (columns_of c.args.read.now) in let names = c.args.names.now in let k = c.loop-name.name-index in
    let name = c.name-item.result in
    let is = subst (λ (f : Option Decoded). IfSome f (IsOfKey n row name)) c.in-Some.is c.in_ok-decoded.ensures in
    subst (λ (l : List Decoded). AreOfKeys n row (take (k + 1) names) l) (sym c.in_ok-push-in-Some.ensures.items)
    (zip_more (IsOfKey n row) names c.loop-name.all.items k name c.in-Some.decoded c.loop-name-test.true c.name-item.is c.loop-name.invariant is)
