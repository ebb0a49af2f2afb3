use Rattle.std.proofs.Common.{◌^◌, arith}
use Rattle.row_count.proofs.Pieces.{behind_err, behind_fits, behind_ok, sums_fit}
use Rattle.row_count.proofs.count.count_behind.Goals as goal

pub overflow_add-result : goal.overflow_add-result
overflow_add-result g c =
    omega (arith, (sums_fit c.args.range c.args.so_far c.args.text.now c.in-Ok.count (2 ^ 64) c.in-Ok.ensures.lines c.in-Ok.ensures.rows c.requires.fits c.requires.few).0)

pub overflow_add-result-in-Ok : goal.overflow_add-result-in-Ok
overflow_add-result-in-Ok g c =
    omega (arith, (sums_fit c.args.range c.args.so_far c.args.text.now c.in-Ok.count (2 ^ 64) c.in-Ok.ensures.lines c.in-Ok.ensures.rows c.requires.fits c.requires.few).1)

pub returns-in-Ok : goal.returns-in-Ok
returns-in-Ok g c = behind_ok c.args.range c.args.so_far c.args.text.now c.in-Ok.count c.in-Ok.ensures.lines c.in-Ok.ensures.rows

pub error_behind-requires : goal.error_behind-requires
error_behind-requires g c = behind_fits c.args.range c.args.so_far c.args.text.now c.in-Err.error (2 ^ 64) c.in-Err.ensures.refused c.requires.fits

pub returns-in-Err : goal.returns-in-Err
returns-in-Err g c = behind_err c.args.range c.args.so_far c.args.text.now c.in-Err.error _ c.in-Err.ensures.refused c.error_behind.ensures
