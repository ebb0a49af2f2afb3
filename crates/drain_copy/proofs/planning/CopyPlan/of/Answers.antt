use Rattle.std.proofs.Common.{◌+◌, ◌<◌, ◌^◌, sym, subst, arith}
use Rattle.region_layout.specs.Written.{MayBeWritten}
use Rattle.drain_copy.specs.Planned.{tables_size}
use Rattle.drain_copy.proofs.Fitting.{may_be_written}
use Rattle.drain_copy.proofs.Reckoned.{image_length_is, narrow_of, short_of}
use Rattle.drain_copy.proofs.planning.CopyPlan.of.Goals as goal

pub write-requires : goal.write-requires
write-requires c =
    let tables = c.args.tables.now in
    let fits : 16 + tables_size tables < 2 ^ 63 = omega (arith, short_of tables c.requires.room.room, image_length_is tables) in
    record {
      fits = subst MayBeWritten (sym c.in_ok-directory.ensures)
          (may_be_written tables c.args.log_end c.requires.few c.requires.names c.requires.parts (narrow_of tables c.requires.room.room) fits c.requires.log_end);
    }
