use Rattle.std.proofs.Common.{◌≡◌, ◌+◌, ◌<◌, ◌^◌, false, List, ℕ, sym, ap, ◌∙◌, subst, arith}
use Rattle.region_layout.specs.declared.drained.DrainTable.{DrainTable}
use Rattle.region_layout.specs.Drained.{has_no_room, images_of}
use Rattle.region_layout.specs.Region.{IsAdoptable}
use Rattle.region_layout.specs.Written.{directory_bytes}
use Rattle.drain_copy.specs.Planned.{planned_directory, tables_size}
use Rattle.drain_copy.proofs.Fitting.{may_be_written}
use Rattle.drain_copy.proofs.Imaging.{adoptable}
use Rattle.drain_copy.proofs.Reckoned.{image_length_is, narrow_of, short_of}
use Rattle.drain_copy.proofs.drain.Drain.plan.Goals as goal

pub returns-in-Ok-clause-image : goal.returns-in-Ok-clause-image
returns-in-Ok-clause-image c =
    let tables = c.args.tables in
    let plan = c.in-Ok.plan in
    let same : c.as_slice-2.result.now ≡ tables = c.as_slice-2.ensures in
    let fits : plan.place < 2 ^ 64 = omega (arith, c.in-Ok.ensures.fits) in
    let room = subst (λ (ts : List DrainTable). has_no_room ts ≡ false) c.as_slice.ensures c.in-Some.ensures.some.room in
    let low : 16 + tables_size tables < 2 ^ 63 = omega (arith, short_of tables room, image_length_is tables) in
    let written = may_be_written tables c.args.log_end c.requires.few c.requires.names c.requires.parts (narrow_of tables room) low c.requires.log_end in
    subst (λ (image : List ℕ). IsAdoptable image (images_of tables) c.args.log_end) (sym c.of-in-Ok.ensures.image)
    (adoptable tables c.args.log_end plan.place plan.directory.items c.requires.distinct c.requires.parts written (c.in-Ok.ensures.place ∙ ap (λ (ts : List DrainTable). 16 + tables_size ts) same) fits
    (c.in-Ok.ensures.bytes ∙ ap (λ (ts : List DrainTable). directory_bytes (planned_directory ts c.args.log_end)) same))
