use Rattle.std.proofs.Common.{rules, ◌≡◌, ◌+◌, ◌≤◌, List, length, ℤ, IsTrue, IfSome, to_z, of_z, sym, ap, subst, ◌∙◌, arith}
use Rattle.std.specs.Int.{w64}
use Rattle.std.specs.List.{AllByRecursion, list_all}
use Rattle.std.proofs.lemmas.Int.{to_z-of_z}
use Rattle.table_state.specs.Tables.{most_rows}
use Rattle.row_blocks.specs.Blocks.{Block, IsBlock, rows_in, times_of}
use Rattle.time_range.specs.Ranges.{IsRange}
use Rattle.row_blocks.specs.Held.{live_rows}
use Rattle.adopt.specs.Finishing.{live_count}
use Rattle.region_layout.specs.Region.{block_in}
use Rattle.berth_face.specs.Berth.{Pair}
use Rattle.region_reading.proofs.Reading.{untouched_on}
use Rattle.region_inspect.specs.declared.seen.BlockLine.{BlockLine}
use Rattle.region_inspect.specs.Shows.{ShowsBlock}
use Rattle.region_inspect.specs.Inspecting.{AllBlocksTold, CutsInside, HasKinds, IsSmall, ToldSoFar, blocks_in}
use Rattle.region_inspect.proofs.Counting.{all_counted, are_of_kinds, not_all, not_allowed, one_more, one_of_other, too_many, uncut}
use Rattle.region_inspect.proofs.blocks.inspect_blocks.Goals as goal

pub returns-in_default-2-clause-none : goal.returns-in_default-2-clause-none
returns-in_default-2-clause-none g c =
    λ told none each kinds few.
    let region = (g.B.Berth.meaning c.args.berth.now).held.region in
    let so_far = c.loop-places.invariant.untouched in
    let told_mid = subst IsTrue (sym so_far.time.tells) told in
    let broken = subst (λ (p : Pair). IsBlock (block_in p.region c.in-Some.places) → ⊥) (so_far.stays told).held (c.in_ok-block.ensures.none told_mid (search rules)) in
    not_all region c.args.version c.args.blocks.items c.args.skip (to_z w64 (of_z w64 c.args.horizon)) c.loop-places.lines.items c.loop-places.live c.loop-places.cut c.loop-places.rest.items c.pop_front.new.self.items c.in-Some.places
    (c.loop-places.invariant.told told) c.in-Some.ensures.items broken each

pub count_live-requires : goal.count_live-requires
count_live-requires g c =
    let rows = subst (λ f. IfSome f (λ (b : Block). b.rows ≡ c.in-Some.places.rows)) c.in-Some-2.is c.in_ok-block.ensures.rows in
    let inside = subst (CutsInside c.loop-places.cut) c.in-Some.ensures.items c.loop-places.invariant.inside in
    omega (arith, rows, inside)

pub returns-then-not-are_allowed-clause-none : goal.returns-then-not-are_allowed-clause-none
returns-then-not-are_allowed-clause-none g c =
    λ told none each kinds few.
    let region = (g.B.Berth.meaning c.args.berth.now).held.region in
    let mid = g.B.Berth.meaning c.loop-places.berth in
    let version = c.args.version in
    let places = c.in-Some.places in
    let block = c.in-Some-2.block in
    let so_far = c.loop-places.invariant.untouched in
    let told_mid = subst IsTrue (sym so_far.time.tells) told in
    let same = subst (λ (p : Pair). block ≡ block_in p.region places) (so_far.stays told).held (subst (λ f. IfSome f (λ (b : Block). b ≡ block_in mid.held.region places)) c.in-Some-2.is (c.in_ok-block.ensures.some told_mid)) in
    let fails = one_of_other version block.columns (sym (ap (list_all _) c.columns.ensures) ∙ sym c.are_allowed.ensures ∙ c.if-not-are_allowed.true) in
    not_allowed region version c.args.blocks.items c.args.skip (to_z w64 (of_z w64 c.args.horizon)) c.loop-places.lines.items c.loop-places.live c.loop-places.cut c.loop-places.rest.items c.pop_front.new.self.items places
    (c.loop-places.invariant.told told) c.in-Some.ensures.items (λ has. fails (subst (HasKinds version) (sym same) has)) kinds

pub returns-then-not-are_allowed-clause-untouched : goal.returns-then-not-are_allowed-clause-untouched
returns-then-not-are_allowed-clause-untouched g c =
    untouched_on (g.B.Berth.meaning c.args.berth.now) (g.B.Berth.meaning c.loop-places.berth) (g.B.Berth.meaning c.read_block.new.berth) c.loop-places.invariant.untouched c.read_block.ensures.untouched

pub returns-then-live-gt-MOST_ROWS-clause-none : goal.returns-then-live-gt-MOST_ROWS-clause-none
returns-then-live-gt-MOST_ROWS-clause-none g c =
    λ told none each kinds few.
    let region = (g.B.Berth.meaning c.args.berth.now).held.region in
    let mid = g.B.Berth.meaning c.loop-places.berth in
    let all = c.args.blocks.items in
    let h = to_z w64 (of_z w64 c.args.horizon) in
    let cut = c.loop-places.cut in
    let places = c.in-Some.places in
    let so_far = c.loop-places.invariant.untouched in
    let told_mid = subst IsTrue (sym so_far.time.tells) told in
    let same = subst (λ (p : Pair). c.in-Some-2.block ≡ block_in p.region places) (so_far.stays told).held (subst (λ f. IfSome f (λ (b : Block). b ≡ block_in mid.held.region places)) c.in-Some-2.is (c.in_ok-block.ensures.some told_mid)) in
    let count = c.from-live.ensures ∙ c.count_live.ensures ∙ ap (λ (b : Block). length (live_rows cut h b)) same in
    let few_here = subst (λ (t : ℤ). live_count (blocks_in region all) c.args.skip t ≤ most_rows) (sym (to_z-of_z w64 c.args.horizon c.ranges.horizon)) few in
    let inside = subst (CutsInside cut) c.in-Some.ensures.items c.loop-places.invariant.inside in
    too_many region c.args.version all c.args.skip h c.loop-places.lines.items c.loop-places.live cut c.loop-places.rest.items c.pop_front.new.self.items places (c.loop-places.invariant.told told) c.in-Some.ensures.items
    c.from-live.result inside count c.if-live-gt-MOST_ROWS.true few_here

pub returns-then-live-gt-MOST_ROWS-clause-untouched : goal.returns-then-live-gt-MOST_ROWS-clause-untouched
returns-then-live-gt-MOST_ROWS-clause-untouched g c =
    untouched_on (g.B.Berth.meaning c.args.berth.now) (g.B.Berth.meaning c.loop-places.berth) (g.B.Berth.meaning c.read_block.new.berth) c.loop-places.invariant.untouched c.read_block.ensures.untouched

pub returns-in_err-put-clause-untouched : goal.returns-in_err-put-clause-untouched
returns-in_err-put-clause-untouched g c =
    untouched_on (g.B.Berth.meaning c.args.berth.now) (g.B.Berth.meaning c.loop-places.berth) (g.B.Berth.meaning c.read_block.new.berth) c.loop-places.invariant.untouched c.read_block.ensures.untouched

pub loop-places-preserved : goal.loop-places-preserved
loop-places-preserved g c =
    let old = g.B.Berth.meaning c.args.berth.now in
    let mid = g.B.Berth.meaning c.loop-places.berth in
    let region = old.held.region in
    let all = c.args.blocks.items in
    let h = to_z w64 (of_z w64 c.args.horizon) in
    let cut = c.loop-places.cut in
    let places = c.in-Some.places in
    let block = c.in-Some-2.block in
    let so_far = c.loop-places.invariant.untouched in
    let few = c.if-live-gt-MOST_ROWS.false in
    let inside = subst (CutsInside cut) c.in-Some.ensures.items c.loop-places.invariant.inside in
    record {
      told = λ told.
          let told_mid = subst IsTrue (sym so_far.time.tells) told in
          let same = subst (λ (p : Pair). block ≡ block_in p.region places) (so_far.stays told).held (subst (λ f. IfSome f (λ (b : Block). b ≡ block_in mid.held.region places)) c.in-Some-2.is (c.in_ok-block.ensures.some told_mid)) in
          let is_block = subst IsBlock same (subst (λ f. IfSome f IsBlock) c.in-Some-2.is c.in_ok-block.ensures.block) in
          let kinds = subst (HasKinds c.args.version) same (are_of_kinds c.args.version block.columns (sym (ap (list_all _) c.columns.ensures) ∙ sym c.are_allowed.ensures ∙ c.if-not-are_allowed.false)) in
          let count = c.from-live.ensures ∙ c.count_live.ensures ∙ ap (λ (b : Block). length (live_rows cut h b)) same in
          let shows : ShowsBlock region places c.line_of.result = record {
            rows = c.line_of.ensures.rows ∙ ap (λ (b : Block). b.rows) same;
            times = subst (λ (b : Block). IsRange (times_of (rows_in b)) c.line_of.result.from c.line_of.result.to) same c.line_of.ensures.times;
            columns = c.line_of.ensures.columns ∙ c.size_of-size.ensures.columns;
            bytes = c.line_of.ensures.bytes ∙ c.size_of-size.ensures.bytes;
          } in
          subst (λ (ls : List BlockLine). ToldSoFar c.args.version region all c.args.skip h ls (c.loop-places.live + c.from-live.result) 0 c.pop_front.new.self.items) (sym c.in_ok-put.ensures)
          (one_more region c.args.version all c.args.skip h c.loop-places.lines.items c.loop-places.live cut c.loop-places.rest.items c.pop_front.new.self.items places (c.loop-places.invariant.told told) c.in-Some.ensures.items
          c.from-live.result inside count c.line_of.result is_block kinds shows);
      untouched = untouched_on old mid (g.B.Berth.meaning c.read_block.new.berth) so_far c.read_block.ensures.untouched;
      small = (subst (AllByRecursion IsSmall) c.in-Some.ensures.items c.loop-places.invariant.small).1;
      inside = uncut c.pop_front.new.self.items;
      few = omega (arith, few);
    }

pub loop-places-preserved-in_ok-put : goal.loop-places-preserved-in_ok-put
loop-places-preserved-in_ok-put g c =
    let old = g.B.Berth.meaning c.args.berth.now in
    let mid = g.B.Berth.meaning c.loop-places.berth in
    let region = old.held.region in
    let all = c.args.blocks.items in
    let h = to_z w64 (of_z w64 c.args.horizon) in
    let cut = c.loop-places.cut in
    let places = c.in-Some.places in
    let block = c.in-Some-2.block in
    let so_far = c.loop-places.invariant.untouched in
    let few = c.if-live-gt-MOST_ROWS.false in
    let inside = subst (CutsInside cut) c.in-Some.ensures.items c.loop-places.invariant.inside in
    record {
      told = λ told.
          let told_mid = subst IsTrue (sym so_far.time.tells) told in
          let same = subst (λ (p : Pair). block ≡ block_in p.region places) (so_far.stays told).held (subst (λ f. IfSome f (λ (b : Block). b ≡ block_in mid.held.region places)) c.in-Some-2.is (c.in_ok-block.ensures.some told_mid)) in
          let is_block = subst IsBlock same (subst (λ f. IfSome f IsBlock) c.in-Some-2.is c.in_ok-block.ensures.block) in
          let kinds = subst (HasKinds c.args.version) same (are_of_kinds c.args.version block.columns (sym (ap (list_all _) c.columns.ensures) ∙ sym c.are_allowed.ensures ∙ c.if-not-are_allowed.false)) in
          let count = c.from-live.ensures ∙ c.count_live.ensures ∙ ap (λ (b : Block). length (live_rows cut h b)) same in
          let shows : ShowsBlock region places c.line_of.result = record {
            rows = c.line_of.ensures.rows ∙ ap (λ (b : Block). b.rows) same;
            times = subst (λ (b : Block). IsRange (times_of (rows_in b)) c.line_of.result.from c.line_of.result.to) same c.line_of.ensures.times;
            columns = c.line_of.ensures.columns ∙ c.size_of-size.ensures.columns;
            bytes = c.line_of.ensures.bytes ∙ c.size_of-size.ensures.bytes;
          } in
          subst (λ (ls : List BlockLine). ToldSoFar c.args.version region all c.args.skip h ls (c.loop-places.live + c.from-live.result) 0 c.pop_front.new.self.items) (sym c.in_ok-put.ensures)
          (one_more region c.args.version all c.args.skip h c.loop-places.lines.items c.loop-places.live cut c.loop-places.rest.items c.pop_front.new.self.items places (c.loop-places.invariant.told told) c.in-Some.ensures.items
          c.from-live.result inside count c.line_of.result is_block kinds shows);
      untouched = untouched_on old mid (g.B.Berth.meaning c.read_block.new.berth) so_far c.read_block.ensures.untouched;
      small = (subst (AllByRecursion IsSmall) c.in-Some.ensures.items c.loop-places.invariant.small).1;
      inside = uncut c.pop_front.new.self.items;
      few = omega (arith, few);
    }

pub returns-clause-some : goal.returns-clause-some
returns-clause-some g c =
    λ told.
    let region = (g.B.Berth.meaning c.args.berth.now).held.region in
    let same = to_z-of_z w64 c.args.horizon c.ranges.horizon in
    subst (λ (h : ℤ). AllBlocksTold c.args.version region c.args.blocks.items c.args.skip h c.loop-places.live c.of.result) same
    (subst (λ lines. AllBlocksTold c.args.version region c.args.blocks.items c.args.skip (to_z w64 (of_z w64 c.args.horizon)) c.loop-places.live lines) (sym c.of.ensures)
    (all_counted region c.args.version c.args.blocks.items c.args.skip (to_z w64 (of_z w64 c.args.horizon)) c.loop-places.lines.items c.loop-places.live c.loop-places.cut c.loop-places.rest.items (c.loop-places.invariant.told told) (search rules)))
