use Rattle.std.proofs.Common.{◌+◌, ◌∷◌, drop, ap, sym, ◌∙◌, arith}
use Rattle.std.proofs.lemmas.List.{drop_all, drop_more}
use Rattle.standing_feed.specs.declared.heard.Heard.{Heard}
use Rattle.standing_feed.proofs.Heeding.{heeds_end, heeds_more}
use Rattle.standing_feed.proofs.following.heed_copies.Goals as goal

pub loop-entry-preserved : goal.loop-entry-preserved
loop-entry-preserved c =
    let all = c.args.heard.now in
    let i = c.loop-entry.entry-index in
    record {
      query = c.heed_copy.ensures.query ∙ c.loop-entry.invariant.query;
      so_far = heeds_more c.args.standing.now c.loop-entry.standing c.heed_copy.new.standing all (drop i all) (drop (i + 1) all) c.entry-item.result
          c.loop-entry.invariant.so_far (drop_more all i c.entry-item.result c.loop-entry-test.true ∙ ap (λ (h : Heard). h ∷ drop (i + 1) all) (sym c.entry-item.is)) c.in_ok-heed_copy.ensures.heeds;
    }

pub returns-clause-heeds : goal.returns-clause-heeds
returns-clause-heeds c =
    let all = c.args.heard.now in
    let i = c.loop-entry.entry-index in
    heeds_end c.args.standing.now c.loop-entry.standing all (drop i all) c.loop-entry.invariant.so_far (drop_all i all (omega (arith, c.loop-entry-test.false)))
