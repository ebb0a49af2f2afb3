use Rattle.std.proofs.Common.{◌≡◌, ◌+◌, length, arith, rules, sym, ◌∙◌}
use Rattle.query_text.specs.declared.places.Move.TheVariants.{On}
use Rattle.query_text.specs.Reading.{goes_on}
use Rattle.query_text.proofs.Lexing.{one_token, take_rest}
use Rattle.query_text.proofs.OneStep.{goes_further}
use Rattle.query_text.proofs.reading.read.Goals as goal

pub loop-at-preserved : goal.loop-at-preserved
loop-at-preserved c =
    let text = c.args.text.now in
    let at = c.loop-at.at in
    let found = c.in_ok-found.found in
    let all = take_rest text (at + 1) in
    let is = rw all at c.in_ok-found.ensures.value in
    let short = rw all at c.in_ok-found.ensures.long in
    let cut = one_token text at found (omega arith) (c.loop-at.invariant.solid (omega arith)) is short in
    let moved : On c.in-On.next_query c.in-On.next_place ≡ goes_on c.loop-at.query c.loop-at.place found.token = search rules in
    let further = goes_further (length text) at c.loop-at.query c.in-On.next_query c.loop-at.place c.in-On.next_place found.token _ moved in
    let passed = c.next_solid-at-in-loop-at.ensures.same in
    record {
      within = c.next_solid-at-in-loop-at.ensures.within;
      solid = c.next_solid-at-in-loop-at.ensures.solid;
      same = (rw (← passed) (sym further)) ∙ (rw cut at c.loop-at.invariant.same);
    }
