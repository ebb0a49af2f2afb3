use Rattle.std.proofs.Common.{◌≡◌, ℕ, ◌+◌, ◌∙◌, sym, subst, length, List, [], ◌∷◌, ◌++◌, Some, arith}
use Rattle.rand_core.specs.Steps.{first_words}
use Rattle.rand_pcg.specs.Lcg.{Lcg}
use Rattle.rand_pcg.specs.Pcg.{pcg32}
use Rattle.leaf_table.specs.declared.replies.Reply.{Reply}
use Rattle.tail_picks.specs.Tails.{Tails, TryOf}
use Rattle.tailer.specs.Calls.{CallsOn, behind_tries, calls_of_tries, free_of, is_added, tries_seen, try_seen}
use Rattle.tailer.proofs.Going.{Trying, calls_more, drawn_last, ends, goes_on, is_next, runs_out, seen_more}
use Rattle.tailer.proofs.trying.try_all.Goals as goal

pub returns-in-Some-clause-tails : goal.returns-in-Some-clause-tails
returns-in-Some-clause-tails g c =
    let tail = c.args.tail.now in
    let fleet = tail.fleet.now in
    let loop = c.loop-turn in
    let tried = c.try_once-tried in
    let first = c.next_leaves-first in
    let next = is_next (length fleet) (length c.args.seats.now) loop.words first.result.0 first.result.1 (try_seen tried.result) c.requires.seats.count first.ensures.first first.ensures.second
    tried.ensures.leaves tried.ensures.two tried.ensures.add in
    subst (λ (ts : List (TryOf Reply)). Tails free_of is_added (length fleet) (first_words pcg32 32 c.args.words.now) ts (Some c.in-Some.leaf)) (sym (seen_more loop.tries.items c.push_reserved.new.self.items tried.result c.push_reserved.ensures.items))
    (ends fleet tail.table tail.rows.now c.args.words.now c.args.seats.now loop.turn (tries_seen loop.tries.items) loop.words loop.seats loop.invariant.2 (try_seen tried.result) c.in-Some.leaf c.loop-turn-test.true next
    (sym c.taker-took.ensures ∙ c.in-Some.is))

pub returns-in-Some-clause-words : goal.returns-in-Some-clause-words
returns-in-Some-clause-words g c =
    let tail = c.args.tail.now in
    let loop = c.loop-turn in
    let pushed = c.push_reserved.ensures in
    drawn_last tail.fleet.now tail.table tail.rows.now c.args.words.now c.args.seats.now loop.turn (tries_seen loop.tries.items) loop.words loop.seats loop.invariant.2
    c.push_reserved.new.self.items c.next_leaves-first.new.words c.next_leaves-first.ensures.words (omega (arith, c.push_reserved.new.self.ok.0, pushed.len, loop.invariant.0))

pub returns-in-Some-clause-calls : goal.returns-in-Some-clause-calls
returns-in-Some-clause-calls g c =
    let tail = c.args.tail.now in
    let fleet = tail.fleet.now in
    let loop = c.loop-turn in
    let tried = c.try_once-tried in
    subst (λ (ts : List (TryOf Reply)). CallsOn fleet tail.table c.args.seats.now (calls_of_tries tail.rows.now ts) tried.new.seats) (sym (seen_more loop.tries.items c.push_reserved.new.self.items tried.result c.push_reserved.ensures.items))
    (calls_more fleet tail.table tail.rows.now c.args.seats.now loop.seats tried.new.seats (tries_seen loop.tries.items) (try_seen tried.result) loop.invariant.2.calls tried.ensures.calls)

pub loop-turn-preserved : goal.loop-turn-preserved
loop-turn-preserved g c =
    let tail = c.args.tail.now in
    let fleet = tail.fleet.now in
    let loop = c.loop-turn in
    let tried = c.try_once-tried in
    let first = c.next_leaves-first in
    let next = is_next (length fleet) (length c.args.seats.now) loop.words first.result.0 first.result.1 (try_seen tried.result) c.requires.seats.count first.ensures.first first.ensures.second
    tried.ensures.leaves tried.ensures.two tried.ensures.add in
    let more = goes_on fleet tail.table tail.rows.now c.args.words.now c.args.seats.now loop.turn (tries_seen loop.tries.items) loop.words loop.seats loop.invariant.2 (try_seen tried.result) tried.new.seats c.loop-turn-test.true next
    (sym c.taker-took.ensures ∙ c.in_default.is) tried.ensures.calls tried.ensures.seats in
    let pushed = c.push_reserved.ensures in (
      omega (arith, pushed.len, loop.invariant.0),
      omega (arith, pushed.capacity, loop.invariant.1),
      subst (λ (ts : List (TryOf Reply)). Trying fleet tail.table tail.rows.now c.args.words.now c.args.seats.now (loop.turn + 1) ts first.new.words tried.new.seats)
          (sym (seen_more loop.tries.items c.push_reserved.new.self.items tried.result pushed.items))
          (subst (λ (words : Lcg). Trying fleet tail.table tail.rows.now c.args.words.now c.args.seats.now (loop.turn + 1) (tries_seen loop.tries.items ++ try_seen tried.result ∷ []) words tried.new.seats) (sym first.ensures.words) more),
    )

pub returns-clause-tails : goal.returns-clause-tails
returns-clause-tails g c =
    let tail = c.args.tail.now in
    let loop = c.loop-turn in
    runs_out tail.fleet.now tail.table tail.rows.now c.args.words.now c.args.seats.now loop.turn (tries_seen loop.tries.items) loop.words loop.seats loop.invariant.2 (omega (arith, c.loop-turn-test.false, loop.auto.turn-end))

pub returns-clause-words : goal.returns-clause-words
returns-clause-words g c =
    let loop = c.loop-turn in
    subst (λ (n : ℕ). loop.words ≡ behind_tries n c.args.words.now) (sym loop.invariant.0 ∙ loop.tries.ok.0) loop.invariant.2.drawn
