use Rattle.std.proofs.Common.{◌≡◌, ◌≤◌, ◌+◌, ℕ, List, length, take, drop, vec_len, Ok, Err, true, ap, sym, subst, arith, rules, length-take}
use Rattle.std.proofs.lemmas.List.{length-drop}
use Rattle.text_lines.specs.Parts.{ends_line}
use Rattle.row_count.specs.Count.{IsCountedBehind}
use Rattle.row_count.specs.Outcome.{IsAtFault}
use Rattle.row_count.proofs.Pieces.{last_exact, last_refused, not_read, stopped_memory, tallied_all, tallied_cut, tallied_few, tallied_none, tallied_read, tallied_refused, tallied_takes}
use Rattle.row_count.proofs.count.count_text.Goals as goal

pub pieces-init : goal.pieces-init
pieces-init g c = (tallied_none c.args.range _ _ c.new-text.ensures.items, search rules, search rules, search rules)

pub returns-in-Err-clause-stopped : goal.returns-in-Err-clause-stopped
returns-in-Err-clause-stopped g c =
    let l = c.pieces in
    not_read c.args.range _ _ l.text.items l.passed l.so_far l.invariant.0 (g.S.Source.left c.read_piece.new.source) (vec_len l.text) c.in-Err.error c.from.result (search rules) (search rules) c.in-Err.ensures.too_long c.in-Err.ensures.takes c.from.ensures

pub count_behind-requires-clause-fits : goal.count_behind-requires-clause-fits
count_behind-requires-clause-fits g c κs within =
    let l = c.pieces in
    omega (arith, (tallied_few c.args.range _ _ l.text.items l.passed l.so_far l.invariant.0).1, c.as_slice.ensures.len, c.in-Ok.ensures.small)

pub count_behind-requires-clause-few : goal.count_behind-requires-clause-few
count_behind-requires-clause-few g c κs within =
    let l = c.pieces in
    (tallied_few c.args.range _ _ l.text.items l.passed l.so_far l.invariant.0).0

pub returns-then-ended-clause-counted : goal.returns-then-ended-clause-counted
returns-then-ended-clause-counted g c =
    let l = c.pieces in
    let text = c.read_piece.new.text.items in
    let t = tallied_read c.args.range _ _ _ l.text.items text l.passed l.so_far l.invariant.0 c.in-Ok.ensures.took in
    let counted = subst (λ (it : List ℕ). IsCountedBehind c.args.range l.so_far it (Ok c.in-Ok-count_behind.count)) c.as_slice.ensures.value c.in-Ok-count_behind.ensures in
    tallied_all c.args.range _ _ text l.passed l.so_far t (c.in-Ok.ensures.ended c.if-ended.true) c.in-Ok-count_behind.count counted

pub returns-then-ended-clause-exact : goal.returns-then-ended-clause-exact
returns-then-ended-clause-exact g c =
    let l = c.pieces in
    let text = c.read_piece.new.text.items in
    let t = tallied_read c.args.range _ _ _ l.text.items text l.passed l.so_far l.invariant.0 c.in-Ok.ensures.took in
    let len : vec_len c.read_piece.new.text ≡ length text = search rules in
    let small : l.passed + length text ≤ 16777216 = omega (arith, len, c.in-Ok.ensures.small) in
    let counted = subst (λ (it : List ℕ). IsCountedBehind c.args.range l.so_far it (Ok c.in-Ok-count_behind.count)) c.as_slice.ensures.value c.in-Ok-count_behind.ensures in
    last_exact c.args.range _ _ text l.passed l.so_far t (c.in-Ok.ensures.ended c.if-ended.true) small c.in-Ok-count_behind.count counted

pub returns-then-ended-clause-takes : goal.returns-then-ended-clause-takes
returns-then-ended-clause-takes g c =
    let l = c.pieces in
    let text = c.read_piece.new.text.items in
    let t = tallied_read c.args.range _ _ _ l.text.items text l.passed l.so_far l.invariant.0 c.in-Ok.ensures.took in
    let len : vec_len c.read_piece.new.text ≡ length text = search rules in
    tallied_takes c.args.range _ _ text l.passed l.so_far t (omega (arith, len, c.in-Ok.ensures.small))

pub returns-in-Err-count_behind-clause-stopped : goal.returns-in-Err-count_behind-clause-stopped
returns-in-Err-count_behind-clause-stopped g c =
    let l = c.pieces in
    let text = c.read_piece.new.text.items in
    let t = tallied_read c.args.range _ _ _ l.text.items text l.passed l.so_far l.invariant.0 c.in-Ok.ensures.took in
    let len : vec_len c.read_piece.new.text ≡ length text = search rules in
    let small : l.passed + length text ≤ 16777216 = omega (arith, len, c.in-Ok.ensures.small) in
    let refused = subst (λ (it : List ℕ). IsCountedBehind c.args.range l.so_far it (Err c.in-Err-count_behind.error)) c.as_slice.ensures.value c.in-Err-count_behind.ensures in
    last_refused c.args.range _ _ text l.passed l.so_far t (c.in-Ok.ensures.ended c.if-ended.true) small c.in-Err-count_behind.error c.status_of.result refused c.status_of.ensures

pub count_behind-requires-in-pieces-clause-fits : goal.count_behind-requires-in-pieces-clause-fits
count_behind-requires-in-pieces-clause-fits g c κs within =
    let l = c.pieces in
    let slice = c.as_slice-in-pieces-2 in
    omega (arith, (tallied_few c.args.range _ _ l.text.items l.passed l.so_far l.invariant.0).1, length-take c.last_end-end.result slice.result.now, slice.ensures.len, c.in-Ok.ensures.small)

pub count_behind-requires-in-pieces-clause-few : goal.count_behind-requires-in-pieces-clause-few
count_behind-requires-in-pieces-clause-few g c κs within =
    let l = c.pieces in
    (tallied_few c.args.range _ _ l.text.items l.passed l.so_far l.invariant.0).0

pub returns-in-Err-count_behind-2-clause-stopped : goal.returns-in-Err-count_behind-2-clause-stopped
returns-in-Err-count_behind-2-clause-stopped g c =
    let l = c.pieces in
    let text = c.read_piece.new.text.items in
    let cut = c.last_end-end.result in
    let error = c.in-Err-count_behind-2.error in
    let t = tallied_read c.args.range _ _ _ l.text.items text l.passed l.so_far l.invariant.0 c.in-Ok.ensures.took in
    let len : vec_len c.read_piece.new.text ≡ length text = search rules in
    let within : cut ≤ length text = omega (arith, c.last_end-end.ensures.within, ap length c.as_slice-in-pieces.ensures.value) in
    let ended = subst (λ (it : List ℕ). ends_line (take cut it) ≡ true) c.as_slice-in-pieces.ensures.value c.last_end-end.ensures.ended in
    let refused = subst (λ (it : List ℕ). IsCountedBehind c.args.range l.so_far (take cut it) (Err error)) c.as_slice-in-pieces-2.ensures.value c.in-Err-count_behind-2.ensures in
    let taken : l.passed + length text ≡ l.passed + c.len.result = omega (arith, len, c.len.ensures) in
    let before = g.S.Source.left c.args.source.now in
    let now = g.S.Source.left c.read_piece.new.source in
    c.refusal.ensures.stopped c.args.range before (subst (λ (n : ℕ). IsAtFault c.args.range before now n error) taken (tallied_refused c.args.range before now text l.passed l.so_far t cut within ended error refused))

pub returns-then-is_err-clause-stopped : goal.returns-then-is_err-clause-stopped
returns-then-is_err-clause-stopped g c =
    let l = c.pieces in
    let text = c.read_piece.new.text.items in
    let t = tallied_read c.args.range _ _ _ l.text.items text l.passed l.so_far l.invariant.0 c.in-Ok.ensures.took in
    let len : vec_len c.read_piece.new.text ≡ length text = search rules in
    stopped_memory c.args.range _ _ (tallied_takes c.args.range _ _ text l.passed l.so_far t (omega (arith, len, c.in-Ok.ensures.small)))

pub pieces-preserved : goal.pieces-preserved
pieces-preserved g c =
    let l = c.pieces in
    let text = c.read_piece.new.text.items in
    let cut = c.last_end-end.result in
    let count = c.in-Ok-count_behind-2.count in
    let t = tallied_read c.args.range _ _ _ l.text.items text l.passed l.so_far l.invariant.0 c.in-Ok.ensures.took in
    let len : vec_len c.read_piece.new.text ≡ length text = search rules in
    let within : cut ≤ length text = omega (arith, c.last_end-end.ensures.within, ap length c.as_slice-in-pieces.ensures.value) in
    let ended = subst (λ (it : List ℕ). ends_line (take cut it) ≡ true) c.as_slice-in-pieces.ensures.value c.last_end-end.ensures.ended in
    let counted = subst (λ (it : List ℕ). IsCountedBehind c.args.range l.so_far (take cut it) (Ok count)) c.as_slice-in-pieces-2.ensures.value c.in-Ok-count_behind-2.ensures in
    let rest : c.drop_front.new.text.items ≡ drop cut text = search rules in
    let left : vec_len c.drop_front.new.text ≡ length c.drop_front.new.text.items = search rules in (
      tallied_cut c.args.range _ _ text l.passed l.so_far t cut within ended count c.drop_front.new.text.items counted rest,
      search rules,
      omega (arith, left, ap length rest, length-drop cut text, len, within, c.in-Ok.ensures.small),
      search rules,
    )
