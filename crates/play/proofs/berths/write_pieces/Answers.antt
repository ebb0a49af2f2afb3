use Rattle.std.proofs.Common.{ap, ◌∙◌, arith}
use Rattle.std.specs.Slice.Iter.{chunks_rest, chunks_size}
use Rattle.play.proofs.Pieces.{pieces_begin, piece_fits, pieces_go_on, pieces_end, pieces_cut, whole_front}
use Rattle.play.proofs.berths.write_pieces.Goals as goal

pub loop-piece-init : goal.loop-piece-init
loop-piece-init g c =
    let same = c.into_iter-piece-iterator.ensures.into_iter_gives in
    record {
      can_next = omega (arith, ap chunks_size same, c.chunks-piece-items.ensures.size);
      is_finite = tt;
      written = pieces_begin c.args.names.now c.args.lines.now _ _ c.requires (ap chunks_rest same ∙ c.chunks-piece-items.ensures.rest);
      later = omega arith;
    }

pub write_piece-requires : goal.write_piece-requires
write_piece-requires g c = piece_fits c.in-Some.piece.now (chunks_rest c.next.new.self) c.loop-piece.invariant.written c.in-Some.ensures.steps.1.0

pub loop-piece-preserved : goal.loop-piece-preserved
loop-piece-preserved g c =
    let before = c.loop-piece.invariant in
    let step = c.in-Some.ensures.steps in
    record {
      can_next = omega (arith, step.0, before.can_next);
      is_finite = tt;
      written = pieces_go_on _ c.in-Some.piece.now (chunks_rest c.next.new.self) before.written step.1.0 c.in_ok-write_piece.ensures.written;
      later = omega (arith, before.later, c.write_piece.ensures.later);
    }

pub returns-clause-written : goal.returns-clause-written
returns-clause-written g c = pieces_end c.loop-piece.invariant.written c.in-None.ensures.steps.1.0

pub returns-clause-front : goal.returns-clause-front
returns-clause-front g c = whole_front _ _ _ (pieces_end c.loop-piece.invariant.written c.in-None.ensures.steps.1.0)

pub returns-in_err-write_piece-clause-front : goal.returns-in_err-write_piece-clause-front
returns-in_err-write_piece-clause-front g c = pieces_cut _ c.in-Some.piece.now (chunks_rest c.next.new.self) c.loop-piece.invariant.written c.in-Some.ensures.steps.1.0 c.write_piece.ensures.front
