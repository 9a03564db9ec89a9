use Rattle.std.proofs.Common.{refl}
use Rattle.std.proofs.lemmas.Result.{err_from_is_err_and}
use Rattle.surf_text.specs.Pieces.{piece_text, pieces_text}
use Rattle.surf_text.proofs.Writing.{loop_more, loop_stop, loop_done}
use Rattle.surf_text.proofs.page.Page.push_each.Goals as goal

pub returns-in_err-push_piece : goal.returns-in_err-push_piece
returns-in_err-push_piece c =
    let p = err_from_is_err_and c.from_residual.result c.from_residual.ensures.1 in
    record {
      puts = loop_stop pieces_text piece_text refl (λ x xs. refl) c.args.pieces.now c.loop-piece.piece-index _ c.loop-piece-test.true c.args.self.now c.loop-piece.self c.push_piece.new.self (tt {0}) c.loop-piece.invariant c.push_piece.result c.in_err-push_piece.field-0.0 c.from_residual.result c.in_err-push_piece.was (rw (p.1, p.2) refl) c.push_piece.ensures.puts;
    }

pub loop-piece-preserved : goal.loop-piece-preserved
loop-piece-preserved c = loop_more pieces_text piece_text refl (λ x xs. refl) c.args.pieces.now c.loop-piece.piece-index _ c.loop-piece-test.true c.args.self.now c.loop-piece.self c.push_piece.new.self (tt {0}) c.loop-piece.invariant c.push_piece.result c.in_ok-push_piece.field-0 c.in_ok-push_piece.was c.push_piece.ensures.puts

pub returns : goal.returns
returns c = record { puts = loop_done pieces_text piece_text refl (λ x xs. refl) c.args.pieces.now c.loop-piece.piece-index c.args.self.now c.loop-piece.self (tt {0}) c.loop-piece-test.false c.loop-piece.invariant }
