use Rattle.std.proofs.Common.{◌∙◌, ◌-◌, sym, length, arith, ◌<◌}
use Rattle.css_lex.proofs.LineEnds.{end_blank, end_full}
use Rattle.css_lex.proofs.directive.line_end.Goals as goal

pub loop-from-preserved : goal.loop-from-preserved
loop-from-preserved c =
    let piece = c.piece_from-piece.result in
    record {
      within = c.piece_from-piece.ensures.within;
      inside = c.loop-from.invariant.inside;
      same =
          c.loop-from.invariant.same
          ∙ end_blank c.args.line.now.source.now piece.shape c.loop-from.end c.loop-from.from piece.to c.piece_from-piece.ensures.piece
          (sym c.is_white_piece.ensures ∙ c.if-not-is_white_piece.false);
    }

pub loop-from-preserved-then-not-is_white_piece : goal.loop-from-preserved-then-not-is_white_piece
loop-from-preserved-then-not-is_white_piece c =
    let piece = c.piece_from-piece.result in
    let line = c.args.line.now.source.now in
    record {
      within = c.piece_from-piece.ensures.within;
      inside =
          let before : piece.to - 1 < length line = let s = c.piece_from-piece.ensures.some in let i = c.piece_from-piece.ensures.inside in omega (arith, s, i) in
          let h = c.requires (piece.to - 1) (record { byte = 0; place = 0 }) before in omega (arith, h);
      same =
          c.loop-from.invariant.same
          ∙ end_full line piece.shape c.loop-from.end c.loop-from.from piece.to c.piece_from-piece.ensures.piece (sym c.is_white_piece.ensures ∙ c.if-not-is_white_piece.true);
    }
