use Rattle.std.proofs.Common.{◌∙◌, sym, ap, subst, Some, option_map}
use Rattle.std.proofs.lemmas.List.{map_push}
use Rattle.css_base.specs.Tokens.{lexeme, lexemes}
use Rattle.css_lex.specs.Words.{skip_behind}
use Rattle.css_lex.proofs.WordsRead.{IsReading, one_read, one_passed, words_failed, failure_found}
use Rattle.css_lex.proofs.words.read_words.Goals as goal
use Rattle.css_lex.proofs.words.read_words.Goals.{then-is_read+in_ok-word+in-Some+in_ok-push, else-is_read}

pub returns-in_default-clause-tokens : goal.returns-in_default-clause-tokens
returns-in_default-clause-tokens c =
    let piece = c.piece_from-piece.result in
    words_failed c.args.numbered.now.text.now c.args.line.now.source.now (lexemes c.loop-from.tokens.items) piece.shape c.args.skipped c.loop-from.skip c.loop-from.from piece.to
    c.loop-from.invariant.reading c.piece_from-piece.ensures.piece (sym c.is_read.ensures ∙ c.if-is_read.true)
    (sym c.in_ok-word.ensures ∙ ap (option_map lexeme) c.in_default.is)

pub returns-in_default-clause-failure : goal.returns-in_default-clause-failure
returns-in_default-clause-failure c =
    let piece = c.piece_from-piece.result in
    ap Some c.failure_in.ensures
    ∙ failure_found c.args.numbered.now.text.now c.args.line.now.source.now (lexemes c.loop-from.tokens.items) piece.shape c.args.skipped c.loop-from.skip c.loop-from.from piece.to
    c.loop-from.invariant.reading c.piece_from-piece.ensures.piece (sym c.is_read.ensures ∙ c.if-is_read.true)
    (sym c.in_ok-word.ensures ∙ ap (option_map lexeme) c.in_default.is)

pub loop-from-preserved : goal.loop-from-preserved
loop-from-preserved c =
    let text = c.args.numbered.now.text.now in
    let line = c.args.line.now.source.now in
    let piece = c.piece_from-piece.result in
    let words = lexemes c.loop-from.tokens.items in
    let all = lexemes c.if-is_read.tokens.items in
    let reading : IsReading text line all c.args.skipped (skip_behind c.loop-from.skip piece.shape) piece.to =
    elim c.if-is_read.branch [
      | then-is_read+in_ok-word+in-Some+in_ok-push w ↦
          one_read text line words all piece.shape (lexeme w.in-Some.word) c.args.skipped c.loop-from.skip c.loop-from.from piece.to c.loop-from.invariant.reading
          c.piece_from-piece.ensures.piece (sym c.is_read.ensures ∙ w.if-is_read.true) (sym w.in_ok-word.ensures ∙ ap (option_map lexeme) w.in-Some.is)
          (ap (λ v. lexemes v.items) w.tokens-is ∙ (ap lexemes w.in_ok-push.ensures.items ∙ map_push lexeme c.loop-from.tokens.items w.in-Some.word))
      | else-is_read w ↦
          subst (λ v. IsReading text line (lexemes v.items) c.args.skipped (skip_behind c.loop-from.skip piece.shape) piece.to) (sym w.tokens-is)
          (one_passed text line words piece.shape c.args.skipped c.loop-from.skip c.loop-from.from piece.to c.loop-from.invariant.reading
          c.piece_from-piece.ensures.piece (sym c.is_read.ensures ∙ w.if-is_read.false))
    ] in
    record {
      within = c.piece_from-piece.ensures.within;
      reading = subst (λ n. IsReading text line all c.args.skipped n piece.to) (sym c.left_to_skip-skip.ensures) reading;
    }
