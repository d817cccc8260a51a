use Rattle.std.proofs.Common.{◌≡◌, ◌+◌, ◌++◌, ◌∷◌, [], ◌∙◌, sym, ap, subst, arith, List}
use Rattle.std.proofs.lemmas.Result.{on_ok_weaker}
use Rattle.std.proofs.lemmas.List.{map_push}
use Rattle.css_lexemes.specs.declared.source.SourceByte.{SourceByte}
use Rattle.css_lexemes.specs.Source.{bytes_of}
use Rattle.css_lex.specs.Refusals.{line_breaches}
use Rattle.css_lex.specs.Found.{IsFirst}
use Rattle.css_lex.specs.LexState.{state_of, line_of, IsLexed}
use Rattle.css_lexemes.proofs.Erasing.{at_place}
use Rattle.css_lex.proofs.TextRead.{IsReadTo, start_read, byte_read, line_read, line_broken, last_read, last_broken}
use Rattle.css_lex.proofs.lexing.read_text.Goals as goal
use Rattle.css_lex.proofs.lexing.read_text.Goals.{then-source-eq10+in_default, else-source-eq10+in_ok-push+in_ok-push-2}

pub loop-source-init : goal.loop-source-init
loop-source-init c =
    let text = c.args.numbered.now.text.now in
    record {
      same = c.new-bytes.ensures.items ∙ sym (ap bytes_of c.new-line.ensures.items);
      read =
          subst (λ (l : List SourceByte). IsReadTo text c.args.shown.now c.args.brought.now l 0) (sym c.new-line.ensures.items)
          (start_read text c.args.shown.now c.args.brought.now c.requires.shown c.requires.start c.requires.empty);
    }

pub loop-source-preserved : goal.loop-source-preserved
loop-source-preserved c =
    let text = c.args.numbered.now.text.now in
    let shown = c.args.shown.now in
    let old = c.loop-source.brought in
    let i = c.loop-source.source-index in
    let front = c.loop-source.line.items in
    let read = c.loop-source.invariant.read in
    elim c.if-source-eq10.branch [
      | then-source-eq10+in_default w ↦
          let line_is : c.if-source-eq10.line.items ≡ [] = ap (λ v. v.items) w.line-is ∙ w.clear.ensures.items in
          let bytes_is : c.if-source-eq10.bytes.items ≡ [] = ap (λ v. v.items) w.bytes-is ∙ w.clear-then-source-eq10.ensures.items in
          let lexed = subst (λ (l : List SourceByte). IsLexed text l old w.read_bytes.new.brought) w.as_slice.ensures.value w.in_default.ensures.ok in
          record {
            same = bytes_is ∙ sym (ap bytes_of line_is);
            read =
                subst (λ (l : List SourceByte). IsReadTo text shown c.if-source-eq10.brought l (i + 1)) (sym line_is)
                (subst (λ b. IsReadTo text shown b [] (i + 1)) (sym w.brought-is)
                (line_read text shown old w.read_bytes.new.brought front i read c.loop-source-test.true w.if-source-eq10.true lexed));
          }
      | else-source-eq10+in_ok-push+in_ok-push-2 w ↦
          let source = at_place shown i in
          let line_is : c.if-source-eq10.line.items ≡ front ++ source ∷ [] = ap (λ v. v.items) w.line-is ∙ w.in_ok-push.ensures.items in
          let bytes_is : c.if-source-eq10.bytes.items ≡ c.loop-source.bytes.items ++ source.byte ∷ [] = ap (λ v. v.items) w.bytes-is ∙ w.in_ok-push-2.ensures.items in
          record {
            same =
                bytes_is
                ∙ (ap (λ bs. bs ++ source.byte ∷ []) c.loop-source.invariant.same ∙ sym (ap bytes_of line_is ∙ map_push (λ (b : SourceByte). b.byte) front source));
            read =
                subst (λ b. IsReadTo text shown b c.if-source-eq10.line.items (i + 1)) (sym w.brought-is)
                (byte_read text shown old front c.if-source-eq10.line.items i read c.loop-source-test.true w.if-source-eq10.false line_is);
          }
    ]

pub returns-in-Err-clause-broken : goal.returns-in-Err-clause-broken
returns-in-Err-clause-broken c b is =
    let text = c.args.numbered.now.text.now in
    let old = c.loop-source.brought in
    line_broken text c.args.shown.now old c.loop-source.line.items c.loop-source.source-index b c.loop-source.invariant.read c.loop-source-test.true c.if-source-eq10.true
    (subst (λ (l : List SourceByte). IsFirst b (line_breaches text (state_of old) (line_of l))) c.as_slice.ensures.value (c.in-Err.ensures.broken b is))

pub returns-clause-ok : goal.returns-clause-ok
returns-clause-ok c =
    let text = c.args.numbered.now.text.now in
    let old = c.loop-source.brought in
    on_ok_weaker c.read_bytes-2.result
    (λ h.
    last_read text c.args.shown.now old c.read_bytes-2.new.brought c.loop-source.line.items c.loop-source.source-index c.loop-source.invariant.read (omega (arith, c.loop-source-test.false))
    (subst (λ (l : List SourceByte). IsLexed text l old c.read_bytes-2.new.brought) c.as_slice-2.ensures.value h))
    c.read_bytes-2.ensures.ok

pub returns-clause-broken : goal.returns-clause-broken
returns-clause-broken c b is =
    let text = c.args.numbered.now.text.now in
    let old = c.loop-source.brought in
    last_broken text c.args.shown.now old c.loop-source.line.items c.loop-source.source-index b c.loop-source.invariant.read (omega (arith, c.loop-source-test.false))
    (subst (λ (l : List SourceByte). IsFirst b (line_breaches text (state_of old) (line_of l))) c.as_slice-2.ensures.value (c.read_bytes-2.ensures.broken b is))
