use Rattle.std.proofs.Common.{◌++◌, map, true, false, append-nil, ap, sym, ◌∙◌}
use Rattle.std.specs.Option.{unwrap_or}
use Rattle.std.proofs.lemmas.Result.{on_ok_weaker}
use Rattle.css_small.specs.Tree.{listed, function}
use Rattle.css_small_code.specs.Lines.{line_in_all}
use Rattle.css_small_code.proofs.FirstLines.{entry_is}
use Rattle.css_small_code.proofs.entry.emit_entry.Goals as goal

pub returns-then-eq : goal.returns-then-eq
returns-then-eq c =
    let fs = map function c.args.functions.now in
    let f = function c.args.tree.now in
    let begins = c.unwrap_or.ensures ∙ ap (λ o. unwrap_or o f.end) (c.first_line.ensures ∙ ap (λ all. line_in_all (listed all)) c.deref.ensures.value) in
    let code = c.args.code.now.items in
    sym (append-nil code) ∙ ap (λ entry. code ++ entry) (sym (entry_is fs f c.unwrap_or.result true begins (sym c.eq.ensures ∙ c.if-eq.true)))

pub returns-else-eq : goal.returns-else-eq
returns-else-eq c =
    let fs = map function c.args.functions.now in
    let f = function c.args.tree.now in
    let begins = c.unwrap_or.ensures ∙ ap (λ o. unwrap_or o f.end) (c.first_line.ensures ∙ ap (λ all. line_in_all (listed all)) c.deref.ensures.value) in
    let code = c.args.code.now.items in
    on_ok_weaker c.emit_all.result (λ e. e ∙ ap (λ entry. code ++ entry) (sym (entry_is fs f c.unwrap_or.result false begins (sym c.eq.ensures ∙ c.if-eq.false)))) c.emit_all.ensures
