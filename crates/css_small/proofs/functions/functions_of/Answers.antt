use Rattle.std.proofs.Common.{◌≡◌, ◌+◌, [], ◌∷◌, ◌++◌, sym, ap, ◌∙◌}
use Rattle.css_small.proofs.Exits.{passed}
use Rattle.css_small.proofs.ProgramItems.{on, from, one_more, one_less, all_done}
use Rattle.css_small.proofs.functions.functions_of.Goals as goal

pub loop-item-preserved : goal.loop-item-preserved
loop-item-preserved c = λ last.
    let all = c.args.items.now in
    let i = c.loop-item.item-index in
    let names = c.loop-item.names in
    let new = c.function_behind.new.before in
    let done = c.loop-item.all.items in
    let f = c.in_ok-function_behind.field-0 in
    let found = c.in_ok-function_behind.ensures.ok in
    let added : c.add.new.all.items ≡ done ++ f ∷ [] = c.in_ok-add.ensures.ok in
    ap (λ l. on l (from all (i + 1) last new)) added
    ∙ one_more all i c.item-item.result found.0 last names new done f c.loop-item-test.true c.item-item.is found.1 found.2 found.3
    ∙ c.loop-item.invariant last

pub returns-clause-ok : goal.returns-clause-ok
returns-clause-ok c = λ last.
    sym (c.loop-item.invariant last) ∙ all_done c.args.items.now c.loop-item.item-index last c.loop-item.names c.loop-item.all.items c.loop-item-test.false

pub returns-in_err-function_behind-clause-not_small : goal.returns-in_err-function_behind-clause-not_small
returns-in_err-function_behind-clause-not_small c = λ why last.
    let none = c.in_err-function_behind.ensures.not_small (passed c.from_residual.result c.in_err-function_behind.field-0.0 c.from_residual.ensures.1 why) in
    sym (c.loop-item.invariant last)
    ∙ one_less c.args.items.now c.loop-item.item-index c.item-item.result last c.loop-item.names c.loop-item.all.items c.loop-item-test.true c.item-item.is none
