use Rattle.std.proofs.Common.{◌≡◌, length, map, ap, ◌∙◌, subst, rules}
use Rattle.css_small.specs.Tree.{function, program}
use Rattle.css_small_code.specs.Code.{function_code, main_code}
use Rattle.css_small_code.specs.Correct.{Codes}
use Rattle.css_small_code.proofs.Correct.{codes}
use Rattle.css_small_code.specs.Marks.{HasNoMarks}
use Rattle.css_small_code.specs.Tasks.{TasksTakePointers}
use Rattle.css_small_code.proofs.Made.{all_made}
use Rattle.css_small_code.proofs.Pointers.{tasks_take_pointers}
use Rattle.css_small_code.proofs.Unmarked.{no_marks}
use Rattle.css_small_code.proofs.maker.make_code.Goals as goal

pub returns-clause-codes : goal.returns-clause-codes
returns-clause-codes c =
    let p = program c.args.tree.now in
    let functions = c.in_ok-functions.functions.items in
    let front = c.in_ok-functions.ensures ∙ ap (λ fs. map function_code (map function fs)) c.deref.ensures.value in
    let back = c.in_ok-main_of.ensures ∙ ap (λ fs. main_code (map function fs) (function c.args.tree.now.main)) c.deref-2.ensures.value in
    let number : c.in_ok-main.main ≡ length functions = search rules in
    subst (λ code. Codes code p) (all_made p functions c.push.new.self.items c.in_ok-main_of.field-0 c.in_ok-main.main front back c.in_ok-push.ensures.items number) (codes p c.requires)

pub returns-clause-no_marks : goal.returns-clause-no_marks
returns-clause-no_marks c = λ none.
    let p = program c.args.tree.now in
    let functions = c.in_ok-functions.functions.items in
    let front = c.in_ok-functions.ensures ∙ ap (λ fs. map function_code (map function fs)) c.deref.ensures.value in
    let back = c.in_ok-main_of.ensures ∙ ap (λ fs. main_code (map function fs) (function c.args.tree.now.main)) c.deref-2.ensures.value in
    let number : c.in_ok-main.main ≡ length functions = search rules in
    subst HasNoMarks (all_made p functions c.push.new.self.items c.in_ok-main_of.field-0 c.in_ok-main.main front back c.in_ok-push.ensures.items number) (no_marks p none)

pub returns-clause-pointers : goal.returns-clause-pointers
returns-clause-pointers c =
    let p = program c.args.tree.now in
    let functions = c.in_ok-functions.functions.items in
    let front = c.in_ok-functions.ensures ∙ ap (λ fs. map function_code (map function fs)) c.deref.ensures.value in
    let back = c.in_ok-main_of.ensures ∙ ap (λ fs. main_code (map function fs) (function c.args.tree.now.main)) c.deref-2.ensures.value in
    let number : c.in_ok-main.main ≡ length functions = search rules in
    subst TasksTakePointers (all_made p functions c.push.new.self.items c.in_ok-main_of.field-0 c.in_ok-main.main front back c.in_ok-push.ensures.items number) (tasks_take_pointers p)
