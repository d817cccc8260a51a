use Rattle.std.proofs.Common.{◌≡◌, false, is_some, Ok, Err, IfOk, sym, ap, subst, ◌∙◌}
use Rattle.css_base.specs.declared.static_fault.StaticName.TheVariants.{Undeclared}
use Rattle.css_types.specs.Scopes as types
use Rattle.css_operands.specs.Shapes.{operand}
use Rattle.css_expressions.proofs.Meanings.{named_meaning, named_none, some_mapped}
use Rattle.css_expressions.proofs.calls.named.Goals as goal

pub returns-in-Some-clause-ok : goal.returns-in-Some-clause-ok
returns-in-Some-clause-ok c =
    let other : is_some (types.library_of c.args.name.now) ≡ false = ap is_some (sym c.library_of.ensures) ∙ some_mapped c.library_of.result ∙ sym c.is_some.ensures ∙ c.if-is_some.false in
    subst (λ j. IfOk c.meant.result (λ a. j ≡ Ok (operand c.args.table.now a)))
    (sym (named_meaning c.args.table.now c.args.scope.now c.args.line c.args.name.now c.in-Some.meaning.now other (sym c.in-Some.ensures))) c.meant.ensures.ok

pub returns-in-Some-clause-broken : goal.returns-in-Some-clause-broken
returns-in-Some-clause-broken c = λ f why.
    let other : is_some (types.library_of c.args.name.now) ≡ false = ap is_some (sym c.library_of.ensures) ∙ some_mapped c.library_of.result ∙ sym c.is_some.ensures ∙ c.if-is_some.false in
    named_meaning c.args.table.now c.args.scope.now c.args.line c.args.name.now c.in-Some.meaning.now other (sym c.in-Some.ensures) ∙ c.meant.ensures.broken f why

pub returns-in-None-clause-broken : goal.returns-in-None-clause-broken
returns-in-None-clause-broken c = λ f why.
    let other : is_some (types.library_of c.args.name.now) ≡ false = ap is_some (sym c.library_of.ensures) ∙ some_mapped c.library_of.result ∙ sym c.is_some.ensures ∙ c.if-is_some.false in
    let which : record { name = Undeclared; line = c.args.line } ≡ f = cc in
    named_none c.args.table.now c.args.scope.now c.args.line c.args.name.now other (sym c.in-None.ensures) ∙ ap Err which
