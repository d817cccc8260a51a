use Rattle.std.proofs.Common.{◌≡◌, ◌≤◌, [], ◌∷◌, ◌++◌, List, length, map, refl, sym, ap, ◌∙◌, subst, arith}
use Rattle.std.proofs.lemmas.List.{map-append}
use Rattle.css_base.specs.Tokens.{lexemes}
use Rattle.css_tree.specs.Shapes.{declarator}
use Rattle.css_parse.specs.Readings.{ReadsFurtherDeclarators}
use Rattle.css_parse.proofs.Exits.{passed}
use Rattle.css_parse.proofs.Gathering.{Goes, all_read}
use Rattle.css_parse.proofs.GatheredParts.{DeclaredWith, first_declarator, one_more_declarator, no_further_declarator, no_further_declarators}
use Rattle.css_parse.proofs.declaration.further_declarators.Goals as goal

pub loop-behind-init : goal.loop-behind-init
loop-behind-init c =
    let ts = lexemes c.args.tokens.now in
    record {
      goes = subst (λ l. Goes (λ ds. l ++ ds) (DeclaredWith c.args.scope c.args.levels (declarator c.args.first) ts) (ReadsFurtherDeclarators c.args.scope c.args.levels ts) (ReadsFurtherDeclarators c.args.scope c.args.levels ts))
          (sym (ap (map declarator) (c.in_ok-add.ensures.ok ∙ ap (λ l. l ++ c.args.first ∷ []) c.new-declarators.ensures.items)))
          (first_declarator c.args.scope c.args.levels (declarator c.args.first) ts);
      shorter = omega arith;
    }

pub loop-behind-preserved : goal.loop-behind-preserved
loop-behind-preserved c =
    let ts = lexemes c.args.tokens.now in
    record {
      goes = subst (λ l. Goes (λ ds. l ++ ds) (DeclaredWith c.args.scope c.args.levels (declarator c.args.first) ts) (ReadsFurtherDeclarators c.args.scope c.args.levels ts) (ReadsFurtherDeclarators c.args.scope c.args.levels (lexemes c.in_ok-next.others.now)))
          (sym (ap (map declarator) c.in_ok-add-2.ensures.ok ∙ map-append declarator c.loop-behind.declarators.items _))
          (one_more_declarator c.args.scope c.args.levels (map declarator c.loop-behind.declarators.items) (declarator c.in_ok-next.next) c.loop-behind.invariant.goes c.in-Some.ensures.found c.in_ok-next.ensures.ok);
      shorter = (let s = c.in-Some.ensures.shorter in let n = c.in_ok-next.ensures.shorter in let i = c.loop-behind.invariant.shorter in omega arith);
    }

pub returns-clause-ok : goal.returns-clause-ok
returns-clause-ok c = λ ts d. all_read (map declarator c.loop-behind.declarators.items) c.loop-behind.invariant.goes c.in-Some-after_mark.ensures.found ts d

pub returns-in_default-after_mark-clause-not_spelled : goal.returns-in_default-after_mark-clause-not_spelled
returns-in_default-after_mark-clause-not_spelled c = λ why ds rest r.
    let l = c.loop-behind.invariant.goes.left ds rest r in
    no_further_declarators c.args.scope c.args.levels (lexemes c.loop-behind.rest.now) l.0 rest c.in_default.ensures.none c.in_default-after_mark.ensures.none l.1

pub returns-in_err-next-clause-not_spelled : goal.returns-in_err-next-clause-not_spelled
returns-in_err-next-clause-not_spelled c = λ why ds rest r.
    let l = c.loop-behind.invariant.goes.left ds rest r in
    no_further_declarator c.args.scope c.args.levels (lexemes c.loop-behind.rest.now) (lexemes c.in-Some.behind.now) l.0 rest c.in-Some.ensures.found
    (c.in_err-next.ensures.not_spelled (passed c.from_residual-in_err-next.result c.in_err-next.field-0.0 c.from_residual-in_err-next.ensures.1 why)) l.1
