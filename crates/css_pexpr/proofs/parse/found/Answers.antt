use Rattle.std.proofs.Common.{◌≡◌, ℕ, length, take, Some, None, sym, ap, ◌∙◌, arith}
use Rattle.std.specs.Prelude.{option_map}
use Rattle.std.proofs.lemmas.List.{length-take-le, length-map, take-map}
use Rattle.css_base.specs.Tokens.{lexeme, lexemes}
use Rattle.css_tree.specs.Shapes.{expression}
use Rattle.css_pexpr.specs.declared.manner.Manner.{Manner}
use Rattle.css_pexpr.specs.Longest.{level_number}
use Rattle.css_pexpr.specs.Reading.{start, longest_from, built}
use Rattle.css_pexpr.proofs.Found.{manner, counted, none_spelled, part, too_high}
use Rattle.css_pexpr.proofs.parse.found.Goals as goal

pub returns-in_default-clause-none : goal.returns-in_default-clause-none
returns-in_default-clause-none c =
    let ts = lexemes c.args.tokens.now in
    let at : ℕ → Manner = λ n. record { scope = c.args.scope; level = n; most = 0 } in
    none_spelled c.args.scope c.args.level ts (sym c.in_default.is ∙ c.in_ok-count.ensures ∙ ap (λ n. longest_from (at n) start 0 None ts) c.number-rank.ensures)

pub slice_bounds-front-end : goal.slice_bounds-front-end
slice_bounds-front-end c =
    let ts = lexemes c.args.tokens.now in
    let at : ℕ → Manner = λ n. record { scope = c.args.scope; level = n; most = 0 } in
    let k = counted c.args.scope c.args.level ts c.in-Some.count (sym c.in-Some.is ∙ c.in_ok-count.ensures ∙ ap (λ n. longest_from (at n) start 0 None ts) c.number-rank.ensures) in
    let fits = k.within in
    let long = length-map c.args.tokens.now lexeme in
    sym (length-take-le c.in-Some.count c.args.tokens.now (omega arith))

pub returns-in_default-2-clause-none : goal.returns-in_default-2-clause-none
returns-in_default-2-clause-none c =
    let ts = lexemes c.args.tokens.now in
    let at : ℕ → ℕ → Manner = λ most n. record { scope = c.args.scope; level = n; most = most } in
    let k = counted c.args.scope c.args.level ts c.in-Some.count (sym c.in-Some.is ∙ c.in_ok-count.ensures ∙ ap (λ n. longest_from (at 0 n) start 0 None ts) c.number-rank.ensures) in
    too_high c.args.scope c.args.level ts c.in-Some.count k
    (sym (ap (option_map expression) c.in_default-2.is) ∙ c.in_ok-tree.ensures ∙ ap (λ n. built (at 500 n) start (lexemes (take c.in-Some.count c.args.tokens.now))) c.number-rank.ensures
    ∙ ap (built (at 500 (level_number c.args.level)) start) (sym (take-map lexeme c.in-Some.count c.args.tokens.now)))

pub returns-clause-some : goal.returns-clause-some
returns-clause-some c =
    let ts = lexemes c.args.tokens.now in
    let at : ℕ → ℕ → Manner = λ most n. record { scope = c.args.scope; level = n; most = most } in
    let k = counted c.args.scope c.args.level ts c.in-Some.count (sym c.in-Some.is ∙ c.in_ok-count.ensures ∙ ap (λ n. longest_from (at 0 n) start 0 None ts) c.number-rank.ensures) in
    part c.args.scope c.args.level ts c.in-Some.count k (expression c.in-Some-2.tree)
    (sym (ap (option_map expression) c.in-Some-2.is) ∙ c.in_ok-tree.ensures ∙ ap (λ n. built (at 500 n) start (lexemes (take c.in-Some.count c.args.tokens.now))) c.number-rank.ensures
    ∙ ap (built (at 500 (level_number c.args.level)) start) (sym (take-map lexeme c.in-Some.count c.args.tokens.now)))
