use Rattle.std.proofs.Common.{◌++◌, ◌+◌, ◌∷◌, [], ◌∙◌, ap, sym, subst, length, arith, rules, ◌<◌, inl, inr}
use Rattle.std.specs.Prelude.{◌⊎◌, IsErrOf}
use Rattle.css_base.specs.Tokens.{Word, kind_of, lexemes}
use Rattle.css_macros.specs.Macros.{replacement, replacement_names}
use Rattle.css_macros.specs.NumberedWords.{words_of}
use Rattle.css_macros.specs.Expansions.{placed, Replaces}
use Rattle.css_macros.specs.MacroTables.{table_of}
use Rattle.css_macros.specs.declared.counts.ExpansionFault.TheVariants.{TooMany}
use Rattle.css_macros.proofs.Replacing.{beginning, begun}
use Rattle.css_macros.proofs.macros.Macros.replace.Goals as goal

pub replace_rest-requires : goal.replace_rest-requires
replace_rest-requires c =
    let words = words_of c.args.self.now.words in
    let f = c.in-Some.frame in
    let m = subst (λ w. Replaces words (table_of c.args.self.now) (Word w) f) c.as_slice.ensures c.in-Some.ensures in
    begun c.args.self.now c.in-Word.name c.new-expansion.result c.enter.new.self f m c.new-expansion.ensures.frames c.new-expansion.ensures.hidden c.in_ok-enter.ensures.frames c.in_ok-enter.ensures.hidden

pub returns-clause-tokens : goal.returns-clause-tokens
returns-clause-tokens c =
    let words = words_of c.args.self.now.words in
    let table = table_of c.args.self.now in
    let f = c.in-Some.frame in
    let m = subst (λ w. Replaces words table (Word w) f) c.as_slice.ensures c.in-Some.ensures in
    let one = c.in_ok-enter.ensures.frames ∙ ap (λ fs. fs ++ f ∷ []) c.new-expansion.ensures.frames in
    let all = beginning words table c.in-Word.name c.enter.new.self.frames.items f m one in
    c.in_ok-replace_rest.ensures.tokens
    ∙ ap (λ out. lexemes c.args.tokens.now.items ++ placed c.args.span.now out) (all.0 ∙ ap (λ k. replacement table (kind_of k)) (sym c.in-Word.is))

pub returns-clause-token_count : goal.returns-clause-token_count
returns-clause-token_count c =
    let words = words_of c.args.self.now.words in
    let table = table_of c.args.self.now in
    let f = c.in-Some.frame in
    let m = subst (λ w. Replaces words table (Word w) f) c.as_slice.ensures c.in-Some.ensures in
    let one = c.in_ok-enter.ensures.frames ∙ ap (λ fs. fs ++ f ∷ []) c.new-expansion.ensures.frames in
    let all = beginning words table c.in-Word.name c.enter.new.self.frames.items f m one in
    let counted = ap length (all.0 ∙ ap (λ k. replacement table (kind_of k)) (sym c.in-Word.is)) in
    omega (arith, c.in_ok-replace_rest.ensures.token_count, c.in_ok-count_name.ensures.tokens)

pub returns-clause-name_count : goal.returns-clause-name_count
returns-clause-name_count c =
    let words = words_of c.args.self.now.words in
    let table = table_of c.args.self.now in
    let f = c.in-Some.frame in
    let m = subst (λ w. Replaces words table (Word w) f) c.as_slice.ensures c.in-Some.ensures in
    let one = c.in_ok-enter.ensures.frames ∙ ap (λ fs. fs ++ f ∷ []) c.new-expansion.ensures.frames in
    let all = beginning words table c.in-Word.name c.enter.new.self.frames.items f m one in
    let names = all.1 ∙ ap (λ k. replacement_names table (kind_of k)) (sym c.in-Word.is) in
    omega (arith, c.in_ok-replace_rest.ensures.name_count, c.in_ok-count_name.ensures.names)

pub returns-in_err-replace_rest-clause-too_many : goal.returns-in_err-replace_rest-clause-too_many
returns-in_err-replace_rest-clause-too_many c =
    let words = words_of c.args.self.now.words in
    let table = table_of c.args.self.now in
    let f = c.in-Some.frame in
    let m = subst (λ w. Replaces words table (Word w) f) c.as_slice.ensures c.in-Some.ensures in
    let one = c.in_ok-enter.ensures.frames ∙ ap (λ fs. fs ++ f ∷ []) c.new-expansion.ensures.frames in
    let all = beginning words table c.in-Word.name c.enter.new.self.frames.items f m one in
    let counted = ap length (all.0 ∙ ap (λ k. replacement table (kind_of k)) (sym c.in-Word.is)) in
    let names = all.1 ∙ ap (λ k. replacement_names table (kind_of k)) (sym c.in-Word.is) in
    let Passed : Type 0 = (1000000 < c.args.counts.now.tokens + length (replacement table (kind_of c.args.kind)))
    ⊎ (1000000 < c.args.counts.now.names + replacement_names table (kind_of c.args.kind)) in
    let passed : IsErrOf c.replace_rest.result TooMany → Passed = λ h.
    elim (c.replace_rest.ensures.too_many h) [
      | inl over ↦ inl (omega (arith, over, c.in_ok-count_name.ensures.tokens))
      | inr over ↦ inr (omega (arith, over, c.in_ok-count_name.ensures.names))
    ] in
    search (rules, passed)
