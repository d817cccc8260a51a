use Rattle.std.proofs.Common.{ap, sym, ◌∙◌, subst, refl}
use Rattle.css_macros.specs.Numbers.{word_at}
use Rattle.css_macros.specs.NumberedWords.{words_of}
use Rattle.css_macros.specs.ListedTokens.{is_number_of}
use Rattle.css_macros.specs.MacroTables.{table_of}
use Rattle.css_macros.specs.Expansions.{shown, shown_by, IsNoMacro, Replaces}
use Rattle.css_macros.specs.declared.expansion.Frame.{Frame}
use Rattle.css_macros.proofs.Frames.{hidden-open}
use Rattle.css_macros.proofs.Replacing.{other-stays, listed_word, hidden-stays, unknown-stays, macro-replaces}
use Rattle.css_macros.proofs.expansion.Expansion.macro_at.Goals as goal

pub returns-in_default : goal.returns-in_default
returns-in_default c =
    let words = words_of c.args.macros.now.words in
    let known = ap (is_number_of words c.args.token.now.token) (sym c.in_default.is) ∙ c.requires.listed in
    other-stays words (shown_by c.args.macros.now c.args.self.now) c.args.token.now.token known

pub returns-then-contains : goal.returns-then-contains
returns-then-contains c =
    let words = words_of c.args.macros.now.words in
    let table = table_of c.args.macros.now in
    let frames = c.args.self.now.frames.items in
    let n = c.in-Some.number in
    let w = listed_word words c.args.token.now.token n (ap (is_number_of words c.args.token.now.token) (sym c.in-Some.is) ∙ c.requires.listed) in
    let hidden = hidden-open words frames (word_at words n) n c.requires.expands.numbered w.1 ∙ sym (c.requires.expands.hides n) ∙ sym c.contains.ensures ∙ c.if-contains.true in
    subst (λ k. IsNoMacro (shown words table frames) k) (sym w.0) (hidden-stays words table frames (word_at words n) hidden)

pub macro_numbered-requires : goal.macro_numbered-requires
macro_numbered-requires c =
    let words = words_of c.args.macros.now.words in
    (listed_word words c.args.token.now.token c.in-Some.number (ap (is_number_of words c.args.token.now.token) (sym c.in-Some.is) ∙ c.requires.listed)).1

pub returns-in_err-found : goal.returns-in_err-found
returns-in_err-found c =
    let words = words_of c.args.macros.now.words in
    let table = table_of c.args.macros.now in
    let frames = c.args.self.now.frames.items in
    let n = c.in-Some.number in
    let w = listed_word words c.args.token.now.token n (ap (is_number_of words c.args.token.now.token) (sym c.in-Some.is) ∙ c.requires.listed) in
    let apart = hidden-open words frames (word_at words n) n c.requires.expands.numbered w.1 ∙ sym (c.requires.expands.hides n) ∙ sym c.contains.ensures ∙ c.if-contains.false in
    rw c.from_residual.ensures
    (subst (λ k. IsNoMacro (shown words table frames) k) (sym w.0)
    (unknown-stays words table frames (word_at words n) apart (sym c.in_err-found.ensures.found)))

pub returns : goal.returns
returns c =
    let words = words_of c.args.macros.now.words in
    let table = table_of c.args.macros.now in
    let frames = c.args.self.now.frames.items in
    let n = c.in-Some.number in
    let w = listed_word words c.args.token.now.token n (ap (is_number_of words c.args.token.now.token) (sym c.in-Some.is) ∙ c.requires.listed) in
    let apart = hidden-open words frames (word_at words n) n c.requires.expands.numbered w.1 ∙ sym (c.requires.expands.hides n) ∙ sym c.contains.ensures ∙ c.if-contains.false in
    let f : Frame = record { number = n; rest = c.as_slice.result } in
    subst (λ k. Replaces words (shown words table frames) k f) (sym w.0)
    (macro-replaces words table frames n c.in_ok-found.found.now f w.1 apart (sym c.in_ok-found.ensures.found) c.in_ok-found.ensures.listed refl c.as_slice.ensures.value)
