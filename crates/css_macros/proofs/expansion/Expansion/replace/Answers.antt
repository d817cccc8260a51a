use Rattle.std.proofs.Common.{◌++◌, ◌∙◌, ap, length, length-append, arith}
use Rattle.css_base.specs.Tokens.{lexemes}
use Rattle.css_macros.specs.Expansions.{placed, left, names_left}
use Rattle.css_macros.specs.NumberedWords.{words_of}
use Rattle.css_macros.specs.ListedTokens.{listed_kind}
use Rattle.css_macros.specs.MacroTables.{table_of}
use Rattle.css_macros.proofs.Replacing.{entering, entering-names, entered}
use Rattle.css_macros.proofs.expansion.Expansion.replace.Goals as goal

pub returns-clause-keeps : goal.returns-clause-keeps
returns-clause-keeps c =
    entered c.args.macros.now (listed_kind c.args.token.now) c.args.self.now c.enter.new.self c.in-Some.frame c.in-Some.ensures c.requires.expands
    c.in_ok-enter.ensures.frames c.in_ok-enter.ensures.hidden

pub returns-clause-tokens : goal.returns-clause-tokens
returns-clause-tokens c =
    let words = words_of c.args.macros.now.words in
    let table = table_of c.args.macros.now in
    ap (λ out. lexemes c.args.tokens.now.items ++ placed c.args.span.now out)
    (ap (λ fs. left words table fs) c.in_ok-enter.ensures.frames
    ∙ entering words table (listed_kind c.args.token.now) c.args.self.now.frames.items c.in-Some.frame c.in-Some.ensures)

pub returns-clause-token_count : goal.returns-clause-token_count
returns-clause-token_count c =
    let words = words_of c.args.macros.now.words in
    let table = table_of c.args.macros.now in
    let all = ap (λ fs. left words table fs) c.in_ok-enter.ensures.frames
    ∙ entering words table (listed_kind c.args.token.now) c.args.self.now.frames.items c.in-Some.frame c.in-Some.ensures in
    let counted = simp length-append at (ap length all) in
    let same = c.in_ok-count_name.ensures.tokens in
    omega arith

pub returns-clause-name_count : goal.returns-clause-name_count
returns-clause-name_count c =
    let words = words_of c.args.macros.now.words in
    let table = table_of c.args.macros.now in
    let all = ap (λ fs. names_left words table fs) c.in_ok-enter.ensures.frames in
    let names = entering-names words table (listed_kind c.args.token.now) c.args.self.now.frames.items c.in-Some.frame c.in-Some.ensures in
    let more = c.in_ok-count_name.ensures.names in
    omega arith
