use Rattle.std.proofs.Common.{◌++◌, ◌+◌, ◌∙◌, ap, sym, refl, length, length-append, arith, rules, ◌<◌, inl, inr}
use Rattle.std.specs.Prelude.{◌⊎◌, IsErrOf}
use Rattle.css_base.specs.Tokens.{lexemes}
use Rattle.css_macros.specs.declared.counts.ExpansionFault.TheVariants.{TooMany}
use Rattle.css_macros.specs.Macros.{replacement, replacement_names}
use Rattle.css_macros.specs.Expansions.{placed, shown, left, names_left}
use Rattle.css_macros.specs.NumberedWords.{words_of}
use Rattle.css_macros.specs.ListedTokens.{listed_kind}
use Rattle.css_macros.specs.MacroTables.{table_of}
use Rattle.css_macros.specs.declared.expansion.Frame.{Frame}
use Rattle.css_macros.proofs.Replacing.{advancing, advancing-names, advanced, next_listed, ending, ending-names, ended}
use Rattle.css_macros.proofs.expansion.Expansion.replace_rest.Goals as goal

pub replace-requires-clause-expands : goal.replace-requires-clause-expands
replace-requires-clause-expands c =
    let g : Frame = record { number = c.in-Some.innermost.number; rest = c.in-Some-split_first.rest } in
    advanced c.args.macros.now c.pop.new.self.items c.in-Some.innermost g c.loop-innermost.self
    (record { frames = c.push.new.self; hidden = c.loop-innermost.self.hidden }) c.in-Some-split_first.token.now refl c.in-Some-split_first.ensures.cases.0
    c.loop-innermost.invariant.keeps c.in-Some.ensures.items c.in_ok-push.ensures.items refl

pub replace-requires-clause-listed : goal.replace-requires-clause-listed
replace-requires-clause-listed c =
    let g : Frame = record { number = c.in-Some.innermost.number; rest = c.in-Some-split_first.rest } in
    (next_listed c.args.macros.now c.pop.new.self.items c.in-Some.innermost g c.loop-innermost.self c.in-Some-split_first.token.now refl
    c.in-Some-split_first.ensures.cases.0 c.loop-innermost.invariant.keeps c.in-Some.ensures.items).0

pub loop-innermost-preserved-in-Continue-branch-2 : goal.loop-innermost-preserved-in-Continue-branch-2
loop-innermost-preserved-in-Continue-branch-2 c =
    let words = words_of c.args.macros.now.words in
    let table = table_of c.args.macros.now in
    let frames = c.pop.new.self.items in
    let f = c.in-Some.innermost in
    let g : Frame = record { number = c.in-Some.innermost.number; rest = c.in-Some-split_first.rest } in
    let token = c.in-Some-split_first.token.now in
    let tokens = ap (λ fs. left words table fs) c.in-Some.ensures.items
    ∙ advancing words table frames f g token refl c.in-Some-split_first.ensures.cases.0
    ∙ ap (λ fs. replacement (shown words table fs) (listed_kind token) ++ left words table fs) (sym c.in_ok-push.ensures.items) in
    let names = ap (λ fs. names_left words table fs) c.in-Some.ensures.items
    ∙ advancing-names words table frames f g token refl c.in-Some-split_first.ensures.cases.0
    ∙ ap (λ fs. replacement_names (shown words table fs) (listed_kind token) + names_left words table fs) (sym c.in_ok-push.ensures.items) in
    let counted = simp length-append at (ap length tokens) in
    let done = c.in_ok-replace.ensures in
    record {
      keeps = done.keeps;
      tokens = done.tokens ∙ ap (λ out. lexemes c.loop-innermost.tokens.items ++ placed c.args.span.now out) (sym tokens) ∙ c.loop-innermost.invariant.tokens;
      token_count = omega (arith, done.token_count, c.loop-innermost.invariant.token_count);
      name_count = omega (arith, done.name_count, c.loop-innermost.invariant.name_count);
    }

pub returns-in_err-replace-clause-too_many : goal.returns-in_err-replace-clause-too_many
returns-in_err-replace-clause-too_many c =
    let words = words_of c.args.macros.now.words in
    let table = table_of c.args.macros.now in
    let frames = c.pop.new.self.items in
    let f = c.in-Some.innermost in
    let g : Frame = record { number = c.in-Some.innermost.number; rest = c.in-Some-split_first.rest } in
    let token = c.in-Some-split_first.token.now in
    let before = c.args.self.now.frames.items in
    let tokens = ap (λ fs. left words table fs) c.in-Some.ensures.items
    ∙ advancing words table frames f g token refl c.in-Some-split_first.ensures.cases.0
    ∙ ap (λ fs. replacement (shown words table fs) (listed_kind token) ++ left words table fs) (sym c.in_ok-push.ensures.items) in
    let names = ap (λ fs. names_left words table fs) c.in-Some.ensures.items
    ∙ advancing-names words table frames f g token refl c.in-Some-split_first.ensures.cases.0
    ∙ ap (λ fs. replacement_names (shown words table fs) (listed_kind token) + names_left words table fs) (sym c.in_ok-push.ensures.items) in
    let counted = simp length-append at (ap length tokens) in
    let Passed : Type 0 = (1000000 < c.args.counts.now.tokens + length (left words table before)) ⊎ (1000000 < c.args.counts.now.names + names_left words table before) in
    let passed : IsErrOf c.replace.result TooMany → Passed = λ h.
    elim (c.replace.ensures.too_many h) [
      | inl over ↦ inl (omega (arith, over, c.loop-innermost.invariant.token_count))
      | inr over ↦ inr (omega (arith, over, c.loop-innermost.invariant.name_count))
    ] in
    search (rules, passed)

pub loop-innermost-preserved : goal.loop-innermost-preserved
loop-innermost-preserved c =
    let words = words_of c.args.macros.now.words in
    let table = table_of c.args.macros.now in
    let frames = c.pop.new.self.items in
    let f = c.in-Some.innermost in
    let tokens = ap (λ fs. left words table fs) c.in-Some.ensures.items ∙ ending words table frames f c.in_default-split_first.ensures.cases in
    let names = ap (λ fs. names_left words table fs) c.in-Some.ensures.items ∙ ending-names words table frames f c.in_default-split_first.ensures.cases in
    let counted = ap length tokens in
    record {
      keeps = ended c.args.macros.now frames f c.loop-innermost.self (record { frames = c.pop.new.self; hidden = c.remove.new.self }) c.loop-innermost.invariant.keeps c.in-Some.ensures.items refl
          c.remove.ensures.updates.0;
      tokens = ap (λ out. lexemes c.loop-innermost.tokens.items ++ placed c.args.span.now out) (sym tokens) ∙ c.loop-innermost.invariant.tokens;
      token_count = omega (arith, c.loop-innermost.invariant.token_count);
      name_count = omega (arith, c.loop-innermost.invariant.name_count);
    }
