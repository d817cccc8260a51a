use Rattle.std.proofs.Common.{◌≡◌, ◌∙◌, [], ◌∷◌, Option, Some, inl, inr, false, codes, map, sym, ap, ap₂, rules}
use Rattle.clap.specs.Words.{Rule, app_of, fault_of, is_simple_and_free, rule_of, with_rule}
use Rattle.clap.specs.ValueTests.{accepts}
use Rattle.clap.specs.declared.builder.value_parser.ValueParser.{ValueParser}
use Rattle.clap.specs.declared.builder.value_parser.ValueParser.TheVariants as vp
use Rattle.css_words.proofs.Ranges.{Lies, number_app, value_rule, number_is_simple, number_fault, accepts_Decides, passes_without_faults, fails_with_fault, is_passed, is_refused}
use Rattle.css_words.proofs.number.lies_in.Goals as goal

pub returns-in-Ok : goal.returns-in-Ok
returns-in-Ok c =
    let given = c.value_parser-value.ensures.given in
    let rule_is : rule_of c.value_parser-value.result ≡ value_rule c.args.least c.args.most = ap rule_of c.value_parser-value.ensures.others
    ∙ ap₂ (λ (r : Rule) (p : Option ValueParser). record r { parser = p }) c.new.ensures.rule (given.1 ∙ ap Some (given.2 ∙ c.unsigned.ensures)) in
    let local : c.value_parser-value.result.global ≡ false = ap (λ a. a.global) c.value_parser-value.ensures.others ∙ c.new.ensures.optional.1 in
    let app_is : app_of c.in_ok-command.command ≡ number_app c.args.least c.args.most = c.in_ok-command.ensures.shape local ∙ ap₂ with_rule c.new-2.ensures.app rule_is in
    let words_are : map (λ s. s.now) c.as_slice.result.now ≡ codes "number" ∷ codes "--" ∷ c.args.digits.now ∷ [] = search rules in
    let kinds = c.in-Ok.ensures.kinds (ap is_simple_and_free app_is ∙ number_is_simple c.args.least c.args.most) in
    let none = sym (ap₂ fault_of app_is words_are ∙ number_fault c.args.least c.args.most c.args.digits.now) ∙ kinds in
    let tested = accepts false (vp.Unsigned c.args.least c.args.most) c.args.digits.now in
    is_passed tested (Lies c.args.least c.args.most c.args.digits.now) (accepts_Decides c.args.least c.args.most c.args.digits.now c.requires) (passes_without_faults tested none)

pub returns : goal.returns
returns c =
    let given = c.value_parser-value.ensures.given in
    let rule_is : rule_of c.value_parser-value.result ≡ value_rule c.args.least c.args.most = ap rule_of c.value_parser-value.ensures.others
    ∙ ap₂ (λ (r : Rule) (p : Option ValueParser). record r { parser = p }) c.new.ensures.rule (given.1 ∙ ap Some (given.2 ∙ c.unsigned.ensures)) in
    let local : c.value_parser-value.result.global ≡ false = ap (λ a. a.global) c.value_parser-value.ensures.others ∙ c.new.ensures.optional.1 in
    let app_is : app_of c.in_ok-command.command ≡ number_app c.args.least c.args.most = c.in_ok-command.ensures.shape local ∙ ap₂ with_rule c.new-2.ensures.app rule_is in
    let words_are : map (λ s. s.now) c.as_slice.result.now ≡ codes "number" ∷ codes "--" ∷ c.args.digits.now ∷ [] = search rules in
    let kinds = c.in-Err.ensures.kinds (ap is_simple_and_free app_is ∙ number_is_simple c.args.least c.args.most) in
    let same = ap₂ fault_of app_is words_are ∙ number_fault c.args.least c.args.most c.args.digits.now in
    let tested = accepts false (vp.Unsigned c.args.least c.args.most) c.args.digits.now in
    let fails : tested ≡ false = elim kinds [
      | inl full ↦ absurd (c.in_default.not-OutOfMemory (c.kind.ensures ∙ full))
      | inr among ↦ fails_with_fault tested _ (rw same at among)
    ] in
    is_refused tested (Lies c.args.least c.args.most c.args.digits.now) (accepts_Decides c.args.least c.args.most c.args.digits.now c.requires) fails
