use Rattle.std.proofs.Common.{◌≡◌, ◌≢◌, ◌∙◌, ℕ, take, sym, subst, arith, All, true≢false}
use Rattle.std.proofs.lemmas.Slice.Eq.{bytes_eq-Decides}
use Rattle.std.proofs.lemmas.List.Elements.{All-more}
use Rattle.css_words.specs.declared.command.Command.{Command}
use Rattle.css_words.specs.declared.command.Command.TheVariants.{Check}
use Rattle.css_words.specs.Options.{command_name}
use Rattle.css_words.proofs.Names.{all_commands, each_command}
use Rattle.css_words.proofs.command.command_named.Goals as goal

pub loop-command-preserved : goal.loop-command-preserved
loop-command-preserved c =
    All-more (λ (command : Command). command_name command ≢ c.args.name.now) all_commands c.loop-command.command-index Check c.loop-command-test.true c.loop-command.invariant
    (λ e. true≢false (sym (c.eq.ensures ∙ (bytes_eq-Decides _ _).1 (c.name.ensures ∙ e)) ∙ c.if-eq.false))

pub returns : goal.returns
returns c =
    let done : c.loop-command.command-index ≡ 11 = omega arith in
    each_command (λ (command : Command). command_name command ≢ c.args.name.now) (subst (λ (n : ℕ). All (λ (command : Command). command_name command ≢ c.args.name.now) (take n all_commands)) done c.loop-command.invariant)
