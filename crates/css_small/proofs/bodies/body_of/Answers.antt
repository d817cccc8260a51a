use Rattle.std.proofs.Common.{◌≡◌, ◌-◌, length, ap, ◌∙◌}
use Rattle.css_tree.specs.Shapes.{listed_entries}
use Rattle.css_small.specs.Trees.{behind_all}
use Rattle.css_small.proofs.BodyEntries.{parameters-behind_all}
use Rattle.css_small.proofs.bodies.body_of.Goals as goal

pub returns-clause-variables : goal.returns-clause-variables
returns-clause-variables c =
    let entries = listed_entries c.args.block.now.entries.items in
    let all = behind_all c.args.names entries in
    let behind : c.items_of.new.names ≡ all = c.in_ok-statements.ensures.behind ∙ ap (λ l. behind_all c.args.names (listed_entries l)) c.as_slice.ensures.value in
    c.variables.ensures.value ∙ ap (λ n. length n.objects - n.parameters) behind ∙ ap (λ k. length all.objects - k) (parameters-behind_all c.args.names entries)
