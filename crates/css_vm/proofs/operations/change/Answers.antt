use Rattle.css_vm.proofs.operations.change.Goals as goal

pub returns-in_default-clause-changes : goal.returns-in_default-clause-changes
returns-in_default-clause-changes c = c.rework.ensures.changes c.args.base
