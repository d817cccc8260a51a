use Rattle.std.proofs.Common.{◌≡◌, ◌<◌, length, get_or, ap, sym, ◌∙◌, arith, if◌then◌else◌}
use Rattle.std.proofs.lemmas.List.{get_or_read}
use Rattle.css_semantics.specs.Dialogue.{Says, Fails}
use Rattle.css_task.proofs.Spaces.{leaves, left_is, after_leaving}
use Rattle.css_task.proofs.task_stack.TaskStackSpace.pop_frame.Goals as goal

pub invariant_of-self : goal.invariant_of-self
invariant_of-self c =
    let m = c.self.inside in
    let within : m.innermost < length m.sizes.items = omega arith in
    let same : get_or m.sizes.items m.innermost 0 ≡ c.args.size = sym (get_or_read m.sizes.items m.innermost c.index.result.now within c.index.ensures 0) ∙ c.if-index-size.false in
    after_leaving m.end m.start m.innermost m.stack.items m.sizes.items c.self.invariant c.args.size within same

pub returns-clause-says : goal.returns-clause-says
returns-clause-says c =
    let m = c.self.inside in
    let within : m.innermost < length m.sizes.items = omega arith in
    let same : get_or m.sizes.items m.innermost 0 ≡ c.args.size = sym (get_or_read m.sizes.items m.innermost c.index.result.now within c.index.ensures 0) ∙ c.if-index-size.false in
    let inner = leaves m.end m.start m.innermost m.stack.items m.sizes.items c.self.invariant c.args.self.now c.self.view_is c.args.size within same in
    (0, ap (λ b. if b then Says 0 else Fails) inner)

pub returns-clause-learns : goal.returns-clause-learns
returns-clause-learns c =
    let m = c.self.inside in
    let within : m.innermost < length m.sizes.items = omega arith in
    let same : get_or m.sizes.items m.innermost 0 ≡ c.args.size = sym (get_or_read m.sizes.items m.innermost c.index.result.now within c.index.ensures 0) ∙ c.if-index-size.false in
    let inner = leaves m.end m.start m.innermost m.stack.items m.sizes.items c.self.invariant c.args.self.now c.self.view_is c.args.size within same in
    left_is m.end m.start m.innermost m.stack.items m.sizes.items c.self.invariant c.args.self.now c.self.view_is c.args.size inner
