use Rattle.std.proofs.Common.{◌≡◌, ◌+◌, ◌-◌, take, drop, ap, ◌∙◌, arith}
use Rattle.css_semantics.specs.Memory.{big_endian}
use Rattle.css_vm.specs.Spaces.{bytes_of}
use Rattle.css_task.proofs.Spaces.{loads_from_stack}
use Rattle.css_task.proofs.task_stack.TaskStackSpace.load.Goals as goal

pub returns-in-Some-clause-says : goal.returns-in-Some-clause-says
returns-in-Some-clause-says c =
    let m = c.self.inside in
    let width = c.byte_count-count.ensures in
    let index = c.in-Some.index in
    let count : index + c.byte_count-count.result - index ≡ bytes_of c.args.width = omega arith in
    let inside = rw width at c.in-Some.ensures.has in
    let below = rw width at c.in-Some.ensures.within.1 in
    loads_from_stack m.end m.start m.innermost m.stack.items m.sizes.items c.self.invariant c.args.self.now c.self.view_is
    c.args.address (bytes_of c.args.width) index c.number_of.result inside c.in-Some.ensures.place c.in-Some.ensures.within.0 below
    (c.number_of.ensures ∙ ap (λ n. big_endian (take n (drop index c.deref.result.now))) count ∙ ap (λ bytes. big_endian (take (bytes_of c.args.width) (drop index bytes))) c.deref.ensures.value)
