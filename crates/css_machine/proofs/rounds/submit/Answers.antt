use Rattle.std.proofs.Common.{◌≡◌, ◌≤◌, length, take, reverse, option_map, refl, sym, ap, ◌∙◌, arith}
use Rattle.std.proofs.lemmas.List.{length-map, length-reverse, length-take-le}
use Rattle.css_isa.specs.declared.code.Op.TheVariants as ops
use Rattle.css_isa.specs.Code.{routine, code_of, shape}
use Rattle.css_isa.specs.Spaces.{bytes_of}
use Rattle.css_machine.specs.States.{stack_of, dropped}
use Rattle.css_machine.proofs.Made.{finds_before}
use Rattle.css_machine.proofs.Submitting.{submit_finds, stack_dropped, arguments_there}
use Rattle.css_machine.proofs.rounds.submit.Goals as goal

pub function-task-requires : goal.function-task-requires
function-task-requires c =
    let names = (finds_before (code_of c.args.code.now) (ops.Submit c.args.function) c.args.line c.args.activations.now c.requires.fits c.requires.before).1 in
    (names.0, names.2)

pub topmost-requires-2 : goal.topmost-requires-2
topmost-requires-2 c =
    let task = c.function-task.result.now in
    let there = arguments_there (code_of c.args.code.now) c.args.function c.args.line c.args.activations.now (routine task) (shape c.in-Some.shape) c.in-Some-dimensions.count c.requires.fits c.requires.before c.function-task.ensures (ap (option_map shape) c.in-Some.is) c.in-Some-dimensions.ensures in
    rw c.drop_topmost.ensures (omega (arith, there, ap length c.as_slice-params.ensures, length-map task.params bytes_of))

pub arguments_of-requires : goal.arguments_of-requires
arguments_of-requires c =
    let task = c.function-task.result.now in
    let left = dropped c.in-Some-dimensions.count c.args.activations.now in
    let there = arguments_there (code_of c.args.code.now) c.args.function c.args.line c.args.activations.now (routine task) (shape c.in-Some.shape) c.in-Some-dimensions.count c.requires.fits c.requires.before c.function-task.ensures (ap (option_map shape) c.in-Some.is) c.in-Some-dimensions.ensures in
    let arity = length c.as_slice-params.result.now in
    let enough : arity ≤ length (stack_of left) = omega (arith, there, ap length c.as_slice-params.ensures, length-map task.params bytes_of) in
    rw (c.topmost-2.ensures, c.drop_topmost.ensures)
    (length-reverse (take arity (stack_of left)) ∙ length-take-le arity (stack_of left) enough)

pub drop_topmost-requires-2 : goal.drop_topmost-requires-2
drop_topmost-requires-2 c =
    let task = c.function-task.result.now in
    let there = arguments_there (code_of c.args.code.now) c.args.function c.args.line c.args.activations.now (routine task) (shape c.in-Some.shape) c.in-Some-dimensions.count c.requires.fits c.requires.before c.function-task.ensures (ap (option_map shape) c.in-Some.is) c.in-Some-dimensions.ensures in
    rw c.drop_topmost.ensures (omega (arith, there, ap length c.as_slice-params.ensures, length-map task.params bytes_of))

pub returns : goal.returns
returns c =
    let task = c.function-task.result.now in
    let is_task = ap (option_map shape) c.in-Some.is in
    let count = c.in-Some-dimensions.count in
    let s = c.args.activations.now in
    let arity : length c.as_slice-params.result.now ≡ length (routine task).parameters = ap length c.as_slice-params.ensures ∙ sym (length-map task.params bytes_of) in (
      refl,
      record {
        function = routine task;
        shape = shape c.in-Some.shape;
        is_there = c.function-task.ensures;
        is_task = is_task;
        cells = submit_finds (code_of c.args.code.now) c.args.function c.args.line s (routine task) (shape c.in-Some.shape) c.requires.fits c.requires.before c.function-task.ensures is_task;
        dimensions = c.in_ok-dims.ensures.items ∙ c.topmost.ensures ∙ ap (λ n. reverse (take n (stack_of s))) c.in-Some-dimensions.ensures;
        arguments =
            rw (c.in_ok-arguments.ensures, c.topmost-2.ensures, c.drop_topmost.ensures, stack_dropped count s, arity, c.in-Some-dimensions.ensures, c.as_slice-params.ensures) refl;
        line_is = refl;
        new_is =
            rw (c.advance.ensures, c.in_ok-push.ensures, c.drop_topmost-2.ensures, c.drop_topmost.ensures, arity, c.in-Some-dimensions.ensures) refl;
      },
    )
