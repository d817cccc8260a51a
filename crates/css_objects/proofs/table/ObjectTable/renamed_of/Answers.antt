use Rattle.std.proofs.Common.{◌≡◌, ◌<◌, ◌++◌, Bool, [], ◌∷◌, length, map, take, get_or, arith, sym, ap, ◌∙◌}
use Rattle.css_record.specs.declared.window.Window.{Window}
use Rattle.css_arguments.specs.declared.argument.Argument.{Argument}
use Rattle.css_arguments.specs.Arguments.{given}
use Rattle.css_objects.specs.Table.{objects}
use Rattle.css_objects.specs.Naming.{renames}
use Rattle.css_arguments.proofs.Lists.{place_map}
use Rattle.css_arguments.proofs.Looking.{take_at}
use Rattle.css_arguments.proofs.Measures.{at_get_or}
use Rattle.css_objects.proofs.Giving.{renamed_is, window_is, windows_long}
use Rattle.css_objects.proofs.table.ObjectTable.renamed_of.Goals as goal

pub loop-place-preserved : goal.loop-place-preserved
loop-place-preserved g c =
    let zero : Window = record { base = 0; rows = 0; width = 0; stride = 0 } in
    let within : c.loop-place.place < length c.args.windows.now = omega (arith, windows_long c.args.arguments.now c.args.windows.now c.requires, c.loop-place-test.true) in
    let w : Window = get_or c.args.windows.now c.loop-place.place zero in
    let a : Argument = get_or c.args.arguments.now c.loop-place.place c.index-arguments-place.result in
    let at = at_get_or c.args.arguments.now c.loop-place.place c.index-arguments-place.result c.loop-place-test.true in
    let is : c.is_renamed.result ≡ renames (objects c.args.self.now) (given a) =
    c.is_renamed.ensures
    ∙ renamed_is (objects c.args.self.now) a w (window_is c.args.arguments.now c.args.windows.now c.requires c.loop-place.place w a (at_get_or c.args.windows.now c.loop-place.place zero within) at) in
    c.in_ok-push.ensures.items
    ∙ ap (λ xs. xs ++ c.is_renamed.result ∷ []) c.loop-place.invariant
    ∙ ap (λ (b : Bool). take c.loop-place.place (map (renames (objects c.args.self.now)) (map given c.args.arguments.now)) ++ b ∷ []) is
    ∙ sym (take_at (map (renames (objects c.args.self.now)) (map given c.args.arguments.now)) c.loop-place.place (renames (objects c.args.self.now) (given a))
    (place_map (renames (objects c.args.self.now)) (map given c.args.arguments.now) c.loop-place.place (given a) (place_map given c.args.arguments.now c.loop-place.place a at)))
