use Rattle.std.proofs.Common.{◌+◌, map, drop, length, refl, sym, ap, ◌∙◌, arith}
use Rattle.std.proofs.lemmas.List.{length-map}
use Rattle.std.proofs.lemmas.Option.{slice_get_read}
use Rattle.css_semantics.specs.Tasks as tasks
use Rattle.css_record.specs.Windows.{window}
use Rattle.css_arguments.specs.Arguments.{given}
use Rattle.css_arguments.proofs.Lists.{place_map}
use Rattle.css_arguments.proofs.Looking.{alias_begin, alias_found, alias_next, alias_over, twice_is}
use Rattle.css_arguments.proofs.judging.any_alias.Goals as goal

pub loop-place-init : goal.loop-place-init
loop-place-init c = alias_begin (map given c.args.arguments.now)

pub returns-then-is_aliased : goal.returns-then-is_aliased
returns-then-is_aliased c =
    let a = c.index-arguments-place.result in
    let at = slice_get_read c.args.arguments.now (length c.args.arguments.now) c.loop-place.place a refl c.loop-place-test.true c.index-arguments-place.is in
    alias_found (map given c.args.arguments.now) c.loop-place.place (given a) c.loop-place.invariant (place_map given c.args.arguments.now c.loop-place.place a at)
    (twice_is (given a) (window c.window_at-window.result) c.is_written-written.result c.is_aliased.result (drop (c.loop-place.place + 1) (map given c.args.arguments.now))
    (c.window_at-window.ensures.value a at).is (c.is_written-written.ensures ∙ ap (λ x. tasks.writes x.direction) (sym c.index-arguments-place.is)) c.is_aliased.ensures ∙ c.if-is_aliased.true)

pub loop-place-preserved : goal.loop-place-preserved
loop-place-preserved c =
    let a = c.index-arguments-place.result in
    let at = slice_get_read c.args.arguments.now (length c.args.arguments.now) c.loop-place.place a refl c.loop-place-test.true c.index-arguments-place.is in
    alias_next (map given c.args.arguments.now) c.loop-place.place (given a) c.loop-place.invariant (place_map given c.args.arguments.now c.loop-place.place a at)
    (twice_is (given a) (window c.window_at-window.result) c.is_written-written.result c.is_aliased.result (drop (c.loop-place.place + 1) (map given c.args.arguments.now))
    (c.window_at-window.ensures.value a at).is (c.is_written-written.ensures ∙ ap (λ x. tasks.writes x.direction) (sym c.index-arguments-place.is)) c.is_aliased.ensures ∙ c.if-is_aliased.false)

pub returns : goal.returns
returns c = alias_over (map given c.args.arguments.now) c.loop-place.place c.loop-place.invariant (omega (arith, length-map c.args.arguments.now given))
