use Rattle.std.proofs.Common.{◌≡◌, ℕ, false, map, take, subst, sym, ap, ◌∙◌, arith}
use Rattle.std.specs.List.{list_any}
use Rattle.css_semantics.specs.Tasks as tasks
use Rattle.css_record.specs.Windows.{window}
use Rattle.css_arguments.specs.Arguments.{given}
use Rattle.css_arguments.proofs.Lists.{place_map}
use Rattle.css_arguments.proofs.Looking.{within, before_begin, before_found, before_next, before_end}
use Rattle.css_arguments.proofs.judging.stands_before.Goals as goal

pub loop-place-init : goal.loop-place-init
loop-place-init c = before_begin (λ (w : tasks.Window). tasks.is_same_window w (window c.args.window.now)) (map tasks.window (map given c.args.arguments.now))

pub returns-then-same : goal.returns-then-same
returns-then-same c =
    let a = within c.args.arguments.now c.loop-place.place (omega (arith, c.requires.end, c.loop-place-test.true)) in
    before_found (λ (w : tasks.Window). tasks.is_same_window w (window c.args.window.now)) (map tasks.window (map given c.args.arguments.now)) c.args.end c.loop-place.place (tasks.window (given a.0))
    c.loop-place-test.true
    (place_map tasks.window (map given c.args.arguments.now) c.loop-place.place (given a.0) (place_map given c.args.arguments.now c.loop-place.place a.0 a.1))
    (ap (λ w. tasks.is_same_window w (window c.args.window.now)) (sym (c.window_at.ensures.value a.0 a.1).is) ∙ sym c.same.ensures.test ∙ c.if-same.true)

pub loop-place-preserved : goal.loop-place-preserved
loop-place-preserved c =
    let a = within c.args.arguments.now c.loop-place.place (omega (arith, c.requires.end, c.loop-place-test.true)) in
    before_next (λ (w : tasks.Window). tasks.is_same_window w (window c.args.window.now)) (map tasks.window (map given c.args.arguments.now)) c.loop-place.place (tasks.window (given a.0)) c.loop-place.invariant
    (place_map tasks.window (map given c.args.arguments.now) c.loop-place.place (given a.0) (place_map given c.args.arguments.now c.loop-place.place a.0 a.1))
    (ap (λ w. tasks.is_same_window w (window c.args.window.now)) (sym (c.window_at.ensures.value a.0 a.1).is) ∙ sym c.same.ensures.test ∙ c.if-same.false)

pub returns : goal.returns
returns c =
    let ended : c.loop-place.place ≡ c.args.end = omega arith in
    subst (λ (n : ℕ). false ≡ list_any (λ w. tasks.is_same_window w (window c.args.window.now)) (take n (map tasks.window (map given c.args.arguments.now)))) ended
    (before_end (λ (w : tasks.Window). tasks.is_same_window w (window c.args.window.now)) (map tasks.window (map given c.args.arguments.now)) c.loop-place.place c.loop-place.invariant)
