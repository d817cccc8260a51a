-- What a task's call that breaks no rule is given is live.
use Rattle.std.proofs.Common.{◌≡◌, ℕ, Bool, true, false, not, ◌||◌, List, [], ◌∷◌, map, None, refl, sym, ap, ◌∙◌}
use Rattle.std.specs.List.{list_any}
use Rattle.css_base.specs.declared.limits.Limits.{Limits}
use Rattle.css_semantics.specs.Dialogue.{Calls, Call, Tape, Argument}
use Rattle.css_semantics.specs.Memory.{Memory, is_live_byte, memory_after}
use Rattle.css_semantics.specs.Tasks.{use_of, window, body}
use Rattle.css_semantics.specs.Rules.{all_of_window, checks_of_main, hit}
use Rattle.css_semantics.proofs.Checks.{are_kept}
use Rattle.css_in_place.proofs.Hits.{hit_in}
use Rattle.css_in_place.proofs.Given.{IsWindowed, windows_all}

-- ---- the windows

of_uses : (test : ℕ → Bool) (arguments : List Argument) → list_any (λ u. not (all_of_window test u.window)) (map use_of arguments) ≡ list_any (λ a. not (all_of_window test (window a))) arguments
of_uses test [] = refl
of_uses test (x ∷ arguments) = ap (λ b. not (all_of_window test (window x)) || b) (of_uses test arguments)

-- what a call is given is live
pub given_live : (start : Memory) (limits : Limits) (before : Tape) (call : Call) → hit start limits before (Calls call) ≡ None → body before ≡ None → (a : ℕ) → IsWindowed (map use_of call.arguments) a → is_live_byte (memory_after start before) a ≡ true
given_live start limits before call none by_main a held =
    let fine = sym (ap (hit_in (memory_after start before) limits before (Calls call)) by_main) ∙ none in
    let live = is_live_byte (memory_after start before) in
    windows_all live (map use_of call.arguments) (of_uses live call.arguments ∙ (are_kept (checks_of_main (memory_after start before) limits before (Calls call)) fine).1.1.1.1.0) a held
