-- The window of a plain task that may be called.
use Rattle.std.proofs.Common.{◌≡◌, inl, inr, ℕ, ◌+◌, ◌-◌, ◌<◌, ◌≤◌, Bool, true, false, not, [], ◌∷◌, length, None, refl, ap, sym, subst, arith}
use Rattle.std.proofs.lemmas.Bool.{or_parts}
use Rattle.std.proofs.lemmas.Bool.Decides.{nat_tests}
use Rattle.css_base.specs.declared.limits.Limits.{Limits}
use Rattle.css_semantics.specs.Dialogue.{Tape}
use Rattle.css_semantics.specs.Memory.{Memory, is_live_byte, stack_place}
use Rattle.css_semantics.specs.Flat.{FlatState, IsLaidOut, IsStart}
use Rattle.css_semantics.specs.Rules.{all_of_window, share_byte}
use Rattle.css_semantics.specs.Tasks.{plain, has_byte}
use Rattle.css_semantics.specs.Units.{Metered}
use Rattle.css_semantics.proofs.Checks.{are_kept}
use Rattle.css_semantics.proofs.Windows.{window_gives, window_by}
use Rattle.css_semantics.proofs.LaidOut.{live_apart, laid_along}
use Rattle.css_judged.specs.Judged.{Judged, call_checks, broken_by_call, plain_argument, IsMainAt}

is_true : (b : Bool) → not b ≡ false → b ≡ true
is_true true is = refl
is_true false is = absurd (cc)

-- its bytes are live
pub call_live : (limits : Limits) (s : Judged) (base : ℕ) → broken_by_call limits s (plain_argument base ∷ []) ≡ None → all_of_window (is_live_byte s.memory) (plain base 4) ≡ true
call_live limits s base none =
    let kept = are_kept (call_checks limits s (plain_argument base ∷ [])) none in
    let live = all_of_window (is_live_byte s.memory) (plain base 4) in
    is_true live (or_parts (not live) false kept.1.1.0).0

module _ (limits : Limits) (start : FlatState) (tape : Tape) (s : Metered Judged) (base : ℕ) (starts : IsStart limits.memory start) (at : IsMainAt limits start tape s)
    (none : broken_by_call limits s.state (plain_argument base ∷ []) ≡ None) where
  abbrev m : Memory
  m = s.state.memory

  laid : IsLaidOut limits.memory m
  laid = subst (IsLaidOut limits.memory) (sym at.memory) (laid_along limits.memory start.memory tape starts.laid_out)

  -- each byte is live
  byte_live : (a : ℕ) → has_byte (plain base 4) a ≡ true → is_live_byte m a ≡ true
  byte_live a has = window_gives (is_live_byte m) (plain base 4) (call_live limits s.state base none) a has

  -- they are within the memory
  pub call_within : base + 4 ≤ limits.memory
  call_within =
      let last : has_byte (plain base 4) (base + 3) ≡ true = grind (arith, nat_tests) in
      elim (live_apart m (base + 3) (byte_live (base + 3) last)) [
        | inl low ↦ omega (arith, low, laid.room)
        | inr high ↦ omega (arith, high.1, laid.end)
      ]

  -- and share none with the stack of the task
  module _ (small : length m.stack ≤ 1048576) where
    out_of_stack : (a : ℕ) → has_byte (plain base 4) a ≡ true → not (has_byte (plain (stack_place m - 16384) 16384) a) ≡ true
    out_of_stack a has =
        elim (live_apart m a (byte_live a has)) [
          | inl low ↦
              let below : a < stack_place m - 16384 = omega (arith, low, laid.room, laid.end, small) in
              grind (arith, nat_tests, below)
          | inr high ↦
              let room : 16384 ≤ stack_place m = omega (arith, laid.room, laid.end, small) in
              let above = high.0 in
              grind (arith, nat_tests, room, above)
        ]

    pub call_clear : share_byte (plain base 4) (plain (stack_place m - 16384) 16384) ≡ false
    call_clear = ap not (window_by (λ a. not (has_byte (plain (stack_place m - 16384) 16384) a)) (plain base 4) out_of_stack)
