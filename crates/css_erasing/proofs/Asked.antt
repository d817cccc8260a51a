-- What is asked under the rules, and in the flat memory with units.
use Rattle.std.proofs.Common.{◌≡◌, ℕ, zero, suc, ◌-◌, ◌≤◌, true, false, Option, Some, None, ◌∷◌, refl, sym, ap, ◌∙◌, subst, arith}
use Rattle.css_base.specs.declared.limits.Limits.{Limits}
use Rattle.css_base.specs.declared.rule.Rule.{Rule}
use Rattle.css_semantics.specs.Dialogue.{Action, Enter, Turn, Item, item, Reply, Says, Fails, Refuses, World, Tape, Outcome, Goes, tape_of, then_do, replied, ask}
use Rattle.css_semantics.specs.Units.{with_units, within, metered}
use Rattle.css_semantics.specs.Flat.{FlatState, reply_in, flat_at, flat}
use Rattle.css_semantics.specs.Tasks.{unit_of}
use Rattle.css_semantics.specs.Rules.{hit, judged_reply}
use Rattle.css_semantics.specs.Verdict.{judged_in}
use Rattle.css_small_code.proofs.Grows.{Grows, grows_then, grows_ask}
use Rattle.css_semantics.specs.Plain.{is_of_tasks, is_left_out, plain, entries}
use Rattle.css_semantics.specs.Erased.{IsErased}
use Rattle.css_semantics.proofs.PlainTapes.{plain_stays, plain_without, stays_in, left_behind}
use Rattle.css_erasing.proofs.Kept.{Kept}

-- ---- replies

-- what the rules don't refuse has the memory's reply
says_by : (broken : Option Rule) (reply : Reply) (value : ℕ) → judged_reply broken reply ≡ Says value → reply ≡ Says value
says_by None reply value e = e
says_by (Some rule) reply value e = cc

fails_by : (broken : Option Rule) (reply : Reply) → judged_reply broken reply ≡ Fails → reply ≡ Fails
fails_by None reply e = e
fails_by (Some rule) reply e = cc

-- units change no reply where one is left, and no failing
enough : (units : ℕ) (reply : Reply) → 1 ≤ units → within units reply ≡ reply
enough zero reply le = absurd (omega (arith, le))
enough (suc units) reply le = refl

fails_within : (units : ℕ) → within units Fails ≡ Fails
fails_within zero = refl
fails_within (suc units) = refl

says_with : (m : FlatState) (units : ℕ) (action : Action) (value : ℕ) → reply_in m action ≡ Says value → unit_of action ≤ units → metered reply_in (with_units m units) action ≡ Says value
says_with m units (Enter size) value e le = enough units (reply_in m (Enter size)) le ∙ e
says_with m units Turn value e le = enough units (Says 0) le ∙ e
says_with m units action value e le = e

fails_with : (m : FlatState) (units : ℕ) (action : Action) → reply_in m action ≡ Fails → metered reply_in (with_units m units) action ≡ Fails
fails_with m units (Enter size) e = ap (within units) e ∙ fails_within units
fails_with m units Turn e = cc
fails_with m units action e = e

-- ---- an item that stays

by_reply : (n : ℕ) (r r' : Reply) (i : Item) (tape : Tape) → is_left_out i ≡ false → ((value : ℕ) → r ≡ Says value → entries (i ∷ tape) ≤ n → r' ≡ Says value) → (r ≡ Fails → r' ≡ Fails) → Grows (plain tape) (replied r' i (plain tape))
    → entries (tape_of (replied r i tape)) ≤ n → IsErased (replied r i tape) (replied r' i (plain tape))
by_reply n (Says value) r' i tape stays says fails grows few = ap (λ x. replied x i (plain tape)) (says value refl few) ∙ ap (λ t. Goes value t) (sym (plain_stays i tape stays))
by_reply n Fails r' i tape stays says fails grows few = rw (fails refl, stays) refl
by_reply n (Refuses rule) r' i tape stays says fails grows few = grows

module _ (limits : Limits) (start : FlatState) (n : ℕ) where
  -- under the rules, and where directives are erased
  abbrev pub w : World
  w = judged_in limits start

  abbrev pub w' : World
  w' = flat start n

  flat_is : (action : Action) (line : ℕ) (tape : Tape) → w' (plain tape) (item action line) ≡ metered reply_in (with_units (flat_at start tape) (n - entries tape)) action
  flat_is action line tape = ap (λ s. metered reply_in s action) (left_behind start n tape)

  says_too : (action : Action) (line : ℕ) (tape : Tape) (value : ℕ) → w tape (item action line) ≡ Says value → entries (item action line ∷ tape) ≤ n → w' (plain tape) (item action line) ≡ Says value
  says_too action line tape value e few =
      flat_is action line tape ∙ says_with (flat_at start tape) (n - entries tape) action value (says_by (hit start.memory limits tape action) (reply_in (flat_at start tape) action) value e) (omega (arith, few))

  fails_too : (action : Action) (line : ℕ) (tape : Tape) → w tape (item action line) ≡ Fails → w' (plain tape) (item action line) ≡ Fails
  fails_too action line tape e =
      flat_is action line tape ∙ fails_with (flat_at start tape) (n - entries tape) action (fails_by (hit start.memory limits tape action) (reply_in (flat_at start tape) action) e)

  pub kept_ask : (action : Action) → is_of_tasks action ≡ false → (line : ℕ) → Kept n (ask w action line) (ask w' action line)
  kept_ask action stays line = record {
    grows = grows_ask w action line;
    grows_erased = grows_ask w' action line;
    erases = λ t. by_reply n (w t (item action line)) (w' (plain t) (item action line)) (item action line) t (stays_in action line stays) (says_too action line t) (fails_too action line t) (grows_ask w' action line (plain t));
  }

  -- ---- an item that is left out

  -- it has this reply, whatever the memory
  abbrev pub IsTold : Action → ℕ → Type 0
  IsTold action value = (m : FlatState) → reply_in m action ≡ Says value

  by_rule : {A : Type 0} (broken : Option Rule) (i : Item) (tape : Tape) (value : ℕ) (go : ℕ → Tape → Outcome A) (q : Outcome A) → Grows (plain tape) q → (entries (tape_of (go value (i ∷ tape))) ≤ n → IsErased (go value (i ∷ tape)) q)
      → entries (tape_of (then_do (replied (judged_reply broken (Says value)) i tape) go)) ≤ n → IsErased (then_do (replied (judged_reply broken (Says value)) i tape) go) q
  by_rule None i tape value go q grows h few = h few
  by_rule (Some rule) i tape value go q grows h few = grows

  told : {A : Type 0} (action : Action) → is_of_tasks action ≡ true → (value : ℕ) → IsTold action value → (line : ℕ) (go : ℕ → Tape → Outcome A) (d' : Tape → Outcome A) → Kept n (go value) d' → (tape : Tape)
      → entries (tape_of (then_do (ask w action line tape) go)) ≤ n → IsErased (then_do (ask w action line tape) go) (d' (plain tape))
  told action is value is_told line go d' kept tape =
      let i = item action line in
      subst (λ r. entries (tape_of (then_do (replied (judged_reply (hit start.memory limits tape action) r) i tape) go)) ≤ n → IsErased (then_do (replied (judged_reply (hit start.memory limits tape action) r) i tape) go) (d' (plain tape))) (sym (is_told (flat_at start tape)))
      (by_rule (hit start.memory limits tape action) i tape value go (d' (plain tape)) (kept.grows_erased (plain tape))
      (λ few. subst (λ t. IsErased (go value (i ∷ tape)) (d' t)) (plain_without action line tape is) (kept.erases (i ∷ tape) few)))

  pub kept_told : {A : Type 0} {go : ℕ → Tape → Outcome A} {d' : Tape → Outcome A} (action : Action) → is_of_tasks action ≡ true → (value : ℕ) → IsTold action value → (line : ℕ) → ((r : ℕ) (t : Tape) → Grows t (go r t)) → Kept n (go value) d' → Kept n (λ t. then_do (ask w action line t) go) d'
  kept_told {go} {d'} action is value is_told line grows kept = record {
    grows = λ t. grows_then (ask w action line t) go t (grows_ask w action line t) grows;
    grows_erased = kept.grows_erased;
    erases = told action is value is_told line go d' kept;
  }
