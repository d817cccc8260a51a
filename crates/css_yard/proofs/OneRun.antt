-- A dialogue of a function alone comes to one end, whatever its fuel.
use Rattle.std.proofs.Common.{◌≡◌, ℕ, zero, suc, List, [], Option, refl, sym, ◌∙◌, ap, subst}
use Rattle.std.specs.List.{slice_get}
use Rattle.css_base.specs.declared.ending.Stop.{Stop}
use Rattle.css_semantics.specs.Dialogue.{World, Tape, Outcome, Goes, Stops, Stopped, Tired, then_do}
use Rattle.css_vm.specs.Code.{Code}
use Rattle.css_vm.specs.Machine.{State, Begin, Halt, After, Ended, On, step, go_on, exec, frame_of, body_ends, alone}

-- it isn't cut off by its fuel
abbrev pub IsWhole : {A : Type 0} → Outcome A → Type 0
IsWhole (Goes value tape) = Unit {0}
IsWhole (Stops (Stopped stop line) tape) = Unit {0}
IsWhole (Stops Tired tape) = ⊥

whole_first : {A B : Type 0} (o : Outcome A) (go : A → Tape → Outcome B) → IsWhole (then_do o go) → IsWhole o
whole_first (Goes value tape) go whole = tt
whole_first (Stops (Stopped stop line) tape) go whole = tt
whole_first (Stops Tired tape) go whole = whole

one_after : (go other : State → Tape → Outcome Halt) → ((s : State) (tape : Tape) → IsWhole (go s tape) → IsWhole (other s tape) → go s tape ≡ other s tape)
    → (o : Outcome After) → IsWhole (then_do o (go_on go)) → IsWhole (then_do o (go_on other)) → then_do o (go_on go) ≡ then_do o (go_on other)
one_after go other same (Goes (Ended halt) tape) a b = refl
one_after go other same (Goes (On s) tape) a b = same s tape a b
one_after go other same (Stops why tape) a b = refl

module _ (w : World) (code : Code) where
  one_run : (n m : ℕ) (s : State) (tape : Tape) → IsWhole (exec w code n s tape) → IsWhole (exec w code m s tape) → exec w code n s tape ≡ exec w code m s tape
  one_run zero m s tape a b = absurd a
  one_run (suc n) zero s tape a b = absurd b
  one_run (suc n) (suc m) s tape a b = one_after (exec w code n) (exec w code m) (one_run n m) (step w code s tape) a b

  module _ (function : ℕ) (arguments : List ℕ) (line : ℕ) where
    one_alone : (n m : ℕ) → IsWhole (alone w code function arguments line n) → IsWhole (alone w code function arguments line m)
        → alone w code function arguments line n ≡ alone w code function arguments line m
    one_alone n m a b =
        let leaves = body_ends w (frame_of (slice_get code.functions function)) in
        let start = Begin function arguments line in
        ap (λ o. then_do o leaves) (one_run n m start [] (whole_first (exec w code n start []) leaves a) (whole_first (exec w code m start []) leaves b))

    -- two dialogues that go on have one tape
    pub one_tape : (n m : ℕ) (x y : Option ℕ) (tape other : Tape) → alone w code function arguments line n ≡ Goes x tape
        → alone w code function arguments line m ≡ Goes y other → tape ≡ other
    one_tape n m x y tape other a b =
        let same = one_alone n m (subst IsWhole (sym a) tt) (subst IsWhole (sym b) tt) in
        let both : Goes x tape ≡ Goes y other = sym a ∙ same ∙ b in cc

    -- none goes on that stops
    pub goes_or_stops : (n m : ℕ) (x : Option ℕ) (tape other : Tape) (stop : Stop) (at : ℕ) → alone w code function arguments line n ≡ Goes x tape
        → alone w code function arguments line m ≡ Stops (Stopped stop at) other → ⊥
    goes_or_stops n m x tape other stop at a b =
        let same = one_alone n m (subst IsWhole (sym a) tt) (subst IsWhole (sym b) tt) in
        let both : Goes x tape ≡ Stops (Stopped stop at) other = sym a ∙ same ∙ b in cc

    -- two that stop do so at one thing in one line
    pub one_stop : (n m : ℕ) (tape other : Tape) (stop stop' : Stop) (at at' : ℕ) → alone w code function arguments line n ≡ Stops (Stopped stop at) tape
        → alone w code function arguments line m ≡ Stops (Stopped stop' at') other → (stop ≡ stop') × (at ≡ at')
    one_stop n m tape other stop stop' at at' a b =
        let same = one_alone n m (subst IsWhole (sym a) tt) (subst IsWhole (sym b) tt) in
        let both : ◌≡◌ {A = Outcome (Option ℕ)} (Stops (Stopped stop at) tape) (Stops (Stopped stop' at') other) = sym a ∙ same ∙ b in (cc, cc)
