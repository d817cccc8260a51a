-- A run that is over stays over with more steps, so it has one end: that of the source which it follows.
use Rattle.std.proofs.Common.{◌≡◌, ◌≢◌, ℕ, ℤ, zero, suc, ◌≤◌, [], Option, Some, None, refl, sym, ap, ◌∙◌, subst, ⊎_elim, arith}
use Rattle.std.proofs.lemmas.Bool.{cases_lt}
use Rattle.css_semantics.specs.Dialogue.{Tape, World, Reason, Outcome, Goes, Stops, Stopped, Tired, then_do}
use Rattle.css_vm.specs.Code.{Code}
use Rattle.css_vm.specs.Machine.{Halt, State, After, Ended, On, step, go_on, exec}
use Rattle.css_small_code.specs.Correct.{SameDialogue}
use Rattle.css_small_code.proofs.Runs.{Run, Landing, Runs, RunsTo}

-- the run is over: no step is left to take
abbrev pub IsOver : {R : Type 0} → Outcome R → Type 0
IsOver (Goes halt t) = Unit {0}
IsOver (Stops (Stopped stop line) t) = Unit {0}
IsOver (Stops Tired t) = ⊥

-- where the first is over, the second is over with the same outcome
abbrev Extends : (State → Tape → Outcome Halt) → (State → Tape → Outcome Halt) → Type 0
Extends f g = (s : State) (t : Tape) (o : Outcome Halt) → IsOver o → f s t ≡ o → g s t ≡ o

after_extends : (f g : State → Tape → Outcome Halt) → Extends f g → (x : Outcome After) (o : Outcome Halt) → IsOver o → then_do x (go_on f) ≡ o → then_do x (go_on g) ≡ o
after_extends f g h (Goes (Ended halt) t) o over e = e
after_extends f g h (Goes (On s) t) o over e = h s t o over e
after_extends f g h (Stops why t) o over e = e

-- more steps change nothing of a run that is over
longer : (w : World) (code : Code) (m n : ℕ) → m ≤ n → Extends (exec w code m) (exec w code n)
longer w code zero n le s t o over e = absurd (subst IsOver (sym e) over)
longer w code (suc m) zero le s t o over e = absurd (omega arith)
longer w code (suc m) (suc n) le s t o over e =
    after_extends (exec w code m) (exec w code n) (longer w code m n (omega arith)) (step w code s t) o over e

module _ {R : Type 0} (w : World) (code : Code) (start : State) (ends : Halt → Tape → Outcome R) where
  -- so many steps from a state, and what ends them
  abbrev pub whole : Run R
  whole n = then_do (exec w code n start []) ends

  longer_from : (x : Outcome Halt) (m n : ℕ) (o : Outcome R) → m ≤ n → IsOver o → exec w code m start [] ≡ x → then_do x ends ≡ o → whole n ≡ o
  longer_from (Goes halt t) m n o le over is e =
      ap (λ x. then_do x ends) (longer w code m n le start [] (Goes halt t) tt is) ∙ e
  longer_from (Stops (Stopped stop line) t) m n o le over is e =
      ap (λ x. then_do x ends) (longer w code m n le start [] (Stops (Stopped stop line) t) tt is) ∙ e
  longer_from (Stops Tired t) m n o le over is e = absurd (subst IsOver (sym e) over)

  longer_whole : (m n : ℕ) (o : Outcome R) → m ≤ n → IsOver o → whole m ≡ o → whole n ≡ o
  longer_whole m n o le over e = longer_from (exec w code m start []) m n o le over refl e

  -- two ends of one run are the same
  one_end : (m n : ℕ) (o p : Outcome R) → IsOver o → IsOver p → whole m ≡ o → whole n ≡ p → o ≡ p
  one_end m n o p over_o over_p e e' =
      ⊎_elim
      (λ lt. sym (longer_whole m n o (omega arith) over_o e) ∙ e')
      (λ le. sym e ∙ longer_whole n m p le over_p e')
      (cases_lt m n)

-- ---- a source and its machine

module _ {A : Type 0} (give : ℤ → A) where
  -- behind the source's value the machine has ended with what it gives
  abbrev pub Finishes : Landing (Option A) ℤ
  Finishes k v t = Goes (Some (give v)) t

  -- the machine's outcome, where the source has this one
  abbrev pub same : Outcome ℤ → Outcome (Option A)
  same (Goes v t) = Goes (Some (give v)) t
  same (Stops why t) = Stops why t

  reached : (n : ℕ) (to : Run (Option A)) (o : Outcome ℤ) → RunsTo n to Finishes o → (m : ℕ) × (to m ≡ same o)
  reached n to (Goes v t) r = let b = r 0 in (b.0, b.2)
  reached n to (Stops why t) r = (r.0, r.2)

  finished_same : (n : ℕ) (from : ℕ → Outcome ℤ) (o : Outcome ℤ) (a : A) (t : Tape) → from n ≡ o → same o ≡ Goes (Some a) t → (fuel : ℕ) × (v : ℤ) × (give v ≡ a) × (from fuel ≡ Goes v t)
  finished_same n from (Goes u s) a t is e =
      let value : give u ≡ a = cc in
      let tape : s ≡ t = cc in
      (n, u, value, is ∙ ap (Goes u) tape)
  finished_same n from (Stops why s) a t is e = cc

  stops_same : (o : Outcome ℤ) (why : Reason) (t : Tape) → same o ≡ Stops why t → o ≡ Stops why t
  stops_same (Goes u s) why t e = cc
  stops_same (Stops how s) why t e = cc

  not_stuck : (o : Outcome ℤ) (t : Tape) → same o ≢ Goes None t
  not_stuck (Goes u s) t e = cc
  not_stuck (Stops how s) t e = cc

module _ {A : Type 0} (w : World) (code : Code) (start : State) (ends : Halt → Tape → Outcome (Option A)) (from : ℕ → Outcome ℤ) (give : ℤ → A) (follows : (n : ℕ) → Runs n (whole w code start ends) (Finishes give) (from n)) where
  abbrev to : Run (Option A)
  to = whole w code start ends

  -- the machine comes to the source's end
  comes_to : (fuel : ℕ) (o : Outcome ℤ) → from fuel ≡ o → (n : ℕ) × (to n ≡ same give o)
  comes_to fuel o e = subst (λ o. (n : ℕ) × (to n ≡ same give o)) e (reached give fuel to (from fuel) (follows fuel).by)

  only_to : (n : ℕ) (p : Outcome (Option A)) (o : Outcome ℤ) → IsOver p → to n ≡ p → RunsTo n to (Finishes give) o → same give o ≡ p
  only_to n p (Goes v t) over e r = let b = r 0 in one_end w code start ends b.0 n (Goes (Some (give v)) t) p tt over b.2 e
  only_to n p (Stops (Stopped stop line) t) over e r =
      one_end w code start ends r.0 n (Stops (Stopped stop line) t) p tt over r.2 e
  only_to n p (Stops Tired t) over e r =
      absurd (subst IsOver (sym (longer_whole w code start ends n r.0 p r.1 over e) ∙ r.2) over)

  -- an end of the machine is that of the source with as much fuel as steps
  comes_from : (n : ℕ) (o : Outcome (Option A)) → IsOver o → to n ≡ o → same give (from n) ≡ o
  comes_from n o over e = only_to n o (from n) over e (follows n).by

  -- a machine that follows a source has its dialogue
  pub same_dialogue : SameDialogue from to give
  same_dialogue = record {
    finishes = λ fuel v t e. comes_to fuel (Goes v t) e;
    stops = λ fuel stop line t e. comes_to fuel (Stops (Stopped stop line) t) e;
    goes_on = λ fuel t e. subst (RunsTo fuel to (Finishes give)) e (follows fuel).by;
    finishes_only = λ n a t e. finished_same give n from (from n) a t refl (comes_from n (Goes (Some a) t) tt e);
    stops_only = λ n stop line t e. (n, stops_same give (from n) (Stopped stop line) t (comes_from n (Stops (Stopped stop line) t) tt e));
    never_stuck = λ n t e. not_stuck give (from n) t (comes_from n (Goes None t) tt e);
  }
