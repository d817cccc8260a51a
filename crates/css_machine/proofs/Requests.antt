-- What the space replies to, along the way of a tape.
use Rattle.std.proofs.Common.{◌≡◌, ℕ, [], ◌∷◌, ◌++◌, IsTrue, ◌||◌, refl, sym, ap, subst, ◌∙◌, append_assoc}
use Rattle.css_base.specs.declared.ending.Stop.{Stop}
use Rattle.css_base.specs.declared.ending.Stop.TheVariants as stops
use Rattle.css_base.specs.declared.ending.FaultKind.{FaultKind}
use Rattle.css_semantics.specs.Dialogue.{Action, WaitFault, DimFault, Item, item_in, Reply, Says, Fails, Refuses, Tape, World, Outcome, Goes, Mode, Plain, Waiting, Measuring, then_do, at_fault, ask_in, replied_in}
use Rattle.css_semantics.specs.Worlds.{state_after, is_of_machine, is_fault, Follows}
use Rattle.css_semantics.proofs.Following.{after_both, both_of_machine, follows_on}
use Rattle.css_isa.specs.Spaces.{IsRefusal}
use Rattle.css_machine.specs.Events.{Along, stops_in}

-- ---- stops

fault_then : {A B : Type 0} (reply : Reply) (kind : FaultKind) (i : Item) (tape : Tape) (go : A → Tape → Outcome B) → then_do (at_fault reply kind i tape) go ≡ at_fault reply kind i tape
fault_then (Says value) kind i tape go = refl
fault_then Fails kind i tape go = refl
fault_then (Refuses rule) kind i tape go = refl

-- nothing comes behind a stop
pub stops_then : {A B : Type 0} (w : World) (mode : Mode) (stop : Stop) (line : ℕ) (tape : Tape) (go : A → Tape → Outcome B) → then_do (stops_in w mode stop line tape) go ≡ stops_in w mode stop line tape
stops_then w mode (stops.Rule rule) line tape go = refl
stops_then w Plain (stops.Fault kind) line tape go = refl
stops_then w Waiting (stops.Fault kind) line tape go = fault_then (w tape (item_in Waiting WaitFault line)) kind (item_in Waiting WaitFault line) tape go
stops_then w (Measuring arguments) (stops.Fault kind) line tape go =
    fault_then (w tape (item_in (Measuring arguments) DimFault line)) kind (item_in (Measuring arguments) DimFault line) tape go

-- ---- along a tape

module _ {S : Type 0} (reply : S → Action → Reply) (learn : S → Action → S) where
  pub along_map : {space space' : S} (P Q : World → Tape → Tape → Type 0) → ((w : World) (tape later : Tape) → P w tape later → Q w tape later) → Along reply learn space space' P → Along reply learn space space' Q
  along_map P Q go along = λ w tape follows.
      let there = along w tape follows in
      (there.0, there.1, there.2, go w tape (there.0 ++ tape) there.3)

  -- one part behind another
  pub along_then : {space mid space' : S} (P Q R : World → Tape → Tape → Type 0) → ((w : World) (tape here later : Tape) → P w tape here → Q w here later → R w tape later)
      → Along reply learn space mid P → Along reply learn mid space' Q → Along reply learn space space' R
  along_then {space} {mid} {space'} P Q R go along more = λ w tape follows.
      let one = along w tape follows in
      let two = more w (one.0 ++ tape) (subst (Follows w reply learn (one.0 ++ tape)) one.2 (follows_on w reply learn tape space one.0 one.1 follows)) in (
        two.0 ++ one.0,
        both_of_machine two.0 one.0 two.1 one.1,
        after_both learn space two.0 one.0 ∙ ap (λ s. state_after learn s two.0) one.2 ∙ two.2,
        subst (R w tape) (sym (append_assoc two.0 one.0 tape)) (go w tape (one.0 ++ tape) (two.0 ++ (one.0 ++ tape)) one.3 two.3),
      )

  -- nothing is asked
  pub along_none : (space : S) (P : World → Tape → Tape → Type 0) → ((w : World) (tape : Tape) → P w tape tape) → Along reply learn space space P
  along_none space P here = λ w tape follows. ([], tt, refl, here w tape)

  module _ (space : S) (mode : Mode) (action : Action) (line : ℕ) (of_machine : IsTrue (is_of_machine action)) where
    says : (w : World) (tape : Tape) (r : Reply) → Follows w reply learn tape space → reply space action ≡ r → ask_in w mode action line tape ≡ replied_in w mode r (item_in mode action line) tape
    says w tape r follows e =
        ap (λ q. replied_in w mode q (item_in mode action line) tape) (follows.replies [] (item_in mode action line) tt of_machine ∙ e)

    allowed : IsTrue (is_of_machine action || is_fault action)
    allowed = ap (λ b. b || is_fault action) of_machine

    pub along_says : (value : ℕ) → reply space action ≡ Says value → Along reply learn space (learn space action) (λ w tape later. ask_in w mode action line tape ≡ Goes value later)
    along_says value e = λ w tape follows.
        (item_in mode action line ∷ [], (allowed, tt), refl, says w tape (Says value) follows e)

    -- what is asked is refused, and there the dialogue stops
    refused : (r : Reply) (stop : Stop) → reply space action ≡ r → IsRefusal r stop → (end : S) × Along reply learn space end (λ w tape later. ask_in w mode action line tape ≡ stops_in w mode stop line later)
    refused (Says value) stop e refusal = absurd refusal
    refused Fails stop e refusal =
        (learn space action, rw refusal (λ w tape follows. (item_in mode action line ∷ [], (allowed, tt), refl, says w tape Fails follows e)))
    refused (Refuses rule) stop e refusal = (space, rw refusal (λ w tape follows. ([], tt, refl, says w tape (Refuses rule) follows e)))

    pub along_refused : (stop : Stop) → IsRefusal (reply space action) stop → (end : S) × Along reply learn space end (λ w tape later. ask_in w mode action line tape ≡ stops_in w mode stop line later)
    along_refused stop refusal = refused (reply space action) stop refl refusal

    -- the same, with what comes behind
    pub along_says_then : {A : Type 0} (go : World → ℕ → Tape → Outcome A) (value : ℕ) → reply space action ≡ Says value → Along reply learn space (learn space action) (λ w tape later. then_do (ask_in w mode action line tape) (go w) ≡ go w value later)
    along_says_then go value e =
        along_map (λ w tape later. ask_in w mode action line tape ≡ Goes value later) (λ w tape later. then_do (ask_in w mode action line tape) (go w) ≡ go w value later) (λ w tape later said. ap (λ o. then_do o (go w)) said) (along_says value e)

    pub along_refused_then : {A : Type 0} (go : World → ℕ → Tape → Outcome A) (stop : Stop) → IsRefusal (reply space action) stop → (end : S) × Along reply learn space end (λ w tape later. then_do (ask_in w mode action line tape) (go w) ≡ stops_in w mode stop line later)
    along_refused_then go stop refusal =
        let refused = along_refused stop refusal in (
          refused.0,
          along_map (λ w tape later. ask_in w mode action line tape ≡ stops_in w mode stop line later) (λ w tape later. then_do (ask_in w mode action line tape) (go w) ≡ stops_in w mode stop line later)
              (λ w tape later stopped. ap (λ o. then_do o (go w)) stopped ∙ stops_then w mode stop line later (go w)) refused.1,
        )
