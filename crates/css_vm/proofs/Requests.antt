-- What the space replies to, along the way of a tape.
use Rattle.std.proofs.Common.{◌≡◌, ◌<◌, ℕ, zero, suc, ◌%◌, ◌^◌, List, [], ◌∷◌, ◌++◌, IsTrue, ◌||◌, refl, sym, ap, subst, ◌∙◌, append_assoc, arith}
use Rattle.std.proofs.Math.Dec.{eqb-suc-zero}
use Rattle.css_base.specs.declared.ending.Stop.{Stop}
use Rattle.css_base.specs.declared.ending.Stop.TheVariants as stops
use Rattle.css_base.specs.declared.ending.FaultKind.{FaultKind}
use Rattle.css_base.specs.declared.ending.FaultKind.TheVariants.{DivideByZero, OutsideMemory}
use Rattle.css_base.specs.declared.rule.Rule.{Rule}
use Rattle.css_semantics.specs.Dialogue.{Action, Load, Store, Fault, Reply, Says, Fails, Refuses, Tape, World, Outcome, Goes, item, then_do, ask, replied}
use Rattle.css_semantics.specs.Worlds.{state_after, is_of_machine, is_fault, Follows}
use Rattle.css_semantics.specs.Memory.{big_endian_bytes}
use Rattle.css_semantics.proofs.Following.{after_both, both_of_machine, follows_on}
use Rattle.css_vm.specs.declared.code.Op.{Op}
use Rattle.css_vm.specs.declared.code.Op.TheVariants as ops
use Rattle.css_vm.specs.declared.code.Narrow.{Narrow}
use Rattle.css_vm.specs.declared.code.Narrow.TheVariants as narrows
use Rattle.css_vm.specs.Cells.{narrowed, quotient_of, remainder_of}
use Rattle.css_vm.specs.Code.{Code}
use Rattle.css_vm.specs.Machine.{Caller, After, next, effect}
use Rattle.css_vm.specs.Stacks.{running}
use Rattle.css_vm.specs.Spaces.{IsRefusal}
use Rattle.css_vm.specs.Events.{Along, StopsAt}
use Rattle.css_vm.specs.Effects.{Narrows, Changes, Performs, Halts}

module _ {S : Type 0} (reply : S → Action → Reply) (learn : S → Action → S) where
  pub along_map : {space space' : S} (P Q : World → Tape → Tape → Type 0) → ((w : World) (tape later : Tape) → P w tape later → Q w tape later) → Along reply learn space space' P → Along reply learn space space' Q
  along_map P Q go along = λ w tape follows.
      let there = along w tape follows in
      (there.0, there.1, there.2, go w tape (there.0 ++ tape) there.3)

  -- one part behind another
  pub along_then : {space mid space' : S} (P Q R : World → Tape → Tape → Type 0) → ((w : World) (tape here later : Tape) → P w tape here → Q w here later → R w tape later)
      → Along reply learn space mid P → Along reply learn mid space' Q → Along reply learn space space' R
  along_then {space} {mid} {space'} P Q R go along more = λ w tape follows.
      let one = along w tape follows in
      let two = more w (one.0 ++ tape) (subst (Follows w reply learn (one.0 ++ tape)) one.2 (follows_on w reply learn tape space one.0 one.1 follows)) in (
        two.0 ++ one.0,
        both_of_machine two.0 one.0 two.1 one.1,
        after_both learn space two.0 one.0 ∙ ap (λ s. state_after learn s two.0) one.2 ∙ two.2,
        subst (R w tape) (sym (append_assoc two.0 one.0 tape)) (go w tape (one.0 ++ tape) (two.0 ++ (one.0 ++ tape)) one.3 two.3),
      )

  -- nothing is asked
  pub along_none : (space : S) (P : World → Tape → Tape → Type 0) → ((w : World) (tape : Tape) → P w tape tape) → Along reply learn space space P
  along_none space P here = λ w tape follows. ([], tt, refl, here w tape)

  -- the program is at fault
  pub along_fault : (space : S) (kind : FaultKind) (line : ℕ) (P : World → Tape → Tape → Type 0) → ((w : World) (tape : Tape) → P w tape (item (Fault kind) line ∷ tape)) → Along reply learn space (learn space (Fault kind)) P
  along_fault space kind line P here = λ w tape follows. (item (Fault kind) line ∷ [], (refl, tt), refl, here w tape)

  module _ (space : S) (action : Action) (line : ℕ) (of_machine : IsTrue (is_of_machine action)) where
    says : (w : World) (tape : Tape) (r : Reply) → Follows w reply learn tape space → reply space action ≡ r → ask w action line tape ≡ replied r (item action line) tape
    says w tape r follows e =
        ap (λ q. replied q (item action line) tape) (follows.replies [] (item action line) tt of_machine ∙ e)

    allowed : IsTrue (is_of_machine action || is_fault action)
    allowed = ap (λ b. b || is_fault action) of_machine

    pub along_says : (value : ℕ) → reply space action ≡ Says value → Along reply learn space (learn space action) (λ w tape later. ask w action line tape ≡ Goes value later)
    along_says value e = λ w tape follows.
        (item action line ∷ [], (allowed, tt), refl, says w tape (Says value) follows e)

    along_fails : reply space action ≡ Fails → Along reply learn space (learn (learn space action) (Fault OutsideMemory)) (λ w tape later. StopsAt (stops.Fault OutsideMemory) line (ask w action line tape) later)
    along_fails e = λ w tape follows.
        (item (Fault OutsideMemory) line ∷ item action line ∷ [], (refl, (allowed, tt)), refl, says w tape Fails follows e)

    along_refuses : (rule : Rule) → reply space action ≡ Refuses rule → Along reply learn space space (λ w tape later. StopsAt (stops.Rule rule) line (ask w action line tape) later)
    along_refuses rule e = λ w tape follows. ([], tt, refl, says w tape (Refuses rule) follows e)

    -- what is asked is refused, and there the dialogue stops
    pub along_refused : (r : Reply) (stop : Stop) → reply space action ≡ r → IsRefusal r stop → (end : S) × Along reply learn space end (λ w tape later. StopsAt stop line (ask w action line tape) later)
    along_refused (Says value) stop e refusal = absurd refusal
    along_refused Fails stop e refusal = (learn (learn space action) (Fault OutsideMemory), rw refusal (along_fails e))
    along_refused (Refuses rule) stop e refusal = (space, rw refusal (along_refuses rule e))

    -- the same, with what comes behind
    pub along_says_then : {A : Type 0} (go : World → ℕ → Tape → Outcome A) (value : ℕ) → reply space action ≡ Says value → Along reply learn space (learn space action) (λ w tape later. then_do (ask w action line tape) (go w) ≡ go w value later)
    along_says_then go value e =
        along_map (λ w tape later. ask w action line tape ≡ Goes value later) (λ w tape later. then_do (ask w action line tape) (go w) ≡ go w value later) (λ w tape later said. ap (λ o. then_do o (go w)) said) (along_says value e)

    pub along_refused_then : {A : Type 0} (go : World → ℕ → Tape → Outcome A) (stop : Stop) → IsRefusal (reply space action) stop → (end : S) × Along reply learn space end (λ w tape later. StopsAt stop line (then_do (ask w action line tape) (go w)) later)
    along_refused_then go stop refusal =
        let refused = along_refused (reply space action) stop refl refusal in
        (refused.0, along_map (λ w tape later. StopsAt stop line (ask w action line tape) later) (λ w tape later. StopsAt stop line (then_do (ask w action line tape) (go w)) later) (λ w tape later stopped. ap (λ o. then_do o (go w)) stopped) refused.1)

  -- ---- instructions

  pub performs_change : (op : Op) (base : ℕ) (old new : List ℕ) (space : S) → Changes op base old new → Performs reply learn op base old space new space
  performs_change op base old new space changes = record {
    does = λ code function callers line place. along_none space (λ w tape later. effect w code (running function base) callers line place op old tape ≡ next w code (running function base) callers line place new later) (λ w tape. changes.does w code function callers line place tape);
    height = changes.height;
  }

  module _ (base a : ℕ) (rest : List ℕ) (space : S) where
    -- what is done with the word that is loaded from the address of the topmost cell
    abbrev with_word : Narrow → Code → (function : ℕ) → List Caller → (line place : ℕ) → World → ℕ → Tape → Outcome After
    with_word to code function callers line place w value tape = next w code (running function base) callers line place (narrowed to value ∷ rest) tape

    pub performs_load : (space' : S) (op : Op) (to : Narrow) → Narrows op to → (r : ℕ) → reply space (Load (a % 2 ^ 32) 4) ≡ Says r → space' ≡ learn space (Load (a % 2 ^ 32) 4) → Performs reply learn op base (a ∷ rest) space (narrowed to r ∷ rest) space'
    performs_load space' ops.Load32u to is r says-is learns = rw (is, learns) (record {
      does = λ code function callers line place. along_says_then space (Load (a % 2 ^ 32) 4) line refl (with_word narrows.U32 code function callers line place) r says-is;
      height = omega arith;
    })
    performs_load space' ops.Load32s to is r says-is learns = rw (is, learns) (record {
      does = λ code function callers line place. along_says_then space (Load (a % 2 ^ 32) 4) line refl (with_word narrows.S32 code function callers line place) r says-is;
      height = omega arith;
    })
    performs_load space' _ to is r says-is learns = absurd is

    pub halts_load : (op : Op) (to : Narrow) → Narrows op to → (stop : Stop) → IsRefusal (reply space (Load (a % 2 ^ 32) 4)) stop → Halts reply learn op base (a ∷ rest) space stop
    halts_load ops.Load32u to is stop refusal = record {
      stops = λ code function callers line place. along_refused_then space (Load (a % 2 ^ 32) 4) line refl (with_word narrows.U32 code function callers line place) stop refusal;
    }
    halts_load ops.Load32s to is stop refusal = record {
      stops = λ code function callers line place. along_refused_then space (Load (a % 2 ^ 32) 4) line refl (with_word narrows.S32 code function callers line place) stop refusal;
    }
    halts_load _ to is stop refusal = absurd is

    module _ (v : ℕ) where
      abbrev behind_store : Code → (function : ℕ) → List Caller → (line place : ℕ) → World → ℕ → Tape → Outcome After
      behind_store code function callers line place w value tape = next w code (running function base) callers line place (v ∷ rest) tape

      pub performs_store : (space' : S) (r : ℕ) → reply space (Store (a % 2 ^ 32) (big_endian_bytes 4 v)) ≡ Says r → space' ≡ learn space (Store (a % 2 ^ 32) (big_endian_bytes 4 v)) → Performs reply learn ops.Store32 base (v ∷ a ∷ rest) space (v ∷ rest) space'
      performs_store space' r says-is learns = rw learns (record {
        does = λ code function callers line place. along_says_then space (Store (a % 2 ^ 32) (big_endian_bytes 4 v)) line refl (behind_store code function callers line place) r says-is;
        height = omega arith;
      })

      pub halts_store : (stop : Stop) → IsRefusal (reply space (Store (a % 2 ^ 32) (big_endian_bytes 4 v))) stop → Halts reply learn ops.Store32 base (v ∷ a ∷ rest) space stop
      halts_store stop refusal = record {
        stops = λ code function callers line place. along_refused_then space (Store (a % 2 ^ 32) (big_endian_bytes 4 v)) line refl (behind_store code function callers line place) stop refusal;
      }

  module _ (base a : ℕ) (rest : List ℕ) (space : S) where
    pub performs_divs : (b : ℕ) → 0 < b → Performs reply learn ops.Divs base (b ∷ a ∷ rest) space (quotient_of a b ∷ rest) space
    performs_divs zero some = absurd (omega arith)
    performs_divs (suc b) some = performs_change ops.Divs base (suc b ∷ a ∷ rest) (quotient_of a (suc b) ∷ rest) space (record { does = λ w code function callers line place tape. rw (eqb-suc-zero b); height = omega arith })

    pub performs_rems : (b : ℕ) → 0 < b → Performs reply learn ops.Rems base (b ∷ a ∷ rest) space (remainder_of a b ∷ rest) space
    performs_rems zero some = absurd (omega arith)
    performs_rems (suc b) some = performs_change ops.Rems base (suc b ∷ a ∷ rest) (remainder_of a (suc b) ∷ rest) space (record { does = λ w code function callers line place tape. rw (eqb-suc-zero b); height = omega arith })

    pub halts_divs : Halts reply learn ops.Divs base (0 ∷ a ∷ rest) space (stops.Fault DivideByZero)
    halts_divs = record {
      stops = λ code function callers line place. (learn space (Fault DivideByZero), along_fault space DivideByZero line (λ w tape later. StopsAt (stops.Fault DivideByZero) line (effect w code (running function base) callers line place ops.Divs (0 ∷ a ∷ rest) tape) later) (λ w tape. refl));
    }

    pub halts_rems : Halts reply learn ops.Rems base (0 ∷ a ∷ rest) space (stops.Fault DivideByZero)
    halts_rems = record {
      stops = λ code function callers line place. (learn space (Fault DivideByZero), along_fault space DivideByZero line (λ w tape later. StopsAt (stops.Fault DivideByZero) line (effect w code (running function base) callers line place ops.Rems (0 ∷ a ∷ rest) tape) later) (λ w tape. refl));
    }
