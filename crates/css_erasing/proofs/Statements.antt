-- Statements are kept, but for directives, which are left out.
use Rattle.std.proofs.Common.{◌≡◌, ℕ, zero, suc, ℤ, if◌then◌else◌, [], ◌∷◌, refl}
use Rattle.css_base.specs.declared.limits.Limits.{Limits}
use Rattle.css_semantics.specs.Flat.{FlatState}
use Rattle.css_num.specs.Conversion.{modulo}
use Rattle.css_semantics.specs.Dialogue.{World, Turn, Out, Start, Finish, Barrier, Tape, Outcome, Goes, then_do, ask}
use Rattle.css_small.specs.declared.tree.Directive.{Directive}
use Rattle.css_small.specs.declared.tree.Directive.TheVariants as directives
use Rattle.css_small.specs.Tree as tree
use Rattle.css_small.specs.Tree.{Expression, Statement, Declare, Initialise, Empty, Assign, AssignElement, Call, Mark, Put, Return, Block, If, IfElse, While, Statements, More, is_directive}
use Rattle.css_small_code.specs.Meaning.{address_of, is_true, Flow, Next, Returned, turning, Calling, action_of, assigned, element_assigned, meaning, meanings}
use Rattle.css_erasing.specs.Unmarked.{unmarked_statement, unmarked_statements}
use Rattle.css_erasing.proofs.Kept.{Kept, kept_then, kept_goes, kept_tired, kept_if, kept_as, kept_next}
use Rattle.css_erasing.proofs.Asked.{w, w', kept_ask, kept_told}
use Rattle.css_erasing.proofs.Expressions.{kept_store, kept_value, kept_element}

-- a directive among other statements is as good as an empty statement
without : (v : World) (call : Calling) (base fuel : ℕ) (s : Statement) (rest : Statements) (t : Tape) → meanings v call base fuel (More (unmarked_statement s) rest) t ≡ meanings v call base fuel (if is_directive s then rest else More (unmarked_statement s) rest) t
without v call base fuel (Mark line kind) rest t = refl
without v call base fuel s rest t = refl

-- calls are kept
abbrev pub AreKept : (n : ℕ) → Calling → Calling → Type 0
AreKept n call call' = (f argument base line : ℕ) → Kept n (call f argument base line) (call' f argument base line)

module _ (limits : Limits) (start : FlatState) (n : ℕ) where
  abbrev judged : World
  judged = w limits start n

  abbrev erased : World
  erased = w' limits start n

  kept_turning : {c c' : Tape → Outcome ℤ} {b b' : Tape → Outcome Flow} → Kept n c c' → Kept n b b' → (line k : ℕ) → Kept n (turning judged c b line k) (turning erased c' b' line k)
  kept_turning condition body line zero = kept_tired n
  kept_turning condition body line (suc k) =
      kept_then n condition (λ v. kept_if n (is_true v) (kept_then n (kept_ask limits start n Turn refl line) (λ r. kept_then n body (kept_next n (kept_turning condition body line k)))) (kept_goes n Next))

  kept_mark : (kind : Directive) (line : ℕ) → Kept n (λ t. then_do (ask judged (action_of kind) line t) (λ r t'. Goes Next t')) (Goes Next)
  kept_mark directives.Start line = kept_told limits start n Start refl 0 (λ m. refl) line (λ r t. ([], refl)) (kept_goes n Next)
  kept_mark directives.Finish line = kept_told limits start n Finish refl 0 (λ m. refl) line (λ r t. ([], refl)) (kept_goes n Next)
  kept_mark directives.Barrier line = kept_told limits start n Barrier refl 0 (λ m. refl) line (λ r t. ([], refl)) (kept_goes n Next)

  module _ (call call' : Calling) (kept_call : AreKept n call call') (base fuel : ℕ) where
    kept_assigned : (k : ℕ) (e : Expression) (line : ℕ) → Kept n (assigned judged call base fuel k e line) (assigned erased call' base fuel k e line)
    kept_assigned k e line = kept_then n (kept_value limits start n base e line) (λ v. kept_then n (kept_store limits start n base (address_of base k) v line) (λ r. kept_goes n Next))

    kept_element_assigned : (i e : Expression) (line : ℕ) → Kept n (element_assigned judged call base fuel i e line) (element_assigned erased call' base fuel i e line)
    kept_element_assigned i e line =
        kept_then n (kept_element limits start n base i line) (λ address. kept_then n (kept_value limits start n base e line) (λ v. kept_then n (kept_store limits start n base address v line) (λ r. kept_goes n Next)))

    mutual
      kept_meaning : (s : Statement) → Kept n (meaning judged call base fuel s) (meaning erased call' base fuel (unmarked_statement s))
      kept_meaning (Declare line k) = kept_goes n Next
      kept_meaning (Initialise line k e) = kept_assigned k e line
      kept_meaning (Empty line) = kept_goes n Next
      kept_meaning (Assign line k e) = kept_assigned k e line
      kept_meaning (AssignElement line i e) = kept_element_assigned i e line
      kept_meaning (Call line f k) = kept_then n (kept_call f (address_of base k) base line) (λ r. kept_goes n Next)
      kept_meaning (Mark line kind) = kept_mark kind line
      kept_meaning (Put line e) =
          kept_then n (kept_value limits start n base e line) (λ v. kept_then n (kept_ask limits start n (Out (modulo v 256 ∷ [])) refl line) (λ r. kept_goes n Next))
      kept_meaning (Return line e) = kept_then n (kept_value limits start n base e line) (λ v. kept_goes n (Returned v line))
      kept_meaning (Block line all) = kept_meanings all
      kept_meaning (If line e s) = kept_then n (kept_value limits start n base e line) (λ v. kept_if n (is_true v) (kept_meaning s) (kept_goes n Next))
      kept_meaning (IfElse line e s other) = kept_then n (kept_value limits start n base e line) (λ v. kept_if n (is_true v) (kept_meaning s) (kept_meaning other))
      kept_meaning (While line e s) = kept_turning (kept_value limits start n base e line) (kept_meaning s) line fuel

      pub kept_meanings : (all : Statements) → Kept n (meanings judged call base fuel all) (meanings erased call' base fuel (unmarked_statements all))
      kept_meanings tree.End = kept_goes n Next
      kept_meanings (More s rest) =
          kept_as n (meanings erased call' base fuel (unmarked_statements (More s rest))) (kept_then n (kept_meaning s) (kept_next n (kept_meanings rest)))
          (without erased call' base fuel s (unmarked_statements rest))
