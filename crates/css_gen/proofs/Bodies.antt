-- The bodies of a program's functions mean what their structured code does, whatever the fuel.
use Rattle.std.proofs.Common.{◌≡◌, ℕ, ◌+◌, Bool, true, false, if◌then◌else◌, List, [], map, Some, slice_get, refl, sym, ap, ◌∙◌, subst, IfSome}
use Rattle.std.specs.Prelude.{nat_eq}
use Rattle.css_num.specs.Types.{IsInRange}
use Rattle.css_semantics.specs.Dialogue.{World, Tape, Outcome, Goes, then_do, Plain}
use Rattle.css_core.specs.Core as core
use Rattle.css_core.specs.Typed.{Signature, signature, IsTypedFunction, IsTypedProgram}
use Rattle.css_core.specs.Expressions.{Calling}
use Rattle.css_core.specs.Statements.{meanings}
use Rattle.css_core.specs.Functions as source
use Rattle.css_core.proofs.Leaving.{Comes}
use Rattle.css_core.proofs.InRange.{fits_calls}
use Rattle.css_blocks.specs.Meaning.{Calls, means}
use Rattle.css_blocks.specs.Layout.{Function}
use Rattle.css_blocks.specs.Programs.{calls_of}
use Rattle.css_gen_expr.specs.Calls.{Agrees}
use Rattle.css_gen_expr.specs.Meaning.{GivesInRange, MeanTheirPieces}
use Rattle.css_gen_expr.proofs.Conditions.{all_mean}
use Rattle.css_gen.specs.Statements.{pieces_of, exits_of}
use Rattle.css_gen.specs.Functions.{function_of, opened, program_of}
use Rattle.css_gen.proofs.Statements.{pieces_mean}
use Rattle.css_gen.proofs.Programs.{built, function_there, typed_function}

module _ (w : World) (names : List (List ℕ)) (p : core.Program) (typed : IsTypedProgram p) where
  abbrev fs : List core.Function
  fs = p.functions

  abbrev gs : List Function
  gs = (program_of names p).functions

  gives_in_range : (n : ℕ) → GivesInRange (map signature fs) (source.calls w fs n)
  gives_in_range n function s values base line tape behind v e h = subst (Comes (IsInRange s.result)) h (fits_calls w fs typed.functions n function s values base line tape e)

  -- main's body comes behind an instruction that does nothing
  body_means : (call : Calling) (calls : Calls) (n base : ℕ) → MeanTheirPieces w fs call calls n base → (k : ℕ) (name : List ℕ) (f : core.Function) → IsTypedFunction (map signature fs) f → (t : Tape)
      → means w calls n base (built fs p.main k name f).body Plain [] t ≡ then_do (meanings w call base n f.body t) (λ flow t'. Goes (exits_of flow) t')
  body_means call calls n base mean k name f is t = by (nat_eq p.main k)
    where
      by : (b : Bool) → means w calls n base (if b then opened fs f.line (function_of fs name f) else function_of fs name f).body Plain [] t ≡ then_do (meanings w call base n f.body t) (λ flow t'. Goes (exits_of flow) t')
      by true = pieces_mean w fs call calls n base mean f.result false f.end f.body is.body t
      by false = pieces_mean w fs call calls n base mean f.result false f.end f.body is.body t

  same : (a b : Function) → Some a ≡ Some b → a ≡ b
  same a b e = cc

  pub bodies_mean : (n : ℕ) → Agrees w fs (source.calls w fs n) (calls_of w gs n) → (k : ℕ) (f : core.Function) (g : Function) → slice_get fs k ≡ Some f → slice_get gs k ≡ Some g
      → (base : ℕ) (t : Tape) → means w (calls_of w gs n) n base g.body Plain [] t ≡ then_do (meanings w (source.calls w fs n) base n f.body t) (λ flow t'. Goes (exits_of flow) t')
  bodies_mean n agree k f g at there base t =
      let r = function_there fs p.main 0 names fs k f at in
      let mean = all_mean w fs (source.calls w fs n) (calls_of w gs n) n base (gives_in_range n) agree typed.functions in
      subst (λ x. means w (calls_of w gs n) n base x.body Plain [] t ≡ then_do (meanings w (source.calls w fs n) base n f.body t) (λ flow t'. Goes (exits_of flow) t')) (same (built fs p.main (0 + k) r.0 f) g (sym r.1 ∙ there))
      (body_means (source.calls w fs n) (calls_of w gs n) n base mean (0 + k) r.0 f (typed_function names p typed f k at) t)
