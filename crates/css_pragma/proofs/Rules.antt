-- Words are accepted or refused in one way.
use Rattle.std.proofs.Common.{◌≡◌, ℕ, List, true, false, refl, sym, ap, ◌∙◌, subst, inl, inr}
use Rattle.std.proofs.lemmas.Bool.{false≢true}
use Rattle.css_base.specs.Tokens.{Lexeme}
use Rattle.css_base.specs.declared.static_fault.FrontFault.{FrontFault}
use Rattle.css_base.specs.declared.static_fault.FrontFault.TheVariants as faults
use Rattle.css_base.specs.declared.static_fault.StaticFault.{StaticFault}
use Rattle.css_base.specs.declared.static_fault.StaticName.{StaticName}
use Rattle.css_base.specs.declared.static_fault.StaticName.TheVariants as names
use Rattle.css_tree.specs.Syntax.{Directive}
use Rattle.css_pragma.specs.declared.place.Place.{Place}
use Rattle.css_pragma.specs.Directives.{SpellsDirective}
use Rattle.css_pragma.specs.Effects.{directive_has_effect}
use Rattle.css_pragma.specs.Refusals.{Spells, IsAccepted, IsRefused, IfRefused}
use Rattle.css_tree.specs.Brackets.{IsShallow}
use Rattle.css_pragma.specs.Readings.{ReadsDirective}
use Rattle.css_pragma.proofs.One.{one_reading}
use Rattle.css_pragma.proofs.Sound.{directive_spelled}
use Rattle.css_pragma.proofs.Complete.{directive_read}

pub one_directive : (place : Place) (line : ℕ) (ts : List Lexeme) (d e : Directive) → SpellsDirective place line ts d → SpellsDirective place line ts e → d ≡ e
one_directive place line ts d e s t = one_reading place line ts d e (directive_read place line ts d s) (directive_read place line ts e t)

abbrev pub made : StaticName → ℕ → StaticFault
made name line = record { name = name; line = line }

same_fault : (f g : StaticFault) → f.name ≡ g.name → f.line ≡ g.line → f ≡ g
same_fault f g p q = ap (λ x. made x f.line) p ∙ ap (λ x. made g.name x) q

pub one_refusal : (place : Place) (line : ℕ) (ts : List Lexeme) (f g : StaticFault) → IsRefused place line ts f → IsRefused place line ts g → f ≡ g
one_refusal place line ts f g (p, inl a) (q, inl b) = same_fault f g (a.0 ∙ sym b.0) (p ∙ sym q)
one_refusal place line ts f g (p, inl a) (q, inr b) = absurd (a.1 b.1.0 b.1.1)
one_refusal place line ts f g (p, inr a) (q, inl b) = absurd (b.1 a.1.0 a.1.1)
one_refusal place line ts f g (p, inr a) (q, inr b) = same_fault f g (a.0 ∙ sym b.0) (p ∙ sym q)

pub never_both : (place : Place) (line : ℕ) (ts : List Lexeme) (d : Directive) (f : StaticFault) → IsAccepted place line ts d → IsRefused place line ts f → ⊥
never_both place line ts d f a (p, inl b) = b.1 d a.spells
never_both place line ts d f a (p, inr b) =
    let same = one_directive place line ts d b.1.0 a.spells.spelled b.1.1.spelled in
    false≢true (sym a.no_effect ∙ ap directive_has_effect same ∙ b.1.2)

pub bad_directive : (place : Place) (line : ℕ) (ts : List Lexeme) (f : FrontFault) → f ≡ faults.Static (made names.BadDirective line) → ((d : Directive) → Spells place line ts d → ⊥) → IfRefused place line ts f
bad_directive place line ts f is none = subst (IfRefused place line ts) (sym is) (refl, inl (refl, none))

pub side_effect : (place : Place) (line : ℕ) (ts : List Lexeme) (f : FrontFault) (d : Directive) → f ≡ faults.Static (made names.SideEffect line) → Spells place line ts d → directive_has_effect d ≡ true → IfRefused place line ts f
side_effect place line ts f d is s e = subst (IfRefused place line ts) (sym is) (refl, inr (refl, (d, s, e)))

pub spelled : (place : Place) (line : ℕ) (ts : List Lexeme) (d : Directive) → IsShallow ts → ReadsDirective place line ts d → Spells place line ts d
spelled place line ts d shallow r = record { shallow = shallow; spelled = directive_spelled place line ts d r }

pub accepted : (place : Place) (line : ℕ) (ts : List Lexeme) (d : Directive) → IsShallow ts → ReadsDirective place line ts d → directive_has_effect d ≡ false → IsAccepted place line ts d
accepted place line ts d shallow r e = record { spells = spelled place line ts d shallow r; no_effect = e }

pub not_spelled : (place : Place) (line : ℕ) (ts : List Lexeme) → ((d : Directive) → ReadsDirective place line ts d → ⊥) → (d : Directive) → Spells place line ts d → ⊥
not_spelled place line ts none d s = none d (directive_read place line ts d s.spelled)
