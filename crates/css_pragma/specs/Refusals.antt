-- Which words are refused, and how.
use Rattle.std.specs.Prelude.{◌≡◌, ◌⊎◌, ℕ, List, true, false}
use Rattle.css_base.specs.Tokens.{Lexeme}
use Rattle.css_base.specs.declared.static_fault.FrontFault.{FrontFault}
use Rattle.css_base.specs.declared.static_fault.FrontFault.TheVariants as faults
use Rattle.css_base.specs.declared.static_fault.StaticFault.{StaticFault}
use Rattle.css_base.specs.declared.static_fault.StaticName.TheVariants as names
use Rattle.css_tree.specs.Syntax.{Directive}
use Rattle.css_tree.specs.Brackets.{IsShallow}
use Rattle.css_pragma.specs.declared.place.Place.{Place}
use Rattle.css_pragma.specs.Directives.{SpellsDirective}
use Rattle.css_pragma.specs.Effects.{directive_has_effect}

-- The words spell the directive, and no prefix of them leaves more than 200 brackets open.
pub record Spells (place : Place) (line : ℕ) (ts : List Lexeme) (d : Directive) : Type 0 where
  pub shallow : IsShallow ts
  pub spelled : SpellsDirective place line ts d

-- They do, and its expressions do nothing but give values.
pub record IsAccepted (place : Place) (line : ℕ) (ts : List Lexeme) (d : Directive) : Type 0 where
  pub spells : Spells place line ts d
  pub no_effect : directive_has_effect d ≡ false

-- S14 where they spell no directive, and S23 where one of its expressions does more: both in the directive's line.
abbrev pub IsRefused : Place → ℕ → List Lexeme → StaticFault → Type 0
IsRefused place line ts fault =
    (fault.line ≡ line)
    × (((fault.name ≡ names.BadDirective) × ((d : Directive) → Spells place line ts d → ⊥))
    ⊎ ((fault.name ≡ names.SideEffect) × ((d : Directive) × Spells place line ts d × (directive_has_effect d ≡ true))))

-- A static fault comes only where the words are refused so.
abbrev pub IfRefused : Place → ℕ → List Lexeme → FrontFault → Type 0
IfRefused place line ts (faults.Static fault) = IsRefused place line ts fault
IfRefused place line ts faults.NoMemory = Unit {0}
