-- What names mean in a scope of the code.
use Rattle.std.proofs.Common.{◌≡◌, ℕ, List, Bool, true, false, is_some, Option, Some, None, Ok, ap, refl, ◌∙◌, if◌then◌else◌}
use Rattle.std.specs.Option.{option_map}
use Rattle.css_base.specs.declared.static_fault.StaticName.TheVariants.{Undeclared, TypeMismatch}
use Rattle.css_tree.specs.Syntax.{Call, Expressions}
use Rattle.css_types.specs.Scopes as types
use Rattle.css_types.specs.Judged.{broken, after, expected}
use Rattle.css_types.specs.Operands.{meant, called}
use Rattle.css_types.specs.Expressions.{meaning_of, named, operand_of, call_by, literal_of, values_in, values_behind}
use Rattle.css_type_table.specs.Lists.{Lists}
use Rattle.css_type_table.specs.Flat.{ctype}
use Rattle.css_type_table.specs.declared.ctype.CType.{CType as FlatType}
use Rattle.css_scopes.specs.declared.library.Library.{Library}
use Rattle.css_scopes.specs.Libraries.{library}
use Rattle.css_scopes.specs.declared.meaning.Meaning.{Meaning}
use Rattle.css_scopes.specs.Scopes.{Binding, meaning_of as meaning_in}
use Rattle.css_scopes.proofs.Shown.{meaning-scope_as}
use Rattle.css_expressions.specs.Seen.{seen, meant_by}
use Rattle.css_expressions.specs.Calls.{library_called}

module _ (lists : Lists) (scope : List (Binding (Meaning FlatType))) (line : ℕ) (name : List ℕ) where
  found_as : (o : Option (Meaning FlatType)) → meaning_in scope name ≡ o → meaning_of (seen lists scope) line name ≡ expected Undeclared line (option_map (meant_by lists) o)
  found_as o is =
      ap (expected Undeclared line) (meaning-scope_as (ctype lists) scope name)
      ∙ ap (λ m. expected Undeclared line (option_map (meant_by lists) m)) is

  pub meaning_found : (m : Meaning FlatType) → meaning_in scope name ≡ Some m → meaning_of (seen lists scope) line name ≡ Ok (meant_by lists m)
  meaning_found m is = found_as (Some m) is

  pub meaning_none : meaning_in scope name ≡ None → meaning_of (seen lists scope) line name ≡ broken Undeclared line
  meaning_none is = found_as None is

  -- ---- a name alone

  pub named_library : is_some (types.library_of name) ≡ true → named (seen lists scope) line name ≡ broken TypeMismatch line
  named_library is = ap (λ (b : Bool). if b then broken TypeMismatch line else after (meaning_of (seen lists scope) line name) (meant line)) is

  named_other : is_some (types.library_of name) ≡ false → named (seen lists scope) line name ≡ after (meaning_of (seen lists scope) line name) (meant line)
  named_other is = ap (λ (b : Bool). if b then broken TypeMismatch line else after (meaning_of (seen lists scope) line name) (meant line)) is

  pub named_meaning : (m : Meaning FlatType) → is_some (types.library_of name) ≡ false → meaning_in scope name ≡ Some m → named (seen lists scope) line name ≡ meant line (meant_by lists m)
  named_meaning m other is = named_other other ∙ ap (λ j. after j (meant line)) (meaning_found m is)

  pub named_none : is_some (types.library_of name) ≡ false → meaning_in scope name ≡ None → named (seen lists scope) line name ≡ broken Undeclared line
  named_none other is = named_other other ∙ ap (λ j. after j (meant line)) (meaning_none is)

  -- ---- calls

  module _ (arguments : Expressions) where
    pub calls_library : (f : types.Library) → types.library_of name ≡ Some f
        → operand_of (seen lists scope) line (Call line name arguments) ≡ library_called (seen lists scope) line f arguments
    calls_library f is =
        ap (λ l. call_by (seen lists scope) line (meaning_of (seen lists scope) line name) l (literal_of arguments) (values_in (seen lists scope) line arguments) (values_behind (seen lists scope) line arguments)) is

    calls_other : types.library_of name ≡ None → operand_of (seen lists scope) line (Call line name arguments)
        ≡ after (meaning_of (seen lists scope) line name) (λ m. after (values_in (seen lists scope) line arguments) (called line m))
    calls_other is =
        ap (λ l. call_by (seen lists scope) line (meaning_of (seen lists scope) line name) l (literal_of arguments) (values_in (seen lists scope) line arguments) (values_behind (seen lists scope) line arguments)) is

    pub calls_undeclared : types.library_of name ≡ None → meaning_in scope name ≡ None → operand_of (seen lists scope) line (Call line name arguments) ≡ broken Undeclared line
    calls_undeclared other is = calls_other other ∙ ap (λ j. after j (λ m. after (values_in (seen lists scope) line arguments) (called line m))) (meaning_none is)

    pub calls_meaning : (m : Meaning FlatType) → types.library_of name ≡ None → meaning_in scope name ≡ Some m
        → operand_of (seen lists scope) line (Call line name arguments) ≡ after (values_in (seen lists scope) line arguments) (called line (meant_by lists m))
    calls_meaning m other is = calls_other other ∙ ap (λ j. after j (λ m. after (values_in (seen lists scope) line arguments) (called line m))) (meaning_found m is)

-- the library has a name in code where it has it
pub some_mapped : (o : Option Library) → is_some (option_map library o) ≡ is_some o
some_mapped None = refl
some_mapped (Some f) = refl
