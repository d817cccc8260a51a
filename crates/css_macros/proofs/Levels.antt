-- A table's length is levels enough for what is replaced, and what replaces a macro's name.
use Rattle.std.proofs.Common.{◌≡◌, ℕ, zero, suc, ◌+◌, ◌≤◌, Bool, true, false, cond, List, [], ◌∷◌, ◌++◌, length, flat_map, sum_by, Option, Some, None, refl, ap, sym, ◌∙◌, arith}
use Rattle.std.specs.Prelude.{bytes_eq, count_by, is_some}
use Rattle.std.specs.Option.{option_flatten}
use Rattle.std.specs.Map.{lookup}
use Rattle.std.proofs.lemmas.Map.{length-set_value}
use Rattle.std.proofs.lemmas.List.Sums.{count_by-le-length, sum_by-cons}
use Rattle.css_base.specs.Tokens.{Kind, Word}
use Rattle.css_macros.specs.Macros.{Macro, Table, macro_of, undefined, replaced, names_replaced, replacement, replacement_names}

-- How many names of a table are macros.
abbrev pub macros_in : Table → ℕ
macros_in table = count_by (λ e. is_some e.1) table

-- A table has one macro fewer once a macro is taken out.
pub fewer : (table : Table) (name : List ℕ) (m : Macro) → macro_of table name ≡ Some m → macros_in (undefined table name) + 1 ≡ macros_in table
fewer [] name m found = cc
fewer (e ∷ table) name m found =
    let there : Option Macro = macro_of table name in
    let rest : Table = undefined table name in
    let P : Bool → Type 0 = λ b. option_flatten (cond b (Some e.1) (lookup (bytes_eq name) table)) ≡ Some m
    → macros_in (cond b ((e.0, None) ∷ table) (e ∷ rest)) + 1 ≡ macros_in (e ∷ table) in
    let one : List ℕ × Option Macro → ℕ = λ e. cond (is_some e.1) 1 0 in
    let here : e.1 ≡ Some m → macros_in ((e.0, None) ∷ table) + 1 ≡ macros_in (e ∷ table) = λ h.
    let counted : one e ≡ 1 = ap (λ o. cond (is_some o) 1 0) h in
    let before = sum_by-cons one (e.0, None) table in
    let after = sum_by-cons one e table in
    omega arith in
    let behind : there ≡ Some m → macros_in (e ∷ rest) + 1 ≡ macros_in (e ∷ table) = λ h.
    let more = fewer table name m h in
    let before = sum_by-cons one e rest in
    let after = sum_by-cons one e table in
    omega arith in
    let cases : (b : Bool) → P b = λ b. elim b as P [ true ↦ here | false ↦ behind ] in
    cases (bytes_eq name e.0) found

same_flat_map : (f g : Kind → List Kind) → ((k : Kind) → f k ≡ g k) → (kinds : List Kind) → flat_map f kinds ≡ flat_map g kinds
same_flat_map f g same [] = refl
same_flat_map f g same (k ∷ kinds) = ap (λ out. out ++ flat_map f kinds) (same k) ∙ ap (λ out. g k ++ out) (same_flat_map f g same kinds)

same_sum : (f g : Kind → ℕ) → ((k : Kind) → f k ≡ g k) → (kinds : List Kind) → sum_by f kinds ≡ sum_by g kinds
same_sum f g same [] = refl
same_sum f g same (k ∷ kinds) = let here = same k in let more = same_sum f g same kinds in let a = sum_by-cons f k kinds in let b = sum_by-cons g k kinds in omega arith

-- What replaces a name, by the macro that it is.
abbrev by_macro : (levels : ℕ) → Table → (name : List ℕ) → Option Macro → List Kind
by_macro levels table name found =
    elim found [ None ↦ Word name ∷ [] | Some m ↦ flat_map (λ k. replaced levels (undefined table name) k) m.tokens ]

abbrev names_by_macro : (levels : ℕ) → Table → (name : List ℕ) → Option Macro → ℕ
names_by_macro levels table name found =
    elim found [ None ↦ 0 | Some m ↦ 1 + sum_by (λ k. names_replaced levels (undefined table name) k) m.tokens ]

-- More levels than a table has macros change nothing.
pub levels_enough : (a b : ℕ) (table : Table) (kind : Kind) → macros_in table ≤ a → macros_in table ≤ b → replaced a table kind ≡ replaced b table kind
levels_enough zero zero table kind few few' = refl
levels_enough zero (suc b) table (Word name) few few' =
    let cases : (found : Option Macro) → macro_of table name ≡ found → Word name ∷ [] ≡ by_macro b table name found =
    λ found. elim found as (λ o. macro_of table name ≡ o → Word name ∷ [] ≡ by_macro b table name o)
    [ None ↦ λ e. refl | Some m ↦ λ e. let less = fewer table name m e in absurd (omega arith) ] in
    cases (macro_of table name) refl
levels_enough (suc a) zero table (Word name) few few' =
    let cases : (found : Option Macro) → macro_of table name ≡ found → by_macro a table name found ≡ Word name ∷ [] =
    λ found. elim found as (λ o. macro_of table name ≡ o → by_macro a table name o ≡ Word name ∷ [])
    [ None ↦ λ e. refl | Some m ↦ λ e. let less = fewer table name m e in absurd (omega arith) ] in
    cases (macro_of table name) refl
levels_enough (suc a) (suc b) table (Word name) few few' =
    let cases : (found : Option Macro) → macro_of table name ≡ found → by_macro a table name found ≡ by_macro b table name found =
    λ found. elim found as (λ o. macro_of table name ≡ o → by_macro a table name o ≡ by_macro b table name o) [
      | None ↦ λ e. refl
      | Some m ↦ λ e. let less = fewer table name m e in
          same_flat_map (λ k. replaced a (undefined table name) k) (λ k. replaced b (undefined table name) k)
          (λ k. levels_enough a b (undefined table name) k (omega arith) (omega arith)) m.tokens
    ] in
    cases (macro_of table name) refl
levels_enough zero (suc b) table kind few few' = refl
levels_enough (suc a) zero table kind few few' = refl
levels_enough (suc a) (suc b) table kind few few' = refl

pub levels_enough-names : (a b : ℕ) (table : Table) (kind : Kind) → macros_in table ≤ a → macros_in table ≤ b → names_replaced a table kind ≡ names_replaced b table kind
levels_enough-names zero zero table kind few few' = refl
levels_enough-names zero (suc b) table (Word name) few few' =
    let cases : (found : Option Macro) → macro_of table name ≡ found → 0 ≡ names_by_macro b table name found =
    λ found. elim found as (λ o. macro_of table name ≡ o → 0 ≡ names_by_macro b table name o)
    [ None ↦ λ e. refl | Some m ↦ λ e. let less = fewer table name m e in absurd (omega arith) ] in
    cases (macro_of table name) refl
levels_enough-names (suc a) zero table (Word name) few few' =
    let cases : (found : Option Macro) → macro_of table name ≡ found → names_by_macro a table name found ≡ 0 =
    λ found. elim found as (λ o. macro_of table name ≡ o → names_by_macro a table name o ≡ 0)
    [ None ↦ λ e. refl | Some m ↦ λ e. let less = fewer table name m e in absurd (omega arith) ] in
    cases (macro_of table name) refl
levels_enough-names (suc a) (suc b) table (Word name) few few' =
    let cases : (found : Option Macro) → macro_of table name ≡ found → names_by_macro a table name found ≡ names_by_macro b table name found =
    λ found. elim found as (λ o. macro_of table name ≡ o → names_by_macro a table name o ≡ names_by_macro b table name o) [
      | None ↦ λ e. refl
      | Some m ↦ λ e. let less = fewer table name m e in
          ap (λ n. 1 + n) (same_sum (λ k. names_replaced a (undefined table name) k) (λ k. names_replaced b (undefined table name) k)
          (λ k. levels_enough-names a b (undefined table name) k (omega arith) (omega arith)) m.tokens)
    ] in
    cases (macro_of table name) refl
levels_enough-names zero (suc b) table kind few few' = refl
levels_enough-names (suc a) zero table kind few few' = refl
levels_enough-names (suc a) (suc b) table kind few few' = refl

-- A table's length is levels enough.
pub few_macros : (table : Table) → macros_in table ≤ length table
few_macros table = count_by-le-length (λ e. is_some e.1) table

-- What replaces a macro's name: its tokens, each replaced as if the macro weren't defined.
pub replacement-macro : (table : Table) (name : List ℕ) (m : Macro) → macro_of table name ≡ Some m
    → replacement table (Word name) ≡ flat_map (λ k. replacement (undefined table name) k) m.tokens
replacement-macro table name m found =
    let few = few_macros table in
    let same : length (undefined table name) ≡ length table = length-set_value (bytes_eq name) table None in
    levels_enough (length table) (suc (length table)) table (Word name) (omega arith) (omega arith)
    ∙ ap (λ o. by_macro (length table) table name o) found
    ∙ ap (λ n. flat_map (λ k. replaced n (undefined table name) k) m.tokens) (sym same)

pub replacement_names-macro : (table : Table) (name : List ℕ) (m : Macro) → macro_of table name ≡ Some m
    → replacement_names table (Word name) ≡ 1 + sum_by (λ k. replacement_names (undefined table name) k) m.tokens
replacement_names-macro table name m found =
    let few = few_macros table in
    let same : length (undefined table name) ≡ length table = length-set_value (bytes_eq name) table None in
    levels_enough-names (length table) (suc (length table)) table (Word name) (omega arith) (omega arith)
    ∙ ap (λ o. names_by_macro (length table) table name o) found
    ∙ ap (λ n. 1 + sum_by (λ k. names_replaced n (undefined table name) k) m.tokens) (sym same)

-- A name that is no macro stays.
pub replacement-none : (table : Table) (name : List ℕ) → macro_of table name ≡ None → replacement table (Word name) ≡ Word name ∷ []
replacement-none table name none =
    let few = few_macros table in
    levels_enough (length table) (suc (length table)) table (Word name) (omega arith) (omega arith)
    ∙ ap (λ o. by_macro (length table) table name o) none

pub replacement_names-none : (table : Table) (name : List ℕ) → macro_of table name ≡ None → replacement_names table (Word name) ≡ 0
replacement_names-none table name none =
    let few = few_macros table in
    levels_enough-names (length table) (suc (length table)) table (Word name) (omega arith) (omega arith)
    ∙ ap (λ o. names_by_macro (length table) table name o) none
