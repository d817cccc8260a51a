-- What a table has for a name once another is defined or undefined.
use Rattle.std.proofs.Common.{◌≡◌, ◌≢◌, ℕ, Bool, true, false, cond, List, [], ◌∷◌, Option, Some, None, refl, ap, sym, ◌∙◌}
use Rattle.std.proofs.lemmas.Slice.Eq.{bytes_eq-Decides}
use Rattle.std.proofs.lemmas.Cmp.{nat_list_eq_equiv}
use Rattle.std.specs.Prelude.{bytes_eq, if◌then◌else◌}
use Rattle.std.specs.Option.{option_flatten}
use Rattle.std.specs.Map.{lookup}
use Rattle.indexmap.specs.IndexMap.{insert_entry}
use Rattle.css_macros.specs.Macros.{Macro, Table, macro_of}

pub apart : (a b : List ℕ) → a ≢ b → bytes_eq a b ≡ false
apart a b other =
    let P : Bool → Type 0 = λ v. bytes_eq a b ≡ v → v ≡ false in
    let cases : (v : Bool) → P v = λ v. elim v as P [ true ↦ λ h. absurd (other ((bytes_eq-Decides a b).0 h)) | false ↦ λ h. refl ] in
    cases (bytes_eq a b) refl

pub insert-lookup : (table : Table) (a b : List ℕ) (m : Option Macro)
    → macro_of (insert_entry bytes_eq table a m) b ≡ cond (bytes_eq a b) m (macro_of table b)
insert-lookup [] a b m =
    let swapped = nat_list_eq_equiv.symm b a in
    ap (λ v. option_flatten (cond v (Some m) None)) swapped
    ∙ elim (bytes_eq a b) as (λ v. option_flatten (cond v (Some m) None) ≡ cond v m None) [ true ↦ refl | false ↦ refl ]
insert-lookup (e ∷ table) a b m =
    let more : Table = insert_entry bytes_eq table a m in
    let P : Bool → Bool → Bool → Type 0 = λ x y z.
    bytes_eq a e.0 ≡ x → bytes_eq b e.0 ≡ y → bytes_eq a b ≡ z
    → option_flatten (lookup (bytes_eq b) (if x then (e.0, m) ∷ table else e ∷ more))
    ≡ cond z m (option_flatten (cond y (Some e.1) (lookup (bytes_eq b) table))) in
    let same_name : (y z : Bool) → P true y z = λ y z x' y' z'.
    let e' : y ≡ z = sym y' ∙ nat_list_eq_equiv.symm b e.0 ∙ sym (nat_list_eq_equiv.congr a e.0 b x') ∙ z' in
    ap (λ v. option_flatten (cond v (Some m) (lookup (bytes_eq b) table))) y'
    ∙ elim y as (λ v. option_flatten (cond v (Some m) (lookup (bytes_eq b) table)) ≡ cond v m (option_flatten (cond v (Some e.1) (lookup (bytes_eq b) table)))) [ true ↦ refl | false ↦ refl ]
    ∙ ap (λ v. cond v m (option_flatten (cond y (Some e.1) (lookup (bytes_eq b) table)))) e' in
    let here : (z : Bool) → P false true z = λ z x' y' z'.
    let e' : false ≡ z = sym x' ∙ nat_list_eq_equiv.symm a e.0 ∙ sym (nat_list_eq_equiv.congr b e.0 a y') ∙ nat_list_eq_equiv.symm b a ∙ z' in
    ap (λ v. option_flatten (cond v (Some e.1) (lookup (bytes_eq b) more))) y' ∙ ap (λ v. cond v m e.1) e' in
    let behind : (z : Bool) → P false false z = λ z x' y' z'.
    ap (λ v. option_flatten (cond v (Some e.1) (lookup (bytes_eq b) more))) y' ∙ insert-lookup table a b m
    ∙ ap (λ v. cond v m (macro_of table b)) z' in
    let other_name : (y z : Bool) → P false y z = λ y z. elim y as (λ y. P false y z) [ true ↦ here z | false ↦ behind z ] in
    let cases : (x y z : Bool) → P x y z = λ x y z. elim x as (λ x. P x y z) [ true ↦ same_name y z | false ↦ other_name y z ] in
    cases (bytes_eq a e.0) (bytes_eq b e.0) (bytes_eq a b) refl refl refl
