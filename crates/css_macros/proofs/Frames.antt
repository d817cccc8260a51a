-- Macros that are being replaced: what they hide, and what is left of them.
use Rattle.std.proofs.Common.{◌≡◌, ◌≢◌, ℕ, ◌+◌, Bool, true, false, cond, ◌||◌, ◌==◌, List, [], ◌∷◌, ◌++◌, flat_map, sum_by, Option, Some, None, refl, ap, sym, ◌∙◌, arith, append_assoc}
use Rattle.std.specs.List.{list_all}
use Rattle.std.proofs.lemmas.Bool.{and_parts, and_from}
use Rattle.std.proofs.lemmas.List.{append-nil}
use Rattle.std.proofs.lemmas.List.Folds.{list_all-append}
use Rattle.std.proofs.lemmas.Slice.Eq.{bytes_eq-Decides}
use Rattle.std.proofs.lemmas.Cmp.{nat_list_eq_equiv}
use Rattle.std.proofs.lemmas.Map.{lookup-set_value}
use Rattle.std.specs.Prelude.{bytes_eq}
use Rattle.std.specs.Option.{option_flatten, IsSome}
use Rattle.std.specs.Map.{lookup}
use Rattle.css_macros.specs.Macros.{Macro, Table, macro_of, undefined, replacement, replacement_names}
use Rattle.css_macros.specs.ListedTokens.{listed_kinds, is_listed}
use Rattle.css_macros.specs.Numbers.{number_in, stands_for}
use Rattle.css_macros.specs.Expansions.{name_of, is_hidden, is_open, is_frame, shown, IsStack, left, names_left}
use Rattle.css_macros.specs.declared.expansion.Frame.{Frame}
use Rattle.css_macros.proofs.MacroTables.{set_value-none}
use Rattle.css_macros.proofs.Numbering.{number_is, same_number}

-- What a table without a macro has for a name.
pub undefined-lookup : (table : Table) (a b : List ℕ) → macro_of (undefined table a) b ≡ cond (bytes_eq a b) None (macro_of table b)
undefined-lookup table a b =
    let P : Option (Option Macro) → Type 0 = λ o. lookup (bytes_eq a) table ≡ o → macro_of (undefined table a) b ≡ cond (bytes_eq a b) None (macro_of table b) in
    let chosen : (v : Bool) → option_flatten (cond v (Some None) (lookup (bytes_eq b) table)) ≡ cond v None (macro_of table b) =
    λ v. elim v as (λ v. option_flatten (cond v (Some None) (lookup (bytes_eq b) table)) ≡ cond v None (macro_of table b)) [ true ↦ refl | false ↦ refl ] in
    let there : (m : Option Macro) → P (Some m) = λ m e.
    let some : IsSome (lookup (bytes_eq a) table) = rw e refl in
    ap (λ o. option_flatten o) (lookup-set_value nat_list_eq_equiv (bytes_eq a) (λ x y same. nat_list_eq_equiv.congr a x y same) b None table some)
    ∙ chosen (bytes_eq a b) in
    let Q : Bool → Type 0 = λ v. bytes_eq a b ≡ v → macro_of table b ≡ cond v None (macro_of table b) in
    let nowhere : P None = λ e.
    let here : Q true = λ same. ap (λ o. option_flatten o) (rw ((bytes_eq-Decides a b).0 same) at e) in
    let behind : Q false = λ same. refl in
    let cases : (v : Bool) → Q v = λ v. elim v as Q [ true ↦ here | false ↦ behind ] in
    ap (λ t. macro_of t b) (set_value-none (bytes_eq a) table None e) ∙ cases (bytes_eq a b) refl in
    let cases : (o : Option (Option Macro)) → P o = λ o. elim o as P [ None ↦ nowhere | Some m ↦ there m ] in
    cases (lookup (bytes_eq a) table) refl

-- What a table has for a name while macros are being replaced.
pub shown-lookup : (words : List (List ℕ)) (table : Table) (frames : List Frame) (name : List ℕ) → macro_of (shown words table frames) name ≡ cond (is_hidden words frames name) None (macro_of table name)
shown-lookup words table [] name = refl
shown-lookup words table (f ∷ frames) name =
    let m : Option Macro = macro_of table name in
    let both : (v w : Bool) → cond w None (cond v None m) ≡ cond (v || w) None m =
    λ v w. elim v as (λ v. cond w None (cond v None m) ≡ cond (v || w) None m)
    [ true ↦ elim w as (λ w. cond w None (cond true None m) ≡ None) [ true ↦ refl | false ↦ refl ] | false ↦ refl ] in
    shown-lookup words (undefined table (name_of words f)) frames name
    ∙ ap (λ o. cond (is_hidden words frames name) None o) (undefined-lookup table (name_of words f) name)
    ∙ both (bytes_eq (name_of words f) name) (is_hidden words frames name)

pub shown-snoc : (words : List (List ℕ)) (table : Table) (frames : List Frame) (f : Frame) → shown words table (frames ++ f ∷ []) ≡ undefined (shown words table frames) (name_of words f)
shown-snoc words table [] f = refl
shown-snoc words table (g ∷ frames) f = shown-snoc words (undefined table (name_of words g)) frames f

pub stack-push : (words : List (List ℕ)) (table : Table) (frames : List Frame) (f : Frame) → IsStack words table frames → macro_of (shown words table frames) (name_of words f) ≢ None → IsStack words table (frames ++ f ∷ [])
stack-push words table [] f stack there = (there, tt)
stack-push words table (g ∷ frames) f stack there = (stack.0, stack-push words (undefined table (name_of words g)) frames f stack.1 there)

pub stack-pop : (words : List (List ℕ)) (table : Table) (frames : List Frame) (f : Frame) → IsStack words table (frames ++ f ∷ []) → IsStack words table frames
stack-pop words table [] f stack = tt
stack-pop words table (g ∷ frames) f stack = (stack.0, stack-pop words (undefined table (name_of words g)) frames f stack.1)

pub stack-top : (words : List (List ℕ)) (table : Table) (frames : List Frame) (f : Frame) → IsStack words table (frames ++ f ∷ []) → macro_of (shown words table frames) (name_of words f) ≢ None
stack-top words table [] f stack = stack.0
stack-top words table (g ∷ frames) f stack = stack-top words (undefined table (name_of words g)) frames f stack.1

-- The innermost macro's name isn't hidden by those around it.
pub top-shown : (words : List (List ℕ)) (table : Table) (frames : List Frame) (f : Frame) → IsStack words table (frames ++ f ∷ []) → is_hidden words frames (name_of words f) ≡ false
top-shown words table frames f stack =
    let P : Bool → Type 0 = λ v. is_hidden words frames (name_of words f) ≡ v → v ≡ false in
    let hidden : P true = λ h. absurd (stack-top words table frames f stack (shown-lookup words table frames (name_of words f) ∙ ap (λ v. cond v None (macro_of table (name_of words f))) h)) in
    let cases : (v : Bool) → P v = λ v. elim v as P [ true ↦ hidden | false ↦ λ h. refl ] in
    cases (is_hidden words frames (name_of words f)) refl

-- What is left of the innermost macro comes first.
pub left-snoc : (words : List (List ℕ)) (table : Table) (frames : List Frame) (f : Frame)
    → left words table (frames ++ f ∷ []) ≡ flat_map (λ k. replacement (undefined (shown words table frames) (name_of words f)) k) (listed_kinds f.rest.now) ++ left words table frames
left-snoc words table [] f = sym (append-nil (flat_map (λ k. replacement (undefined table (name_of words f)) k) (listed_kinds f.rest.now)))
left-snoc words table (g ∷ frames) f =
    let inner = undefined table (name_of words g) in
    let own = flat_map (λ k. replacement inner k) (listed_kinds g.rest.now) in
    ap (λ out. out ++ own) (left-snoc words inner frames f)
    ∙ append_assoc (flat_map (λ k. replacement (undefined (shown words inner frames) (name_of words f)) k) (listed_kinds f.rest.now)) (left words inner frames) own

pub names_left-snoc : (words : List (List ℕ)) (table : Table) (frames : List Frame) (f : Frame)
    → names_left words table (frames ++ f ∷ [])
    ≡ sum_by (λ k. replacement_names (undefined (shown words table frames) (name_of words f)) k) (listed_kinds f.rest.now) + names_left words table frames
names_left-snoc words table [] f = omega arith
names_left-snoc words table (g ∷ frames) f = let more = names_left-snoc words (undefined table (name_of words g)) frames f in omega arith

pub open-snoc : (frames : List Frame) (f : Frame) (number : ℕ) → is_open (frames ++ f ∷ []) number ≡ ((f.number == number) || is_open frames number)
open-snoc [] f number = refl
open-snoc (g ∷ frames) f number =
    let turned : (a b h : Bool) → (a || (b || h)) ≡ (b || (a || h)) =
    λ a b h. elim a as (λ a. (a || (b || h)) ≡ (b || (a || h))) [ true ↦ elim b as (λ b. true ≡ (b || true)) [ true ↦ refl | false ↦ refl ] | false ↦ refl ] in
    ap (λ v. (g.number == number) || v) (open-snoc frames f number) ∙ turned (g.number == number) (f.number == number) (is_open frames number)

-- A frame's number is that of its name.
pub frame_number : (words : List (List ℕ)) (f : Frame) → is_frame words f ≡ true → number_in words (name_of words f) ≡ Some f.number
frame_number words f known =
    number_is f.number (number_in words (name_of words f)) (and_parts (stands_for words f.number (name_of words f)) (list_all (is_listed words) f.rest.now) known).0

-- A name is hidden where its number is.
pub hidden-open : (words : List (List ℕ)) (frames : List Frame) (name : List ℕ) (number : ℕ)
    → list_all (is_frame words) frames ≡ true → number_in words name ≡ Some number → is_hidden words frames name ≡ is_open frames number
hidden-open words [] name number known numbered = refl
hidden-open words (f ∷ frames) name number known numbered =
    let parts = and_parts (is_frame words f) (list_all (is_frame words) frames) known in
    ap (λ v. v || is_hidden words frames name) (same_number words (name_of words f) name f.number number (frame_number words f parts.0) numbered)
    ∙ ap (λ v. (f.number == number) || v) (hidden-open words frames name number parts.1 numbered)

pub frames-push : (words : List (List ℕ)) (frames new : List Frame) (f : Frame)
    → new ≡ frames ++ f ∷ [] → list_all (is_frame words) frames ≡ true → is_frame words f ≡ true → list_all (is_frame words) new ≡ true
frames-push words frames new f pushed known one =
    let last : list_all (is_frame words) (f ∷ []) ≡ true = and_from (is_frame words f) true one refl in
    ap (list_all (is_frame words)) pushed ∙ list_all-append (is_frame words) frames (f ∷ [])
    ∙ and_from (list_all (is_frame words) frames) (list_all (is_frame words) (f ∷ [])) known last

-- The innermost macro and those around it.
pub frames-parts : (words : List (List ℕ)) (all frames : List Frame) (f : Frame)
    → all ≡ frames ++ f ∷ [] → list_all (is_frame words) all ≡ true → (list_all (is_frame words) frames ≡ true) × (is_frame words f ≡ true)
frames-parts words all frames f pushed known =
    let parts = and_parts (list_all (is_frame words) frames) (list_all (is_frame words) (f ∷ []))
    (sym (list_all-append (is_frame words) frames (f ∷ [])) ∙ ap (list_all (is_frame words)) (sym pushed) ∙ known) in
    (parts.0, (and_parts (is_frame words f) true parts.1).0)
