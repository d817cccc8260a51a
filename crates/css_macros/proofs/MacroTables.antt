-- Entries by number, and the table that they stand for.
use Rattle.std.proofs.Common.{◌≡◌, ℕ, Bool, true, false, cond, List, [], ◌∷◌, ◌++◌, length, Result, Ok, Err, OnOk, OnErr, IfSome, Option, Some, None, Bor, refl, ap, sym, ◌∙◌, suc, ◌≢◌, ◌&&◌, nat_eq}
use Rattle.std.specs.Prelude.{bytes_eq, option_map, option_copied, if◌then◌else◌}
use Rattle.std.specs.Map.{lookup, set_value}
use Rattle.std.specs.List.{list_all}
use Rattle.std.proofs.lemmas.Bool.{and_parts, and_from}
use Rattle.std.proofs.lemmas.List.{get_or_append_left}
use Rattle.indexmap.specs.IndexMap.{insert_entry}
use Rattle.css_base.specs.Tokens.{Kind}
use Rattle.css_macros.specs.Macros.{Macro, Table, same_kind, same_kinds}
use Rattle.css_macros.specs.Numbers.{number_in, word_at, stands_for}
use Rattle.css_macros.specs.ListedTokens.{is_listed}
use Rattle.css_macros.specs.Entries.{macro_value, is_definition, is_entry, table_with}
use Rattle.css_macros.specs.declared.macros.Definition.{Definition}
use Rattle.css_macros.proofs.Numbering.{number_is, number_known, number_within, number_word, number-grows, same_number, other_number}
use Rattle.css_macros.proofs.Listing.{listed-grow}

-- An entry's number is that of its name.
entry_number : (words : List (List ℕ)) (e : ℕ × Option Definition) → is_entry words e ≡ true → number_in words (word_at words e.0) ≡ Some e.0
entry_number words e known =
    number_is e.0 (number_in words (word_at words e.0)) (and_parts (stands_for words e.0 (word_at words e.0)) (is_definition words e.1) known).0

entry_definition : (words : List (List ℕ)) (e : ℕ × Option Definition) → is_entry words e ≡ true → is_definition words e.1 ≡ true
entry_definition words e known = (and_parts (stands_for words e.0 (word_at words e.0)) (is_definition words e.1) known).1

made_entry : (words : List (List ℕ)) (n : ℕ) (d : Option Definition) → number_in words (word_at words n) ≡ Some n → is_definition words d ≡ true → is_entry words (n, d) ≡ true
made_entry words n d number known =
    and_from (stands_for words n (word_at words n)) (is_definition words d) (number_known n (number_in words (word_at words n)) number) known

-- What the table has for a name is what the entries have for its number.
pub lookup-table : (words : List (List ℕ)) (name : List ℕ) (n : ℕ) (entries : List (ℕ × Option Definition))
    → number_in words name ≡ Some n → list_all (is_entry words) entries ≡ true
    → lookup (bytes_eq name) (table_with words entries) ≡ option_map (λ d. option_map macro_value d) (lookup (nat_eq n) entries)
lookup-table words name n [] number known = refl
lookup-table words name n (e ∷ entries) number known =
    let parts = and_parts (is_entry words e) (list_all (is_entry words) entries) known in
    let found : Option (Option Definition) = lookup (nat_eq n) entries in
    let there : Option (Option Macro) = lookup (bytes_eq name) (table_with words entries) in
    ap (λ b. cond b (Some (option_map macro_value e.1)) there) (same_number words name (word_at words e.0) n e.0 number (entry_number words e parts.0))
    ∙ elim (nat_eq n e.0)
    as (λ b. cond b (Some (option_map macro_value e.1)) there ≡ option_map (λ d. option_map macro_value d) (cond b (Some e.1) found))
    [ true ↦ refl | false ↦ lookup-table words name n entries number parts.1 ]

-- A name without a number isn't in the table.
pub lookup-none : (words : List (List ℕ)) (name : List ℕ) (entries : List (ℕ × Option Definition))
    → number_in words name ≡ None → list_all (is_entry words) entries ≡ true → lookup (bytes_eq name) (table_with words entries) ≡ None
lookup-none words name [] none known = refl
lookup-none words name (e ∷ entries) none known =
    let parts = and_parts (is_entry words e) (list_all (is_entry words) entries) known in
    let there : Option (Option Macro) = lookup (bytes_eq name) (table_with words entries) in
    ap (λ b. cond b (Some (option_map macro_value e.1)) there) (other_number words name (word_at words e.0) e.0 none (entry_number words e parts.0))
    ∙ lookup-none words name entries none parts.1

-- What is set for a number is set for its name.
pub set_value-table : (words : List (List ℕ)) (name : List ℕ) (n : ℕ) (entries : List (ℕ × Option Definition)) (d : Option Definition)
    → number_in words name ≡ Some n → list_all (is_entry words) entries ≡ true
    → table_with words (set_value (nat_eq n) entries d) ≡ set_value (bytes_eq name) (table_with words entries) (option_map macro_value d)
set_value-table words name n [] d number known = refl
set_value-table words name n (e ∷ entries) d number known =
    let parts = and_parts (is_entry words e) (list_all (is_entry words) entries) known in
    let more : List (ℕ × Option Definition) = set_value (nat_eq n) entries d in
    let those : Table = set_value (bytes_eq name) (table_with words entries) (option_map macro_value d) in
    let first : List ℕ × Option Macro = (word_at words e.0, option_map macro_value e.1) in
    let second : List ℕ × Option Macro = (word_at words e.0, option_map macro_value d) in
    elim (nat_eq n e.0)
    as (λ b. table_with words (cond b ((e.0, d) ∷ entries) (e ∷ more)) ≡ cond b (second ∷ table_with words entries) (first ∷ those))
    [ true ↦ refl | false ↦ ap (λ es. first ∷ es) (set_value-table words name n entries d number parts.1) ]
    ∙ ap (λ b. cond b (second ∷ table_with words entries) (first ∷ those))
    (sym (same_number words name (word_at words e.0) n e.0 number (entry_number words e parts.0)))

-- What is defined for a number is defined for its name.
pub insert-table : (words : List (List ℕ)) (name : List ℕ) (n : ℕ) (entries : List (ℕ × Option Definition)) (d : Option Definition)
    → number_in words name ≡ Some n → list_all (is_entry words) entries ≡ true
    → table_with words (insert_entry nat_eq entries n d) ≡ insert_entry bytes_eq (table_with words entries) name (option_map macro_value d)
insert-table words name n [] d number known = ap (λ w. (w, option_map macro_value d) ∷ []) (number_word words name n number)
insert-table words name n (e ∷ entries) d number known =
    let parts = and_parts (is_entry words e) (list_all (is_entry words) entries) known in
    let more : List (ℕ × Option Definition) = insert_entry nat_eq entries n d in
    let those : Table = insert_entry bytes_eq (table_with words entries) name (option_map macro_value d) in
    let first : List ℕ × Option Macro = (word_at words e.0, option_map macro_value e.1) in
    let second : List ℕ × Option Macro = (word_at words e.0, option_map macro_value d) in
    elim (nat_eq n e.0)
    as (λ b. table_with words (if b then (e.0, d) ∷ entries else e ∷ more) ≡ (if b then second ∷ table_with words entries else first ∷ those))
    [ true ↦ refl | false ↦ ap (λ es. first ∷ es) (insert-table words name n entries d number parts.1) ]
    ∙ ap (λ b. if b then second ∷ table_with words entries else first ∷ those)
    (sym (same_number words name (word_at words e.0) n e.0 number (entry_number words e parts.0)))

-- More words change no table.
pub table-grows : (words more : List (List ℕ)) (entries : List (ℕ × Option Definition))
    → list_all (is_entry words) entries ≡ true → table_with (words ++ more) entries ≡ table_with words entries
table-grows words more [] known = refl
table-grows words more (e ∷ entries) known =
    let parts = and_parts (is_entry words e) (list_all (is_entry words) entries) known in
    let within = number_within words (word_at words e.0) e.0 (entry_number words e parts.0) in
    ap (λ w. (w, option_map macro_value e.1) ∷ table_with (words ++ more) entries) (get_or_append_left words more [] e.0 within)
    ∙ ap (λ es. (word_at words e.0, option_map macro_value e.1) ∷ es) (table-grows words more entries parts.1)

definition-grows : (words more : List (List ℕ)) (d : Option Definition) → is_definition words d ≡ true → is_definition (words ++ more) d ≡ true
definition-grows words more None known = refl
definition-grows words more (Some d) known = listed-grow words more d.tokens.items known

pub entries-grow : (words more : List (List ℕ)) (entries : List (ℕ × Option Definition))
    → list_all (is_entry words) entries ≡ true → list_all (is_entry (words ++ more)) entries ≡ true
entries-grow words more [] known = refl
entries-grow words more (e ∷ entries) known =
    let parts = and_parts (is_entry words e) (list_all (is_entry words) entries) known in
    let number = entry_number words e parts.0 in
    let name = get_or_append_left words more [] e.0 (number_within words (word_at words e.0) e.0 number) in
    and_from (is_entry (words ++ more) e) (list_all (is_entry (words ++ more)) entries)
    (made_entry (words ++ more) e.0 e.1 (ap (number_in (words ++ more)) name ∙ number-grows words more (word_at words e.0) e.0 number)
    (definition-grows words more e.1 (entry_definition words e parts.0)))
    (entries-grow words more entries parts.1)

-- The entries with one more macro.
pub entries-insert : (words : List (List ℕ)) (name : List ℕ) (n : ℕ) (entries : List (ℕ × Option Definition)) (d : Option Definition)
    → number_in words name ≡ Some n → is_definition words d ≡ true → list_all (is_entry words) entries ≡ true
    → list_all (is_entry words) (insert_entry nat_eq entries n d) ≡ true
entries-insert words name n [] d number new known =
    and_from (is_entry words (n, d)) true (made_entry words n d (ap (number_in words) (number_word words name n number) ∙ number) new) refl
entries-insert words name n (e ∷ entries) d number new known =
    let parts = and_parts (is_entry words e) (list_all (is_entry words) entries) known in
    let more : List (ℕ × Option Definition) = insert_entry nat_eq entries n d in
    elim (nat_eq n e.0) as (λ b. list_all (is_entry words) (if b then (e.0, d) ∷ entries else e ∷ more) ≡ true) [
      | true ↦ and_from (is_entry words (e.0, d)) (list_all (is_entry words) entries) (made_entry words e.0 d (entry_number words e parts.0) new) parts.1
      | false ↦ and_from (is_entry words e) (list_all (is_entry words) more) parts.0 (entries-insert words name n entries d number new parts.1)
    ]

-- The entries without a macro.
pub entries-clear : (words : List (List ℕ)) (test : ℕ → Bool) (entries : List (ℕ × Option Definition))
    → list_all (is_entry words) entries ≡ true → list_all (is_entry words) (set_value test entries None) ≡ true
entries-clear words test [] known = refl
entries-clear words test (e ∷ entries) known =
    let parts = and_parts (is_entry words e) (list_all (is_entry words) entries) known in
    let more : List (ℕ × Option Definition) = set_value test entries None in
    elim (test e.0) as (λ b. list_all (is_entry words) (cond b ((e.0, None) ∷ entries) (e ∷ more)) ≡ true) [
      | true ↦ and_from (is_entry words (e.0, None)) (list_all (is_entry words) entries) (made_entry words e.0 None (entry_number words e parts.0) refl) parts.1
      | false ↦ and_from (is_entry words e) (list_all (is_entry words) more) parts.0 (entries-clear words test entries parts.1)
    ]

-- Where a name isn't looked up, nothing is set.
pub set_value-none : {K X : Type 0} (test : K → Bool) (entries : List (K × X)) (w : X) → lookup test entries ≡ None → set_value test entries w ≡ entries
set_value-none test [] w none = refl
set_value-none {K} {X} test (e ∷ entries) w none =
    let more : List (K × X) = set_value test entries w in
    let found : Option X = lookup test entries in
    let P : Bool → Type 0 = λ b. cond b (Some e.1) found ≡ None → cond b ((e.0, w) ∷ entries) (e ∷ more) ≡ e ∷ entries in
    let cases : (b : Bool) → P b = λ b. elim b as P [ true ↦ λ h. cc | false ↦ λ h. ap (λ es. e ∷ es) (set_value-none test entries w h) ] in
    cases (test e.0) none

-- Lists of different lengths aren't the same.
pub same_kinds-lengths : (these those : List Kind) → length these ≢ length those → same_kinds these those ≡ false
same_kinds-lengths [] [] other = absurd (other refl)
same_kinds-lengths [] (b ∷ those) other = refl
same_kinds-lengths (a ∷ these) [] other = refl
same_kinds-lengths (a ∷ these) (b ∷ those) other =
    elim (same_kind a b) as (λ v. (v && same_kinds these those) ≡ false)
    [ true ↦ same_kinds-lengths these those (λ same. other (ap suc same)) | false ↦ refl ]

-- What a value stands for behind a reference.
pub option_map-copied : {X Y : Type 0} (f : X → Y) (found : Option (Bor X)) → option_map (λ x. f x.now) found ≡ option_map f (option_copied found)
option_map-copied f None = refl
option_map-copied f (Some x) = refl

-- The same where the words are given as grown ones.
pub grown-entries : (words more all : List (List ℕ)) (entries : List (ℕ × Option Definition))
    → all ≡ words ++ more → list_all (is_entry words) entries ≡ true → list_all (is_entry all) entries ≡ true
grown-entries words more all entries grown known = rw grown (entries-grow words more entries known)

pub grown-table : (words more all : List (List ℕ)) (entries : List (ℕ × Option Definition))
    → all ≡ words ++ more → list_all (is_entry words) entries ≡ true → table_with all entries ≡ table_with words entries
grown-table words more all entries grown known = ap (λ ws. table_with ws entries) grown ∙ table-grows words more entries known

-- A macro that is found has listed tokens.
pub found_definition : (words : List (List ℕ)) (test : ℕ → Bool) (entries : List (ℕ × Option Definition)) (d : Option Definition)
    → lookup test entries ≡ Some d → list_all (is_entry words) entries ≡ true → is_definition words d ≡ true
found_definition words test [] d found known = cc
found_definition words test (e ∷ entries) d found known =
    let parts = and_parts (is_entry words e) (list_all (is_entry words) entries) known in
    let behind : Option (Option Definition) = lookup test entries in
    let P : Bool → Type 0 = λ b. cond b (Some e.1) behind ≡ Some d → is_definition words d ≡ true in
    let here : P true = λ h. let same : e.1 ≡ d = cc in ap (is_definition words) (sym same) ∙ entry_definition words e parts.0 in
    let cases : (b : Bool) → P b = λ b. elim b as P [ true ↦ here | false ↦ λ h. found_definition words test entries d h parts.1 ] in
    cases (test e.0) found

-- What follows from either answer of a call.
pub either_way : {A E : Type 0} {P Q G : Type 0} (r : Result A E) → OnOk r P → OnErr r Q → (P → G) → (Q → G) → G
either_way {A} {E} {P} {Q} {G} r ok err f g =
    let cases : OnOk r P → OnErr r Q → G = elim r as (λ r. OnOk r P → OnErr r Q → G) [ Ok a ↦ λ p q. f p | Err e ↦ λ p q. g q ] in
    cases ok err

pub always_err : {A E : Type 0} {P : Type 0} (r : Result A E) → P → OnErr r P
always_err {A} {E} {P} r p = elim r as (λ r. OnErr r P) [ Ok a ↦ tt | Err e ↦ p ]

-- The macro behind a reference has listed tokens.
pub listed_behind : (words : List (List ℕ)) (found : Option (Bor Definition)) (d : Option Definition)
    → option_copied found ≡ d → is_definition words d ≡ true → IfSome found (λ m. list_all (is_listed words) m.now.tokens.items ≡ true)
listed_behind words None d same known = tt
listed_behind words (Some m) d same known = ap (is_definition words) same ∙ known
