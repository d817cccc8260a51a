-- What isn't read where a part of it isn't: items.
use Rattle.std.proofs.Common.{◌≡◌, ℕ, ◌+◌, ◌-◌, ◌<◌, ◌≤◌, List, [], ◌∷◌, length, codes, Bool, true, false, Option, Some, None, is_some, refl, sym, ap, ◌∙◌, subst, arith}
use Rattle.std.specs.Option.{option_map}
use Rattle.css_base.specs.Tokens.{Kind, Word, Punctuator, Lexeme}
use Rattle.css_tree.specs.declared.scope.Scope.TheVariants as scopes
use Rattle.css_tree.specs.declared.words.Specifier.{Specifier}
use Rattle.css_tree.specs.Syntax.{Stars, Dimensions, Initialiser, Declarator, Declaration, Mark, Entries, Parameters, Body, Function, Item, Define, Declare}
use Rattle.css_tree.specs.TokenParts.{first_line}
use Rattle.css_parse.specs.Fronts.{Next}
use Rattle.css_parse.specs.Words.{ReadsSpecifiers}
use Rattle.css_parse.specs.Readings.{IsNoNext, ReadsHead, ReadsTail, ReadsDeclarator, ReadsFurtherDeclarators, ReadsDeclarators, ReadsDeclaration, ReadsEntries}
use Rattle.css_parse.specs.ItemReadings.{ReadsParameters, ReadsBody, ReadsOptionalMark, ReadsFront, ReadsFunction, ReadsItem}
use Rattle.css_parse.proofs.FrontTokens.{one_next}
use Rattle.css_parse.proofs.OneDeclaration.{one_specifiers, one_head, one_tail}
use Rattle.css_parse.proofs.OneItem.{one_optional_mark, one_parameters, objects_of, objects_not_opened, objects_no_mark}
use Rattle.css_parse.proofs.NoDeclaration.{head_some, specifiers_some}

-- ---- fronts

pub front_some : {ts rest : List Lexeme} {line declared : ℕ} {words : List Specifier} {stars : Stars} {name : List ℕ} → ReadsFront ts line declared words stars name rest → ts ≡ [] → ⊥
front_some r none = specifiers_some r.reads_specifiers none

pub front_declared : {ts behind rest : List Lexeme} {line declared : ℕ} {words all : List Specifier} {stars : Stars} {name : List ℕ} → ReadsSpecifiers scopes.File ts all behind → behind ≡ [] → ReadsFront ts line declared words stars name rest → ⊥
front_declared s none r =
    let same = one_specifiers r.reads_specifiers s in
    let some = head_some r.reads_head in
    let e = ap length (same.1 ∙ none) in
    omega arith

pub no_front_head : {ts behind rest : List Lexeme} {line declared : ℕ} {words all : List Specifier} {stars : Stars} {name : List ℕ} → ReadsSpecifiers scopes.File ts all behind
    → ((signs : Stars) (other : List ℕ) (next : List Lexeme) → ReadsHead behind signs other next → ⊥) → ReadsFront ts line declared words stars name rest → ⊥
no_front_head {rest = rest} {stars = stars} {name} s none r = none stars name rest (subst (λ l. ReadsHead l stars name rest) (one_specifiers r.reads_specifiers s).1 r.reads_head)

-- fronts of the same tokens end in one place
pub one_front : {ts us vs : List Lexeme} {line declared line' declared' : ℕ} {words words' : List Specifier} {stars stars' : Stars} {name name' : List ℕ}
    → ReadsFront ts line declared words stars name us → ReadsFront ts line' declared' words' stars' name' vs → us ≡ vs
one_front {vs = vs} {stars' = stars'} {name' = name'} a b =
    let words = one_specifiers a.reads_specifiers b.reads_specifiers in
    (one_head a.reads_head (subst (λ l. ReadsHead l stars' name' vs) (sym words.1) b.reads_head)).2

-- ---- items

function_front : {most : ℕ} {ts rest : List Lexeme} {f : Function} → (r : ReadsFunction most ts f rest) → ReadsFront r.start (first_line r.start) (first_line r.behind) f.specifiers f.stars f.name r.middle
function_front r = record { behind = r.behind; line_is = refl; declared_is = refl; reads_specifiers = r.reads_specifiers; reads_head = r.reads_head }

-- no words up to a name are read behind a directive, or where none is
pub no_front : (most : ℕ) (ts : List Lexeme) (i : Item) (rest : List Lexeme) (m : Option Mark) (start : List Lexeme) → ReadsOptionalMark ts m start
    → ((line declared : ℕ) (words : List Specifier) (stars : Stars) (name : List ℕ) (next : List Lexeme) → ReadsFront start line declared words stars name next → ⊥) → ReadsItem most ts i rest → ⊥
no_front most ts (Define f) rest m start mark none (low, r) =
    let same = one_optional_mark ts f.directive m r.reads_mark mark in
    none _ _ f.specifiers f.stars f.name r.middle (subst (λ l. ReadsFront l (first_line r.start) (first_line r.behind) f.specifiers f.stars f.name r.middle) same.1 (function_front r))
no_front most ts (Declare d) rest m start mark none (low, r) =
    let h = objects_of d r in
    let o = h.objects in
    unmarked m mark (λ same. none (first_line ts) (first_line o.behind) d.specifiers h.stars h.name o.middle
    (subst (λ l. ReadsFront l (first_line ts) (first_line o.behind) d.specifiers h.stars h.name o.middle) same
    (record { behind = o.behind; line_is = refl; declared_is = refl; reads_specifiers = o.reads_specifiers; reads_head = o.reads_head })))
  where
    unmarked : (x : Option Mark) → ReadsOptionalMark ts x start → (ts ≡ start → ⊥) → ⊥
    unmarked (Some x) a k = objects_no_mark r a
    unmarked None a k = k a.0

-- a parenthesis stands behind the first name, and no function is read
pub no_function : (most : ℕ) (ts : List Lexeme) (i : Item) (rest : List Lexeme) (m : Option Mark) (start : List Lexeme) {behind inside : List Lexeme} {line declared : ℕ} {words : List Specifier} {stars : Stars} {name : List ℕ}
    → ReadsOptionalMark ts m start → ReadsFront start line declared words stars name behind → Next (Punctuator (codes "(")) behind inside
    → ((all : Parameters) (block : Option Body) (next end : List Lexeme) → ReadsParameters (most - 1) inside all next → ReadsBody (most - 1) next block end → ⊥) → ReadsItem most ts i rest → ⊥
no_function most ts (Define f) rest m start {behind} {inside} mark front n none (low, r) =
    let same = one_optional_mark ts f.directive m r.reads_mark mark in
    let here = subst (λ l. ReadsFront l (first_line r.start) (first_line r.behind) f.specifiers f.stars f.name r.middle) same.1 (function_front r) in
    let opened = one_next (subst (λ l. Next (Punctuator (codes "(")) l r.inside) (one_front here front) r.opens) n in
    none f.parameters f.body r.next rest (subst (λ l. ReadsParameters (most - 1) l f.parameters r.next) opened r.reads_parameters) r.reads_body
no_function most ts (Declare d) rest m start {behind} {inside} mark front n none (low, r) =
    let h = objects_of d r in
    let o = h.objects in
    unmarked m mark (λ same. objects_not_opened o (subst (λ l. Next (Punctuator (codes "(")) l inside)
    (sym (one_front (subst (λ l. ReadsFront l (first_line ts) (first_line o.behind) d.specifiers h.stars h.name o.middle) same
    (record { behind = o.behind; line_is = refl; declared_is = refl; reads_specifiers = o.reads_specifiers; reads_head = o.reads_head })) front)) n))
  where
    unmarked : (x : Option Mark) → ReadsOptionalMark ts x start → (ts ≡ start → ⊥) → ⊥
    unmarked (Some x) a k = objects_no_mark r a
    unmarked None a k = k a.0

-- no parenthesis stands there, so it is no function
not_function : {most : ℕ} {ts behind rest : List Lexeme} {line declared : ℕ} {words : List Specifier} {stars : Stars} {name : List ℕ} {f : Function} (m : Option Mark) (start : List Lexeme)
    → ReadsOptionalMark ts m start → ReadsFront start line declared words stars name behind → IsNoNext (Punctuator (codes "(")) behind → ReadsFunction most ts f rest → ⊥
not_function {ts = ts} {f = f} m start mark front none r =
    let same = one_optional_mark ts f.directive m r.reads_mark mark in
    let here = subst (λ l. ReadsFront l (first_line r.start) (first_line r.behind) f.specifiers f.stars f.name r.middle) same.1 (function_front r) in
    none r.inside (subst (λ l. Next (Punctuator (codes "(")) l r.inside) (one_front here front) r.opens)

-- a directive before objects
pub no_marked_objects : (most : ℕ) (ts : List Lexeme) (i : Item) (rest : List Lexeme) (m : Mark) (start : List Lexeme) {behind : List Lexeme} {line declared : ℕ} {words : List Specifier} {stars : Stars} {name : List ℕ}
    → ReadsOptionalMark ts (Some m) start → ReadsFront start line declared words stars name behind → IsNoNext (Punctuator (codes "(")) behind → ReadsItem most ts i rest → ⊥
no_marked_objects most ts (Define f) rest m start mark front none (low, r) = not_function (Some m) start mark front none r
no_marked_objects most ts (Declare d) rest m start mark front none (low, r) = objects_no_mark r mark

-- neither a directive nor a parenthesis, and no objects are read
pub no_objects : (most : ℕ) (ts : List Lexeme) (i : Item) (rest : List Lexeme) (start : List Lexeme) {behind : List Lexeme} {line declared : ℕ} {words : List Specifier} {stars : Stars} {name : List ℕ}
    → ReadsOptionalMark ts None start → ReadsFront start line declared words stars name behind → IsNoNext (Punctuator (codes "(")) behind
    → ((sizes : Dimensions) (value : Option Initialiser) (next : List Lexeme) (ds : List Declarator) (end : List Lexeme) → 0 < most - 1
    → ReadsTail scopes.File ((most - 1) - 1) behind sizes value next → ReadsFurtherDeclarators scopes.File ((most - 1) - 1) next ds end → ⊥) → ReadsItem most ts i rest → ⊥
no_objects most ts (Define f) rest start mark front none other (low, r) = not_function None start mark front none r
no_objects most ts (Declare d) rest start mark front none other (low, r) =
    let h = objects_of d r in
    let o = h.objects in
    let here = subst (λ l. ReadsFront l (first_line ts) (first_line o.behind) d.specifiers h.stars h.name o.middle) mark.0
    (record { behind = o.behind; line_is = refl; declared_is = refl; reads_specifiers = o.reads_specifiers; reads_head = o.reads_head }) in
    other o.sizes o.initial o.next o.others rest r.some (subst (λ l. ReadsTail scopes.File ((most - 1) - 1) l o.sizes o.initial o.next) (one_front here front) o.reads_tail) o.reads_others

pub item_level : (most : ℕ) (ts : List Lexeme) (i : Item) (rest : List Lexeme) → ReadsItem most ts i rest → 0 < most
item_level most ts (Define f) rest r = r.0
item_level most ts (Declare d) rest r = r.0

-- ---- bodies

pub no_body : (most : ℕ) (ts : List Lexeme) (block : Option Body) (rest : List Lexeme) → IsNoNext (Punctuator (codes ";")) ts → IsNoNext (Punctuator (codes "{")) ts → ReadsBody most ts block rest → ⊥
no_body most ts None rest none other r = none rest r
no_body most ts (Some body) rest none other (inside, low, n, line, r) = other inside n

pub no_body_level : (most : ℕ) (ts : List Lexeme) (block : Option Body) (rest : List Lexeme) → IsNoNext (Punctuator (codes ";")) ts → most ≡ 0 → ReadsBody most ts block rest → ⊥
no_body_level most ts None rest none zero r = none rest r
no_body_level most ts (Some body) rest none zero (inside, low, n, line, r) = omega arith

pub no_body_entries : (most : ℕ) (ts : List Lexeme) (block : Option Body) (rest : List Lexeme) {inside : List Lexeme} → IsNoNext (Punctuator (codes ";")) ts → Next (Punctuator (codes "{")) ts inside
    → ((entries : Entries) (next : List Lexeme) → ReadsEntries (most - 1) inside entries next → ⊥) → ReadsBody most ts block rest → ⊥
no_body_entries most ts None rest none n other r = none rest r
no_body_entries most ts (Some body) rest none n other (inside, low, n', line, r) = other body.entries rest (subst (λ l. ReadsEntries (most - 1) l body.entries rest) (one_next n' n) r)

pub nothing_next : {kind : Kind} {ts : List Lexeme} → ts ≡ [] → IsNoNext kind ts
nothing_next none behind n = (let p = n.parts in let e : [] ≡ n.token ∷ behind = sym none ∙ p in cc)

-- ---- what is read

pub defined_item : (most : ℕ) (ts : List Lexeme) (f : Function) (rest : List Lexeme) → ReadsFunction most ts f rest → ReadsItem (most + 1) ts (Define f) rest
defined_item most ts f rest r = (omega arith, subst (λ n. ReadsFunction n ts f rest) (same most) r)
  where
    same : (n : ℕ) → n ≡ (n + 1) - 1
    same n = omega arith

pub declared_item : (most : ℕ) (ts : List Lexeme) (d : Declaration) (rest : List Lexeme) → ReadsDeclaration scopes.File most ts d rest → ReadsItem (most + 1) ts (Declare d) rest
declared_item most ts d rest r = (omega arith, subst (λ n. ReadsDeclaration scopes.File n ts d rest) (same most) r)
  where
    same : (n : ℕ) → n ≡ (n + 1) - 1
    same n = omega arith

-- ---- a directive or none

pub unmarked_start : (ts : List Lexeme) (m : Option Mark) (start : List Lexeme) → is_some m ≡ false → ReadsOptionalMark ts m start → ts ≡ start
unmarked_start ts None start none r = r.0
unmarked_start ts (Some m) start none r = absurd cc

pub no_objects_marked : (most : ℕ) (ts : List Lexeme) (i : Item) (rest : List Lexeme) (m : Option Mark) (start : List Lexeme) {behind : List Lexeme} {line declared : ℕ} {words : List Specifier} {stars : Stars} {name : List ℕ}
    → is_some m ≡ true → ReadsOptionalMark ts m start → ReadsFront start line declared words stars name behind → IsNoNext (Punctuator (codes "(")) behind → ReadsItem most ts i rest → ⊥
no_objects_marked most ts i rest None start some mark front none r = absurd cc
no_objects_marked most ts i rest (Some m) start some mark front none r = no_marked_objects most ts i rest m start mark front none r

pub no_objects_unmarked : (most : ℕ) (ts : List Lexeme) (i : Item) (rest : List Lexeme) (m : Option Mark) (start : List Lexeme) {behind : List Lexeme} {line declared : ℕ} {words : List Specifier} {stars : Stars} {name : List ℕ}
    → is_some m ≡ false → ReadsOptionalMark ts m start → ReadsFront start line declared words stars name behind → IsNoNext (Punctuator (codes "(")) behind
    → ((sizes : Dimensions) (value : Option Initialiser) (next : List Lexeme) (ds : List Declarator) (end : List Lexeme) → 0 < most - 1
    → ReadsTail scopes.File ((most - 1) - 1) behind sizes value next → ReadsFurtherDeclarators scopes.File ((most - 1) - 1) next ds end → ⊥) → ReadsItem most ts i rest → ⊥
no_objects_unmarked most ts i rest None start some mark front none other r = no_objects most ts i rest start mark front none other r
no_objects_unmarked most ts i rest (Some m) start some mark front none other r = absurd cc

pub is_some-map : {X Y : Type 0} (f : X → Y) (o : Option X) (b : Bool) → b ≡ is_some o → is_some (option_map f o) ≡ b
is_some-map f None b e = sym e
is_some-map f (Some x) b e = sym e
