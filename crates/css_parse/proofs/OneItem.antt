-- Items are read in one way.
use Rattle.std.proofs.Common.{◌≡◌, ℕ, ◌-◌, ◌<◌, ◌≤◌, List, [], ◌∷◌, ◌++◌, length, codes, Option, Some, None, refl, sym, ap, ap₂, ◌∙◌, subst, arith}
use Rattle.css_base.specs.Tokens as tokens
use Rattle.css_base.specs.Tokens.{Kind, Word, Punctuator, Lexeme}
use Rattle.css_tree.specs.declared.scope.Scope.TheVariants as scopes
use Rattle.css_tree.specs.declared.words.Specifier.{Specifier}
use Rattle.css_tree.specs.Syntax.{Stars, Dimensions, Initialiser, Declarator, Declaration, Mark, Entries, Parameter, Parameters, Empty, VoidAlone, Listed, Body, Function, Item, Define, Declare, Tree}
use Rattle.css_tree.specs.TokenParts.{first_line, last_line}
use Rattle.css_parse.specs.Fronts.{Next}
use Rattle.css_parse.specs.Words.{next_specifier, specifier_of, ReadsSpecifiers, ReadsStars, TakesSpecifiers}
use Rattle.css_parse.specs.Readings.{ReadsDimensions, ReadsInitial, ReadsName, ReadsHead, ReadsTail, ReadsDeclarators, ReadsFurtherDeclarators, ReadsDeclaration, ReadsMark, ReadsEntries}
use Rattle.css_parse.specs.ItemReadings.{ReadsOptionalName, ReadsParameter, ReadsFurtherParameters, ReadsVoid, ReadsListed, ReadsParameters, ReadsBody, ReadsOptionalMark, ReadsFront, read, ReadsFunction, ReadsItem}
use Rattle.css_parse.proofs.FrontTokens.{one_next, one_kind, apart}
use Rattle.css_parse.proofs.OneDeclaration.{no_specifier, one_specifiers, one_stars, one_dimensions, one_name, one_head, one_declaration}
use Rattle.css_parse.proofs.OneStatement.{one_mark, one_entries}

-- a specifier is next where specifiers are read
pub specifier_next : (ts : List Lexeme) (all : List Specifier) {rest : List Lexeme} → ReadsSpecifiers scopes.File ts all rest → next_specifier scopes.File ts ≡ None → ⊥
specifier_next ts [] r none = (let some = r.some in absurd (omega arith))
specifier_next ts (s ∷ all) r none = no_specifier r.takes.1 none

pub no_specifier_mark : {kind : Kind} {ts us rest : List Lexeme} {all : List Specifier} → ReadsSpecifiers scopes.File ts all rest → Next kind ts us → specifier_of scopes.File kind ≡ None → ⊥
no_specifier_mark {kind} {ts} {all = all} r n none = specifier_next ts all r (ap (next_specifier scopes.File) n.parts ∙ ap (specifier_of scopes.File) n.is ∙ none)

-- ---- parameters

pub one_optional_name : (ts : List Lexeme) (x y : Option (List ℕ)) {us vs : List Lexeme} → ReadsOptionalName ts x us → ReadsOptionalName ts y vs → (x ≡ y) × (us ≡ vs)
one_optional_name ts None None a b = (refl, sym a.0 ∙ b.0)
one_optional_name ts None (Some y) {vs = vs} a b = absurd (a.1 y vs b)
one_optional_name ts (Some x) None {us} a b = absurd (b.1 x us a)
one_optional_name ts (Some x) (Some y) a b = let same = one_name a b in (ap Some same.0, same.1)

abbrev make_parameter : ℕ → List Specifier → Stars → Option (List ℕ) → Dimensions → Parameter
make_parameter x0 x1 x2 x3 x4 = record { line = x0; specifiers = x1; stars = x2; name = x3; dimensions = x4 }

same_parameter : (p q : Parameter) → p.line ≡ q.line → p.specifiers ≡ q.specifiers → p.stars ≡ q.stars → p.name ≡ q.name → p.dimensions ≡ q.dimensions → p ≡ q
same_parameter p q e0 e1 e2 e3 e4 = ap (λ x. make_parameter x p.specifiers p.stars p.name p.dimensions) e0 ∙ ap (λ x. make_parameter q.line x p.stars p.name p.dimensions) e1 ∙ ap (λ x. make_parameter q.line q.specifiers x p.name p.dimensions) e2 ∙ ap (λ x. make_parameter q.line q.specifiers q.stars x p.dimensions) e3 ∙ ap (λ x. make_parameter q.line q.specifiers q.stars q.name x) e4

pub one_parameter : {most : ℕ} {ts us vs : List Lexeme} {p q : Parameter} → ReadsParameter most ts p us → ReadsParameter most ts q vs → (p ≡ q) × (us ≡ vs)
one_parameter {most} {vs = vs} {p} {q} a b =
    let words = one_specifiers a.reads_specifiers b.reads_specifiers in
    let stars = one_stars a.behind p.stars q.stars a.reads_stars (subst (λ l. ReadsStars l q.stars b.middle) (sym words.1) b.reads_stars) in
    let name = one_optional_name a.middle p.name q.name a.reads_name (subst (λ l. ReadsOptionalName l q.name b.next) (sym stars.1) b.reads_name) in
    let sizes = one_dimensions scopes.File most a.next p.dimensions q.dimensions a.reads_dimensions (subst (λ l. ReadsDimensions scopes.File most l q.dimensions vs) (sym name.1) b.reads_dimensions) in
    (same_parameter p q (sym a.line_is ∙ b.line_is) words.0 stars.0 name.0 sizes.0, sizes.1)

pub one_further_parameters : (most : ℕ) (ts : List Lexeme) (xs ys : List Parameter) {us vs : List Lexeme} → ReadsFurtherParameters most ts xs us → ReadsFurtherParameters most ts ys vs → (xs ≡ ys) × (us ≡ vs)
one_further_parameters most ts [] [] a b = (refl, one_next a b)
one_further_parameters most ts [] (y ∷ ys) a (behind, next, n, r, more) = absurd (apart a n refl)
one_further_parameters most ts (x ∷ xs) [] (behind, next, n, r, more) b = absurd (apart b n refl)
one_further_parameters most ts (x ∷ xs) (y ∷ ys) {vs = vs} (behind, next, n, r, more) (behind', next', n', r', more') =
    let first = one_parameter r (subst (λ l. ReadsParameter most l y next') (one_next n' n) r') in
    let others = one_further_parameters most next xs ys more (subst (λ l. ReadsFurtherParameters most l ys vs) (sym first.1) more') in
    (ap₂ ◌∷◌ first.0 others.0, others.1)

pub one_listed : (most : ℕ) (ts : List Lexeme) (xs ys : List Parameter) {us vs : List Lexeme} → ReadsListed most ts xs us → ReadsListed most ts ys vs → (xs ≡ ys) × (us ≡ vs)
one_listed most ts [] ys a b = absurd a
one_listed most ts (x ∷ xs) [] a b = absurd b
one_listed most ts (x ∷ xs) (y ∷ ys) {vs = vs} (next, r, more) (next', r', more') =
    let first = one_parameter r r' in
    let others = one_further_parameters most next xs ys more (subst (λ l. ReadsFurtherParameters most l ys vs) (sym first.1) more') in
    (ap₂ ◌∷◌ first.0 others.0, others.1)

-- no parameter begins with a closing parenthesis
pub listed_not_closed : (most : ℕ) (ts : List Lexeme) (xs : List Parameter) (us : List Lexeme) {vs : List Lexeme} → ReadsListed most ts xs us → Next (Punctuator (codes ")")) ts vs → ⊥
listed_not_closed most ts [] us r n = r
listed_not_closed most ts (x ∷ xs) us (next, r, more) n = no_specifier_mark r.reads_specifiers n refl

pub one_void : {ts us vs : List Lexeme} → ReadsVoid ts us → ReadsVoid ts vs → us ≡ vs
one_void {us = us} (behind, n, c) (behind', n', c') = one_next (subst (λ l. Next (Punctuator (codes ")")) l us) (one_next n n') c) c'

pub one_parameters : (most : ℕ) (ts : List Lexeme) (x y : Parameters) {us vs : List Lexeme} → ReadsParameters most ts x us → ReadsParameters most ts y vs → (x ≡ y) × (us ≡ vs)
one_parameters most ts Empty Empty a b = (refl, one_next a b)
one_parameters most ts Empty VoidAlone a b = absurd (let k = one_kind a b.1 in cc)
one_parameters most ts Empty (Listed ys) {vs = vs} a b = absurd (listed_not_closed most ts ys vs b.1 a)
one_parameters most ts VoidAlone Empty a b = absurd (let k = one_kind b a.1 in cc)
one_parameters most ts VoidAlone VoidAlone a b = (refl, one_void a b)
one_parameters most ts VoidAlone (Listed ys) {us} a b = absurd (b.0 us a)
one_parameters most ts (Listed xs) Empty {us} a b = absurd (listed_not_closed most ts xs us a.1 b)
one_parameters most ts (Listed xs) VoidAlone {vs = vs} a b = absurd (a.0 vs b)
one_parameters most ts (Listed xs) (Listed ys) a b = let same = one_listed most ts xs ys a.1 b.1 in (ap Listed same.0, same.1)

-- ---- items

abbrev make_body : ℕ → Entries → Body
make_body x0 x1 = record { line = x0; entries = x1 }

same_body : (b c : Body) → b.line ≡ c.line → b.entries ≡ c.entries → b ≡ c
same_body p q e0 e1 = ap (λ x. make_body x p.entries) e0 ∙ ap (λ x. make_body q.line x) e1

pub one_body : (most : ℕ) (ts : List Lexeme) (x y : Option Body) {us vs : List Lexeme} → ReadsBody most ts x us → ReadsBody most ts y vs → (x ≡ y) × (us ≡ vs)
one_body most ts None None a b = (refl, one_next a b)
one_body most ts None (Some y) a (inside, some, n, line, r) = absurd (apart a n refl)
one_body most ts (Some x) None (inside, some, n, line, r) b = absurd (apart b n refl)
one_body most ts (Some x) (Some y) {vs = vs} (inside, some, n, line, r) (inside', some', n', line', r') =
    let same = one_entries r (subst (λ l. ReadsEntries (most - 1) l y.entries vs) (one_next n' n) r') in
    (ap Some (same_body x y (sym line ∙ line') same.0), same.1)

pub one_optional_mark : (ts : List Lexeme) (x y : Option Mark) {us vs : List Lexeme} → ReadsOptionalMark ts x us → ReadsOptionalMark ts y vs → (x ≡ y) × (us ≡ vs)
one_optional_mark ts None None a b = (refl, sym a.0 ∙ b.0)
one_optional_mark ts None (Some y) {vs = vs} a b = absurd (a.1 y vs b)
one_optional_mark ts (Some x) None {us} a b = absurd (b.1 x us a)
one_optional_mark ts (Some x) (Some y) a b = let same = one_mark a b in (ap Some same.0, same.1)

abbrev make_function : Option Mark → ℕ → ℕ → List Specifier → Stars → List ℕ → Parameters → Option Body → Function
make_function x0 x1 x2 x3 x4 x5 x6 x7 = record { directive = x0; line = x1; end = x2; specifiers = x3; stars = x4; name = x5; parameters = x6; body = x7 }

same_function : (f g : Function) → f.directive ≡ g.directive → f.line ≡ g.line → f.end ≡ g.end → f.specifiers ≡ g.specifiers → f.stars ≡ g.stars → f.name ≡ g.name → f.parameters ≡ g.parameters → f.body ≡ g.body → f ≡ g
same_function p q e0 e1 e2 e3 e4 e5 e6 e7 = ap (λ x. make_function x p.line p.end p.specifiers p.stars p.name p.parameters p.body) e0 ∙ ap (λ x. make_function q.directive x p.end p.specifiers p.stars p.name p.parameters p.body) e1 ∙ ap (λ x. make_function q.directive q.line x p.specifiers p.stars p.name p.parameters p.body) e2 ∙ ap (λ x. make_function q.directive q.line q.end x p.stars p.name p.parameters p.body) e3 ∙ ap (λ x. make_function q.directive q.line q.end q.specifiers x p.name p.parameters p.body) e4 ∙ ap (λ x. make_function q.directive q.line q.end q.specifiers q.stars x p.parameters p.body) e5 ∙ ap (λ x. make_function q.directive q.line q.end q.specifiers q.stars q.name x p.body) e6 ∙ ap (λ x. make_function q.directive q.line q.end q.specifiers q.stars q.name q.parameters x) e7

pub one_function : {most : ℕ} {ts us vs : List Lexeme} {f g : Function} → ReadsFunction most ts f us → ReadsFunction most ts g vs → (f ≡ g) × (us ≡ vs)
one_function {most} {ts} {vs = vs} {f} {g} a b =
    let mark = one_optional_mark ts f.directive g.directive a.reads_mark b.reads_mark in
    let words = one_specifiers a.reads_specifiers (subst (λ l. ReadsSpecifiers scopes.File l g.specifiers b.behind) (sym mark.1) b.reads_specifiers) in
    let head = one_head a.reads_head (subst (λ l. ReadsHead l g.stars g.name b.middle) (sym words.1) b.reads_head) in
    let inside = one_next a.opens (subst (λ l. Next (Punctuator (codes "(")) l b.inside) (sym head.2) b.opens) in
    let list = one_parameters most a.inside f.parameters g.parameters a.reads_parameters (subst (λ l. ReadsParameters most l g.parameters b.next) (sym inside) b.reads_parameters) in
    let body = one_body most a.next f.body g.body a.reads_body (subst (λ l. ReadsBody most l g.body vs) (sym list.1) b.reads_body) in
    let line : f.line ≡ g.line = sym a.line_is ∙ ap first_line mark.1 ∙ b.line_is in
    let end : f.end ≡ g.end = sym a.end_is ∙ ap (λ l. last_line (read ts l)) body.1 ∙ b.end_is in
    (same_function f g mark.0 line end words.0 head.0 head.1 list.0 body.0, body.1)

-- behind an object's name stands no opening parenthesis
not_opened_behind : (most : ℕ) (ts : List Lexeme) (ds : List Declarator) (us : List Lexeme) {vs : List Lexeme} → ReadsFurtherDeclarators scopes.File most ts ds us → Next (Punctuator (codes "(")) ts vs → ⊥
not_opened_behind most ts [] us a n = absurd (apart a n refl)
not_opened_behind most ts (d ∷ ds) us (behind, next, c, r, more) n = absurd (apart c n refl)

initial_not_opened : (most : ℕ) (ts : List Lexeme) (x : Option Initialiser) (ds : List Declarator) (behind us : List Lexeme) {vs : List Lexeme} → ReadsInitial scopes.File most ts x behind → ReadsFurtherDeclarators scopes.File most behind ds us
    → Next (Punctuator (codes "(")) ts vs → ⊥
initial_not_opened most ts None ds behind us a more n = not_opened_behind most ts ds us (subst (λ l. ReadsFurtherDeclarators scopes.File most l ds us) (sym a.0) more) n
initial_not_opened most ts (Some x) ds end us (behind, c, r) more n = absurd (apart c n refl)

tail_not_opened : (most : ℕ) (ts middle : List Lexeme) (sizes : Dimensions) (x : Option Initialiser) (ds : List Declarator) (behind us : List Lexeme) {vs : List Lexeme} → ReadsDimensions scopes.File most ts sizes middle
    → ReadsInitial scopes.File most middle x behind → ReadsFurtherDeclarators scopes.File most behind ds us → Next (Punctuator (codes "(")) ts vs → ⊥
tail_not_opened most ts middle [] x ds behind us a i more n = initial_not_opened most ts x ds behind us (subst (λ l. ReadsInitial scopes.File most l x behind) (sym a.0) i) more n
tail_not_opened most ts middle (size ∷ sizes) x ds end us (inside, behind, c, r, m) i more n = absurd (apart c n refl)

-- an item of objects up to its first name, and what is behind that
pub record IsObjects (most : ℕ) (ts : List Lexeme) (words : List Specifier) (line : ℕ) (stars : Stars) (name : List ℕ) (rest : List Lexeme) : Type 0 where
  pub behind : List Lexeme
  pub middle : List Lexeme
  pub next : List Lexeme
  pub sizes : Dimensions
  pub initial : Option Initialiser
  pub others : List Declarator
  pub reads_specifiers : ReadsSpecifiers scopes.File ts words behind
  pub line_is : first_line behind ≡ line
  pub reads_head : ReadsHead behind stars name middle
  pub reads_tail : ReadsTail scopes.File most middle sizes initial next
  pub reads_others : ReadsFurtherDeclarators scopes.File most next others rest

pub objects_not_opened : {most : ℕ} {ts rest vs : List Lexeme} {words : List Specifier} {line : ℕ} {stars : Stars} {name : List ℕ} → (o : IsObjects most ts words line stars name rest) → Next (Punctuator (codes "(")) o.middle vs → ⊥
objects_not_opened {most} {rest = rest} o n = let t = o.reads_tail in tail_not_opened most o.middle t.behind o.sizes o.initial o.others o.next rest t.reads_dimensions t.reads_initial o.reads_others n

pub record HasObjects (most : ℕ) (ts : List Lexeme) (d : Declaration) (rest : List Lexeme) : Type 0 where
  pub line : ℕ
  pub stars : Stars
  pub name : List ℕ
  pub objects : IsObjects most ts d.specifiers line stars name rest

pub objects_of : {most : ℕ} {ts rest : List Lexeme} (d : Declaration) → ReadsDeclaration scopes.File most ts d rest → HasObjects (most - 1) ts d rest
objects_of {most} {ts} {rest} d r = by d.declarators r.reads_declarators
  where
    by : (ds : List Declarator) → ReadsDeclarators scopes.File (most - 1) r.behind ds rest → HasObjects (most - 1) ts d rest
    by [] a = absurd a
    by (x ∷ ds) (next, a, more) = record {
      line = x.line;
      stars = x.stars;
      name = x.name;
      objects = record {
        behind = r.behind;
        middle = a.behind;
        next = next;
        sizes = x.dimensions;
        initial = x.initialiser;
        others = ds;
        reads_specifiers = r.reads_specifiers;
        line_is = a.line_is;
        reads_head = a.head;
        reads_tail = a.tail;
        reads_others = more;
      };
    }

-- objects have no directive
pub objects_no_mark : {most : ℕ} {ts us vs : List Lexeme} {m : Mark} {d : Declaration} → ReadsDeclaration scopes.File most ts d us → ReadsMark ts m vs → ⊥
objects_no_mark r m = no_specifier_mark r.reads_specifiers m.next refl

function_no_objects : {most : ℕ} {ts us vs : List Lexeme} {f : Function} {d : Declaration} → ReadsFunction most ts f us → ReadsDeclaration scopes.File most ts d vs → ⊥
function_no_objects {most} {ts} {us} {vs} {f} {d} a b = by f.directive a.reads_mark
  where
    by : (m : Option Mark) → ReadsOptionalMark ts m a.start → ⊥
    by (Some m) r = objects_no_mark b r
    by None r =
        let h = objects_of d b in
        let o = h.objects in
        let words = one_specifiers o.reads_specifiers (subst (λ l. ReadsSpecifiers scopes.File l f.specifiers a.behind) (sym r.0) a.reads_specifiers) in
        let head = one_head o.reads_head (subst (λ l. ReadsHead l f.stars f.name a.middle) (sym words.1) a.reads_head) in
        objects_not_opened o (subst (λ l. Next (Punctuator (codes "(")) l a.inside) (sym head.2) a.opens)

pub one_item : (most : ℕ) (ts : List Lexeme) (x y : Item) {us vs : List Lexeme} → ReadsItem most ts x us → ReadsItem most ts y vs → (x ≡ y) × (us ≡ vs)
one_item most ts (Define f) (Define g) a b = let same = one_function a.1 b.1 in (ap Define same.0, same.1)
one_item most ts (Define f) (Declare d) a b = absurd (function_no_objects a.1 b.1)
one_item most ts (Declare d) (Define f) a b = absurd (function_no_objects b.1 a.1)
one_item most ts (Declare c) (Declare d) a b = let same = one_declaration a.1 b.1 in (ap Declare same.0, same.1)
