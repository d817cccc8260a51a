-- Items that are read are spelled.
use Rattle.std.proofs.Common.{◌≡◌, ℕ, ◌+◌, ◌-◌, ◌<◌, ◌≤◌, max, List, [], ◌∷◌, ◌++◌, length, codes, Option, Some, None, refl, sym, ap, ap₂, ◌∙◌, subst, arith, append_assoc}
use Rattle.std.proofs.lemmas.List.{length-append}
use Rattle.css_base.specs.Tokens.{Kind, Word, Punctuator, Lexeme}
use Rattle.css_tree.specs.declared.scope.Scope.TheVariants as scopes
use Rattle.css_tree.specs.declared.words.Specifier.{Specifier}
use Rattle.css_tree.specs.Syntax.{Stars, Mark, Parameter, Parameters, Empty, VoidAlone, Listed, Body, Function, Item, Define, Declare, Tree}
use Rattle.css_tree.specs.TokenParts.{kind_at, first_line, last_line, word, Are}
use Rattle.css_tree.specs.Words.{SpellsSpecifiers}
use Rattle.css_tree.specs.Declarations.{SpellsBehindCommas, SpellsBetweenCommas}
use Rattle.css_tree.specs.Items.{SpellsOptionalName, SpellsParameter, SpellsParameters, SpellsOptionalMark, SpellsBody, SpellsFunction, SpellsItem, SpellsProgram}
use Rattle.css_tree.specs.Heights.{height_of_dimensions, height_of_parameters, height_of_list, height_of_body, height_of_item, height_of_tree}
use Rattle.css_parse.specs.Fronts.{Next}
use Rattle.css_parse.specs.Refusals.{Spells}
use Rattle.css_parse.specs.ItemReadings.{ReadsOptionalName, ReadsParameter, ReadsFurtherParameters, ReadsVoid, ReadsListed, ReadsParameters, ReadsBody, ReadsOptionalMark, ReadsFront, ReadsFunction, ReadsItem, ReadsItems}
use Rattle.css_parse.proofs.Ends.{front_read}
use Rattle.css_parse.proofs.OneItem.{one_item}
use Rattle.css_parse.proofs.SoundDeclaration.{Cut, led, followed, none_before, one_before, last_one, front_line, some_words, some_front, some_behind_front, specifiers_spelled, stars_spelled, dimensions_spelled, declaration_spelled}
use Rattle.css_parse.proofs.SoundStatement.{mark_spelled, entries_spelled}

-- ---- parameters

record NameBefore (ts : List Lexeme) (name : Option (List ℕ)) (rest : List Lexeme) : Type 0 where
  pub front : List Lexeme
  pub parts : Cut ts front (rest)
  pub spells : SpellsOptionalName front name

name_spelled : (ts : List Lexeme) (name : Option (List ℕ)) {rest : List Lexeme} → ReadsOptionalName ts name rest → NameBefore ts name rest
name_spelled ts None r = record { front = []; parts = none_before r.0; spells = refl }
name_spelled ts (Some name) r = (let n = r.word in record { front = n.token ∷ []; parts = one_before n.parts; spells = ((n.token, [], refl, n.is, refl), r.named) })

record ParameterBefore (most : ℕ) (ts : List Lexeme) (p : Parameter) (rest : List Lexeme) : Type 0 where
  pub front : List Lexeme
  pub parts : Cut ts front (rest)
  pub spells : SpellsParameter front p
  pub low : height_of_dimensions p.dimensions ≤ most

parameter_spelled : {most : ℕ} {ts rest : List Lexeme} {p : Parameter} → ReadsParameter most ts p rest → ParameterBefore most ts p rest
parameter_spelled {most} {ts} {rest} {p} r =
    let words = specifiers_spelled r.reads_specifiers in
    let stars = stars_spelled r.behind p.stars r.reads_stars in
    let name = name_spelled r.middle p.name r.reads_name in
    let sizes = dimensions_spelled scopes.File most r.next p.dimensions r.reads_dimensions in
    let front = words.front ++ (stars.front ++ (name.front ++ sizes.front)) in
    let parts : Cut ts front rest = followed words.parts (followed stars.parts (followed name.parts sizes.parts)) in
    let some = some_front words.front (stars.front ++ (name.front ++ sizes.front)) (some_words words.spells) in
    record {
      front = front;
      parts = parts;
      spells = record {
        specifiers = words.front;
        stars = stars.front;
        name = name.front;
        dimensions = sizes.front;
        parts = (_, refl, (_, refl, (_, refl, refl)));
        line_is = front_line parts some r.line_is;
        spells_specifiers = words.spells;
        spells_stars = stars.spells;
        spells_name = name.spells;
        spells_dimensions = sizes.spells;
      };
      low = sizes.low;
    }

-- parameters and the parenthesis that closes
record FurtherBefore (most : ℕ) (ts : List Lexeme) (ps : List Parameter) (rest : List Lexeme) : Type 0 where
  pub front : List Lexeme
  pub token : Lexeme
  pub parts : Cut ts front (token ∷ rest)
  pub is : kind_at token ≡ Punctuator (codes ")")
  pub spells : SpellsBehindCommas SpellsParameter front ps
  pub low : height_of_parameters ps ≤ most

further_spelled : (most : ℕ) (ts : List Lexeme) (ps : List Parameter) {rest : List Lexeme} → ReadsFurtherParameters most ts ps rest → FurtherBefore most ts ps rest
further_spelled most ts [] n = record { front = []; token = n.token; parts = none_before n.parts; is = n.is; spells = refl; low = omega arith }
further_spelled most ts (p ∷ ps) (behind, next, n, r, more) =
    let here = parameter_spelled r in
    let others = further_spelled most next ps more in
    let a = here.low in
    let b = others.low in
    record {
      front = n.token ∷ (here.front ++ others.front);
      token = others.token;
      parts = led n.token n.parts (followed here.parts others.parts);
      is = others.is;
      spells = (here.front, others.front, (n.token, _, refl, n.is, (_, refl, refl)), here.spells, others.spells);
      low = omega arith;
    }

record ParametersBefore (most : ℕ) (ts : List Lexeme) (all : Parameters) (rest : List Lexeme) : Type 0 where
  pub front : List Lexeme
  pub token : Lexeme
  pub parts : Cut ts front (token ∷ rest)
  pub is : kind_at token ≡ Punctuator (codes ")")
  pub spells : SpellsParameters front all
  pub low : height_of_list all ≤ most

parameters_spelled : (most : ℕ) (ts : List Lexeme) (all : Parameters) {rest : List Lexeme} → ReadsParameters most ts all rest → ParametersBefore most ts all rest
parameters_spelled most ts Empty n = record { front = []; token = n.token; parts = none_before n.parts; is = n.is; spells = refl; low = omega arith }
parameters_spelled most ts VoidAlone (behind, n, c) =
    record { front = n.token ∷ []; token = c.token; parts = record { parts = n.parts ∙ ap (λ l. n.token ∷ l) c.parts }; is = c.is; spells = (n.token, [], refl, n.is, refl); low = omega arith }
parameters_spelled most ts (Listed []) r = absurd r.1
parameters_spelled most ts (Listed (p ∷ ps)) {rest} (none, (next, r, more)) =
    let here = parameter_spelled r in
    let others = further_spelled most next ps more in
    let a = here.low in
    let b = others.low in
    let parts = followed here.parts others.parts in
    record {
      front = here.front ++ others.front;
      token = others.token;
      parts = parts;
      is = others.is;
      spells = ((here.front, others.front, (_, refl, refl), here.spells, others.spells), λ alone. no_void (here.front ++ others.front) others.token parts.parts others.is none alone);
      low = omega arith;
    }
  where
    no_void : (us : List Lexeme) (c : Lexeme) → ts ≡ us ++ c ∷ rest → kind_at c ≡ Punctuator (codes ")") → ((behind : List Lexeme) → ReadsVoid ts behind → ⊥) → Are us (word (codes "void") ∷ []) → ⊥
    no_void us c parts closes none (t, r, e, is, last) =
        let whole : ts ≡ t ∷ (c ∷ rest) = parts ∙ ap (λ l. l ++ c ∷ rest) (e ∙ ap (λ l. t ∷ l) last) in
        none rest (c ∷ rest, record { token = t; parts = whole; is = is }, record { token = c; parts = refl; is = closes })

-- ---- items

record BodyBefore (most : ℕ) (ts : List Lexeme) (body : Option Body) (rest : List Lexeme) : Type 0 where
  pub front : List Lexeme
  pub parts : Cut ts front (rest)
  pub spells : SpellsBody front body
  pub low : height_of_body body ≤ most

body_spelled : (most : ℕ) (ts : List Lexeme) (body : Option Body) {rest : List Lexeme} → ReadsBody most ts body rest → BodyBefore most ts body rest
body_spelled most ts None n = record { front = n.token ∷ []; parts = one_before n.parts; spells = (n.token, [], refl, n.is, refl); low = omega arith }
body_spelled most ts (Some body) (inside, some, n, line, r) =
    let x = entries_spelled r in
    let low = x.low in
    record {
      front = n.token ∷ (x.front ++ x.token ∷ []);
      parts = led n.token n.parts (followed x.parts (last_one x.token));
      spells = (x.front, (n.token, _, refl, n.is, (_, refl, (x.token, [], refl, x.is, refl))), sym (ap first_line n.parts) ∙ line, x.spells);
      low = omega arith;
    }

record OptionalMarkBefore (ts : List Lexeme) (m : Option Mark) (rest : List Lexeme) : Type 0 where
  pub front : List Lexeme
  pub parts : Cut ts front (rest)
  pub spells : SpellsOptionalMark front m

optional_mark_spelled : (ts : List Lexeme) (m : Option Mark) {rest : List Lexeme} → ReadsOptionalMark ts m rest → OptionalMarkBefore ts m rest
optional_mark_spelled ts None r = record { front = []; parts = none_before r.0; spells = refl }
optional_mark_spelled ts (Some m) r = (let x = mark_spelled r in record { front = x.front; parts = x.parts; spells = x.spells })

pub record ItemBefore (most : ℕ) (ts : List Lexeme) (i : Item) (rest : List Lexeme) : Type 0 where
  pub front : List Lexeme
  pub parts : Cut ts front (rest)
  pub spells : SpellsItem front i
  pub low : height_of_item i ≤ most
  pub some : 0 < length front

function_spelled : {most : ℕ} {ts rest : List Lexeme} {f : Function} → ReadsFunction most ts f rest → ItemBefore (1 + most) ts (Define f) rest
function_spelled {most} {ts} {rest} {f} r =
    let mark = optional_mark_spelled ts f.directive r.reads_mark in
    let words = specifiers_spelled r.reads_specifiers in
    let stars = stars_spelled r.behind f.stars r.reads_head.reads_stars in
    let name = r.reads_head.reads_name.word in
    let opening = r.opens in
    let list = parameters_spelled most r.inside f.parameters r.reads_parameters in
    let body = body_spelled most r.next f.body r.reads_body in
    let behind = words.front ++ (stars.front ++ name.token ∷ (opening.token ∷ (list.front ++ list.token ∷ body.front))) in
    let parts : Cut r.start behind rest =
    followed words.parts (followed stars.parts (led name.token name.parts (led opening.token opening.parts (followed list.parts (led list.token refl body.parts))))) in
    let some = some_front words.front (stars.front ++ name.token ∷ (opening.token ∷ (list.front ++ list.token ∷ body.front))) (some_words words.spells) in
    let whole : Cut ts (mark.front ++ behind) rest = followed mark.parts parts in
    let a = list.low in
    let b = body.low in
    record {
      front = mark.front ++ behind;
      parts = whole;
      spells = record {
        directive = mark.front;
        rest = behind;
        specifiers = words.front;
        stars = stars.front;
        parameters = list.front;
        body = body.front;
        begins = (_, refl, refl);
        parts = (_, refl, (_, refl, (name.token, _, refl, name.is, (opening.token, _, refl, opening.is, (_, refl, (list.token, _, refl, list.is, refl))))));
        line_is = front_line parts some r.line_is;
        end_is = sym (ap last_line (front_read (mark.front ++ behind) rest whole.parts)) ∙ r.end_is;
        spells_directive = mark.spells;
        spells_specifiers = words.spells;
        spells_stars = stars.spells;
        named = r.reads_head.reads_name.named;
        spells_parameters = list.spells;
        spells_body = body.spells;
      };
      low = omega arith;
      some = some_behind_front mark.front behind some;
    }

-- what stands before a function's parameters
pub before_parameters : {ts start behind rest : List Lexeme} {line declared : ℕ} {all : List Specifier} {signs : Stars} {name : List ℕ} (m : Option Mark) → ReadsOptionalMark ts m start → ReadsFront start line declared all signs name behind
    → Next (Punctuator (codes "(")) behind rest → (front : List Lexeme) × (ts ≡ front ++ rest)
before_parameters {ts} {rest = rest} {signs = signs} m r front opening =
    let mark = optional_mark_spelled ts m r in
    let words = specifiers_spelled front.reads_specifiers in
    let stars = stars_spelled front.behind signs front.reads_head.reads_stars in
    let name = front.reads_head.reads_name.word in
    let parts = followed mark.parts (followed words.parts (followed stars.parts (led name.token name.parts (one_before opening.parts)))) in
    (mark.front ++ (words.front ++ (stars.front ++ name.token ∷ (opening.token ∷ []))), parts.parts)

pub item_spelled : (most : ℕ) (ts : List Lexeme) (i : Item) {rest : List Lexeme} → ReadsItem most ts i rest → ItemBefore most ts i rest
item_spelled most ts (Define f) (some, r) = (let x = function_spelled r in let low = x.low in record { front = x.front; parts = x.parts; spells = x.spells; low = omega arith; some = x.some })
item_spelled most ts (Declare d) (some, r) = (let x = declaration_spelled r in let low = x.low in record { front = x.front; parts = x.parts; spells = x.spells; low = omega arith; some = x.some })

-- A front of the tokens spells the items, and the rest follows.
pub record SpelledBefore (ts : List Lexeme) (is : Tree) (rest : List Lexeme) : Type 0 where
  pub front : List Lexeme
  pub parts : Cut ts front (rest)
  pub spells : Spells front is

pub items_spelled : (is : Tree) (ts rest : List Lexeme) → ReadsItems ts is rest → SpelledBefore ts is rest
items_spelled [] ts rest r = record { front = []; parts = none_before r; spells = record { spelled = refl; low = omega arith } }
items_spelled (i ∷ is) ts rest (next, r, more) =
    let here = item_spelled 500 ts i r in
    let others = items_spelled is next rest more in
    let a = here.low in
    let b = others.spells.low in
    record {
      front = here.front ++ others.front;
      parts = followed here.parts others.parts;
      spells = record { spelled = (here.front, others.front, (_, refl, refl), here.spells, others.spells.spelled); low = omega arith };
    }

pub item_shorter : (most : ℕ) (ts : List Lexeme) (i : Item) (rest : List Lexeme) → ReadsItem most ts i rest → length rest < length ts
item_shorter most ts i rest r =
    let x = item_spelled most ts i r in
    let some = x.some in
    omega (arith, ap length x.parts.parts, length-append x.front rest)

pub items_no_longer : (is : Tree) (ts rest : List Lexeme) → ReadsItems ts is rest → length rest ≤ length ts
items_no_longer [] ts rest e = (let l = ap length e in omega arith)
items_no_longer (i ∷ is) ts rest (next, r, more) = (let a = item_shorter 500 ts i next r in let b = items_no_longer is next rest more in omega arith)

pub one_items : (is js : Tree) (ts rest : List Lexeme) → ReadsItems ts is rest → ReadsItems ts js rest → is ≡ js
one_items [] [] ts rest a b = refl
one_items [] (j ∷ js) ts rest a (next, r, more) = (let l = ap length a in let m = item_shorter 500 ts j next r in let n = items_no_longer js next rest more in absurd (omega arith))
one_items (i ∷ is) [] ts rest (next, r, more) b = (let l = ap length b in let m = item_shorter 500 ts i next r in let n = items_no_longer is next rest more in absurd (omega arith))
one_items (i ∷ is) (j ∷ js) ts rest (next, r, more) (next', r', more') =
    let first = one_item 500 ts i j r r' in
    let others = one_items is js next rest more (subst (λ l. ReadsItems l js rest) (sym first.1) more') in
    ap₂ ◌∷◌ first.0 others
