-- Items that are spelled are read.
use Rattle.std.proofs.Common.{◌≡◌, ◌⊎◌, ℕ, ◌+◌, ◌-◌, ◌<◌, ◌≤◌, max, List, [], ◌∷◌, ◌++◌, length, codes, Option, Some, None, refl, sym, ap, ◌∙◌, subst, inl, inr, arith, append_assoc, append-nil}
use Rattle.std.proofs.lemmas.List.{length-append}
use Rattle.css_base.specs.Tokens as tokens
use Rattle.css_base.specs.Tokens.{Kind, Word, Punctuator, Lexeme}
use Rattle.css_tree.specs.declared.scope.Scope.TheVariants as scopes
use Rattle.css_tree.specs.declared.words.Specifier.TheVariants as specifiers
use Rattle.css_tree.specs.Syntax as tree
use Rattle.css_tree.specs.Syntax.{Stars, Dimensions, Mark, Parameter, Parameters, Empty, VoidAlone, Listed, Body, Function, Item, Define, Declare, Tree}
use Rattle.css_tree.specs.TokenParts.{kind_at, first_line, last_line, These, mark, word, Are}
use Rattle.css_tree.specs.Words.{specifier_kind, SpellsSpecifiers, SpellsStars}
use Rattle.css_tree.specs.Declarations.{SpellsBehindCommas, SpellsBetweenCommas, SpellsDimensions}
use Rattle.css_tree.specs.Items.{SpellsOptionalName, SpellsParameter, SpellsParameters, SpellsOptionalMark, SpellsBody, SpellsFunction, SpellsItem, SpellsProgram}
use Rattle.css_tree.specs.Heights.{height_of_dimensions, height_of_parameters, height_of_list, height_of_body, height_of_item, height_of_tree}
use Rattle.css_parse.specs.Fronts.{Next}
use Rattle.css_parse.specs.Refusals.{Spells}
use Rattle.css_parse.specs.Words.{next_specifier, specifier_of, next_qualifier, qualifier_of, ReadsSpecifiers, ReadsStars}
use Rattle.css_parse.specs.Readings.{IsNoNext, ReadsName, ReadsMark, ReadsEntries}
use Rattle.css_parse.specs.ItemReadings.{ReadsOptionalName, ReadsParameter, ReadsFurtherParameters, ReadsVoid, ReadsListed, ReadsParameters, ReadsBody, ReadsOptionalMark, ReadsFunction, ReadsItem, ReadsItems}
use Rattle.css_parse.proofs.FrontTokens.{one_kind, differ, apart, same_fronts}
use Rattle.css_parse.proofs.WordTexts.{specifier_read}
use Rattle.css_parse.proofs.Ends.{front_read}
use Rattle.css_parse.proofs.OneItem.{one_parameter, one_item}
use Rattle.css_parse.proofs.Sound.{one_items}
use Rattle.css_parse.proofs.SoundDeclaration.{some_words, some_front}
use Rattle.css_parse.proofs.CompleteDeclaration.{next_is, other_next, specifiers_read, stars_read, IsBehindStars, name_next, dimensions_read, no_specifier_stars, first_line_front}
use Rattle.css_parse.proofs.CompleteStatement.{SpecifierFirst, specifiers_first, declaration_read, mark_read, entries_read}

-- ---- items

body_read : (most : ℕ) (ts : List Lexeme) (body : Option Body) (rest : List Lexeme) → SpellsBody ts body → height_of_body body ≤ most → ReadsBody most (ts ++ rest) body rest
body_read most ts None rest (c, r, e, is, last) low = subst (λ l. Next (Punctuator (codes ";")) (l ++ rest) rest) (sym (e ∙ ap (λ l. c ∷ l) last)) (next_is c rest is)
body_read most ts (Some body) rest (us, (o, r, e, opens, (r2, e2, (c, r3, e3, closes, last))), line_is, s) low =
    let inner : ts ≡ o ∷ (us ++ c ∷ []) = e ∙ ap (λ l. o ∷ l) (e2 ∙ ap (λ l. us ++ l) (e3 ∙ ap (λ l. c ∷ l) last)) in
    let whole : ts ++ rest ≡ o ∷ (us ++ c ∷ rest) = ap (λ l. l ++ rest) inner ∙ ap (λ l. o ∷ l) (append_assoc us (c ∷ []) rest) in
    (us ++ c ∷ rest, omega arith, record { token = o; parts = whole; is = opens }, ap first_line whole ∙ sym (ap first_line e) ∙ line_is, entries_read (most - 1) us body.entries c rest closes s (omega arith))

-- what may follow a parameter
abbrev IsParameterEnd : Kind → Type 0
IsParameterEnd kind = (kind ≡ Punctuator (codes ",")) ⊎ (kind ≡ Punctuator (codes ")"))

end_is_not : (t : Lexeme) (rest : List Lexeme) (other : Kind) → (Punctuator (codes ",") ≡ other → ⊥) → (Punctuator (codes ")") ≡ other → ⊥) → IsParameterEnd (kind_at t) → IsNoNext other (t ∷ rest)
end_is_not t rest other a b (inl e) = other_next t rest other e a
end_is_not t rest other a b (inr e) = other_next t rest other e b

-- a punctuator that is no star is next
record MarkFirst (ts : List Lexeme) : Type 0 where
  pub token : Lexeme
  pub rest : List Lexeme
  pub bytes : List ℕ
  pub parts : ts ≡ token ∷ rest
  pub is : kind_at token ≡ Punctuator bytes
  pub no_star : Punctuator bytes ≡ Punctuator (codes "*") → ⊥

sizes_first : (ts : List Lexeme) (sizes : Dimensions) (t : Lexeme) (rest : List Lexeme) → IsParameterEnd (kind_at t) → SpellsDimensions scopes.File ts sizes → MarkFirst (ts ++ t ∷ rest)
sizes_first ts [] t rest (inl is) s = record { token = t; rest = rest; bytes = codes ","; parts = ap (λ l. l ++ t ∷ rest) s; is = is; no_star = differ _ _ refl }
sizes_first ts [] t rest (inr is) s = record { token = t; rest = rest; bytes = codes ")"; parts = ap (λ l. l ++ t ∷ rest) s; is = is; no_star = differ _ _ refl }
sizes_first ts (size ∷ sizes) t rest end (us, vs, (o, r, e, is, a), s, more) = record { token = o; rest = r ++ t ∷ rest; bytes = codes "["; parts = ap (λ l. l ++ t ∷ rest) e; is = is; no_star = differ _ _ refl }

-- neither a star nor a word of a type is next
record TypeEnd (ts : List Lexeme) : Type 0 where
  pub behind_stars : IsBehindStars ts
  pub no_specifier : next_specifier scopes.File ts ≡ None

mark_end : (ts : List Lexeme) → MarkFirst ts → TypeEnd ts
mark_end ts m = record {
  behind_stars = record { no_star = subst (IsNoNext (Punctuator (codes "*"))) (sym m.parts) (other_next m.token m.rest (Punctuator (codes "*")) m.is m.no_star); no_qualifier = ap next_qualifier m.parts ∙ ap qualifier_of m.is };
  no_specifier = ap (next_specifier scopes.File) m.parts ∙ ap (specifier_of scopes.File) m.is;
}

name_end : (ts : List Lexeme) (name : Option (List ℕ)) (rest : List Lexeme) → SpellsOptionalName ts name → MarkFirst rest → TypeEnd (ts ++ rest)
name_end ts None rest s m = subst (λ l. TypeEnd (l ++ rest)) (sym s) (mark_end rest m)
name_end ts (Some name) rest ((t, r, e, is, last), named) m =
    subst (λ l. TypeEnd (l ++ rest)) (sym (e ∙ ap (λ l. t ∷ l) last)) (record { behind_stars = name_next t rest is named; no_specifier = no_specifier_stars scopes.File [] [] t rest refl is named })

stars_end : (ts : List Lexeme) (stars : Stars) (rest : List Lexeme) → SpellsStars ts stars → next_specifier scopes.File rest ≡ None → next_specifier scopes.File (ts ++ rest) ≡ None
stars_end [] [] rest s none = none
stars_end (t ∷ ts) [] rest s none = absurd cc
stars_end [] (star ∷ stars) rest s none = absurd cc
stars_end (t ∷ ts) (star ∷ stars) rest s none = (let kind : kind_at t ≡ Punctuator (codes "*") = cc in ap (specifier_of scopes.File) kind)

optional_name_read : (ts : List Lexeme) (name : Option (List ℕ)) (rest : List Lexeme) → SpellsOptionalName ts name → MarkFirst rest → ReadsOptionalName (ts ++ rest) name rest
optional_name_read ts None rest s m =
    (ap (λ l. l ++ rest) s, λ name behind r. (let n = r.word in let p = m.parts in let q = n.parts in let f = ap (λ l. l ++ rest) s in let token : m.token ≡ n.token = cc in let kinds : Punctuator m.bytes ≡ Word name = sym m.is ∙ ap kind_at token ∙ n.is in absurd cc))
optional_name_read ts (Some name) rest ((t, r, e, is, last), named) m =
    subst (λ l. ReadsName (l ++ rest) name rest) (sym (e ∙ ap (λ l. t ∷ l) last)) (record { word = next_is t rest is; named = named })

parameter_read : (most : ℕ) (ts : List Lexeme) (p : Parameter) (t : Lexeme) (rest : List Lexeme) → IsParameterEnd (kind_at t) → SpellsParameter ts p → height_of_dimensions p.dimensions ≤ most → ReadsParameter most (ts ++ t ∷ rest) p (t ∷ rest)
parameter_read most ts p t rest end s low = by s.parts
  where
    by : Are ts (These s.specifiers ∷ These s.stars ∷ These s.name ∷ These s.dimensions ∷ []) → ReadsParameter most (ts ++ t ∷ rest) p (t ∷ rest)
    by (r1, e1, (r2, e2, (r3, e3, e4))) =
        let behind = s.dimensions ++ t ∷ rest in
        let inner : ts ≡ s.specifiers ++ (s.stars ++ (s.name ++ s.dimensions)) = e1 ∙ ap (λ l. s.specifiers ++ l) (e2 ∙ ap (λ l. s.stars ++ l) (e3 ∙ ap (λ l. s.name ++ l) e4)) in
        let whole : ts ++ t ∷ rest ≡ s.specifiers ++ (s.stars ++ (s.name ++ behind)) =
        ap (λ l. l ++ t ∷ rest) inner ∙ append_assoc s.specifiers (s.stars ++ (s.name ++ s.dimensions)) (t ∷ rest)
        ∙ ap (λ l. s.specifiers ++ l) (append_assoc s.stars (s.name ++ s.dimensions) (t ∷ rest) ∙ ap (λ l. s.stars ++ l) (append_assoc s.name s.dimensions (t ∷ rest))) in
        let first = sizes_first s.dimensions p.dimensions t rest end s.spells_dimensions in
        let ends = name_end s.name p.name behind s.spells_name first in
        let some : 0 < length ts = subst (λ l. 0 < length l) (sym inner) (some_front s.specifiers (s.stars ++ (s.name ++ s.dimensions)) (some_words s.spells_specifiers)) in
        record {
          behind = s.stars ++ (s.name ++ behind);
          middle = s.name ++ behind;
          next = behind;
          line_is = first_line_front ts (t ∷ rest) some ∙ s.line_is;
          reads_specifiers = subst (λ l. ReadsSpecifiers scopes.File l p.specifiers (s.stars ++ (s.name ++ behind))) (sym whole)
              (specifiers_read (s.stars ++ (s.name ++ behind)) s.spells_specifiers (stars_end s.stars p.stars (s.name ++ behind) s.spells_stars ends.no_specifier));
          reads_stars = stars_read s.stars p.stars (s.name ++ behind) s.spells_stars ends.behind_stars;
          reads_name = optional_name_read s.name p.name behind s.spells_name first;
          reads_dimensions = dimensions_read scopes.File most s.dimensions p.dimensions (t ∷ rest) s.spells_dimensions low (end_is_not t rest (Punctuator (codes "[")) (differ (codes ",") (codes "[") refl) (differ (codes ")") (codes "[") refl) end);
        }

record ParameterEnding (ts : List Lexeme) : Type 0 where
  pub token : Lexeme
  pub rest : List Lexeme
  pub parts : ts ≡ token ∷ rest
  pub is : IsParameterEnd (kind_at token)

behind_parameter : (ts : List Lexeme) (ps : List Parameter) (c : Lexeme) (rest : List Lexeme) → kind_at c ≡ Punctuator (codes ")") → SpellsBehindCommas SpellsParameter ts ps → ParameterEnding (ts ++ c ∷ rest)
behind_parameter ts [] c rest is s = record { token = c; rest = rest; parts = ap (λ l. l ++ c ∷ rest) s; is = inr is }
behind_parameter ts (p ∷ ps) c rest is (us, vs, (o, r1, e1, comma, a), s, more) = record { token = o; rest = r1 ++ c ∷ rest; parts = ap (λ l. l ++ c ∷ rest) e1; is = inl comma }

further_read : (most : ℕ) (ts : List Lexeme) (ps : List Parameter) (c : Lexeme) (rest : List Lexeme) → kind_at c ≡ Punctuator (codes ")") → SpellsBehindCommas SpellsParameter ts ps → height_of_parameters ps ≤ most → ReadsFurtherParameters most (ts ++ c ∷ rest) ps rest
further_read most ts [] c rest is s low = subst (λ l. Next (Punctuator (codes ")")) (l ++ c ∷ rest) rest) (sym s) (next_is c rest is)
further_read most ts (p ∷ ps) c rest is (us, vs, (o, r1, e1, comma, (r2, e2, e3)), s, more) low =
    let end = behind_parameter vs ps c rest is more in
    let others = further_read most vs ps c rest is more (omega arith) in
    let here = parameter_read most us p end.token end.rest end.is s (omega arith) in
    let whole : ts ++ c ∷ rest ≡ o ∷ (us ++ (vs ++ c ∷ rest)) = ap (λ l. l ++ c ∷ rest) (e1 ∙ ap (λ l. o ∷ l) (e2 ∙ ap (λ l. us ++ l) e3)) ∙ ap (λ l. o ∷ l) (append_assoc us vs (c ∷ rest)) in
    subst (λ l. ReadsFurtherParameters most l (p ∷ ps) rest) (sym whole)
    (us ++ (vs ++ c ∷ rest), vs ++ c ∷ rest, next_is o _ comma, subst (λ l. ReadsParameter most (us ++ l) p l) (sym end.parts) here, others)

-- a parameter begins with a specifier
parameter_first : (us : List Lexeme) (p : Parameter) (rest : List Lexeme) → SpellsParameter us p → SpecifierFirst (us ++ rest)
parameter_first us p rest s = by s.parts
  where
    by : Are us (These s.specifiers ∷ These s.stars ∷ These s.name ∷ These s.dimensions ∷ []) → SpecifierFirst (us ++ rest)
    by (r1, e1, a) =
        subst SpecifierFirst (sym (ap (λ l. l ++ rest) e1 ∙ append_assoc s.specifiers r1 rest)) (specifiers_first scopes.File s.specifiers p.specifiers (r1 ++ rest) s.spells_specifiers.some s.spells_specifiers.words)

-- `void` as a parameter, which a closing parenthesis ends
abbrev void_parameter : ℕ → Parameter
void_parameter line = record { line = line; specifiers = specifiers.Void ∷ []; stars = []; name = None; dimensions = [] }

void_read : (most : ℕ) (ts next behind : List Lexeme) → Next (Word (codes "void")) ts next → Next (Punctuator (codes ")")) next behind → ReadsParameter most ts (void_parameter (first_line ts)) next
void_read most ts next behind n z =
    let first : MarkFirst next = record { token = z.token; rest = behind; bytes = codes ")"; parts = z.parts; is = z.is; no_star = differ _ _ refl } in
    let ends = mark_end next first in
    record {
      behind = next;
      middle = next;
      next = next;
      line_is = refl;
      reads_specifiers = record { some = omega arith; takes = (next, record { token = n.token; parts = n.parts; is = specifier_read scopes.File (kind_at n.token) specifiers.Void n.is tt }, (refl, ends.no_specifier)) };
      reads_stars = (refl, ends.behind_stars.no_star);
      reads_name = optional_name_read [] None next refl first;
      reads_dimensions = (refl, λ other m. apart z m refl);
    }

-- A list of parameters that is no `void` alone isn't read so: a closing parenthesis behind `void` would end the list there.
not_void_listed : (us : List Lexeme) (p : Parameter) (vs : List Lexeme) (ps : List Parameter) (c : Lexeme) (rest : List Lexeme) {ts behind : List Lexeme} {most : ℕ} → ts ≡ us ++ vs → kind_at c ≡ Punctuator (codes ")") → SpellsParameter us p
    → SpellsBehindCommas SpellsParameter vs ps → (Are ts (word (codes "void") ∷ []) → ⊥) → ReadsParameter most (us ++ (vs ++ c ∷ rest)) p (vs ++ c ∷ rest) → ReadsVoid (ts ++ c ∷ rest) behind → ⊥
not_void_listed us p vs ps c rest {ts} {behind} {most} parts is s more none r (next, n, z) =
    let whole : ts ++ c ∷ rest ≡ us ++ (vs ++ c ∷ rest) = ap (λ l. l ++ c ∷ rest) parts ∙ append_assoc us vs (c ∷ rest) in
    let same = one_parameter r (subst (λ l. ReadsParameter most l (void_parameter (first_line (ts ++ c ∷ rest))) next) whole (void_read most (ts ++ c ∷ rest) next behind n z)) in
    let fronts = same_fronts us (n.token ∷ []) next next (ap (λ l. us ++ l) (sym same.1) ∙ sym whole ∙ n.parts) (let l = ap length (ap (λ l. us ++ l) (sym same.1) ∙ sym whole ∙ n.parts) in omega (arith, length-append us next)) in
    let last = no_more vs ps more same.1 in
    none (n.token, [], parts ∙ ap (λ l. us ++ l) last ∙ append-nil us ∙ fronts.0, n.is, refl)
  where
    no_more : (vs : List Lexeme) (ps : List Parameter) → SpellsBehindCommas SpellsParameter vs ps → vs ++ c ∷ rest ≡ next → vs ≡ []
    no_more vs [] e same = e
    no_more vs (p ∷ ps) (xs, ys, (o, r1, e1, comma, a), s, more) same =
        absurd (apart (record { token = o; parts = sym same ∙ ap (λ l. l ++ c ∷ rest) e1; is = comma }) z refl)

parameters_read : (most : ℕ) (ts : List Lexeme) (all : Parameters) (c : Lexeme) (rest : List Lexeme) → kind_at c ≡ Punctuator (codes ")") → SpellsParameters ts all → height_of_list all ≤ most → ReadsParameters most (ts ++ c ∷ rest) all rest
parameters_read most ts Empty c rest is s low = subst (λ l. Next (Punctuator (codes ")")) (l ++ c ∷ rest) rest) (sym s) (next_is c rest is)
parameters_read most ts VoidAlone c rest is (t, r, e, void, last) low = subst (λ l. ReadsVoid (l ++ c ∷ rest) rest) (sym (e ∙ ap (λ l. t ∷ l) last)) (c ∷ rest, next_is t (c ∷ rest) void, next_is c rest is)
parameters_read most ts (Listed []) c rest is s low = absurd s.0
parameters_read most ts (Listed (p ∷ ps)) c rest is ((us, vs, (r1, e1, e2), s, more), none) low =
    let end = behind_parameter vs ps c rest is more in
    let others = further_read most vs ps c rest is more (omega arith) in
    let here = parameter_read most us p end.token end.rest end.is s (omega arith) in
    let parts : ts ≡ us ++ vs = e1 ∙ ap (λ l. us ++ l) e2 in
    let whole : ts ++ c ∷ rest ≡ us ++ (vs ++ c ∷ rest) = ap (λ l. l ++ c ∷ rest) parts ∙ append_assoc us vs (c ∷ rest) in
    let read = subst (λ l. ReadsParameter most (us ++ l) p l) (sym end.parts) here in
    (λ behind void. not_void_listed us p vs ps c rest parts is s more none read void, (vs ++ c ∷ rest, subst (λ l. ReadsParameter most l p (vs ++ c ∷ rest)) (sym whole) read, others))

-- a directive is no specifier
optional_mark_read : (ts : List Lexeme) (m : Option Mark) (rest : List Lexeme) → SpellsOptionalMark ts m → SpecifierFirst rest → ReadsOptionalMark (ts ++ rest) m rest
optional_mark_read ts None rest s first =
    (ap (λ l. l ++ rest) s, λ m behind r. (let n = r.next in let p = first.parts in let q = n.parts in let f = ap (λ l. l ++ rest) s in let token : first.token ≡ n.token = cc in let kinds : specifier_kind first.specifier ≡ tokens.Directive m.words = sym first.is ∙ ap kind_at token ∙ n.is in absurd cc))
optional_mark_read ts (Some m) rest s first = mark_read ts m rest s

function_read : (most : ℕ) (ts : List Lexeme) (f : Function) (rest : List Lexeme) → SpellsFunction ts f → height_of_item (Define f) ≤ 1 + most → ReadsFunction most (ts ++ rest) f rest
function_read most ts f rest s low = by s.begins s.parts
  where
    by : Are ts (These s.directive ∷ These s.rest ∷ []) → Are s.rest (These s.specifiers ∷ These s.stars ∷ word f.name ∷ mark (codes "(") ∷ These s.parameters ∷ mark (codes ")") ∷ These s.body ∷ []) → ReadsFunction most (ts ++ rest) f rest
    by (b1, d1, d2) (r1, e1, (r2, e2, (w, r3, e3, named, (o, r4, e4, opens, (r5, e5, (c, r6, e6, closes, e7)))))) =
        let behind = s.body ++ rest in
        let inside = s.parameters ++ c ∷ behind in
        let start : s.rest ++ rest ≡ s.specifiers ++ (s.stars ++ w ∷ (o ∷ inside)) =
        ap (λ l. l ++ rest) (e1 ∙ ap (λ l. s.specifiers ++ l) (e2 ∙ ap (λ l. s.stars ++ l) (e3 ∙ ap (λ l. w ∷ l) (e4 ∙ ap (λ l. o ∷ l) (e5 ∙ ap (λ l. s.parameters ++ l) (e6 ∙ ap (λ l. c ∷ l) e7))))))
        ∙ append_assoc s.specifiers (s.stars ++ w ∷ (o ∷ (s.parameters ++ c ∷ s.body))) rest
        ∙ ap (λ l. s.specifiers ++ l) (append_assoc s.stars (w ∷ (o ∷ (s.parameters ++ c ∷ s.body))) rest ∙ ap (λ l. s.stars ++ w ∷ (o ∷ l)) (append_assoc s.parameters (c ∷ s.body) rest)) in
        let whole : ts ++ rest ≡ s.directive ++ (s.rest ++ rest) = ap (λ l. l ++ rest) (d1 ∙ ap (λ l. s.directive ++ l) d2) ∙ append_assoc s.directive s.rest rest in
        let first = subst SpecifierFirst (sym start) (specifiers_first scopes.File s.specifiers f.specifiers (s.stars ++ w ∷ (o ∷ inside)) s.spells_specifiers.some s.spells_specifiers.words) in
        let some : 0 < length s.rest = subst (λ l. 0 < length l) (sym e1) (some_front s.specifiers r1 (some_words s.spells_specifiers)) in
        record {
          start = s.rest ++ rest;
          behind = s.stars ++ w ∷ (o ∷ inside);
          middle = o ∷ inside;
          inside = inside;
          next = behind;
          reads_mark = subst (λ l. ReadsOptionalMark l f.directive (s.rest ++ rest)) (sym whole) (optional_mark_read s.directive f.directive (s.rest ++ rest) s.spells_directive first);
          line_is = first_line_front s.rest rest some ∙ s.line_is;
          reads_specifiers = subst (λ l. ReadsSpecifiers scopes.File l f.specifiers (s.stars ++ w ∷ (o ∷ inside))) (sym start)
              (specifiers_read (s.stars ++ w ∷ (o ∷ inside)) s.spells_specifiers (no_specifier_stars scopes.File s.stars f.stars w (o ∷ inside) s.spells_stars named s.named));
          reads_head = record {
            behind = w ∷ (o ∷ inside);
            reads_stars = stars_read s.stars f.stars (w ∷ (o ∷ inside)) s.spells_stars (name_next w (o ∷ inside) named s.named);
            reads_name = record { word = next_is w (o ∷ inside) named; named = s.named };
          };
          opens = next_is o inside opens;
          reads_parameters = parameters_read most s.parameters f.parameters c behind closes s.spells_parameters (omega arith);
          reads_body = body_read most s.body f.body rest s.spells_body (omega arith);
          end_is = ap last_line (front_read ts rest refl) ∙ s.end_is;
        }

pub item_read : (most : ℕ) (ts : List Lexeme) (i : Item) (rest : List Lexeme) → SpellsItem ts i → height_of_item i ≤ most → ReadsItem most (ts ++ rest) i rest
item_read most ts (Declare d) rest s low = (omega arith, declaration_read scopes.File (most - 1) ts d rest s (omega arith))
item_read most ts (Define f) rest s low = (omega arith, function_read (most - 1) ts f rest s (omega arith))

pub items_read : (is : Tree) (ts rest : List Lexeme) → Spells ts is → ReadsItems (ts ++ rest) is rest
items_read is ts rest s = by is ts s.spelled s.low
  where
    by : (is : Tree) (ts : List Lexeme) → SpellsProgram ts is → height_of_tree is ≤ 500 → ReadsItems (ts ++ rest) is rest
    by [] ts e low = ap (λ l. l ++ rest) e
    by (i ∷ is) ts (us, vs, (r, e, e2), s, more) low =
        let whole : ts ++ rest ≡ us ++ (vs ++ rest) = ap (λ l. l ++ rest) (e ∙ ap (λ l. us ++ l) e2) ∙ append_assoc us vs rest in
        (vs ++ rest, subst (λ l. ReadsItem 500 l i (vs ++ rest)) (sym whole) (item_read 500 us i (vs ++ rest) s (omega arith)), by is vs more (omega arith))

pub one_tree : (ts : List Lexeme) (is js : Tree) → Spells ts is → Spells ts js → is ≡ js
one_tree ts is js a b = one_items is js (ts ++ []) [] (items_read is ts [] a) (items_read js ts [] b)

pub items_end : (us vs xs ys : List Lexeme) (i j : Item) → SpellsItem us i → SpellsItem vs j → height_of_item i ≤ 500 → height_of_item j ≤ 500 → us ++ xs ≡ vs ++ ys → (us ≡ vs) × (i ≡ j)
items_end us vs xs ys i j a b low high e =
    let same = one_item 500 (us ++ xs) i j (item_read 500 us i xs a low) (subst (λ l. ReadsItem 500 l j ys) (sym e) (item_read 500 vs j ys b high)) in
    let size = ap length e in
    let rest = ap length same.1 in
    ((same_fronts us vs xs ys e (omega (arith, length-append us xs, length-append vs ys))).0, same.0)
