-- Declarations that are spelled are read.
use Rattle.std.proofs.Common.{◌≡◌, ◌⊎◌, ℕ, ◌+◌, ◌-◌, ◌<◌, ◌≤◌, max, Bool, true, false, List, [], ◌∷◌, ◌++◌, length, map, All, codes, Option, Some, None, bytes_eq, refl, sym, ap, ◌∙◌, subst, inl, inr, arith, append_assoc}
use Rattle.std.proofs.lemmas.Bool.{false≢true}
use Rattle.std.proofs.lemmas.List.Elements.{All-head, All-tail}
use Rattle.css_base.specs.Tokens as tokens
use Rattle.css_base.specs.Tokens.{Kind, Word, Punctuator, Lexeme, At}
use Rattle.css_tree.specs.declared.scope.Scope.{Scope}
use Rattle.css_tree.specs.declared.scope.Scope.TheVariants as scopes
use Rattle.css_tree.specs.declared.words.Specifier.{Specifier}
use Rattle.css_tree.specs.declared.words.Qualifier.{Qualifier}
use Rattle.css_tree.specs.declared.words.Qualifier.TheVariants as qualifiers
use Rattle.css_tree.specs.Syntax as tree
use Rattle.css_tree.specs.Syntax.{Stars, Expression, Dimensions, Initialiser, Value, String, Braces, Initialisers, NoParts, MoreParts, Declarator, Declaration}
use Rattle.css_tree.specs.TokenParts.{kind_at, line_of, kinds, first_line, One, These, mark, word, Are}
use Rattle.css_tree.specs.Words.{specifier_kind, IsAllowed, IsName, is_keyword, SpellsSpecifiers, qualifier_text, qualifier_kind, stars_kinds, SpellsStars}
use Rattle.css_tree.specs.Expressions as spelled
use Rattle.css_tree.specs.Expressions.{SpellsExpression}
use Rattle.css_tree.specs.Declarations.{SpellsOptional, SpellsDimensions, IsStringAlone, SpellsInitialiser, SpellsParts, SpellsFurtherParts, SpellsInitial, SpellsDeclarator, SpellsBehindCommas, SpellsBetweenCommas, SpellsDeclaration}
use Rattle.css_tree.specs.Heights.{height, height_of_optional, height_of_dimensions, height_of_initialiser, height_of_parts, height_of_initial, height_of_declarator, height_of_declarators, height_of_declaration}
use Rattle.css_pexpr.specs.declared.level.Level.{Level}
use Rattle.css_pexpr.specs.declared.level.Level.TheVariants as levels
use Rattle.css_pexpr.specs.Longest.{level_number}
use Rattle.css_parse.specs.Fronts.{Next}
use Rattle.css_parse.specs.Words.{next_specifier, specifier_of, TakesSpecifiers, ReadsSpecifiers, next_qualifier, qualifier_of, TakesQualifiers, ReadsStars}
use Rattle.css_parse.specs.Readings as reads
use Rattle.css_parse.specs.Readings.{IsNoNext, ReadsExpression, ReadsOptional, ReadsCondition, ReadsDimensions, valued, ReadsInitialiser, ReadsParts, ReadsFurtherParts, ReadsInitial, ReadsName, ReadsHead, ReadsTail, ReadsDeclarator, ReadsFurtherDeclarators, ReadsDeclarators, ReadsDeclaration}
use Rattle.css_parse.proofs.FrontTokens.{differ}
use Rattle.css_parse.proofs.WordTexts.{specifier_read, qualifier_is, qualifier_read}
use Rattle.css_parse.proofs.Walks.{IsStop, longest_before}
use Rattle.css_parse.proofs.Begins.{IsStart, Begun, begun, begun_before, not_next, no_specifier_begun}

-- ---- tokens

pub next_is : {kind : Kind} (t : Lexeme) (rest : List Lexeme) → kind_at t ≡ kind → Next kind (t ∷ rest) rest
next_is t rest is = record { token = t; parts = refl; is = is }

pub other_next : {kind : Kind} (t : Lexeme) (rest : List Lexeme) (other : Kind) → kind_at t ≡ kind → (kind ≡ other → ⊥) → IsNoNext other (t ∷ rest)
other_next t rest other is different behind n = different (sym is ∙ (let p = n.parts in let token : t ≡ n.token = cc in ap kind_at token ∙ n.is))

pub other_mark : {bytes : List ℕ} (t : Lexeme) (rest : List Lexeme) (other : List ℕ) → kind_at t ≡ Punctuator bytes → bytes_eq bytes other ≡ false → IsNoNext (Punctuator other) (t ∷ rest)
other_mark {bytes} t rest other is different = other_next t rest (Punctuator other) is (differ bytes other different)

-- ---- words

specifiers_taken : (scope : Scope) (ts : List Lexeme) (all : List Specifier) (rest : List Lexeme) → kinds ts ≡ map specifier_kind all → All (IsAllowed scope) all → next_specifier scope rest ≡ None → TakesSpecifiers scope (ts ++ rest) all rest
specifiers_taken scope [] [] rest e allowed none = (refl, none)
specifiers_taken scope [] (s ∷ all) rest e allowed none = absurd cc
specifiers_taken scope (t ∷ ts) [] rest e allowed none = absurd cc
specifiers_taken scope (t ∷ ts) (s ∷ all) rest e allowed none =
    let first : kind_at t ≡ specifier_kind s = cc in
    let others : kinds ts ≡ map specifier_kind all = cc in
    (ts ++ rest, record { token = t; parts = refl; is = specifier_read scope (kind_at t) s first (All-head (IsAllowed scope) s all allowed) }, specifiers_taken scope ts all rest others (All-tail (IsAllowed scope) s all allowed) none)

pub specifiers_read : {scope : Scope} {ts : List Lexeme} {all : List Specifier} (rest : List Lexeme) → SpellsSpecifiers scope ts all → next_specifier scope rest ≡ None → ReadsSpecifiers scope (ts ++ rest) all rest
specifiers_read {scope} {ts} {all} rest s none = record { some = s.some; takes = specifiers_taken scope ts all rest s.words s.allowed none }

-- neither a star nor a qualifier is next
pub record IsBehindStars (ts : List Lexeme) : Type 0 where
  pub no_star : IsNoNext (Punctuator (codes "*")) ts
  pub no_qualifier : next_qualifier ts ≡ None

-- qualifiers and what follows them, by kinds
pub record QualifiersFirst (ts : List Lexeme) (all : List Qualifier) (others : List Kind) : Type 0 where
  pub front : List Lexeme
  pub behind : List Lexeme
  pub parts : ts ≡ front ++ behind
  pub words : kinds front ≡ map qualifier_kind all
  pub rest : kinds behind ≡ others

qualifiers_first : (ts : List Lexeme) (all : List Qualifier) (others : List Kind) → kinds ts ≡ map qualifier_kind all ++ others → QualifiersFirst ts all others
qualifiers_first ts [] others e = record { front = []; behind = ts; parts = refl; words = refl; rest = e }
qualifiers_first [] (q ∷ all) others e = absurd cc
qualifiers_first (t ∷ ts) (q ∷ all) others e =
    let first : kind_at t ≡ qualifier_kind q = cc in
    let next : kinds ts ≡ map qualifier_kind all ++ others = cc in
    let x = qualifiers_first ts all others next in
    let p = x.parts in
    let w = x.words in
    record { front = t ∷ x.front; behind = x.behind; parts = cc; words = cc; rest = x.rest }

qualifiers_taken : (ts : List Lexeme) (all : List Qualifier) (rest : List Lexeme) → kinds ts ≡ map qualifier_kind all → next_qualifier rest ≡ None → TakesQualifiers (ts ++ rest) all rest
qualifiers_taken [] [] rest e none = (refl, none)
qualifiers_taken [] (s ∷ all) rest e none = absurd cc
qualifiers_taken (t ∷ ts) [] rest e none = absurd cc
qualifiers_taken (t ∷ ts) (q ∷ all) rest e none =
    let first : kind_at t ≡ qualifier_kind q = cc in
    let others : kinds ts ≡ map qualifier_kind all = cc in
    (ts ++ rest, record { token = t; parts = refl; is = qualifier_read (kind_at t) q first }, qualifiers_taken ts all rest others none)

pub stars_read : (ts : List Lexeme) (all : Stars) (rest : List Lexeme) → SpellsStars ts all → IsBehindStars rest → ReadsStars (ts ++ rest) all rest
stars_read [] [] rest e b = (refl, b.no_star)
stars_read (t ∷ ts) [] rest e b = absurd cc
stars_read [] (star ∷ all) rest e b = absurd cc
stars_read (t ∷ ts) (star ∷ all) rest e b =
    let first : kind_at t ≡ Punctuator (codes "*") = cc in
    let others : kinds ts ≡ map qualifier_kind star ++ stars_kinds all = cc in
    let x = qualifiers_first ts star (stars_kinds all) others in
    let again = stars_read x.behind all rest x.rest b in
    let taken = qualifiers_taken x.front star (x.behind ++ rest) x.words (no_qualifier x.behind all x.rest) in
    (ts ++ rest, x.behind ++ rest, next_is t (ts ++ rest) first, subst (λ l. TakesQualifiers l star (x.behind ++ rest)) (sym (ap (λ l. l ++ rest) x.parts ∙ append_assoc x.front x.behind rest)) taken, again)
  where
    no_qualifier : (us : List Lexeme) (more : Stars) → kinds us ≡ stars_kinds more → next_qualifier (us ++ rest) ≡ None
    no_qualifier [] [] h = b.no_qualifier
    no_qualifier (u ∷ us) [] h = absurd cc
    no_qualifier [] (star ∷ more) h = absurd cc
    no_qualifier (u ∷ us) (star ∷ more) h = (let kind : kind_at u ≡ Punctuator (codes "*") = cc in ap qualifier_of kind)

-- ---- expressions

pub expression_read : {scope : Scope} {level : Level} {most : ℕ} {us : List Lexeme} {e : Expression} (t : Lexeme) (rest : List Lexeme) → IsStop level (kind_at t) → SpellsExpression scope (level_number level) us e → height e ≤ most
    → ReadsExpression scope level most (us ++ t ∷ rest) e (t ∷ rest)
expression_read t rest stop s low = record { longest = longest_before t rest stop s; low = low }

pub optional_read : (scope : Scope) (level : Level) (close : List ℕ) (most : ℕ) (us : List Lexeme) (value : Option Expression) (t : Lexeme) (rest : List Lexeme) → kind_at t ≡ Punctuator close → IsStop level (Punctuator close)
    → (IsStart (Punctuator close) → ⊥) → SpellsOptional scope (level_number level) us value → height_of_optional value ≤ most → ReadsOptional scope level close most (us ++ t ∷ rest) value rest
optional_read scope level close most us None t rest is stop start s low = subst (λ l. Next (Punctuator close) (l ++ t ∷ rest) rest) (sym s) (next_is t rest is)
optional_read scope level close most us (Some e) t rest is stop start s low =
    (t ∷ rest, not_next (Punctuator close) (begun_before (t ∷ rest) (begun s)) start, expression_read t rest (subst (IsStop level) (sym is) stop) s low, next_is t rest is)

pub condition_read : {most : ℕ} {us : List Lexeme} {e : Expression} (o c : Lexeme) (rest : List Lexeme) → kind_at o ≡ Punctuator (codes "(") → kind_at c ≡ Punctuator (codes ")") → SpellsExpression scopes.Block (level_number levels.Expr) us e → height e ≤ most
    → ReadsCondition most (o ∷ (us ++ c ∷ rest)) e rest
condition_read {us = us} o c rest opens closes s low =
    (us ++ c ∷ rest, c ∷ rest, next_is o _ opens, expression_read c rest (subst (IsStop levels.Expr) (sym closes) refl) s low, next_is c rest closes)

-- ---- declarators

pub dimensions_read : (scope : Scope) (most : ℕ) (ts : List Lexeme) (sizes : Dimensions) (rest : List Lexeme) → SpellsDimensions scope ts sizes → height_of_dimensions sizes ≤ most → IsNoNext (Punctuator (codes "[")) rest
    → ReadsDimensions scope most (ts ++ rest) sizes rest
dimensions_read scope most ts [] rest s low none = (ap (λ l. l ++ rest) s, subst (λ l. IsNoNext (Punctuator (codes "[")) (l ++ rest)) (sym s) none)
dimensions_read scope most ts (size ∷ sizes) rest (us, vs, (o, r1, e1, opens, (r2, e2, (c, r3, e3, closes, e4))), s, more) low none =
    let whole : ts ++ rest ≡ o ∷ (us ++ c ∷ (vs ++ rest)) =
    ap (λ l. l ++ rest) (e1 ∙ ap (λ l. o ∷ l) (e2 ∙ ap (λ l. us ++ l) (e3 ∙ ap (λ l. c ∷ l) e4))) ∙ ap (λ l. o ∷ l) (append_assoc us (c ∷ vs) rest) in
    let first = optional_read scope levels.Cond (codes "]") most us size c (vs ++ rest) closes refl (λ start. false≢true (sym start)) s (omega arith) in
    let others = dimensions_read scope most vs sizes rest more (omega arith) none in
    subst (λ l. ReadsDimensions scope most l (size ∷ sizes) rest) (sym whole) (us ++ c ∷ (vs ++ rest), vs ++ rest, next_is o _ opens, first, others)

-- ---- initialisers

-- what may follow an initialiser
abbrev pub IsInitialEnd : Kind → Type 0
IsInitialEnd kind = (kind ≡ Punctuator (codes ",")) ⊎ ((kind ≡ Punctuator (codes ";")) ⊎ (kind ≡ Punctuator (codes "}")))

end_stops : (kind : Kind) → IsInitialEnd kind → IsStop levels.Assign kind
end_stops kind (inl e) = subst (IsStop levels.Assign) (sym e) refl
end_stops kind (inr (inl e)) = subst (IsStop levels.Assign) (sym e) refl
end_stops kind (inr (inr e)) = subst (IsStop levels.Assign) (sym e) refl

-- where an expression is no string alone, it is a value
value_is : (scope : Scope) {level : ℕ} (us rest : List Lexeme) (e : Expression) → SpellsExpression scope level us e → (IsStringAlone us → ⊥) → Value e ≡ valued (us ++ rest) e
value_is scope us rest e s none = by us (begun s) s none
  where
    text_alone : {level : ℕ} {us : List Lexeme} {line : ℕ} {bytes other : List ℕ} {k p q : ℕ} {vs : List Lexeme} → us ≡ At (tokens.Text other) k p q ∷ vs → SpellsExpression scope level us (tree.Text line bytes) → IsStringAlone us
    text_alone parts (spelled.String bytes line a) = (bytes, a)
    text_alone {other = other} {k} {p} {q} parts (spelled.Parentheses us (o, r, first, is, a) x) =
        let token : At (tokens.Text other) k p q ≡ o = cc in
        let kind : tokens.Text other ≡ Punctuator (codes "(") = ap kind_at token ∙ is in
        absurd cc

    with_text : {level : ℕ} (us : List Lexeme) (other : List ℕ) (k p q : ℕ) (e : Expression) → SpellsExpression scope level (At (tokens.Text other) k p q ∷ us) e → (IsStringAlone (At (tokens.Text other) k p q ∷ us) → ⊥)
        → Value e ≡ valued ((At (tokens.Text other) k p q ∷ us) ++ rest) e
    with_text us other k p q (tree.Text line bytes) s none = absurd (none (text_alone refl s))
    with_text us other k p q e s none = refl

    by : {level : ℕ} (us : List Lexeme) → Begun us → SpellsExpression scope level us e → (IsStringAlone us → ⊥) → Value e ≡ valued (us ++ rest) e
    by [] b s none = (let p = b.parts in absurd cc)
    by (At (tokens.Text other) k p q ∷ us) b s none = with_text us other k p q e s none
    by (At kind k p q ∷ us) b s none = refl

string_is : (us rest : List Lexeme) (line : ℕ) (bytes : List ℕ) → Are us (One (tokens.Text bytes) ∷ []) → String line bytes ≡ valued (us ++ rest) (tree.Text line bytes)
string_is us rest line bytes (At kind k p q, r, e, is, none) =
    sym (ap (λ l. valued (l ++ rest) (tree.Text line bytes)) (e ∙ ap (λ z. At z k p q ∷ r) is))

-- tokens that begin with what may follow an initialiser
pub record Ending (ts : List Lexeme) : Type 0 where
  pub token : Lexeme
  pub rest : List Lexeme
  pub parts : ts ≡ token ∷ rest
  pub is : IsInitialEnd (kind_at token)

mutual
  pub initialiser_read : (scope : Scope) (most : ℕ) (ts : List Lexeme) (i : Initialiser) (t : Lexeme) (rest : List Lexeme) → IsInitialEnd (kind_at t) → SpellsInitialiser scope ts i → height_of_initialiser i ≤ most
      → ReadsInitialiser scope most (ts ++ t ∷ rest) i (t ∷ rest)
  initialiser_read scope most ts (Value e) t rest end (s, none) low =
      reads.Valued e (not_next (Punctuator (codes "{")) (begun_before (t ∷ rest) (begun s)) (λ start. false≢true (sym start))) (longest_before t rest (end_stops (kind_at t) end) s) (value_is scope ts (t ∷ rest) e s none) low
  initialiser_read scope most ts (String line bytes) t rest end (a, line_is) low =
      let s : SpellsExpression scope (level_number levels.Assign) ts (tree.Text line bytes) = spelled.String bytes line_is a in
      reads.Valued (tree.Text line bytes) (not_next (Punctuator (codes "{")) (begun_before (t ∷ rest) (begun s)) (λ start. false≢true (sym start))) (longest_before t rest (end_stops (kind_at t) end) s) (string_is ts (t ∷ rest) line bytes a) low
  initialiser_read scope most ts (Braces line parts) t rest end (us, vs, (o, r1, e1, opens, (r2, e2, (r3, e3, (c, r4, e4, closes, e5)))), line_is, s, comma) low =
      let whole : ts ++ t ∷ rest ≡ o ∷ (us ++ (vs ++ c ∷ (t ∷ rest))) =
      ap (λ l. l ++ t ∷ rest) (e1 ∙ ap (λ l. o ∷ l) (e2 ∙ ap (λ l. us ++ l) (e3 ∙ ap (λ l. vs ++ l) (e4 ∙ ap (λ l. c ∷ l) e5)))) ∙ ap (λ l. o ∷ l) (append_assoc us (vs ++ c ∷ []) (t ∷ rest) ∙ ap (λ l. us ++ l) (append_assoc vs (c ∷ []) (t ∷ rest))) in
      let first : first_line (o ∷ (us ++ (vs ++ c ∷ (t ∷ rest)))) ≡ line = sym (ap first_line e1) ∙ line_is in
      subst (λ l. ReadsInitialiser scope most l (Braces line parts) (t ∷ rest)) (sym whole) (reads.Braced (us ++ (vs ++ c ∷ (t ∷ rest))) (next_is o _ opens) first (parts_read scope most us parts vs c (t ∷ rest) closes comma s low))

  parts_read : (scope : Scope) (most : ℕ) (us : List Lexeme) (parts : Initialisers) (vs : List Lexeme) (c : Lexeme) (rest : List Lexeme) → kind_at c ≡ Punctuator (codes "}") → (vs ≡ []) ⊎ Are vs (mark (codes ",") ∷ [])
      → SpellsParts scope us parts → height_of_parts parts ≤ most → ReadsParts scope most (us ++ (vs ++ c ∷ rest)) parts rest
  parts_read scope most us NoParts vs c rest closes comma s low = absurd s
  parts_read scope most us (MoreParts first others) vs c rest closes comma (xs, ys, (r1, e1, e2), s, more) low =
      let behind = further_first scope ys others vs c rest closes comma more in
      let here = initialiser_read scope most xs first behind.token behind.rest behind.is s (omega arith) in
      let further = further_parts_read scope most ys others vs c rest closes comma more (omega arith) in
      let whole : us ++ (vs ++ c ∷ rest) ≡ xs ++ (ys ++ (vs ++ c ∷ rest)) = ap (λ l. l ++ (vs ++ c ∷ rest)) (e1 ∙ ap (λ l. xs ++ l) e2) ∙ append_assoc xs ys (vs ++ c ∷ rest) in
      subst (λ l. ReadsParts scope most l (MoreParts first others) rest) (sym whole)
      (reads.Parts (ys ++ (vs ++ c ∷ rest)) (subst (λ l. ReadsInitialiser scope most (xs ++ l) first l) (sym behind.parts) here) further)

  further_parts_read : (scope : Scope) (most : ℕ) (us : List Lexeme) (parts : Initialisers) (vs : List Lexeme) (c : Lexeme) (rest : List Lexeme) → kind_at c ≡ Punctuator (codes "}") → (vs ≡ []) ⊎ Are vs (mark (codes ",") ∷ [])
      → SpellsFurtherParts scope us parts → height_of_parts parts ≤ most → ReadsFurtherParts scope most (us ++ (vs ++ c ∷ rest)) parts rest
  further_parts_read scope most us NoParts vs c rest closes (inl none) s low =
      subst (λ l. ReadsFurtherParts scope most l NoParts rest) (sym (ap (λ l. l ++ (vs ++ c ∷ rest)) s ∙ ap (λ l. l ++ c ∷ rest) none)) (reads.Closed (next_is c rest closes))
  further_parts_read scope most us NoParts vs c rest closes (inr (o, r, e, is, last)) s low =
      subst (λ l. ReadsFurtherParts scope most l NoParts rest) (sym (ap (λ l. l ++ (vs ++ c ∷ rest)) s ∙ ap (λ l. l ++ c ∷ rest) (e ∙ ap (λ l. o ∷ l) last)))
      (reads.ClosedBehindComma (c ∷ rest) (next_is o _ is) (next_is c rest closes))
  further_parts_read scope most us (MoreParts first others) vs c rest closes comma (xs, ys, (o, r1, e1, is, (r2, e2, e3)), s, more) low =
      let tail = vs ++ c ∷ rest in
      let behind = further_first scope ys others vs c rest closes comma more in
      let here = initialiser_read scope most xs first behind.token behind.rest behind.is s (omega arith) in
      let further = further_parts_read scope most ys others vs c rest closes comma more (omega arith) in
      let inner = reads.Parts (ys ++ tail) (subst (λ l. ReadsInitialiser scope most (xs ++ l) first l) (sym behind.parts) here) further in
      let whole : us ++ tail ≡ o ∷ (xs ++ (ys ++ tail)) = ap (λ l. l ++ tail) (e1 ∙ ap (λ l. o ∷ l) (e2 ∙ ap (λ l. xs ++ l) e3)) ∙ ap (λ l. o ∷ l) (append_assoc xs ys tail) in
      subst (λ l. ReadsFurtherParts scope most l (MoreParts first others) rest) (sym whole)
      (reads.Further (xs ++ (ys ++ tail)) (next_is o _ is) (subst (IsNoNext (Punctuator (codes "}"))) (append_assoc xs ys tail) (no_brace scope xs ys first tail s)) inner)

  -- no initialiser begins with a closing brace
  no_brace : (scope : Scope) (xs ys : List Lexeme) (i : Initialiser) (rest : List Lexeme) → SpellsInitialiser scope xs i → IsNoNext (Punctuator (codes "}")) ((xs ++ ys) ++ rest)
  no_brace scope xs ys (Value e) rest (s, none) = not_next (Punctuator (codes "}")) (begun_before rest (begun_before ys (begun s))) (λ start. false≢true (sym start))
  no_brace scope xs ys (String line bytes) rest (a, line_is) =
      let s : SpellsExpression scope 0 xs (tree.Text line bytes) = spelled.String bytes line_is a in
      not_next (Punctuator (codes "}")) (begun_before rest (begun_before ys (begun s))) (λ start. false≢true (sym start))
  no_brace scope xs ys (Braces line parts) rest (us, vs, (o, r1, e1, opens, a), line_is, s, comma) =
      subst (λ l. IsNoNext (Punctuator (codes "}")) ((l ++ ys) ++ rest)) (sym e1) (other_mark o ((r1 ++ ys) ++ rest) (codes "}") opens refl)

  -- what stands behind an initialiser in braces
  further_first : (scope : Scope) (us : List Lexeme) (parts : Initialisers) (vs : List Lexeme) (c : Lexeme) (rest : List Lexeme) → kind_at c ≡ Punctuator (codes "}") → (vs ≡ []) ⊎ Are vs (mark (codes ",") ∷ [])
      → SpellsFurtherParts scope us parts → Ending (us ++ (vs ++ c ∷ rest))
  further_first scope us NoParts vs c rest closes (inl none) s =
      record { token = c; rest = rest; parts = ap (λ l. l ++ (vs ++ c ∷ rest)) s ∙ ap (λ l. l ++ c ∷ rest) none; is = inr (inr closes) }
  further_first scope us NoParts vs c rest closes (inr (o, r, e, is, last)) s =
      record { token = o; rest = c ∷ rest; parts = ap (λ l. l ++ (vs ++ c ∷ rest)) s ∙ ap (λ l. l ++ c ∷ rest) (e ∙ ap (λ l. o ∷ l) last); is = inl is }
  further_first scope us (MoreParts first others) vs c rest closes comma (xs, ys, (o, r1, e1, is, a), s, more) =
      record { token = o; rest = r1 ++ (vs ++ c ∷ rest); parts = ap (λ l. l ++ (vs ++ c ∷ rest)) e1; is = inl is }

-- ---- declarators

pub initial_read : (scope : Scope) (most : ℕ) (ts : List Lexeme) (i : Option Initialiser) (t : Lexeme) (rest : List Lexeme) → IsInitialEnd (kind_at t) → SpellsInitial scope ts i → height_of_initial i ≤ most
    → ReadsInitial scope most (ts ++ t ∷ rest) i (t ∷ rest)
initial_read scope most ts None t rest end s low = (ap (λ l. l ++ t ∷ rest) s, subst (λ l. IsNoNext (Punctuator (codes "=")) (l ++ t ∷ rest)) (sym s) (no_equals (kind_at t) refl end))
  where
    no_equals : (kind : Kind) → kind_at t ≡ kind → IsInitialEnd kind → IsNoNext (Punctuator (codes "=")) (t ∷ rest)
    no_equals kind is (inl e) = other_mark t rest (codes "=") (is ∙ e) refl
    no_equals kind is (inr (inl e)) = other_mark t rest (codes "=") (is ∙ e) refl
    no_equals kind is (inr (inr e)) = other_mark t rest (codes "=") (is ∙ e) refl
initial_read scope most ts (Some i) t rest end (us, (o, r, e, is, f), s) low =
    let whole : ts ++ t ∷ rest ≡ o ∷ (us ++ t ∷ rest) = ap (λ l. l ++ t ∷ rest) (e ∙ ap (λ l. o ∷ l) f) in
    subst (λ l. ReadsInitial scope most l (Some i) (t ∷ rest)) (sym whole) (us ++ t ∷ rest, next_is o _ is, initialiser_read scope most us i t rest end s low)

-- no qualifier is a name
qualifier_keyword : (q : Qualifier) → is_keyword (qualifier_text q) ≡ true
unfolding is_keyword
qualifier_keyword qualifiers.Const = refl
qualifier_keyword qualifiers.Volatile = refl
qualifier_keyword qualifiers.Restrict = refl

name_no_qualifier : (name : List ℕ) → IsName name → qualifier_of (Word name) ≡ None
name_no_qualifier name named = by (qualifier_of (Word name)) refl
  where
    wrong : (q : Qualifier) → Word name ≡ Word (qualifier_text q) → ⊥
    wrong q e = (let same : name ≡ qualifier_text q = cc in let both : true ≡ false = sym (qualifier_keyword q) ∙ ap is_keyword (sym same) ∙ named in absurd cc)

    by : (found : Option Qualifier) → qualifier_of (Word name) ≡ found → qualifier_of (Word name) ≡ None
    by None e = e
    by (Some q) e = absurd (wrong q (qualifier_is (Word name) q e))

-- the first line doesn't depend on what stands behind a token
first_line_more : (us : List Lexeme) (t : Lexeme) (vs ws ts : List Lexeme) → ts ≡ us ++ t ∷ vs → first_line (us ++ t ∷ ws) ≡ first_line ts
first_line_more [] t vs ws ts e = sym (ap first_line e)
first_line_more (u ∷ us) t vs ws ts e = sym (ap first_line e)

-- what stands behind a declarator
comma_or_end : (scope : Scope) (ts : List Lexeme) (ds : List Declarator) (c : Lexeme) (rest : List Lexeme) → kind_at c ≡ Punctuator (codes ";") → SpellsBehindCommas (SpellsDeclarator scope) ts ds → Ending (ts ++ c ∷ rest)
comma_or_end scope ts [] c rest is s = record { token = c; rest = rest; parts = ap (λ l. l ++ c ∷ rest) s; is = inr (inl is) }
comma_or_end scope ts (d ∷ ds) c rest is (us, vs, (o, r1, e1, comma, a), s, more) = record { token = o; rest = r1 ++ c ∷ rest; parts = ap (λ l. l ++ c ∷ rest) e1; is = inl comma }

pub name_next : {name : List ℕ} (t : Lexeme) (rest : List Lexeme) → kind_at t ≡ Word name → IsName name → IsBehindStars (t ∷ rest)
name_next {name} t rest is named = record { no_star = other_next t rest (Punctuator (codes "*")) is (λ e. absurd cc); no_qualifier = ap qualifier_of is ∙ name_no_qualifier name named }

pub declarator_read : (scope : Scope) (most : ℕ) (ts : List Lexeme) (d : Declarator) (t : Lexeme) (rest : List Lexeme) → IsInitialEnd (kind_at t) → SpellsDeclarator scope ts d → height_of_declarator d ≤ most
    → ReadsDeclarator scope most (ts ++ t ∷ rest) d (t ∷ rest)
declarator_read scope most ts d t rest end s low = by s.parts
  where
    no_bracket : (kind : Kind) → kind_at t ≡ kind → IsInitialEnd kind → IsNoNext (Punctuator (codes "[")) (t ∷ rest)
    no_bracket kind is (inl e) = other_mark t rest (codes "[") (is ∙ e) refl
    no_bracket kind is (inr (inl e)) = other_mark t rest (codes "[") (is ∙ e) refl
    no_bracket kind is (inr (inr e)) = other_mark t rest (codes "[") (is ∙ e) refl

    no_size : (i : Option Initialiser) (us : List Lexeme) → SpellsInitial scope us i → IsNoNext (Punctuator (codes "[")) (us ++ t ∷ rest)
    no_size None us e = subst (λ l. IsNoNext (Punctuator (codes "[")) (l ++ t ∷ rest)) (sym e) (no_bracket (kind_at t) refl end)
    no_size (Some i) us (vs, (o, r, e, is, f), h) = subst (λ l. IsNoNext (Punctuator (codes "[")) (l ++ t ∷ rest)) (sym e) (other_mark o (r ++ t ∷ rest) (codes "[") is refl)

    by : Are ts (These s.stars ∷ word d.name ∷ These s.dimensions ∷ These s.initial ∷ []) → ReadsDeclarator scope most (ts ++ t ∷ rest) d (t ∷ rest)
    by (r1, e1, (w, r2, e2, is, (r3, e3, e4))) =
        let behind = s.dimensions ++ (s.initial ++ t ∷ rest) in
        let whole : ts ++ t ∷ rest ≡ s.stars ++ w ∷ behind =
        ap (λ l. l ++ t ∷ rest) (e1 ∙ ap (λ l. s.stars ++ l) (e2 ∙ ap (λ l. w ∷ l) (e3 ∙ ap (λ l. s.dimensions ++ l) e4)))
        ∙ append_assoc s.stars (w ∷ (s.dimensions ++ s.initial)) (t ∷ rest) ∙ ap (λ l. s.stars ++ w ∷ l) (append_assoc s.dimensions s.initial (t ∷ rest)) in
        let first : first_line (s.stars ++ w ∷ behind) ≡ d.line = first_line_more s.stars w (s.dimensions ++ s.initial) behind ts (e1 ∙ ap (λ l. s.stars ++ l) (e2 ∙ ap (λ l. w ∷ l) (e3 ∙ ap (λ l. s.dimensions ++ l) e4))) ∙ s.line_is in
        subst (λ l. ReadsDeclarator scope most l d (t ∷ rest)) (sym whole) (record {
          behind = behind;
          line_is = first;
          head = record {
            behind = w ∷ behind;
            reads_stars = stars_read s.stars d.stars (w ∷ behind) s.spells_stars (name_next w behind is s.named);
            reads_name = record { word = next_is w behind is; named = s.named };
          };
          tail = record {
            behind = s.initial ++ t ∷ rest;
            reads_dimensions = dimensions_read scope most s.dimensions d.dimensions (s.initial ++ t ∷ rest) s.spells_dimensions (omega arith) (no_size d.initialiser s.initial s.spells_initial);
            reads_initial = initial_read scope most s.initial d.initialiser t rest end s.spells_initial (omega arith);
          };
        })

pub further_read : (scope : Scope) (most : ℕ) (ts : List Lexeme) (ds : List Declarator) (c : Lexeme) (rest : List Lexeme) → kind_at c ≡ Punctuator (codes ";") → SpellsBehindCommas (SpellsDeclarator scope) ts ds → height_of_declarators ds ≤ most
    → ReadsFurtherDeclarators scope most (ts ++ c ∷ rest) ds rest
further_read scope most ts [] c rest is s low = subst (λ l. Next (Punctuator (codes ";")) (l ++ c ∷ rest) rest) (sym s) (next_is c rest is)
further_read scope most ts (d ∷ ds) c rest is (us, vs, (o, r1, e1, comma, (r2, e2, e3)), s, more) low =
    let end = comma_or_end scope vs ds c rest is more in
    let others = further_read scope most vs ds c rest is more (omega arith) in
    let here = declarator_read scope most us d end.token end.rest end.is s (omega arith) in
    let whole : ts ++ c ∷ rest ≡ o ∷ (us ++ (vs ++ c ∷ rest)) = ap (λ l. l ++ c ∷ rest) (e1 ∙ ap (λ l. o ∷ l) (e2 ∙ ap (λ l. us ++ l) e3)) ∙ ap (λ l. o ∷ l) (append_assoc us vs (c ∷ rest)) in
    subst (λ l. ReadsFurtherDeclarators scope most l (d ∷ ds) rest) (sym whole)
    (us ++ (vs ++ c ∷ rest), vs ++ c ∷ rest, next_is o _ comma, subst (λ l. ReadsDeclarator scope most (us ++ l) d l) (sym end.parts) here, others)

pub declarators_read : (scope : Scope) (most : ℕ) (ts : List Lexeme) (ds : List Declarator) (c : Lexeme) (rest : List Lexeme) → kind_at c ≡ Punctuator (codes ";") → SpellsBetweenCommas (SpellsDeclarator scope) ts ds → height_of_declarators ds ≤ most
    → ReadsDeclarators scope most (ts ++ c ∷ rest) ds rest
declarators_read scope most ts [] c rest is s low = absurd s
declarators_read scope most ts (d ∷ ds) c rest is (us, vs, (r1, e1, e2), s, more) low =
    let end = comma_or_end scope vs ds c rest is more in
    let others = further_read scope most vs ds c rest is more (omega arith) in
    let here = declarator_read scope most us d end.token end.rest end.is s (omega arith) in
    let whole : ts ++ c ∷ rest ≡ us ++ (vs ++ c ∷ rest) = ap (λ l. l ++ c ∷ rest) (e1 ∙ ap (λ l. us ++ l) e2) ∙ append_assoc us vs (c ∷ rest) in
    subst (λ l. ReadsDeclarators scope most l (d ∷ ds) rest) (sym whole) (vs ++ c ∷ rest, subst (λ l. ReadsDeclarator scope most (us ++ l) d l) (sym end.parts) here, others)

-- ---- declarations

-- no specifier is a name or a star
no_mark_specifier : (scope : Scope) (t : Lexeme) (ts : List Lexeme) {bytes : List ℕ} → kind_at t ≡ Punctuator bytes → next_specifier scope (t ∷ ts) ≡ None
no_mark_specifier scope t ts is = ap (specifier_of scope) is

specifier_keyword : (scope : Scope) (name : List ℕ) → IsName name → specifier_of scope (Word name) ≡ None
specifier_keyword scope name named = no_specifier_begun scope (At (Word name) 0 0 0 ∷ []) (record { token = At (Word name) 0 0 0; rest = []; parts = refl; is = inl named })

-- behind stars and a name, no specifier is next
pub no_specifier_stars : (scope : Scope) (us : List Lexeme) (stars : Stars) (t : Lexeme) (rest : List Lexeme) {name : List ℕ} → SpellsStars us stars → kind_at t ≡ Word name → IsName name → next_specifier scope (us ++ t ∷ rest) ≡ None
no_specifier_stars scope [] [] t rest {name} s is named = ap (specifier_of scope) is ∙ specifier_keyword scope name named
no_specifier_stars scope (u ∷ us) [] t rest s is named = absurd cc
no_specifier_stars scope [] (star ∷ stars) t rest s is named = absurd cc
no_specifier_stars scope (u ∷ us) (star ∷ stars) t rest s is named = (let kind : kind_at u ≡ Punctuator (codes "*") = cc in no_mark_specifier scope u (us ++ t ∷ rest) kind)

no_specifier_declarator : (scope : Scope) (us : List Lexeme) (d : Declarator) (rest : List Lexeme) → SpellsDeclarator scope us d → next_specifier scope (us ++ rest) ≡ None
no_specifier_declarator scope us d rest s = by s.parts
  where
    by : Are us (These s.stars ∷ word d.name ∷ These s.dimensions ∷ These s.initial ∷ []) → next_specifier scope (us ++ rest) ≡ None
    by (r1, e1, (w, r2, e2, is, a)) =
        let whole : us ++ rest ≡ s.stars ++ w ∷ (r2 ++ rest) = ap (λ l. l ++ rest) (e1 ∙ ap (λ l. s.stars ++ l) e2) ∙ append_assoc s.stars (w ∷ r2) rest in
        ap (next_specifier scope) whole ∙ no_specifier_stars scope s.stars d.stars w (r2 ++ rest) s.spells_stars is s.named

pub no_specifier_first : (scope : Scope) (us : List Lexeme) (ds : List Declarator) (rest : List Lexeme) → SpellsBetweenCommas (SpellsDeclarator scope) us ds → next_specifier scope (us ++ rest) ≡ None
no_specifier_first scope us [] rest s = absurd s
no_specifier_first scope us (d ∷ ds) rest (xs, ys, (r1, e1, e2), s, more) =
    ap (next_specifier scope) (ap (λ l. l ++ rest) (e1 ∙ ap (λ l. xs ++ l) e2) ∙ append_assoc xs ys rest) ∙ no_specifier_declarator scope xs d (ys ++ rest) s

-- the first line of tokens is that of their front
pub first_line_front : (us rest : List Lexeme) → 0 < length us → first_line (us ++ rest) ≡ first_line us
first_line_front [] rest some = absurd (omega arith)
first_line_front (u ∷ us) rest some = refl
