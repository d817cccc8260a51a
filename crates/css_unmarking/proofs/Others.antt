-- Tokens of the same kinds and lines, tokens that aren't directives, and productions part by part.
use Rattle.std.proofs.Common.{◌≡◌, ℕ, true, false, not, if◌then◌else◌, List, [], ◌∷◌, ◌++◌, map, refl, sym, ap, ◌∙◌, subst, append-nil, append_assoc}
use Rattle.std.proofs.lemmas.List.{map-append}
use Rattle.std.proofs.lemmas.List.Elements.{filter-append}
use Rattle.css_base.specs.Tokens.{Kind, Lexeme, At}
use Rattle.css_lex.specs.WithoutDirectives.{is_directive_kind, is_directive, without_directives, kind_and_line, kinds_and_lines}
use Rattle.css_tree.specs.TokenParts.{kind_at, line_of, kinds, first_line, last_line, Part, One, These, Are, mark, word}

-- ---- tokens of the same kinds and lines

abbrev pub Same : (ts us : List Lexeme) → Type 0
Same ts us = kinds_and_lines us ≡ kinds_and_lines ts

-- what goes by kinds and lines alone
abbrev line_by : List (Kind × ℕ) → ℕ
line_by [] = 0
line_by (x ∷ xs) = x.1

first_by : (ts : List Lexeme) → line_by (kinds_and_lines ts) ≡ first_line ts
first_by [] = refl
first_by (At kind line place end ∷ ts) = refl

abbrev last_of : List (Kind × ℕ) → ℕ
last_of [] = 0
last_of (x ∷ []) = x.1
last_of (x ∷ y ∷ xs) = last_of (y ∷ xs)

last_by : (ts : List Lexeme) → last_of (kinds_and_lines ts) ≡ last_line ts
last_by [] = refl
last_by (At kind line place end ∷ []) = refl
last_by (At kind line place end ∷ u ∷ ts) = last_by (u ∷ ts)

kinds_by : (ts : List Lexeme) → map (λ (x : Kind × ℕ). x.0) (kinds_and_lines ts) ≡ kinds ts
kinds_by [] = refl
kinds_by (At kind line place end ∷ ts) = ap (λ l. kind ∷ l) (kinds_by ts)

-- tokens that are the same as two rows, in two rows
pub record Split (ts vs us : List Lexeme) : Type 0 where
  pub front : List Lexeme
  pub back : List Lexeme
  pub are : us ≡ front ++ back
  pub first : Same ts front
  pub second : Same vs back

pub none_same : (us : List Lexeme) → Same [] us → us ≡ []
none_same [] h = refl
none_same (u ∷ us) h = absurd cc

pub ahead : (t : Lexeme) (ts us vs : List Lexeme) → ts ≡ us ++ vs → t ∷ ts ≡ t ∷ us ++ vs
ahead t ts us vs e = ap (λ l. t ∷ l) e

pub same_split : (ts vs us : List Lexeme) → Same (ts ++ vs) us → Split ts vs us
same_split [] vs us h = record { front = []; back = us; are = refl; first = refl; second = h }
same_split (t ∷ ts) vs [] h = absurd cc
same_split (t ∷ ts) vs (u ∷ us) h =
    let rest = same_split ts vs us cc in
    record { front = u ∷ rest.front; back = rest.back; are = ahead u us rest.front rest.back rest.are; first = cc; second = rest.second }

same_kind : (t u : Lexeme) → kind_and_line u ≡ kind_and_line t → kind_at u ≡ kind_at t
same_kind (At k l p e) (At k' l' p' e') h = ap (λ (x : Kind × ℕ). x.0) h

-- tokens that are the same as a token and others
record Led (t : Lexeme) (ts us : List Lexeme) : Type 0 where
  token : Lexeme
  back : List Lexeme
  are : us ≡ token ∷ back
  kind : kind_at token ≡ kind_at t
  second : Same ts back

same_led : (t : Lexeme) (ts us : List Lexeme) → Same (t ∷ ts) us → Led t ts us
same_led t ts [] h = absurd cc
same_led t ts (u ∷ us) h = record { token = u; back = us; are = refl; kind = same_kind t u cc; second = cc }

-- ---- productions

-- What holds of the parts, with other tokens of the same kinds and lines in them.
abbrev pub Moved : List Part → (List Part → Type 0) → Type 0
Moved [] P = P []
Moved (One kind ∷ parts) P = Moved parts (λ others. P (One kind ∷ others))
Moved (These us ∷ parts) P = (vs : List Lexeme) × Same us vs × Moved parts (λ others. P (These vs ∷ others))

moved_on : (parts : List Part) (P Q : List Part → Type 0) → ((others : List Part) → P others → Q others) → Moved parts P → Moved parts Q
moved_on [] P Q f m = f [] m
moved_on (One kind ∷ parts) P Q f m = moved_on parts (λ others. P (One kind ∷ others)) (λ others. Q (One kind ∷ others)) (λ others. f (One kind ∷ others)) m
moved_on (These us ∷ parts) P Q f (vs, same, m) =
    (vs, same, moved_on parts (λ others. P (These vs ∷ others)) (λ others. Q (These vs ∷ others)) (λ others. f (These vs ∷ others)) m)

these_are : (us vs : List Lexeme) (parts : List Part) → Are vs parts → Are (us ++ vs) (These us ∷ parts)
these_are us vs [] a = ap (λ l. us ++ l) a ∙ append-nil us
these_are us vs (part ∷ parts) a = (vs, refl, a)

one_are : (t : Lexeme) (kind : Kind) (ts : List Lexeme) (parts : List Part) → kind_at t ≡ kind → Are ts parts → Are (t ∷ ts) (One kind ∷ parts)
one_are t kind ts parts is a = (t, ts, refl, is, a)

moved : (parts : List Part) (ts us : List Lexeme) → Are ts parts → Same ts us → Moved parts (Are us)
moved [] ts us a h = none_same us (subst (λ l. Same l us) a h)
moved (One kind ∷ parts) ts us (t, rest, e, is, a) h =
    let led = same_led t rest us (subst (λ l. Same l us) e h) in
    moved_on parts (Are led.back) (λ others. Are us (One kind ∷ others))
    (λ others are. subst (λ l. Are l (One kind ∷ others)) (sym led.are) (one_are led.token kind led.back others (led.kind ∙ is) are))
    (moved parts rest led.back a led.second)
moved (These ws ∷ []) ts us a h = (us, subst (λ l. Same l us) a h, refl)
moved (These ws ∷ part ∷ parts) ts us (rest, e, a) h =
    let split = same_split ws rest us (subst (λ l. Same l us) e h) in (
      split.front,
      split.first,
      moved_on (part ∷ parts) (Are split.back) (λ others. Are us (These split.front ∷ others))
          (λ others are. subst (λ l. Are l (These split.front ∷ others)) (sym split.are) (these_are split.front split.back others are))
          (moved (part ∷ parts) rest split.back a split.second),
    )

-- The form of a production: which of its parts are tokens, and which are one token that is no directive.
pub data Form : List Part → Type 0 where
  Done : Form []
  Tokens : {us : List Lexeme} {parts : List Part} → Form parts → Form (These us ∷ parts)
  Sign : {bytes : List ℕ} {parts : List Part} → Form parts → Form (mark bytes ∷ parts)
  Named : {bytes : List ℕ} {parts : List Part} → Form parts → Form (word bytes ∷ parts)
  Token : {kind : Kind} {parts : List Part} → is_directive_kind kind ≡ false → Form parts → Form (One kind ∷ parts)

-- Tokens of the same kinds and lines have parts of the same kinds and lines.
pub same_parts : {parts : List Part} (ts us : List Lexeme) → Form parts → Are ts parts → Same ts us → Moved parts (Are us)
same_parts {parts} ts us form a h = moved parts ts us a h

pub first_same : (ts us : List Lexeme) → Same ts us → first_line us ≡ first_line ts
first_same ts us h = sym (first_by us) ∙ ap line_by h ∙ first_by ts

pub kinds_same : (ts us : List Lexeme) → Same ts us → kinds us ≡ kinds ts
kinds_same ts us h = sym (kinds_by us) ∙ ap (λ l. map (λ (x : Kind × ℕ). x.0) l) h ∙ kinds_by ts

-- ---- tokens that aren't directives

abbrev pub ArePlain : List Kind → Type 0
ArePlain [] = Unit {0}
ArePlain (kind ∷ kinds) = (is_directive_kind kind ≡ false) × ArePlain kinds

-- None of the tokens is a directive.
abbrev pub Plain : List Lexeme → Type 0
Plain ts = ArePlain (kinds ts)

pub plain_both : (ks ls : List Kind) → ArePlain ks → ArePlain ls → ArePlain (ks ++ ls)
plain_both [] ls p q = q
plain_both (k ∷ ks) ls (is, p) q = (is, plain_both ks ls p q)

-- No token in the parts is a directive.
abbrev pub ThesePlain : List Part → Type 0
ThesePlain [] = Unit {0}
ThesePlain (One kind ∷ parts) = ThesePlain parts
ThesePlain (These us ∷ parts) = Plain us × ThesePlain parts

one_plain : (t : Lexeme) (ts us : List Lexeme) (kind : Kind) → ts ≡ t ∷ us → kind_at t ≡ kind → is_directive_kind kind ≡ false → Plain us → Plain ts
one_plain t ts us kind e is p q = subst Plain (sym e) (ap is_directive_kind is ∙ p, q)

pub plain_parts : {parts : List Part} (ts : List Lexeme) → Form parts → Are ts parts → ThesePlain parts → Plain ts
plain_parts ts Done a p = subst Plain (sym a) tt
plain_parts ts (Tokens {us = us} {parts = []} form) a (p, q) = subst Plain (sym a) p
plain_parts ts (Tokens {us = us} {parts = part ∷ parts} form) (rest, e, a) (p, q) =
    subst Plain (sym e) (subst ArePlain (sym (map-append kind_at us rest)) (plain_both (kinds us) (kinds rest) p (plain_parts rest form a q)))
plain_parts ts (Sign form) (t, rest, e, is, a) p = one_plain t ts rest _ e is refl (plain_parts rest form a p)
plain_parts ts (Named form) (t, rest, e, is, a) p = one_plain t ts rest _ e is refl (plain_parts rest form a p)
plain_parts ts (Token plain form) (t, rest, e, is, a) p = one_plain t ts rest _ e is plain (plain_parts rest form a p)

-- ---- tokens without their directives

-- Those have the kinds and lines of these but for the directives.
abbrev pub AreOthers : (ts us : List Lexeme) → Type 0
AreOthers ts us = Same (without_directives ts) us

directive_is : (t : Lexeme) → is_directive t ≡ is_directive_kind (kind_at t)
directive_is (At kind line place end) = refl

kept : (t : Lexeme) (ts : List Lexeme) → is_directive_kind (kind_at t) ≡ false → without_directives (t ∷ ts) ≡ t ∷ without_directives ts
kept t ts is = ap (λ b. if not b then t ∷ without_directives ts else without_directives ts) (directive_is t ∙ is)

pub taken : (t : Lexeme) (ts : List Lexeme) → is_directive_kind (kind_at t) ≡ true → without_directives (t ∷ ts) ≡ without_directives ts
taken t ts is = ap (λ b. if not b then t ∷ without_directives ts else without_directives ts) (directive_is t ∙ is)

without-append : (ts us : List Lexeme) → without_directives (ts ++ us) ≡ without_directives ts ++ without_directives us
without-append ts us = filter-append (λ t. not (is_directive t)) ts us

all_kept : (ts : List Lexeme) → Plain ts → without_directives ts ≡ ts
all_kept [] p = refl
all_kept (t ∷ ts) (is, p) = kept t ts is ∙ ap (λ l. t ∷ l) (all_kept ts p)

pub others_same : (ts us : List Lexeme) → Plain ts → AreOthers ts us → Same ts us
others_same ts us p h = h ∙ ap kinds_and_lines (all_kept ts p)

-- the parts without their directives
abbrev pub without : List Part → List Part
without [] = []
without (One kind ∷ parts) = One kind ∷ without parts
without (These us ∷ parts) = These (without_directives us) ∷ without parts

one_left : (t : Lexeme) (ts us : List Lexeme) (kind : Kind) (parts : List Part) → ts ≡ t ∷ us → kind_at t ≡ kind → is_directive_kind kind ≡ false
    → Are (without_directives us) parts → Are (without_directives ts) (One kind ∷ parts)
one_left t ts us kind parts e is p a = (t, without_directives us, ap without_directives e ∙ kept t us (ap is_directive_kind is ∙ p), is, a)

left : {parts : List Part} (ts : List Lexeme) → Form parts → Are ts parts → Are (without_directives ts) (without parts)
left ts Done a = ap without_directives a
left ts (Tokens {us = us} {parts = []} form) a = ap without_directives a
left ts (Tokens {us = us} {parts = part ∷ parts} form) (rest, e, a) =
    subst (λ l. Are l (These (without_directives us) ∷ without (part ∷ parts))) (sym (ap without_directives e ∙ without-append us rest))
    (these_are (without_directives us) (without_directives rest) (without (part ∷ parts)) (left rest form a))
left ts (Sign {parts = parts} form) (t, rest, e, is, a) = one_left t ts rest _ (without parts) e is refl (left rest form a)
left ts (Named {parts = parts} form) (t, rest, e, is, a) = one_left t ts rest _ (without parts) e is refl (left rest form a)
left ts (Token {parts = parts} plain form) (t, rest, e, is, a) = one_left t ts rest _ (without parts) e is plain (left rest form a)

-- So have the tokens that aren't directives.
pub others_parts : {parts : List Part} (ts us : List Lexeme) → Form parts → Are ts parts → AreOthers ts us → Moved (without parts) (Are us)
others_parts {parts} ts us form a h = moved (without parts) (without_directives ts) us (left ts form a) h

-- ---- first and last tokens

-- The first token is no directive, if there is one.
abbrev pub Starts : List Lexeme → Type 0
Starts [] = Unit {0}
Starts (t ∷ ts) = is_directive_kind (kind_at t) ≡ false

pub plain_starts : (ts : List Lexeme) → Plain ts → Starts ts
plain_starts [] p = tt
plain_starts (t ∷ ts) p = p.0

pub first_others : (ts us : List Lexeme) → Starts ts → AreOthers ts us → first_line us ≡ first_line ts
first_others [] us s h = first_same [] us h
first_others (t ∷ ts) us s h = first_same (without_directives (t ∷ ts)) us h ∙ ap first_line (kept t ts s)

-- No token before the first part of one token is a directive.
abbrev pub StartsWith : List Part → Type 0
StartsWith [] = Unit {0}
StartsWith (One kind ∷ parts) = Unit {0}
StartsWith (These us ∷ parts) = Plain us × StartsWith parts

starts_both : (us vs : List Lexeme) → Starts us → Starts vs → Starts (us ++ vs)
starts_both [] vs p q = q
starts_both (u ∷ us) vs p q = p

one_starts : (t : Lexeme) (ts us : List Lexeme) (kind : Kind) → ts ≡ t ∷ us → kind_at t ≡ kind → is_directive_kind kind ≡ false → Starts ts
one_starts t ts us kind e is p = subst Starts (sym e) (ap is_directive_kind is ∙ p)

pub starts : {parts : List Part} (ts : List Lexeme) → Form parts → Are ts parts → StartsWith parts → Starts ts
starts ts Done a p = subst Starts (sym a) tt
starts ts (Tokens {us = us} {parts = []} form) a (p, q) = subst Starts (sym a) (plain_starts us p)
starts ts (Tokens {us = us} {parts = part ∷ parts} form) (rest, e, a) (p, q) = subst Starts (sym e) (starts_both us rest (plain_starts us p) (starts rest form a q))
starts ts (Sign form) (t, rest, e, is, a) p = one_starts t ts rest _ e is refl
starts ts (Named form) (t, rest, e, is, a) p = one_starts t ts rest _ e is refl
starts ts (Token plain form) (t, rest, e, is, a) p = one_starts t ts rest _ e is plain

-- The last token is no directive.
abbrev pub Ends : List Lexeme → Type 0
Ends ts = (front : List Lexeme) × (t : Lexeme) × (ts ≡ front ++ t ∷ []) × (is_directive_kind (kind_at t) ≡ false)

last-append : (ts : List Lexeme) (t : Lexeme) → last_line (ts ++ t ∷ []) ≡ line_of t
last-append [] t = refl
last-append (u ∷ []) t = refl
last-append (u ∷ v ∷ ts) t = last-append (v ∷ ts) t

pub last_others : (ts us : List Lexeme) → Ends ts → AreOthers ts us → last_line us ≡ last_line ts
last_others ts us (front, t, e, is) h =
    sym (last_by us) ∙ ap last_of h ∙ last_by (without_directives ts)
    ∙ ap last_line (ap without_directives e ∙ without-append front (t ∷ []) ∙ ap (λ l. without_directives front ++ l) (kept t [] is))
    ∙ last-append (without_directives front) t ∙ sym (last-append front t) ∙ sym (ap last_line e)

-- The last part is one token, or ends so.
abbrev pub EndsWith : List Part → Type 0
EndsWith [] = ⊥
EndsWith (One kind ∷ []) = Unit {0}
EndsWith (These us ∷ []) = Ends us
EndsWith (One kind ∷ part ∷ parts) = EndsWith (part ∷ parts)
EndsWith (These us ∷ part ∷ parts) = EndsWith (part ∷ parts)

ends_behind : (ts us vs : List Lexeme) → ts ≡ us ++ vs → Ends vs → Ends ts
ends_behind ts us vs e (front, t, f, is) = (us ++ front, t, e ∙ ap (λ l. us ++ l) f ∙ sym (append_assoc us front (t ∷ [])), is)

one_ends : (t : Lexeme) (ts us : List Lexeme) (kind : Kind) → ts ≡ t ∷ us → kind_at t ≡ kind → is_directive_kind kind ≡ false → us ≡ [] → Ends ts
one_ends t ts us kind e is p none = ([], t, e ∙ ap (λ l. t ∷ l) none, ap is_directive_kind is ∙ p)

pub ends : {parts : List Part} (ts : List Lexeme) → Form parts → Are ts parts → EndsWith parts → Ends ts
ends ts Done a p = absurd p
ends ts (Tokens {us = us} {parts = []} form) a p = subst Ends (sym a) p
ends ts (Tokens {us = us} {parts = part ∷ parts} form) (rest, e, a) p = ends_behind ts us rest e (ends rest form a p)
ends ts (Sign {parts = []} form) (t, rest, e, is, a) p = one_ends t ts rest _ e is refl a
ends ts (Sign {parts = part ∷ parts} form) (t, rest, e, is, a) p = ends_behind ts (t ∷ []) rest e (ends rest form a p)
ends ts (Named {parts = []} form) (t, rest, e, is, a) p = one_ends t ts rest _ e is refl a
ends ts (Named {parts = part ∷ parts} form) (t, rest, e, is, a) p = ends_behind ts (t ∷ []) rest e (ends rest form a p)
ends ts (Token {parts = []} plain form) (t, rest, e, is, a) p = one_ends t ts rest _ e is plain a
ends ts (Token {parts = part ∷ parts} plain form) (t, rest, e, is, a) p = ends_behind ts (t ∷ []) rest e (ends rest form a p)
