-- The words of a type are read.
use Rattle.std.proofs.Common.{◌≡◌, ℕ, ◌<◌, ◌≤◌, Bool, true, false, nat_le, List, [], ◌∷◌, ◌++◌, map, length, All, codes, bytes_eq, Option, Some, None, refl, sym, ap, ap₂, ◌∙◌, subst, arith, append_assoc, append-nil, if◌then◌else◌}
use Rattle.std.specs.Prelude.{option_and_then}
use Rattle.std.proofs.lemmas.List.Elements.{All-head, All-tail}
use Rattle.css_base.specs.Tokens.{Kind, Word, Punctuator, Lexeme, At}
use Rattle.css_tree.specs.declared.words.Specifier.{Specifier}
use Rattle.css_tree.specs.declared.words.Qualifier.{Qualifier}
use Rattle.css_tree.specs.Syntax.{Stars, TypeName}
use Rattle.css_tree.specs.TokenParts.{kind_at, line_of, kinds}
use Rattle.css_tree.specs.Words.{specifier_text, specifier_kind, qualifier_text, qualifier_kind, stars_kinds, is_keyword, IsAllowed, SpellsTypeName}
use Rattle.css_pexpr.specs.Signs.{specifier_of, qualifier_spelled}
use Rattle.css_pexpr.specs.declared.prefix.Prefix.TheVariants as prefixes
use Rattle.css_pexpr.specs.Frames.{Frame, Pre, Group, Stack}
use Rattle.css_pexpr.specs.declared.manner.Manner.{Manner}
use Rattle.css_pexpr.specs.Reading.{State, Wants, Types, with_specifier, with_star, with_qualifier, at_last, takes_type, begun, ended, named, step, step_wanting, step_type, run}
use Rattle.css_pexpr.proofs.Signs.{specifier_keyword, specifier_no_sizeof, specifier_read, qualifier_found}
use Rattle.css_pexpr.proofs.Runs.{step_at_wanting, one, goes}

abbrev pub typed : List Specifier → Stars → TypeName
typed specifiers stars = record { specifiers = specifiers; stars = stars }

pub record First (ts : List Lexeme) (k : Kind) (ks : List Kind) : Type 0 where
  pub token : Lexeme
  pub rest : List Lexeme
  pub parts : ts ≡ token ∷ rest
  pub is : kind_at token ≡ k
  pub others : kinds rest ≡ ks

pub first_of_kinds : (ts : List Lexeme) (k : Kind) (ks : List Kind) → kinds ts ≡ k ∷ ks → First ts k ks
first_of_kinds [] k ks e = absurd cc
first_of_kinds (t ∷ ts) k ks e = record { token = t; rest = ts; parts = refl; is = cc; others = cc }

pub none_left : (ts : List Lexeme) → kinds ts ≡ [] → ts ≡ []
none_left [] e = refl
none_left (t ∷ ts) e = absurd cc

pub record Divided (ts : List Lexeme) (us vs : List Kind) : Type 0 where
  pub left : List Lexeme
  pub right : List Lexeme
  pub parts : ts ≡ left ++ right
  pub left_is : kinds left ≡ us
  pub right_is : kinds right ≡ vs

pub divide : (ts : List Lexeme) (us vs : List Kind) → kinds ts ≡ us ++ vs → Divided ts us vs
divide ts [] vs e = record { left = []; right = ts; parts = refl; left_is = refl; right_is = e }
divide [] (u ∷ us) vs e = absurd cc
divide (t ∷ ts) (u ∷ us) vs e =
    let rest = divide ts us vs cc in
    let first : kind_at t ≡ u = cc in
    let parts = rest.parts in
    let left_is = rest.left_is in
    record { left = t ∷ rest.left; right = rest.right; parts = cc; left_is = cc; right_is = rest.right_is }

pub at_last-behind : (done : Stars) (star : List Qualifier) (q : Qualifier) → at_last (done ++ star ∷ []) q ≡ done ++ (star ++ q ∷ []) ∷ []
at_last-behind [] star q = refl
at_last-behind (s ∷ []) star q = refl
at_last-behind (s ∷ t ∷ done) star q = ap (λ l. s ∷ l) (at_last-behind (t ∷ done) star q)

module _ (m : Manner) (frames : Stack) (line : ℕ) where
  step_at_type : (type : TypeName) (t : Lexeme) → step m (Types frames line type) t ≡ step_type m frames line type (kind_at t)
  step_at_type type (At kind other place end) = refl

  -- further words of specs
  specifiers_read : (before all : List Specifier) (ts : List Lexeme) → kinds ts ≡ map specifier_kind all → All (IsAllowed m.scope) all
      → run m (Types frames line (typed before [])) ts ≡ Some (Types frames line (typed (before ++ all) []))
  specifiers_read before [] ts e allowed = ap (run m (Types frames line (typed before []))) (none_left ts e) ∙ ap (λ l. Some (Types frames line (typed l []))) (sym (append-nil before))
  specifiers_read before (s ∷ all) ts e allowed =
      let h = first_of_kinds ts (specifier_kind s) (map specifier_kind all) e in
      let next : step m (Types frames line (typed before [])) h.token ≡ Some (Types frames line (typed (before ++ s ∷ []) [])) =
      step_at_type (typed before []) h.token ∙ ap (step_type m frames line (typed before [])) h.is
      ∙ ap (option_and_then (λ x. Some (Types frames line (with_specifier (typed before []) x)))) (specifier_read m.scope s (All-head (IsAllowed m.scope) s all allowed)) in
      ap (run m (Types frames line (typed before []))) h.parts ∙ one m (Types frames line (typed before [])) h.token h.rest next
      ∙ specifiers_read (before ++ s ∷ []) all h.rest h.others (All-tail (IsAllowed m.scope) s all allowed)
      ∙ ap (λ l. Some (Types frames line (typed l []))) (append_assoc before (s ∷ []) all)

  qualifier_goes : (specifiers : List Specifier) (stars : Stars) (q : Qualifier) (t : Lexeme) → kind_at t ≡ qualifier_kind q → 0 < length stars
      → step m (Types frames line (typed specifiers stars)) t ≡ Some (Types frames line (with_qualifier (typed specifiers stars) q))
  qualifier_goes specifiers [] q t is some = absurd (omega arith)
  qualifier_goes specifiers (star ∷ stars) q t is some =
      step_at_type (typed specifiers (star ∷ stars)) t ∙ ap (step_type m frames line (typed specifiers (star ∷ stars))) is
      ∙ ap (option_and_then (λ x. Some (Types frames line (with_qualifier (typed specifiers (star ∷ stars)) x)))) (qualifier_found q)

  -- the qualifiers behind a star
  qualifiers_read : (specifiers : List Specifier) (done : Stars) (star more : List Qualifier) (ts : List Lexeme) → kinds ts ≡ map qualifier_kind more
      → run m (Types frames line (typed specifiers (done ++ star ∷ []))) ts ≡ Some (Types frames line (typed specifiers (done ++ (star ++ more) ∷ [])))
  qualifiers_read specifiers done star [] ts e =
      ap (run m (Types frames line (typed specifiers (done ++ star ∷ [])))) (none_left ts e) ∙ ap (λ l. Some (Types frames line (typed specifiers (done ++ l ∷ [])))) (sym (append-nil star))
  qualifiers_read specifiers done star (q ∷ more) ts e =
      let h = first_of_kinds ts (qualifier_kind q) (map qualifier_kind more) e in
      let next : step m (Types frames line (typed specifiers (done ++ star ∷ []))) h.token ≡ Some (Types frames line (typed specifiers (done ++ (star ++ q ∷ []) ∷ []))) =
      qualifier_goes specifiers (done ++ star ∷ []) q h.token h.is (some done) ∙ ap (λ l. Some (Types frames line (typed specifiers l))) (at_last-behind done star q) in
      ap (run m (Types frames line (typed specifiers (done ++ star ∷ [])))) h.parts ∙ one m (Types frames line (typed specifiers (done ++ star ∷ []))) h.token h.rest next
      ∙ qualifiers_read specifiers done (star ++ q ∷ []) more h.rest h.others
      ∙ ap (λ l. Some (Types frames line (typed specifiers (done ++ l ∷ [])))) (append_assoc star (q ∷ []) more)
    where
      some : (stars : Stars) → 0 < length (stars ++ star ∷ [])
      some [] = omega arith
      some (s ∷ stars) = omega arith

  stars_read : (specifiers : List Specifier) (done stars : Stars) (ts : List Lexeme) → kinds ts ≡ stars_kinds stars
      → run m (Types frames line (typed specifiers done)) ts ≡ Some (Types frames line (typed specifiers (done ++ stars)))
  stars_read specifiers done [] ts e = ap (run m (Types frames line (typed specifiers done))) (none_left ts e) ∙ ap (λ l. Some (Types frames line (typed specifiers l))) (sym (append-nil done))
  stars_read specifiers done (star ∷ stars) ts e =
      let h = first_of_kinds ts (Punctuator (codes "*")) (map qualifier_kind star ++ stars_kinds stars) e in
      let d = divide h.rest (map qualifier_kind star) (stars_kinds stars) h.others in
      let next : step m (Types frames line (typed specifiers done)) h.token ≡ Some (Types frames line (typed specifiers (done ++ [] ∷ []))) =
      step_at_type (typed specifiers done) h.token ∙ ap (step_type m frames line (typed specifiers done)) h.is in
      ap (run m (Types frames line (typed specifiers done))) h.parts ∙ one m (Types frames line (typed specifiers done)) h.token h.rest next
      ∙ ap (run m (Types frames line (typed specifiers (done ++ [] ∷ [])))) d.parts
      ∙ goes m (Types frames line (typed specifiers (done ++ [] ∷ []))) d.left d.right (qualifiers_read specifiers done [] star d.left d.left_is)
      ∙ stars_read specifiers (done ++ star ∷ []) stars d.right d.right_is
      ∙ ap (λ l. Some (Types frames line (typed specifiers l))) (append_assoc done (star ∷ []) stars)

  begun_first : (s : Specifier) (t : Lexeme) → kind_at t ≡ specifier_kind s → IsAllowed m.scope s → takes_type m.level frames ≡ true
      → step m (Wants (Group line ∷ frames)) t ≡ Some (Types frames line (typed (s ∷ []) []))
  begun_first s t is allowed takes =
      step_at_wanting m (Group line ∷ frames) t ∙ ap (step_wanting m (Group line ∷ frames) (line_of t)) is
      ∙ ap (λ b. if b then Some (Wants (Pre (line_of t) prefixes.Sizeof ∷ Group line ∷ frames))
      else (if is_keyword (specifier_text s) then begun m (Group line ∷ frames) (specifier_of m.scope (specifier_text s)) else named m (Group line ∷ frames) (line_of t) (specifier_text s))) (specifier_no_sizeof s)
      ∙ ap (λ b. if b then begun m (Group line ∷ frames) (specifier_of m.scope (specifier_text s)) else named m (Group line ∷ frames) (line_of t) (specifier_text s)) (specifier_keyword s)
      ∙ ap (begun m (Group line ∷ frames)) (specifier_read m.scope s allowed) ∙ ap (λ b. if b then Some (Types frames line (typed (s ∷ []) [])) else None) takes

  -- a type and its closing parenthesis, behind the opening one
  pub type_read : (type : TypeName) (us : List Lexeme) (c : Lexeme) → SpellsTypeName m.scope us type → kind_at c ≡ Punctuator (codes ")") → takes_type m.level frames ≡ true
      → run m (Wants (Group line ∷ frames)) (us ++ c ∷ []) ≡ Some (ended m frames line type)
  type_read type us c h is takes =
      let rest = h.parts.1 in
      ap (λ l. run m (Wants (Group line ∷ frames)) (l ++ c ∷ [])) (rest ∙ ap (λ l. h.front ++ l) h.parts.2)
      ∙ goes m (Wants (Group line ∷ frames)) (h.front ++ h.back) (c ∷ [])
      (goes m (Wants (Group line ∷ frames)) h.front h.back (by type.specifiers h.front h.specifiers.some h.specifiers.words h.specifiers.allowed)
      ∙ stars_read type.specifiers [] type.stars h.back h.stars)
      ∙ one m (Types frames line type) c [] closes
    where
      closes : step m (Types frames line type) c ≡ Some (ended m frames line type)
      closes = step_at_type type c ∙ ap (step_type m frames line type) is

      by : (all : List Specifier) (front : List Lexeme) → 0 < length all → kinds front ≡ map specifier_kind all → All (IsAllowed m.scope) all
          → run m (Wants (Group line ∷ frames)) front ≡ Some (Types frames line (typed all []))
      by [] front some words allowed = absurd (omega arith)
      by (s ∷ all) front some words allowed =
          let f = first_of_kinds front (specifier_kind s) (map specifier_kind all) words in
          ap (run m (Wants (Group line ∷ frames))) f.parts
          ∙ one m (Wants (Group line ∷ frames)) f.token f.rest (begun_first s f.token f.is (All-head (IsAllowed m.scope) s all allowed) takes)
          ∙ specifiers_read (s ∷ []) all f.rest f.others (All-tail (IsAllowed m.scope) s all allowed)
