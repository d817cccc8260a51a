-- The words of types: none is a directive, and tokens of the same kinds spell the same.
use Rattle.std.proofs.Common.{List, [], ◌∷◌, map, refl, sym, ◌∙◌, subst}
use Rattle.css_base.specs.Tokens.{Lexeme}
use Rattle.css_tree.specs.declared.scope.Scope.{Scope}
use Rattle.css_tree.specs.declared.words.Specifier.{Specifier}
use Rattle.css_tree.specs.declared.words.Qualifier.{Qualifier}
use Rattle.css_tree.specs.Syntax.{Stars, TypeName}
use Rattle.css_tree.specs.Words.{specifier_kind, qualifier_kind, stars_kinds, SpellsSpecifiers, SpellsStars, SpellsTypeName}
use Rattle.css_unmarking.proofs.Others.{Same, Done, Tokens, same_parts, kinds_same, ArePlain, Plain, plain_both, plain_parts}

specifier_words : (all : List Specifier) → ArePlain (map specifier_kind all)
specifier_words [] = tt
specifier_words (s ∷ all) = (refl, specifier_words all)

qualifier_words : (all : List Qualifier) → ArePlain (map qualifier_kind all)
qualifier_words [] = tt
qualifier_words (q ∷ all) = (refl, qualifier_words all)

star_words : (stars : Stars) → ArePlain (stars_kinds stars)
star_words [] = tt
star_words (star ∷ stars) = (refl, plain_both (map qualifier_kind star) (stars_kinds stars) (qualifier_words star) (star_words stars))

pub specifiers_plain : {scope : Scope} {ts : List Lexeme} {all : List Specifier} → SpellsSpecifiers scope ts all → Plain ts
specifiers_plain {all = all} s = subst ArePlain (sym s.words) (specifier_words all)

pub stars_plain : (ts : List Lexeme) (stars : Stars) → SpellsStars ts stars → Plain ts
stars_plain ts stars s = subst ArePlain (sym s) (star_words stars)

pub type_plain : {scope : Scope} {ts : List Lexeme} {type : TypeName} → SpellsTypeName scope ts type → Plain ts
type_plain {ts = ts} {type = type} s = plain_parts ts (Tokens (Tokens Done)) s.parts (specifiers_plain s.specifiers, (stars_plain s.back type.stars s.stars, tt))

pub specifiers_same : {scope : Scope} {ts : List Lexeme} {all : List Specifier} → SpellsSpecifiers scope ts all → (us : List Lexeme) → Same ts us → SpellsSpecifiers scope us all
specifiers_same {ts = ts} s us h = record { some = s.some; words = kinds_same ts us h ∙ s.words; allowed = s.allowed }

pub stars_same : (ts : List Lexeme) (stars : Stars) → SpellsStars ts stars → (us : List Lexeme) → Same ts us → SpellsStars us stars
stars_same ts stars s us h = kinds_same ts us h ∙ s

pub type_same : {scope : Scope} {ts : List Lexeme} {type : TypeName} → SpellsTypeName scope ts type → (us : List Lexeme) → Same ts us → SpellsTypeName scope us type
type_same {ts = ts} {type = type} s us h =
    let (front, p, (back, q, a)) = same_parts ts us (Tokens (Tokens Done)) s.parts h in
    record { front = front; back = back; parts = a; specifiers = specifiers_same s.specifiers front p; stars = stars_same s.back type.stars s.stars back q }
