-- The tokens of a program that aren't directives spell it without its marks.
use Rattle.std.proofs.Common.{◌≡◌, ℕ, List, [], ◌∷◌, codes, Option, Some, None, option_map, sym, ◌∙◌}
use Rattle.css_base.specs.Tokens.{Lexeme}
use Rattle.css_tree.specs.Syntax.{Mark, Block, Parameter, Parameters, Empty, VoidAlone, Listed, Body, Item, Define, Declare, Tree}
use Rattle.css_tree.specs.TokenParts.{word, Are}
use Rattle.css_tree.specs.Items.{SpellsOptionalName, SpellsParameter, SpellsParameters, SpellsOptionalMark, SpellsBody, SpellsItem, SpellsProgram}
use Rattle.css_tree.specs.Marks.{unmarked_body, unmarked_item, unmarked}
use Rattle.css_unmarking.proofs.Others.{Same, Done, Tokens, Sign, Named, same_parts, first_same, Plain, plain_parts, AreOthers, others_same, others_parts, starts, first_others, Ends, ends, last_others}
use Rattle.css_unmarking.proofs.OthersWords.{specifiers_plain, specifiers_same, stars_plain, stars_same}
use Rattle.css_unmarking.proofs.OthersDeclarations.{nothing_plain, nothing_same, between_plain, between_same, dimensions_plain, dimensions_same}
use Rattle.css_unmarking.proofs.OthersStatements.{declaration_others, nothing_left, mark_gone, statement_others}

-- ---- parameters

name_plain : (ts : List Lexeme) (name : Option (List ℕ)) → SpellsOptionalName ts name → Plain ts
name_plain ts None s = nothing_plain ts s
name_plain ts (Some name) s = plain_parts ts (Named Done) s.0 tt

name_same : (ts : List Lexeme) (name : Option (List ℕ)) → SpellsOptionalName ts name → (us : List Lexeme) → Same ts us → SpellsOptionalName us name
name_same ts None s us h = nothing_same ts us s h
name_same ts (Some name) s us h = (same_parts ts us (Named Done) s.0 h, s.1)

parameter_plain : (ts : List Lexeme) (p : Parameter) → SpellsParameter ts p → Plain ts
parameter_plain ts p s =
    plain_parts ts (Tokens (Tokens (Tokens (Tokens Done)))) s.parts
    (specifiers_plain s.spells_specifiers, (stars_plain s.stars p.stars s.spells_stars, (name_plain s.name p.name s.spells_name, (dimensions_plain _ s.dimensions p.dimensions s.spells_dimensions, tt))))

parameter_same : (ts : List Lexeme) (p : Parameter) → SpellsParameter ts p → (us : List Lexeme) → Same ts us → SpellsParameter us p
parameter_same ts p s us h =
    let (specifiers, i, (stars, j, (name, k, (dimensions, l, a)))) = same_parts ts us (Tokens (Tokens (Tokens (Tokens Done)))) s.parts h in
    record {
      specifiers = specifiers;
      stars = stars;
      name = name;
      dimensions = dimensions;
      parts = a;
      line_is = first_same ts us h ∙ s.line_is;
      spells_specifiers = specifiers_same s.spells_specifiers specifiers i;
      spells_stars = stars_same s.stars p.stars s.spells_stars stars j;
      spells_name = name_same s.name p.name s.spells_name name k;
      spells_dimensions = dimensions_same _ s.dimensions p.dimensions s.spells_dimensions dimensions l;
    }

void_alone : (ts us : List Lexeme) → Same ts us → Are us (word (codes "void") ∷ []) → Are ts (word (codes "void") ∷ [])
void_alone ts us h a = same_parts us ts (Named Done) a (sym h)

parameters_plain : (ts : List Lexeme) (all : Parameters) → SpellsParameters ts all → Plain ts
parameters_plain ts Empty s = nothing_plain ts s
parameters_plain ts VoidAlone s = plain_parts ts (Named Done) s tt
parameters_plain ts (Listed all) s = between_plain SpellsParameter parameter_plain ts all s.0

parameters_same : (ts : List Lexeme) (all : Parameters) → SpellsParameters ts all → (us : List Lexeme) → Same ts us → SpellsParameters us all
parameters_same ts Empty s us h = nothing_same ts us s h
parameters_same ts VoidAlone s us h = same_parts ts us (Named Done) s h
parameters_same ts (Listed all) s us h = (between_same SpellsParameter parameter_same ts all s.0 us h, λ alone. s.1 (void_alone ts us h alone))

-- ---- items

optional_mark_gone : (ts us : List Lexeme) (m : Option Mark) → SpellsOptionalMark ts m → AreOthers ts us → us ≡ []
optional_mark_gone ts us None s h = nothing_left ts us s h
optional_mark_gone ts us (Some m) s h = mark_gone ts us m s h

body_others : (ts : List Lexeme) (body : Option Body) → SpellsBody ts body → (us : List Lexeme) → AreOthers ts us → SpellsBody us (option_map unmarked_body body)
body_others ts None s us h = others_parts ts us (Sign Done) s h
body_others ts (Some body) s us h = statement_others ts (Block body.line body.entries) s us h

body_ends : (ts : List Lexeme) (body : Option Body) → SpellsBody ts body → Ends ts
body_ends ts None s = ends ts (Sign Done) s tt
body_ends ts (Some body) (us, a, line_is, s) = ends ts (Sign (Tokens (Sign Done))) a tt

item_others : (ts : List Lexeme) (i : Item) → SpellsItem ts i → (us : List Lexeme) → AreOthers ts us → SpellsItem us (unmarked_item i)
item_others ts (Define f) s us h =
    let (directive, g, (rest, j, begins)) = others_parts ts us (Tokens (Tokens Done)) s.begins h in
    let (specifiers, k, (stars, l, (parameters, m, (body, n, a)))) = others_parts s.rest rest (Tokens (Tokens (Named (Sign (Tokens (Sign (Tokens Done))))))) s.parts j in
    let first_words = starts s.rest (Tokens (Tokens (Named (Sign (Tokens (Sign (Tokens Done))))))) s.parts (specifiers_plain s.spells_specifiers, (stars_plain s.stars f.stars s.spells_stars, tt)) in
    let last_word = ends ts (Tokens (Tokens Done)) s.begins (ends s.rest (Tokens (Tokens (Named (Sign (Tokens (Sign (Tokens Done))))))) s.parts (body_ends s.body f.body s.spells_body)) in
    record {
      directive = directive;
      rest = rest;
      specifiers = specifiers;
      stars = stars;
      parameters = parameters;
      body = body;
      begins = begins;
      parts = a;
      line_is = first_others s.rest rest first_words j ∙ s.line_is;
      end_is = last_others ts us last_word h ∙ s.end_is;
      spells_directive = optional_mark_gone s.directive directive f.directive s.spells_directive g;
      spells_specifiers = specifiers_same s.spells_specifiers specifiers (others_same s.specifiers specifiers (specifiers_plain s.spells_specifiers) k);
      spells_stars = stars_same s.stars f.stars s.spells_stars stars (others_same s.stars stars (stars_plain s.stars f.stars s.spells_stars) l);
      named = s.named;
      spells_parameters = parameters_same s.parameters f.parameters s.spells_parameters parameters
          (others_same s.parameters parameters (parameters_plain s.parameters f.parameters s.spells_parameters) m);
      spells_body = body_others s.body f.body s.spells_body body n;
    }
item_others ts (Declare d) s us h = declaration_others _ ts d s us h

-- ---- programs

pub program_others : (ts : List Lexeme) (tree : Tree) → SpellsProgram ts tree → (us : List Lexeme) → AreOthers ts us → SpellsProgram us (unmarked tree)
program_others ts [] s others h = nothing_left ts others s h
program_others ts (i ∷ is) (us, vs, a, s, more) others h =
    let (us', p, (vs', q, b)) = others_parts ts others (Tokens (Tokens Done)) a h in
    (us', vs', b, item_others us i s us' p, program_others vs is more vs' q)
