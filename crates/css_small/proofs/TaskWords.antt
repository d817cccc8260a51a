-- The words of a task's directive.
use Rattle.std.proofs.Common.{◌≡◌, ℕ, ◌<◌, Bool, true, false, List, [], ◌∷◌, map, length, get_or, codes, Option, Some, None, bytes_eq, refl, sym, ap, ◌∙◌, ◌&&◌}
use Rattle.std.proofs.lemmas.List.{length-map, get_or-map}
use Rattle.std.proofs.lemmas.Slice.Eq.{bytes_eq-Decides}
use Rattle.css_base.specs.Tokens.{Kind, Word, Punctuator, kind_of, lexemes}
use Rattle.css_base.specs.declared.token.Token.{Token}
use Rattle.css_tree.specs.Shapes.{in_row}
use Rattle.css_small.specs.Trees.{where_true, kinds_of, task_of}

-- `task inout(parameter)`
abbrev pub task_words : List ℕ → List Kind
task_words parameter = Word (codes "task") ∷ Word (codes "inout") ∷ Punctuator (codes "(") ∷ Word parameter ∷ Punctuator (codes ")") ∷ []

-- the kinds of tokens
abbrev pub words_of : List Token → List Kind
words_of ts = kinds_of (in_row (lexemes ts))

words-map : (ts : List Token) → words_of ts ≡ map (λ t. kind_of t.kind) ts
words-map [] = refl
words-map (t ∷ ts) = ap (λ ks. kind_of t.kind ∷ ks) (words-map ts)

pub length-words : (ts : List Token) → length (words_of ts) ≡ length ts
length-words ts = ap length (words-map ts) ∙ length-map ts (λ t. kind_of t.kind)

pub word_at : (ts : List Token) (i : ℕ) (t : Token) → i < length ts → t ≡ get_or ts i t → (d : Kind) → get_or (words_of ts) i d ≡ kind_of t.kind
word_at ts i t below is d = ap (λ ks. get_or ks i d) (words-map ts) ∙ get_or-map (λ t. kind_of t.kind) ts i t d below ∙ ap (λ t. kind_of t.kind) (sym is)

where_false : {A : Type 0} (b : Bool) (part : Option A) → (b ≡ true → ⊥) → where_true b part ≡ None
where_false true part wrong = absurd (wrong refl)
where_false false part wrong = refl

all_true : (a b c d : Bool) → (a && b && c && d) ≡ true → (a ≡ true) × (b ≡ true) × (c ≡ true) × (d ≡ true)
all_true true true true true e = (refl, refl, refl, refl)
all_true a b c d e = absurd (cc)

pub other_words : (ks : List Kind) → ((parameter : List ℕ) → ks ≡ task_words parameter → ⊥) → task_of ks ≡ None
other_words (Word task ∷ Word inout ∷ Punctuator opens ∷ Word parameter ∷ Punctuator closes ∷ []) wrong =
    where_false (bytes_eq task (codes "task") && bytes_eq inout (codes "inout") && bytes_eq opens (codes "(") && bytes_eq closes (codes ")")) (Some parameter) (λ holds.
    let all = all_true (bytes_eq task (codes "task")) (bytes_eq inout (codes "inout")) (bytes_eq opens (codes "(")) (bytes_eq closes (codes ")")) holds in
    let task_is : task ≡ codes "task" = (bytes_eq-Decides task (codes "task")).0 all.0 in
    let inout_is : inout ≡ codes "inout" = (bytes_eq-Decides inout (codes "inout")).0 all.1 in
    let opens_is : opens ≡ codes "(" = (bytes_eq-Decides opens (codes "(")).0 all.2 in
    let closes_is : closes ≡ codes ")" = (bytes_eq-Decides closes (codes ")")).0 all.3 in
    wrong parameter (cc (task_is, inout_is, opens_is, closes_is)))
other_words ks wrong = refl

-- tokens of which one is another
pub other_at : (ts : List Token) (i : ℕ) (t : Token) (k : Kind) → i < length ts → t ≡ get_or ts i t → (kind_of t.kind ≡ k → ⊥)
    → (parameter : List ℕ) → get_or (task_words parameter) i k ≡ k → words_of ts ≡ task_words parameter → ⊥
other_at ts i t k below is other parameter there same = other (sym (word_at ts i t below is k) ∙ ap (λ ks. get_or ks i k) same ∙ there)

-- tokens that are too few or too many
pub other_length : (ts : List Token) (parameter : List ℕ) → words_of ts ≡ task_words parameter → length ts ≡ 5
other_length ts parameter same = sym (length-words ts) ∙ ap length same
