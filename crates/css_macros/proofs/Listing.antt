-- Tokens whose words have numbers, as more words get numbers.
use Rattle.std.proofs.Common.{◌≡◌, append_assoc, Vec, ℕ, true, List, [], ◌∷◌, ◌++◌, map, Option, Some, None, bytes_eq, refl, ap, sym, ◌∙◌, arith}
use Rattle.std.specs.List.{list_all, position_or_len}
use Rattle.std.proofs.lemmas.Bool.{and_parts, and_from}
use Rattle.std.proofs.lemmas.List.{map_push}
use Rattle.std.proofs.lemmas.List.Folds.{list_all-append}
use Rattle.indexmap.specs.IndexSet.{IndexSet}
use Rattle.css_macros.specs.NumberedWords.{words_of, Grows}
use Rattle.css_macros.specs.Numbers.{number_in}
use Rattle.css_macros.specs.ListedTokens.{is_number_of, is_listed}
use Rattle.css_macros.specs.declared.listed_token.ListedToken.{ListedToken}
use Rattle.css_macros.specs.declared.macro_token.MacroToken.{MacroToken}
use Rattle.css_macros.specs.declared.macro_token.MacroToken.TheVariants as code
use Rattle.css_macros.proofs.Numbering.{number_is, number_known, number-grows, number-pushed, place-new, place_fits, place-mapped}

-- A word that is put into a set has a number then: its place.
pub inserted : {K : Type 0} (bytes : K → List ℕ) (keys : List K) (key : K)
    → number_in (map bytes keys) (bytes key) ≡ None
    → number_in (map bytes (keys ++ key ∷ [])) (bytes key) ≡ Some (position_or_len (λ k. bytes_eq (bytes key) (bytes k)) keys)
inserted bytes keys key none =
    let words : List (List ℕ) = map bytes keys in
    let word : List ℕ = bytes key in
    let long = place-new words word none in
    let fits = place_fits words word in
    ap (λ ws. number_in ws word) (map_push bytes keys key) ∙ number-pushed words word none
    ∙ ap Some (sym (place-mapped (bytes_eq word) bytes keys ∙ omega arith))

pub number_of-grows : (words more : List (List ℕ)) (token : MacroToken) (number : Option ℕ)
    → is_number_of words token number ≡ true → is_number_of (words ++ more) token number ≡ true
number_of-grows words more (code.Word bytes) None e = cc
number_of-grows words more (code.Word bytes) (Some n) e =
    number_known n (number_in (words ++ more) bytes) (number-grows words more bytes n (number_is n (number_in words bytes) e))
number_of-grows words more (code.Number type value) number e = e
number_of-grows words more (code.Character byte) number e = e
number_of-grows words more (code.Text bytes) number e = e
number_of-grows words more (code.Punctuator bytes) number e = e

pub listed-grow : (words more : List (List ℕ)) (tokens : List ListedToken) → list_all (is_listed words) tokens ≡ true → list_all (is_listed (words ++ more)) tokens ≡ true
listed-grow words more [] e = refl
listed-grow words more (t ∷ tokens) e =
    let parts = and_parts (is_listed words t) (list_all (is_listed words) tokens) e in
    and_from (is_listed (words ++ more) t) (list_all (is_listed (words ++ more)) tokens)
    (number_of-grows words more t.token t.number parts.0) (listed-grow words more tokens parts.1)

-- One more token behind others, once more words have numbers.
pub listed-pushed : (words more all : List (List ℕ)) (tokens new : List ListedToken) (token : ListedToken)
    → all ≡ words ++ more → new ≡ tokens ++ token ∷ [] → list_all (is_listed words) tokens ≡ true → is_listed all token ≡ true
    → list_all (is_listed all) new ≡ true
listed-pushed words more all tokens new token grown pushed old one =
    let front : list_all (is_listed all) tokens ≡ true = rw grown (listed-grow words more tokens old) in
    let last : list_all (is_listed all) (token ∷ []) ≡ true = and_from (is_listed all token) true one refl in
    ap (list_all (is_listed all)) pushed ∙ list_all-append (is_listed all) tokens (token ∷ [])
    ∙ and_from (list_all (is_listed all) tokens) (list_all (is_listed all) (token ∷ [])) front last

pub grows-again : {A S : Type 0} (first second third : IndexSet (Vec ℕ A) S) → Grows first second → Grows second third → Grows first third
grows-again first second third a b =
    (a.0 ++ b.0, b.1 ∙ ap (λ ws. ws ++ b.0) a.1 ∙ append_assoc (words_of first) a.0 b.0)
