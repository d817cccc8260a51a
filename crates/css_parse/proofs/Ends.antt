-- The line in which the tokens that were read end.
use Rattle.std.proofs.Common.{◌≡◌, ℕ, zero, suc, ◌+◌, ◌-◌, ◌<◌, List, [], ◌∷◌, ◌++◌, length, take, get_or, refl, sym, ap, ◌∙◌, arith}
use Rattle.std.proofs.Math.Seq.{take-append-add}
use Rattle.std.proofs.lemmas.List.{length-append, length-map, length-take-le, take_at}
use Rattle.css_base.specs.declared.token.Token.{Token}
use Rattle.css_base.specs.Tokens.{Lexeme, lexeme, lexemes}
use Rattle.css_tree.specs.TokenParts.{last_line}
use Rattle.css_parse.specs.ItemReadings.{read}

-- what stands before the rest was read
pub front_read : {ts : List Lexeme} (front rest : List Lexeme) → ts ≡ front ++ rest → read ts rest ≡ front
front_read front rest e = ap (λ l. read l rest) e ∙ take_at front rest (length (front ++ rest) - length rest) (omega (arith, length-append front rest))

last_behind : (us vs : List Lexeme) → 0 < length vs → last_line (us ++ vs) ≡ last_line vs
last_behind [] vs some = refl
last_behind (u ∷ []) [] some = absurd (omega arith)
last_behind (u ∷ []) (v ∷ vs) some = refl
last_behind (u ∷ w ∷ us) vs some = last_behind (w ∷ us) vs some

-- tokens before them don't matter
pub end_behind : {ts : List Lexeme} (front us rest : List Lexeme) → ts ≡ front ++ us → length rest < length us → last_line (read ts rest) ≡ last_line (read us rest)
end_behind front us rest e short =
    let size : length (front ++ us) - length rest ≡ length front + (length us - length rest) = omega (arith, length-append front us) in
    let some : 0 < length (read us rest) = omega (arith, length-take-le (length us - length rest) us (omega arith)) in
    ap (λ l. last_line (read l rest)) e ∙ ap (λ n. last_line (take n (front ++ us))) size ∙ ap last_line (take-append-add front us (length us - length rest))
    ∙ last_behind front (read us rest) some

last_taken : (ts : List Token) (i : ℕ) (d : Token) → i < length ts → last_line (take (suc i) (lexemes ts)) ≡ (get_or ts i d).line
last_taken [] i d within = absurd (omega arith)
last_taken (t ∷ ts) zero d within = refl
last_taken (t ∷ []) (suc i) d within = absurd (omega arith)
last_taken (t ∷ u ∷ ts) (suc i) d within = last_taken (u ∷ ts) i d (omega arith)

-- the token before the rest is the last one
pub last_read : (ts rest : List Token) (d : Token) → length rest < length ts → (get_or ts (length ts - length rest - 1) d).line ≡ last_line (read (lexemes ts) (lexemes rest))
last_read ts rest d short =
    let i = length ts - length rest - 1 in
    let size : suc i ≡ length (lexemes ts) - length (lexemes rest) = omega (arith, length-map ts lexeme, length-map rest lexeme) in
    sym (last_taken ts i d (omega arith)) ∙ ap (λ n. last_line (take n (lexemes ts))) size
