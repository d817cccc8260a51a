-- Parts that are gathered one behind another.
use Rattle.std.proofs.Common.{◌≡◌, List, [], ◌∷◌, ◌++◌, sym, subst, append_assoc, append-nil}
use Rattle.css_base.specs.Tokens.{Lexeme}

-- Some parts were read, and put says how others behind them are put together with them. What is read here goes on what is
-- read as a whole, and what was to be read before goes on here.
pub record Goes {A : Type 0} (put : A → A) (whole before here : A → List Lexeme → Type 0) : Type 0 where
  pub more : (x : A) (rest : List Lexeme) → here x rest → whole (put x) rest
  pub left : (x : A) (rest : List Lexeme) → before x rest → (y : A) × here y rest

-- the same where all is to be read
abbrev pub SoFar : {A : Type 0} → (List A → List Lexeme → Type 0) → (List A → List Lexeme → Type 0) → List A → Type 0
SoFar whole here done = Goes (λ xs. done ++ xs) whole whole here

pub nothing_yet : {A : Type 0} (whole : A → List Lexeme → Type 0) → Goes (λ x. x) whole whole whole
nothing_yet whole = record { more = λ xs rest r. r; left = λ xs rest r. (xs, r) }

pub goes_on : {A : Type 0} {whole before here behind : A → List Lexeme → Type 0} (put next cons : A → A) → Goes put whole before here
    → ((x : A) → next x ≡ put (cons x))
    → ((x : A) (rest : List Lexeme) → behind x rest → here (cons x) rest)
    → ((x : A) (rest : List Lexeme) → here x rest → (y : A) × behind y rest)
    → Goes next whole before behind
goes_on {whole = whole} put next cons g is add drop = record {
  more = λ x rest r. subst (λ l. whole l rest) (sym (is x)) (g.more (cons x) rest (add x rest r));
  left = λ x rest r. (let l = g.left x rest r in drop l.0 rest l.1);
}

pub one_more : {A : Type 0} {whole before here behind : List A → List Lexeme → Type 0} (done : List A) (x : A) → Goes (λ xs. done ++ xs) whole before here
    → ((xs : List A) (rest : List Lexeme) → behind xs rest → here (x ∷ xs) rest)
    → ((xs : List A) (rest : List Lexeme) → here xs rest → (ys : List A) × behind ys rest)
    → Goes (λ xs. (done ++ x ∷ []) ++ xs) whole before behind
one_more done x g add drop = goes_on (λ xs. done ++ xs) (λ xs. (done ++ x ∷ []) ++ xs) (λ xs. x ∷ xs) g (λ xs. append_assoc done (x ∷ []) xs) add drop

pub all_read : {A : Type 0} {whole before here : List A → List Lexeme → Type 0} (done : List A) {rest : List Lexeme} → Goes (λ xs. done ++ xs) whole before here → here [] rest → whole done rest
all_read {whole = whole} done {rest} s r = subst (λ l. whole l rest) (append-nil done) (s.more [] rest r)
