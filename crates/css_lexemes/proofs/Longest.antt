-- The length of the longest lexeme of each class.
use Rattle.std.proofs.Common.{◌≡◌, ◌≢◌, ℕ, suc, ◌+◌, ◌<◌, ◌≤◌, inl, inr, Bool, true, false, not, ◌&&◌, List, [], ◌∷◌, ◌++◌, length, take, refl, sym, ap, ◌∙◌, subst, arith, All}
use Rattle.std.specs.Prelude.{◌==◌, IsTrue, take_while}
use Rattle.std.proofs.lemmas.Bool.{both_ways, eqb-true, eqb-false, cases_eq, eq-eqb, ne_eqb, and_parts, cond-true, cond-false, false_from_ne_true, cases_Bool, not-true, and_from}
use Rattle.std.proofs.lemmas.List.Elements.{All-nil, All-cons, All-head, All-tail}
use Rattle.std.proofs.lemmas.List.Sums.{take_while-cons}
use Rattle.css_lexemes.specs.Lexemes.{goes_on, IsNumberTail, IsBody}
use Rattle.css_lexemes.specs.Longest.{tail_length, more_of, closed_length}

-- Bytes that all pass a test are no more than those that pass in front.
pub passing_fit : (p : ℕ → Bool) (front rest : List ℕ) → All (λ c. IsTrue (p c)) front → length front ≤ length (take_while p (front ++ rest))
passing_fit p [] rest all = omega arith
passing_fit p (b ∷ front) rest all =
    let here = All-head (λ c. IsTrue (p c)) b front all in
    let more = passing_fit p front rest (All-tail (λ c. IsTrue (p c)) b front all) in
    let step : take_while p (b ∷ (front ++ rest)) ≡ b ∷ take_while p (front ++ rest) = take_while-cons p b (front ++ rest) ∙ cond-true (p b) _ _ here in
    subst (λ w. length (b ∷ front) ≤ length w) (sym step) (omega (arith, more))

pub passing_pass : (p : ℕ → Bool) (text : List ℕ) → All (λ c. IsTrue (p c)) (take_while p text)
passing_pass p [] = All-nil (λ c. IsTrue (p c))
passing_pass p (b ∷ text) =
    elim (cases_Bool (p b)) [
      | inl holds ↦
          subst (All (λ c. IsTrue (p c))) (sym (take_while-cons p b text ∙ cond-true (p b) _ _ holds))
          (All-cons (λ c. IsTrue (p c)) b (take_while p text) holds (passing_pass p text))
      | inr fails ↦ subst (All (λ c. IsTrue (p c))) (sym (take_while-cons p b text ∙ cond-false (p b) _ _ fails)) (All-nil (λ c. IsTrue (p c)))
    ]

pub take_one_more : (n b : ℕ) (text : List ℕ) → take (1 + n) (b ∷ text) ≡ b ∷ take n text
take_one_more n b text = let e : 1 + n ≡ suc n = omega arith in ap (λ k. take k (b ∷ text)) e

-- The bytes that go on a number are no more than those that go on in front.
pub tail_fits : (before : ℕ) (front rest : List ℕ) → IsNumberTail before front → length front ≤ tail_length before (front ++ rest)
tail_fits before [] rest tail = omega arith
tail_fits before (b ∷ front) rest tail =
    let step : tail_length before (b ∷ (front ++ rest)) ≡ 1 + tail_length b (front ++ rest) = cond-true (goes_on before b) _ _ tail.0 in
    let more = tail_fits b front rest tail.1 in
    subst (λ n. length (b ∷ front) ≤ n) (sym step) (omega (arith, more))

pub tail_is : (before : ℕ) (text : List ℕ) → IsNumberTail before (take (tail_length before text) text)
tail_is before [] = tt
tail_is before (b ∷ text) =
    elim (cases_Bool (goes_on before b)) [
      | inl holds ↦
          let step : tail_length before (b ∷ text) ≡ 1 + tail_length b text = cond-true (goes_on before b) _ _ holds in
          subst (IsNumberTail before) (sym (ap (λ n. take n (b ∷ text)) step ∙ take_one_more (tail_length b text) b text)) (holds, tail_is b text)
      | inr fails ↦
          let step : tail_length before (b ∷ text) ≡ 0 = cond-false (goes_on before b) _ _ fails in
          subst (IsNumberTail before) (sym (ap (λ n. take n (b ∷ text)) step)) tt
    ]

pub more_of_some : (more n : ℕ) → 0 < n → more_of more n ≡ more + n
more_of_some more n some = cond-false (n == 0) _ _ (ne_eqb n 0 (λ e. omega arith))

pub more_of_none : (more n : ℕ) → n ≡ 0 → more_of more n ≡ 0
more_of_none more n none = cond-true (n == 0) _ _ (eq-eqb n 0 none)

-- What is left of a constant ends where its body does.
pub body_fits : (quote : ℕ) (escaped : Bool) (body rest : List ℕ) → quote ≢ 10 → IsBody quote escaped body
    → closed_length quote escaped (body ++ quote ∷ rest) ≡ length body + 1
body_fits quote escaped [] rest plain ends =
    cond-false (quote == 10) _ _ (ne_eqb quote 10 plain)
    ∙ (cond-true ((quote == quote) && not escaped) _ _ (and_from (quote == quote) (not escaped) (eq-eqb quote quote refl) (ap not ends)) ∙ omega arith)
body_fits quote escaped (b ∷ body) rest plain goes =
    let more = body_fits quote ((b == 92) && not escaped) body rest plain goes.2 in
    cond-false (b == 10) _ _ (ne_eqb b 10 goes.0)
    ∙ (cond-false ((b == quote) && not escaped) _ _ (false_from_ne_true ((b == quote) && not escaped)
    (λ holds. let h = and_parts (b == quote) (not escaped) holds in goes.1 (not-true escaped h.1) (eqb-true b quote h.0)))
    ∙ (ap (more_of 1) more ∙ (more_of_some 1 (length body + 1) (omega arith) ∙ omega arith)))

-- The bytes up to the quote.
pub record IsClosed (quote : ℕ) (escaped : Bool) (bytes : List ℕ) : Type 0 where
  pub body : List ℕ
  pub bytes_are : bytes ≡ body ++ quote ∷ []
  pub is_body : IsBody quote escaped body

one_more : (quote : ℕ) (escaped : Bool) (b : ℕ) (bytes : List ℕ) → b ≢ 10 → ((b == quote) && not escaped) ≡ false
    → IsClosed quote ((b == 92) && not escaped) bytes → IsClosed quote escaped (b ∷ bytes)
one_more quote escaped b bytes plain other closed =
    record {
      body = b ∷ closed.body;
      bytes_are = ap (λ r. b ∷ r) closed.bytes_are;
      is_body =
          (plain, λ e is. both_ways ((b == quote) && not escaped) other (and_from (b == quote) (not escaped) (eq-eqb b quote is) (ap not e)), closed.is_body);
    }

-- One byte more in front of what is closed.
closed_on : (quote : ℕ) (escaped : Bool) (b rest : ℕ) (text : List ℕ) → b ≢ 10 → ((b == quote) && not escaped) ≡ false → 0 < more_of 1 rest
    → (0 < rest → IsClosed quote ((b == 92) && not escaped) (take rest text)) → IsClosed quote escaped (take (more_of 1 rest) (b ∷ text))
closed_on quote escaped b rest text plain other some closed =
    elim (cases_eq rest 0) [
      | inl none ↦ absurd (omega (arith, some, more_of_none 1 rest none))
      | inr more ↦
          let inside : 0 < rest = omega (arith, more) in
          subst (IsClosed quote escaped) (sym (ap (λ n. take n (b ∷ text)) (more_of_some 1 rest inside) ∙ take_one_more rest b text))
          (one_more quote escaped b (take rest text) plain other (closed inside))
    ]

closed_at : (quote : ℕ) (escaped : Bool) (b : ℕ) (text : List ℕ) → (b == quote) ≡ true → not escaped ≡ true → IsClosed quote escaped (b ∷ [])
closed_at quote escaped b text same ends = record { body = []; bytes_are = ap (λ q. q ∷ []) (eqb-true b quote same); is_body = not-true escaped ends }

pub closed_is : (quote : ℕ) (escaped : Bool) (text : List ℕ) → 0 < closed_length quote escaped text
    → IsClosed quote escaped (take (closed_length quote escaped text) text)
closed_is quote escaped [] some = absurd (omega arith)
closed_is quote escaped (b ∷ text) some =
    elim (cases_Bool (b == 10)) [
      | inl newline ↦ absurd (let e : closed_length quote escaped (b ∷ text) ≡ 0 = cond-true (b == 10) _ _ newline in omega (arith, e, some))
      | inr plain ↦
          elim (cases_Bool ((b == quote) && not escaped)) [
            | inl ends ↦
                let h = and_parts (b == quote) (not escaped) ends in
                let one : closed_length quote escaped (b ∷ text) ≡ 1 = cond-false (b == 10) _ _ plain ∙ cond-true ((b == quote) && not escaped) _ _ ends in
                subst (λ n. IsClosed quote escaped (take n (b ∷ text))) (sym one) (closed_at quote escaped b text h.0 h.1)
            | inr other ↦
                let rest = closed_length quote ((b == 92) && not escaped) text in
                let then : closed_length quote escaped (b ∷ text) ≡ more_of 1 rest =
                cond-false (b == 10) _ _ plain ∙ cond-false ((b == quote) && not escaped) _ _ other in
                subst (λ n. IsClosed quote escaped (take n (b ∷ text))) (sym then)
                (closed_on quote escaped b rest text (eqb-false b 10 plain) other (omega (arith, then, some)) (closed_is quote ((b == 92) && not escaped) text))
          ]
    ]
