-- What is known of a line, one byte later.
use Rattle.std.proofs.Common.{◌≡◌, ℕ, ◌+◌, Bool, true, false, not, List, [], ◌∷◌, ◌++◌, length, take, refl, ap, sym, ◌∙◌, arith, append_assoc, take_at, eq-eqb, length-append, Some, None}
use Rattle.std.proofs.Math.Seq.{take-length}
use Rattle.std.proofs.lemmas.List.Folds.{length-prefix_len, prefix_len-append}
use Rattle.std.specs.List.{prefix_len}
use Rattle.css_lexemes.specs.LineKinds.{line_kind}
use Rattle.css_lexemes.specs.Comments.{is_quote, is_passed_over, unquoted, passes_over}
use Rattle.css_lexemes.specs.Fronts.{IsKnown}

abbrev pub IsUnquoted : List ℕ → Type 0
IsUnquoted front = unquoted front ≡ front

-- Of a front without quotes all bytes pass.
all_pass : (front : List ℕ) → IsUnquoted front → prefix_len (λ b. not (is_quote b)) front ≡ length front
all_pass front plain = sym (length-prefix_len (λ b. not (is_quote b)) front) ∙ ap length plain

behind_plain : (front more : List ℕ) → IsUnquoted front
    → prefix_len (λ b. not (is_quote b)) (front ++ more) ≡ length front + prefix_len (λ b. not (is_quote b)) more
behind_plain front more plain =
    let all = all_pass front plain in
    let same = eq-eqb (prefix_len (λ b. not (is_quote b)) front) (length front) all in
    prefix_len-append (λ b. not (is_quote b)) front more ∙ rw same refl

-- A quote ends what stands before it.
pub at_quote : (front : List ℕ) (b : ℕ) (more : List ℕ) → IsUnquoted front → is_quote b ≡ true → unquoted (front ++ b ∷ more) ≡ front
at_quote front b more plain quote =
    let none : prefix_len (λ c. not (is_quote c)) (b ∷ more) ≡ 0 = rw (prefix_len, quote) refl in
    let size : prefix_len (λ c. not (is_quote c)) (front ++ b ∷ more) ≡ length front = behind_plain front (b ∷ more) plain ∙ omega (arith, none) in
    ap (λ n. take n (front ++ b ∷ more)) size ∙ take_at front (b ∷ more) (length front) refl

-- Another byte doesn't.
pub at_other : (front : List ℕ) (b : ℕ) → IsUnquoted front → is_quote b ≡ false → unquoted (front ++ b ∷ []) ≡ front ++ b ∷ []
at_other front b plain other =
    let one : prefix_len (λ c. not (is_quote c)) (b ∷ []) ≡ 1 = rw (prefix_len, other) refl in
    let size : prefix_len (λ c. not (is_quote c)) (front ++ b ∷ []) ≡ length (front ++ b ∷ []) = behind_plain front (b ∷ []) plain ∙ omega (arith, one, length-append front (b ∷ [])) in
    ap (λ n. take n (front ++ b ∷ [])) size ∙ take-length (front ++ b ∷ [])

-- The first quote tells.
pub known_first : (front : List ℕ) (b : ℕ) (unread : Bool) → IsUnquoted front → is_quote b ≡ true → unread ≡ passes_over front → IsKnown (front ++ b ∷ []) (Some unread)
known_first front b unread plain quote is = (λ e. grind (arith, e), λ x e. (stays, by x (grind (arith, e))))
  where
    stays : (more : List ℕ) → unquoted ((front ++ b ∷ []) ++ more) ≡ unquoted (front ++ b ∷ [])
    stays more = ap unquoted (append_assoc front (b ∷ []) more) ∙ at_quote front b more plain quote ∙ sym (at_quote front b [] plain quote)

    by : (x : Bool) → unread ≡ x → x ≡ passes_over (front ++ b ∷ [])
    by x same = sym same ∙ is ∙ ap (λ z. is_passed_over (line_kind z)) (plain ∙ sym (at_quote front b [] plain quote))

pub unknown_still : (front : List ℕ) (b : ℕ) → IsUnquoted front → is_quote b ≡ false → IsKnown (front ++ b ∷ []) None
unknown_still front b plain other = (λ e. at_other front b plain other, λ x e. grind (arith, e))
