-- Words that are replaced one after the other.
use Rattle.std.proofs.Common.{◌≡◌, ℕ, ◌+◌, ◌≤◌, ◌||◌, List, [], ◌∷◌, ◌++◌, inl, inr, refl, sym, ap, ◌∙◌, arith, append_assoc}
use Rattle.std.specs.Prelude.{nat_lt}
use Rattle.std.proofs.lemmas.Bool.{cond-true, cond-false, cases_Bool, le-ltb, or_from}
use Rattle.std.proofs.lemmas.List.Sums.{sum_by-cons}
use Rattle.css_base.specs.Tokens.{Lexeme}
use Rattle.css_base.specs.declared.static_fault.StaticName.TheVariants as statics
use Rattle.css_lex.specs.declared.breach.Breach.{Breach}
use Rattle.css_macros.specs.Macros.{Table}
use Rattle.css_lex.specs.Costs.{Cost}
use Rattle.css_lex.specs.Refusals.{breach, overruns}
use Rattle.css_lex.specs.Expanded.{replaced_word, expanded, word_cost, word_costs, tokens_among, names_among, IsHead}

-- Of some words those that are left are still to be replaced.
pub record IsExpanding (table : Table) (before : List Lexeme) (tokens names : ℕ) (words done : List Lexeme) (tokens_now names_now : ℕ) (rest : List Lexeme) : Type 0 where
  pub tokens_are : before ++ expanded table words ≡ done ++ expanded table rest
  pub token_count : tokens + tokens_among (word_costs table words) ≡ tokens_now + tokens_among (word_costs table rest)
  pub name_count : names + names_among (word_costs table words) ≡ names_now + names_among (word_costs table rest)
  pub overruns_are : overruns tokens names (word_costs table words) ≡ overruns tokens_now names_now (word_costs table rest)

pub none_done : (table : Table) (before : List Lexeme) (tokens names : ℕ) (words : List Lexeme) → IsExpanding table before tokens names words before tokens names words
none_done table before tokens names words = record { tokens_are = refl; token_count = refl; name_count = refl; overruns_are = refl }

-- A cost that passes neither count.
pub fits_on : (tokens names : ℕ) (c : Cost) (costs : List Cost) → tokens + c.tokens ≤ 1000000 → names + c.names ≤ 1000000
    → overruns tokens names (c ∷ costs) ≡ overruns (tokens + c.tokens) (names + c.names) costs
fits_on tokens names c costs few few_names =
    cond-false (nat_lt 1000000 (tokens + c.tokens) || nat_lt 1000000 (names + c.names)) _ _
    (or_from (nat_lt 1000000 (tokens + c.tokens)) (nat_lt 1000000 (names + c.names)) (le-ltb 1000000 (tokens + c.tokens) few) (le-ltb 1000000 (names + c.names) few_names))

pub one_done : (table : Table) (before : List Lexeme) (tokens names : ℕ) (words done all : List Lexeme) (tokens_now names_now tokens_next names_next : ℕ) (w : Lexeme) (rest : List Lexeme)
    → IsExpanding table before tokens names words done tokens_now names_now (w ∷ rest)
    → all ≡ done ++ replaced_word table w → tokens_next ≡ tokens_now + (word_cost table w).tokens → names_next ≡ names_now + (word_cost table w).names
    → tokens_next ≤ 1000000 → names_next ≤ 1000000 → IsExpanding table before tokens names words all tokens_next names_next rest
one_done table before tokens names words done all tokens_now names_now tokens_next names_next w rest is all_are token_count name_count few few_names =
    let c = word_cost table w in
    let more = word_costs table rest in
    record {
      tokens_are = is.tokens_are ∙ (sym (append_assoc done (replaced_word table w) (expanded table rest)) ∙ ap (λ a. a ++ expanded table rest) (sym all_are));
      token_count = let s : tokens_among (c ∷ more) ≡ c.tokens + tokens_among more = sum_by-cons (λ (d : Cost). d.tokens) c more in let h = is.token_count in omega (arith, h, s, token_count);
      name_count = let s : names_among (c ∷ more) ≡ c.names + names_among more = sum_by-cons (λ (d : Cost). d.names) c more in let h = is.name_count in omega (arith, h, s, name_count);
      overruns_are =
          is.overruns_are
          ∙ (fits_on tokens_now names_now c more (omega (arith, token_count, few)) (omega (arith, name_count, few_names))
          ∙ (ap (λ n. overruns n (names_now + c.names) more) (sym token_count) ∙ ap (λ n. overruns tokens_next n more) (sym name_count)));
    }

-- The first overrun of one cost is the first where others follow.
pub over_on : (tokens names : ℕ) (c : Cost) (costs : List Cost) (b : Breach) → IsHead b (overruns tokens names (c ∷ [])) → IsHead b (overruns tokens names (c ∷ costs))
over_on tokens names c costs b head =
    elim (cases_Bool (nat_lt 1000000 (tokens + c.tokens) || nat_lt 1000000 (names + c.names))) [
      | inl holds ↦
          let one : overruns tokens names (c ∷ []) ≡ breach statics.BadMacro c.place ∷ [] = cond-true (nat_lt 1000000 (tokens + c.tokens) || nat_lt 1000000 (names + c.names)) _ _ holds in
          let same : breach statics.BadMacro c.place ≡ b = let e : breach statics.BadMacro c.place ∷ [] ≡ b ∷ head.0 = sym one ∙ head.1 in cc in (
            overruns (tokens + c.tokens) (names + c.names) costs,
            cond-true (nat_lt 1000000 (tokens + c.tokens) || nat_lt 1000000 (names + c.names)) _ _ holds
                ∙ ap (λ d. d ∷ overruns (tokens + c.tokens) (names + c.names) costs) same,
          )
      | inr fails ↦
          absurd
          (let e : [] ≡ b ∷ head.0 = sym (cond-false (nat_lt 1000000 (tokens + c.tokens) || nat_lt 1000000 (names + c.names)) _ _ fails) ∙ head.1 in cc)
    ]
