-- The arguments of `printf`, one by one.
use Rattle.std.proofs.Common.{◌≡◌, ℕ, ◌+◌, ◌<◌, ◌≤◌, Bool, true, false, List, [], ◌∷◌, ◌++◌, length, map, drop, get_or, Ok, Err, refl, sym, ap, ◌∙◌, arith}
use Rattle.std.proofs.lemmas.List.{drop_more, at_drop_all}
use Rattle.css_base.specs.declared.static_fault.StaticName.TheVariants.{BadFormat}
use Rattle.css_num.specs.Usual.{promoted}
use Rattle.css_core.specs.declared.expression.Expression.{Expression}
use Rattle.css_core.specs.declared.expression.Piece.{Piece}
use Rattle.css_core.specs.declared.expression.Conversion.{Conversion}
use Rattle.css_core.specs.Core.{Expressions, Empty, More, Convert, Shown}
use Rattle.css_core.specs.Shapes.{expression, listed, piece, conversion}
use Rattle.css_types.specs.Types.{core_type}
use Rattle.css_types.specs.Judged.{Judged, after, broken, provided}
use Rattle.css_types.specs.Formats.{shown, is_shown_as}
use Rattle.css_types.specs.Operands as rules
use Rattle.css_type_table.specs.Lists.{Lists}
use Rattle.css_operands.specs.declared.operand.Operand as code
use Rattle.css_operands.specs.Shapes.{operand}

abbrev before : List Expression → Expressions → Expressions
before [] others = others
before (e ∷ es) others = More (expression e) (before es others)

before-append : (done : List Expression) (e : Expression) (others : Expressions) → before (done ++ e ∷ []) others ≡ before done (More (expression e) others)
before-append [] e others = refl
before-append (d ∷ done) e others = ap (More (expression d)) (before-append done e others)

before-all : (done : List Expression) → before done Empty ≡ listed done
before-all [] = refl
before-all (d ∷ done) = ap (More (expression d)) (before-all done)

abbrev joined : List Expression → Judged Expressions → Judged Expressions
joined done judged = after judged (λ es. Ok (before done es))

joined-more : (done : List Expression) (e : Expression) (rest : Judged Expressions)
    → joined (done ++ e ∷ []) rest ≡ joined done (after rest (λ others. Ok (More (expression e) others)))
joined-more done e (Err f) = refl
joined-more done e (Ok es) = ap Ok (before-append done e es)

joined-none : (judged : Judged Expressions) → joined [] judged ≡ judged
joined-none (Ok es) = refl
joined-none (Err f) = refl

-- with no conversion left
none_shown : (line : ℕ) (all : List rules.Operand) → 0 < length all → shown line [] all ≡ broken BadFormat line
none_shown line [] some = absurd (omega arith)
none_shown line (a ∷ all) some = refl

module _ (lists : Lists) (line : ℕ) where
  abbrev pub on : List Expression → List Piece → List code.Operand → Judged Expressions
  on done pieces left = joined done (shown line (map piece pieces) (map (operand lists) left))

  pub on-none : (pieces : List Piece) (all : List code.Operand) → on [] pieces all ≡ shown line (map piece pieces) (map (operand lists) all)
  on-none pieces all = joined-none (shown line (map piece pieces) (map (operand lists) all))

  module _ (done : List Expression) (pieces others : List Piece) (kind : Conversion)
      (next : (all : List rules.Operand) → shown line (map piece pieces) all ≡ shown line (Shown (conversion kind) ∷ map piece others) all)
      (all : List code.Operand) (n : ℕ) (a : code.Operand) (within : n < length all) (is : a ≡ get_or all n a) where
    -- what is left, by its conversion and its argument
    abbrev rest : Judged Expressions
    rest = shown line (map piece others) (map (operand lists) (drop (n + 1) all))

    abbrev one : Bool → Judged Expressions
    one fits = provided fits BadFormat line (after rest (λ es. Ok (More (Convert (promoted (core_type (operand lists a).t)) (operand lists a).e) es)))

    by_one : on done pieces (drop n all) ≡ joined done (one (is_shown_as (conversion kind) (operand lists a)))
    by_one =
        ap (λ l. on done pieces l) (drop_more all n a within ∙ ap (λ x. x ∷ drop (n + 1) all) (sym is))
        ∙ ap (joined done) (next (map (operand lists) (a ∷ drop (n + 1) all)))

    pub one_shown : (e : Expression) → is_shown_as (conversion kind) (operand lists a) ≡ true
        → expression e ≡ Convert (promoted (core_type (operand lists a).t)) (operand lists a).e
        → on (done ++ e ∷ []) others (drop (n + 1) all) ≡ on done pieces (drop n all)
    one_shown e fits promotes =
        joined-more done e rest
        ∙ ap (λ x. joined done (after rest (λ es. Ok (More x es)))) promotes
        ∙ sym (ap (λ b. joined done (one b)) fits)
        ∙ sym by_one

    pub one_refused : is_shown_as (conversion kind) (operand lists a) ≡ false → on done pieces (drop n all) ≡ broken BadFormat line
    one_refused fits = by_one ∙ ap (λ b. joined done (one b)) fits

  module _ (done : List Expression) (pieces : List Piece) (all : List code.Operand) (n : ℕ) where
    -- an argument without a conversion
    pub one_more : ((all : List rules.Operand) → shown line (map piece pieces) all ≡ shown line [] all) → n < length all → (a : code.Operand) → on done pieces (drop n all) ≡ broken BadFormat line
    one_more none within a =
        ap (λ l. on done pieces l) (drop_more all n a within)
        ∙ ap (joined done) (none (map (operand lists) (get_or all n a ∷ drop (n + 1) all)))

    pub all_shown : ((all : List rules.Operand) → shown line (map piece pieces) all ≡ shown line [] all) → length all ≤ n → on done pieces (drop n all) ≡ Ok (listed done)
    all_shown none past = at_drop_all (on done pieces) all n past ∙ ap (joined done) (none []) ∙ ap Ok (before-all done)

    -- a conversion without an argument
    pub one_missing : (kind : Conversion) (others : List Piece) → ((all : List rules.Operand) → shown line (map piece pieces) all ≡ shown line (Shown (conversion kind) ∷ map piece others) all)
        → length all ≤ n → on done pieces (drop n all) ≡ broken BadFormat line
    one_missing kind others next past = at_drop_all (on done pieces) all n past ∙ ap (joined done) (next [])
