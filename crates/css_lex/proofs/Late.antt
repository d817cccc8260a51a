-- The first breach among the pieces of a line that are read.
use Rattle.std.proofs.Common.{◌≡◌, ℕ, ◌+◌, ◌≤◌, inl, inr, Bool, true, false, ◌&&◌, ◌||◌, List, [], ◌∷◌, ◌++◌, map, length, refl, sym, ap, ◌∙◌, subst, arith, le_trans, All, Option, Some, None, is_none}
use Rattle.std.specs.Prelude.{nat_lt, flat_map, filter}
use Rattle.std.proofs.lemmas.Bool.{both_ways, cond-true, cond-false, cases_Bool, ltb-true, ltb-false, and_from, and_right}
use Rattle.std.proofs.lemmas.List.{append-nil}
use Rattle.std.proofs.lemmas.List.Elements.{All-nil, All-cons, All-head, All-tail, All-append, All-map, All-filter, All-weaker}
use Rattle.css_base.specs.declared.static_fault.StaticName.TheVariants as statics
use Rattle.css_base.specs.Tokens.{Kind, Lexeme, At}
use Rattle.css_lex.specs.declared.breach.Breach.{Breach}
use Rattle.css_lexemes.specs.declared.pieces.Shape.{Shape}
use Rattle.css_lexemes.specs.declared.pieces.Shape.TheVariants as shapes
use Rattle.css_lexemes.specs.Lexemes.{Piece}
use Rattle.css_macros.specs.Macros.{Table, replacement, replacement_names}
use Rattle.css_lex.specs.Reading.{is_blank_piece, kind_of_piece, place_of, end_of}
use Rattle.css_lex.specs.Costs.{Cost, piece_costs}
use Rattle.css_lex.specs.Spelling.{line_at, tokens_of}
use Rattle.css_lex.specs.Refusals.{breach, is_stray, is_lexeme, stray_pieces, bad_constants, overruns}
use Rattle.css_lex.specs.Words.{own_breach, words_of, failure_of}
use Rattle.css_lex.specs.Found.{IsFirst, IsFound, least_of}
use Rattle.css_lex.specs.Expanded.{expanded, word_costs, IsHead}
use Rattle.css_lex.proofs.Firsts.{AllFrom, AllBehind, in_front, before_others, behind_others, all_from, from_more, from_behind, behind_from}

-- Pieces that aren't white space, in order of their places.
abbrev pub AreSolid : (low : ℕ) → List Piece → Type 0
AreSolid low [] = Unit {0}
AreSolid low (p ∷ pieces) = (is_blank_piece p.shape ≡ false) × (low ≤ place_of p) × AreSolid (place_of p + 1) pieces

pub solid_lower : (low high : ℕ) (pieces : List Piece) → low ≤ high → AreSolid high pieces → AreSolid low pieces
solid_lower low high [] l are = tt
solid_lower low high (p ∷ pieces) l are = (are.0, le_trans l are.1, are.2)

pub solid_from : (low : ℕ) (pieces : List Piece) → AreSolid low pieces → All (λ p. low ≤ place_of p) pieces
solid_from low [] are = All-nil (λ p. low ≤ place_of p)
solid_from low (p ∷ pieces) are =
    All-cons (λ p. low ≤ place_of p) p pieces are.1
    (solid_from low pieces (solid_lower low (place_of p + 1) pieces (let l = are.1 in omega (arith, l)) are.2))

marked_from : (low : ℕ) (f : Piece → Breach) (test : Piece → Bool) (pieces : List Piece) → ((p : Piece) → (f p).place ≡ place_of p)
    → All (λ p. low ≤ place_of p) pieces → AllFrom low (map f (filter test pieces))
marked_from low f test pieces same all =
    All-map (λ (b : Breach). low ≤ b.place) f (filter test pieces)
    (All-filter test (λ p. low ≤ (f p).place) pieces (All-weaker (λ p. low ≤ place_of p) (λ p. low ≤ (f p).place) (λ p h. let e = same p in omega (arith, e, h)) pieces all))

pub strays_from : (low : ℕ) (pieces : List Piece) → AreSolid low pieces → AllFrom low (stray_pieces pieces)
strays_from low pieces are = marked_from low (λ p. breach statics.BadToken (place_of p)) (λ p. is_stray p.shape) pieces (λ p. refl) (solid_from low pieces are)

pub constants_from : (low : ℕ) (pieces : List Piece) → AreSolid low pieces → AllFrom low (bad_constants pieces)
constants_from low pieces are =
    marked_from low (λ p. breach statics.BadConstant (place_of p)) (λ p. is_lexeme p.shape && is_none (kind_of_piece p)) pieces (λ p. refl) (solid_from low pieces are)

-- The costs of pieces.
abbrev pub pieces_costs : Table → List Piece → List Cost
pieces_costs table pieces = flat_map (piece_costs table) pieces

abbrev pub costs_from_kind : Table → Piece → Option Kind → List Cost
costs_from_kind table p found =
    elim found [
      | None ↦ []
      | Some kind ↦ record { place = place_of p; tokens = length (replacement table kind); names = replacement_names table kind } ∷ []
    ]

pub cost_none : (table : Table) (p : Piece) (pieces : List Piece) → kind_of_piece p ≡ None → pieces_costs table (p ∷ pieces) ≡ pieces_costs table pieces
cost_none table p pieces none = ap (λ o. costs_from_kind table p o ++ pieces_costs table pieces) none

abbrev pub cost_of : Table → Piece → Kind → Cost
cost_of table p kind = record { place = place_of p; tokens = length (replacement table kind); names = replacement_names table kind }

pub cost_some : (table : Table) (p : Piece) (pieces : List Piece) (kind : Kind) → kind_of_piece p ≡ Some kind
    → pieces_costs table (p ∷ pieces) ≡ cost_of table p kind ∷ pieces_costs table pieces
cost_some table p pieces kind is = ap (λ o. costs_from_kind table p o ++ pieces_costs table pieces) is

pub by_kind : {A : Type 0} (p : Piece) → (kind_of_piece p ≡ None → A) → ((kind : Kind) → kind_of_piece p ≡ Some kind → A) → A
by_kind {A} p none some = by (kind_of_piece p) refl
  where
    by : (o : Option Kind) → kind_of_piece p ≡ o → A
    by None e = none e
    by (Some kind) e = some kind e

abbrev AllCosts : (low : ℕ) → List Cost → Type 0
AllCosts low costs = All (λ c. low ≤ c.place) costs

pub costs_from : (low : ℕ) (table : Table) (pieces : List Piece) → AreSolid low pieces → AllCosts low (pieces_costs table pieces)
costs_from low table [] are = All-nil (λ c. low ≤ c.place)
costs_from low table (p ∷ pieces) are =
    let rest = costs_from low table pieces (solid_lower low (place_of p + 1) pieces (let l = are.1 in omega (arith, l)) are.2) in
    by_kind p (λ none. subst (AllCosts low) (sym (cost_none table p pieces none)) rest)
    (λ kind is. subst (AllCosts low) (sym (cost_some table p pieces kind is)) (All-cons (λ c. low ≤ c.place) (cost_of table p kind) (pieces_costs table pieces) are.1 rest))

-- The test of one cost.
abbrev pub passes : (tokens names : ℕ) → Cost → Bool
passes tokens names c = nat_lt 1000000 (tokens + c.tokens) || nat_lt 1000000 (names + c.names)

pub over_now : (tokens names : ℕ) (c : Cost) (costs : List Cost) → passes tokens names c ≡ true
    → overruns tokens names (c ∷ costs) ≡ breach statics.BadMacro c.place ∷ overruns (tokens + c.tokens) (names + c.names) costs
over_now tokens names c costs over = cond-true (passes tokens names c) _ _ over

pub over_later : (tokens names : ℕ) (c : Cost) (costs : List Cost) → passes tokens names c ≡ false
    → overruns tokens names (c ∷ costs) ≡ overruns (tokens + c.tokens) (names + c.names) costs
over_later tokens names c costs fits = cond-false (passes tokens names c) _ _ fits

pub overruns_from : (low tokens names : ℕ) (costs : List Cost) → AllCosts low costs → AllFrom low (overruns tokens names costs)
overruns_from low tokens names [] all = All-nil (λ b. low ≤ b.place)
overruns_from low tokens names (c ∷ costs) all =
    let rest = overruns_from low (tokens + c.tokens) (names + c.names) costs (All-tail (λ c. low ≤ c.place) c costs all) in
    elim (cases_Bool (passes tokens names c)) [
      | inl over ↦
          subst (AllFrom low) (sym (over_now tokens names c costs over))
          (All-cons (λ b. low ≤ b.place) (breach statics.BadMacro c.place) (overruns (tokens + c.tokens) (names + c.names) costs) (All-head (λ c. low ≤ c.place) c costs all) rest)
      | inr fits ↦ subst (AllFrom low) (sym (over_later tokens names c costs fits)) rest
    ]

-- A piece that stands for something is no stray byte.
no_stray : (p : Piece) (kind : Kind) → kind_of_piece p ≡ Some kind → is_stray p.shape ≡ false
no_stray p kind is = by p.shape p.bytes is
  where
    by : (shape : Shape) (bytes : _) → kind_of_piece (record { shape = shape; bytes = bytes }) ≡ Some kind → is_stray shape ≡ false
    by shapes.Blank bytes is = refl
    by (shapes.Lexeme class) bytes is = refl
    by shapes.Stray bytes is = absurd cc

no_stray_lexeme : (shape : Shape) → is_blank_piece shape ≡ false → is_stray shape ≡ false → is_lexeme shape ≡ true
no_stray_lexeme shapes.Blank solid other = absurd (both_ways true solid refl)
no_stray_lexeme (shapes.Lexeme class) solid other = refl
no_stray_lexeme shapes.Stray solid other = absurd (both_ways true other refl)

stray_one : (p : Piece) (pieces : List Piece) → is_stray p.shape ≡ true → stray_pieces (p ∷ pieces) ≡ breach statics.BadToken (place_of p) ∷ stray_pieces pieces
stray_one p pieces is = ap (map (λ (q : Piece). breach statics.BadToken (place_of q))) (cond-true (is_stray p.shape) (p ∷ filter (λ q. is_stray q.shape) pieces) (filter (λ q. is_stray q.shape) pieces) is)

stray_none : (p : Piece) (pieces : List Piece) → is_stray p.shape ≡ false → stray_pieces (p ∷ pieces) ≡ stray_pieces pieces
stray_none p pieces is = ap (map (λ (q : Piece). breach statics.BadToken (place_of q))) (cond-false (is_stray p.shape) (p ∷ filter (λ q. is_stray q.shape) pieces) (filter (λ q. is_stray q.shape) pieces) is)

abbrev bad : Piece → Bool
bad p = is_lexeme p.shape && is_none (kind_of_piece p)

constant_one : (p : Piece) (pieces : List Piece) → bad p ≡ true → bad_constants (p ∷ pieces) ≡ breach statics.BadConstant (place_of p) ∷ bad_constants pieces
constant_one p pieces is = ap (map (λ (q : Piece). breach statics.BadConstant (place_of q))) (cond-true (bad p) (p ∷ filter bad pieces) (filter bad pieces) is)

constant_none : (p : Piece) (pieces : List Piece) → bad p ≡ false → bad_constants (p ∷ pieces) ≡ bad_constants pieces
constant_none p pieces is = ap (map (λ (q : Piece). breach statics.BadConstant (place_of q))) (cond-false (bad p) (p ∷ filter bad pieces) (filter bad pieces) is)

-- Other breaches between the stray pieces and the bad constants.
abbrev pub among : (pieces : List Piece) → List Breach → List Breach
among pieces others = stray_pieces pieces ++ (others ++ bad_constants pieces)

own_is_stray : (p : Piece) → is_stray p.shape ≡ true → own_breach p ≡ breach statics.BadToken (place_of p)
own_is_stray p is = ap (λ n. breach n (place_of p)) (cond-true (is_stray p.shape) _ _ is)

own_is_constant : (p : Piece) → is_stray p.shape ≡ false → own_breach p ≡ breach statics.BadConstant (place_of p)
own_is_constant p is = ap (λ n. breach n (place_of p)) (cond-false (is_stray p.shape) _ _ is)

-- The first piece that stands for nothing breaks its rule first, where the others break theirs behind it.
pub own_first : (low : ℕ) (p : Piece) (pieces : List Piece) (others : List Breach) → AreSolid low (p ∷ pieces) → kind_of_piece p ≡ None → AllBehind (place_of p) others
    → IsFirst (own_breach p) (among (p ∷ pieces) others)
own_first low p pieces others are none behind =
    let place = place_of p in
    let rest = solid_lower place (place + 1) pieces (omega arith) are.2 in
    let constants = constants_from place (p ∷ pieces) (are.0, omega arith, are.2) in
    elim (cases_Bool (is_stray p.shape)) [
      | inl stray ↦
          let b = breach statics.BadToken place in
          subst (λ d. IsFirst d (among (p ∷ pieces) others)) (sym (own_is_stray p stray))
          (before_others b (stray_pieces (p ∷ pieces)) (others ++ bad_constants (p ∷ pieces))
          (subst (IsFirst b) (sym (stray_one p pieces stray)) (in_front b (stray_pieces pieces) (strays_from place pieces rest)))
          (All-append (λ c. place ≤ c.place) others (bad_constants (p ∷ pieces)) (behind_from place others behind) constants))
      | inr stray ↦
          let b = breach statics.BadConstant place in
          let is_bad = and_from (is_lexeme p.shape) (is_none (kind_of_piece p)) (no_stray_lexeme p.shape are.0 stray) (ap is_none none) in
          subst (λ d. IsFirst d (among (p ∷ pieces) others)) (sym (own_is_constant p stray))
          (behind_others b (stray_pieces (p ∷ pieces)) (others ++ bad_constants (p ∷ pieces))
          (subst (AllBehind place) (sym (stray_none p pieces stray)) (from_behind place (place + 1) (stray_pieces pieces) (omega arith) (strays_from (place + 1) pieces are.2)))
          (behind_others b others (bad_constants (p ∷ pieces)) behind
          (subst (IsFirst b) (sym (constant_one p pieces is_bad)) (in_front b (bad_constants pieces) (constants_from place pieces rest)))))
    ]

-- A piece that stands for something changes nothing.
pub among_on : (p : Piece) (pieces : List Piece) (others : List Breach) (kind : Kind) → kind_of_piece p ≡ Some kind → among (p ∷ pieces) others ≡ among pieces others
among_on p pieces others kind is =
    ap (λ s. s ++ (others ++ bad_constants (p ∷ pieces))) (stray_none p pieces (no_stray p kind is))
    ∙ ap (λ c. stray_pieces pieces ++ (others ++ c)) (constant_none p pieces (and_right (is_lexeme p.shape) (is_none (kind_of_piece p)) (ap is_none is)))

pub word_some : (text : List ℕ) (p : Piece) (pieces : List Piece) (kind : Kind) → kind_of_piece p ≡ Some kind
    → words_of text (p ∷ pieces) ≡ At kind (line_at text (place_of p)) (place_of p) (end_of p) ∷ words_of text pieces
word_some text p pieces kind is = rw (words_of, is) refl

pub word_none : (text : List ℕ) (p : Piece) (pieces : List Piece) → kind_of_piece p ≡ None → words_of text (p ∷ pieces) ≡ []
word_none text p pieces is = rw (words_of, is) refl

pub fails_on : (p : Piece) (pieces : List Piece) (kind : Kind) → kind_of_piece p ≡ Some kind → failure_of (p ∷ pieces) ≡ failure_of pieces
fails_on p pieces kind is = rw (failure_of, is) refl

pub fails_here : (p : Piece) (pieces : List Piece) → kind_of_piece p ≡ None → failure_of (p ∷ pieces) ≡ Some (own_breach p)
fails_here p pieces is = rw (failure_of, is) refl

abbrev word_from : (text : List ℕ) → Piece → Kind → Lexeme
word_from text p kind = At kind (line_at text (place_of p)) (place_of p) (end_of p)

pub empty_cons : {A : Type 0} (a : A) (list : List A) → a ∷ list ≡ [] → ⊥
empty_cons a list e = cc

pub first_of : {A : Type 0} (a b : A) (these those : List A) → a ∷ these ≡ b ∷ those → a ≡ b
first_of a b these those e = cc

-- The counts behind a piece that stands for something.
costs_go : (text : List ℕ) (table : Table) (tokens names : ℕ) (p : Piece) (pieces : List Piece) (kind : Kind) → kind_of_piece p ≡ Some kind → passes tokens names (cost_of table p kind) ≡ false
    → overruns tokens names (pieces_costs table (p ∷ pieces))
    ≡ overruns (tokens + length (replacement table kind)) (names + replacement_names table kind) (pieces_costs table pieces)
costs_go text table tokens names p pieces kind is fits =
    ap (overruns tokens names) (cost_some table p pieces kind is) ∙ over_later tokens names (cost_of table p kind) (pieces_costs table pieces) fits

words_go : (text : List ℕ) (table : Table) (tokens names : ℕ) (p : Piece) (pieces : List Piece) (kind : Kind) → kind_of_piece p ≡ Some kind → passes tokens names (cost_of table p kind) ≡ false
    → overruns tokens names (word_costs table (words_of text (p ∷ pieces)))
    ≡ overruns (tokens + length (replacement table kind)) (names + replacement_names table kind) (word_costs table (words_of text pieces))
words_go text table tokens names p pieces kind is fits =
    ap (λ ws. overruns tokens names (word_costs table ws)) (word_some text p pieces kind is)
    ∙ over_later tokens names (cost_of table p kind) (word_costs table (words_of text pieces)) fits

words_over : (text : List ℕ) (table : Table) (tokens names : ℕ) (p : Piece) (pieces : List Piece) (kind : Kind) → kind_of_piece p ≡ Some kind → passes tokens names (cost_of table p kind) ≡ true
    → overruns tokens names (word_costs table (words_of text (p ∷ pieces)))
    ≡ breach statics.BadMacro (place_of p) ∷ overruns (tokens + length (replacement table kind)) (names + replacement_names table kind) (word_costs table (words_of text pieces))
words_over text table tokens names p pieces kind is over =
    ap (λ ws. overruns tokens names (word_costs table ws)) (word_some text p pieces kind is)
    ∙ over_now tokens names (cost_of table p kind) (word_costs table (words_of text pieces)) over

-- Breaches of pieces that stand for something are those of the others.
found_on : (table : Table) (tokens names : ℕ) (p : Piece) (pieces : List Piece) (kind : Kind) → kind_of_piece p ≡ Some kind → passes tokens names (cost_of table p kind) ≡ false
    → among (p ∷ pieces) (overruns tokens names (pieces_costs table (p ∷ pieces)))
    ≡ among pieces (overruns (tokens + length (replacement table kind)) (names + replacement_names table kind) (pieces_costs table pieces))
found_on table tokens names p pieces kind is fits =
    among_on p pieces (overruns tokens names (pieces_costs table (p ∷ pieces))) kind is
    ∙ ap (among pieces) (ap (overruns tokens names) (cost_some table p pieces kind is) ∙ over_later tokens names (cost_of table p kind) (pieces_costs table pieces) fits)

-- Without overruns the first breach is that of the first piece that stands for nothing.
pub failure_first : (text : List ℕ) (table : Table) (low tokens names : ℕ) (pieces : List Piece) → AreSolid low pieces
    → overruns tokens names (word_costs table (words_of text pieces)) ≡ [] → IsFound (failure_of pieces) (among pieces (overruns tokens names (pieces_costs table pieces)))
failure_first text table low tokens names [] are none = refl
failure_first text table low tokens names (p ∷ pieces) are none =
    by_kind p
    (λ nothing.
    let behind = costs_from (place_of p + 1) table pieces are.2 in
    subst (λ f. IsFound f (among (p ∷ pieces) (overruns tokens names (pieces_costs table (p ∷ pieces))))) (sym (fails_here p pieces nothing))
    (own_first low p pieces (overruns tokens names (pieces_costs table (p ∷ pieces))) are nothing
    (subst (λ cs. AllBehind (place_of p) (overruns tokens names cs)) (sym (cost_none table p pieces nothing))
    (from_behind (place_of p) (place_of p + 1) (overruns tokens names (pieces_costs table pieces)) (omega arith)
    (overruns_from (place_of p + 1) tokens names (pieces_costs table pieces) behind)))))
    (λ kind is.
    elim (cases_Bool (passes tokens names (cost_of table p kind))) [
      | inl over ↦ absurd (empty_cons _ _ (sym (words_over text table tokens names p pieces kind is over) ∙ none))
      | inr fits ↦
          subst (IsFound (failure_of (p ∷ pieces))) (sym (found_on table tokens names p pieces kind is fits))
          (subst
          (λ f. IsFound f (among pieces (overruns (tokens + length (replacement table kind)) (names + replacement_names table kind) (pieces_costs table pieces))))
          (sym (fails_on p pieces kind is))
          (failure_first text table (place_of p + 1) (tokens + length (replacement table kind)) (names + replacement_names table kind) pieces are.2
          (sym (words_go text table tokens names p pieces kind is fits) ∙ none)))
    ])

-- The first overrun.
pub overrun_first : (text : List ℕ) (table : Table) (low tokens names : ℕ) (pieces : List Piece) (b : Breach) → AreSolid low pieces
    → IsHead b (overruns tokens names (word_costs table (words_of text pieces))) → IsFirst b (among pieces (overruns tokens names (pieces_costs table pieces)))
overrun_first text table low tokens names [] b are head = absurd (empty_cons b head.0 (sym head.1))
overrun_first text table low tokens names (p ∷ pieces) b are head =
    by_kind p
    (λ nothing. absurd (empty_cons b head.0 (sym (sym (ap (λ ws. overruns tokens names (word_costs table ws)) (word_none text p pieces nothing)) ∙ head.1))))
    (λ kind is.
    let t = tokens + length (replacement table kind) in
    let n = names + replacement_names table kind in
    elim (cases_Bool (passes tokens names (cost_of table p kind))) [
      | inl over ↦
          let first = breach statics.BadMacro (place_of p) in
          let same : first ≡ b = first_of first b _ _ (sym (words_over text table tokens names p pieces kind is over) ∙ head.1) in
          let rest = solid_lower (place_of p) (place_of p + 1) pieces (omega arith) are.2 in
          let list : among (p ∷ pieces) (overruns tokens names (pieces_costs table (p ∷ pieces))) ≡ among pieces (first ∷ overruns t n (pieces_costs table pieces)) =
          among_on p pieces (overruns tokens names (pieces_costs table (p ∷ pieces))) kind is
          ∙ ap (among pieces) (ap (overruns tokens names) (cost_some table p pieces kind is) ∙ over_now tokens names (cost_of table p kind) (pieces_costs table pieces) over) in
          subst (λ d. IsFirst d (among (p ∷ pieces) (overruns tokens names (pieces_costs table (p ∷ pieces))))) same
          (subst (IsFirst first) (sym list)
          (behind_others first (stray_pieces pieces) ((first ∷ overruns t n (pieces_costs table pieces)) ++ bad_constants pieces)
          (from_behind (place_of p) (place_of p + 1) (stray_pieces pieces) (omega arith) (strays_from (place_of p + 1) pieces are.2))
          (before_others first (first ∷ overruns t n (pieces_costs table pieces)) (bad_constants pieces)
          (in_front first (overruns t n (pieces_costs table pieces))
          (overruns_from (place_of p) t n (pieces_costs table pieces) (costs_from (place_of p) table pieces rest)))
          (constants_from (place_of p) pieces rest))))
      | inr fits ↦
          subst (IsFirst b) (sym (found_on table tokens names p pieces kind is fits))
          (overrun_first text table (place_of p + 1) t n pieces b are.2 (head.0, sym (words_go text table tokens names p pieces kind is fits) ∙ head.1))
    ])

-- Where each piece stands for something, the costs are those of the words.
pub costs_of_words : (text : List ℕ) (table : Table) (pieces : List Piece) → failure_of pieces ≡ None → pieces_costs table pieces ≡ word_costs table (words_of text pieces)
costs_of_words text table [] none = refl
costs_of_words text table (p ∷ pieces) none =
    by_kind p (λ nothing. absurd (let e : Some (own_breach p) ≡ None = sym (fails_here p pieces nothing) ∙ none in cc))
    (λ kind is.
    cost_some table p pieces kind is
    ∙ (ap (λ cs. cost_of table p kind ∷ cs) (costs_of_words text table pieces (sym (fails_on p pieces kind is) ∙ none))
    ∙ sym (ap (word_costs table) (word_some text p pieces kind is))))

abbrev tokens_from_kind : (text : List ℕ) → Table → Piece → Option Kind → List Lexeme
tokens_from_kind text table p found =
    elim found [ None ↦ [] | Some kind ↦ map (λ k. At k (line_at text (place_of p)) (place_of p) (end_of p)) (replacement table kind) ]

pub tokens_of_words : (text : List ℕ) (table : Table) (pieces : List Piece) → failure_of pieces ≡ None
    → flat_map (tokens_of text table) pieces ≡ expanded table (words_of text pieces)
tokens_of_words text table [] none = refl
tokens_of_words text table (p ∷ pieces) none =
    by_kind p (λ nothing. absurd (let e : Some (own_breach p) ≡ None = sym (fails_here p pieces nothing) ∙ none in cc))
    (λ kind is.
    ap (λ o. tokens_from_kind text table p o ++ flat_map (tokens_of text table) pieces) is
    ∙ (ap (λ r. tokens_from_kind text table p (Some kind) ++ r) (tokens_of_words text table pieces (sym (fails_on p pieces kind is) ∙ none))
    ∙ sym (ap (expanded table) (word_some text p pieces kind is))))

-- Two lists of breaches, one behind the other.
pub both_found : (early late : Option Breach) (these those : List Breach) → IsFound early these → IsFound late those → IsFound (least_of early late) (these ++ those)
both_found None late these those a b = subst (λ (r : List Breach). IsFound late (r ++ those)) (sym a) b
both_found (Some e) None these those a b = subst (IsFirst e) (sym (ap (λ r. these ++ r) b ∙ append-nil these)) a
both_found (Some e) (Some l) these those a b =
    elim (cases_Bool (nat_lt l.place e.place)) [
      | inl lower ↦
          subst (λ f. IsFound f (these ++ those)) (sym (cond-true (nat_lt l.place e.place) (Some l) (Some e) lower))
          (behind_others l these those (from_behind l.place e.place these (ltb-true l.place e.place lower) (all_from e these a)) b)
      | inr higher ↦
          subst (λ f. IsFound f (these ++ those)) (sym (cond-false (nat_lt l.place e.place) (Some l) (Some e) higher))
          (before_others e these those a (from_more e.place l.place those (ltb-false l.place e.place higher) (all_from l those b)))
    ]

pub none_of_both : (early late : Option Breach) → least_of early late ≡ None → (early ≡ None) × (late ≡ None)
none_of_both None late is = (refl, is)
none_of_both (Some e) None is = absurd cc
none_of_both (Some e) (Some l) is =
    elim (cases_Bool (nat_lt l.place e.place)) [
      | inl lower ↦ absurd (let h : Some l ≡ None = sym (cond-true (nat_lt l.place e.place) (Some l) (Some e) lower) ∙ is in cc)
      | inr higher ↦ absurd (let h : Some e ≡ None = sym (cond-false (nat_lt l.place e.place) (Some l) (Some e) higher) ∙ is in cc)
    ]
