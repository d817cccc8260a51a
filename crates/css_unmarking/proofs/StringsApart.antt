-- Tokens read one by one: whether the last of them that is no directive is a string, and whether two strings met.
use Rattle.std.proofs.Common.{◌≡◌, Bool, true, false, List, [], ◌∷◌, ◌++◌, fold, All, refl, sym, subst}
use Rattle.std.specs.Prelude.{ℕ, IsTrue}
use Rattle.std.proofs.lemmas.List.Elements.{All-head, All-tail}
use Rattle.css_base.specs.Tokens.{Kind, Text, Directive, Lexeme, At}
use Rattle.css_tree.specs.TokenParts.{kind_at, kinds, Part, One, These, Are}
use Rattle.css_lex.specs.WithoutDirectives.{is_string, is_directive, HasPartedStrings}

-- no string was last, one was, or two met
pub data State : Type 0 where
  Clear : State
  After : State
  Met : State

abbrev pub behind : State → Kind → State
behind Met kind = Met
behind Clear (Text bytes) = After
behind After (Text bytes) = Met
behind s (Directive words) = s
behind s kind = Clear

abbrev pub run : State → List Lexeme → State
run s ts = fold behind s (kinds ts)

-- No two strings met, and none was last where none may be.
abbrev pub Within : (may_be_last : Bool) → State → Type 0
Within last Met = ⊥
Within true s = Unit {0}
Within false Clear = Unit {0}
Within false After = ⊥

-- ---- two strings with directives between them

met_stays : (ts : List Lexeme) → Within false (run Met ts) → ⊥
met_stays [] w = w
met_stays (t ∷ ts) w = met_stays ts w

text_behind : (t : Lexeme) → IsTrue (is_string t) → (behind Clear (kind_at t) ≡ After) × (behind After (kind_at t) ≡ Met)
text_behind (At (Text bytes) line place end) h = (refl, refl)
text_behind (At kind line place end) h = absurd cc

directive_behind : (t : Lexeme) → IsTrue (is_directive t) → behind After (kind_at t) ≡ After
directive_behind (At (Directive words) line place end) h = refl
directive_behind (At kind line place end) h = absurd cc

second_meets : (between : List Lexeme) (second : Lexeme) (back : List Lexeme) → All (λ t. IsTrue (is_directive t)) between → IsTrue (is_string second)
    → Within false (run After (between ++ second ∷ back)) → ⊥
second_meets [] second back directives string w = met_stays back (subst (λ s. Within false (run s back)) (text_behind second string).1 w)
second_meets (t ∷ between) second back directives string w =
    second_meets between second back (All-tail (λ t. IsTrue (is_directive t)) t between directives) string
    (subst (λ s. Within false (run s (between ++ second ∷ back))) (directive_behind t (All-head (λ t. IsTrue (is_directive t)) t between directives)) w)

both_meet : (s : State) (front : List Lexeme) (first : Lexeme) (between : List Lexeme) (second : Lexeme) (back : List Lexeme)
    → IsTrue (is_string first) → All (λ t. IsTrue (is_directive t)) between → IsTrue (is_string second)
    → Within false (run s (front ++ first ∷ (between ++ second ∷ back))) → ⊥
both_meet Clear [] first between second back string directives other w =
    second_meets between second back directives other (subst (λ s. Within false (run s (between ++ second ∷ back))) (text_behind first string).0 w)
both_meet After [] first between second back string directives other w =
    met_stays (between ++ second ∷ back) (subst (λ s. Within false (run s (between ++ second ∷ back))) (text_behind first string).1 w)
both_meet Met [] first between second back string directives other w = met_stays (between ++ second ∷ back) w
both_meet s (t ∷ front) first between second back string directives other w =
    both_meet (behind s (kind_at t)) front first between second back string directives other w

pub none_parted : (ts : List Lexeme) → Within false (run Clear ts) → HasPartedStrings ts → ⊥
none_parted ts w h =
    both_meet Clear h.front h.first h.between h.second h.back h.strings.0 h.directives h.strings.1 (subst (λ l. Within false (run Clear l)) h.parts w)

-- ---- tokens part by part

-- Read where a string may be last, or none may, the tokens end where one may be, or none may.
pub record Leads (from to : Bool) (ts : List Lexeme) : Type 0 where
  pub reads : (s : State) → Within from s → Within to (run s ts)

-- neither a string nor a directive
abbrev pub IsOther : Kind → Type 0
IsOther (Text bytes) = ⊥
IsOther (Directive words) = ⊥
IsOther kind = Unit {0}

-- These parts lead so, one behind another.
pub data Chain : (from to : Bool) (parts : List Part) → Type 0 where
  Done : {last : Bool} → Chain last last []
  Tokens : {from by to : Bool} {us : List Lexeme} {parts : List Part} → Leads from by us → Chain by to parts → Chain from to (These us ∷ parts)
  Other : {from to : Bool} {kind : Kind} {parts : List Part} → IsOther kind → Chain false to parts → Chain from to (One kind ∷ parts)
  String : {to : Bool} {bytes : List ℕ} {parts : List Part} → Chain true to parts → Chain false to (One (Text bytes) ∷ parts)
  Mark : {from to : Bool} {words : _} {parts : List Part} → Chain from to parts → Chain from to (One (Directive words) ∷ parts)

other_clears : (from : Bool) (s : State) (kind : Kind) → IsOther kind → Within from s → Within false (behind s kind)
other_clears from Met kind other w = absurd w
other_clears from s (Text bytes) other w = absurd other
other_clears from s (Directive words) other w = absurd other
other_clears from s kind other w = tt

string_last : (s : State) (bytes : List ℕ) → Within false s → Within true (behind s (Text bytes))
string_last Clear bytes w = tt
string_last After bytes w = absurd w
string_last Met bytes w = absurd w

directive_keeps : (last : Bool) (s : State) (words : _) → Within last s → Within last (behind s (Directive words))
directive_keeps last Clear words w = w
directive_keeps last After words w = w
directive_keeps last Met words w = w

run-append : (s : State) (us vs : List Lexeme) → run s (us ++ vs) ≡ run (run s us) vs
run-append s [] vs = refl
run-append s (u ∷ us) vs = run-append (behind s (kind_at u)) us vs

-- The first token is of such a kind, and the rest is read behind it.
first_read : (to : Bool) (s : State) (kind : Kind) (t : Lexeme) (ts rest : List Lexeme) → ts ≡ t ∷ rest → kind_at t ≡ kind → Within to (run (behind s kind) rest) → Within to (run s ts)
first_read to s kind t ts rest e is w = subst (λ l. Within to (run s l)) (sym e) (subst (λ k. Within to (run (behind s k) rest)) (sym is) w)

led_by : {from to : Bool} {parts : List Part} (ts : List Lexeme) → Chain from to parts → Are ts parts → (s : State) → Within from s → Within to (run s ts)
led_by {from} ts Done e s w = subst (λ l. Within from (run s l)) (sym e) w
led_by {to = to} ts (Tokens {us = us} {parts = []} one more) e s w = subst (λ l. Within to (run s l)) (sym e) (led_by [] more refl (run s us) (one.reads s w))
led_by {to = to} ts (Tokens {us = us} {parts = part ∷ parts} one more) (rest, e, are) s w =
    subst (λ l. Within to (run s l)) (sym e) (subst (λ r. Within to r) (sym (run-append s us rest)) (led_by rest more are (run s us) (one.reads s w)))
led_by {from} {to} ts (Other {kind = kind} other more) (t, rest, e, is, are) s w =
    first_read to s kind t ts rest e is (led_by rest more are (behind s kind) (other_clears from s kind other w))
led_by {to = to} ts (String {bytes = bytes} more) (t, rest, e, is, are) s w =
    first_read to s (Text bytes) t ts rest e is (led_by rest more are (behind s (Text bytes)) (string_last s bytes w))
led_by {from} {to} ts (Mark {words = words} more) (t, rest, e, is, are) s w =
    first_read to s (Directive words) t ts rest e is (led_by rest more are (behind s (Directive words)) (directive_keeps from s words w))

pub led : {from to : Bool} {parts : List Part} (ts : List Lexeme) → Chain from to parts → Are ts parts → Leads from to ts
led ts chain are = record { reads = led_by ts chain are }

within_either : (s : State) → Within false s → Within true s
within_either Clear w = tt
within_either After w = tt
within_either Met w = w

-- What leads to no string leads to what may be one.
pub loose : {from : Bool} {ts : List Lexeme} → Leads from false ts → Leads from true ts
loose {ts = ts} one = record { reads = λ s w. within_either (run s ts) (one.reads s w) }

pub nothing : {last : Bool} {ts : List Lexeme} → ts ≡ [] → Leads last last ts
nothing {ts = ts} e = led ts Done e

pub cleared : {ts : List Lexeme} → run Clear ts ≡ Clear → Leads false false ts
cleared {ts = ts} e = record { reads = λ s w. from_clear s w }
  where
    from_clear : (s : State) → Within false s → Within false (run s ts)
    from_clear Clear w = subst (Within false) (sym e) tt
    from_clear After w = absurd w
    from_clear Met w = absurd w
