-- Runs over tokens, and what is put together on the way.
use Rattle.std.proofs.Common.{◌≡◌, ℕ, ◌+◌, ◌<◌, ◌≤◌, Bool, true, false, ◌&&◌, nat_le, List, [], ◌∷◌, ◌++◌, codes, Option, Some, None, refl, sym, ap, ◌∙◌, subst, arith, if◌then◌else◌}
use Rattle.std.specs.Prelude.{option_and_then}
use Rattle.std.proofs.lemmas.Bool.{leb-true, le-leb, and_from, false_from_ne_true}
use Rattle.css_base.specs.Tokens as tokens
use Rattle.css_base.specs.Tokens.{Kind, Punctuator, Lexeme, At}
use Rattle.css_tree.specs.declared.operators.BinaryOperator.{BinaryOperator}
use Rattle.css_tree.specs.declared.operators.BinaryOperator.TheVariants as binaries
use Rattle.css_tree.specs.TokenParts.{kind_at, line_of, first_line}
use Rattle.css_tree.specs.Expressions.{level_of}
use Rattle.css_pexpr.specs.declared.prefix.Prefix.{Prefix}
use Rattle.css_pexpr.specs.declared.prefix.Prefix.TheVariants as prefixes
use Rattle.css_pexpr.specs.declared.follow.Joint.{Joint}
use Rattle.css_pexpr.specs.declared.follow.Joint.TheVariants as joints
use Rattle.css_pexpr.specs.declared.follow.Follow.{Follow}
use Rattle.css_pexpr.specs.declared.follow.Follow.TheVariants as follows
use Rattle.css_pexpr.specs.Signs.{follow_text, joint_text, own_level, left_level, reduce_level}
use Rattle.css_pexpr.specs.Frames.{Operand, operand, Frame, Pre, Casting, Infix, Otherwise, Assigning, Sequence, Group, Element, Question, Passing, Stack, is_open, frame_level, operand_level, wanted, applied, pops, Reduced, reduce, is_closed, joint_frame}
use Rattle.css_pexpr.specs.declared.manner.Manner.{Manner}
use Rattle.css_pexpr.specs.Reading.{State, Wants, Has, Types, step, step_wanting, step_having, step_type, followed, joined, run}
use Rattle.css_pexpr.proofs.Signs.{follow_found}

-- ---- runs

module _ (m : Manner) where
  pub step_at_wanting : (frames : Stack) (t : Lexeme) → step m (Wants frames) t ≡ step_wanting m frames (line_of t) (kind_at t)
  step_at_wanting frames (At kind line place end) = refl

  pub step_at_having : (frames : Stack) (is_name : Bool) (x : Operand) (t : Lexeme) → step m (Has frames is_name x) t ≡ step_having m frames is_name x (kind_at t)
  step_at_having frames is_name x (At kind line place end) = refl

  pub behind : (frames : Stack) (is_name : Bool) (x : Operand) (t : Lexeme) (f : Follow) → kind_at t ≡ Punctuator (follow_text f)
      → step m (Has frames is_name x) t ≡ followed m frames is_name x (Some f)
  behind frames is_name x t f is =
      step_at_having frames is_name x t ∙ ap (step_having m frames is_name x) is ∙ ap (followed m frames is_name x) (follow_found f)

  pub one : (s : State) {next : State} (t : Lexeme) (ts : List Lexeme) → step m s t ≡ Some next → run m s (t ∷ ts) ≡ run m next ts
  one s t ts h = ap (option_and_then (λ n. run m n ts)) h

  and_then : (us vs : List Lexeme) (o : Option State) → ((s : State) → run m s (us ++ vs) ≡ option_and_then (λ n. run m n vs) (run m s us))
      → option_and_then (λ n. run m n (us ++ vs)) o ≡ option_and_then (λ n. run m n vs) (option_and_then (λ n. run m n us) o)
  and_then us vs None h = refl
  and_then us vs (Some s) h = h s

  pub run-append : (us vs : List Lexeme) (s : State) → run m s (us ++ vs) ≡ option_and_then (λ n. run m n vs) (run m s us)
  run-append [] vs s = refl
  run-append (t ∷ us) vs s = and_then us vs (step m s t) (run-append us vs)

  pub goes : (s : State) {next : State} (us vs : List Lexeme) → run m s us ≡ Some next → run m s (us ++ vs) ≡ run m next vs
  goes s {next} us vs h = run-append us vs s ∙ ap (option_and_then (λ n. run m n vs)) h

  -- where an operand was read, there is a first token
  pub first_stays : (frames stack : Stack) (is_name : Bool) (x : Operand) (us vs : List Lexeme) → run m (Wants frames) us ≡ Some (Has stack is_name x)
      → first_line (us ++ vs) ≡ first_line us
  first_stays frames stack is_name x [] vs h = absurd cc
  first_stays frames stack is_name x (t ∷ us) vs h = refl

-- ---- putting together

pub reduce_pop : (most n : ℕ) (f : Frame) (frames : Stack) (x : Operand) → pops n f ≡ true → reduce most n (f ∷ frames) x ≡ reduce most n frames (applied most f x)
reduce_pop most n f frames x h = ap (λ b. if b then reduce most n frames (applied most f x) else record { stack = f ∷ frames; operand = x }) h

pub reduce_stop : (most n : ℕ) (f : Frame) (frames : Stack) (x : Operand) → pops n f ≡ false → reduce most n (f ∷ frames) x ≡ record { stack = f ∷ frames; operand = x }
reduce_stop most n f frames x h = ap (λ b. if b then reduce most n frames (applied most f x) else record { stack = f ∷ frames; operand = x }) h

pub pops_yes : (n : ℕ) (f : Frame) → is_open f ≡ false → n ≤ frame_level f → pops n f ≡ true
pops_yes n f closed low = ap (λ b. if b then false else nat_le n (frame_level f)) closed ∙ le-leb n (frame_level f) low

nat_le_no : (n k : ℕ) → k < n → nat_le n k ≡ false
nat_le_no n k low = false_from_ne_true (nat_le n k) (λ e. let h = leb-true n k e in omega arith)

pub level_bounds : (op : BinaryOperator) → (3 ≤ level_of op) × (level_of op ≤ 12)
level_bounds binaries.Or = (omega arith, omega arith)
level_bounds binaries.And = (omega arith, omega arith)
level_bounds binaries.BitOr = (omega arith, omega arith)
level_bounds binaries.BitXor = (omega arith, omega arith)
level_bounds binaries.BitAnd = (omega arith, omega arith)
level_bounds binaries.Equal = (omega arith, omega arith)
level_bounds binaries.NotEqual = (omega arith, omega arith)
level_bounds binaries.Less = (omega arith, omega arith)
level_bounds binaries.Greater = (omega arith, omega arith)
level_bounds binaries.LessOrEqual = (omega arith, omega arith)
level_bounds binaries.GreaterOrEqual = (omega arith, omega arith)
level_bounds binaries.ShiftLeft = (omega arith, omega arith)
level_bounds binaries.ShiftRight = (omega arith, omega arith)
level_bounds binaries.Add = (omega arith, omega arith)
level_bounds binaries.Subtract = (omega arith, omega arith)
level_bounds binaries.Multiply = (omega arith, omega arith)
level_bounds binaries.Divide = (omega arith, omega arith)
level_bounds binaries.Remainder = (omega arith, omega arith)

pub operand_level_bounds : (op : Prefix) → (13 ≤ operand_level op) × (operand_level op ≤ 14)
operand_level_bounds prefixes.Increment = (omega arith, omega arith)
operand_level_bounds prefixes.Decrement = (omega arith, omega arith)
operand_level_bounds prefixes.Sizeof = (omega arith, omega arith)
operand_level_bounds (prefixes.Operator op) = (omega arith, omega arith)

-- Levels at which nothing that wants a tight enough operand is put together: `own` is what a joint makes, `n` from where on it
-- puts together.
pub record AreApart (n own : ℕ) : Type 0 where
  pub loose : own ≤ 12
  pub below : own ≤ n
  pub second : 1 ≤ own → 2 ≤ n
  pub third : 2 ≤ own → 3 ≤ n

pub stays : (most level n own : ℕ) (frames : Stack) (x : Operand) → AreApart n own → wanted level frames ≤ own → reduce most n frames x ≡ record { stack = frames; operand = x }
stays most level n own [] x a low = refl
stays most level n own (Pre line op ∷ frames) x a low = absurd (let b = operand_level_bounds op in let loose = a.loose in omega arith)
stays most level n own (Casting line type ∷ frames) x a low = absurd (let loose = a.loose in omega arith)
stays most level n own (Infix line left op ∷ frames) x a low = reduce_stop most n (Infix line left op) frames x (nat_le_no n (level_of op) (let below = a.below in omega arith))
stays most level n own (Otherwise line condition first ∷ frames) x a low = reduce_stop most n (Otherwise line condition first) frames x (nat_le_no n 2 (let third = a.third low in omega arith))
stays most level n own (Assigning line place op ∷ frames) x a low = reduce_stop most n (Assigning line place op) frames x (nat_le_no n 1 (let second = a.second low in omega arith))
stays most level n own (Sequence line left ∷ frames) x a low = reduce_stop most n (Sequence line left) frames x (nat_le_no n 0 (let second = a.second low in omega arith))
stays most level n own (Group line ∷ frames) x a low = refl
stays most level n own (Element line array ∷ frames) x a low = refl
stays most level n own (Question line condition ∷ frames) x a low = refl
stays most level n own (Passing line callee before ∷ frames) x a low = refl

pub joints_apart : (j : Joint) → AreApart (reduce_level j) (own_level j)
joints_apart joints.Comma = record { loose = omega arith; below = omega arith; second = λ h. omega arith; third = λ h. omega arith }
joints_apart (joints.Assign op) = record { loose = omega arith; below = omega arith; second = λ h. omega arith; third = λ h. omega arith }
joints_apart joints.Question = record { loose = omega arith; below = omega arith; second = λ h. omega arith; third = λ h. omega arith }
joints_apart (joints.Binary op) = let b = level_bounds op in record { loose = omega arith; below = omega arith; second = λ h. omega arith; third = λ h. omega arith }

pub reduce_level_bounds : (j : Joint) → (reduce_level j ≤ left_level j) × (reduce_level j ≤ 13) × (own_level j ≤ left_level j) × (left_level j ≤ 14)
reduce_level_bounds joints.Comma = (omega arith, omega arith, omega arith, omega arith)
reduce_level_bounds (joints.Assign op) = (omega arith, omega arith, omega arith, omega arith)
reduce_level_bounds joints.Question = (omega arith, omega arith, omega arith, omega arith)
reduce_level_bounds (joints.Binary op) = let b = level_bounds op in (omega arith, omega arith, omega arith, omega arith)

-- ---- joints

module _ (m : Manner) where
  fits : (j : Joint) (frames : Stack) (x : Operand) → left_level j ≤ x.level → wanted m.level frames ≤ own_level j
      → (nat_le (left_level j) x.level && nat_le (wanted m.level frames) (own_level j)) ≡ true
  fits j frames x left own =
      and_from (nat_le (left_level j) x.level) (nat_le (wanted m.level frames) (own_level j)) (le-leb (left_level j) x.level left) (le-leb (wanted m.level frames) (own_level j) own)

  taken : (j : Joint) (frames : Stack) (x : Operand) → left_level j ≤ x.level → wanted m.level frames ≤ own_level j
      → (if nat_le (left_level j) x.level && nat_le (wanted m.level frames) (own_level j) then Some (Wants (joint_frame j x.line x.node ∷ frames)) else None)
      ≡ Some (Wants (joint_frame j x.line x.node ∷ frames))
  taken j frames x left own = ap (λ b. if b then Some (Wants (joint_frame j x.line x.node ∷ frames)) else None) (fits j frames x left own)

  comma_goes : (frames : Stack) (x : Operand) → 0 ≤ x.level → wanted m.level frames ≤ 0 → joined m joints.Comma frames x ≡ Some (Wants (Sequence x.line x.node ∷ frames))
  comma_goes [] x left own = taken joints.Comma [] x left own
  comma_goes (Passing line callee before ∷ frames) x left own = absurd (omega arith)
  comma_goes (f ∷ frames) x left own = taken joints.Comma (f ∷ frames) x left own

  pub joined_goes : (j : Joint) (frames : Stack) (x : Operand) → left_level j ≤ x.level → wanted m.level frames ≤ own_level j
      → joined m j frames x ≡ Some (Wants (joint_frame j x.line x.node ∷ frames))
  joined_goes joints.Comma frames x left own = comma_goes frames x left own
  joined_goes (joints.Assign op) frames x left own = taken (joints.Assign op) frames x left own
  joined_goes joints.Question frames x left own = taken joints.Question frames x left own
  joined_goes (joints.Binary op) frames x left own = taken (joints.Binary op) frames x left own
