-- What the last frame is, and what it isn't.
use Rattle.std.proofs.Common.{◌≡◌, ℕ, List, [], ◌∷◌, false, Option, Some, None, refl, sym, ap, ◌∙◌}
use Rattle.std.specs.Prelude.{IfSome, IfNone}
use Rattle.css_tree.specs.declared.words.Specifier.{Specifier}
use Rattle.css_pexpr.specs.declared.node.Known.{Known}
use Rattle.css_pexpr.specs.declared.node.Arguments.{Arguments}
use Rattle.css_pexpr.specs.declared.manner.Manner.{Manner}
use Rattle.css_pexpr.specs.declared.frame.Frame as framed
use Rattle.css_pexpr.specs.declared.frame.Frame.TheVariants as frames
use Rattle.css_pexpr.specs.declared.prefix.Prefix.TheVariants as prefixes
use Rattle.css_pexpr.specs.declared.prefix.Lead.TheVariants as leads
use Rattle.css_pexpr.specs.declared.follow.Joint.TheVariants as joints
use Rattle.css_tree.specs.Syntax.{TypeName, SizeofType}
use Rattle.css_tree.specs.Expressions.{unary}
use Rattle.css_pexpr.specs.Frames.{Operand, operand, capped, Frame, Pre, Stack, last_sizeof}
use Rattle.css_pexpr.specs.Shapes.{frame}
use Rattle.css_pexpr.specs.Reading.{State, Has, divided, grouped, indexed, led, begun, joined, taken, ended}

-- ---- `sizeof`

sizeof_last : (s : Stack) (first : ℕ) → last_sizeof s ≡ Some first → (others : Stack) × (s ≡ Pre first prefixes.Sizeof ∷ others)
sizeof_last [] first h = absurd cc
sizeof_last (Pre line prefixes.Sizeof ∷ frames) first h = let same : line ≡ first = cc in (frames, ap (λ l. Pre l prefixes.Sizeof ∷ frames) same)
sizeof_last (f ∷ frames) first h = absurd cc

-- the frame of `sizeof` was taken, and a type stood behind it
pub ended_sizeof : (m : Manner) (s new : Stack) (first line : ℕ) (type : TypeName) (p : Option framed.Frame) → last_sizeof s ≡ Some first
    → IfSome p (λ f. s ≡ frame f ∷ new) → IfNone p ((s ≡ []) × (new ≡ []))
    → ended m s line type ≡ Has new false (operand unary first (capped m.most (SizeofType first type)))
ended_sizeof m s new first line type None h some none = absurd (let r = sizeof_last s first h in let e : Pre first prefixes.Sizeof ∷ r.0 ≡ [] = sym r.1 ∙ none.0 in cc)
ended_sizeof m s new first line type (Some f) h some none =
    let r = sizeof_last s first h in
    let e : Pre first prefixes.Sizeof ∷ r.0 ≡ frame f ∷ new = sym r.1 ∙ some in
    let rest : r.0 ≡ new = cc in
    ap (λ z. ended m z line type) r.1 ∙ ap (λ z. Has z false (operand unary first (capped m.most (SizeofType first type)))) rest

-- ---- what a token doesn't close

abbrev pub IsNoQuestion : framed.Frame → Type 0
IsNoQuestion f = (line : ℕ) (condition : Option Known) → f ≡ frames.Question line condition → ⊥

abbrev pub IsNoGroup : framed.Frame → Type 0
IsNoGroup f = (line : ℕ) → f ≡ frames.Group line → ⊥

abbrev pub IsNoCall : framed.Frame → Type 0
IsNoCall f = (line : ℕ) (callee : Option Known) (before : Option Arguments) → f ≡ frames.Call line callee before → ⊥

abbrev pub IsNoElement : framed.Frame → Type 0
IsNoElement f = (line : ℕ) (array : Option Known) → f ≡ frames.Element line array → ⊥

pub no_question : (f : framed.Frame) (others : Stack) (x : Operand) → IsNoQuestion f → divided (frame f ∷ others) x ≡ None
no_question (frames.Prefix line op) others x h = refl
no_question (frames.Cast line to) others x h = refl
no_question (frames.Infix line left op) others x h = refl
no_question (frames.Otherwise line condition first) others x h = refl
no_question (frames.Assign line place op) others x h = refl
no_question (frames.Sequence line left) others x h = refl
no_question (frames.Group line) others x h = refl
no_question (frames.Element line array) others x h = refl
no_question (frames.Question line condition) others x h = absurd (h line condition refl)
no_question (frames.Call line callee before) others x h = refl

pub no_bracket : (m : Manner) (f : framed.Frame) (others : Stack) (x : Operand) → IsNoGroup f → IsNoCall f → grouped m (frame f ∷ others) x ≡ None
no_bracket m (frames.Prefix line op) others x h k = refl
no_bracket m (frames.Cast line to) others x h k = refl
no_bracket m (frames.Infix line left op) others x h k = refl
no_bracket m (frames.Otherwise line condition first) others x h k = refl
no_bracket m (frames.Assign line place op) others x h k = refl
no_bracket m (frames.Sequence line left) others x h k = refl
no_bracket m (frames.Group line) others x h k = absurd (h line refl)
no_bracket m (frames.Element line array) others x h k = refl
no_bracket m (frames.Question line condition) others x h k = refl
no_bracket m (frames.Call line callee before) others x h k = absurd (k line callee before refl)

pub no_element : (m : Manner) (f : framed.Frame) (others : Stack) (x : Operand) → IsNoElement f → indexed m (frame f ∷ others) x ≡ None
no_element m (frames.Prefix line op) others x h = refl
no_element m (frames.Cast line to) others x h = refl
no_element m (frames.Infix line left op) others x h = refl
no_element m (frames.Otherwise line condition first) others x h = refl
no_element m (frames.Assign line place op) others x h = refl
no_element m (frames.Sequence line left) others x h = refl
no_element m (frames.Group line) others x h = refl
no_element m (frames.Element line array) others x h = absurd (h line array refl)
no_element m (frames.Question line condition) others x h = refl
no_element m (frames.Call line callee before) others x h = refl

pub no_empty_call : (m : Manner) (f : framed.Frame) (others : Stack) (line : ℕ) → IsNoCall f → led m (frame f ∷ others) line (Some leads.Close) ≡ None
no_empty_call m (frames.Prefix first op) others line h = refl
no_empty_call m (frames.Cast first to) others line h = refl
no_empty_call m (frames.Infix first left op) others line h = refl
no_empty_call m (frames.Otherwise first condition then) others line h = refl
no_empty_call m (frames.Assign first place op) others line h = refl
no_empty_call m (frames.Sequence first left) others line h = refl
no_empty_call m (frames.Group first) others line h = refl
no_empty_call m (frames.Element first array) others line h = refl
no_empty_call m (frames.Question first condition) others line h = refl
no_empty_call m (frames.Call first callee before) others line h = absurd (h first callee before refl)

pub no_type : (m : Manner) (f : framed.Frame) (others : Stack) (s : Specifier) → IsNoGroup f → begun m (frame f ∷ others) (Some s) ≡ None
no_type m (frames.Prefix line op) others s h = refl
no_type m (frames.Cast line to) others s h = refl
no_type m (frames.Infix line left op) others s h = refl
no_type m (frames.Otherwise line condition first) others s h = refl
no_type m (frames.Assign line place op) others s h = refl
no_type m (frames.Sequence line left) others s h = refl
no_type m (frames.Group line) others s h = absurd (h line refl)
no_type m (frames.Element line array) others s h = refl
no_type m (frames.Question line condition) others s h = refl
no_type m (frames.Call line callee before) others s h = refl

pub no_argument : (m : Manner) (f : framed.Frame) (others : Stack) (x : Operand) → IsNoCall f → joined m joints.Comma (frame f ∷ others) x ≡ taken m joints.Comma (frame f ∷ others) x
no_argument m (frames.Prefix line op) others x h = refl
no_argument m (frames.Cast line to) others x h = refl
no_argument m (frames.Infix line left op) others x h = refl
no_argument m (frames.Otherwise line condition first) others x h = refl
no_argument m (frames.Assign line place op) others x h = refl
no_argument m (frames.Sequence line left) others x h = refl
no_argument m (frames.Group line) others x h = refl
no_argument m (frames.Element line array) others x h = refl
no_argument m (frames.Question line condition) others x h = refl
no_argument m (frames.Call line callee before) others x h = absurd (h line callee before refl)
