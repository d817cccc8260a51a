-- The frames in the order of the code, and the last one first.
use Rattle.std.proofs.Common.{◌≡◌, ℕ, zero, suc, ◌+◌, ◌-◌, ◌<◌, ◌≤◌, Bool, true, false, List, [], ◌∷◌, ◌++◌, length, slice_get, Option, Some, None, refl, sym, ap, ◌∙◌, arith, if◌then◌else◌}
use Rattle.std.proofs.lemmas.Option.{slice_get_within}
use Rattle.css_pexpr.specs.declared.frame.Frame as framed
use Rattle.css_pexpr.specs.Frames.{Stack, is_open, open_frames, is_closed}
use Rattle.css_pexpr.specs.Shapes.{frame, onto}

-- one more frame
pub onto-last : (fs : List framed.Frame) (f : framed.Frame) (stack : Stack) → onto (fs ++ f ∷ []) stack ≡ frame f ∷ onto fs stack
onto-last [] f stack = refl
onto-last (g ∷ fs) f stack = onto-last fs f (frame g ∷ stack)

pub closed_count : (stack : Stack) (n : ℕ) → n ≡ open_frames stack → (n ≡ 0 → is_closed stack ≡ true) × (0 < n → is_closed stack ≡ false)
closed_count [] n e = (λ h. refl, λ h. absurd (omega arith))
closed_count (f ∷ stack) n e = by (is_open f) refl (λ h. closed_count stack n h)
  where
    by : (b : Bool) → is_open f ≡ b → (n ≡ open_frames stack → (n ≡ 0 → is_closed stack ≡ true) × (0 < n → is_closed stack ≡ false))
        → (n ≡ 0 → is_closed (f ∷ stack) ≡ true) × (0 < n → is_closed (f ∷ stack) ≡ false)
    by true h later =
        let more : open_frames (f ∷ stack) ≡ open_frames stack + 1 = ap (λ b. if b then open_frames stack + 1 else open_frames stack) h in
        (λ z. absurd (omega arith), λ z. ap (λ b. if b then false else is_closed stack) h)
    by false h later =
        let same : open_frames (f ∷ stack) ≡ open_frames stack = ap (λ b. if b then open_frames stack + 1 else open_frames stack) h in
        let r = later (e ∙ same) in
        let here : is_closed (f ∷ stack) ≡ is_closed stack = ap (λ b. if b then false else is_closed stack) h in
        (λ z. here ∙ r.0 z, λ z. here ∙ r.1 z)

pub opens_one : (f : framed.Frame) (stack : Stack) → is_open (frame f) ≡ true → open_frames (frame f ∷ stack) ≡ open_frames stack + 1
opens_one f stack h = ap (λ b. if b then open_frames stack + 1 else open_frames stack) h

pub opens_none : (f : framed.Frame) (stack : Stack) → is_open (frame f) ≡ false → open_frames (frame f ∷ stack) ≡ open_frames stack
opens_none f stack h = ap (λ b. if b then open_frames stack + 1 else open_frames stack) h

open_bound : (fs : List framed.Frame) (stack : Stack) → open_frames (onto fs stack) ≤ length fs + open_frames stack
open_bound [] stack = omega arith
open_bound (f ∷ fs) stack = let r = open_bound fs (frame f ∷ stack) in let s = by (is_open (frame f)) refl in omega arith
  where
    by : (b : Bool) → is_open (frame f) ≡ b → open_frames (frame f ∷ stack) ≤ open_frames stack + 1
    by true h = let e = opens_one f stack h in omega arith
    by false h = let e = opens_none f stack h in omega arith

pub few_open : (fs : List framed.Frame) → open_frames (onto fs []) ≤ length fs
few_open fs = let r = open_bound fs [] in omega arith

-- the last one of a list
last_of : {A : Type 0} (xs : List A) (k : ℕ) (x : A) → k + 1 ≡ length xs → slice_get xs k ≡ Some x → (ys : List A) × (xs ≡ ys ++ x ∷ [])
last_of [] k x long h = absurd (omega arith)
last_of (y ∷ []) zero x long h = let same : y ≡ x = cc in ([], ap (λ z. z ∷ []) same)
last_of (y ∷ []) (suc k) x long h = absurd (omega arith)
last_of (y ∷ z ∷ zs) zero x long h = absurd (omega arith)
last_of (y ∷ z ∷ zs) (suc k) x long h = let r = last_of (z ∷ zs) k x (omega arith) h in (y ∷ r.0, ap (λ l. y ∷ l) r.1)

pub last_frame : (items fs : List framed.Frame) (f : framed.Frame) → items ≡ fs → Some f ≡ slice_get fs (length fs - 1) → (others : Stack) × (onto items [] ≡ frame f ∷ others)
last_frame items fs f e h =
    let within = slice_get_within fs (length fs - 1) f (sym h) in
    let r = last_of fs (length fs - 1) f (omega arith) (sym h) in
    (onto r.0 [], ap (λ l. onto l []) (e ∙ r.1) ∙ onto-last r.0 f [])
