-- The numbers of a generation's tasks follow one another.
use Rattle.std.proofs.Common.{◌≡◌, ◌+◌, ℕ, zero, suc, List, take, Some, Contains, sym, ◌∙◌, ap, arith}
use Rattle.std.specs.List.{slice_get}
use Rattle.std.proofs.lemmas.Option.{slice_get_within}
use Rattle.css_base.specs.declared.limits.Limits.{Limits}
use Rattle.css_vm.specs.Code.{Code}
use Rattle.css_yard.specs.Values.{Submit}
use Rattle.css_yard.specs.Submits.{AreSubmitted}
use Rattle.css_yard.proofs.Lists.{place_of, is_within, take_one_more}

pub numbers_follow : (code : Code) (limits : Limits) (submits : List Submit) → AreSubmitted code limits submits → (k : ℕ) (first s : Submit)
    → slice_get submits 0 ≡ Some first → slice_get submits k ≡ Some s → s.rec.number ≡ first.rec.number + k
numbers_follow code limits submits are zero first s is_first is = let same : s ≡ first = cc in omega (arith, ap (λ (x : Submit). x.rec.number) same)
numbers_follow code limits submits are (suc k) first s is_first is =
    let last = is_within submits k (omega (arith, slice_get_within submits (suc k) s is)) in
    let before = numbers_follow code limits submits are k first last.0 is_first last.1 in
    let next = (are (suc k) s is).next last.0 (take k submits) (take_one_more submits k last.0 last.1) in
    omega (arith, before, next)

-- so each number is of one submit
pub one_place : (code : Code) (limits : Limits) (submits : List Submit) → AreSubmitted code limits submits → (j k : ℕ) (s s' : Submit)
    → slice_get submits j ≡ Some s → slice_get submits k ≡ Some s' → s.rec.number ≡ s'.rec.number → j ≡ k
one_place code limits submits are j k s s' is is' same =
    let first = is_within submits 0 (omega (arith, slice_get_within submits j s is)) in
    omega (arith, numbers_follow code limits submits are j first.0 s first.1 is, numbers_follow code limits submits are k first.0 s' first.1 is', same)

pub one_submit : (code : Code) (limits : Limits) (submits : List Submit) → AreSubmitted code limits submits → (s s' : Submit)
    → Contains submits s → Contains submits s' → s.rec.number ≡ s'.rec.number → s ≡ s'
one_submit code limits submits are s s' has has' same =
    let p = place_of submits s has in
    let q = place_of submits s' has' in
    let at : p.0 ≡ q.0 = one_place code limits submits are p.0 q.0 s s' p.1 q.1 same in
    let both : Some s ≡ Some s' = sym p.1 ∙ ap (slice_get submits) at ∙ q.1 in cc
