-- A generation grows by one submit after the other.
use Rattle.std.proofs.Common.{◌≡◌, ℕ, List, [], ◌∷◌, ◌++◌, length, take, Some, ◌⊎◌, inl, inr, sym, subst, arith}
use Rattle.std.specs.List.{slice_get}
use Rattle.std.proofs.lemmas.List.{take-append-le, take_at}
use Rattle.std.proofs.lemmas.Option.{slice_get_within}
use Rattle.css_base.specs.declared.limits.Limits.{Limits}
use Rattle.css_vm.specs.Code.{Code}
use Rattle.css_yard.specs.Values.{Submit}
use Rattle.css_yard.specs.Yards.{MaySubmit}
use Rattle.css_yard.specs.Submits.{AreSubmitted}
use Rattle.css_yard.proofs.Lists.{last_or_before}

pub none_submitted : (code : Code) (limits : Limits) → AreSubmitted code limits []
none_submitted code limits k s is = cc

module _ (code : Code) (limits : Limits) (submits : List Submit) (s : Submit) (are : AreSubmitted code limits submits) (may : MaySubmit code limits submits s.rec s.given) where
  at_place : (k : ℕ) (t : Submit) → ((slice_get submits k ≡ Some t) ⊎ ((k ≡ length submits) × (s ≡ t))) → MaySubmit code limits (take k (submits ++ s ∷ [])) t.rec t.given
  at_place k t (inl before) =
      subst (λ xs. MaySubmit code limits xs t.rec t.given) (sym (take-append-le k submits (s ∷ []) (omega (arith, slice_get_within submits k t before)))) (are k t before)
  at_place k t (inr (last, is)) =
      subst (λ xs. MaySubmit code limits xs t.rec t.given) (sym (take_at submits (s ∷ []) k (sym last))) (subst (λ (x : Submit). MaySubmit code limits submits x.rec x.given) is may)

  pub one_more_submitted : AreSubmitted code limits (submits ++ s ∷ [])
  one_more_submitted k t is = at_place k t (last_or_before submits s k t is)
