-- A store near no pending object.
use Rattle.std.proofs.Common.{◌≡◌, ℕ, false, List, length, All, ap, sym, subst, ◌∙◌}
use Rattle.css_semantics.specs.Dialogue.{Store}
use Rattle.css_semantics.specs.Flat.{memory_reply}
use Rattle.css_semantics.specs.Memory.{Memory, after}
use Rattle.css_semantics.specs.Pending.{Object, some_from}
use Rattle.css_semantics.specs.Rules.{meets}
use Rattle.css_semantics.specs.Tasks.{has_byte}
use Rattle.css_judged.specs.Judged.{Judged, main_reply, main_after, erased}
use Rattle.css_judged.proofs.MainReplies.{is_reply, store_does}
use Rattle.css_judged.proofs.NearObjects.{none_met, all_left}

module _ (m : Memory) (objects : List Object) (s : Judged) (view : (let t : Judged = record { memory = erased m; objects = objects } in t) ≡ s) (address count : ℕ) (bytes : List ℕ) (long : count ≡ length bytes)
    (far : All (λ o. some_from (has_byte o.window) address count ≡ false) objects) where
  far_from : All (λ o. some_from (has_byte o.window) address (length bytes) ≡ false) objects
  far_from = subst (λ (n : ℕ). All (λ o. some_from (has_byte o.window) address n ≡ false) objects) long far

  -- the memory replies
  pub far_reply : main_reply s (Store address bytes) ≡ memory_reply m (Store address bytes)
  far_reply =
      ap (λ (s : Judged). main_reply s (Store address bytes)) (sym view)
      ∙ is_reply (meets (λ o. o.is_written) objects address (length bytes)) (memory_reply m (Store address bytes)) (none_met (λ o. o.is_written) objects address (length bytes) far_from)

  -- all objects stay
  pub far_after : (let t : Judged = record { memory = erased (after m (Store address bytes)); objects = objects } in t) ≡ main_after s (Store address bytes)
  far_after =
      ap (λ (n : Memory). let t : Judged = record { memory = n; objects = objects } in t) (store_does m address bytes)
      ∙ ap (λ objects'. let t : Judged = record { memory = after (erased m) (Store address bytes); objects = objects' } in t) (all_left objects address (length bytes) far_from)
      ∙ ap (λ (s : Judged). main_after s (Store address bytes)) view
