use Rattle.std.proofs.Common.{◌≡◌, ◌∙◌, ℕ, vec_len, sym, arith, List, [], ◌∷◌, length, ap, ap₂}
use Rattle.std.specs.Bool.{◌==◌}
use Rattle.std.proofs.lemmas.Result.{on_ok_weaker}
use Rattle.css_yard.specs.declared.done.Done.{Done}
use Rattle.css_yard.specs.Yards.{is_empty, with_record}
use Rattle.css_yard.specs.Kept.{submits_of}
use Rattle.css_yard.specs.InOrders.{parts_of}
use Rattle.css_yard.proofs.RecordParts.{parts_more}
use Rattle.css_yard.proofs.in_order.submit_behind.Goals as goal

none_submitted : (n : ℕ) (tasks : List Done) → n ≡ length tasks → (n == 0) ≡ is_empty (submits_of tasks)
none_submitted n [] same = grind arith
none_submitted n (d ∷ tasks) same = grind arith

pub returns-clause-parts : goal.returns-clause-parts
returns-clause-parts c =
    let parts = parts_of c.args.notes.now.items in
    let many : vec_len c.args.tasks.now ≡ length c.args.tasks.now.items = sym c.as_slice.ensures.len ∙ ap length c.as_slice.ensures.value in
    let first : c.of.result.value ≡ is_empty (submits_of c.args.tasks.now.items) = c.of.ensures ∙ c.is_empty.ensures ∙ none_submitted (vec_len c.args.tasks.now) c.args.tasks.now.items many in
    on_ok_weaker c.enter.result (λ e. ap parts_of e ∙ parts_more [] c.args.notes.now.items _ ∙ ap₂ (λ is_first r. with_record parts is_first r) first c.of-2.ensures) c.enter.ensures.notes
