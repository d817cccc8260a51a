use Rattle.std.proofs.Common.{◌≡◌, ◌+◌, [], ◌∷◌, ◌++◌, sym, ap, ◌∙◌}
use Rattle.css_small.proofs.BodyEntries.{on, from, names_from, one_more, all_done, names_next}
use Rattle.css_small.proofs.bodies.items_of.Goals as goal

pub loop-entry-preserved : goal.loop-entry-preserved
loop-entry-preserved c =
    let all = c.args.entries.now in
    let i = c.loop-entry.entry-index in
    let names = c.loop-entry.names in
    let new = c.item_of.new.names in
    let done = c.loop-entry.all.items in
    let s = c.in_ok-item_of.field-0 in
    let found = c.in_ok-item_of.ensures in
    let added : c.add.new.all.items ≡ done ++ s ∷ [] = c.in_ok-add.ensures.ok in
    record {
      items =
          ap (λ l. on l (from all (i + 1) new)) added
          ∙ one_more all i c.entry-item.result names new done s c.loop-entry-test.true c.entry-item.is found.ok found.behind
          ∙ c.loop-entry.invariant.items;
      behind =
          ap (names_from all (i + 1)) found.behind ∙ names_next all i c.entry-item.result names c.loop-entry-test.true c.entry-item.is
          ∙ c.loop-entry.invariant.behind;
    }

pub returns-clause-ok : goal.returns-clause-ok
returns-clause-ok c =
    sym c.loop-entry.invariant.items ∙ all_done c.args.entries.now c.loop-entry.entry-index c.loop-entry.names c.loop-entry.all.items c.loop-entry-test.false
