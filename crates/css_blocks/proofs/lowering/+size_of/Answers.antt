use Rattle.std.proofs.Common.{rules, ap, sym, ◌∙◌}
use Rattle.css_blocks.specs.declared.part.Part.{the_lemmas}
use Rattle.css_blocks.specs.Layout.{size}
use Rattle.css_blocks.specs.Parts.{shape}
use Rattle.css_blocks.proofs.Parts.{item_sized, row_size}
use Rattle.css_blocks.proofs.lowering.+size_of.Goals as goal

pub size_of-requires : goal.size_of-requires
size_of-requires t c =
    (search (rules, the_lemmas), item_sized _ c.in-Row.parts _ _ _ c.in-Row.is c.requires c.deref-part-items.ensures.value c.loop-part-test.true c.part-item.is)

pub returns-after-loop-part : goal.returns-after-loop-part
returns-after-loop-part t c =
    row_size _ _ _ c.in-Row.parts c.loop-part-test.false c.deref-part-items.ensures.value c.loop-part.invariant
    ∙ ap (λ p. size (shape p)) (sym c.in-Row.is)
