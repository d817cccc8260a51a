use Rattle.std.proofs.Common.{◌≡◌, ℕ, ◌*◌, ◌<◌, ◌≤◌, ◌∷◌, sym, ap, subst, ◌∙◌, arith}
use Rattle.std.proofs.Math.Nat.{mul-le-mul}
use Rattle.css_types.specs.Types.{CType, size_of, biggest}
use Rattle.css_type_table.specs.declared.ctype.CType.{CType as FlatType}
use Rattle.css_type_table.specs.Lists.{Lists, list_at}
use Rattle.css_type_table.specs.Flat.{ctype, IsOf}
use Rattle.css_type_table.proofs.Growing.{ctype-kept, made_array, too_many, elements_few, product_some}
use Rattle.css_type_table.proofs.table.TypeTable.array_of.Goals as goal

pub overflow_mul-size : goal.overflow_mul-size
overflow_mul-size c =
    let few : c.args.count * c.size_of.result ≤ 1073741824 * 8589934592 = mul-le-mul c.if-count-gt-BIGGEST.false c.size_of.ensures.few in omega (arith, few)

pub returns-then-count-gt-BIGGEST-clause-too_big : goal.returns-then-count-gt-BIGGEST-clause-too_big
returns-then-count-gt-BIGGEST-clause-too_big c = too_many c.args.count (size_of (ctype c.args.self.now c.args.of)) c.if-count-gt-BIGGEST.true c.requires.object

pub overflow_mul-row : goal.overflow_mul-row
overflow_mul-row c =
    let few = elements_few c.args.self.now c.args.of c.args.count c.elements.result c.size_of.result c.requires.plain c.requires.object c.elements.ensures.count c.size_of.ensures.size c.if-size-gt-BIGGEST.false in
    omega (arith, few)

pub number_of-requires-clause-few : goal.number_of-requires-clause-few
number_of-requires-clause-few c =
    elements_few c.args.self.now c.args.of c.args.count c.elements.result c.size_of.result c.requires.plain c.requires.object c.elements.ensures.count c.size_of.ensures.size c.if-size-gt-BIGGEST.false

pub returns-in_err-number-clause-kept : goal.returns-in_err-number-clause-kept
returns-in_err-number-clause-kept c =
    subst (λ (ls : Lists). (t : FlatType) → IsOf ls t → ctype c.number_of.new.self t ≡ ctype ls t) c.self.view_is
    (ctype-kept c.self.inside.rows c.number_of.new.self c.number_of.ensures.kept)

pub returns-clause-array : goal.returns-clause-array
returns-clause-array c =
    made_array c.args.self.now c.number_of.new.self c.args.of c.in_ok-number.number c.args.count c.number.result c.requires.plain
    (c.in_ok-number.ensures.list ∙ ap (λ (ls : Lists). c.args.count ∷ list_at ls c.number.result) c.self.view_is) c.number.ensures.row

pub returns-clause-object : goal.returns-clause-object
returns-clause-object c =
    subst (λ (t : CType). 0 < size_of t) (sym (returns-clause-array c))
    (product_some c.args.count (size_of (ctype c.args.self.now c.args.of)) c.requires.some c.requires.object)

pub returns-clause-small : goal.returns-clause-small
returns-clause-small c =
    subst (λ (t : CType). size_of t ≤ biggest) (sym (returns-clause-array c))
    (subst (λ (n : ℕ). c.args.count * n ≤ biggest) c.size_of.ensures.size c.if-size-gt-BIGGEST.false)

pub returns-clause-kept : goal.returns-clause-kept
returns-clause-kept c =
    subst (λ (ls : Lists). (t : FlatType) → IsOf ls t → ctype c.number_of.new.self t ≡ ctype ls t) c.self.view_is
    (ctype-kept c.self.inside.rows c.number_of.new.self c.number_of.ensures.kept)
