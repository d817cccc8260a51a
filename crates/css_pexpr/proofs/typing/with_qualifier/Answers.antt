use Rattle.std.proofs.Common.{◌≡◌, [], ◌∷◌, ◌++◌, map, refl, sym, ap, ◌∙◌, arith}
use Rattle.std.proofs.lemmas.List.{map-append, nil_from_length}
use Rattle.css_tree.specs.Shapes.{type_name, stars}
use Rattle.css_tree.specs.Syntax.{TypeName}
use Rattle.css_pexpr.specs.Reading.{with_qualifier, at_last}
use Rattle.css_pexpr.proofs.Types.{at_last-behind}
use Rattle.css_pexpr.proofs.typing.with_qualifier.Goals as goal
use Rattle.css_pexpr.proofs.typing.with_qualifier.Goals.{in-Some+in_ok-push+in_ok-push-2, in_default}

pub returns : goal.returns
returns c =
    let specifiers = c.args.so_far.specifiers.items in
    elim c.match-pop.branch [
      | in-Some+in_ok-push+in_ok-push-2 w ↦
          ap (λ l. let t : TypeName = record { specifiers = specifiers; stars = stars l } in t) (ap (λ s. s.items) w.stars-is ∙ w.in_ok-push-2.ensures.items)
          ∙ ap (λ l. let t : TypeName = record { specifiers = specifiers; stars = l } in t)
          (map-append (λ star. star.qualifiers.items) c.pop.new.self.items _ ∙ ap (λ q. stars c.pop.new.self.items ++ q ∷ []) w.in_ok-push.ensures.items
          ∙ sym (ap (λ l. at_last (stars l) c.args.qualifier) w.in-Some.ensures.items ∙ ap (λ l. at_last l c.args.qualifier) (map-append (λ star. star.qualifiers.items) c.pop.new.self.items _)
          ∙ at_last-behind (stars c.pop.new.self.items) _ c.args.qualifier))
      | in_default w ↦
          let none : c.args.so_far.stars.items ≡ [] = nil_from_length c.args.so_far.stars.items (omega (arith, w.in_default.ensures.cases)) in
          let left : c.pop.new.self.items ≡ [] = nil_from_length c.pop.new.self.items (omega (arith, w.in_default.ensures.cases)) in
          ap (λ l. let t : TypeName = record { specifiers = specifiers; stars = stars l } in t) (ap (λ s. s.items) w.stars-is ∙ left)
          ∙ ap (λ l. let t : TypeName = record { specifiers = specifiers; stars = at_last (stars l) c.args.qualifier } in t) (sym none)
    ]
