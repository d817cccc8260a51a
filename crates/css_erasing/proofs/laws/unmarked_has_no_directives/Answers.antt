use Rattle.css_erasing.proofs.Unmarked.{none_stands, others_stay, numbers_fit}
use Rattle.css_erasing.proofs.laws.unmarked_has_no_directives.Goals as goal

pub returns-clause-none_stands : goal.returns-clause-none_stands
returns-clause-none_stands c = none_stands

pub returns-clause-others_stay : goal.returns-clause-others_stay
returns-clause-others_stay c = others_stay

pub returns-clause-numbers_fit : goal.returns-clause-numbers_fit
returns-clause-numbers_fit c = numbers_fit
