use Rattle.css_objects.proofs.table.ObjectTable.waited.Given as goal

abbrev pub ghosts-waited_from : goal.ghosts-waited_from
ghosts-waited_from a = record { name = a.blank.name; parts = a.blank.parts }
