use Rattle.css_objects.proofs.table.ObjectTable.object.Given as goal

abbrev pub ghosts-object_from : goal.ghosts-object_from
ghosts-object_from a = record { name = a.blank.name; parts = a.blank.parts }
