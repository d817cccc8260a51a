use Rattle.css_objects.proofs.table.ObjectTable.name_args.Given as goal

abbrev pub ghosts-name_from : goal.ghosts-name_from
ghosts-name_from a = record { name = a.blank.name; parts = a.blank.parts }
