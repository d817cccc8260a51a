-- What is kept of macros as the table that it stands for.
use Rattle.css_macros.specs.Macros.{Table}
use Rattle.css_macros.specs.NumberedWords.{words_of}
use Rattle.css_macros.specs.Entries.{table_with}
use Rattle.css_macros.specs.declared.macros.Macros.{Macros}

abbrev pub table_of : Macros → Table
table_of macros = table_with (words_of macros.words) macros.names.entries
