-- The library's functions of the code, as those of the definitions.
use Rattle.css_scopes.specs.declared.library.Library.{Library}
use Rattle.css_scopes.specs.declared.library.Library.TheVariants as code
use Rattle.css_types.specs.Scopes as types

abbrev pub library : Library → types.Library
library code.Getchar = types.Getchar
library code.Putchar = types.Putchar
library code.Puts = types.Puts
library code.Malloc = types.Malloc
library code.Free = types.Free
library code.Printf = types.Printf
