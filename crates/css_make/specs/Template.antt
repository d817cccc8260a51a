-- The generated program's text: a template with three kinds of holes.
use Rattle.std.specs.Prelude.{ℕ, List, [], ◌∷◌, ◌++◌, codes, flat_map}
use Rattle.std.specs.Fmt.{decimal}
use Rattle.css_make.specs.declared.sizes.Shape.{Shape}

-- a piece of the template: text that stands as it is, a line of it, or a hole for one of the three sizes
pub data Piece : Type 0 where
  Text : (bytes : List ℕ) → Piece
  Line : (bytes : List ℕ) → Piece
  NB : Piece
  BS : Piece
  V : Piece

-- The program multiplies two matrices of NB times NB blocks with BS times BS elements each; a product of two blocks is
-- a task. Every second block of the first matrix is missing.
abbrev pub template : List Piece
template =
    Line (codes "#include <stdio.h>")
    ∷ Text (codes "#define NB ") ∷ NB ∷ Line []
    ∷ Text (codes "#define BS ") ∷ BS ∷ Line []
    ∷ Text (codes "#define V ") ∷ V ∷ Line []
    ∷ Line (codes "#pragma css task input(a[BS][BS], b[BS][BS]) inout(c[BS][BS]) highpriority")
    ∷ Line (codes "void block(int *a, int *b, int *c) {")
    ∷ Line (codes "  int i, j, k;")
    ∷ Line (codes "  for (i = 0; i < BS; i++)")
    ∷ Line (codes "    for (j = 0; j < BS; j++)")
    ∷ Line (codes "      for (k = 0; k < BS; k++)")
    ∷ Line (codes "        c[i * BS + j] += a[i * BS + k] * b[k * BS + j];")
    ∷ Line (codes "}")
    ∷ Line (codes "int *A[NB][NB], *B[NB][NB], *C[NB][NB];")
    ∷ Line (codes "int *fresh(int v) {")
    ∷ Line (codes "  int i, *p = malloc(BS * BS * sizeof(int));")
    ∷ Line (codes "  for (i = 0; i < BS * BS; i++) p[i] = v;")
    ∷ Line (codes "  return p;")
    ∷ Line (codes "}")
    ∷ Line (codes "int main(void) {")
    ∷ Line (codes "  int i, j, k, s = 0;")
    ∷ Line (codes "  for (i = 0; i < NB; i++)")
    ∷ Line (codes "    for (j = 0; j < NB; j++) {")
    ∷ Line (codes "      if ((i + j) % 2 == 0) A[i][j] = fresh(V * (i + 1));")
    ∷ Line (codes "      B[i][j] = fresh(j + 1);")
    ∷ Line (codes "      C[i][j] = fresh(0);")
    ∷ Line (codes "    }")
    ∷ Line (codes "  #pragma css start")
    ∷ Line (codes "  for (i = 0; i < NB; i++)")
    ∷ Line (codes "    for (j = 0; j < NB; j++)")
    ∷ Line (codes "      for (k = 0; k < NB; k++)")
    ∷ Line (codes "        if (A[i][k]) block(A[i][k], B[k][j], C[i][j]);")
    ∷ Line (codes "  #pragma css finish")
    ∷ Line (codes "  for (i = 0; i < NB; i++)")
    ∷ Line (codes "    for (j = 0; j < NB; j++)")
    ∷ Line (codes "      for (k = 0; k < BS * BS; k++) s += C[i][j][k];")
    ∷ Line (codes "  printf(\"%d\\n\", s);")
    ∷ Line (codes "  return 0;")
    ∷ Line (codes "}")
    ∷ []

-- A hole is filled with its size in decimal.
abbrev pub filled : Shape → Piece → List ℕ
filled shape (Text bytes) = bytes
filled shape (Line bytes) = bytes ++ codes "\n"
filled shape NB = decimal shape.nb
filled shape BS = decimal shape.bs
filled shape V = decimal shape.v

-- the program's text with these sizes
abbrev pub program_text : Shape → List ℕ
program_text shape = flat_map (filled shape) template
