-- Bytes of two texts that are the same bytes of the same lines make the same pieces.
use Rattle.std.proofs.Common.{◌≡◌, ℕ, zero, suc, ◌-◌, Bool, true, false, not, ◌&&◌, List, [], ◌∷◌, take, map, cond, refl, ap, ap₂, sym, ◌∙◌, subst, Option, Some, None, is_none}
use Rattle.std.specs.Prelude.{slice_index, filter_map, codes, ◌==◌, if◌then◌else◌}
use Rattle.std.specs.List.{AllZip}
use Rattle.css_base.specs.Tokens.{Kind}
use Rattle.css_lexemes.specs.declared.line_kind.LineKind.{LineKind}
use Rattle.css_lexemes.specs.declared.line_kind.LineKind.TheVariants as kinds
use Rattle.css_lexemes.specs.declared.source.SourceByte.{SourceByte}
use Rattle.css_lexemes.specs.Source.{begins_with, bytes_of}
use Rattle.css_lexemes.specs.Lexemes.{Piece}
use Rattle.css_lexemes.specs.Longest.{shape_at, size_at, pieces_from}
use Rattle.css_macros.specs.Macros.{Table, may_define, defined}
use Rattle.css_lex.specs.Reading.{Definition, is_blank_piece, is_identifier, solid, from_solid, behind_first, kind_in, kind_of_piece, place_of, first_bytes, definition_at, definition_of, undefined_at, undefined_of, with_definition, without_name, table_by, read_by}
use Rattle.css_lex.specs.Spelling.{line_at}
use Rattle.css_lex.specs.Refusals.{begins_unended, is_bad_definition, is_malformed}
use Rattle.css_erased_text.proofs.Pairwise.{zip_take, zip_drop, zip_filter, zip_found}

-- A space of the text that stands for a comment that isn't ended.
abbrev pub is_unended_at : (text : List ℕ) → SourceByte → Bool
is_unended_at text c = (c.byte == 32) && begins_unended text c.place

-- A byte of a text and the same one of another text, in lines of one number.
pub record SameByte (text other : List ℕ) (c d : SourceByte) : Type 0 where
  pub byte_same : c.byte ≡ d.byte
  pub line_same : line_at text c.place ≡ line_at other d.place
  pub ended : is_unended_at text c ≡ false → is_unended_at other d ≡ false

pub record SamePiece (text other : List ℕ) (p q : Piece) : Type 0 where
  pub shape_same : p.shape ≡ q.shape
  pub bytes_same : AllZip (SameByte text other) p.bytes q.bytes

-- What a definition says.
abbrev Said : Type 0
Said = Option (List ℕ × List Kind)

abbrev said : Option Definition → Said
said None = None
said (Some d) = Some (d.name, filter_map kind_of_piece d.body)

abbrev with_said : Table → Said → Table
with_said table None = table
with_said table (Some d) = if may_define table d.0 d.1 then defined table d.0 d.1 else table

said_defines : (table : Table) (found : Option Definition) → with_definition table found ≡ with_said table (said found)
said_defines table None = refl
said_defines table (Some d) = refl

abbrev is_bad_said : (is_spelled : Bool) → Table → Said → Bool
is_bad_said is_spelled table None = true
is_bad_said is_spelled table (Some d) = is_spelled && not (may_define table d.0 d.1)

said_is_bad : (is_spelled : Bool) (table : Table) (found : Option Definition) → is_bad_definition is_spelled table found ≡ is_bad_said is_spelled table (said found)
said_is_bad is_spelled table None = refl
said_is_bad is_spelled table (Some d) = refl

module _ (text other : List ℕ) where
  pub bytes_alike : (cs ds : List SourceByte) → AllZip (SameByte text other) cs ds → bytes_of cs ≡ bytes_of ds
  bytes_alike [] [] zip = refl
  bytes_alike [] (d ∷ ds) zip = absurd zip
  bytes_alike (c ∷ cs) [] zip = absurd zip
  bytes_alike (c ∷ cs) (d ∷ ds) zip = ap₂ ◌∷◌ zip.0.byte_same (bytes_alike cs ds zip.1)

  pub pieces_alike : (inside : ℕ) (cs ds : List SourceByte) → AllZip (SameByte text other) cs ds → AllZip (SamePiece text other) (pieces_from inside cs) (pieces_from inside ds)
  pieces_alike inside [] [] zip = tt
  pieces_alike inside [] (d ∷ ds) zip = absurd zip
  pieces_alike inside (c ∷ cs) [] zip = absurd zip
  pieces_alike (suc inside) (c ∷ cs) (d ∷ ds) zip = pieces_alike inside cs ds zip.1
  pieces_alike zero (c ∷ cs) (d ∷ ds) zip =
      let same : bytes_of (c ∷ cs) ≡ bytes_of (d ∷ ds) = bytes_alike (c ∷ cs) (d ∷ ds) zip in
      let size : ℕ = size_at (bytes_of (c ∷ cs)) in (
        record {
          shape_same = ap shape_at same;
          bytes_same =
              subst (λ n. AllZip (SameByte text other) (take size (c ∷ cs)) (take n (d ∷ ds))) (ap size_at same)
              (zip_take (SameByte text other) size (c ∷ cs) (d ∷ ds) zip);
        },
        subst (λ n. AllZip (SamePiece text other) (pieces_from (size - 1) cs) (pieces_from (n - 1) ds)) (ap size_at same) (pieces_alike (size - 1) cs ds zip.1),
      )

  pub kind_alike : (p q : Piece) → SamePiece text other p q → kind_of_piece p ≡ kind_of_piece q
  kind_alike p q same = ap₂ kind_in same.shape_same (bytes_alike p.bytes q.bytes same.bytes_same)

  first_line_alike : (cs ds : List SourceByte) → AllZip (SameByte text other) cs ds
      → line_at text (slice_index (map (λ b. b.place) cs) 0) ≡ line_at other (slice_index (map (λ b. b.place) ds) 0)
  first_line_alike [] [] zip = refl
  first_line_alike [] (d ∷ ds) zip = absurd zip
  first_line_alike (c ∷ cs) [] zip = absurd zip
  first_line_alike (c ∷ cs) (d ∷ ds) zip = zip.0.line_same

  pub line_alike : (p q : Piece) → SamePiece text other p q → line_at text (place_of p) ≡ line_at other (place_of q)
  line_alike p q same = first_line_alike p.bytes q.bytes same.bytes_same

  pub solid_alike : (ps qs : List Piece) → AllZip (SamePiece text other) ps qs → AllZip (SamePiece text other) (solid ps) (solid qs)
  solid_alike ps qs zip =
      zip_filter (SamePiece text other) (λ p. not (is_blank_piece p.shape)) (λ q. not (is_blank_piece q.shape)) (λ p q same. ap (λ s. not (is_blank_piece s)) same.shape_same) ps qs zip

  from_by : (b b' : Bool) (ps qs more others : List Piece) → b ≡ b' → AllZip (SamePiece text other) ps qs → AllZip (SamePiece text other) more others
      → AllZip (SamePiece text other) (cond b ps more) (cond b' qs others)
  from_by true true ps qs more others same zip rest = zip
  from_by true false ps qs more others same zip rest = absurd cc
  from_by false true ps qs more others same zip rest = absurd cc
  from_by false false ps qs more others same zip rest = rest

  from_alike : (ps qs : List Piece) → AllZip (SamePiece text other) ps qs → AllZip (SamePiece text other) (from_solid ps) (from_solid qs)
  from_alike [] [] zip = tt
  from_alike [] (q ∷ qs) zip = absurd zip
  from_alike (p ∷ ps) [] zip = absurd zip
  from_alike (p ∷ ps) (q ∷ qs) zip =
      from_by (is_blank_piece p.shape) (is_blank_piece q.shape) (from_solid ps) (from_solid qs) (p ∷ ps) (q ∷ qs) (ap is_blank_piece zip.0.shape_same) (from_alike ps qs zip.1) zip

  behind_alike : (ps qs : List Piece) → AllZip (SamePiece text other) ps qs → AllZip (SamePiece text other) (behind_first ps) (behind_first qs)
  behind_alike ps qs zip = zip_drop (SamePiece text other) 1 (from_solid ps) (from_solid qs) (from_alike ps qs zip)

  pub read_alike : (kind : LineKind) (ps qs : List Piece) → AllZip (SamePiece text other) ps qs → AllZip (SamePiece text other) (read_by kind ps) (read_by kind qs)
  read_alike kinds.Text ps qs zip = zip
  read_alike kinds.Null ps qs zip = tt
  read_alike kinds.Include ps qs zip = tt
  read_alike kinds.Define ps qs zip = zip_drop (SamePiece text other) 2 ps qs zip
  read_alike kinds.Undef ps qs zip = tt
  read_alike kinds.Css ps qs zip = zip_drop (SamePiece text other) 3 ps qs zip
  read_alike kinds.Pragma ps qs zip = tt
  read_alike kinds.Unknown ps qs zip = tt

  first_alike : (ps qs : List Piece) → AllZip (SamePiece text other) ps qs → bytes_of (first_bytes ps) ≡ bytes_of (first_bytes qs)
  first_alike [] [] zip = refl
  first_alike [] (q ∷ qs) zip = absurd zip
  first_alike (p ∷ ps) [] zip = absurd zip
  first_alike (p ∷ ps) (q ∷ qs) zip = bytes_alike p.bytes q.bytes zip.0.bytes_same

  said_by : (b b' : Bool) (n m : List ℕ) (x y : List Piece) → b ≡ b' → n ≡ m → filter_map kind_of_piece x ≡ filter_map kind_of_piece y
      → said (cond b (Some (record { name = n; body = x })) None) ≡ said (cond b' (Some (record { name = m; body = y })) None)
  said_by true true n m x y same name body = ap₂ (λ a k. Some (a, k)) name body
  said_by true false n m x y same name body = absurd cc
  said_by false true n m x y same name body = absurd cc
  said_by false false n m x y same name body = refl

  said_at : (ps qs : List Piece) → AllZip (SamePiece text other) ps qs → said (definition_at ps) ≡ said (definition_at qs)
  said_at [] [] zip = refl
  said_at [] (q ∷ qs) zip = absurd zip
  said_at (p ∷ ps) [] zip = absurd zip
  said_at (p ∷ ps) (q ∷ qs) zip =
      said_by (is_identifier p.shape && not (begins_with (codes "(") (bytes_of (first_bytes ps)))) (is_identifier q.shape && not (begins_with (codes "(") (bytes_of (first_bytes qs))))
      (bytes_of p.bytes) (bytes_of q.bytes) (solid ps) (solid qs)
      (ap₂ (λ s b. is_identifier s && not (begins_with (codes "(") b)) zip.0.shape_same (first_alike ps qs zip.1))
      (bytes_alike p.bytes q.bytes zip.0.bytes_same)
      (zip_found (SamePiece text other) kind_of_piece kind_of_piece kind_alike (solid ps) (solid qs) (solid_alike ps qs zip.1))

  said_alike : (ps qs : List Piece) → AllZip (SamePiece text other) ps qs → said (definition_of ps) ≡ said (definition_of qs)
  said_alike ps qs zip =
      let once = behind_alike ps qs zip in
      let twice = behind_alike (behind_first ps) (behind_first qs) once in
      said_at (from_solid (behind_first (behind_first ps))) (from_solid (behind_first (behind_first qs))) (from_alike (behind_first (behind_first ps)) (behind_first (behind_first qs)) twice)

  undefined_there : (ps qs : List Piece) → AllZip (SamePiece text other) ps qs → undefined_at ps ≡ undefined_at qs
  undefined_there [] [] zip = refl
  undefined_there [] (q ∷ qs) zip = absurd zip
  undefined_there (p ∷ ps) [] zip = absurd zip
  undefined_there (p ∷ []) (q ∷ []) zip = ap₂ (λ s b. cond (is_identifier s) (Some b) None) zip.0.shape_same (bytes_alike p.bytes q.bytes zip.0.bytes_same)
  undefined_there (p ∷ []) (q ∷ r ∷ qs) zip = absurd zip.1
  undefined_there (p ∷ r ∷ ps) (q ∷ []) zip = absurd zip.1
  undefined_there (p ∷ r ∷ ps) (q ∷ s ∷ qs) zip = refl

  undefined_alike : (ps qs : List Piece) → AllZip (SamePiece text other) ps qs → undefined_of ps ≡ undefined_of qs
  undefined_alike ps qs zip =
      let once = behind_alike ps qs zip in
      let twice = behind_alike (behind_first ps) (behind_first qs) once in
      undefined_there (solid (behind_first (behind_first ps))) (solid (behind_first (behind_first qs))) (solid_alike (behind_first (behind_first ps)) (behind_first (behind_first qs)) twice)

  pub table_alike : (kind : LineKind) (table : Table) (ps qs : List Piece) → AllZip (SamePiece text other) ps qs → table_by kind table ps ≡ table_by kind table qs
  table_alike kinds.Text table ps qs zip = refl
  table_alike kinds.Null table ps qs zip = refl
  table_alike kinds.Include table ps qs zip = refl
  table_alike kinds.Define table ps qs zip = said_defines table (definition_of ps) ∙ ap (with_said table) (said_alike ps qs zip) ∙ sym (said_defines table (definition_of qs))
  table_alike kinds.Undef table ps qs zip = ap (without_name table) (undefined_alike ps qs zip)
  table_alike kinds.Css table ps qs zip = refl
  table_alike kinds.Pragma table ps qs zip = refl
  table_alike kinds.Unknown table ps qs zip = refl

  pub malformed_alike : (kind : LineKind) (is_spelled : Bool) (table : Table) (ps qs : List Piece) → AllZip (SamePiece text other) ps qs
      → is_malformed kind is_spelled table ps ≡ is_malformed kind is_spelled table qs
  malformed_alike kinds.Text is_spelled table ps qs zip = refl
  malformed_alike kinds.Null is_spelled table ps qs zip = refl
  malformed_alike kinds.Include is_spelled table ps qs zip = refl
  malformed_alike kinds.Define is_spelled table ps qs zip =
      said_is_bad is_spelled table (definition_of ps) ∙ ap (is_bad_said is_spelled table) (said_alike ps qs zip) ∙ sym (said_is_bad is_spelled table (definition_of qs))
  malformed_alike kinds.Undef is_spelled table ps qs zip = ap is_none (undefined_alike ps qs zip)
  malformed_alike kinds.Css is_spelled table ps qs zip = refl
  malformed_alike kinds.Pragma is_spelled table ps qs zip = refl
  malformed_alike kinds.Unknown is_spelled table ps qs zip = refl
