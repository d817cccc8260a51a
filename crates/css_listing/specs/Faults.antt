-- Where a text stops being a listing.
use Rattle.std.specs.Prelude.{◌≡◌, ◌<◌, ◌-◌, ℕ, List, ◌++◌, length, Result, Ok, Err}
use Rattle.std.specs.List.{flat_map}
use Rattle.css_isa.specs.declared.code.Code.{Code}
use Rattle.css_listing.specs.declared.listing_line.ListingLine.{ListingLine}
use Rattle.css_listing.specs.declared.fault.ListingFault.{ListingFault}
use Rattle.css_listing.specs.declared.fault.ListingFault.TheVariants as faults
use Rattle.css_listing.specs.Lines.{line_text, code_lines, listing, Fits}

-- The text begins with so many lines of a listing.
pub record BeginsLike (text : List ℕ) (count : ℕ) : Type 0 where
  pub c : Code
  pub front : List ListingLine
  pub others : List ListingLine
  pub rest : List ℕ
  pub fits : Fits c
  pub lines : code_lines c ≡ front ++ others
  pub begins : text ≡ flat_map line_text front ++ rest
  pub counted : length front ≡ count

-- The text is no code's listing. The lines before this one are those of a listing, and with this one they aren't: so it can't follow
-- them, or it stands behind the text's last one.
pub record IsBadAt (text : List ℕ) (line : ℕ) : Type 0 where
  pub is_none : (c : Code) → Fits c → text ≡ listing c → ⊥
  pub before : BeginsLike text (line - 1)
  pub most : (count : ℕ) → BeginsLike text count → count < line

abbrev pub IsFault : List ℕ → ListingFault → Type 0
IsFault text (faults.Bad line) = IsBadAt text line
IsFault text faults.NoMemory = Unit {0}

-- This code is read, unless memory runs out.
abbrev pub IsRead : Result Code ListingFault → Code → Type 0
IsRead (Ok read) c = read ≡ c
IsRead (Err (faults.Bad line)) c = ⊥
IsRead (Err faults.NoMemory) c = Unit {0}
