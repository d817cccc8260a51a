-- The lines of images.
use Rattle.std.specs.Prelude.{ℕ, List, ◌++◌, codes, length}
use Rattle.std.specs.Fmt.{decimal}
use Rattle.css_record.specs.declared.image.ImageHead.{ImageHead}
use Rattle.css_record.specs.declared.image.ImageKind.{ImageKind}
use Rattle.css_record.specs.declared.image.ImageKind.TheVariants as kinds
use Rattle.css_report.specs.declared.image.ImageFacts.{ImageFacts}
use Rattle.hex.specs.Hex.{encode_lower}
use Rattle.sha2.specs.Sha256.{sha256}

-- What is reported of an image with these bytes: their number and their SHA-256 (FIPS 180-4).
abbrev pub facts_of : ImageHead → (bytes : List ℕ) → ImageFacts
facts_of head bytes = record { head = head; length = length bytes; digest = sha256 bytes }

abbrev pub words_of : ImageKind → (line address : ℕ) → List ℕ
words_of kinds.Barrier line address = codes "barrier line " ++ decimal line
words_of kinds.Finish line address = codes "finish line " ++ decimal line
words_of kinds.Wait line address = codes "wait line " ++ decimal line ++ codes " address " ++ decimal address

-- Where an image is made.
abbrev pub place_words : ImageHead → List ℕ
place_words head = words_of head.kind head.line head.address

-- The line of an image. The digest is in hexadecimal digits, in lower case.
abbrev pub image_line : ImageFacts → List ℕ
image_line facts =
    codes "image " ++ place_words facts.head ++ codes " bytes " ++ decimal facts.length
    ++ codes " sha256 " ++ encode_lower facts.digest ++ codes "\n"
