-- The globals' first bytes, and the memory in which a code starts.
use Rattle.std.proofs.Common.{◌≡◌, ℕ, ◌+◌, ◌-◌, ◌≤◌, List, [], ◌∷◌, length, take, drop, replicate, ap, ◌∙◌, arith}
use Rattle.std.proofs.lemmas.List.{take-replicate, length-replicate, drop_all}
use Rattle.css_semantics.specs.Memory.{rounded_up, overlaid}
use Rattle.css_semantics.proofs.StackPlaces.{length-overlaid}
use Rattle.css_isa.specs.Code.{Code, Datum}
use Rattle.css_memory.specs.Starts.{first_bytes, start_of}
use Rattle.css_memory.specs.Kept.{Parts, kept}
use Rattle.css_memory.proofs.Overlays.{take-overlaid}
use Rattle.css_memory.proofs.StoredBytes.{same_memory}

pub length-first_bytes : (datums : List Datum) (size : ℕ) → length (first_bytes datums size) ≡ size
length-first_bytes [] size = length-replicate {A = ℕ} size 0
length-first_bytes (d ∷ datums) size = length-overlaid 4096 (first_bytes datums size) d.address d.bytes ∙ length-first_bytes datums size

-- fewer of them
take-first_bytes : (datums : List Datum) (k size : ℕ) → k ≤ size → take k (first_bytes datums size) ≡ first_bytes datums k
take-first_bytes [] k size within = take-replicate k size 0 within
take-first_bytes (d ∷ datums) k size within =
    take-overlaid k 4096 (first_bytes datums size) d.address d.bytes
    ∙ ap (λ bytes. overlaid 4096 bytes d.address d.bytes) (take-first_bytes datums k size within)

abbrev pub parts_at : (low : List ℕ) (globals_end heap_start : ℕ) (high : List ℕ) (origin start : ℕ) → Parts
parts_at low globals_end heap_start high origin start =
    record { low = low; globals_end = globals_end; heap_start = heap_start; high = high; origin = origin; start = start }

module _ (code : Code) (heap_start size limit most : ℕ) (globals : 4096 ≤ code.globals_end) (is_start : heap_start ≡ rounded_up 16 code.globals_end)
    (room : heap_start + 1064960 ≤ size) (within : limit ≤ 1064960) where
  abbrev first : Parts
  first = parts_at (first_bytes code.datums (heap_start - 4096)) code.globals_end heap_start (replicate limit 0) (size - limit) limit

  pub first_is : kept first 0 most ≡ start_of code size (record { bytes = limit; calls = most })
  first_is =
      let high : length (replicate limit 0) ≡ limit = length-replicate {A = ℕ} limit 0 in
      same_memory
      (take (code.globals_end - 4096) (first_bytes code.datums (heap_start - 4096))) (first_bytes code.datums (code.globals_end - 4096))
      (drop (heap_start - 4096) (first_bytes code.datums (heap_start - 4096))) []
      (drop limit (replicate limit 0)) []
      (size - limit + length (replicate limit 0)) size (length (replicate limit 0)) limit 0 most
      (take-first_bytes code.datums (code.globals_end - 4096) (heap_start - 4096) (omega arith))
      (drop_all (heap_start - 4096) (first_bytes code.datums (heap_start - 4096)) (omega (arith, length-first_bytes code.datums (heap_start - 4096))))
      (drop_all limit (replicate limit 0) (omega (arith, high)))
      (omega (arith, high)) high
