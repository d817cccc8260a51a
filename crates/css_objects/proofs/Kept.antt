-- Versions with bytes in the places of what tasks make.
use Rattle.std.proofs.Common.{◌≡◌, ℕ, suc, Bool, true, false, List, [], ◌∷◌, ◌++◌, length, map, filter, take, drop, is_some, refl, sym, ap, ◌∙◌, subst, arith}
use Rattle.std.proofs.lemmas.List.{map-append}
use Rattle.css_semantics.specs.Clear.{AreApart}
use Rattle.css_record.specs.declared.window.Window as coded
use Rattle.css_record.specs.declared.version.VersionName.TheVariants as names
use Rattle.css_record.specs.Windows.{window}
use Rattle.css_objects.specs.declared.version.Held.{Held}
use Rattle.css_objects.specs.declared.version.Held.TheVariants as held
use Rattle.css_arguments.specs.Lists.{Each}
use Rattle.css_objects.specs.Found.{AreRows}
use Rattle.css_objects.specs.Table.{Entry, entries, windows, maker, is_written, object, IsBlock, IsTable}
use Rattle.css_objects.specs.Versions.{versions, made_in, kept_first, left_by, kept_in, left_in}

pub versions-entries : (ws : List coded.Window) (vs : List Held) → length vs ≡ length ws → versions (entries ws vs) ≡ vs
versions-entries [] [] long = refl
versions-entries [] (v ∷ vs) long = absurd (omega arith)
versions-entries (w ∷ ws) [] long = absurd (omega arith)
versions-entries (w ∷ ws) (v ∷ vs) long = ap (λ rest. v ∷ rest) (versions-entries ws vs (omega arith))

pub part_versions : (ws : List coded.Window) (vs : List Held) (es : List Entry) → length vs ≡ length ws → entries ws vs ≡ es → vs ≡ versions es
part_versions ws vs es long is = sym (versions-entries ws vs long) ∙ ap versions is

pub made-append : (xs ys : List Held) → made_in (xs ++ ys) ≡ made_in xs ++ made_in ys
made-append [] ys = refl
made-append (held.Made task out ∷ xs) ys = ap (λ rest. names.Made task out ∷ rest) (made-append xs ys)
made-append (held.Kept bytes by ∷ xs) ys = made-append xs ys

pub kept-append : (xs ys : List Held) (kept : List (List ℕ)) → kept_in (xs ++ ys) kept ≡ kept_in xs kept ++ kept_in ys (left_in xs kept)
kept-append [] ys kept = refl
kept-append (v ∷ xs) ys kept = ap (λ rest. kept_first v kept ∷ rest) (kept-append xs ys (left_by v kept))

pub length-kept : (vs : List Held) (kept : List (List ℕ)) → length (kept_in vs kept) ≡ length vs
length-kept [] kept = refl
length-kept (v ∷ vs) kept = ap suc (length-kept vs (left_by v kept))

-- who made them stays
abbrev pub has_maker : Held → Bool
has_maker v = is_some (maker v)

first-maker : (v : Held) (kept : List (List ℕ)) → has_maker (kept_first v kept) ≡ has_maker v
first-maker (held.Made task out) [] = refl
first-maker (held.Made task out) (bytes ∷ kept) = refl
first-maker (held.Kept bytes by) kept = refl

kept-makers : (vs : List Held) (kept : List (List ℕ)) → map has_maker (kept_in vs kept) ≡ map has_maker vs
kept-makers [] kept = refl
kept-makers (v ∷ vs) kept = ap (λ b. b ∷ map has_maker (kept_in vs (left_by v kept))) (first-maker v kept) ∙ ap (λ bs. has_maker v ∷ bs) (kept-makers vs (left_by v kept))

-- ---- entries with the same windows and makers

pub same_parts : (es fs : List Entry) → windows es ≡ windows fs → map has_maker (versions es) ≡ map has_maker (versions fs) → map object es ≡ map object fs
same_parts [] [] of_w of_m = refl
same_parts [] (f ∷ fs) of_w of_m = absurd (cc)
same_parts (e ∷ es) [] of_w of_m = absurd (cc)
same_parts (e ∷ es) (f ∷ fs) of_w of_m =
    let w : e.window ≡ f.window = cc in
    let ws : windows es ≡ windows fs = cc in
    let m : is_some (maker e.version) ≡ is_some (maker f.version) = cc in
    let ms : map has_maker (versions es) ≡ map has_maker (versions fs) = cc in
    ap (λ (x : coded.Window). record { window = window x; is_written = is_some (maker e.version) } ∷ map object es) w
    ∙ ap (λ b. record { window = window f.window; is_written = b } ∷ map object es) m
    ∙ ap (λ os. object f ∷ os) (same_parts es fs ws ms)

pub same_written : (es fs : List Entry) → windows es ≡ windows fs → map has_maker (versions es) ≡ map has_maker (versions fs) → windows (filter is_written es) ≡ windows (filter is_written fs)
same_written [] [] of_w of_m = refl
same_written [] (f ∷ fs) of_w of_m = absurd (cc)
same_written (e ∷ es) [] of_w of_m = absurd (cc)
same_written (e ∷ es) (f ∷ fs) of_w of_m =
    let w : e.window ≡ f.window = cc in
    let ws : windows es ≡ windows fs = cc in
    let m : is_written e ≡ is_written f = cc in
    let ms : map has_maker (versions es) ≡ map has_maker (versions fs) = cc in
    by (is_written e) (is_written f) refl refl m w (same_written es fs ws ms)
  where
    by : (b d : Bool) → is_written e ≡ b → is_written f ≡ d → is_written e ≡ is_written f → e.window ≡ f.window → windows (filter is_written es) ≡ windows (filter is_written fs)
        → windows (filter is_written (e ∷ es)) ≡ windows (filter is_written (f ∷ fs))
    by true true of_e of_f same w rest = rw (of_e, of_f) (ap (λ x. x ∷ windows (filter is_written es)) w ∙ ap (λ xs. f.window ∷ xs) rest)
    by false false of_e of_f same w rest = rw (of_e, of_f) rest
    by true false of_e of_f same w rest = absurd (cc)
    by false true of_e of_f same w rest = absurd (cc)

module _ (es fs : List Entry) (kept : List (List ℕ)) (of_windows : windows fs ≡ windows es) (of_versions : versions fs ≡ kept_in (versions es) kept) where
  makers : map has_maker (versions fs) ≡ map has_maker (versions es)
  makers = ap (map has_maker) of_versions ∙ kept-makers (versions es) kept

  pub kept-objects : map object fs ≡ map object es
  kept-objects = same_parts fs es of_windows makers

  pub kept-written : windows (filter is_written fs) ≡ windows (filter is_written es)
  kept-written = same_written fs es of_windows makers

-- a table with bytes in the places of what tasks make
pub table-kept : (rows blocks rows' blocks' : List Entry) (written : List coded.Window) (first second : List (List ℕ)) → IsTable rows blocks written
    → windows rows' ≡ windows rows → versions rows' ≡ kept_in (versions rows) first → windows blocks' ≡ windows blocks → versions blocks' ≡ kept_in (versions blocks) second → IsTable rows' blocks' written
table-kept rows blocks rows' blocks' written first second is of_rows row_versions of_blocks block_versions = record {
  rows_are = subst AreRows (sym of_rows) is.rows_are;
  blocks_are = subst (λ ws. Each ws IsBlock) (sym of_blocks) is.blocks_are;
  written_rows = is.written_rows;
  written_are = is.written_are ∙ sym (kept-written rows rows' first of_rows row_versions);
  apart =
      subst AreApart
      (sym (map-append object rows' blocks'
      ∙ ap (λ os. os ++ map object blocks') (kept-objects rows rows' first of_rows row_versions)
      ∙ ap (λ os. map object rows ++ os) (kept-objects blocks blocks' second of_blocks block_versions)
      ∙ sym (map-append object rows blocks)))
      is.apart;
}

pub kept-all_objects : (rows blocks rows' blocks' : List Entry) (first second : List (List ℕ))
    → windows rows' ≡ windows rows → versions rows' ≡ kept_in (versions rows) first → windows blocks' ≡ windows blocks → versions blocks' ≡ kept_in (versions blocks) second
    → map object (rows' ++ blocks') ≡ map object (rows ++ blocks)
kept-all_objects rows blocks rows' blocks' first second of_rows row_versions of_blocks block_versions =
    map-append object rows' blocks'
    ∙ ap (λ os. os ++ map object blocks') (kept-objects rows rows' first of_rows row_versions)
    ∙ ap (λ os. map object rows ++ os) (kept-objects blocks blocks' second of_blocks block_versions)
    ∙ sym (map-append object rows blocks)

pub kept-all_versions : (rows blocks rows' blocks' : List Entry) (kept : List (List ℕ))
    → versions rows' ≡ kept_in (versions rows) kept → versions blocks' ≡ kept_in (versions blocks) (left_in (versions rows) kept)
    → versions (rows' ++ blocks') ≡ kept_in (versions (rows ++ blocks)) kept
kept-all_versions rows blocks rows' blocks' kept row_versions block_versions =
    map-append (λ e. e.version) rows' blocks'
    ∙ ap (λ vs. vs ++ versions blocks') row_versions
    ∙ ap (λ vs. kept_in (versions rows) kept ++ vs) block_versions
    ∙ sym (kept-append (versions rows) (versions blocks) kept)
    ∙ ap (λ vs. kept_in vs kept) (sym (map-append (λ e. e.version) rows blocks))

-- ---- versions that are looked at one after another

-- those before a place are done, and the ones from it on are as they were
pub record KeptTo (old : List Held) (kept : List (List ℕ)) (place : ℕ) (new : List Held) (left : List (List ℕ)) : Type 0 where
  pub done : take place new ++ kept_in (drop place new) left ≡ kept_in old kept
  pub rest : left_in (drop place new) left ≡ left_in old kept

pub kept_begin : (old : List Held) (kept : List (List ℕ)) → KeptTo old kept 0 old kept
kept_begin old kept = record { done = refl; rest = refl }
