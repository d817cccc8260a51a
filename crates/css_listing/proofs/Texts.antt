-- Texts of listings: what is read, where reading stops, and that a text is one code's.
use Rattle.std.proofs.Common.{◌≡◌, ◌∙◌, ◌<◌, ◌≤◌, ◌+◌, ℕ, suc, eqb, ltb, List, [], ◌∷◌, ◌++◌, length, take, drop, Option, Some, None, Result, Ok, Err, refl, sym, ap, ap₂, subst, inl, inr, arith, length-append}
use Rattle.std.specs.Prelude.{IfOk, IfErr}
use Rattle.std.specs.List.{flat_map, AllByRecursion, position, position_or_len}
use Rattle.std.proofs.lemmas.Bool.{cases_Bool, cases_lt, ltb-true, lt-ltb, eqb-true, cond-true}
use Rattle.std.proofs.lemmas.Option.{same_Some}
use Rattle.std.proofs.lemmas.List.{append-nil, append_assoc, take_at, length_push}
use Rattle.std.proofs.lemmas.List.Concat.{flat_map-append}
use Rattle.css_listing.specs.declared.draft.Draft.{Draft}
use Rattle.css_listing.specs.declared.draft.Draft.TheVariants.{Start}
use Rattle.css_listing.specs.declared.fault.ListingFault.{ListingFault}
use Rattle.css_listing.specs.declared.fault.ListingFault.TheVariants as faults
use Rattle.css_listing.specs.declared.fault.ReadError.{ReadError}
use Rattle.css_listing.specs.declared.fault.ReadError.TheVariants as errors
use Rattle.css_isa.specs.declared.code.Code.{Code}
use Rattle.css_listing.specs.declared.listing_line.ListingLine.{ListingLine}
use Rattle.css_listing.specs.Lines.{line_text, code_lines, listing, LineFits, Fits}
use Rattle.css_listing.specs.Faults.{BeginsLike, IsBadAt, IsFault, IsRead}
use Rattle.css_traces.specs.Words.{◌>>=◌}
use Rattle.css_listing.specs.Reading.{Gives, line_of, next, run, finished, after_line, IsReadTo, IsStuck, Stops, EndsWith, Reads}
use Rattle.css_traces.proofs.Answers.{bind_some, passed}
use Rattle.css_traces.proofs.Parted.{place_of_newline, one_line}
use Rattle.css_listing.proofs.LineReading.{line_bytes, line_takes, line_again, line_in_line}
use Rattle.css_listing.proofs.Drafts.{draft_lines, run_adds, run_then, code_runs, finished_lines, draft_ends}

abbrev Fit : List ListingLine → Type 0
Fit ls = AllByRecursion LineFits ls

abbrev texts : List ListingLine → List ℕ
texts ls = flat_map line_text ls

fit_parts : (a b : List ListingLine) → Fit (a ++ b) → Fit a × Fit b
fit_parts [] b h = (tt, h)
fit_parts (l ∷ a) b h = let p = fit_parts a b h.1 in ((h.0, p.0), p.1)

fit_both : (a b : List ListingLine) → Fit a → Fit b → Fit (a ++ b)
fit_both [] b h k = k
fit_both (l ∷ a) b h k = (h.0, fit_both a b h.1 k)

-- ---- lines at the front of a text

line_first : (line : ListingLine) (a b : List ℕ) → (line_text line ++ a) ++ b ≡ line_bytes line ++ 10 ∷ (a ++ b)
line_first line a b = append_assoc (line_text line) a b ∙ append_assoc (line_bytes line) (10 ∷ []) (a ++ b)

one_said : (a b : ListingLine) → LineFits a → LineFits b → line_bytes a ≡ line_bytes b → a ≡ b
one_said a b h k e = same_Some a b (sym (line_again a h) ∙ ap line_of e ∙ line_again b k)

-- of two rows of lines at the front of a text the longer begins with the shorter
record Begins (front more : List ListingLine) (r s : List ℕ) : Type 0 where
  others : List ListingLine
  lines : more ≡ front ++ others
  rest : r ≡ texts others ++ s

share_front : (front more : List ListingLine) (r s : List ℕ) → Fit front → Fit more → length front ≤ length more → texts front ++ r ≡ texts more ++ s → Begins front more r s
share_front [] more r s h k le e = record { others = more; lines = refl; rest = e }
share_front (a ∷ front) [] r s h k le e = absurd (omega (arith, le))
share_front (a ∷ front) (b ∷ more) r s h k le e =
    let same : line_bytes a ++ 10 ∷ (texts front ++ r) ≡ line_bytes b ++ 10 ∷ (texts more ++ s) = sym (line_first a (texts front) r) ∙ e ∙ line_first b (texts more) s in
    let first = one_line (line_bytes a) (line_bytes b) (texts front ++ r) (texts more ++ s) (line_in_line a h.0) (line_in_line b k.0) same in
    let is : a ≡ b = one_said a b h.0 k.0 first.0 in
    let rest = share_front front more r s h.1 k.1 (omega (arith, le)) first.1 in
    record { others = rest.others; lines = ap₂ (λ (x : ListingLine) (xs : List ListingLine). x ∷ xs) (sym is) rest.lines; rest = rest.rest }

has_byte : (line : ListingLine) (a : List ℕ) → line_text line ++ a ≡ [] → ⊥
has_byte line a e =
    let counted : length (line_text line ++ a) ≡ 0 = ap length e in
    omega (arith, counted, length-append (line_text line) a, length-append (line_bytes line) (10 ∷ []))

no_lines : (ls : List ListingLine) (r : List ℕ) → [] ≡ texts ls ++ r → (ls ≡ []) × (r ≡ [])
no_lines [] r e = (refl, sym e)
no_lines (l ∷ ls) r e = absurd (has_byte l (texts ls ++ r) (sym (append_assoc (line_text l) (texts ls) r) ∙ sym e))

-- ---- what is read

pub is_found : (text : List ℕ) (d : Draft) (line : ℕ) (c : Code) → IsReadTo text [] d line → finished d ≡ Some c → Fits c × (text ≡ listing c)
is_found text d line c h ends =
    let same : code_lines c ≡ h.front = finished_lines d c ends ∙ run_adds h.front Start d h.reads in
    (subst Fit (sym same) h.fits, h.text_is ∙ append-nil (texts h.front) ∙ ap texts (sym same))

whole : (x y : List ListingLine) → Fit x → Fit y → length x ≤ length y → texts x ++ [] ≡ texts y ++ [] → x ≡ y
whole x y h k le e =
    let b = share_front x y [] [] h k le e in
    let none = no_lines b.others [] b.rest in
    sym (b.lines ∙ ap (λ (ls : List ListingLine). x ++ ls) none.0 ∙ append-nil x)

-- one code has these lines
one_end : (a b : Code) → code_lines a ≡ code_lines b → a ≡ b
one_end a b same =
    let x = code_runs a in
    let y = code_runs b in
    let drafts : x.0 ≡ y.0 = same_Some x.0 y.0 (sym x.1 ∙ ap (run Start) same ∙ y.1) in
    same_Some a b (sym x.2 ∙ ap finished drafts ∙ y.2)

-- A text is one code's.
pub one_code : (a b : Code) → Fits a → Fits b → listing a ≡ listing b → a ≡ b
one_code a b h k e =
    let joined : texts (code_lines a) ++ [] ≡ texts (code_lines b) ++ [] = append-nil (texts (code_lines a)) ∙ e ∙ sym (append-nil (texts (code_lines b))) in
    let same : code_lines a ≡ code_lines b =
    elim (cases_lt (length (code_lines b)) (length (code_lines a))) [
      | inl lt ↦ sym (whole (code_lines b) (code_lines a) k h (omega (arith, lt)) (sym joined))
      | inr le ↦ whole (code_lines a) (code_lines b) h k le joined
    ] in
    one_end a b same

-- ---- where reading stops

stuck_run : (d e : Draft) (rest : List ℕ) (l : ListingLine) (others : List ListingLine) (after : List ℕ) → IsStuck d rest → LineFits l
    → rest ≡ texts (l ∷ []) ++ after → run d (l ∷ others) ≡ Some e → ⊥
stuck_run d e rest l others after stuck fits text_is ran =
    let a = bind_some (next d l) (λ f. run f others) e ran in
    stuck.no_line l after a.0 fits (text_is ∙ ap (λ (x : List ℕ). x ++ after) (append-nil (line_text l))) a.1

-- lines behind the front that a listing has, too, are none
none_follow : (front : List ListingLine) (d : Draft) (rest : List ℕ) → run Start front ≡ Some d → IsStuck d rest
    → (t : Code) (more others : List ListingLine) (s : List ℕ) → Fit more → code_lines t ≡ (front ++ more) ++ others → rest ≡ texts more ++ s → more ≡ []
none_follow front d rest reads stuck t [] others s fits lines text_is = refl
none_follow front d rest reads stuck t (l ∷ more) others s fits lines text_is =
    let ran : run d (l ∷ (more ++ others)) ≡ Some (code_runs t).0 =
    sym (run_then front (l ∷ (more ++ others)) Start d reads)
    ∙ ap (run Start) (sym (append_assoc front (l ∷ more) others) ∙ sym lines) ∙ (code_runs t).1 in
    let is : rest ≡ texts (l ∷ []) ++ (texts more ++ s) =
    text_is ∙ append_assoc (line_text l) (texts more) s ∙ ap (λ (x : List ℕ). x ++ (texts more ++ s)) (sym (append-nil (line_text l))) in
    absurd (stuck_run d (code_runs t).0 rest l (more ++ others) (texts more ++ s) stuck fits.0 is ran)

most_lines : (text rest : List ℕ) (d : Draft) (line : ℕ) → IsReadTo text rest d line → IsStuck d rest → (count : ℕ) → BeginsLike text count → count < line
most_lines text rest d line h stuck count b =
    elim (cases_lt count line) [
      | inl lt ↦ lt
      | inr le ↦
          let long : length h.front ≤ length b.front = omega (arith, le, h.counted, b.counted) in
          let fits : Fit b.front = (fit_parts b.front b.others (subst Fit b.lines b.fits)).0 in
          let both : texts h.front ++ rest ≡ texts b.front ++ b.rest = sym h.text_is ∙ b.begins in
          let p = share_front h.front b.front rest b.rest h.fits fits long both in
          let inner : Fit p.others = (fit_parts h.front p.others (subst Fit p.lines fits)).1 in
          let none = none_follow h.front d rest h.reads stuck b.c p.others b.others b.rest inner (b.lines ∙ ap (λ (ls : List ListingLine). ls ++ b.others) p.lines) p.rest in
          let counted : length b.front ≡ length h.front = ap length (p.lines ∙ ap (λ (ls : List ListingLine). h.front ++ ls) none ∙ append-nil h.front) in
          absurd (omega (arith, le, counted, h.counted, b.counted))
    ]

no_code : (text rest : List ℕ) (d : Draft) (line : ℕ) → IsReadTo text rest d line → IsStuck d rest → (t : Code) → Fits t → text ≡ listing t → ⊥
no_code text rest d line h stuck t fits e =
    let whole_text : text ≡ texts (code_lines t) ++ [] = e ∙ sym (append-nil (texts (code_lines t))) in
    let all : BeginsLike text (length (code_lines t)) =
    record { c = t; front = code_lines t; others = []; rest = []; fits = fits; lines = sym (append-nil (code_lines t)); begins = whole_text; counted = refl } in
    let few : length (code_lines t) < line = most_lines text rest d line h stuck (length (code_lines t)) all in
    let p = share_front (code_lines t) h.front [] rest fits h.fits (omega (arith, few, h.counted)) (sym whole_text ∙ h.text_is) in
    let none = no_lines p.others rest p.rest in
    let same : h.front ≡ code_lines t = p.lines ∙ ap (λ (ls : List ListingLine). code_lines t ++ ls) none.0 ∙ append-nil (code_lines t) in
    let ended : d ≡ (code_runs t).0 = same_Some d (code_runs t).0 (sym h.reads ∙ ap (run Start) same ∙ (code_runs t).1) in
    stuck.no_end t none.1 (ap finished ended ∙ (code_runs t).2)

pub is_bad : (text rest : List ℕ) (d : Draft) (line : ℕ) → IsReadTo text rest d line → IsStuck d rest → IsBadAt text line
is_bad text rest d line h stuck =
    let ends = draft_ends d in
    let same : draft_lines d ≡ h.front = run_adds h.front Start d h.reads in
    let lines : code_lines ends.c ≡ h.front ++ ends.others = ends.lines ∙ ap (λ (ls : List ListingLine). ls ++ ends.others) same in
    record {
      is_none = no_code text rest d line h stuck;
      before = record {
        c = ends.c;
        front = h.front;
        others = ends.others;
        rest = rest;
        fits = subst Fit (sym lines) (fit_both h.front ends.others h.fits ends.fits);
        lines = lines;
        begins = h.text_is;
        counted = omega (arith, h.counted);
      };
      most = most_lines text rest d line h stuck;
    }

-- ---- the answer of a whole call

pub found : (text : List ℕ) (r : Result Code ListingFault) → Reads text r → IfOk r (λ t. Fits t × (text ≡ listing t))
found text (Ok t) h = is_found text h.0 h.1 t h.2 h.3
found text (Err e) h = tt

pub fault : (text : List ℕ) (r : Result Code ListingFault) → Reads text r → IfErr r (λ e. IsFault text e)
fault text (Ok t) h = tt
fault text (Err (faults.Bad line)) h = is_bad text h.1 h.0 line h.2 h.3
fault text (Err faults.NoMemory) h = tt

pub only : (text : List ℕ) (r : Result Code ListingFault) → Reads text r → (t : Code) → Fits t → text ≡ listing t → IsRead r t
only text (Ok read) h t fits e =
    let f = is_found text h.0 h.1 read h.2 h.3 in
    one_code read t f.0 fits (sym f.1 ∙ e)
only text (Err (faults.Bad line)) h t fits e = (is_bad text h.1 h.0 line h.2 h.3).is_none t fits e
only text (Err faults.NoMemory) h t fits e = tt

-- ---- one line more

newline_later : (b k j : ℕ) (bs : List ℕ) → j ≡ suc k → bs ≡ take k bs ++ 10 ∷ drop (k + 1) bs → b ∷ bs ≡ take j (b ∷ bs) ++ 10 ∷ drop (j + 1) (b ∷ bs)
newline_later b k j bs is e =
    let more : suc k + 1 ≡ suc (k + 1) = omega arith in
    let one : b ∷ bs ≡ take (suc k) (b ∷ bs) ++ 10 ∷ drop (suc k + 1) (b ∷ bs) =
    ap (λ (xs : List ℕ). b ∷ xs) e ∙ ap (λ (n : ℕ). (b ∷ take k bs) ++ 10 ∷ drop n (b ∷ bs)) (sym more) in
    subst (λ (n : ℕ). b ∷ bs ≡ take n (b ∷ bs) ++ 10 ∷ drop (n + 1) (b ∷ bs)) (sym is) one

newline_parts : (bs : List ℕ) → position_or_len (λ b. eqb b 10) bs < length bs
    → bs ≡ take (position_or_len (λ b. eqb b 10) bs) bs ++ 10 ∷ drop (position_or_len (λ b. eqb b 10) bs + 1) bs
newline_parts [] h = absurd (omega (arith, h))
newline_parts (b ∷ bs) h =
    elim (cases_Bool (eqb b 10)) [
      | inl same ↦ rw same (ap (λ (x : ℕ). x ∷ bs) (eqb-true b 10 same))
      | inr differs ↦
          let shorter = rw differs at h in
          rw differs (newline_later b (position_or_len (λ c. eqb c 10) bs) (1 + position_or_len (λ c. eqb c 10) bs) bs (omega arith) (newline_parts bs (omega (arith, shorter))))
    ]

-- the place of a newline that is found
found_place : (rest : List ℕ) (end : ℕ) → position (λ b. eqb b 10) rest ≡ Some end → rest ≡ take end rest ++ 10 ∷ drop (end + 1) rest
found_place rest end place =
    let g = passed (ltb (position_or_len (λ b. eqb b 10) rest) (length rest)) (Some (position_or_len (λ b. eqb b 10) rest)) end place in
    subst (λ (k : ℕ). rest ≡ take k rest ++ 10 ∷ drop (k + 1) rest) (same_Some (position_or_len (λ b. eqb b 10) rest) end g.1)
    (newline_parts rest (ltb-true (position_or_len (λ b. eqb b 10) rest) (length rest) g.0))

pub step : (text rest : List ℕ) (d e : Draft) (line end : ℕ) → IsReadTo text rest d line → position (λ b. eqb b 10) rest ≡ Some end
    → after_line d (take end rest) ≡ Some e → IsReadTo text (drop (end + 1) rest) e (line + 1)
step text rest d e line end h place read =
    let parts = found_place rest end place in
    let a = bind_some (line_of (take end rest)) (λ l. next d l) e read in
    let t = line_takes (take end rest) a.0 a.1 in
    let behind = drop (end + 1) rest in
    let rest_is : rest ≡ line_text a.0 ++ behind =
    parts ∙ ap (λ (bs : List ℕ). bs ++ 10 ∷ behind) (sym t.0) ∙ sym (append_assoc (line_bytes a.0) (10 ∷ []) behind) in
    let front_is : texts (h.front ++ a.0 ∷ []) ≡ texts h.front ++ line_text a.0 =
    flat_map-append line_text h.front (a.0 ∷ []) ∙ ap (λ (bs : List ℕ). texts h.front ++ bs) (append-nil (line_text a.0)) in
    record {
      front = h.front ++ a.0 ∷ [];
      fits = fit_both h.front (a.0 ∷ []) h.fits (t.1, tt);
      text_is = h.text_is ∙ ap (λ (bs : List ℕ). texts h.front ++ bs) rest_is ∙ sym (append_assoc (texts h.front) (line_text a.0) behind)
          ∙ ap (λ (bs : List ℕ). bs ++ behind) (sym front_is);
      reads = run_then h.front (a.0 ∷ []) Start d h.reads ∙ ap (λ (o : Option Draft). o >>= λ f. run f []) a.2;
      counted = omega (arith, h.counted, length_push h.front a.0);
    }

-- ---- no line more

line_place : (line : ListingLine) (rest more : List ℕ) → LineFits line → rest ≡ line_text line ++ more → position_or_len (λ b. eqb b 10) rest ≡ length (line_bytes line)
line_place line rest more fits e =
    ap (position_or_len (λ b. eqb b 10)) (e ∙ append_assoc (line_bytes line) (10 ∷ []) more) ∙ place_of_newline (line_bytes line) more (line_in_line line fits)

pub stuck_line : (d : Draft) (rest : List ℕ) (end : ℕ) → position (λ b. eqb b 10) rest ≡ Some end → after_line d (take end rest) ≡ None → IsStuck d rest
stuck_line d rest end place none = record {
  no_line = λ line more e fits is goes.
      let g = passed (ltb (position_or_len (λ b. eqb b 10) rest) (length rest)) (Some (position_or_len (λ b. eqb b 10) rest)) end place in
      let counted : end ≡ length (line_bytes line) = sym (same_Some (position_or_len (λ b. eqb b 10) rest) end g.1) ∙ line_place line rest more fits is in
      let front : take end rest ≡ line_bytes line =
      ap₂ (λ (k : ℕ) (bs : List ℕ). take k bs) counted (is ∙ append_assoc (line_bytes line) (10 ∷ []) more) ∙ take_at (line_bytes line) (10 ∷ more) (length (line_bytes line)) refl in
      let read : after_line d (take end rest) ≡ Some e = ap (after_line d) front ∙ ap (λ (o : Option ListingLine). o >>= λ l. next d l) (line_again line fits) ∙ goes in
      let both : None ≡ Some e = sym none ∙ read in
      absurd cc;
  no_end = λ c empty ended.
      let nowhere : None ≡ Some end = ap (position (λ b. eqb b 10)) (sym empty) ∙ place in
      absurd cc;
}

pub stuck_end : (d : Draft) (rest : List ℕ) → position (λ b. eqb b 10) rest ≡ None → ((c : Code) → rest ≡ [] → finished d ≡ Some c → ⊥) → IsStuck d rest
stuck_end d rest none no_end = record {
  no_line = λ line more e fits is goes.
      let counted = line_place line rest more fits is in
      let long : length rest ≡ length (line_text line ++ more) = ap length is in
      let within : position_or_len (λ b. eqb b 10) rest < length rest =
      omega (arith, counted, long, length-append (line_text line) more, length-append (line_bytes line) (10 ∷ [])) in
      let there : position (λ b. eqb b 10) rest ≡ Some (position_or_len (λ b. eqb b 10) rest) =
      cond-true (ltb (position_or_len (λ b. eqb b 10) rest) (length rest)) (Some (position_or_len (λ b. eqb b 10) rest)) None
      (lt-ltb (position_or_len (λ b. eqb b 10) rest) (length rest) within) in
      let both : None ≡ Some (position_or_len (λ b. eqb b 10) rest) = sym none ∙ there in
      absurd cc;
  no_end = no_end;
}

-- ---- the loop

pub place_within : (rest : List ℕ) (end : ℕ) → position (λ b. eqb b 10) rest ≡ Some end → end < length rest
place_within rest end place =
    let g = passed (ltb (position_or_len (λ b. eqb b 10) rest) (length rest)) (Some (position_or_len (λ b. eqb b 10) rest)) end place in
    subst (λ (k : ℕ). k < length rest) (same_Some (position_or_len (λ b. eqb b 10) rest) end g.1) (ltb-true (position_or_len (λ b. eqb b 10) rest) (length rest) g.0)

pub stopped : (text rest bytes : List ℕ) (d : Draft) (line end : ℕ) (e : ReadError) (f : ListingFault) → IsReadTo text rest d line → position (λ b. eqb b 10) rest ≡ Some end
    → bytes ≡ take end rest → Gives {X = Draft} (Err e) (after_line d bytes) → Stops e line f → Reads text (Err f)
stopped text rest bytes d line end errors.Refused f h place is g s =
    subst (λ (x : ListingFault). Reads text (Err x)) (sym s) (d, rest, h, stuck_line d rest end place (ap (after_line d) (sym is) ∙ g))
stopped text rest bytes d line end errors.NoMemory f h place is g s = subst (λ (x : ListingFault). Reads text (Err x)) (sym s) tt

pub ends : (text rest : List ℕ) (d : Draft) (line : ℕ) (r : Result Code ListingFault) → IsReadTo text rest d line → position (λ b. eqb b 10) rest ≡ None
    → EndsWith d rest line r → Reads text r
ends text rest d line (Ok c) h none w = (d, line, subst (λ (bs : List ℕ). IsReadTo text bs d line) w.0 h, w.1)
ends text rest d line (Err (faults.Bad k)) h none w =
    subst (λ (x : ℕ). Reads text (Err (faults.Bad x))) (sym w.0) (d, rest, h, stuck_end d rest none w.1)
ends text rest d line (Err faults.NoMemory) h none w = tt
