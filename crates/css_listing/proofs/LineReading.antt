-- A line that is read is the line that was written, and a line that was written is read again.
use Rattle.std.proofs.Common.{◌≡◌, ◌∙◌, ◌<◌, ◌^◌, ℕ, true, false, eqb, leb, ltb, ◌&&◌, ◌||◌, List, [], ◌∷◌, ◌++◌, length, map, drop, get_or, codes, Some, refl, sym, ap, ap₂, subst, inl, inr, arith, IsTrue}
use Rattle.std.specs.List.{list_all, AllByRecursion, join_with_byte, slice_split}
use Rattle.std.specs.Fmt.{decimal}
use Rattle.std.proofs.lemmas.Bool.{and_parts, or_cases, leb-true, eqb-true, lt-ltb, ne_eqb, cond-true, cond-false, cases_Bool}
use Rattle.std.proofs.lemmas.Option.{same_Some}
use Rattle.std.proofs.lemmas.List.Splits.{join_with_byte-slice_split}
use Rattle.hex.specs.Hex.{encode_lower}
use Rattle.css_base.specs.declared.direction.Direction.{Direction}
use Rattle.css_base.specs.declared.direction.Direction.TheVariants as directions
use Rattle.css_isa.specs.declared.code.Op.{Op}
use Rattle.css_isa.specs.declared.code.Op.TheVariants as ops
use Rattle.css_isa.specs.declared.code.Mark.TheVariants as marks
use Rattle.css_isa.specs.declared.code.ShiftWidth.TheVariants as shifts
use Rattle.css_isa.specs.declared.code.Narrow.TheVariants as narrows
use Rattle.css_isa.specs.declared.code.Conversion.TheVariants as conversions
use Rattle.css_isa.specs.declared.code.ArgShape.{ArgShape}
use Rattle.css_isa.specs.declared.code.ArgShape.TheVariants as shapes
use Rattle.css_isa.specs.declared.space.Width.{Width}
use Rattle.css_isa.specs.declared.space.Width.TheVariants as widths
use Rattle.css_isa.specs.Names.{is_letter, is_digit, is_word_byte, is_identifier}
use Rattle.css_traces.specs.Words.{◌>>=◌, value_in, small_of, line_number_of, word_at}
use Rattle.css_traces.proofs.Answers.{bind_some, passed, not_met}
use Rattle.css_traces.proofs.Numerals.{is_solid, all_weaker, solid_decimal, number_takes, number_again}
use Rattle.css_traces.proofs.Parted.{IsSolid, IsInLine, split_joined, joined_in_line}
use Rattle.css_traces.proofs.Said.{within_32, value_takes, first_word, line_number_takes, line_number_again}
use Rattle.css_listing.specs.declared.kind.Kind.{Kind}
use Rattle.css_listing.specs.declared.kind.Kind.TheVariants as heads
use Rattle.css_listing.specs.declared.kind.OpKind.{OpKind}
use Rattle.css_listing.specs.declared.kind.OpKind.TheVariants as kinds
use Rattle.css_listing.specs.declared.listing_line.ListingLine.{ListingLine}
use Rattle.css_listing.specs.declared.listing_line.ListingLine.TheVariants as lines
use Rattle.css_listing.specs.Lines.{shift_word, narrow_word, mark_word, out_word, op_words, direction_word, part_word, high_word, width_word, line_words, OpFits, PartFits, LineFits}
use Rattle.css_listing.specs.Words.{head_words, shift_words, narrow_words, mark_words, out_words, bare_words, operand_words, high_words, signed_of, name_of, bytes_of, op_with, op_of, parts_of, widths_of}
use Rattle.css_listing.specs.Reading.{head_of, data_of, opens_of, task_of, instr_of, line_by, line_of_words, line_of}
use Rattle.css_listing.proofs.Said.{one_word, two_words, first_two, found_in, signed_takes, signed_again, solid_signed, bytes_takes, bytes_again, solid_bytes, name_takes, name_again, widths_takes, widths_again, parts_takes, parts_again, high_again}

-- ---- instructions

abbrev kind_word : OpKind → List ℕ
kind_word kinds.Push = codes "push"
kind_word kinds.Dup = codes "dup"
kind_word kinds.Frame = codes "frame"
kind_word kinds.Shl = codes "shl"
kind_word kinds.Shrs = codes "shrs"
kind_word kinds.Shru = codes "shru"
kind_word kinds.Conv = codes "conv"
kind_word kinds.Jump = codes "jump"
kind_word kinds.Jumpz = codes "jumpz"
kind_word kinds.Call = codes "call"
kind_word kinds.Submit = codes "submit"
kind_word kinds.Mark = codes "mark"
kind_word kinds.Out = codes "out"

abbrev Says : Op → List (List ℕ) → Type 0
Says op ws = (op_words op ≡ ws) × OpFits op

small_op : (make : ℕ → Op) (name : List ℕ) → ((n : ℕ) → op_words (make n) ≡ name ∷ decimal n ∷ []) → ((n : ℕ) → n < 2 ^ 32 → OpFits (make n))
    → (word : List ℕ) (op : Op) → (small_of word >>= λ n. Some (make n)) ≡ Some op → Says op (name ∷ word ∷ [])
small_op make name words fits word op e =
    let a = bind_some (small_of word) (λ n. Some (make n)) op e in
    let t = number_takes (2 ^ 32) word a.0 within_32 a.1 in
    subst (λ (x : Op). Says x (name ∷ word ∷ [])) (same_Some (make a.0) op a.2) (words a.0 ∙ ap (λ (w : List ℕ). name ∷ w ∷ []) t.0, fits a.0 t.1)

table_op : {X : Type 0} (make : X → Op) (name : List ℕ) (word_of : X → List ℕ) (table : List (List ℕ × X)) → AllByRecursion (λ (e : List ℕ × X). word_of e.1 ≡ e.0) table
    → ((x : X) → op_words (make x) ≡ name ∷ word_of x ∷ []) → ((x : X) → OpFits (make x))
    → (word : List ℕ) (op : Op) → (value_in table word >>= λ x. Some (make x)) ≡ Some op → Says op (name ∷ word ∷ [])
table_op make name word_of table each words fits word op e =
    let a = bind_some (value_in table word) (λ x. Some (make x)) op e in
    let t = value_takes word_of table each word a.0 a.1 in
    subst (λ (x : Op). Says x (name ∷ word ∷ [])) (same_Some (make a.0) op a.2) (words a.0 ∙ ap (λ (w : List ℕ). name ∷ w ∷ []) t, fits a.0)

with_takes : (kind : OpKind) (word : List ℕ) (op : Op) → op_with kind word ≡ Some op → Says op (kind_word kind ∷ word ∷ [])
unfolding op_with
with_takes kinds.Push word op e =
    let a = bind_some (signed_of word) (λ v. Some (ops.Push v)) op e in
    let t = signed_takes word a.0 a.1 in
    subst (λ (x : Op). Says x (codes "push" ∷ word ∷ [])) (same_Some (ops.Push a.0) op a.2) (ap (λ (w : List ℕ). codes "push" ∷ w ∷ []) t.0, t.1)
with_takes kinds.Dup word op e = small_op ops.Dup (codes "dup") (λ n. refl) (λ n h. h) word op e
with_takes kinds.Frame word op e = small_op ops.Frame (codes "frame") (λ n. refl) (λ n h. h) word op e
with_takes kinds.Shl word op e = table_op ops.Shl (codes "shl") shift_word shift_words (refl, (refl, tt)) (λ x. refl) (λ x. tt) word op e
with_takes kinds.Shrs word op e = table_op ops.Shrs (codes "shrs") shift_word shift_words (refl, (refl, tt)) (λ x. refl) (λ x. tt) word op e
with_takes kinds.Shru word op e = table_op ops.Shru (codes "shru") shift_word shift_words (refl, (refl, tt)) (λ x. refl) (λ x. tt) word op e
with_takes kinds.Conv word op e = table_op ops.Conv (codes "conv") narrow_word narrow_words (refl, (refl, (refl, (refl, (refl, (refl, tt)))))) (λ x. refl) (λ x. tt) word op e
with_takes kinds.Jump word op e = small_op ops.Jump (codes "jump") (λ n. refl) (λ n h. h) word op e
with_takes kinds.Jumpz word op e = small_op ops.Jumpz (codes "jumpz") (λ n. refl) (λ n h. h) word op e
with_takes kinds.Call word op e = small_op ops.Call (codes "call") (λ n. refl) (λ n h. h) word op e
with_takes kinds.Submit word op e = small_op ops.Submit (codes "submit") (λ n. refl) (λ n h. h) word op e
with_takes kinds.Mark word op e = table_op ops.Mark (codes "mark") mark_word mark_words (refl, (refl, (refl, (refl, (refl, (refl, (refl, (refl, tt)))))))) (λ x. refl) (λ x. tt) word op e
with_takes kinds.Out word op e = table_op ops.Out (codes "out") out_word out_words (refl, (refl, (refl, (refl, (refl, tt))))) (λ x. refl) (λ x. tt) word op e

kind_takes : (word : List ℕ) (k : OpKind) → value_in operand_words word ≡ Some k → kind_word k ≡ word
kind_takes = value_takes kind_word operand_words (refl, (refl, (refl, (refl, (refl, (refl, (refl, (refl, (refl, (refl, (refl, (refl, (refl, tt)))))))))))))

bare_each : AllByRecursion (λ (e : List ℕ × Op). Says e.1 (e.0 ∷ [])) bare_words
bare_each = ((refl, tt), ((refl, tt), ((refl, tt), ((refl, tt), ((refl, tt), ((refl, tt), ((refl, tt), ((refl, tt), ((refl, tt), ((refl, tt), ((refl, tt), ((refl, tt), ((refl, tt), ((refl, tt), ((refl, tt), ((refl, tt), ((refl, tt), ((refl, tt), ((refl, tt), ((refl, tt), ((refl, tt), ((refl, tt), ((refl, tt), ((refl, tt), ((refl, tt), ((refl, tt), ((refl, tt), ((refl, tt), ((refl, tt), ((refl, tt), ((refl, tt), ((refl, tt), ((refl, tt), tt)))))))))))))))))))))))))))))))))

bare_takes : (word : List ℕ) (op : Op) → value_in bare_words word ≡ Some op → Says op (word ∷ [])
bare_takes = found_in (λ (word : List ℕ) (op : Op). Says op (word ∷ [])) bare_words bare_each

two_takes : (ws : List (List ℕ)) (op : Op) → eqb (length ws) 2 ≡ true → (value_in operand_words (word_at ws 0) >>= λ kind. op_with kind (word_at ws 1)) ≡ Some op → Says op ws
two_takes ws op two e =
    let a = bind_some (value_in operand_words (word_at ws 0)) (λ kind. op_with kind (word_at ws 1)) op e in
    let t = with_takes a.0 (word_at ws 1) op a.2 in
    (t.0 ∙ ap (λ (w : List ℕ). w ∷ word_at ws 1 ∷ []) (kind_takes (word_at ws 0) a.0 a.1) ∙ sym (two_words ws two), t.1)

op_takes : (ws : List (List ℕ)) (op : Op) → op_of ws ≡ Some op → Says op ws
unfolding op_of
op_takes ws op e =
    elim (cases_Bool (eqb (length ws) 1)) [
      | inl one ↦
          let r = sym (cond-true (eqb (length ws) 1) (value_in bare_words (word_at ws 0)) _ one) ∙ e in
          let t = bare_takes (word_at ws 0) op r in
          (t.0 ∙ sym (one_word ws one), t.1)
      | inr more ↦
          let r = sym (cond-false (eqb (length ws) 1) (value_in bare_words (word_at ws 0)) _ more) ∙ e in
          let g = passed (eqb (length ws) 2) (value_in operand_words (word_at ws 0) >>= λ kind. op_with kind (word_at ws 1)) op r in
          two_takes ws op g.0 g.1
    ]

op_again : (op : Op) → OpFits op → op_of (op_words op) ≡ Some op
unfolding op_of op_with
op_again (ops.Push v) h = rw (signed_again v h) refl
op_again ops.Drop h = refl
op_again (ops.Dup n) h = rw (number_again (2 ^ 32) n h within_32) refl
op_again ops.Swap h = refl
op_again (ops.Frame k) h = rw (number_again (2 ^ 32) k h within_32) refl
op_again ops.Load8u h = refl
op_again ops.Load8s h = refl
op_again ops.Load16u h = refl
op_again ops.Load16s h = refl
op_again ops.Load32u h = refl
op_again ops.Load32s h = refl
op_again ops.Load64 h = refl
op_again ops.Store8 h = refl
op_again ops.Store16 h = refl
op_again ops.Store32 h = refl
op_again ops.Store64 h = refl
op_again ops.Add h = refl
op_again ops.Sub h = refl
op_again ops.Mul h = refl
op_again ops.And h = refl
op_again ops.Or h = refl
op_again ops.Xor h = refl
op_again ops.Neg h = refl
op_again ops.Not h = refl
op_again ops.Divs h = refl
op_again ops.Divu h = refl
op_again ops.Rems h = refl
op_again ops.Remu h = refl
op_again (ops.Shl shifts.W32) h = refl
op_again (ops.Shl shifts.W64) h = refl
op_again (ops.Shrs shifts.W32) h = refl
op_again (ops.Shrs shifts.W64) h = refl
op_again (ops.Shru shifts.W32) h = refl
op_again (ops.Shru shifts.W64) h = refl
op_again ops.Eq h = refl
op_again ops.Ne h = refl
op_again ops.Lts h = refl
op_again ops.Ltu h = refl
op_again (ops.Conv narrows.U8) h = refl
op_again (ops.Conv narrows.S8) h = refl
op_again (ops.Conv narrows.U16) h = refl
op_again (ops.Conv narrows.S16) h = refl
op_again (ops.Conv narrows.U32) h = refl
op_again (ops.Conv narrows.S32) h = refl
op_again (ops.Jump to) h = rw (number_again (2 ^ 32) to h within_32) refl
op_again (ops.Jumpz to) h = rw (number_again (2 ^ 32) to h within_32) refl
op_again (ops.Call k) h = rw (number_again (2 ^ 32) k h within_32) refl
op_again ops.Ret h = refl
op_again ops.Turn h = refl
op_again (ops.Submit k) h = rw (number_again (2 ^ 32) k h within_32) refl
op_again (ops.Mark marks.Start) h = refl
op_again (ops.Mark marks.Finish) h = refl
op_again (ops.Mark marks.Barrier) h = refl
op_again (ops.Mark marks.Wait) h = refl
op_again (ops.Mark marks.InWait) h = refl
op_again (ops.Mark marks.InDimension) h = refl
op_again (ops.Mark marks.Outside) h = refl
op_again (ops.Mark marks.Started) h = refl
op_again (ops.Out conversions.Char) h = refl
op_again (ops.Out conversions.Signed) h = refl
op_again (ops.Out conversions.Unsigned) h = refl
op_again (ops.Out conversions.Hexadecimal) h = refl
op_again (ops.Out conversions.Wide) h = refl
op_again ops.In h = refl
op_again ops.Malloc h = refl

solid_op : (op : Op) → OpFits op → AllByRecursion IsSolid (op_words op)
solid_op (ops.Push v) h = (refl, (solid_signed v h, tt))
solid_op ops.Drop h = (refl, tt)
solid_op (ops.Dup n) h = (refl, (solid_decimal n (omega (arith, h)), tt))
solid_op ops.Swap h = (refl, tt)
solid_op (ops.Frame k) h = (refl, (solid_decimal k (omega (arith, h)), tt))
solid_op ops.Load8u h = (refl, tt)
solid_op ops.Load8s h = (refl, tt)
solid_op ops.Load16u h = (refl, tt)
solid_op ops.Load16s h = (refl, tt)
solid_op ops.Load32u h = (refl, tt)
solid_op ops.Load32s h = (refl, tt)
solid_op ops.Load64 h = (refl, tt)
solid_op ops.Store8 h = (refl, tt)
solid_op ops.Store16 h = (refl, tt)
solid_op ops.Store32 h = (refl, tt)
solid_op ops.Store64 h = (refl, tt)
solid_op ops.Add h = (refl, tt)
solid_op ops.Sub h = (refl, tt)
solid_op ops.Mul h = (refl, tt)
solid_op ops.And h = (refl, tt)
solid_op ops.Or h = (refl, tt)
solid_op ops.Xor h = (refl, tt)
solid_op ops.Neg h = (refl, tt)
solid_op ops.Not h = (refl, tt)
solid_op ops.Divs h = (refl, tt)
solid_op ops.Divu h = (refl, tt)
solid_op ops.Rems h = (refl, tt)
solid_op ops.Remu h = (refl, tt)
solid_op (ops.Shl shifts.W32) h = (refl, (refl, tt))
solid_op (ops.Shl shifts.W64) h = (refl, (refl, tt))
solid_op (ops.Shrs shifts.W32) h = (refl, (refl, tt))
solid_op (ops.Shrs shifts.W64) h = (refl, (refl, tt))
solid_op (ops.Shru shifts.W32) h = (refl, (refl, tt))
solid_op (ops.Shru shifts.W64) h = (refl, (refl, tt))
solid_op ops.Eq h = (refl, tt)
solid_op ops.Ne h = (refl, tt)
solid_op ops.Lts h = (refl, tt)
solid_op ops.Ltu h = (refl, tt)
solid_op (ops.Conv narrows.U8) h = (refl, (refl, tt))
solid_op (ops.Conv narrows.S8) h = (refl, (refl, tt))
solid_op (ops.Conv narrows.U16) h = (refl, (refl, tt))
solid_op (ops.Conv narrows.S16) h = (refl, (refl, tt))
solid_op (ops.Conv narrows.U32) h = (refl, (refl, tt))
solid_op (ops.Conv narrows.S32) h = (refl, (refl, tt))
solid_op (ops.Jump to) h = (refl, (solid_decimal to (omega (arith, h)), tt))
solid_op (ops.Jumpz to) h = (refl, (solid_decimal to (omega (arith, h)), tt))
solid_op (ops.Call k) h = (refl, (solid_decimal k (omega (arith, h)), tt))
solid_op ops.Ret h = (refl, tt)
solid_op ops.Turn h = (refl, tt)
solid_op (ops.Submit k) h = (refl, (solid_decimal k (omega (arith, h)), tt))
solid_op (ops.Mark marks.Start) h = (refl, (refl, tt))
solid_op (ops.Mark marks.Finish) h = (refl, (refl, tt))
solid_op (ops.Mark marks.Barrier) h = (refl, (refl, tt))
solid_op (ops.Mark marks.Wait) h = (refl, (refl, tt))
solid_op (ops.Mark marks.InWait) h = (refl, (refl, tt))
solid_op (ops.Mark marks.InDimension) h = (refl, (refl, tt))
solid_op (ops.Mark marks.Outside) h = (refl, (refl, tt))
solid_op (ops.Mark marks.Started) h = (refl, (refl, tt))
solid_op (ops.Out conversions.Char) h = (refl, (refl, tt))
solid_op (ops.Out conversions.Signed) h = (refl, (refl, tt))
solid_op (ops.Out conversions.Unsigned) h = (refl, (refl, tt))
solid_op (ops.Out conversions.Hexadecimal) h = (refl, (refl, tt))
solid_op (ops.Out conversions.Wide) h = (refl, (refl, tt))
solid_op ops.In h = (refl, tt)
solid_op ops.Malloc h = (refl, tt)

-- ---- lines

abbrev Tells : ListingLine → List (List ℕ) → Type 0
Tells line ws = (line_words line ≡ ws) × LineFits line

head_takes : (ws : List (List ℕ)) (line : ListingLine) → head_of ws ≡ Some line → Tells line (codes "code" ∷ ws)
unfolding head_of
head_takes ws line e =
    let g = passed (eqb (length ws) 2) (small_of (word_at ws 0) >>= λ globals_end. small_of (word_at ws 1) >>= λ main. Some (lines.Head globals_end main)) line e in
    let a = bind_some (small_of (word_at ws 0)) (λ globals_end. small_of (word_at ws 1) >>= λ main. Some (lines.Head globals_end main)) line g.1 in
    let b = bind_some (small_of (word_at ws 1)) (λ main. Some (lines.Head a.0 main)) line a.2 in
    let t = number_takes (2 ^ 32) (word_at ws 0) a.0 within_32 a.1 in
    let u = number_takes (2 ^ 32) (word_at ws 1) b.0 within_32 b.1 in
    let whole : decimal a.0 ∷ decimal b.0 ∷ [] ≡ ws = rw (t.0, u.0) (sym (two_words ws g.0)) in
    subst (λ (x : ListingLine). Tells x (codes "code" ∷ ws)) (same_Some (lines.Head a.0 b.0) line b.2) (ap (λ (us : List (List ℕ)). codes "code" ∷ us) whole, (t.1, u.1))

data_takes : (ws : List (List ℕ)) (line : ListingLine) → data_of ws ≡ Some line → Tells line (codes "data" ∷ ws)
unfolding data_of
data_takes ws line e =
    let g = passed (eqb (length ws) 2) (small_of (word_at ws 0) >>= λ address. bytes_of (word_at ws 1) >>= λ bytes. Some (lines.Data (record { address = address; bytes = bytes }))) line e in
    let a = bind_some (small_of (word_at ws 0)) (λ address. bytes_of (word_at ws 1) >>= λ bytes. Some (lines.Data (record { address = address; bytes = bytes }))) line g.1 in
    let b = bind_some (bytes_of (word_at ws 1)) (λ bytes. Some (lines.Data (record { address = a.0; bytes = bytes }))) line a.2 in
    let t = number_takes (2 ^ 32) (word_at ws 0) a.0 within_32 a.1 in
    let u = bytes_takes (word_at ws 1) b.0 b.1 in
    let whole : decimal a.0 ∷ encode_lower b.0 ∷ [] ≡ ws = rw (t.0, u.0) (sym (two_words ws g.0)) in
    subst (λ (x : ListingLine). Tells x (codes "data" ∷ ws)) (same_Some (lines.Data (record { address = a.0; bytes = b.0 })) line b.2) (ap (λ (us : List (List ℕ)). codes "data" ∷ us) whole, (t.1, u.1, u.2))

opens_takes : (ws : List (List ℕ)) (line : ListingLine) → opens_of ws ≡ Some line → Tells line (codes "function" ∷ ws)
unfolding opens_of
opens_takes ws line e =
    let g = passed (ltb 1 (length ws)) (name_of (word_at ws 0) >>= λ name. small_of (word_at ws 1) >>= λ frame. widths_of (drop 2 ws) >>= λ params. Some (lines.Opens name frame params)) line e in
    let a = bind_some (name_of (word_at ws 0)) (λ name. small_of (word_at ws 1) >>= λ frame. widths_of (drop 2 ws) >>= λ params. Some (lines.Opens name frame params)) line g.1 in
    let b = bind_some (small_of (word_at ws 1)) (λ frame. widths_of (drop 2 ws) >>= λ params. Some (lines.Opens a.0 frame params)) line a.2 in
    let c = bind_some (widths_of (drop 2 ws)) (λ params. Some (lines.Opens a.0 b.0 params)) line b.2 in
    let t = name_takes (word_at ws 0) a.0 a.1 in
    let u = number_takes (2 ^ 32) (word_at ws 1) b.0 within_32 b.1 in
    let v = widths_takes (drop 2 ws) c.0 c.1 in
    let whole : a.0 ∷ decimal b.0 ∷ map width_word c.0 ≡ ws =
    ap (λ (w : List ℕ). w ∷ decimal b.0 ∷ map width_word c.0) t.0
    ∙ ap₂ (λ (w : List ℕ) (us : List (List ℕ)). word_at ws 0 ∷ w ∷ us) u.0 v ∙ sym (first_two ws g.0) in
    subst (λ (x : ListingLine). Tells x (codes "function" ∷ ws)) (same_Some (lines.Opens a.0 b.0 c.0) line c.2) (ap (λ (us : List (List ℕ)). codes "function" ∷ us) whole, (t.1, u.1))

task_takes : (ws : List (List ℕ)) (line : ListingLine) → task_of ws ≡ Some line → Tells line (codes "task" ∷ ws)
unfolding task_of
task_takes ws line e =
    let g = not_met (eqb (length ws) 0) (value_in high_words (word_at ws 0) >>= λ high. parts_of (drop 1 ws) >>= λ args. Some (lines.Task (record { high = high; args = args }))) line e in
    let a = bind_some (value_in high_words (word_at ws 0)) (λ high. parts_of (drop 1 ws) >>= λ args. Some (lines.Task (record { high = high; args = args }))) line g.1 in
    let b = bind_some (parts_of (drop 1 ws)) (λ args. Some (lines.Task (record { high = a.0; args = args }))) line a.2 in
    let t = value_takes high_word high_words (refl, (refl, tt)) (word_at ws 0) a.0 a.1 in
    let u = parts_takes (drop 1 ws) b.0 b.1 in
    let whole : high_word a.0 ∷ map part_word b.0 ≡ ws = rw (t, u.0) (sym (first_word ws g.0)) in
    subst (λ (x : ListingLine). Tells x (codes "task" ∷ ws)) (same_Some (lines.Task (record { high = a.0; args = b.0 })) line b.2) (ap (λ (us : List (List ℕ)). codes "task" ∷ us) whole, u.1)

instr_takes : (ws : List (List ℕ)) (line : ListingLine) → instr_of ws ≡ Some line → Tells line (codes "i" ∷ ws)
unfolding instr_of
instr_takes ws line e =
    let g = not_met (eqb (length ws) 0) (line_number_of (word_at ws 0) >>= λ number. op_of (drop 1 ws) >>= λ op. Some (lines.Instr (record { op = op; line = number }))) line e in
    let a = bind_some (line_number_of (word_at ws 0)) (λ number. op_of (drop 1 ws) >>= λ op. Some (lines.Instr (record { op = op; line = number }))) line g.1 in
    let b = bind_some (op_of (drop 1 ws)) (λ op. Some (lines.Instr (record { op = op; line = a.0 }))) line a.2 in
    let t = line_number_takes (word_at ws 0) a.0 a.1 in
    let u = op_takes (drop 1 ws) b.0 b.1 in
    let whole : decimal a.0 ∷ op_words b.0 ≡ ws = rw (t.0, u.0) (sym (first_word ws g.0)) in
    subst (λ (x : ListingLine). Tells x (codes "i" ∷ ws)) (same_Some (lines.Instr (record { op = b.0; line = a.0 })) line b.2) (ap (λ (us : List (List ℕ)). codes "i" ∷ us) whole, (t.1.0, t.1.1, u.1))

abbrev head_word : Kind → List ℕ
head_word heads.Head = codes "code"
head_word heads.Data = codes "data"
head_word heads.Opens = codes "function"
head_word heads.Task = codes "task"
head_word heads.Instr = codes "i"

head_word_takes : (word : List ℕ) (k : Kind) → value_in head_words word ≡ Some k → head_word k ≡ word
head_word_takes = value_takes head_word head_words (refl, (refl, (refl, (refl, (refl, tt)))))

by_takes : (kind : Kind) (ws : List (List ℕ)) (line : ListingLine) → line_by kind ws ≡ Some line → Tells line (head_word kind ∷ ws)
unfolding line_by
by_takes heads.Head ws line e = head_takes ws line e
by_takes heads.Data ws line e = data_takes ws line e
by_takes heads.Opens ws line e = opens_takes ws line e
by_takes heads.Task ws line e = task_takes ws line e
by_takes heads.Instr ws line e = instr_takes ws line e

words_take : (ws : List (List ℕ)) (line : ListingLine) → line_of_words ws ≡ Some line → Tells line ws
unfolding line_of_words
words_take [] line e = absurd cc
words_take (w ∷ ws) line e =
    let a = bind_some (value_in head_words w) (λ kind. line_by kind ws) line e in
    let t = by_takes a.0 ws line a.2 in
    (t.0 ∙ ap (λ (first : List ℕ). first ∷ ws) (head_word_takes w a.0 a.1), t.1)

-- What is read of a line is the line.
pub line_takes : (bytes : List ℕ) (line : ListingLine) → line_of bytes ≡ Some line → (join_with_byte 32 (line_words line) ≡ bytes) × LineFits line
line_takes bytes line e =
    let t = words_take (slice_split (λ b. eqb b 32) bytes) line e in
    (ap (join_with_byte 32) t.0 ∙ join_with_byte-slice_split 32 bytes, t.1)

-- ---- written lines

words_again : (line : ListingLine) → LineFits line → line_of_words (line_words line) ≡ Some line
unfolding line_of_words line_by head_of data_of opens_of task_of instr_of
words_again (lines.Head globals_end main) h = rw (number_again (2 ^ 32) globals_end h.0 within_32, number_again (2 ^ 32) main h.1 within_32) refl
words_again (lines.Data d) h = rw (number_again (2 ^ 32) d.address h.0 within_32, bytes_again d.bytes h.1 h.2) refl
words_again (lines.Opens name frame params) h =
    let more : ltb 1 (length (name ∷ decimal frame ∷ map width_word params)) ≡ true = lt-ltb 1 (length (name ∷ decimal frame ∷ map width_word params)) (omega arith) in
    rw (more, name_again name h.0, number_again (2 ^ 32) frame h.1 within_32, widths_again params) refl
words_again (lines.Task s) h =
    let more : eqb (length (high_word s.high ∷ map part_word s.args)) 0 ≡ false = ne_eqb (length (high_word s.high ∷ map part_word s.args)) 0 (λ e. omega (arith, e)) in
    rw (more, high_again s.high, parts_again s.args h) refl
words_again (lines.Instr i) h =
    let more : eqb (length (decimal i.line ∷ op_words i.op)) 0 ≡ false = ne_eqb (length (decimal i.line ∷ op_words i.op)) 0 (λ e. omega (arith, e)) in
    rw (more, line_number_again i.line h.0 h.1, op_again i.op h.2) refl

-- ---- bytes of lines

word_byte_solid : (b : ℕ) → is_word_byte b ≡ true → is_solid b ≡ true
word_byte_solid b h =
    lt-ltb 32 b (elim (or_cases (is_letter b) (is_digit b) h) [
      | inl letter ↦ elim (or_cases ((leb 97 b && leb b 122) || (leb 65 b && leb b 90)) (eqb b 95) letter) [
        | inl either ↦ elim (or_cases (leb 97 b && leb b 122) (leb 65 b && leb b 90) either) [
          | inl small ↦ omega (arith, leb-true 97 b (and_parts (leb 97 b) (leb b 122) small).0)
          | inr great ↦ omega (arith, leb-true 65 b (and_parts (leb 65 b) (leb b 90) great).0)
        ]
        | inr underscore ↦ omega (arith, eqb-true b 95 underscore)
      ]
      | inr digit ↦ omega (arith, leb-true 48 b (and_parts (leb 48 b) (leb b 57) digit).0)
    ])

solid_name : (name : List ℕ) → IsTrue (is_identifier name) → IsSolid name
solid_name name h =
    all_weaker is_word_byte is_solid word_byte_solid name (and_parts (is_letter (get_or name 0 0)) (list_all is_word_byte name) h).1

small : (n : ℕ) → n < 2 ^ 32 → IsSolid (decimal n)
small n h = solid_decimal n (omega (arith, h))

solid_widths : (all : List Width) → AllByRecursion IsSolid (map width_word all)
solid_widths [] = tt
solid_widths (widths.W8 ∷ all) = (refl, solid_widths all)
solid_widths (widths.W16 ∷ all) = (refl, solid_widths all)
solid_widths (widths.W32 ∷ all) = (refl, solid_widths all)
solid_widths (widths.W64 ∷ all) = (refl, solid_widths all)

solid_both : (a b : List ℕ) → IsSolid a → IsSolid b → IsSolid (a ++ b)
solid_both [] b h k = k
solid_both (x ∷ a) b h k = let p = and_parts (is_solid x) (list_all is_solid a) h in rw p.0 (solid_both a b p.1 k)

solid_direction : (d : Direction) → IsSolid (direction_word d)
solid_direction directions.In = refl
solid_direction directions.Out = refl
solid_direction directions.InOut = refl

solid_part : (part : ArgShape) → PartFits part → IsSolid (part_word part)
solid_part shapes.Scalar h = refl
solid_part (shapes.Window d element dims true) h =
    solid_both (direction_word d) (58 ∷ join_with_byte 58 (decimal element ∷ codes "s" ∷ [])) (solid_direction d) (solid_both (decimal element) (58 ∷ codes "s") (small element h.0) refl)
solid_part (shapes.Window d element dims false) h =
    solid_both (direction_word d) (58 ∷ join_with_byte 58 (decimal element ∷ decimal dims ∷ [])) (solid_direction d) (solid_both (decimal element) (58 ∷ decimal dims) (small element h.0) (small dims h.1))

solid_parts : (all : List ArgShape) → AllByRecursion PartFits all → AllByRecursion IsSolid (map part_word all)
solid_parts [] h = tt
solid_parts (part ∷ all) h = (solid_part part h.0, solid_parts all h.1)

solid_high : (high : _) → IsSolid (high_word high)
solid_high true = refl
solid_high false = refl

-- A line has a first word, and all its words are solid.
record IsOfWords (line : ListingLine) : Type 0 where
  first : List ℕ
  others : List (List ℕ)
  are : line_words line ≡ first ∷ others
  solid_first : IsSolid first
  solid_others : AllByRecursion IsSolid others

of_words : (line : ListingLine) → LineFits line → IsOfWords line
of_words (lines.Head globals_end main) h = record { first = codes "code"; others = decimal globals_end ∷ decimal main ∷ []; are = refl; solid_first = refl; solid_others = (small globals_end h.0, (small main h.1, tt)) }
of_words (lines.Data d) h = record { first = codes "data"; others = decimal d.address ∷ encode_lower d.bytes ∷ []; are = refl; solid_first = refl; solid_others = (small d.address h.0, (solid_bytes d.bytes h.1, tt)) }
of_words (lines.Opens name frame params) h = record { first = codes "function"; others = name ∷ decimal frame ∷ map width_word params; are = refl; solid_first = refl; solid_others = (solid_name name h.0, (small frame h.1, solid_widths params)) }
of_words (lines.Task s) h = record { first = codes "task"; others = high_word s.high ∷ map part_word s.args; are = refl; solid_first = refl; solid_others = (solid_high s.high, solid_parts s.args h) }
of_words (lines.Instr i) h = record { first = codes "i"; others = decimal i.line ∷ op_words i.op; are = refl; solid_first = refl; solid_others = (small i.line h.1, solid_op i.op h.2) }

-- the bytes of a line, without the newline
abbrev pub line_bytes : ListingLine → List ℕ
line_bytes line = join_with_byte 32 (line_words line)

-- A line that was written is read again.
pub line_again : (line : ListingLine) → LineFits line → line_of (line_bytes line) ≡ Some line
line_again line h =
    let w = of_words line h in
    let parted : slice_split (λ b. eqb b 32) (line_bytes line) ≡ line_words line =
    ap (λ (ws : List (List ℕ)). slice_split (λ b. eqb b 32) (join_with_byte 32 ws)) w.are ∙ split_joined w.first w.others w.solid_first w.solid_others ∙ sym w.are in
    ap line_of_words parted ∙ words_again line h

-- It has no newline in it.
pub line_in_line : (line : ListingLine) → LineFits line → IsInLine (line_bytes line)
line_in_line line h =
    let w = of_words line h in
    subst (λ (ws : List (List ℕ)). IsInLine (join_with_byte 32 ws)) (sym w.are) (joined_in_line w.first w.others w.solid_first w.solid_others)
