use Rattle.std.proofs.Common.{◌∙◌, sym}
use Rattle.css_lexemes.proofs.Knowing.{known_first, unknown_still}
use Rattle.css_lexemes.proofs.comments.Shown.known_behind.Goals as goal

pub returns-then-is_quotation_mark : goal.returns-then-is_quotation_mark
returns-then-is_quotation_mark c =
    known_first c.args.self.now.front.items c.args.byte c.is_unread.result (c.args.self.now.known.0 c.in_default.is)
    (sym c.is_quotation_mark.ensures ∙ c.if-is_quotation_mark.true) c.is_unread.ensures

pub returns : goal.returns
returns c =
    unknown_still c.args.self.now.front.items c.args.byte (c.args.self.now.known.0 c.in_default.is)
    (sym c.is_quotation_mark.ensures ∙ c.if-is_quotation_mark.false)
