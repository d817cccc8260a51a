use Rattle.std.proofs.Common.{◌∙◌, List, ℕ, length, ap, subst, sym, string_bytes}
use Rattle.std.proofs.lemmas.List.{length-map}
use Rattle.css_vm.specs.Code.{code_of}
use Rattle.css_report.specs.Calls.{shown_by}
use Rattle.css_report.specs.Depth.{IsDepth}
use Rattle.css_report.specs.Stats.{Stats}
use Rattle.css_report.proofs.Lines.{renamed_shown, producers_shown}
use Rattle.css_report.proofs.Texts.{stats_words}
use Rattle.css_report.proofs.stats.stats_line.Goals as goal

pub returns : goal.returns
returns c =
    let calls = c.args.value.now.calls.now in
    let code = code_of c.args.value.now.code.now in
    let names = c.args.value.now.names.now in
    let s : Stats = record {
      tasks = length calls;
      reads = c.in_ok-counts.counts.reads;
      writes = c.in_ok-counts.counts.writes;
      pieces = c.in_ok-counts.counts.pieces;
      renamed = c.in_ok-renamed.renamed;
      depth = c.in_ok-depth.depth;
    } in
    record {
      stats = s;
      are = record {
        tasks = sym (length-map calls (shown_by code names));
        reads = c.in_ok-counts.ensures.reads;
        writes = c.in_ok-counts.ensures.writes;
        pieces = c.in_ok-counts.ensures.pieces;
        renamed = c.in_ok-renamed.ensures ∙ sym (renamed_shown code names calls);
        depth = subst (λ (ns : List (List ℕ)). IsDepth ns s.depth) (sym (producers_shown code names calls)) c.in_ok-depth.ensures;
      };
      line_is = ap (λ v. v.items) c.into_bytes.ensures.value ∙ (c.in_ok-line.ensures.ok ∙ sym (stats_words s (string_bytes c.in_ok-sums.sums) c.in_ok-sums.ensures));
    }
