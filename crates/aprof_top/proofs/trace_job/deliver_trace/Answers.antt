use Rattle.std.proofs.Common.{◌≤◌, ◌<◌, List, ℕ, length, ap, subst, ◌∙◌}
use Rattle.std.specs.Prelude.{◌≡◌, MatchOption}
use Rattle.command_line.specs.Options.Analysis.{Trace}
use Rattle.guest_words.specs.declared.limits.TheConstants.{TRACE_BYTES}
use Rattle.trace_file.specs.TraceText.{trace_text}
use Rattle.aprof_top.specs.Private.Jobs.{AreTexts, desk}
use Rattle.aprof_top.specs.Outcome.{left_of}
use Rattle.aprof_top.specs.Traces.{is_storable, names_begun, trace_of}
use Rattle.aprof_top.proofs.Recorded.{either_left, storable, stored_left}
use Rattle.aprof_top.proofs.trace_job.deliver_trace.Goals as goal

pub returns : goal.returns
returns g c = λ seen traced err.
    let path = c.args.path.now in
    let image = c.args.image.now in
    let texts = subst (λ found. AreTexts found seen.past) c.in-Some.is traced.text in
    let whole = subst (λ found. MatchOption found (TRACE_BYTES < length (trace_text seen.past (names_begun image seen.past) c.args.run.finish))
    (λ bytes. (bytes.items ≡ trace_text seen.past (names_begun image seen.past) c.args.run.finish) × (length bytes.items ≤ TRACE_BYTES))) c.in-Some-2.is (c.in_ok-bytes.ensures seen.past texts) in
    let is = whole.0 ∙ ap (trace_text seen.past (names_begun image seen.past)) traced.finish in
    let short = storable (trace_of image seen) (subst (λ (bytes : List ℕ). length bytes ≤ TRACE_BYTES) is whole.1) in
    stored_left seen (left_of path Trace image seen) path c.as_slice.result.now
    (either_left (is_storable (trace_of image seen)) path (trace_of image seen) c.as_slice.result.now short (c.as_slice.ensures.value ∙ is))
    (desk (g.F.Files.state c.args.files.now) err) (desk (g.F.Files.state c.store_result.new.files) err) c.store_result.result
    (c.store_result.ensures seen traced.finish err)
