-- The report of a run with its calling contexts.
use Rattle.std.specs.Prelude.{ℕ, Bool, nat_le, List, ◌++◌, length}
use Rattle.profile_report.specs.ContextText.{contexts_text}
use Rattle.context_tree.specs.Contexts.{contexts}
use Rattle.context_tree.specs.Order.{in_order}
use Rattle.guest_words.specs.declared.limits.TheConstants.{CONTEXTS}
use Rattle.elf_image.specs.Image.{Executable}
use Rattle.guest_run.specs.ObservedRun.{ObservedRun}
use Rattle.profile_report.specs.ReportText.{report_text}
use Rattle.trace_model.specs.declared.event_kinds.Event.{Event}
use Rattle.aprof_top.specs.Report.{report_of}

-- the report that `run` stores, and behind it the contexts with their points
abbrev pub contexts_report : Executable → ObservedRun → List ℕ
contexts_report image run = report_text (report_of image.names run.finish run.past) ++ contexts_text run.past (in_order (contexts run.past))

-- there are no more contexts than can be numbered
abbrev pub can_be_numbered : List Event → Bool
can_be_numbered past = nat_le (length (contexts past)) CONTEXTS
