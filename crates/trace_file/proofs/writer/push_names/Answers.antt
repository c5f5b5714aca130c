use Rattle.std.proofs.Common.{◌∙◌, ◌++◌, ◌∷◌, [], ap, arith, sym, take}
use Rattle.std.proofs.lemmas.Grind.{common_steps}
use Rattle.std.proofs.lemmas.List.{map-append, take_more}
use Rattle.trace_file.specs.declared.records.Record.TheVariants.{OfName}
use Rattle.trace_file.specs.Records.{record_bytes}
use Rattle.trace_file.specs.TraceText.{name_records}
use Rattle.guest_words.proofs.Pieces.{one_more}
use Rattle.trace_file.proofs.writer.push_names.Goals as goal

pub loop-entry-preserved : goal.loop-entry-preserved
loop-entry-preserved c =
    let names = c.args.names.now in
    let i = c.loop-entry.entry-index in
    let item = c.loop-entry-item.result in
    let more = take_more names i item c.loop-entry-test.true ∙ ap (λ v. take i names ++ v ∷ []) (sym c.loop-entry-item.is) in
    record {
      text = one_more record_bytes (name_records (take i names)) _ (OfName item.0 item.1) c.args.text.now.items c.loop-entry.text.items c.push_name.new.text.items
          (ap name_records more ∙ map-append _ (take i names) (item ∷ [])) c.loop-entry.invariant.text c.in_ok-push_name.ensures.ok;
      fits = grind (arith, common_steps);
    }
