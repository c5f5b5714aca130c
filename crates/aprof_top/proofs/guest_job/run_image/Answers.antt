use Rattle.std.proofs.Common.{◌≡◌, ◌∙◌, IfSome, Err, Ok, ap, map, string_bytes, subst}
use Rattle.std.proofs.lemmas.Result.{err_from_is_err_and}
use Rattle.command_line.specs.Options.{arguments}
use Rattle.command_line.specs.Read.{guest_in}
use Rattle.guest_machine.specs.Kept.{machine_of}
use Rattle.guest_machine.specs.Setup.{setup_refusal}
use Rattle.guest_machine.specs.Start.{start}
use Rattle.guest_run.specs.Output.{sinks}
use Rattle.guest_run.specs.RunEnds.{RunEnds}
use Rattle.aprof_top.specs.Run.{observed_from}
use Rattle.aprof_top.proofs.GuestJobs.{ImageRuns-given_up, ImageRuns-run, seen_as}
use Rattle.aprof_top.proofs.Runs.{none_refused}
use Rattle.aprof_top.proofs.guest_job.run_image.Goals as goal

pub returns-in_err-ended : goal.returns-in_err-ended
returns-in_err-ended g c =
    let p = err_from_is_err_and c.from_residual-in_err-ended.result c.from_residual-in_err-ended.ensures.1 in
    let options = guest_in c.args.options.now in
    let words = ap (map string_bytes) c.as_slice.ensures.value ∙ c.in_ok-words.ensures in
    let began = c.in_ok-machine.ensures in
    let begins = none_refused _ c.in_ok-machine.machine (subst (λ w. IfSome (setup_refusal c.args.image.now w) (λ why. Ok c.in_ok-machine.machine ≡ Err why)) words began.refused) in
    let starts = began.start ∙ ap (λ w. start c.args.image.now w c.args.files.inputs c.args.files.stdin.items) words in
    let fits = g.W.Observer.fits c.args.observer.now in
    let seen = seen_as fits options c.args.files.schedule c.args.image.now.entry c.in_ok-machine.machine.entry (start c.args.image.now (arguments options) c.args.files.inputs c.args.files.stdin.items) (machine_of c.in_ok-machine.machine) c.new-turns.result began.entry starts c.new-turns.ensures in
    let before = sinks (g.O.Sink.state c.args.out.now) (g.E.Sink.state c.args.err.now) in
    let after = sinks (g.O.Sink.state c.run_guest.new.out) (g.E.Sink.state c.run_guest.new.err) in
    rw (p.1, p.2) (ImageRuns-given_up g.W.Observer.stands (setup_refusal c.args.image.now (arguments options)) (observed_from fits options c.args.files.schedule c.args.image.now.entry (start c.args.image.now (arguments options) c.args.files.inputs c.args.files.stdin.items)) before c.run_guest.new.observer after begins c.in_err-ended.field-0.0
    (subst (λ run. RunEnds g.W.Observer.stands run before c.run_guest.new.observer after (Err c.in_err-ended.field-0.0)) seen c.in_err-ended.ensures.ends))

pub returns : goal.returns
returns g c =
    let options = guest_in c.args.options.now in
    let words = ap (map string_bytes) c.as_slice.ensures.value ∙ c.in_ok-words.ensures in
    let began = c.in_ok-machine.ensures in
    let begins = none_refused _ c.in_ok-machine.machine (subst (λ w. IfSome (setup_refusal c.args.image.now w) (λ why. Ok c.in_ok-machine.machine ≡ Err why)) words began.refused) in
    let starts = began.start ∙ ap (λ w. start c.args.image.now w c.args.files.inputs c.args.files.stdin.items) words in
    let fits = g.W.Observer.fits c.args.observer.now in
    let seen = seen_as fits options c.args.files.schedule c.args.image.now.entry c.in_ok-machine.machine.entry (start c.args.image.now (arguments options) c.args.files.inputs c.args.files.stdin.items) (machine_of c.in_ok-machine.machine) c.new-turns.result began.entry starts c.new-turns.ensures in
    let before = sinks (g.O.Sink.state c.args.out.now) (g.E.Sink.state c.args.err.now) in
    let after = sinks (g.O.Sink.state c.run_guest.new.out) (g.E.Sink.state c.run_guest.new.err) in
    ImageRuns-run g.W.Observer.stands (setup_refusal c.args.image.now (arguments options)) (observed_from fits options c.args.files.schedule c.args.image.now.entry (start c.args.image.now (arguments options) c.args.files.inputs c.args.files.stdin.items)) before c.run_guest.new.observer after begins c.in_ok-ended.ended
    (subst (λ run. RunEnds g.W.Observer.stands run before c.run_guest.new.observer after (Ok c.in_ok-ended.ended)) seen c.in_ok-ended.ensures.ends)
