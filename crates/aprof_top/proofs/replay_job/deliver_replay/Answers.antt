use Rattle.std.proofs.Common.{Err, ap, refl, subst, ◌∙◌, map}
use Rattle.std.proofs.lemmas.Result.{err_from_is_err_and}
use Rattle.command_line.specs.Read.{replay_in}
use Rattle.aprof_top.specs.Private.Jobs.{StatsEnd, store_of}
use Rattle.aprof_top.specs.Outcome.{replay_outcome, stats_of}
use Rattle.aprof_top.specs.declared.ending.Verdict.TheVariants.{Done}
use Rattle.host_io.specs.Sink.{appended}
use Rattle.aprof_top.proofs.Replays.{stats_done, stats_unfinished, stores_unfinished}
use Rattle.aprof_top.proofs.replay_job.deliver_replay.Goals as goal

pub returns-in_err-store_all : goal.returns-in_err-store_all
returns-in_err-store_all g c = λ bytes is.
    let p = err_from_is_err_and c.from_residual-in_err-store_all.result c.from_residual-in_err-store_all.ensures.1 in
    let outcome = replay_outcome (replay_in c.args.command.now) c.args.replayed.names.items c.args.replayed.finish is.past in
    rw (p.1, p.2) (stores_unfinished outcome (map store_of c.as_slice.result.now) (ap (map store_of) c.as_slice.ensures.value ∙ c.in_ok-stores.ensures bytes is)
    c.in_err-store_all.field-0.0 (g.F.Files.state c.args.files.now) (g.F.Files.state c.store_all.new.files) (g.E.Sink.state c.args.err.now) c.in_err-store_all.ensures)

pub returns-in_err-put_stats : goal.returns-in_err-put_stats
returns-in_err-put_stats g c = λ bytes is.
    let p = err_from_is_err_and c.from_residual-in_err-put_stats.result c.from_residual-in_err-put_stats.ensures.1 in
    let options = replay_in c.args.command.now in
    let outcome = replay_outcome options c.args.replayed.names.items c.args.replayed.finish is.past in
    let err = g.E.Sink.state c.args.err.now in
    let new = g.E.Sink.state c.put_stats.new.err in
    rw (p.1, p.2) (stats_unfinished outcome (map store_of c.as_slice.result.now) (ap (map store_of) c.as_slice.ensures.value ∙ c.in_ok-stores.ensures bytes is)
    (g.F.Files.state c.args.files.now) (g.F.Files.state c.store_all.new.files) err new c.in_ok-store_all.ensures c.in_err-put_stats.field-0.0
    (subst (λ count. StatsEnd (stats_of options.stats count) err new (Err c.in_err-put_stats.field-0.0)) is.totals.counts.renumbered_are c.in_err-put_stats.ensures))

pub returns : goal.returns
returns g c = λ bytes is.
    let options = replay_in c.args.command.now in
    let outcome = replay_outcome options c.args.replayed.names.items c.args.replayed.finish is.past in
    let err = g.E.Sink.state c.args.err.now in
    let new = g.E.Sink.state c.put_stats.new.err in
    stats_done outcome (map store_of c.as_slice.result.now) (ap (map store_of) c.as_slice.ensures.value ∙ c.in_ok-stores.ensures bytes is)
    (g.F.Files.state c.args.files.now) (g.F.Files.state c.store_all.new.files) err new c.in_ok-store_all.ensures Done refl
    (c.in_ok-put_stats.ensures ∙ ap (λ count. appended err (stats_of options.stats count)) is.totals.counts.renumbered_are)
