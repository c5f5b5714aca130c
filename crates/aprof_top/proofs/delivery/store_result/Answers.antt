use Rattle.std.proofs.Common.{Some, refl}
use Rattle.std.proofs.lemmas.Result.{err_from_is_err_and}
use Rattle.aprof_top.specs.Outcome.{one_file, run_outcome}
use Rattle.aprof_top.proofs.Recorded.{one_unstored}
use Rattle.aprof_top.proofs.delivery.store_result.Goals as goal

pub returns-in_err-store : goal.returns-in_err-store
returns-in_err-store g c = λ run finish err.
    let p = err_from_is_err_and c.from_residual.result c.from_residual.ensures.1 in
    rw (p.1, p.2) (one_unstored (run_outcome run (Some (one_file c.args.path.now c.args.bytes.now))) c.args.path.now c.args.bytes.now refl
    c.in_err-store.field-0.0 (g.F.Files.state c.args.files.now) (g.F.Files.state c.store.new.self) err c.in_err-store.ensures.ends)
