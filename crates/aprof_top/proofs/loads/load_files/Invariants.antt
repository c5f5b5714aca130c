use Rattle.std.proofs.Common.{◌≤◌, map}
use Rattle.aprof_top.specs.Limits.{inputs_limit}
use Rattle.aprof_top.specs.Private.Loading.{load_in, loaded_in}
use Rattle.aprof_top.proofs.LoadSteps.{IsLoading}
use Rattle.aprof_top.proofs.loads.load_files.Given as goal

abbrev pub invariant-loop-load : goal.invariant-loop-load
invariant-loop-load g l = record {
  small : l.shared_bytes ≤ inputs_limit;
  so_far : IsLoading (map load_in l.loads) l.load-index l.shared_bytes (loaded_in l.loaded) (g.F.Files.state l.fn.files) (g.F.Files.state l.files);
}
