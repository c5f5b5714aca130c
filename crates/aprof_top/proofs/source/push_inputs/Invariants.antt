use Rattle.std.proofs.Common.{◌≡◌, ◌++◌, map, take}
use Rattle.aprof_top.specs.Loads.{load}
use Rattle.aprof_top.specs.Private.Loading.{load_in}
use Rattle.aprof_top.specs.declared.source.Source.TheVariants.{Input}
use Rattle.aprof_top.proofs.source.push_inputs.Given as goal

abbrev pub invariant-loop-name : goal.invariant-loop-name
invariant-loop-name l = map load_in l.loads.items ≡ map load_in l.fn.loads.items ++ map (load Input) (map (λ name. name.now) (take l.name-index l.names))
