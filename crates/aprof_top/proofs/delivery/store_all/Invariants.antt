use Rattle.std.proofs.Common.{◌≡◌, take, map}
use Rattle.aprof_top.specs.Outside.{with_stores}
use Rattle.aprof_top.specs.Private.Jobs.{store_of}
use Rattle.aprof_top.proofs.delivery.store_all.Given as goal

abbrev pub invariant-loop-store : goal.invariant-loop-store
invariant-loop-store g l = g.F.Files.state l.files ≡ with_stores (map store_of (take l.store-index l.stores)) (g.F.Files.state l.fn.files)
