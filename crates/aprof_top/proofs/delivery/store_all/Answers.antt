use Rattle.aprof_top.proofs.Deliveries.{stores_more, stores_stop}
use Rattle.aprof_top.proofs.delivery.store_all.Goals as goal

pub returns-in-Err : goal.returns-in-Err
returns-in-Err g c =
    stores_stop c.args.stores.now c.loop-store.store-index c.store-item.result c.as_slice.result.now (g.F.Files.state c.args.files.now) (g.F.Files.state c.loop-store.files) (g.F.Files.state c.store.new.self) c.loop-store-test.true c.store-item.is c.as_slice.ensures.value c.loop-store.invariant c.in-Err.error c.in-Err.ensures.ends

pub loop-store-preserved : goal.loop-store-preserved
loop-store-preserved g c =
    stores_more c.args.stores.now c.loop-store.store-index c.store-item.result c.as_slice.result.now (g.F.Files.state c.args.files.now) (g.F.Files.state c.loop-store.files) (g.F.Files.state c.store.new.self) c.loop-store-test.true c.store-item.is c.as_slice.ensures.value c.loop-store.invariant c.in_default.ensures.ends
