use Rattle.std.proofs.Common.{◌≡◌, length, arith, ap}
use Rattle.rv_asm.proofs.Entries.{entries_more, names_more}
use Rattle.rv_asm.proofs.symbols.push_symbols.Goals as goal

pub loop-symbol-preserved : goal.loop-symbol-preserved
loop-symbol-preserved c =
    let long : length c.bytes.result.now ≡ length c.symbol-item.result.name = ap length c.bytes.ensures.same in
    record {
      entries = entries_more _ _ _ _ _ _ _ _ c.loop-symbol-test.true c.symbol-item.is long c.in_ok-push_symbol.ensures c.loop-symbol.invariant.entries;
      names = omega (arith, names_more _ _ _ _ c.loop-symbol-test.true c.symbol-item.is long);
    }
