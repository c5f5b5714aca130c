use Rattle.std.proofs.Common.{◌≡◌, ◌+◌, ◌∙◌, arith, length, map, refl, subst, sym}
use Rattle.aprof_top.specs.Private.Loading.{load_in, loaded_in}
use Rattle.aprof_top.proofs.LoadSteps.{IsLoading, IsLoading-more, IsLoading-none, LoadsEnd-next, PassesLimit-together, load_at}
use Rattle.aprof_top.proofs.loads.load_files.Goals as goal

pub loop-load-init : goal.loop-load-init
loop-load-init g c = record {
  small = omega arith;
  so_far = IsLoading-none (map load_in c.args.loads.now) (loaded_in c.in_ok-loaded.loaded) (g.F.Files.state c.args.files.now) c.in_ok-loaded.ensures;
}

pub returns-in-Err : goal.returns-in-Err
returns-in-Err g c =
    LoadsEnd-next (map load_in c.args.loads.now) c.loop-load.load-index c.loop-load.shared_bytes (loaded_in c.loop-load.loaded) _
    (g.F.Files.state c.args.files.now) (g.F.Files.state c.loop-load.files) (g.F.Files.state c.load_file.new.files)
    c.loop-load.invariant.so_far (load_at c.args.loads.now c.loop-load.load-index _ c.loop-load-test.true) c.in-Err.ending c.in-Err.ensures

pub returns-then-shared_bytes-gt-INPUT_BYTES : goal.returns-then-shared_bytes-gt-INPUT_BYTES
returns-then-shared_bytes-gt-INPUT_BYTES g c =
    let size : c.len.result ≡ length c.in-Ok.bytes.items = c.len.ensures ∙ c.in-Ok.bytes.ok.0 in (
      refl,
      PassesLimit-together (map load_in c.args.loads.now) c.loop-load.load-index c.loop-load.shared_bytes (loaded_in c.loop-load.loaded) _
          (g.F.Files.state c.args.files.now) (g.F.Files.state c.loop-load.files) (g.F.Files.state c.load_file.new.files)
          c.loop-load.invariant.so_far (load_at c.args.loads.now c.loop-load.load-index _ c.loop-load-test.true)
          c.in-Ok.bytes.items c.in-Ok.ensures c.len.result c.shared_bytes-shared_bytes.result size c.shared_bytes-shared_bytes.ensures
          c.if-shared_bytes-gt-INPUT_BYTES.true,
    )

pub loop-load-preserved : goal.loop-load-preserved
loop-load-preserved g c =
    let size : c.len.result ≡ length c.in-Ok.bytes.items = c.len.ensures ∙ c.in-Ok.bytes.ok.0 in
    let loads = map load_in c.args.loads.now in
    let old = g.F.Files.state c.args.files.now in
    let now = g.F.Files.state c.load_file.new.files in
    record {
      small = c.if-shared_bytes-gt-INPUT_BYTES.false;
      so_far = subst (λ loaded. IsLoading loads (c.loop-load.load-index + 1) (c.loop-load.shared_bytes + c.shared_bytes-shared_bytes.result) loaded old now) (sym c.in_ok-put.ensures)
          (IsLoading-more loads c.loop-load.load-index c.loop-load.shared_bytes (loaded_in c.loop-load.loaded) _ old (g.F.Files.state c.loop-load.files) now
          c.loop-load.invariant.so_far (load_at c.args.loads.now c.loop-load.load-index _ c.loop-load-test.true)
          c.in-Ok.bytes.items c.in-Ok.ensures c.len.result c.shared_bytes-shared_bytes.result size c.shared_bytes-shared_bytes.ensures
          c.if-shared_bytes-gt-INPUT_BYTES.false);
    }
