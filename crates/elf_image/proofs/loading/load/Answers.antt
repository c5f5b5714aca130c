use Rattle.std.proofs.Common.{length}
use Rattle.std.specs.List.{All}
use Rattle.std.proofs.lemmas.List.Sorted.{All-permutation}
use Rattle.elf_image.specs.Private.Layout.{IsLoadable}
use Rattle.elf_image.proofs.loading.load.Goals as goal

pub has_overlap-requires-clause-loadable : goal.has_overlap-requires-clause-loadable
has_overlap-requires-clause-loadable c =
    let all : All (IsLoadable (length c.args.file.now)) c.deref.result.now =
    rw c.deref.ensures.value (All-permutation (IsLoadable (length c.args.file.now)) c.args.headers.now c.in_ok-ordered.ordered.items c.in_ok-ordered.ensures.same c.requires.loadable) in
    (length c.args.file.now, all)

pub count_pages-pages-requires-clause-loadable : goal.count_pages-pages-requires-clause-loadable
count_pages-pages-requires-clause-loadable c =
    let all : All (IsLoadable (length c.args.file.now)) c.deref-2.result.now =
    rw c.deref-2.ensures.value (All-permutation (IsLoadable (length c.args.file.now)) c.args.headers.now c.in_ok-ordered.ordered.items c.in_ok-ordered.ensures.same c.requires.loadable) in
    (length c.args.file.now, all)
