use Rattle.std.proofs.Common.{subst}
use Rattle.command_line.specs.Read.{guest_in}
use Rattle.stamps.specs.declared.width.StampBits.TheVariants.{B32}
use Rattle.stamps.specs.Widths.{greatest}
use Rattle.aprof_top.specs.Private.Jobs.{IsProfiled}
use Rattle.aprof_top.proofs.Demos.{demo_seen_by}
use Rattle.aprof_top.proofs.demo.profile_demo.Goals as goal

pub returns-clause-profiled : goal.returns-clause-profiled
returns-clause-profiled c =
    let files = c.in_ok-files.files in
    let seen = demo_seen_by c.args.image.now (guest_in c.demo_guest-guest.result) files.schedule files.inputs files.stdin.items
    c.demo_guest-guest.ensures c.in_ok-files.ensures.0 c.in_ok-files.ensures.1 c.in_ok-files.ensures.2 in
    subst (IsProfiled (greatest B32) c.in_ok-run.run') seen c.in_ok-run.ensures.2
