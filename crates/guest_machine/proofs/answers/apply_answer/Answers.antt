use Rattle.std.proofs.Common.{◌≡◌, ◌∙◌, ◌<◌, ◌++◌, ◌∷◌, [], ap, arith, length, rules}
use Rattle.std.proofs.lemmas.List.{length-append}
use Rattle.std.proofs.lemmas.List.Elements.{All-same}
use Rattle.guest_words.specs.ByThread.{numbers}
use Rattle.guest_words.proofs.ThreadTables.{length-with, numbers-with}
use Rattle.guest_machine.specs.Machine.{registers_of}
use Rattle.guest_machine.specs.Step.{resumed}
use Rattle.guest_machine.proofs.answers.apply_answer.Goals as goal

pub insert-requires : goal.insert-requires
insert-requires c =
    let harts = c.args.harts.now.list in
    record {
      above = All-same (λ n. n < c.in-Born.child) (numbers c.resume-in-Born.new.harts.list) (numbers harts)
          (ap numbers c.resume-in-Born.ensures.list ∙ numbers-with harts c.args.tid (resumed (registers_of harts c.args.tid) c.number.result))
          (c.requires.above c.in-Born.child c.in-Born.cpu c.in-Born.is);
    }

pub returns-in-Back-clause-spare : goal.returns-in-Back-clause-spare
returns-in-Back-clause-spare c =
    let harts = c.args.harts.now.list in
    let kept = length-with harts c.args.tid (resumed (registers_of harts c.args.tid) c.in-Back.value) in
    omega (arith, ap length c.resume.ensures.list, kept, c.resume.ensures.room, c.requires.spare)

pub returns-in-Yield-clause-spare : goal.returns-in-Yield-clause-spare
returns-in-Yield-clause-spare c =
    let harts = c.args.harts.now.list in
    let kept = length-with harts c.args.tid (resumed (registers_of harts c.args.tid) 0) in
    omega (arith, ap length c.resume-in-Yield.ensures.list, kept, c.resume-in-Yield.ensures.room, c.requires.spare)

pub returns-in-Block-clause-spare : goal.returns-in-Block-clause-spare
returns-in-Block-clause-spare c =
    let harts = c.args.harts.now.list in
    let kept = length-with harts c.args.tid (resumed (registers_of harts c.args.tid) 0) in
    omega (arith, ap length c.resume-in-Block.ensures.list, kept, c.resume-in-Block.ensures.room, c.requires.spare)

pub returns-in-Born-clause-spare : goal.returns-in-Born-clause-spare
returns-in-Born-clause-spare c =
    let harts = c.args.harts.now.list in
    let kept = length-with harts c.args.tid (resumed (registers_of harts c.args.tid) c.number.result) in
    let old = c.resume-in-Born.new.harts.list in
    let pushed : c.insert.new.self.list ≡ old ++ (c.in-Born.child, c.in-Born.cpu) ∷ [] = search rules in
    let more = length-append old ((c.in-Born.child, c.in-Born.cpu) ∷ []) in
    omega (arith, ap length pushed, more, ap length c.resume-in-Born.ensures.list, kept, c.resume-in-Born.ensures.room, c.insert.ensures.lowered, c.requires.spare)
