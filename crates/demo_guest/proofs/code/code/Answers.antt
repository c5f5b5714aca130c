use Rattle.std.proofs.lemmas.Result.{IfOk-weaker}
use Rattle.demo_guest.proofs.Whole.{accepted, words_are, words_fit}
use Rattle.demo_guest.proofs.code.code.Goals as goal

pub finish-requires : goal.finish-requires
finish-requires c = record {
  accepted = accepted c.args.routines c.in_ok-demo_program.field-0 c.requires c.in_ok-demo_program.ensures.lines c.in_ok-demo_program.ensures.bindings;
}

pub returns-clause-words : goal.returns-clause-words
returns-clause-words c = IfOk-weaker c.finish.result _ _ (λ words done.
    words_are c.args.routines c.in_ok-demo_program.field-0 words c.in_ok-demo_program.ensures.lines c.in_ok-demo_program.ensures.bindings done) c.finish.ensures.words

pub returns-clause-fit : goal.returns-clause-fit
returns-clause-fit c = IfOk-weaker c.finish.result _ _ (λ words done. words_fit c.in_ok-demo_program.field-0 words done) c.finish.ensures.words
