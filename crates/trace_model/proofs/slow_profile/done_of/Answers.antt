use Rattle.std.proofs.Common.{◌+◌, reverse, ap, sym, ◌∙◌, arith}
use Rattle.trace_model.specs.declared.sizes.SizeParts.{SizeParts}
use Rattle.trace_model.specs.Sizes.{bare, cost, size}
use Rattle.trace_model.specs.Causes.{Plain, OtherThread, Kernel, part}
use Rattle.trace_model.proofs.Causes.{parts-sum}
use Rattle.trace_model.proofs.Ended.{since-reverse, before-reverse, part_light}
use Rattle.trace_model.proofs.SizeParts.{sum_fits}
use Rattle.trace_model.proofs.slow_profile.done_of.Goals as goal

pub parts_of-parts-requires : goal.parts_of-parts-requires
parts_of-parts-requires c = part_light c.args.trace.now (c.args.call.at + 1) c.split_at.result.1.now c.split_at.ensures.back c.requires.light

pub cost_of-requires : goal.cost_of-requires
cost_of-requires c = part_light c.args.trace.now (c.args.call.at + 1) c.split_at.result.1.now c.split_at.ensures.back c.requires.light

pub bare_of-requires : goal.bare_of-requires
bare_of-requires c = part_light c.args.trace.now (c.args.call.at + 1) c.split_at.result.1.now c.split_at.ensures.back c.requires.light

pub overflow_add-result : goal.overflow_add-result
overflow_add-result c =
    let light = part_light c.args.trace.now (c.args.call.at + 1) c.split_at.result.1.now c.split_at.ensures.back c.requires.light in
    omega (arith, sum_fits (reverse c.split_at.result.1.now) (reverse c.split_at.result.0.now) c.args.tid c.parts_of-parts.result c.parts_of-parts.ensures light)

pub overflow_add-result-2 : goal.overflow_add-result-2
overflow_add-result-2 c =
    let light = part_light c.args.trace.now (c.args.call.at + 1) c.split_at.result.1.now c.split_at.ensures.back c.requires.light in
    omega (arith, sum_fits (reverse c.split_at.result.1.now) (reverse c.split_at.result.0.now) c.args.tid c.parts_of-parts.result c.parts_of-parts.ensures light)

pub returns : goal.returns
returns c =
    let past = c.args.trace.now in
    let at = c.args.call.at in
    let t = c.args.tid in
    let inside_is = ap reverse c.split_at.ensures.back ∙ sym (since-reverse past at) in
    let until_is = ap reverse c.split_at.ensures.front ∙ sym (before-reverse past (at + 1) (omega (arith, c.requires.begun))) in
    let parts = c.parts_of-parts.ensures in
    let sum_is = (λ i. (parts i).plain + (parts i).thread + (parts i).kernel) ∙ parts-sum (reverse c.split_at.result.1.now) (reverse c.split_at.result.0.now) t in
    let size_is = sum_is ∙ ap (λ events. size events t) inside_is in
    let cost_is = c.cost_of.ensures ∙ ap (λ events. cost events t) inside_is in
    let plain_is = ap (λ (p : SizeParts). p.plain) parts ∙ (λ i. part Plain (inside_is i) (until_is i) t) in
    let thread_is = ap (λ (p : SizeParts). p.thread) parts ∙ (λ i. part OtherThread (inside_is i) (until_is i) t) in
    let kernel_is = ap (λ (p : SizeParts). p.kernel) parts ∙ (λ i. part Kernel (inside_is i) (until_is i) t) in
    let bare_is = c.bare_of.ensures ∙ ap (λ events. bare events t) inside_is in
    λ i. record {
      tid = t;
      entry = c.args.call.entry;
      size = size_is i;
      cost = cost_is i;
      plain = plain_is i;
      thread = thread_is i;
      kernel = kernel_is i;
      bare = bare_is i;
    }
