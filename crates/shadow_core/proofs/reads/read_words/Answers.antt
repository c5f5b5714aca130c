use Rattle.std.proofs.Common.{◌∙◌, ◌+◌, ◌*◌, ◌^◌, ℕ, subst, arith}
use Rattle.shadow_pages.specs.Pages.{stamp_at}
use Rattle.stamp_renumber.specs.Threads.{frames_of}
use Rattle.shadow_core.proofs.Costs.{within_alone, within_on}
use Rattle.shadow_core.proofs.Reading.{length_read, lives_read, nothing_read, read_on, read_within, within_more}
use Rattle.shadow_core.specs.Private.Reading.{IsRead, IsReadWithin}
use Rattle.shadow_core.proofs.reads.read_words.Goals as goal

pub loop-i-init : goal.loop-i-init
loop-i-init g c = record {
  read = λ marks. nothing_read c.args.threads.now c.args.tid (stamp_at c.args.writes.now.pages) marks c.args.first (g.S.Stamp.number_of c.args.stamp) c.requires.lives;
  cost = within_alone 0 c.args.threads.now c.args.tid c.args.first 0 c.args.steps.now c.args.steps.now (omega arith);
}

pub read_word-requires-clause-lives : goal.read_word-requires-clause-lives
read_word-requires-clause-lives g c =
    lives_read c.args.threads.now c.loop-i.threads c.args.tid (stamp_at c.args.writes.now.pages) (λ l. 0) c.args.first c.loop-i.i (g.S.Stamp.number_of c.args.stamp) c.requires.lives (c.loop-i.invariant.read (λ l. 0))

pub read_word-requires-clause-some : goal.read_word-requires-clause-some
read_word-requires-clause-some g c =
    omega (arith, c.requires.some, length_read c.args.threads.now c.loop-i.threads c.args.tid (stamp_at c.args.writes.now.pages) (λ l. 0) c.args.first c.loop-i.i (g.S.Stamp.number_of c.args.stamp) c.requires.lives (c.loop-i.invariant.read (λ l. 0)))

pub read_word-requires-clause-covered : goal.read_word-requires-clause-covered
read_word-requires-clause-covered g c =
    let w = c.word_at.result in
    (c.loop-i.invariant.read (λ l. 0)).covered w ∙ c.requires.covered w (omega (arith, c.word_at.ensures)) (omega (arith, c.word_at.ensures))

pub read_word-requires-clause-sums : goal.read_word-requires-clause-sums
read_word-requires-clause-sums g c =
    let after = read_within c.args.threads.now c.loop-i.threads c.args.tid (stamp_at c.args.writes.now.pages) (λ l. 0) c.args.first c.loop-i.i (g.S.Stamp.number_of c.args.stamp) c.requires.lives (c.loop-i.invariant.read (λ l. 0)) (2 ^ 62 + 2 ^ 30) c.requires.sums in
    within_more (2 ^ 62 + 2 ^ 30 + c.loop-i.i) (2 ^ 62 + 2 ^ 31) (frames_of c.loop-i.threads.threads c.args.tid) (omega arith) after

pub loop-i-preserved : goal.loop-i-preserved
loop-i-preserved g c =
    let old = c.args.threads.now in
    let now = c.loop-i.threads in
    let t = c.args.tid in
    let stamp = g.S.Stamp.number_of c.args.stamp in
    let write = stamp_at c.args.writes.now.pages in
    let at = c.word_at.result in
    record {
      read = λ marks. read_on old now t write marks c.args.first c.loop-i.i stamp c.requires.lives (c.loop-i.invariant.read marks) c.read_word.new.threads at 1 c.word_at.ensures (c.read_word.ensures.read marks);
      cost = within_on old now t write (λ l. 0) c.args.first c.loop-i.i stamp c.requires.lives (c.loop-i.invariant.read (λ l. 0)) (9 * c.loop-i.i) 9 (9 * (c.loop-i.i + 1)) at 1 c.args.steps.now c.loop-i.steps c.read_word.new.steps
          c.word_at.ensures (omega arith) c.loop-i.invariant.cost c.read_word.ensures.cost;
    }

pub returns-clause-read : goal.returns-clause-read
returns-clause-read g c = λ marks.
    subst (λ (n : ℕ). IsRead c.args.threads.now c.loop-i.threads c.args.tid (stamp_at c.args.writes.now.pages) marks c.args.first n (g.S.Stamp.number_of c.args.stamp)) (omega arith) (c.loop-i.invariant.read marks)

pub returns-clause-cost : goal.returns-clause-cost
returns-clause-cost g c =
    subst (λ (n : ℕ). IsReadWithin (9 * n) c.args.threads.now c.args.tid c.args.first n c.args.steps.now c.loop-i.steps) (omega arith) c.loop-i.invariant.cost
