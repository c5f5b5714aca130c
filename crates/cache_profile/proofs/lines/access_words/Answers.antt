use Rattle.std.proofs.Common.{◌+◌, ◌-◌, ◌*◌, ◌/◌, ◌++◌, length, reverse, ap, sym, ◌∙◌, subst}
use Rattle.std.specs.List.{count_by}
use Rattle.std.proofs.lemmas.List.FromFn.{length-range_with_len}
use Rattle.cache_lines.specs.Kept.{CacheStandsFor}
use Rattle.cache_profile.specs.LineAccesses.{missed}
use Rattle.cache_profile.proofs.InRow.{covered}
use Rattle.cache_profile.proofs.lines.access_words.Goals as goal

pub returns-clause-accesses : goal.returns-clause-accesses
returns-clause-accesses c =
    let shape = c.args.cache.now.shape in
    let is = covered shape c.line_of-first_line.ensures.wide c.args.first c.args.count c.line_of-first_line.result c.line_of-last_line.result c.requires.0
    (c.line_of-first_line.ensures.line ∙ ap (λ n. 4 * n / shape.line) c.number-first.ensures.same)
    (c.line_of-last_line.ensures.line ∙ ap (λ n. 4 * (n + (c.args.count - 1)) / shape.line) c.number-first.ensures.same) in
    sym (length-range_with_len c.line_of-first_line.result (c.line_of-last_line.result - c.line_of-first_line.result + 1)) ∙ ap length is

pub returns-clause-misses : goal.returns-clause-misses
returns-clause-misses c = λ earlier stands.
    let shape = c.args.cache.now.shape in
    let is = covered shape c.line_of-first_line.ensures.wide c.args.first c.args.count c.line_of-first_line.result c.line_of-last_line.result c.requires.0
    (c.line_of-first_line.ensures.line ∙ ap (λ n. 4 * n / shape.line) c.number-first.ensures.same)
    (c.line_of-last_line.ensures.line ∙ ap (λ n. 4 * (n + (c.args.count - 1)) / shape.line) c.number-first.ensures.same) in
    c.access_lines-misses.ensures.misses earlier stands ∙ ap (λ lines. count_by (λ m. m) (missed shape earlier lines)) is

pub returns-clause-after : goal.returns-clause-after
returns-clause-after c = λ earlier stands.
    let shape = c.args.cache.now.shape in
    let is = covered shape c.line_of-first_line.ensures.wide c.args.first c.args.count c.line_of-first_line.result c.line_of-last_line.result c.requires.0
    (c.line_of-first_line.ensures.line ∙ ap (λ n. 4 * n / shape.line) c.number-first.ensures.same)
    (c.line_of-last_line.ensures.line ∙ ap (λ n. 4 * (n + (c.args.count - 1)) / shape.line) c.number-first.ensures.same) in
    subst (λ lines. CacheStandsFor c.access_lines-misses.new.cache (reverse lines ++ earlier)) is (c.access_lines-misses.ensures.after earlier stands)
