use Rattle.std.proofs.Common.{◌≤◌, ap, arith}
use Rattle.cache_lines.specs.Held.{Held}
use Rattle.cache_lines.specs.declared.shape.TheConstants.{LEAST_LINE}
use Rattle.cache_lines.proofs.Stands.{wide_lines}
use Rattle.cache_lines.proofs.cache.Cache.line_of.Goals as goal

pub nonzero_div-result : goal.nonzero_div-result
nonzero_div-result c =
    let s = c.self-inside.inside.0.0 in
    let wide : LEAST_LINE ≤ c.self-inside.inside.0.0.line = wide_lines s.sets s.ways s.line (record { sets = s.sets; ways = s.ways; line = s.line }) c.self-inside.invariant in
    omega (arith, wide)

pub returns-clause-wide : goal.returns-clause-wide
returns-clause-wide c =
    let wide : LEAST_LINE ≤ c.self.inside.shape.line = wide_lines c.self.inside.shape.sets c.self.inside.shape.ways c.self.inside.shape.line c.self.inside.shape c.self.invariant.shape in
    omega (arith, wide, ap (λ (h : Held). h.shape.line) c.self.view_is)
