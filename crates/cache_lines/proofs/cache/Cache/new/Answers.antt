use Rattle.std.proofs.Common.{◌∙◌, ap, replicate}
use Rattle.cache_lines.specs.Shapes.{Dimensions}
use Rattle.cache_lines.proofs.Stands.{new_stands}
use Rattle.cache_lines.proofs.cache.Cache.new.Goals as goal

pub returns-clause-empty : goal.returns-clause-empty
returns-clause-empty c =
    new_stands c.args.shape c.in_ok-vec-2.field-0.items c.in_ok-vec.field-0.items
    (c.in_ok-vec-2.ensures.items_if_clones_equal (λ y h. h) ∙ ap (λ (f : Dimensions). replicate f.sets 0) c.shape.view_is)
