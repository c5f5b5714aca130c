use Rattle.std.proofs.Common.{◌≡◌, ◌+◌, ◌-◌, ◌*◌, ◌%◌, length, ap, sym, ◌∙◌, subst}
use Rattle.std.specs.Prelude.{slice_set}
use Rattle.std.proofs.lemmas.List.{with_items_is}
use Rattle.cache_lines.specs.Shapes.{Dimensions}
use Rattle.cache_lines.specs.Held.{Held}
use Rattle.cache_lines.specs.Kept.{CacheStandsFor}
use Rattle.cache_lines.specs.Misses.{misses}
use Rattle.cache_lines.proofs.Rows.{length-written, written}
use Rattle.cache_lines.proofs.Stands.{held, ready_is, access_misses, access_stands, row-length}
use Rattle.cache_lines.proofs.cache.Cache.access.Goals as goal

pub returns-clause-misses : goal.returns-clause-misses
returns-clause-misses c = λ accesses stands.
    let shape = c.self.inside.shape in
    let used = c.self.inside.used.items in
    let places = c.deref_mut.result.now in
    let s = c.shape.inside.sets in
    let w = c.shape.inside.ways in
    let u = c.index_mut-used.result.now in
    let places_are = c.deref_mut.ensures.value in
    let ready = ready_is c.self.inside.shape c.self.inside.used.items c.deref_mut.result.now c.args.line u s w (ap (λ (f : Dimensions). f.sets) c.shape.view_is) (ap (λ (f : Dimensions). f.ways) c.shape.view_is)
    c.self.invariant.shape c.index_mut-used.ensures.value c.self.invariant.all c.self.invariant.few (ap length places_are ∙ c.self.invariant.places) in
    let before : CacheStandsFor (held c.self.inside.shape c.self.inside.used.items c.deref_mut.result.now) accesses =
    subst (λ ps. CacheStandsFor (held c.self.inside.shape c.self.inside.used.items ps) accesses) (sym places_are) (subst (λ cache. CacheStandsFor cache accesses) (sym c.self.view_is) stands) in
    access_misses c.self.inside.shape c.self.inside.used.items c.deref_mut.result.now c.args.line (w * (c.args.line % s)) (w * (c.args.line % s) + w - w * (c.args.line % s)) u ready accesses c.touch.result before c.touch.ensures.missed
    ∙ ap (λ (cache : Held). misses cache.shape accesses c.args.line) c.self.view_is

pub returns-clause-after : goal.returns-clause-after
returns-clause-after c = λ accesses stands.
    let s = c.shape.inside.sets in
    let w = c.shape.inside.ways in
    let u = c.index_mut-used.result.now in
    let at = w * (c.args.line % s) in
    let k = w * (c.args.line % s) + w - w * (c.args.line % s) in
    let places_are = c.deref_mut.ensures.value in
    let row = c.touch.new.places in
    let ready = ready_is c.self.inside.shape c.self.inside.used.items c.deref_mut.result.now c.args.line u s w (ap (λ (f : Dimensions). f.sets) c.shape.view_is) (ap (λ (f : Dimensions). f.ways) c.shape.view_is)
    c.self.invariant.shape c.index_mut-used.ensures.value c.self.invariant.all c.self.invariant.few (ap length places_are ∙ c.self.invariant.places) in
    let before : CacheStandsFor (held c.self.inside.shape c.self.inside.used.items c.deref_mut.result.now) accesses =
    subst (λ ps. CacheStandsFor (held c.self.inside.shape c.self.inside.used.items ps) accesses) (sym places_are) (subst (λ cache. CacheStandsFor cache accesses) (sym c.self.view_is) stands) in
    let long : length row ≡ k = c.touch.ensures.len ∙ row-length c.self.inside.shape c.self.inside.used.items c.deref_mut.result.now c.args.line at k u ready in
    let whole : length (written at k c.deref_mut.result.now row) ≡ c.self.inside.places.len =
    length-written at k c.deref_mut.result.now row long ready.inside ∙ ap length places_are ∙ sym c.self.inside.places.ok.0 in
    access_stands c.self.inside.shape c.self.inside.used.items c.deref_mut.result.now c.args.line at k u ready accesses row _ _ c.touch.new.used before c.touch.ensures.after c.touch.ensures.len c.touch.ensures.inside
    (ap (λ a. slice_set c.self.inside.used.items (c.args.line % a) c.touch.new.used) (ap (λ (f : Dimensions). f.sets) c.shape.view_is))
    (with_items_is c.self.inside.places (written at k c.deref_mut.result.now row) whole)
