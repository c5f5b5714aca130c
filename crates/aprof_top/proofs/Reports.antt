-- The report of a run.
use Rattle.std.proofs.Common.{◌≡◌, ℕ, ◌+◌, List, [], ◌∷◌, map, take, ◌++◌, slice_get, get_or, Some, ap, ◌∙◌}
use Rattle.std.proofs.lemmas.List.{map-append, take_more}
use Rattle.std.proofs.lemmas.Option.{get_or_from_slice_get, slice_get_within}
use Rattle.elf_image.specs.Image.{Executable}
use Rattle.cost_points.specs.Points.{Routine}
use Rattle.cache_profile.specs.declared.routines.RoutineMisses.{RoutineMisses}
use Rattle.aprof_top.specs.CacheMisses.{named_misses}
use Rattle.aprof_top.specs.Report.{named}
use Rattle.trace_file.specs.TraceText.{Names}

-- one item more
map-more : {X Y : Type 0} (f : X → Y) (xs : List X) (i : ℕ) (x : X) → slice_get xs i ≡ Some x → map f (take (i + 1) xs) ≡ map f (take i xs) ++ f x ∷ []
map-more f xs i x e =
    ap (map f) (take_more xs i x (slice_get_within xs i x e))
    ∙ map-append f (take i xs) (get_or xs i x ∷ [])
    ∙ ap (λ y. map f (take i xs) ++ f y ∷ []) (get_or_from_slice_get xs i x x e)

-- one routine more
pub named-more : (names : Names) (routines : List Routine) (i : ℕ) (r : Routine) → slice_get routines i ≡ Some r → map (named names) (take (i + 1) routines) ≡ map (named names) (take i routines) ++ named names r ∷ []
named-more names = map-more (named names)

pub misses-more : (image : Executable) (routines : List RoutineMisses) (i : ℕ) (r : RoutineMisses) → slice_get routines i ≡ Some r → map (named_misses image) (take (i + 1) routines) ≡ map (named_misses image) (take i routines) ++ named_misses image r ∷ []
misses-more image = map-more (named_misses image)
