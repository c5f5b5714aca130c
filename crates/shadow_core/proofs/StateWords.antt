-- The words of a range, read at once.
use Rattle.std.proofs.Common.{◌≡◌, ℕ, ◌+◌, List, [], ◌∷◌, ◌++◌, reverse, refl, sym, ap, ◌∙◌, arith, suc, zero, length, pos, subst}
use Rattle.std.specs.Prelude.{slice_index}
use Rattle.std.proofs.lemmas.List.{get_or_push, length-map, map-append}
use Rattle.stamp_lanes.specs.Plain.{IsBulk}
use Rattle.shadow_stack.specs.declared.sums.Sums.{Sums}
use Rattle.shadow_stack.specs.Frames.{Frame, starts_of}
use Rattle.stamp_table.specs.Frames.{frames_after_reads, added_to_top}
use Rattle.shadow_core.specs.Private.StateWords.{ReadsAllWords}
use Rattle.stamp_table.specs.Stands.{IsFalling}
use Rattle.stamp_table.proofs.Bulk.{reads_at_once}
use Rattle.shadow_core.proofs.Reversed.{adds_at_the_last, pushes_in_front}

-- the innermost frame and the others
split_last : (last : ℕ) (fs : List Frame) → length fs ≡ last + 1 → (outer : List Frame) × (top : Frame) × (fs ≡ outer ++ top ∷ []) × (length outer ≡ last)
split_last last [] long = absurd (omega (arith, long))
split_last zero (f ∷ []) long = ([], f, refl, refl)
split_last zero (f ∷ g ∷ fs) long = absurd (omega (arith, long))
split_last (suc last) (f ∷ fs) long =
    let (outer, top, is, size) = split_last last fs (omega (arith, long)) in
    (f ∷ outer, top, ap (λ (gs : List Frame). f ∷ gs) is, ap suc size)

pub reads_all_words : ReadsAllWords
reads_all_words places bulk limit last fs long falling counts none =
    let split = split_last last fs long in
    let outer = split.0 in
    let top = split.1 in
    let whole : reverse fs ≡ top ∷ reverse outer = ap (reverse {A = Frame}) split.2 ∙ pushes_in_front outer top in
    let start : slice_index (starts_of fs) last ≡ top.start =
    ap (λ (gs : List Frame). slice_index (starts_of gs) last) split.2
    ∙ ap (λ (ss : List ℕ). slice_index ss last) (map-append (λ (f : Frame). f.start) outer (top ∷ []))
    ∙ get_or_push (starts_of outer) top.start 0 last (length-map outer (λ (f : Frame). f.start) ∙ split.3) in
    let by : Sums = record { plain = pos bulk.plain; bare = pos bulk.untouched } in
    let once = reads_at_once places bulk limit top (reverse outer) (subst (λ (gs : List Frame). IsFalling limit (starts_of gs)) whole falling)
    (subst (λ n. IsBulk n places bulk) start counts) none in
    adds_at_the_last by last fs long ∙ ap (added_to_top by) whole ∙ sym once ∙ ap (frames_after_reads places) (sym whole)
