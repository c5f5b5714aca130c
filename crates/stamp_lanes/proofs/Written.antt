-- What stands written so far, each number computed from its own item.
use Rattle.std.proofs.Common.{◌≡◌, ℕ, ◌+◌, ◌<◌, ◌≤◌, List, [], ◌∷◌, ◌++◌, length, map, take, drop, get_or, set, arith, ap, ap₂, sym, ◌∙◌}
use Rattle.std.proofs.Math.Seq.{take-add}
use Rattle.std.proofs.lemmas.List.{map-append, take_more, take_more_set}
use Rattle.std.proofs.lemmas.Simd.{take_more_put_chunk}
use Rattle.std.specs.Simd.Lanes.{put_chunk}

-- one more block
pub block_written : {V : Type 0} (f : V → ℕ) (vs : List V) (into after lanes : List ℕ) (at : ℕ) → at + 16 ≤ length vs → length vs ≡ length into → length lanes ≡ 16
    → take at into ≡ map f (take at vs) → lanes ≡ map f (take 16 (drop at vs)) → after ≡ put_chunk at into lanes → take (at + 16) after ≡ map f (take (at + 16) vs)
block_written f vs into after lanes at room same long before is put =
    let within : at + 16 ≤ length into = omega arith in
    let next : at + 16 ≡ at + length lanes = omega arith in
    ap (take (at + 16)) put
    ∙ (take_more_put_chunk at into lanes (at + 16) next within
    ∙ (ap₂ ◌++◌ before is
    ∙ (sym (map-append f (take at vs) (take 16 (drop at vs))) ∙ ap (map f) (sym (take-add at 16 vs)))))

-- one more number
pub one_written : {V : Type 0} (f : V → ℕ) (vs : List V) (into : List ℕ) (y at : ℕ) (v blank : V) → at < length vs → length vs ≡ length into
    → take at into ≡ map f (take at vs) → get_or vs at blank ≡ v → y ≡ f v → take (at + 1) (set into at y) ≡ map f (take (at + 1) vs)
one_written f vs into y at v blank lt same before is made =
    let within : at < length into = omega arith in
    take_more_set into at y within
    ∙ (ap₂ ◌++◌ before (ap (λ z. z ∷ []) (made ∙ ap f (sym is)))
    ∙ (sym (map-append f (take at vs) (get_or vs at blank ∷ [])) ∙ ap (map f) (sym (take_more vs at blank lt))))
