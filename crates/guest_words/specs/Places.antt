-- A list of threads in the first of `THREADS` places: what stands in the others, so that the list gives the places back.
use Rattle.std.specs.Prelude.{◌≡◌, ℕ, ◌≤◌, ◌-◌, Bool, false, List, ◌++◌, length, take, drop, replicate}
use Rattle.std.proofs.Common.{◌∙◌, ap, subst, sym}
use Rattle.std.proofs.lemmas.List.{length-take-le, take-append-drop}
use Rattle.guest_words.specs.declared.limits.TheConstants.{THREADS}
use Rattle.guest_words.specs.declared.ready.ReadyList.TheInside.{Inside}
use Rattle.guest_words.specs.Ready.{IsRising}

-- what stands in the places that are not used
abbrev pub filler : ℕ → List (ℕ × Bool)
filler n = replicate n (1, false)

-- the list stands in the first places, and each other place has the filler
pub record IsFilled (a : Inside) : Type 0 where
  pub short : a.len ≤ THREADS
  pub places : length a.threads ≡ THREADS
  pub filled : drop a.len a.threads ≡ filler (THREADS - a.len)
  pub rising : IsRising (take a.len a.threads)

-- the fields, from the list
abbrev pub places_of : List (ℕ × Bool) → Inside
places_of xs = record { threads = xs ++ filler (THREADS - length xs); len = length xs }

-- a list and its filler give the places back
pub filled_gives_back : (a : Inside) → IsFilled a → places_of (take a.len a.threads) ≡ a
filled_gives_back a h =
    let within : a.len ≤ length a.threads = subst (λ (n : ℕ). a.len ≤ n) (sym h.places) h.short in
    let long : length (take a.len a.threads) ≡ a.len = length-take-le a.len a.threads within in
    let whole : take a.len a.threads ++ filler (THREADS - a.len) ≡ a.threads = ap (λ (rest : List (ℕ × Bool)). take a.len a.threads ++ rest) (sym h.filled) ∙ take-append-drop a.len a.threads in
    ap (λ (n : ℕ). record { threads = take a.len a.threads ++ filler (THREADS - n); len = n }) long ∙ ap (λ (xs : List (ℕ × Bool)). record { threads = xs; len = a.len }) whole
