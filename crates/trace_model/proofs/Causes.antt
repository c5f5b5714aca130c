-- The causes of the reads that count: when a word is known, by the whole past, and what the parts of a size are.
use Rattle.std.proofs.Common.{◌≡◌, ◌≢◌, ℕ, ◌+◌, ◌≤◌, Bool, true, false, not, cond, ◌&&◌, ◌||◌, List, [], ◌∷◌, ◌++◌, get_or, Option, Some, None, refl, sym, ap, ◌∙◌, arith}
use Rattle.std.specs.Prelude.{All}
use Rattle.std.specs.List.{count_by}
use Rattle.std.proofs.lemmas.List.Sums.{sum_by-cons}
use Rattle.std.proofs.lemmas.List.Elements.{All-nil, All-append, All-map}
use Rattle.trace_model.specs.declared.event_kinds.Event.{Event}
use Rattle.trace_model.specs.declared.event_kinds.Touch.{Touch}
use Rattle.trace_model.specs.declared.event_kinds.Touch.TheVariants.{Untouched, ByItself, ByOther, ByKernel}
use Rattle.trace_model.specs.declared.activations.Activation.{Activation}
use Rattle.trace_model.specs.Events.{thread_of, touch, words_read}
use Rattle.trace_model.specs.Activations.{ending_calls}
use Rattle.trace_model.specs.Sizes.{since, before, newer, is_own, last_touch, known, accessed, count_pairs, size, bare}
use Rattle.trace_model.specs.Causes.{Cause, Plain, OtherThread, Kernel, is_by, counts_by, part, caused}
use Rattle.trace_model.specs.Profile.{HasParts, done, done_of, ended, ended_of}
use Rattle.trace_model.specs.Laws.{SizesAreParts, ForeignPartsAreCounts}

-- the touch is a write that is foreign to the thread
abbrev pub is_foreign : Touch → Bool
is_foreign Untouched = false
is_foreign ByItself = false
is_foreign ByOther = true
is_foreign ByKernel = true

and_false : (b : Bool) → false ≡ (b && false)
and_false true = refl
and_false false = refl

-- a word is known inside where the thread accessed it inside, and no one else wrote it since its last access
pub known_is : (inside past : List Event) (t l : ℕ) → known inside t l ≡ (accessed inside t l && not (is_foreign (last_touch (inside ++ past) t l)))
known_is [] past t l = refl
known_is (e ∷ inside) past t l =
    elim (touch e t l) as (λ w. is_own (newer w (last_touch inside t l)) ≡ ((is_own w || accessed inside t l) && not (is_foreign (newer w (last_touch (inside ++ past) t l))))) [
      | Untouched ↦ known_is inside past t l
      | ByItself ↦ refl
      | ByOther ↦ and_false _
      | ByKernel ↦ and_false _
    ]

-- whether a read counts by the cause, by whether the word was accessed inside and how it was touched last
abbrev counted : Cause → Bool → Touch → Bool
counted cause within last = not (within && not (is_foreign last)) && is_by cause last

pub counts_by_is : (cause : Cause) (inside past : List Event) (t l : ℕ) → counts_by cause inside past t l ≡ counted cause (accessed inside t l) (last_touch (inside ++ past) t l)
counts_by_is cause inside past t l = ap (λ k. not k && is_by cause (last_touch (inside ++ past) t l)) (known_is inside past t l)

abbrev one_if : Bool → ℕ
one_if b = cond b 1 0

one_cause : (within : Bool) (last : Touch) →
    one_if (counted Plain within last) + one_if (counted OtherThread within last) + one_if (counted Kernel within last) ≡ one_if (not (within && not (is_foreign last)))
one_cause true Untouched = refl
one_cause true _ = refl
one_cause false Untouched = refl
one_cause false _ = refl

plain_is_bare : (within : Bool) (last : Touch) → one_if (counted Plain within last) ≤ one_if (not within)
plain_is_bare true Untouched = omega arith
plain_is_bare true _ = omega arith
plain_is_bare false Untouched = omega arith
plain_is_bare false _ = omega arith

bare_is_unknown : (within : Bool) (last : Touch) → one_if (not within) ≤ one_if (not (within && not (is_foreign last)))
bare_is_unknown true last = omega arith
bare_is_unknown false last = omega arith

-- what others wrote last is known in no activation
foreign_counts : (cause : Cause) → is_by cause Untouched ≡ false → is_by cause ByItself ≡ false → (within : Bool) (last : Touch) → counted cause within last ≡ is_by cause last
foreign_counts cause none own true Untouched = sym none
foreign_counts cause none own true ByItself = sym own
foreign_counts cause none own true ByOther = refl
foreign_counts cause none own true ByKernel = refl
foreign_counts cause none own false last = refl

sum_by-equal : (p q r s : ℕ → Bool) → ((l : ℕ) → one_if (p l) + one_if (q l) + one_if (r l) ≡ one_if (s l)) → (words : List ℕ) → count_by p words + count_by q words + count_by r words ≡ count_by s words
sum_by-equal p q r s h [] = refl
sum_by-equal p q r s h (l ∷ words) =
    omega (
      arith,
      h l,
      sum_by-equal p q r s h words,
      sum_by-cons (λ l. one_if (p l)) l words,
      sum_by-cons (λ l. one_if (q l)) l words,
      sum_by-cons (λ l. one_if (r l)) l words,
      sum_by-cons (λ l. one_if (s l)) l words,
    )

count_by-at_most : (p q : ℕ → Bool) → ((l : ℕ) → one_if (p l) ≤ one_if (q l)) → (words : List ℕ) → count_by p words ≤ count_by q words
count_by-at_most p q h [] = omega arith
count_by-at_most p q h (l ∷ words) =
    omega (arith, h l, count_by-at_most p q h words, sum_by-cons (λ l. one_if (p l)) l words, sum_by-cons (λ l. one_if (q l)) l words)

-- three tests of which exactly one holds where a fourth does
pairs-sum : (p q r s : List Event → ℕ → Bool) → ((inside : List Event) (l : ℕ) → one_if (p inside l) + one_if (q inside l) + one_if (r inside l) ≡ one_if (s inside l)) →
    (inside : List Event) (t : ℕ) → count_pairs p inside t + count_pairs q inside t + count_pairs r inside t ≡ count_pairs s inside t
pairs-sum p q r s h [] t = refl
pairs-sum p q r s h (e ∷ inside) t =
    omega (arith, pairs-sum p q r s h inside t, sum_by-equal (p inside) (q inside) (r inside) (s inside) (h inside) (words_read e t))

pairs-at_most : (p q : List Event → ℕ → Bool) → ((inside : List Event) (l : ℕ) → one_if (p inside l) ≤ one_if (q inside l)) → (inside : List Event) (t : ℕ) → count_pairs p inside t ≤ count_pairs q inside t
pairs-at_most p q h [] t = omega arith
pairs-at_most p q h (e ∷ inside) t = omega (arith, pairs-at_most p q h inside t, count_by-at_most (p inside) (q inside) (h inside) (words_read e t))

abbrev unknown_at : ℕ → List Event → ℕ → Bool
unknown_at t inside l = not (known inside t l)

-- the table of a read over the two facts that decide it
module _ (past : List Event) (t : ℕ) where
  abbrev by : Cause → List Event → ℕ → Bool
  by cause inside l = counts_by cause inside past t l

  abbrev last : List Event → ℕ → Touch
  last inside l = last_touch (inside ++ past) t l

  unknown_is : (inside : List Event) (l : ℕ) → one_if (not (accessed inside t l && not (is_foreign (last inside l)))) ≡ one_if (unknown_at t inside l)
  unknown_is inside l = ap (λ k. one_if (not k)) (sym (known_is inside past t l))

  each_sum : (inside : List Event) (l : ℕ) → one_if (by Plain inside l) + one_if (by OtherThread inside l) + one_if (by Kernel inside l) ≡ one_if (unknown_at t inside l)
  each_sum inside l =
      omega (
        arith,
        one_cause (accessed inside t l) (last inside l),
        unknown_is inside l,
        ap one_if (counts_by_is Plain inside past t l),
        ap one_if (counts_by_is OtherThread inside past t l),
        ap one_if (counts_by_is Kernel inside past t l),
      )

  each_low : (inside : List Event) (l : ℕ) → one_if (by Plain inside l) ≤ one_if (not (accessed inside t l))
  each_low inside l = omega (arith, plain_is_bare (accessed inside t l) (last inside l), ap one_if (counts_by_is Plain inside past t l))

  each_high : (inside : List Event) (l : ℕ) → one_if (not (accessed inside t l)) ≤ one_if (unknown_at t inside l)
  each_high inside l = omega (arith, bare_is_unknown (accessed inside t l) (last inside l), unknown_is inside l)

pub parts-sum : (inside past : List Event) (t : ℕ) → part Plain inside past t + part OtherThread inside past t + part Kernel inside past t ≡ size inside t
parts-sum inside past t =
    pairs-sum (λ earlier l. counts_by Plain earlier past t l) (λ earlier l. counts_by OtherThread earlier past t l) (λ earlier l. counts_by Kernel earlier past t l) (unknown_at t) (each_sum past t) inside t

plain-le-bare : (inside past : List Event) (t : ℕ) → part Plain inside past t ≤ bare inside t
plain-le-bare inside past t = pairs-at_most (λ earlier l. counts_by Plain earlier past t l) (λ earlier l. not (accessed earlier t l)) (each_low past t) inside t

bare-le-size : (inside : List Event) (t : ℕ) → bare inside t ≤ size inside t
bare-le-size inside t = pairs-at_most (λ earlier l. not (accessed earlier t l)) (unknown_at t) (each_high [] t) inside t

done_of_has_parts : (past : List Event) (t : ℕ) (a : Activation) → HasParts (done_of past t a)
done_of_has_parts past t a = record {
  parts = parts-sum (since past a.at) (before past (a.at + 1)) t;
  low = plain-le-bare (since past a.at) (before past (a.at + 1)) t;
  high = bare-le-size (since past a.at) t;
}

ended_have_parts : (past : List Event) (e : Event) (o : Option ℕ) → All HasParts (ended_of past e o)
ended_have_parts past e None = All-nil HasParts
ended_have_parts past e (Some t) = All-map HasParts (done_of past t) (ending_calls e past t) (λ k d in'. done_of_has_parts past t (get_or (ending_calls e past t) k d))

pub done_has_parts : (past : List Event) → All HasParts (done past)
done_has_parts [] = All-nil HasParts
done_has_parts (e ∷ past) = All-append HasParts (done past) (ended e past) (done_has_parts past) (ended_have_parts past e (thread_of e))

pub sizes_are_parts : SizesAreParts
sizes_are_parts = record { sum = parts-sum; low = plain-le-bare; high = bare-le-size; done = done_has_parts }

-- a part that is decided by the last touch alone is what the count over the whole past rises by
part-rises : (cause : Cause) → ((within : Bool) (last : Touch) → counted cause within last ≡ is_by cause last) →
    (inside past : List Event) (t : ℕ) → caused cause past t + part cause inside past t ≡ caused cause (inside ++ past) t
part-rises cause h [] past t = omega arith
part-rises cause h (e ∷ inside) past t =
    omega (
      arith,
      part-rises cause h inside past t,
      ap (λ p. count_by p (words_read e t)) (λ i l. (counts_by_is cause inside past t l ∙ h (accessed inside t l) (last_touch (inside ++ past) t l)) i),
    )

pub foreign_parts_are_counts : ForeignPartsAreCounts
foreign_parts_are_counts = record { thread = part-rises OtherThread (foreign_counts OtherThread refl refl); kernel = part-rises Kernel (foreign_counts Kernel refl refl) }

pub last_touch-append : (inside past : List Event) (t l : ℕ) → last_touch (inside ++ past) t l ≡ newer (last_touch inside t l) (last_touch past t l)
last_touch-append [] past t l = refl
last_touch-append (e ∷ inside) past t l = ap (newer (touch e t l)) (last_touch-append inside past t l) ∙ join (touch e t l) (last_touch inside t l) (last_touch past t l)
  where
    join : (a b c : Touch) → newer a (newer b c) ≡ newer (newer a b) c
    join Untouched b c = refl
    join ByItself b c = refl
    join ByOther b c = refl
    join ByKernel b c = refl

-- a read counts by the last touch inside where there is one, and else by the last before
pub counts_touched : (cause : Cause) (inside past : List Event) (t l : ℕ) (within : Touch) → within ≡ last_touch inside t l →
    (not (is_own within) && is_by cause (newer within (last_touch past t l))) ≡ counts_by cause inside past t l
counts_touched cause inside past t l within e =
    ap (λ w. not (is_own w) && is_by cause (newer w (last_touch past t l))) e
    ∙ ap (λ last. not (known inside t l) && is_by cause last) (sym (last_touch-append inside past t l))

pub touched_by_others : (cause : Cause) (within past : Touch) → within ≢ Untouched → within ≢ ByItself → is_by cause within ≡ (not (is_own within) && is_by cause (newer within past))
touched_by_others cause Untouched past h k = absurd (h refl)
touched_by_others cause ByItself past h k = absurd (k refl)
touched_by_others cause ByOther past h k = refl
touched_by_others cause ByKernel past h k = refl
