-- How a word was touched last tells which event touched it last.
use Rattle.std.proofs.Common.{inl, inr, ◌≡◌, ◌⊎◌, ℕ, Bool, true, false, List, [], ◌∷◌, ◌++◌, get_or, refl, sym, ap, subst, ◌∙◌, arith}
use Rattle.std.specs.Prelude.{◌↔◌, All}
use Rattle.std.proofs.lemmas.Bool.{false≢true}
use Rattle.std.proofs.lemmas.Bool.Decides.{Decides-by_or, nat_tests}
use Rattle.std.proofs.lemmas.List.Elements.{All-nil, All-cons, All-head, All-tail, Contains-get_or, at_from_Contains}
use Rattle.trace_model.specs.declared.event_kinds.Event.{Event}
use Rattle.trace_model.specs.declared.event_kinds.Event.TheVariants.{Step}
use Rattle.trace_model.specs.declared.event_kinds.Touch.{Touch}
use Rattle.trace_model.specs.declared.event_kinds.Touch.TheVariants.{Untouched}
use Rattle.trace_model.specs.Events.{touch}
use Rattle.trace_model.specs.Sizes.{accessed, is_own, last_touch, newer}
use Rattle.trace_model.specs.Causes.{Plain, OtherThread, Kernel, is_by}
use Rattle.trace_model.specs.Laws.{IsAccess, IsForeignWrite, IsWriteByOther, IsFill, IsLatest, KnownIsByTheLatestTouch, CausesAreByTheLatestTouch, AccessedIsByAnAccess}

-- the event is no access of the word by thread t and no foreign write
abbrev Passed : ℕ → ℕ → Event → Type 0
Passed t l e = (¬ IsAccess e t l) × (¬ IsForeignWrite e t l)

passed : (e : Event) (t l : ℕ) → (touch e t l ≡ Untouched) ↔ Passed t l e
passed e t l = grind (arith, nat_tests)

own : (e : Event) (t l : ℕ) → (is_own (touch e t l) ≡ true) ↔ IsAccess e t l
own e t l = grind (arith, nat_tests)

by_other : (e : Event) (t l : ℕ) → (is_by OtherThread (touch e t l) ≡ true) ↔ IsWriteByOther e t l
by_other e t l = grind (arith, nat_tests)

by_kernel : (e : Event) (t l : ℕ) → (is_by Kernel (touch e t l) ≡ true) ↔ IsFill e t l
by_kernel e t l = grind (arith, nat_tests)

-- a test of touches tells a kind of event
module _ (is_such : Touch → Bool) (IsSuch : Event → ℕ → ℕ → Type 0) (none : is_such Untouched ≡ false)
    (tells : (e : Event) (t l : ℕ) → (is_such (touch e t l) ≡ true) ↔ IsSuch e t l) where
  newer_tells : (v before : Touch) → (is_such (newer v before) ≡ true) ↔ ((is_such v ≡ true) ⊎ ((v ≡ Untouched) × (is_such before ≡ true)))
  newer_tells v before = grind (arith, none)

  found : (past : List Event) (t l : ℕ) → is_such (last_touch past t l) ≡ true → IsLatest IsSuch past t l
  found [] t l is = absurd (false≢true (sym none ∙ is))
  found (e ∷ past) t l is =
      elim ((newer_tells (touch e t l) (last_touch past t l)).0 is) [
        | inl here ↦ record { later = []; latest = e; earlier = past; parts = refl; such = (tells e t l).0 here; passed = All-nil (Passed t l) }
        | inr on ↦
            let rest = found past t l on.1 in
            record {
              later = e ∷ rest.later;
              latest = rest.latest;
              earlier = rest.earlier;
              parts = ap (λ es. e ∷ es) rest.parts;
              such = rest.such;
              passed = All-cons (Passed t l) e rest.later ((passed e t l).0 on.0) rest.passed;
            }
      ]

  after : (later : List Event) (latest : Event) (earlier : List Event) (t l : ℕ) → IsSuch latest t l → All (Passed t l) later →
      is_such (last_touch (later ++ latest ∷ earlier) t l) ≡ true
  after [] latest earlier t l such none_later = (newer_tells (touch latest t l) (last_touch earlier t l)).1 (inl ((tells latest t l).1 such))
  after (e ∷ later) latest earlier t l such none_later =
      (newer_tells (touch e t l) (last_touch (later ++ latest ∷ earlier) t l)).1 (inr (
        (passed e t l).1 (All-head (Passed t l) e later none_later),
        after later latest earlier t l such (All-tail (Passed t l) e later none_later),
      ))

  pub last_tells : (past : List Event) (t l : ℕ) → (is_such (last_touch past t l) ≡ true) ↔ IsLatest IsSuch past t l
  last_tells past t l = (
    found past t l,
    (λ r. ap (λ es. is_such (last_touch es t l)) r.parts ∙ after r.later r.latest r.earlier t l r.such r.passed),
  )

pub known_tells : KnownIsByTheLatestTouch
known_tells = last_tells is_own IsAccess refl own

plain_is : (w : Touch) → (is_by Plain w ≡ true) ↔ ((¬ (is_by OtherThread w ≡ true)) × (¬ (is_by Kernel w ≡ true)))
plain_is w = grind arith

pub causes_tell : CausesAreByTheLatestTouch
causes_tell =
    let thread = last_tells (is_by OtherThread) IsWriteByOther refl by_other in
    let kernel = last_tells (is_by Kernel) IsFill refl by_kernel in
    record {
      thread = thread;
      kernel = kernel;
      plain = λ past t l. grind (arith, plain_is (last_touch past t l), thread past t l, kernel past t l);
    }

pub accessed_tells : AccessedIsByAnAccess
accessed_tells inside t l =
    let some = Decides-by_or (λ e. is_own (touch e t l)) (λ e. IsAccess e t l) (λ es. accessed es t l) (λ e. own e t l) refl (λ _ _. refl) inside in (
      (λ is. let (k, within, such) = some.0 is in (get_or inside k (Step 0), Contains-get_or inside k (Step 0) within, such (Step 0))),
      (λ (e, c, such). let at = at_from_Contains inside e c in some.1 (at.0, at.1, λ d. subst (λ f. IsAccess f t l) (sym (at.2 d)) such)),
    )
