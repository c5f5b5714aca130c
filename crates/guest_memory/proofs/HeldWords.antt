-- Reservations as a list of distinct threads: what a thread has after some are dropped or one is added.
use Rattle.std.proofs.Common.{◌≡◌, ℕ, Bool, true, false, not, ◌&&◌, ◌==◌, cond, ◌≤◌, zero, suc, take, length, arith, List, [], ◌∷◌, ◌++◌, filter, Option, Some, None, refl, ap, sym, ◌∙◌, inl, inr}
use Rattle.std.specs.Prelude.{is_none}
use Rattle.std.specs.Option.{option_map_or}
use Rattle.std.proofs.lemmas.Bool.{cases_eq, cases_Bool, and_parts, and_from, eq-eqb, ne_eqb}
use Rattle.guest_memory.specs.Memory.{is_among}
use Rattle.guest_memory.specs.declared.reservations.Invalidation.TheVariants.{OfThread, OnWords}
use Rattle.guest_memory.specs.Reserved.{Reserved, nothing_reserved, with_word, without_thread, is_by, after_write}
use Rattle.guest_memory.specs.Holders.{held_in, is_distinct, is_invalidated}

-- a word, if it passes a test
abbrev pub pass : (ℕ → Bool) → Option ℕ → Option ℕ
pass keep None = None
pass keep (Some word) = cond (keep word) (Some word) None

-- the holders that pass a test
abbrev pub kept : (ℕ × ℕ → Bool) → List (ℕ × ℕ) → List (ℕ × ℕ)
kept lost xs = filter (λ h. not (lost h)) xs

pub none_from : {T : Type 0} (o : Option T) → is_none o ≡ true → o ≡ None
none_from None h = refl
none_from (Some x) h = absurd (cc)

-- the first holder, and those behind it
pub held_first : (t w : ℕ) (rest : List (ℕ × ℕ)) (tid : ℕ) → tid ≡ t → held_in ((t, w) ∷ rest) tid ≡ Some w
held_first t w rest tid same = ap (λ (b : Bool). cond b (Some w) (held_in rest tid)) (eq-eqb tid t same)

pub held_later : (t w : ℕ) (rest : List (ℕ × ℕ)) (tid : ℕ) → (tid ≡ t → ⊥) → held_in ((t, w) ∷ rest) tid ≡ held_in rest tid
held_later t w rest tid differs = ap (λ (b : Bool). cond b (Some w) (held_in rest tid)) (ne_eqb tid t differs)

-- a holder is kept or left out
kept_first : (lost : ℕ × ℕ → Bool) (h : ℕ × ℕ) (rest : List (ℕ × ℕ)) → lost h ≡ false → kept lost (h ∷ rest) ≡ h ∷ kept lost rest
kept_first lost h rest stays = ap (λ (b : Bool). cond (not b) (h ∷ kept lost rest) (kept lost rest)) stays

kept_later : (lost : ℕ × ℕ → Bool) (h : ℕ × ℕ) (rest : List (ℕ × ℕ)) → lost h ≡ true → kept lost (h ∷ rest) ≡ kept lost rest
kept_later lost h rest goes = ap (λ (b : Bool). cond (not b) (h ∷ kept lost rest) (kept lost rest)) goes

-- what a thread has after some are dropped
pub held_in-kept : (lost : ℕ × ℕ → Bool) (xs : List (ℕ × ℕ)) (tid : ℕ) → is_distinct xs ≡ true → held_in (kept lost xs) tid ≡ pass (λ w. not (lost (tid, w))) (held_in xs tid)
held_in-kept lost [] tid distinct = refl
held_in-kept lost ((t, w) ∷ rest) tid distinct =
    let parts = and_parts (is_none (held_in rest t)) (is_distinct rest) distinct in
    let alone : held_in rest t ≡ None = none_from (held_in rest t) parts.0 in
    let later = held_in-kept lost rest tid parts.1 in
    let test : ℕ → Bool = λ w. not (lost (tid, w)) in
    elim (cases_eq tid t) [
      | inl same ↦
          let before : held_in ((t, w) ∷ rest) tid ≡ Some w = held_first t w rest tid same in
          elim (cases_Bool (lost (t, w))) [
            | inl goes ↦
                let none : held_in rest tid ≡ None = ap (held_in rest) same ∙ alone in
                let lost_too : lost (tid, w) ≡ true = ap (λ (q : ℕ). lost (q, w)) same ∙ goes in
                ap (λ (ys : List (ℕ × ℕ)). held_in ys tid) (kept_later lost (t, w) rest goes)
                ∙ later ∙ ap (pass test) none
                ∙ sym (ap (pass test) before ∙ ap (λ (b : Bool). cond (not b) (Some w) None) lost_too)
            | inr stays ↦
                let kept_too : lost (tid, w) ≡ false = ap (λ (q : ℕ). lost (q, w)) same ∙ stays in
                ap (λ (ys : List (ℕ × ℕ)). held_in ys tid) (kept_first lost (t, w) rest stays)
                ∙ held_first t w (kept lost rest) tid same
                ∙ sym (ap (pass test) before ∙ ap (λ (b : Bool). cond (not b) (Some w) None) kept_too)
          ]
      | inr differs ↦
          let before : held_in ((t, w) ∷ rest) tid ≡ held_in rest tid = held_later t w rest tid differs in
          elim (cases_Bool (lost (t, w))) [
            | inl goes ↦ ap (λ (ys : List (ℕ × ℕ)). held_in ys tid) (kept_later lost (t, w) rest goes) ∙ later ∙ sym (ap (pass test) before)
            | inr stays ↦ ap (λ (ys : List (ℕ × ℕ)). held_in ys tid) (kept_first lost (t, w) rest stays) ∙ held_later t w (kept lost rest) tid differs ∙ later ∙ sym (ap (pass test) before)
          ]
    ]

-- threads stay distinct
pub is_distinct-kept : (lost : ℕ × ℕ → Bool) (xs : List (ℕ × ℕ)) → is_distinct xs ≡ true → is_distinct (kept lost xs) ≡ true
is_distinct-kept lost [] distinct = refl
is_distinct-kept lost ((t, w) ∷ rest) distinct =
    let parts = and_parts (is_none (held_in rest t)) (is_distinct rest) distinct in
    let alone : held_in rest t ≡ None = none_from (held_in rest t) parts.0 in
    let later = is_distinct-kept lost rest parts.1 in
    elim (cases_Bool (lost (t, w))) [
      | inl goes ↦ ap is_distinct (kept_later lost (t, w) rest goes) ∙ later
      | inr stays ↦
          let none : held_in (kept lost rest) t ≡ None = held_in-kept lost rest t parts.1 ∙ ap (pass (λ w. not (lost (t, w)))) alone in
          ap is_distinct (kept_first lost (t, w) rest stays) ∙ and_from (is_none (held_in (kept lost rest) t)) (is_distinct (kept lost rest)) (ap (λ (o : Option ℕ). is_none o) none) later
    ]

-- a thread that has none is not the first
not_first : (t w : ℕ) (rest : List (ℕ × ℕ)) (tid : ℕ) → held_in ((t, w) ∷ rest) tid ≡ None → tid ≡ t → ⊥
not_first t w rest tid none same = let bad : Some w ≡ None = sym (held_first t w rest tid same) ∙ none in cc

-- what a thread has after one more is added
pub held_in-push : (xs : List (ℕ × ℕ)) (tid word q : ℕ) → held_in xs tid ≡ None → held_in (xs ++ (tid, word) ∷ []) q ≡ with_word (held_in xs) tid word q
held_in-push [] tid word q none = refl
held_in-push ((t, w) ∷ rest) tid word q none =
    let differs : tid ≡ t → ⊥ = not_first t w rest tid none in
    let later = held_in-push rest tid word q (sym (held_later t w rest tid differs) ∙ none) in
    elim (cases_eq q t) [
      | inl same ↦
          let other : q ≡ tid → ⊥ = λ e. differs (sym e ∙ same) in
          held_first t w (rest ++ (tid, word) ∷ []) q same
          ∙ sym (ap (λ (b : Bool). cond b (Some word) (held_in ((t, w) ∷ rest) q)) (ne_eqb q tid other) ∙ held_first t w rest q same)
      | inr apart ↦
          held_later t w (rest ++ (tid, word) ∷ []) q apart ∙ later
          ∙ ap (λ (o : Option ℕ). cond (q == tid) (Some word) o) (sym (held_later t w rest q apart))
    ]

pub is_distinct-push : (xs : List (ℕ × ℕ)) (tid word : ℕ) → is_distinct xs ≡ true → held_in xs tid ≡ None → is_distinct (xs ++ (tid, word) ∷ []) ≡ true
is_distinct-push [] tid word distinct none = refl
is_distinct-push ((t, w) ∷ rest) tid word distinct none =
    let parts = and_parts (is_none (held_in rest t)) (is_distinct rest) distinct in
    let alone : held_in rest t ≡ None = none_from (held_in rest t) parts.0 in
    let differs : tid ≡ t → ⊥ = not_first t w rest tid none in
    let gone : held_in rest tid ≡ None = sym (held_later t w rest tid differs) ∙ none in
    let other : t ≡ tid → ⊥ = λ e. differs (sym e) in
    let still : held_in (rest ++ (tid, word) ∷ []) t ≡ None = held_in-push rest tid word t gone ∙ ap (λ (b : Bool). cond b (Some word) (held_in rest t)) (ne_eqb t tid other) ∙ alone in
    and_from (is_none (held_in (rest ++ (tid, word) ∷ []) t)) (is_distinct (rest ++ (tid, word) ∷ [])) (ap (λ (o : Option ℕ). is_none o) still) (is_distinct-push rest tid word parts.1 gone)

none_both : (b : Bool) → (let none : Option ℕ = None in none) ≡ cond b None None
none_both true = refl
none_both false = refl

turned : (b : Bool) (w : ℕ) → cond (not b) (Some w) None ≡ cond b None (Some w)
turned true w = refl
turned false w = refl

-- what holds of no holders holds where there are none
pub none_held : (P : List (ℕ × ℕ) → Type 0) (count : ℕ) (holders : List (ℕ × ℕ)) → count ≤ 0 → P [] → P (take count holders)
none_held P zero holders none holds = holds
none_held P (suc count) holders none holds = absurd (omega (arith, none))

-- where no thread has one, there is no holder
pub held_by_none : (count : ℕ) (holders : List (ℕ × ℕ)) → count ≤ length holders → held_in (take count holders) ≡ nothing_reserved → count ≤ 0
held_by_none zero holders fits none = omega arith
held_by_none (suc count) [] fits none = absurd (omega (arith, fits))
held_by_none (suc count) ((t, w) ∷ rest) fits none =
    let bad : Some w ≡ None = sym (held_first t w (take count rest) t refl) ∙ ap (λ (h : Reserved). h t) none in absurd (cc)

-- the losses of a thread
pass_other : (q tid : ℕ) (o : Option ℕ) → pass (λ w. not (q == tid)) o ≡ cond (q == tid) None o
pass_other q tid None = none_both (q == tid)
pass_other q tid (Some w) = turned (q == tid) w

pub forgotten : (xs : List (ℕ × ℕ)) (tid : ℕ) → is_distinct xs ≡ true → held_in (kept (is_invalidated (OfThread tid)) xs) ≡ without_thread (held_in xs) tid
forgotten xs tid distinct = λ i q. (held_in-kept (is_invalidated (OfThread tid)) xs q distinct ∙ pass_other q tid (held_in xs q)) i

-- the losses by a write
pass_write : (writer : Option ℕ) (first count q : ℕ) (o : Option ℕ) → pass (λ w. not (not (is_by writer q) && is_among first count w)) o ≡ cond (not (is_by writer q) && option_map_or (is_among first count) o false) None o
pass_write writer first count q None = none_both (not (is_by writer q) && false)
pass_write writer first count q (Some w) = turned (not (is_by writer q) && is_among first count w) w

pub after_loss : (xs : List (ℕ × ℕ)) (writer : Option ℕ) (first count : ℕ) → is_distinct xs ≡ true → held_in (kept (is_invalidated (OnWords writer first count)) xs) ≡ after_write (held_in xs) writer first count
after_loss xs writer first count distinct = λ i q. (held_in-kept (is_invalidated (OnWords writer first count)) xs q distinct ∙ pass_write writer first count q (held_in xs q)) i
