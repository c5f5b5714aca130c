-- What callers need of the words for memories and reservations.
use Rattle.std.proofs.Common.{◌≡◌, ◌<◌, ◌≤◌, ◌+◌, ◌∙◌, Bool, true, false, [], ◌∷◌, length, Option, Some, None, ap, cond, sym, suc, ℕ, arith, inl, inr}
use Rattle.std.specs.Prelude.{◌==◌}
use Rattle.std.specs.Option.{is_some}
use Rattle.std.proofs.lemmas.Bool.{cases_eq, ne_eqb}
use Rattle.guest_memory.specs.Reserved.{Reserved, HoldAtMost, nothing_reserved, with_word, without_thread}

-- at first no thread has a reservation
pub HoldAtMost-new : (held : Reserved) → held ≡ nothing_reserved → HoldAtMost held 0
HoldAtMost-new held none = record {
  holders = [];
  few = omega arith;
  each = λ tid some. let bad : false ≡ true = sym (ap (λ (h : Reserved). is_some (h tid)) none) ∙ some in absurd (cc);
}

holder_kept : (old : Reserved) (tid word q : ℕ) → is_some (with_word old tid word q) ≡ true → (q ≡ tid → ⊥) → is_some (old q) ≡ true
holder_kept old tid word q some differs = ap (λ (b : Bool). is_some (cond b (Some word) (old q))) (sym (ne_eqb q tid differs)) ∙ some

-- one more reservation, one more thread at most
pub HoldAtMost-set : (old new : Reserved) (tid word most : ℕ) → HoldAtMost old most → new ≡ with_word old tid word → HoldAtMost new (most + 1)
HoldAtMost-set old new tid word most before is = record {
  holders = tid ∷ before.holders;
  few = omega (arith, before.few);
  each = λ q some. elim (cases_eq q tid) [
    | inl same ↦ (0, omega arith, sym same)
    | inr differs ↦
        let place = before.each q (holder_kept old tid word q (ap (λ (h : Reserved). is_some (h q)) (sym is) ∙ some) differs) in
        let low : place.0 < length before.holders = place.1 in
        (suc place.0, omega arith, place.2)
  ];
}

pub some_of_rest : (b : Bool) (o : Option ℕ) → is_some (cond b None o) ≡ true → is_some o ≡ true
some_of_rest true o some = absurd (cc)
some_of_rest false o some = some

-- no more than so many, so no more among the other threads
pub HoldAtMost-without : (held : Reserved) (tid few most : ℕ) → HoldAtMost held few → few ≤ most → HoldAtMost (without_thread held tid) most
HoldAtMost-without held tid few most all fits = record {
  holders = all.holders;
  few = omega (arith, all.few);
  each = λ q some. all.each q (some_of_rest (q == tid) (held q) some);
}
