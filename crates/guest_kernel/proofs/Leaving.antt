-- Threads that leave, and those that are woken.
use Rattle.std.proofs.Common.{◌≡◌, ℕ, ◌<◌, ◌≤◌, ◌+◌, Bool, true, false, cond, List, [], ◌∷◌, length, map, filter, arith, refl, ap, ap₂, sym, subst, ◌∙◌, inl, inr}
use Rattle.std.specs.Prelude.{not, ◌||◌, ◌==◌}
use Rattle.std.specs.List.{list_any}
use Rattle.std.proofs.lemmas.Bool.{cases_eq, ne_eqb, or_parts}
use Rattle.std.proofs.lemmas.Bool.Decides.{nat_tests}
use Rattle.std.proofs.lemmas.List.{length-map}
use Rattle.futex_table.specs.Once.{waits}
use Rattle.futex_table.specs.Waiting.{woken}
use Rattle.guest_kernel.specs.declared.thread.Thread.{Thread}
use Rattle.guest_kernel.specs.Invariant.{IsState, RisesTo}
use Rattle.guest_kernel.specs.Kernel.{KernelState, is_thread, can_run, is_blocked, other_threads}
use Rattle.guest_kernel.specs.Waits.{woken_at}
use Rattle.guest_kernel.specs.Threads.{with_clear_tid}
use Rattle.guest_kernel.proofs.Blocked.{not_blocked, still_can_run}
use Rattle.guest_kernel.proofs.Rising.{rises_filter}

gone_head : (b : Bool) (q : ℕ) (t : Thread) (rest : List Thread) → (b ≡ false → is_thread q t ≡ false) → list_any (is_thread q) (cond b (t ∷ rest) rest) ≡ false → (is_thread q t ≡ false) × (list_any (is_thread q) rest ≡ false)
gone_head true q t rest apart gone = or_parts (is_thread q t) (list_any (is_thread q) rest) gone
gone_head false q t rest apart gone = (apart refl, gone)

apart_of : (b : Bool) (n tid q : ℕ) → (n == tid) ≡ b → not b ≡ false → (q ≡ tid → ⊥) → (n == q) ≡ false
apart_of true n tid q is kept differs = let here : n ≡ tid = grind (arith, nat_tests, is) in ne_eqb n q (λ same. differs (sym same ∙ here))
apart_of false n tid q is kept differs = absurd (cc)

-- who does not live after another has left did not live before
pub still_gone : (ts : List Thread) (tid q : ℕ) → (q ≡ tid → ⊥) → list_any (is_thread q) (filter (λ t. not (is_thread tid t)) ts) ≡ false → list_any (is_thread q) ts ≡ false
still_gone [] tid q differs gone = refl
still_gone (t ∷ ts) tid q differs gone =
    let parts = gone_head (not (is_thread tid t)) q t (filter (λ u. not (is_thread tid u)) ts) (λ kept. apart_of (is_thread tid t) t.tid tid q refl kept differs) gone in
    ap₂ (λ (a b : Bool). a || b) parts.0 (still_gone ts tid q differs parts.1)

few_cond : (b : Bool) (t : Thread) (rest : List Thread) (n : ℕ) → length rest ≤ n → length (cond b (t ∷ rest) rest) ≤ n + 1
few_cond true t rest n h = omega (arith, h)
few_cond false t rest n h = omega (arith, h)

pub few_left : (test : Thread → Bool) (ts : List Thread) → length (filter test ts) ≤ length ts
few_left test [] = omega arith
few_left test (t ∷ ts) = let h = few_cond (test t) t (filter test ts) (length ts) (few_left test ts) in omega (arith, h)

-- who can run still can where others are woken
pub woken_can_run : (k new : KernelState) (at most bits tid : ℕ) → new ≡ woken_at at most bits k → can_run k tid ≡ true → can_run new tid ≡ true
woken_can_run k new at most bits tid is can =
    let gone = woken k.waiting at most bits in
    ap (λ (s : KernelState). can_run s tid) is ∙ still_can_run k (λ w. not (waits gone w.tid)) (λ d. not (waits gone d.tid)) tid can

left_state : (k : KernelState) (tid : ℕ) → IsState k → can_run k tid ≡ true → IsState (record k { threads = other_threads k tid })
left_state k tid is can = record {
  rising = rises_filter (λ t. not (is_thread tid t)) 0 k.threads k.last_tid is.rising;
  few = let h = few_left (λ t. not (is_thread tid t)) k.threads in omega (arith, h, is.few);
  blocked_live = λ q gone. elim (cases_eq q tid) [
    | inl same ↦ subst (λ (n : ℕ). is_blocked k n ≡ false) (sym same) (not_blocked k tid can)
    | inr differs ↦ is.blocked_live q (still_gone k.threads tid q differs gone)
  ];
  stdin_within = is.stdin_within;
  descriptors_sound = is.descriptors_sound;
}

pub left_is_state : (k new : KernelState) (tid : ℕ) → IsState k → can_run k tid ≡ true → new ≡ record k { threads = other_threads k tid } → IsState new
left_is_state k new tid is can after = subst IsState (sym after) (left_state k tid is can)

cleared_tid : (b : Bool) (t u : Thread) → u.tid ≡ t.tid → (cond b u t).tid ≡ t.tid
cleared_tid true t u same = same
cleared_tid false t u same = refl

pub tid_kept : (tid at : ℕ) (t : Thread) → (with_clear_tid tid at t).tid ≡ t.tid
tid_kept tid at t = cleared_tid (is_thread tid t) t (record t { clear_tid = at }) refl

cleared_rises : (tid at low : ℕ) (ts : List Thread) (last : ℕ) → RisesTo low ts last → RisesTo low (map (with_clear_tid tid at) ts) last
cleared_rises tid at low [] last h = h
cleared_rises tid at low (t ∷ ts) last h = (
  subst (λ (n : ℕ). low < n) (sym (tid_kept tid at t)) h.0,
  subst (λ (n : ℕ). RisesTo n (map (with_clear_tid tid at) ts) last) (sym (tid_kept tid at t)) (cleared_rises tid at t.tid ts last h.1),
)

pub cleared_lives : (tid at q : ℕ) (ts : List Thread) → list_any (is_thread q) (map (with_clear_tid tid at) ts) ≡ list_any (is_thread q) ts
cleared_lives tid at q [] = refl
cleared_lives tid at q (t ∷ ts) = ap₂ (λ (n : ℕ) (b : Bool). (n == q) || b) (tid_kept tid at t) (cleared_lives tid at q ts)

cleared_state : (k : KernelState) (tid at : ℕ) → IsState k → IsState (record k { threads = map (with_clear_tid tid at) k.threads })
cleared_state k tid at is = record {
  rising = cleared_rises tid at 0 k.threads k.last_tid is.rising;
  few = simp length-map is.few;
  blocked_live = λ q gone. is.blocked_live q (sym (cleared_lives tid at q k.threads) ∙ gone);
  stdin_within = is.stdin_within;
  descriptors_sound = is.descriptors_sound;
}

pub cleared_is_state : (k new : KernelState) (tid at : ℕ) → IsState k → new ≡ record k { threads = map (with_clear_tid tid at) k.threads } → IsState new
cleared_is_state k new tid at is after = subst IsState (sym after) (cleared_state k tid at is)
