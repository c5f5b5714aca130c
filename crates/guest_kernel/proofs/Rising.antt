-- Threads by rising number.
use Rattle.std.proofs.Common.{◌≡◌, ℕ, zero, suc, ◌<◌, ◌≤◌, Bool, true, false, cond, List, [], ◌∷◌, ◌++◌, length, map, filter, get_or, take, arith}
use Rattle.guest_words.specs.Ready.{IsAboveLast}
use Rattle.guest_kernel.specs.declared.thread.Thread.{Thread}
use Rattle.guest_kernel.specs.Invariant.{RisesTo}

-- they rise from each lower number too
pub rises_from_lower : (low n : ℕ) (threads : List Thread) (last : ℕ) → low ≤ n → RisesTo n threads last → RisesTo low threads last
rises_from_lower low n [] last below h = omega (arith, h)
rises_from_lower low n (t ∷ threads) last below h = (omega (arith, h.0), h.1)

-- a thread above the last
pub rises_push : (low : ℕ) (threads : List Thread) (last : ℕ) (t : Thread) → RisesTo low threads last → last < t.tid → RisesTo low (threads ++ t ∷ []) t.tid
rises_push low [] last t h above = (omega (arith, h), omega arith)
rises_push low (u ∷ threads) last t h above = (h.0, rises_push u.tid threads last t h.1 above)

rises_cond : (b : Bool) (low : ℕ) (t : Thread) (threads : List Thread) (last : ℕ) → low < t.tid → RisesTo t.tid threads last → RisesTo low (cond b (t ∷ threads) threads) last
rises_cond true low t threads last above h = (above, h)
rises_cond false low t threads last above h = rises_from_lower low t.tid threads last (omega (arith, above)) h

-- some of them
pub rises_filter : (test : Thread → Bool) (low : ℕ) (threads : List Thread) (last : ℕ) → RisesTo low threads last → RisesTo low (filter test threads) last
rises_filter test low [] last h = h
rises_filter test low (t ∷ threads) last h = rises_cond (test t) low t (filter test threads) last h.0 (rises_filter test t.tid threads last h.1)

-- the thread at a place is above those before it
pub above_those_before : (low : ℕ) (threads : List Thread) (last i : ℕ) (t : Thread) (f : Thread → ℕ × Bool) → ((u : Thread) → (f u).0 ≡ u.tid) → RisesTo low threads last → i < length threads → IsAboveLast (get_or threads i t).tid (map f (take i threads))
above_those_before low [] last i t f same h inside = absurd (omega arith)
above_those_before low (u ∷ threads) last zero t f same h inside = tt
above_those_before low (u ∷ []) last (suc i) t f same h inside = absurd (omega arith)
above_those_before low (u ∷ v ∷ threads) last (suc zero) t f same h inside = let above : u.tid < v.tid = h.1.0 in grind (arith, same u, above)
above_those_before low (u ∷ v ∷ threads) last (suc (suc i)) t f same h inside = above_those_before u.tid (v ∷ threads) last (suc i) t f same h.1 (omega arith)
