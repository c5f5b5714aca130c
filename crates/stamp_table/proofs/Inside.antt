-- What is kept of open activations, as an event follows.
use Rattle.std.proofs.Common.{◌≡◌, ℕ, ◌+◌, ◌-◌, ◌<◌, Bool, not, cond, ◌&&◌, ◌||◌, List, [], ◌∷◌, ◌++◌, length, map, refl, sym, ap, ◌∙◌, arith, pos}
use Rattle.std.specs.Prelude.{All}
use Rattle.std.specs.List.{count_by}
use Rattle.std.proofs.lemmas.Int.{ints}
use Rattle.std.proofs.lemmas.List.{take-append-drop}
use Rattle.std.proofs.lemmas.List.Sums.{sum_by-cons}
use Rattle.std.proofs.lemmas.List.Elements.{All-head, All-tail}
use Rattle.trace_model.specs.declared.event_kinds.Event.{Event}
use Rattle.trace_model.specs.declared.event_kinds.Event.TheVariants.{Read, Write, Fill}
use Rattle.trace_model.specs.declared.event_kinds.Touch.{Touch}
use Rattle.trace_model.specs.declared.event_kinds.Touch.TheVariants.{Untouched, ByItself, ByOther, ByKernel}
use Rattle.trace_model.specs.declared.activations.Activation.{Activation}
use Rattle.trace_model.specs.Events.{covers, words_read, steps_run}
use Rattle.trace_model.specs.Sizes.{since, before, newer, last_touch, accessed, bare}
use Rattle.trace_model.specs.Causes.{Plain, OtherThread, Kernel, is_by, counts_by, part}
use Rattle.trace_model.proofs.Causes.{is_foreign, counts_by_is}
use Rattle.trace_model.proofs.Positions.{since_more, since_none, before_more, before_all}
use Rattle.shadow_stack.specs.declared.sums.Sums.{Sums}
use Rattle.call_tracker.specs.ThreadCalls.{Counts}
use Rattle.stamp_table.specs.Past.{is_by_others, is_filled, counts_of, call_of, sums_of}
use Rattle.stamp_table.proofs.Frames.{same_sums, with_gains}

pub map_same : {A B : Type 0} (P : A → Type 0) (f g : A → B) → ((x : A) → P x → f x ≡ g x) → (xs : List A) → All P xs → map f xs ≡ map g xs
map_same P f g same [] all = refl
map_same P f g same (x ∷ xs) all =
    let here = same x (All-head P x xs all) in
    let rest = map_same P f g same xs (All-tail P x xs all) in
    λ i. here i ∷ rest i

-- the events since an activation began, and those before with the one that began it, are the past
pub inside_before : (past : List Event) (at : ℕ) → since past at ++ before past (at + 1) ≡ past
inside_before past at = take-append-drop (length past - (at + 1)) past

pub same_counts : (c d : Counts) → c.steps ≡ d.steps → c.thread ≡ d.thread → c.kernel ≡ d.kernel → c ≡ d
same_counts c d s t k = λ i. record { steps = s i; thread = t i; kernel = k i }

-- an event of the thread that is no step and no read changes no count
pub counts_idle : (e : Event) (past : List Event) (t : ℕ) → words_read e t ≡ [] → steps_run e t ≡ 0 → counts_of (e ∷ past) t ≡ counts_of past t
counts_idle e past t none idle =
    same_counts _ _ (omega (arith, idle)) (omega (arith, ap (λ words. count_by (λ l. is_by OtherThread (last_touch past t l)) words) none))
    (omega (arith, ap (λ words. count_by (λ l. is_by Kernel (last_touch past t l)) words) none))

abbrev pub IsBegun : List Event → Activation → Type 0
IsBegun past a = a.at < length past

call_more : (e : Event) (past : List Event) (t : ℕ) (a : Activation) → IsBegun past a → call_of (e ∷ past) t a ≡ call_of past t a
call_more e past t a h = ap (λ es. record { entry = a.entry; back = a.back; earlier = counts_of es t }) (before_more e past (a.at + 1) (omega (arith, h)))

pub calls_more : (e : Event) (past : List Event) (t : ℕ) (calls : List Activation) → All (IsBegun past) calls → map (call_of (e ∷ past) t) calls ≡ map (call_of past t) calls
calls_more e past t calls begun = map_same (IsBegun past) (call_of (e ∷ past) t) (call_of past t) (λ a h. call_more e past t a h) calls begun

-- what a read of a word adds to the sums of an activation
abbrev pub gained : List Event → ℕ → Activation → ℕ → Sums
gained past t a l = record {
  plain = pos (cond (counts_by Plain (since past a.at) (before past (a.at + 1)) t l) 1 0);
  bare = pos (cond (not (accessed (since past a.at) t l)) 1 0);
}

pub gains : (p q : ℕ → Bool) (words : List ℕ) (n m : ℕ) →
    with_gains (λ l. record { plain = pos (cond (p l) 1 0); bare = pos (cond (q l) 1 0) }) words (record { plain = pos n; bare = pos m })
    ≡ record { plain = pos (n + count_by p words); bare = pos (m + count_by q words) }
gains p q [] n m = same_sums _ _ (omega (arith, ints)) (omega (arith, ints))
gains p q (l ∷ words) n m =
    gains p q words (n + cond (p l) 1 0) (m + cond (q l) 1 0)
    ∙ same_sums _ _ (omega (arith, ints, sum_by-cons (λ l. cond (p l) 1 0) l words)) (omega (arith, ints, sum_by-cons (λ l. cond (q l) 1 0) l words))

sum_more : (e : Event) (past : List Event) (t : ℕ) (a : Activation) → IsBegun past a →
    sums_of (e ∷ past) t a ≡ with_gains (gained past t a) (words_read e t) (sums_of past t a)
sum_more e past t a h =
    let inside = since_more e past a.at h in
    let outside = before_more e past (a.at + 1) (omega (arith, h)) in
    (λ i. record { plain = pos (part Plain (inside i) (outside i) t); bare = pos (bare (inside i) t) })
    ∙ sym (gains (λ l. counts_by Plain (since past a.at) (before past (a.at + 1)) t l) (λ l. not (accessed (since past a.at) t l)) (words_read e t)
    (part Plain (since past a.at) (before past (a.at + 1)) t) (bare (since past a.at) t))

pub sums_more : (e : Event) (past : List Event) (t : ℕ) (words : List ℕ) → words_read e t ≡ words → (calls : List Activation) → All (IsBegun past) calls →
    map (sums_of (e ∷ past) t) calls ≡ map (λ a. with_gains (gained past t a) words (sums_of past t a)) calls
sums_more e past t words read calls begun =
    map_same (IsBegun past) (sums_of (e ∷ past) t) (λ a. with_gains (gained past t a) words (sums_of past t a))
    (λ a h. sum_more e past t a h ∙ ap (λ ws. with_gains (gained past t a) ws (sums_of past t a)) read) calls begun

-- an activation that begins has counted nothing
pub call_now : (e : Event) (past : List Event) (t : ℕ) (a : Activation) → a.at ≡ length past →
    call_of (e ∷ past) t a ≡ record { entry = a.entry; back = a.back; earlier = counts_of (e ∷ past) t }
call_now e past t a here = ap (λ es. record { entry = a.entry; back = a.back; earlier = counts_of es t }) (before_all (e ∷ past) (a.at + 1) (omega (arith, here)))

pub sums_now : (e : Event) (past : List Event) (t : ℕ) (a : Activation) → a.at ≡ length past → sums_of (e ∷ past) t a ≡ record { plain = pos 0; bare = pos 0 }
sums_now e past t a here =
    let none = since_none (e ∷ past) a.at (omega (arith, here)) in
    λ i. record { plain = pos (part Plain (none i) (before (e ∷ past) (a.at + 1)) t); bare = pos (bare (none i) t) }

-- ---- causes by the last writer
plain_by : (within : Bool) (last : Touch) → (not (within && not (is_foreign last)) && is_by Plain last) ≡ (not within && not (is_by_others last))
plain_by within last = grind arith

-- a read counts as plain where it is the first access inside, and no one else wrote the word last
pub plain_is : (past : List Event) (t at l : ℕ) →
    counts_by Plain (since past at) (before past (at + 1)) t l ≡ (not (accessed (since past at) t l) && not (is_by_others (last_touch past t l)))
plain_is past t at l =
    counts_by_is Plain (since past at) (before past (at + 1)) t l
    ∙ plain_by (accessed (since past at) t l) (last_touch (since past at ++ before past (at + 1)) t l)
    ∙ ap (λ es. not (accessed (since past at) t l) && not (is_by_others (last_touch es t l))) (inside_before past at)

-- what another wrote last, the last of all writers wrote
by_write : (c b : Bool) (earlier : Touch) (filled : Bool) → is_by Kernel earlier ≡ (is_by_others earlier && filled) →
    is_by Kernel (newer (cond c (cond b ByItself ByOther) Untouched) earlier)
    ≡ (is_by_others (newer (cond c (cond b ByItself ByOther) Untouched) earlier) && (not c && filled))
by_write c b earlier filled h = grind (arith, h)

by_fill : (c : Bool) (earlier : Touch) (filled : Bool) → is_by Kernel earlier ≡ (is_by_others earlier && filled) →
    is_by Kernel (newer (cond c ByKernel Untouched) earlier) ≡ (is_by_others (newer (cond c ByKernel Untouched) earlier) && (c || filled))
by_fill c earlier filled h = grind (arith, h)

by_read : (c : Bool) (earlier : Touch) (filled : Bool) → is_by Kernel earlier ≡ (is_by_others earlier && filled) →
    is_by Kernel (newer (cond c ByItself Untouched) earlier) ≡ (is_by_others (newer (cond c ByItself Untouched) earlier) && filled)
by_read c earlier filled h = grind (arith, h)

pub kernel_is : (past : List Event) (t l : ℕ) → is_by Kernel (last_touch past t l) ≡ (is_by_others (last_touch past t l) && is_filled past l)
kernel_is [] t l = refl
kernel_is (Read a first count ∷ past) t l = by_read _ (last_touch past t l) (is_filled past l) (kernel_is past t l)
kernel_is (Write a first count ∷ past) t l = by_write (covers first count l) _ (last_touch past t l) (is_filled past l) (kernel_is past t l)
kernel_is (Fill first count ∷ past) t l = by_fill (covers first count l) (last_touch past t l) (is_filled past l) (kernel_is past t l)
kernel_is (e ∷ past) t l = kernel_is past t l

not_kernel : (w : Touch) (filled : Bool) → is_by Kernel w ≡ (is_by_others w && filled) → is_by OtherThread w ≡ (is_by_others w && not filled)
not_kernel w filled h = grind (arith, h)

pub other_is : (past : List Event) (t l : ℕ) → is_by OtherThread (last_touch past t l) ≡ (is_by_others (last_touch past t l) && not (is_filled past l))
other_is past t l = not_kernel (last_touch past t l) (is_filled past l) (kernel_is past t l)
