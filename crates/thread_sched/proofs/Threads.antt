-- One more thread of a list.
use Rattle.std.proofs.Common.{◌≡◌, ℕ, zero, suc, ◌+◌, ◌<◌, min, Bool, true, false, cond, ◌&&◌, ◌||◌, eqb, ltb, List, [], ◌∷◌, ◌++◌, length, get_or, take, drop, map, Option, Some, None, refl, sym, ap, ◌∙◌, subst, arith}
use Rattle.std.specs.Prelude.{filter, nat_lt, slice_get}
use Rattle.std.specs.List.{list_any}
use Rattle.std.proofs.lemmas.Bool.{ltb-true}
use Rattle.std.proofs.Math.Bool.{or-false}
use Rattle.std.proofs.lemmas.List.{append-nil, drop-drop, drop_more, length-drop, map-append, take-append-drop}
use Rattle.std.proofs.lemmas.List.Elements.{filter-append}
use Rattle.std.proofs.lemmas.List.Folds.{list_any-append}
use Rattle.thread_sched.specs.declared.entry.Entry.{Entry}
use Rattle.thread_sched.specs.declared.turns.Turn.TheVariants.{Run, Mismatch}
use Rattle.thread_sched.specs.TurnRule.{SchedulerState, able, above, least, lesser, next_line, scheduled}
use Rattle.guest_words.proofs.Found.{nothing, same}

-- the element at a place, behind those before it and before those behind it
pub take_got : {A : Type 0} (xs : List A) (i : ℕ) (x : A) → slice_get xs i ≡ Some x → take (suc i) xs ≡ take i xs ++ x ∷ []
take_got [] i x h = absurd (nothing None x refl h)
take_got (y ∷ ys) zero x h = ap (λ z. z ∷ []) (same (Some y) y x refl h)
take_got (y ∷ ys) (suc i) x h = ap (λ zs. y ∷ zs) (take_got ys i x h)

abbrev if_able : ℕ × Bool → List ℕ
if_able t = cond t.1 (t.0 ∷ []) []

-- those that can run, with one more thread
able_more : (live : List (ℕ × Bool)) (i : ℕ) (t : ℕ × Bool) → slice_get live i ≡ Some t → able (take (i + 1) live) ≡ able (take i live) ++ if_able t
able_more live i t h =
    let next : i + 1 ≡ suc i = omega arith in
    let first = λ (s : ℕ × Bool). s.0 in
    let can = λ (s : ℕ × Bool). s.1 in
    ap (λ n. able (take n live)) next ∙ ap able (take_got live i t h) ∙ ap (map first) (filter-append can (take i live) (t ∷ []))
    ∙ map-append first (filter can (take i live)) (filter can (t ∷ [])) ∙ ap (λ ts. able (take i live) ++ ts) (by t.1)
  where
    by : (b : Bool) → map (λ (s : ℕ × Bool). s.0) (cond b (t ∷ []) []) ≡ cond b (t.0 ∷ []) []
    by true = refl
    by false = refl

least_push : (tids : List ℕ) (t : ℕ) → least (tids ++ t ∷ []) ≡ Some (lesser t (least tids))
least_push [] t = refl
least_push (x ∷ tids) t = ap (λ o. Some (lesser x o)) (least_push tids t) ∙ by (least tids)
  where
    by : (o : Option ℕ) → Some (min x (lesser t o)) ≡ Some (min t (lesser x o))
    by None = ap Some (omega arith)
    by (Some y) = ap Some (omega arith)

least_if : (tids : List ℕ) (t : ℕ) (b : Bool) → least (tids ++ cond b (t ∷ []) []) ≡ cond b (Some (lesser t (least tids))) (least tids)
least_if tids t true = least_push tids t
least_if tids t false = ap least (append-nil tids)

-- the least that can run, with one more thread
pub least_able_more : (live : List (ℕ × Bool)) (i : ℕ) (t : ℕ × Bool) (best result : Option ℕ) → slice_get live i ≡ Some t → best ≡ least (able (take i live))
    → result ≡ cond t.1 (Some (lesser t.0 best)) best → result ≡ least (able (take (i + 1) live))
least_able_more live i t best result h so_far is =
    is ∙ ap (λ b. cond t.1 (Some (lesser t.0 b)) b) so_far ∙ sym (ap least (able_more live i t h) ∙ least_if (able (take i live)) t.0 t.1)

above_if : (last : ℕ) (t : ℕ) (b : Bool) → above last (cond b (t ∷ []) []) ≡ cond (b && nat_lt last t) (t ∷ []) []
above_if last t true = refl
above_if last t false = refl

-- the least above the last one that can run, with one more thread
pub least_above_more : (last : ℕ) (live : List (ℕ × Bool)) (i : ℕ) (t : ℕ × Bool) (best result : Option ℕ) → slice_get live i ≡ Some t → best ≡ least (above last (able (take i live)))
    → result ≡ cond (t.1 && nat_lt last t.0) (Some (lesser t.0 best)) best → result ≡ least (above last (able (take (i + 1) live)))
least_above_more last live i t best result h so_far is =
    is ∙ ap (λ b. cond (t.1 && nat_lt last t.0) (Some (lesser t.0 b)) b) so_far
    ∙ sym (ap (λ ts. least (above last ts)) (able_more live i t h) ∙ ap least (filter-append (λ n. nat_lt last n) (able (take i live)) (if_able t))
    ∙ ap (λ ts. least (above last (able (take i live)) ++ ts)) (above_if last t.0 t.1) ∙ least_if (above last (able (take i live))) t.0 (t.1 && nat_lt last t.0))

any_if : (tid t : ℕ) (b : Bool) → list_any (λ other. eqb other tid) (cond b (t ∷ []) []) ≡ (b && eqb t tid)
any_if tid t true = or-false (eqb t tid)
any_if tid t false = refl

-- whether a thread can run, with one more thread
pub is_able_more : (tid : ℕ) (live : List (ℕ × Bool)) (i : ℕ) (t : ℕ × Bool) (found result : Bool) → slice_get live i ≡ Some t → found ≡ list_any (λ other. eqb other tid) (able (take i live))
    → result ≡ (found || (t.1 && eqb t.0 tid)) → result ≡ list_any (λ other. eqb other tid) (able (take (i + 1) live))
is_able_more tid live i t found result h so_far is =
    is ∙ ap (λ b. b || (t.1 && eqb t.0 tid)) so_far
    ∙ sym (ap (list_any (λ other. eqb other tid)) (able_more live i t h) ∙ list_any-append (λ other. eqb other tid) (able (take i live)) (if_able t) ∙ ap (λ b. list_any (λ other. eqb other tid) (able (take i live)) || b) (any_if tid t.0 t.1))

-- a thread that can run among the first ones is one of all
pub is_able_of_first : (tid : ℕ) (live : List (ℕ × Bool)) (n : ℕ) → true ≡ list_any (λ other. eqb other tid) (able (take n live)) → true ≡ list_any (λ other. eqb other tid) (able live)
is_able_of_first tid live n found =
    let first = λ (s : ℕ × Bool). s.0 in
    let can = λ (s : ℕ × Bool). s.1 in
    let is = λ (other : ℕ). eqb other tid in
    sym (
    ap (λ threads. list_any is (able threads)) (sym (take-append-drop n live))
    ∙ ap (λ threads. list_any is (map first threads)) (filter-append can (take n live) (drop n live))
    ∙ ap (list_any is) (map-append first (filter can (take n live)) (filter can (drop n live)))
    ∙ list_any-append is (able (take n live)) (able (drop n live))
    ∙ ap (λ b. b || list_any is (able (drop n live))) (sym found)
    )

line_more : (line : ℕ) (es : List Entry) → 0 < length es → next_line line es ≡ line + 1
line_more line [] some = absurd (omega arith)
line_more line (e ∷ es) some = refl

-- the next entry, behind those that are used
pub entry_next : (items read : List Entry) (used : ℕ) (e : Entry) → read ≡ items → true ≡ ltb used (length read) → e ≡ get_or read used e → drop used items ≡ e ∷ drop (used + 1) items
entry_next items read used e is inside here =
    let within : used < length items = subst (λ es. used < length es) is (ltb-true used (length read) (sym inside)) in
    drop_more items used e within ∙ ap (λ x. x ∷ drop (used + 1) items) (ap (λ es. get_or es used e) (sym is) ∙ sym here)

-- the turn by the next entry
pub by_entry : (k : SchedulerState) (tids : List ℕ) (next : ℕ) (e : Entry) (es : List Entry) (can : Bool) → k.entries ≡ e ∷ es → can ≡ list_any (λ tid. eqb tid e.tid) tids
    → cond can (Run e.tid e.most) (Mismatch k.line) ≡ scheduled k tids next k.entries
by_entry k tids next e es can is any = sym (ap (scheduled k tids next) is ∙ ap (λ b. cond b (Run e.tid e.most) (Mismatch k.line)) (sym any))

abbrev known : ℕ → ℕ → ℕ → List Entry → SchedulerState
known quantum last line entries = record { quantum = quantum; last = last; line = line; entries = entries }

-- what is known behind a turn by an entry
pub entry_used : (k : SchedulerState) (quantum last used tid n : ℕ) (items : List Entry) → known quantum last (used + 1) (drop used items) ≡ k → n ≡ tid → used < length items
    → known quantum n (used + 1 + 1) (drop (used + 1) items) ≡ known k.quantum tid (next_line k.line k.entries) (drop 1 k.entries)
entry_used k quantum last used tid n items is same_tid inside =
    subst (λ (j : SchedulerState). known quantum n (used + 1 + 1) (drop (used + 1) items) ≡ known j.quantum tid (next_line j.line j.entries) (drop 1 j.entries)) is
    (ap (λ m. known quantum m (used + 1 + 1) (drop (used + 1) items)) same_tid
    ∙ ap (λ l. known quantum tid l (drop (used + 1) items)) (sym (line_more (used + 1) (drop used items) (omega (arith, length-drop used items))))
    ∙ ap (λ es. known quantum tid (next_line (used + 1) (drop used items)) es) (sym (drop-drop 1 used items)))
