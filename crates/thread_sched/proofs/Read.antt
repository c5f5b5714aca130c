-- What holds behind the lines that a reading has taken.
use Rattle.std.proofs.Common.{◌≡◌, ℕ, suc, ◌+◌, true, List, [], ◌∷◌, ◌++◌, length, codes, not, eqb, inl, inr, refl, sym, ap, ap₂, ◌∙◌, subst, arith}
use Rattle.std.specs.Fmt.{decimal}
use Rattle.std.specs.List.{AllByRecursion}
use Rattle.std.proofs.lemmas.Bool.{and_from}
use Rattle.std.proofs.lemmas.Fmt.{decimal_injective, decimal_nonempty}
use Rattle.std.proofs.lemmas.List.{append_assoc, append-nil, length-append, nil_from_length}
use Rattle.std.proofs.lemmas.List.Concat.{flat_map-append}
use Rattle.std.proofs.lemmas.List.Folds.{list_all-append}
use Rattle.thread_sched.specs.declared.entry.Entry.{Entry}
use Rattle.thread_sched.specs.declared.schedule.ScheduleError.{ScheduleError}
use Rattle.thread_sched.specs.declared.schedule.ScheduleError.TheVariants.{BadLine, Memory}
use Rattle.thread_sched.specs.ScheduleText.{HasEntry, IsBadLine, IsEntry, IsLineBefore, IsNoEntry, IsText, entry_text, schedule_text}
use Rattle.thread_sched.specs.Private.Lines.{RefusesLine, Says}
use Rattle.guest_words.specs.Separators.{lacks}
use Rattle.guest_words.proofs.Cuts.{cut_once, lacks_decimal, lacks_not}

-- Entries are read, and any entries whose text this is begin with them.
pub record Behind (text : List ℕ) (entries : List Entry) (rest : List ℕ) : Type 0 where
  pub fit : AllByRecursion IsEntry entries
  pub whole : text ≡ schedule_text entries ++ rest
  pub follow : (all : List Entry) → AllByRecursion IsEntry all → IsText text all → (more : List Entry) × (all ≡ entries ++ more) × IsText rest more

-- a line has a byte, and none that ends it
entry_some : (e : Entry) → IsEntry e → entry_text e ≡ [] → ⊥
entry_some e fits is = absurd (omega (arith, ap length is, length-append (decimal e.tid ++ codes " ") (decimal e.most), length-append (decimal e.tid) (codes " "), decimal_nonempty e.most (omega (arith, fits.most))))

entry_lacks : (e : Entry) → IsEntry e → lacks 10 (entry_text e) ≡ true
entry_lacks e fits =
    let tid = lacks_decimal 10 e.tid (λ r. omega arith) (omega (arith, fits.last)) in
    let most = lacks_decimal 10 e.most (λ r. omega arith) (omega (arith, fits.most)) in
    list_all-append (λ b. not (eqb b 10)) (decimal e.tid ++ codes " ") (decimal e.most) ∙ and_from _ _ (list_all-append (λ b. not (eqb b 10)) (decimal e.tid) (codes " ") ∙ and_from _ _ tid refl) most

fit_later : (xs ys : List Entry) → AllByRecursion IsEntry (xs ++ ys) → AllByRecursion IsEntry ys
fit_later [] ys h = h
fit_later (x ∷ xs) ys h = fit_later xs ys h.1

fit_push : (xs : List Entry) (y : Entry) → AllByRecursion IsEntry xs → IsEntry y → AllByRecursion IsEntry (xs ++ y ∷ [])
fit_push [] y h fits = (fits, tt)
fit_push (x ∷ xs) y h fits = (h.0, fit_push xs y h.1 fits)

text_first : (e : Entry) (es : List Entry) → schedule_text (e ∷ es) ≡ entry_text e ++ 10 ∷ schedule_text es
text_first e es = append_assoc (entry_text e) (10 ∷ []) (schedule_text es)

push_text : (es : List Entry) (e : Entry) (after : List ℕ) → schedule_text es ++ (entry_text e ++ 10 ∷ after) ≡ schedule_text (es ++ e ∷ []) ++ after
push_text es e after =
    let text = λ (k : Entry). entry_text k ++ 10 ∷ [] in
    sym (ap (λ t. t ++ after) (flat_map-append text es (e ∷ [])) ∙ regroup (schedule_text es) (entry_text e) after)
  where
    regroup : (a b c : List ℕ) → a ++ (b ++ 10 ∷ [] ++ []) ++ c ≡ a ++ (b ++ 10 ∷ c)
    regroup a b c = simp (append_assoc, append-nil)

-- the text begins with a whole line
next_entry : (more : List Entry) (bytes after : List ℕ) → AllByRecursion IsEntry more → lacks 10 bytes ≡ true → schedule_text more ≡ bytes ++ 10 ∷ after
    → (e : Entry) × (es : List Entry) × (more ≡ e ∷ es) × IsEntry e × (bytes ≡ entry_text e) × (after ≡ schedule_text es)
next_entry [] bytes after fit lack is = absurd (omega (arith, ap length is, length-append bytes (10 ∷ after)))
next_entry (e ∷ es) bytes after fit lack is =
    let cut = cut_once 10 bytes (entry_text e) after (schedule_text es) lack (entry_lacks e fit.0) (sym is ∙ text_first e es) in
    (e, es, refl, fit.0, cut.0, cut.1)

no_entry : (more : List Entry) → [] ≡ schedule_text more → more ≡ []
no_entry [] h = refl
no_entry (e ∷ es) h = absurd (omega (arith, ap length (h ∙ text_first e es), length-append (entry_text e) (10 ∷ schedule_text es)))

-- a text that begins with a whole line begins with an entry
pub line_entry : (rest bytes after : List ℕ) (more : List Entry) → AllByRecursion IsEntry more → lacks 10 bytes ≡ true → rest ≡ bytes ++ 10 ∷ after → IsText rest more
    → (e : Entry) × (es : List Entry) × (more ≡ e ∷ es) × IsEntry e × (bytes ≡ entry_text e) × IsText after es
line_entry rest bytes after more fit lack is (inl text) =
    let found = next_entry more bytes after fit lack (sym text ∙ is) in
    (found.0, found.1, found.2, found.3, found.4, inl found.5)
line_entry rest bytes after more fit lack is (inr text) =
    let found = next_entry more bytes (after ++ 10 ∷ []) fit lack (sym text ∙ ap (λ t. t ++ 10 ∷ []) is ∙ append_assoc bytes (10 ∷ after) (10 ∷ [])) in
    (found.0, found.1, found.2, found.3, found.4, inr found.5)

-- a text that is one line without the byte that ends it is one entry's
pub last_entry : (rest : List ℕ) (more : List Entry) → AllByRecursion IsEntry more → lacks 10 rest ≡ true → (rest ≡ [] → ⊥) → IsText rest more → (e : Entry) × (more ≡ e ∷ []) × IsEntry e × (rest ≡ entry_text e)
last_entry rest [] fit lack some (inl text) = absurd (some text)
last_entry rest (e ∷ es) fit lack some (inl text) = absurd (lacks_not 10 (entry_text e) (schedule_text es) (subst (λ t. lacks 10 t ≡ true) (text ∙ text_first e es) lack))
last_entry rest more fit lack some (inr text) =
    let found = next_entry more rest [] fit lack (sym text) in
    (found.0, found.2 ∙ ap (λ es. found.0 ∷ es) (no_entry found.1 found.5), found.3, found.4)

-- an empty text has no entry
pub none_left : (rest : List ℕ) (more : List Entry) → AllByRecursion IsEntry more → rest ≡ [] → IsText rest more → more ≡ []
none_left rest more fit none (inl text) = no_entry more (sym none ∙ text)
none_left rest more fit none (inr text) =
    let found = next_entry more [] [] fit refl (sym text ∙ ap (λ t. t ++ 10 ∷ []) none) in
    absurd (entry_some found.0 found.3 (sym found.4))

-- An entry's line is refused only when out of memory.
pub allowed : (number : ℕ) (bytes : List ℕ) (error : ScheduleError) (e : Entry) → IsEntry e → bytes ≡ entry_text e → RefusesLine number bytes error → error ≡ Memory
allowed number bytes (BadLine n) e fits text why = absurd (why.1 e fits text)
allowed number bytes Memory e fits text why = refl

-- the entries that are left
pub left_fit : (text : List ℕ) (entries : List Entry) (rest : List ℕ) (b : Behind text entries rest) (all : List Entry) (fit : AllByRecursion IsEntry all) (is : IsText text all) → AllByRecursion IsEntry (b.follow all fit is).0
left_fit text entries rest b all fit is = fit_later entries (b.follow all fit is).0 (subst (AllByRecursion IsEntry) (b.follow all fit is).1 fit)

-- one more line is read
pub behind_more : (text : List ℕ) (entries : List Entry) (rest bytes after : List ℕ) (e : Entry) (new : List Entry) → Behind text entries rest → lacks 10 bytes ≡ true → rest ≡ bytes ++ 10 ∷ after → Says bytes e → new ≡ entries ++ e ∷ [] → Behind text new after
behind_more text entries rest bytes after e new b lack is says grown = subst (λ es. Behind text es after) (sym grown) (record {
  fit = fit_push entries e b.fit says.fits;
  whole = b.whole ∙ ap (λ r. schedule_text entries ++ r) (is ∙ ap (λ t. t ++ 10 ∷ after) says.text) ∙ push_text entries e after;
  follow = λ all fit whole.
      let m = b.follow all fit whole in
      let o = line_entry rest bytes after m.0 (left_fit text entries rest b all fit whole) lack is m.2 in
      let one : o.0 ≡ e = says.alone o.0 o.3 o.4 in
      (o.1, m.1 ∙ ap (λ es. entries ++ es) (o.2 ∙ ap (λ k. k ∷ o.1) one) ∙ sym (append_assoc entries (e ∷ []) o.1), o.5);
})

-- an entry by its text
entry_same : (e o : Entry) → IsEntry e → IsEntry o → entry_text e ≡ entry_text o → o ≡ e
entry_same e o he ho is =
    let words = cut_once 32 (decimal e.tid) (decimal o.tid) (decimal e.most) (decimal o.most)
    (lacks_decimal 32 e.tid (λ r. omega arith) (omega (arith, he.last))) (lacks_decimal 32 o.tid (λ r. omega arith) (omega (arith, ho.last)))
    (sym (append_assoc (decimal e.tid) (codes " ") (decimal e.most)) ∙ is ∙ append_assoc (decimal o.tid) (codes " ") (decimal o.most)) in
    let tid : o.tid ≡ e.tid = decimal_injective o.tid e.tid (omega (arith, ho.last)) (omega (arith, he.last)) (sym words.0) in
    let most : o.most ≡ e.most = decimal_injective o.most e.most (omega (arith, ho.most)) (omega (arith, he.most)) (sym words.1) in
    ap₂ (λ t m. record { tid = t; most = m }) tid most

-- the text of entries is that of no others
pub read_back : (es other : List Entry) → AllByRecursion IsEntry es → AllByRecursion IsEntry other → IsText (schedule_text es) other → other ≡ es
read_back [] other fit fits is = none_left [] other fits refl is
read_back (e ∷ es) other fit fits is =
    let found = line_entry (schedule_text (e ∷ es)) (entry_text e) (schedule_text es) other fits (entry_lacks e fit.0) (text_first e es) is in
    let rest : found.1 ≡ es = read_back es found.1 fit.1 (subst (AllByRecursion IsEntry) found.2 fits).1 found.5 in
    found.2 ∙ ap₂ (λ k ks. k ∷ ks) (entry_same e found.0 fit.0 found.3 found.4) rest

-- a text is that of one list of entries
pub read_once : (text : List ℕ) (es other : List Entry) → AllByRecursion IsEntry es → AllByRecursion IsEntry other → IsText text es → IsText text other → other ≡ es
read_once text es other fit fits (inl is) also = read_back es other fit fits (subst (λ t. IsText t other) is also)
read_once text es other fit fits (inr is) (inl also) = sym (read_back other es fits fit (inr (ap (λ t. t ++ 10 ∷ []) (sym also) ∙ is)))
read_once text es other fit fits (inr is) (inr also) = read_back es other fit fits (inl (sym is ∙ also))

-- a line that is no entry's does not begin a text that begins with an entry
no_such_line : (bytes rest after : List ℕ) (e : Entry) → IsEntry e → IsLineBefore bytes rest → IsNoEntry bytes → bytes ++ rest ≡ entry_text e ++ 10 ∷ after → ⊥
no_such_line bytes rest after e fits (lack, inl last) none is =
    lacks_not 10 (entry_text e) after (subst (λ t. lacks 10 t ≡ true) (sym (append-nil bytes) ∙ ap (λ r. bytes ++ r) (sym last.1) ∙ is) lack)
no_such_line bytes rest after e fits (lack, inr (more, ended)) none is =
    none e fits (cut_once 10 bytes (entry_text e) more after lack (entry_lacks e fits) (ap (λ r. bytes ++ r) (sym ended) ∙ is)).0

-- a whole line in front
first_line : (e : Entry) (es : List Entry) (tail : List ℕ) → schedule_text (e ∷ es) ++ tail ≡ entry_text e ++ 10 ∷ (schedule_text es ++ tail)
first_line e es tail = ap (λ t. t ++ tail) (text_first e es) ∙ append_assoc (entry_text e) (10 ∷ schedule_text es) tail

-- no two lines are the first that is no entry's
same_bad_line : (es other : List Entry) (bytes rest bytes' rest' : List ℕ) → AllByRecursion IsEntry es → AllByRecursion IsEntry other
    → IsLineBefore bytes rest → IsNoEntry bytes → IsLineBefore bytes' rest' → IsNoEntry bytes'
    → schedule_text es ++ (bytes ++ rest) ≡ schedule_text other ++ (bytes' ++ rest') → length es ≡ length other
same_bad_line [] [] bytes rest bytes' rest' fit fits line none line' none' is = refl
same_bad_line [] (o ∷ other) bytes rest bytes' rest' fit fits line none line' none' is =
    absurd (no_such_line bytes rest (schedule_text other ++ (bytes' ++ rest')) o fits.0 line none (is ∙ first_line o other (bytes' ++ rest')))
same_bad_line (e ∷ es) [] bytes rest bytes' rest' fit fits line none line' none' is =
    absurd (no_such_line bytes' rest' (schedule_text es ++ (bytes ++ rest)) e fit.0 line' none' (sym is ∙ first_line e es (bytes ++ rest)))
same_bad_line (e ∷ es) (o ∷ other) bytes rest bytes' rest' fit fits line none line' none' is =
    let cut = cut_once 10 (entry_text e) (entry_text o) (schedule_text es ++ (bytes ++ rest)) (schedule_text other ++ (bytes' ++ rest'))
    (entry_lacks e fit.0) (entry_lacks o fits.0) (sym (first_line e es (bytes ++ rest)) ∙ is ∙ first_line o other (bytes' ++ rest')) in
    ap suc (same_bad_line es other bytes rest bytes' rest' fit.1 fits.1 line none line' none' cut.1)

pub one_bad_line : (text : List ℕ) (m n : ℕ) → IsBadLine text m → IsBadLine text n → n ≡ m
one_bad_line text m n a b =
    b.counted ∙ ap (λ k. k + 1) (same_bad_line b.entries a.entries b.bytes b.rest a.bytes a.rest b.before a.before b.line b.bad a.line a.bad (sym b.whole ∙ a.whole)) ∙ sym a.counted

-- a text with such a line is that of no entries
never_read : (es more : List Entry) (bytes rest : List ℕ) → AllByRecursion IsEntry es → AllByRecursion IsEntry more → IsLineBefore bytes rest → IsNoEntry bytes
    → IsText (schedule_text es ++ (bytes ++ rest)) more → ⊥
never_read [] more bytes rest fit fits (lack, inl last) none is =
    let found = last_entry bytes more fits lack last.0 (subst (λ t. IsText t more) (ap (λ r. bytes ++ r) last.1 ∙ append-nil bytes) is) in
    none found.0 found.2 found.3
never_read [] more bytes rest fit fits (lack, inr (after, ended)) none is =
    let found = line_entry (bytes ++ rest) bytes after more fits lack (ap (λ r. bytes ++ r) ended) is in
    none found.0 found.3 found.4
never_read (e ∷ es) more bytes rest fit fits line none is =
    let found = line_entry (schedule_text (e ∷ es) ++ (bytes ++ rest)) (entry_text e) (schedule_text es ++ (bytes ++ rest)) more fits (entry_lacks e fit.0) (first_line e es (bytes ++ rest)) is in
    never_read es found.1 bytes rest fit.1 (subst (AllByRecursion IsEntry) found.2 fits).1 line none found.5

pub never_both : (text : List ℕ) (es : List Entry) (n : ℕ) → AllByRecursion IsEntry es → IsText text es → IsBadLine text n → ⊥
never_both text es n fit is b = never_read b.entries es b.bytes b.rest b.before fit b.line b.bad (subst (λ t. IsText t es) b.whole is)

-- a line that is no entry's does not stand where an entry's stands
other_line : (bytes rest tail : List ℕ) (e : Entry) → IsEntry e → IsLineBefore bytes rest → IsNoEntry bytes → IsLineBefore (entry_text e) tail → bytes ++ rest ≡ entry_text e ++ tail → ⊥
other_line bytes rest tail e fits line none (lack, inr (more, ended)) is = no_such_line bytes rest more e fits line none (is ∙ ap (λ t. entry_text e ++ t) ended)
other_line bytes rest tail e fits (lack, inl last) none (lacks_too, inl end) is =
    none e fits (sym (append-nil bytes) ∙ ap (λ t. bytes ++ t) (sym last.1) ∙ is ∙ ap (λ t. entry_text e ++ t) end.1 ∙ append-nil (entry_text e))
other_line bytes rest tail e fits (lack, inr (more, ended)) none (lacks_too, inl end) is =
    let whole = sym (append-nil (entry_text e)) ∙ ap (λ t. entry_text e ++ t) (sym end.1) ∙ sym is ∙ ap (λ t. bytes ++ t) ended in
    lacks_not 10 bytes more (subst (λ t. lacks 10 t ≡ true) whole (entry_lacks e fits))

bad_first : (es : List Entry) (bytes rest tail : List ℕ) (e : Entry) → AllByRecursion IsEntry es → IsEntry e → IsLineBefore bytes rest → IsNoEntry bytes → IsLineBefore (entry_text e) tail
    → bytes ++ rest ≡ schedule_text es ++ (entry_text e ++ tail) → ⊥
bad_first [] bytes rest tail e fit fits line none ends is = other_line bytes rest tail e fits line none ends is
bad_first (x ∷ es) bytes rest tail e fit fits line none ends is =
    no_such_line bytes rest (schedule_text es ++ (entry_text e ++ tail)) x fit.0 line none (is ∙ first_line x es (entry_text e ++ tail))

-- a text whose first line is no entry's has no entry
pub no_memory : (text : List ℕ) → IsBadLine text 1 → HasEntry text → ⊥
no_memory text b h =
    let none : b.entries ≡ [] = nil_from_length b.entries (omega (arith, b.counted)) in
    bad_first h.entries b.bytes b.rest h.rest h.entry h.before h.fits b.line b.bad h.line (ap (λ es. schedule_text es ++ (b.bytes ++ b.rest)) (sym none) ∙ sym b.whole ∙ h.whole)
