-- One byte more.
use Rattle.std.proofs.Common.{inl, inr, ◌⊎◌, ◌≡◌, ◌≢◌, ℕ, ◌+◌, ◌<◌, ◌≤◌, ◌++◌, ◌∷◌, [], List, Option, Some, None, length, take, drop, get_or, refl, sym, subst, ap, ap₂, ◌∙◌, arith, append_assoc, append-nil, length-append, add-one}
use Rattle.std.specs.List.{flat_map}
use Rattle.std.proofs.Math.ListN.{get_or-append}
use Rattle.std.proofs.Math.Seq.{get_or-append_seam, take-suc}
use Rattle.std.proofs.lemmas.Bool.{cases_lt}
use Rattle.std.proofs.lemmas.Grind.{flat_map-append}
use Rattle.std.proofs.lemmas.List.{length-drop, length-take-le, take-append-drop}
use Rattle.guest_words.specs.declared.endings.Finish.{Finish}
use Rattle.trace_model.specs.declared.event_kinds.Event.{Event}
use Rattle.trace_model.specs.Cut.{past_after}
use Rattle.trace_order.specs.Order.{IsOrderOf}
use Rattle.trace_file.specs.declared.records.Record.{Record}
use Rattle.trace_file.specs.declared.errors.TraceError.{TraceError}
use Rattle.trace_file.specs.declared.errors.TraceError.TheVariants as errors
use Rattle.trace_file.specs.Records.{Fits, record_bytes}
use Rattle.trace_file.specs.Pieces.{IsBegun, IsNone, IsRecord}
use Rattle.trace_file.specs.Reading.{GoesOn, IsAtLine, IsAtRecord, IsMisformed, IsOutOfOrder, IsReading, IsTraceRefused, Leads, ReaderState, told_by}
use Rattle.trace_file.specs.Private.Steps.{IsAdded, IsNotAdded, IsOpen, IsTaken, said}
use Rattle.trace_file.specs.TraceText.{IsTold, IsTrace, Names, Told, magic, records, text_of, told_text}
use Rattle.trace_file.proofs.Heads.{begun_empty}
use Rattle.trace_file.proofs.Bodies.{head_begun}

-- ---- a record is whole with the byte that ends it
nothing_behind : (xs ys : List ℕ) (b : ℕ) (rest : List ℕ) → xs ++ b ∷ [] ≡ ys ++ rest → ((behind : List ℕ) → xs ≢ ys ++ behind) → rest ≡ []
nothing_behind xs [] b rest same unfinished = absurd (unfinished xs refl)
nothing_behind [] (y ∷ ys) b rest same unfinished = by ys rest (ap (drop 1) same)
  where
    by : (ys rest : List ℕ) → [] ≡ ys ++ rest → rest ≡ []
    by [] rest none = sym none
    by (y ∷ ys) rest none = cc
nothing_behind (x ∷ xs) (y ∷ ys) b rest same unfinished =
    let first : x ≡ y = ap (λ zs. get_or zs 0 0) same in
    nothing_behind xs ys b rest (ap (drop 1) same) (λ behind equal. unfinished behind (ap₂ (λ a zs. a ∷ zs) first equal))

pub begun_nothing : IsBegun IsRecord []
begun_nothing = head_begun [] (begun_empty [] refl)

goes_on_nothing : (f : Option Finish) → GoesOn f []
goes_on_nothing None = begun_nothing
goes_on_nothing (Some f) = refl

pub text_more : (rs : List Record) (r : Record) → text_of (rs ++ r ∷ []) ≡ text_of rs ++ record_bytes r
text_more rs r =
    ap (λ y. magic ++ y) (flat_map-append record_bytes rs (r ∷ []) ∙ ap (λ y. flat_map record_bytes rs ++ y) (append-nil (record_bytes r)))
    ∙ sym (append_assoc magic (flat_map record_bytes rs) (record_bytes r))

pub goes_begun : (f : Option Finish) (rest : List ℕ) → f ≡ None → GoesOn f rest → IsBegun IsRecord rest
goes_begun f rest is goes = subst (λ o. GoesOn o rest) is goes

goes_on_begun : (f : Option Finish) (rest : List ℕ) → f ≡ None → IsBegun IsRecord rest → GoesOn f rest
goes_on_begun f rest is begun = subst (λ o. GoesOn o rest) (sym is) begun

-- the bytes with more
pub text_push : (text held bytes more : List ℕ) → bytes ≡ text ++ held → bytes ++ more ≡ text ++ (held ++ more)
text_push text held bytes more is = ap (λ y. y ++ more) is ∙ append_assoc text held more

pub open_of : (s : ReaderState) (bytes : List ℕ) (past : List Event) → IsAtRecord s bytes past → s.finish ≡ None → IsOpen s past
open_of s bytes past is ends = record { told = is.leads.told; order = is.order; finish = ends }

-- all of what is held is the record
pub whole_held : (s : ReaderState) (bytes : List ℕ) (past : List Event) (b : ℕ) (r : Record) (rest : List ℕ) → IsAtRecord s bytes past → s.finish ≡ None → Fits r → s.held ++ b ∷ [] ≡ record_bytes r ++ rest → s.held ++ b ∷ [] ≡ record_bytes r
whole_held s bytes past b r rest is ends fits text =
    let begun = goes_begun s.finish s.held ends is.goes_on in
    let none = nothing_behind s.held (record_bytes r) b rest text (λ behind. begun.unfinished (record_bytes r) behind (r, fits, refl)) in
    text ∙ ap (λ y. record_bytes r ++ y) none ∙ append-nil (record_bytes r)

pub taken : (s mid new : ReaderState) (bytes : List ℕ) (past : List Event) (more : List ℕ) (r : Record) (size : ℕ) → IsAtRecord s bytes past → mid ≡ record s { held = mid.held } → s.held ++ more ≡ record_bytes r →
    size ≡ length (record_bytes r) → IsTaken size mid new past r → IsAtRecord new (bytes ++ more) (past_after past (said r))
taken s mid new bytes past more r size is same text whole_size step =
    let added = step.added in
    let at_mid : records (told_by mid past) ≡ records (told_by s past) = ap (λ (m : ReaderState). records (told_by m past)) same in
    let whole : told_text (told_by new (past_after past (said r))) ≡ told_text (told_by s past) ++ record_bytes r = ap text_of (added.records ∙ ap (λ rs. rs ++ r ∷ []) at_mid) ∙ text_more (records (told_by s past)) r in
    let at : new.at ≡ s.at + size = step.at ∙ ap (λ (m : ReaderState). m.at + size) same in
    record {
      line = added.line ∙ ap (λ (m : ReaderState). m.line) same ∙ is.line;
      leads = record {
        told = added.told;
        text = text_push (told_text (told_by s past)) s.held bytes more is.leads.text ∙ ap (λ y. told_text (told_by s past) ++ y) text ∙ sym whole ∙ sym (append-nil _) ∙ ap (λ y. told_text (told_by new (past_after past (said r))) ++ y) (sym step.held);
      };
      order = added.order;
      place = at ∙ ap₂ (λ a n. a + n) is.place whole_size ∙ sym (length-append (told_text (told_by s past)) (record_bytes r)) ∙ ap length (sym whole);
      goes_on = subst (λ held. GoesOn new.finish held) (sym step.held) (goes_on_nothing new.finish);
    }

-- the next record begins behind it
pub taken_of : (old mid new : ReaderState) (past : List Event) (r : Record) (size : ℕ) → IsAdded old mid past r → new ≡ record mid { held = []; at = old.at + size } → IsTaken size old new past r
taken_of old mid new past r size added same = subst (λ n. IsTaken size old n past r) (sym same) (record {
  added = record { told = added.told; order = added.order; records = added.records; line = added.line };
  held = refl;
  at = refl;
})

-- ---- a record is begun, or refused
pub held_more : (s new : ReaderState) (bytes : List ℕ) (past : List Event) (b : ℕ) → IsAtRecord s bytes past → s.finish ≡ None → new ≡ record s { held = s.held ++ b ∷ [] } → IsBegun IsRecord (s.held ++ b ∷ []) → IsAtRecord new (bytes ++ b ∷ []) past
held_more s new bytes past b is ends same begun = subst (λ n. IsAtRecord n (bytes ++ b ∷ []) past) (sym same) (record {
  line = is.line;
  leads = record { told = is.leads.told; text = text_push (told_text (told_by s past)) s.held bytes (b ∷ []) is.leads.text };
  order = is.order;
  place = is.place;
  goes_on = goes_on_begun s.finish (s.held ++ b ∷ []) ends begun;
})

pub no_form : (s : ReaderState) (bytes : List ℕ) (past : List Event) (b at : ℕ) → IsAtRecord s bytes past → s.finish ≡ None → at ≡ s.at → IsNone IsRecord (s.held ++ b ∷ []) → IsTraceRefused (bytes ++ b ∷ []) past (errors.Record at) × (errors.Record at ≢ errors.Short)
no_form s bytes past b at is ends place none = (
  record {
    told = told_by s past;
    rest = s.held ++ b ∷ [];
    leads = record { told = is.leads.told; text = text_push (told_text (told_by s past)) s.held bytes (b ∷ []) is.leads.text };
    events = refl;
    place = place ∙ is.place;
    misformed = subst (λ o. IsMisformed o (s.held ++ b ∷ [])) (sym ends) none;
  },
  λ same. cc,
)

pub no_memory : (s : ReaderState) (bytes : List ℕ) (past : List Event) (more : List ℕ) → IsAtRecord s bytes past → IsTraceRefused (bytes ++ more) past errors.Memory × (errors.Memory ≢ errors.Short)
no_memory s bytes past more is = (
  inr (record {
    told = told_by s past;
    rest = s.held ++ more;
    leads = record { told = is.leads.told; text = text_push (told_text (told_by s past)) s.held bytes more is.leads.text };
    events = refl;
  }),
  λ same. cc,
)

pub behind_end : (s : ReaderState) (bytes : List ℕ) (past : List Event) (f : Finish) (b at : ℕ) → IsAtRecord s bytes past → s.finish ≡ Some f → at ≡ s.at → IsTraceRefused (bytes ++ b ∷ []) past (errors.Record at) × (errors.Record at ≢ errors.Short)
behind_end s bytes past f b at is ends place = (
  record {
    told = told_by s past;
    rest = s.held ++ b ∷ [];
    leads = record { told = is.leads.told; text = text_push (told_text (told_by s past)) s.held bytes (b ∷ []) is.leads.text };
    events = refl;
    place = place ∙ is.place;
    misformed = subst (λ o. IsMisformed o (s.held ++ b ∷ [])) (sym ends) (full s.held b);
  },
  λ same. cc,
)
  where
    full : (xs : List ℕ) (b : ℕ) → xs ++ b ∷ [] ≢ []
    full [] b none = cc
    full (x ∷ xs) b none = cc

-- what is not added
pub not_added : (s mid : ReaderState) (bytes : List ℕ) (past : List Event) (more : List ℕ) (r : Record) (e : TraceError) → IsAtRecord s bytes past → s.finish ≡ None → Fits r → mid ≡ record s { held = mid.held } → s.held ++ more ≡ record_bytes r →
    IsNotAdded mid past r e → IsTraceRefused (bytes ++ more) past e × (e ≢ errors.Short)
not_added s mid bytes past more r errors.Magic is ends fits same text why = absurd why
not_added s mid bytes past more r (errors.Record at) is ends fits same text why = absurd why
not_added s mid bytes past more r (errors.Order at) is ends fits same text why = (
  record {
    told = told_by s past;
    first = r;
    rest = [];
    leads = record { told = is.leads.told; text = text_push (told_text (told_by s past)) s.held bytes more is.leads.text ∙ ap (λ y. told_text (told_by s past) ++ y) (text ∙ sym (append-nil (record_bytes r))) };
    events = refl;
    place = why.0 ∙ ap (λ (m : ReaderState). m.at) same ∙ is.place;
    fits = fits;
    unfinished = ends;
    misplaced = subst (λ (m : ReaderState). IsOutOfOrder (told_by m past) r) same why.1;
  },
  λ same. cc,
)
not_added s mid bytes past more r errors.Short is ends fits same text why = absurd why
not_added s mid bytes past more r errors.Memory is ends fits same text why = no_memory s bytes past more is

-- ---- the first line
abbrev IsByteOf : ℕ → ℕ → Type 0
IsByteOf i b = get_or magic i 0 ≡ b

at_place : (xs : List ℕ) (i b : ℕ) (more : List ℕ) → i < length xs → get_or ((take i xs ++ b ∷ []) ++ more) i 0 ≡ b
at_place xs i b more low =
    let long : length (take i xs) ≡ i = length-take-le i xs (omega arith) in
    ap (λ y. get_or y i 0) (append_assoc (take i xs) (b ∷ []) more) ∙ ap (λ k. get_or (take i xs ++ b ∷ more) k 0) (sym long) ∙ get_or-append_seam (take i xs) b more 0

pub other_line : (s : ReaderState) (bytes : List ℕ) (past : List Event) (b : ℕ) → IsAtLine s bytes past → (get_or magic s.line 0 ≡ b → ⊥) → IsTraceRefused (bytes ++ b ∷ []) past errors.Magic × (errors.Magic ≢ errors.Short)
other_line s bytes past b is differs = ((differs', is.none), λ same. cc)
  where
    differs' : (more rest : List ℕ) → (bytes ++ b ∷ []) ++ more ≢ magic ++ rest
    differs' more rest same =
        let here : get_or ((take s.line magic ++ b ∷ []) ++ more) s.line 0 ≡ get_or (magic ++ rest) s.line 0 = ap (λ y. get_or y s.line 0) (ap (λ y. (y ++ b ∷ []) ++ more) (sym is.read) ∙ same) in
        differs (sym (get_or-append magic rest 0 s.line is.line) ∙ sym here ∙ at_place magic s.line b more is.line)

line_push : (s : ReaderState) (bytes : List ℕ) (past : List Event) (b : ℕ) → IsAtLine s bytes past → get_or magic s.line 0 ≡ b → bytes ++ b ∷ [] ≡ take (s.line + 1) magic
line_push s bytes past b is same = ap₂ (λ y c. y ++ c ∷ []) is.read (sym same) ∙ sym (ap (λ k. take k magic) (add-one s.line) ∙ take-suc magic s.line 0 is.line)

told_nothing : (past : List Event) (names : Names) (f : Option Finish) → past ≡ [] → names ≡ [] → f ≡ None → Leads magic (record { past = past; names = names; finish = f }) []
told_nothing past names f none empty ends =
    subst (λ p. Leads magic (record { past = p; names = names; finish = f }) []) (sym none)
    (subst (λ ns. Leads magic (record { past = []; names = ns; finish = f }) []) (sym empty)
    (subst (λ o. Leads magic (record { past = []; names = []; finish = o }) []) (sym ends)
    (record { told = record { formed = tt; rising = λ i j d before low. absurd (omega arith); fits = tt }; text = refl })))

pub line_more : (s new : ReaderState) (bytes : List ℕ) (past : List Event) (b : ℕ) → IsAtLine s bytes past → get_or magic s.line 0 ≡ b → new ≡ record s { line = s.line + 1; at = s.at + 1 } → IsReading new (bytes ++ b ∷ []) past
line_more s new bytes past b is same next = subst (λ n. IsReading n (bytes ++ b ∷ []) past) (sym next) (by (cases_lt (s.line + 1) (length magic)))
  where
    text : bytes ++ b ∷ [] ≡ take (s.line + 1) magic
    text = line_push s bytes past b is same

    by : (s.line + 1 < length magic) ⊎ (length magic ≤ s.line + 1) → IsReading (record s { line = s.line + 1; at = s.at + 1 }) (bytes ++ b ∷ []) past
    by (inl low) = inl (record {
      line = low;
      read = text;
      none = is.none;
      order = is.order;
      names = is.names;
      finish = is.finish;
      held = is.held;
      place = ap (λ n. n + 1) is.place;
    })
    by (inr high) =
        let line : s.line + 1 ≡ length magic = let low = is.line in omega arith in
        let whole : bytes ++ b ∷ [] ≡ magic = text ∙ ap (λ k. take k magic) line in
        let leads = told_nothing past s.names s.finish is.none is.names is.finish in
        inr (record {
          line = line;
          leads = record { told = leads.told; text = whole ∙ leads.text ∙ ap (λ y. told_text (told_by s past) ++ y) (sym is.held) };
          order = subst (λ p. IsOrderOf s.order p) (sym is.none) is.order;
          place = ap (λ n. n + 1) is.place ∙ line ∙ ap length (leads.text ∙ append-nil (told_text (told_by s past)));
          goes_on = subst (λ held. GoesOn s.finish held) (sym is.held) (goes_on_nothing s.finish);
        })

-- ---- the end
pub ended : (s : ReaderState) (bytes : List ℕ) (past : List Event) (f : Finish) → IsReading s bytes past → s.finish ≡ Some f → IsTrace bytes past s.names f
ended s bytes past f (inl at) ends = absurd (other (sym at.finish ∙ ends))
  where
    other : ◌≡◌ {A = Option Finish} None (Some f) → ⊥
    other same = cc
ended s bytes past f (inr at) ends =
    let none : s.held ≡ [] = subst (λ o. GoesOn o s.held) ends at.goes_on in
    let text : bytes ≡ told_text (told_by s past) = at.leads.text ∙ ap (λ y. told_text (told_by s past) ++ y) none ∙ append-nil (told_text (told_by s past)) in
    record {
      told = subst (λ o. IsTold (record { past = past; names = s.names; finish = o })) ends at.leads.told;
      text = text ∙ ap (λ o. told_text (record { past = past; names = s.names; finish = o })) ends;
    }

pub cut_off : (s : ReaderState) (bytes : List ℕ) (past : List Event) → IsReading s bytes past → s.finish ≡ None → IsTraceRefused bytes past errors.Short
cut_off s bytes past (inl at) ends = inl (
  record {
    more = drop s.line magic;
    some = λ none. let low = at.line in absurd (omega (arith, length-drop s.line magic, ap length none));
    whole = ap (λ y. y ++ drop s.line magic) at.read ∙ take-append-drop s.line magic;
  },
  at.none,
)
cut_off s bytes past (inr at) ends = inr (record {
  told = told_by s past;
  rest = s.held;
  leads = at.leads;
  events = refl;
  unfinished = ends;
  begun = goes_begun s.finish s.held ends at.goes_on;
})

-- ---- a refusal stays
more_rest : (t : Told) (bytes rest more : List ℕ) → Leads bytes t rest → Leads (bytes ++ more) t (rest ++ more)
more_rest t bytes rest more leads = record { told = leads.told; text = ap (λ y. y ++ more) leads.text ∙ append_assoc (told_text t) rest more }

stays_misformed : (f : Option Finish) (rest more : List ℕ) → IsMisformed f rest → IsMisformed f (rest ++ more)
stays_misformed None rest more none = λ x after behind r same. none x (more ++ after) behind r (sym (append_assoc rest more after) ∙ same)
stays_misformed (Some f) [] more some = absurd (some refl)
stays_misformed (Some f) (x ∷ rest) more some = λ none. cc

pub stays : (bytes more : List ℕ) (past : List Event) (e : TraceError) → IsTraceRefused bytes past e → e ≢ errors.Short → IsTraceRefused (bytes ++ more) past e
stays bytes more past errors.Magic is short = ((λ after rest same. is.0 (more ++ after) rest (sym (append_assoc bytes more after) ∙ same)), is.1)
stays bytes more past (errors.Record at) is short = record {
  told = is.told;
  rest = is.rest ++ more;
  leads = more_rest is.told bytes is.rest more is.leads;
  events = is.events;
  place = is.place;
  misformed = stays_misformed is.told.finish is.rest more is.misformed;
}
stays bytes more past (errors.Order at) is short = record {
  told = is.told;
  first = is.first;
  rest = is.rest ++ more;
  leads = record { told = is.leads.told; text = ap (λ y. y ++ more) is.leads.text ∙ append_assoc (told_text is.told) (record_bytes is.first ++ is.rest) more ∙ ap (λ y. told_text is.told ++ y) (append_assoc (record_bytes is.first) is.rest more) };
  events = is.events;
  place = is.place;
  fits = is.fits;
  unfinished = is.unfinished;
  misplaced = is.misplaced;
}
stays bytes more past errors.Short is short = absurd (short refl)
stays bytes more past errors.Memory (inl none) short = inl none
stays bytes more past errors.Memory (inr is) short = inr (record {
  told = is.told;
  rest = is.rest ++ more;
  leads = more_rest is.told bytes is.rest more is.leads;
  events = is.events;
})
