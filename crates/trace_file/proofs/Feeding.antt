-- What a reader has read with more bytes.
use Rattle.std.proofs.Common.{inl, inr, ◌≡◌, ◌≢◌, ℕ, ◌+◌, ◌<◌, ◌≤◌, ◌++◌, ◌∷◌, [], List, Option, Some, None, Result, Ok, Err, length, take, drop, get_or, reverse, sym, subst, ap, ap₂, ◌∙◌, arith, append_assoc, append-nil}
use Rattle.std.specs.Prelude.{IfErr, OnOk, OnErr}
use Rattle.std.specs.Result.{result_err}
use Rattle.std.proofs.Math.Seq.{take-append-add}
use Rattle.std.proofs.lemmas.List.{length-take-le, reverse-append, take-append-drop}
use Rattle.trace_file.specs.TraceText.{magic, told_text}
use Rattle.guest_words.specs.declared.endings.Finish.{Finish}
use Rattle.trace_model.specs.declared.event_kinds.Event.{Event}
use Rattle.trace_model.specs.Cut.{past_after}
use Rattle.trace_file.specs.declared.records.Record.{Record}
use Rattle.trace_file.specs.declared.record_reader.Stop.{Stop}
use Rattle.trace_file.specs.declared.record_reader.Stop.TheVariants.{Begun, NoForm}
use Rattle.trace_file.specs.declared.errors.TraceError.{TraceError}
use Rattle.trace_file.specs.declared.errors.TraceError.TheVariants as errors
use Rattle.trace_file.specs.Records.{Fits, record_bytes}
use Rattle.trace_file.specs.Pieces.{IsBegun, IsNone, IsRecord}
use Rattle.trace_file.specs.Private.RecordParts.{Stops}
use Rattle.trace_file.specs.Reading.{HasFed, HasNext, HasRead, HasReadBy, IsAtLine, IsAtRecord, IsOutOfOrder, IsReading, IsTraceRefused, ReaderState, RunsOutOfMemory, told_by}
use Rattle.trace_file.specs.Private.Steps.{GoesOnOr, IsFed, IsInOrder, IsNotAdded, IsOpen, IsTaken, MayReadByte, said}
use Rattle.trace_file.proofs.ReadBytes.{behind_end, held_more, line_more, no_form, other_line, not_added, open_of, stays, taken, text_push, whole_held}

-- the state with one more byte held
abbrev pub Held : ReaderState → ℕ → ReaderState
Held s b = record s { held = s.held ++ b ∷ [] }

abbrev pub AtRecord : ReaderState → ReaderState → List ℕ → List Event → List Event → Result (Unit {0}) TraceError → Type 0
AtRecord s new more es es' result = IsFed IsAtRecord IsAtRecord s new more es es' result

pub held_view : (view s : ReaderState) (held : List ℕ) (b : ℕ) → view ≡ s → held ≡ view.held ++ b ∷ [] → record view { held = held } ≡ Held s b
held_view view s held b is more = ap₂ (λ (m : ReaderState) (h : List ℕ). record m { held = h }) is (more ∙ ap (λ (m : ReaderState). m.held ++ b ∷ []) is)

pub fed_begun : (s new : ReaderState) (b : ℕ) (es : List Event) → s.finish ≡ None → new ≡ Held s b → IsBegun IsRecord (s.held ++ b ∷ []) → AtRecord s new (b ∷ []) es es (Ok tt)
fed_begun s new b es ends same begun = record { more = []; appended = sym (append-nil es); reads = λ bytes past is. held_more s new bytes past b is ends same begun }

pub fed_no_form : (s new : ReaderState) (b at : ℕ) (es : List Event) → s.finish ≡ None → at ≡ s.at → IsNone IsRecord (s.held ++ b ∷ []) → AtRecord s new (b ∷ []) es es (Err (errors.Record at))
fed_no_form s new b at es ends place none = record { more = []; appended = sym (append-nil es); reads = λ bytes past is. no_form s bytes past b at is ends place none }

open_mid : (s mid : ReaderState) (past : List Event) → mid ≡ record s { held = mid.held } → IsOpen s past → IsOpen mid past
open_mid s mid past same is = subst (λ m. IsOpen m past) (sym same) (record { told = is.told; order = is.order; finish = is.finish })

pub only_held : (s mid : ReaderState) (held : List ℕ) → mid ≡ record s { held = held } → mid ≡ record s { held = mid.held }
only_held s mid held same = same ∙ ap (λ (h : List ℕ). record s { held = h }) (sym (ap (λ (m : ReaderState). m.held) same))

-- what is held and the bytes behind it are the bytes of a record
abbrev pub Completes : ReaderState → List ℕ → Record → Type 0
Completes s more r = (bytes : List ℕ) (past : List Event) → IsAtRecord s bytes past → s.held ++ more ≡ record_bytes r

-- so are those with a byte behind which the record ends
pub with_byte : (s : ReaderState) (b : ℕ) (r : Record) (rest : List ℕ) → s.finish ≡ None → Fits r → s.held ++ b ∷ [] ≡ record_bytes r ++ rest → Completes s (b ∷ []) r
with_byte s b r rest ends fits text bytes past is = whole_held s bytes past b r rest is ends fits text

pub fed_taken : (s mid new : ReaderState) (more : List ℕ) (r : Record) (size : ℕ) (es es' : List Event) (result : Result (Unit {0}) TraceError) → s.finish ≡ None → mid ≡ record s { held = mid.held } → Fits r → Completes s more r →
    size ≡ length (s.held ++ more) → ((past : List Event) → IsOpen mid past → OnOk result (IsTaken size mid new past r)) → ((past : List Event) → IsOpen mid past → IfErr result (λ x. IsNotAdded mid past r x)) →
    OnOk result (es' ≡ es ++ said r) → OnErr result (es' ≡ es) → AtRecord s new more es es' result
fed_taken s mid new more r size es es' (Ok u) ends same fits whole long ok err appended kept = record {
  more = said r;
  appended = appended;
  reads = λ bytes past is. taken s mid new bytes past more r size is same (whole bytes past is) (long ∙ ap length (whole bytes past is)) (ok past (open_mid s mid past same (open_of s bytes past is ends)));
}
fed_taken s mid new more r size es es' (Err e) ends same fits whole long ok err appended kept = record {
  more = [];
  appended = kept ∙ sym (append-nil es);
  reads = λ bytes past is. not_added s mid bytes past more r e is ends fits same (whole bytes past is) (err past (open_mid s mid past same (open_of s bytes past is ends)));
}

pub stops_begun : (bytes held : List ℕ) (stop : Stop) → Stops IsRecord bytes stop → stop ≡ Begun → bytes ≡ held → IsBegun IsRecord held
stops_begun bytes held stop stops is same = subst (λ x. IsBegun IsRecord x) same (subst (λ s. Stops IsRecord bytes s) is stops)

pub stops_none : (bytes held : List ℕ) (stop : Stop) → Stops IsRecord bytes stop → stop ≡ NoForm → bytes ≡ held → IsNone IsRecord held
stops_none bytes held stop stops is same = subst (λ x. IsNone IsRecord x) same (subst (λ s. Stops IsRecord bytes s) is stops)

-- ---- a byte of the line or of a record
abbrev pub Reading : ReaderState → ReaderState → List ℕ → List Event → List Event → Result (Unit {0}) TraceError → Type 0
Reading s new more es es' result = IsFed IsReading IsReading s new more es es' result

at_line : (s : ReaderState) (bytes : List ℕ) (past : List Event) → s.line < 14 → IsReading s bytes past → IsAtLine s bytes past
at_line s bytes past low (inl at) = at
at_line s bytes past low (inr at) = absurd (let line = at.line in omega arith)

at_record : (s : ReaderState) (bytes : List ℕ) (past : List Event) → 14 ≤ s.line → IsReading s bytes past → IsAtRecord s bytes past
at_record s bytes past high (inl at) = absurd (let low = at.line in omega arith)
at_record s bytes past high (inr at) = at

pub fed_line : (s new : ReaderState) (b : ℕ) (es : List Event) (result : Result (Unit {0}) TraceError) → s.line < 14 → OnOk result ((get_or magic s.line 0 ≡ b) × (new ≡ record s { line = s.line + 1; at = s.at + 1 })) →
    IfErr result (λ e. (e ≡ errors.Magic) × (get_or magic s.line 0 ≢ b)) → Reading s new (b ∷ []) es es result
fed_line s new b es (Ok u) low ok err = record { more = []; appended = sym (append-nil es); reads = λ bytes past is. line_more s new bytes past b (at_line s bytes past low is) ok.0 ok.1 }
fed_line s new b es (Err e) low ok err = record { more = []; appended = sym (append-nil es); reads = λ bytes past is. subst (λ x. IsTraceRefused (bytes ++ b ∷ []) past x × (x ≢ errors.Short)) (sym err.0) (other_line s bytes past b (at_line s bytes past low is) err.1) }

pub fed_behind : (s new : ReaderState) (b at : ℕ) (f : Finish) (es : List Event) → 14 ≤ s.line → s.finish ≡ Some f → at ≡ s.at → Reading s new (b ∷ []) es es (Err (errors.Record at))
fed_behind s new b at f es high ends place = record { more = []; appended = sym (append-nil es); reads = λ bytes past is. behind_end s bytes past f b at (at_record s bytes past high is) ends place }

goes_either : (new : ReaderState) (bytes : List ℕ) (past : List Event) (result : Result (Unit {0}) TraceError) → GoesOnOr IsAtRecord new bytes past result → GoesOnOr IsReading new bytes past result
goes_either new bytes past (Ok u) goes = inr goes
goes_either new bytes past (Err e) goes = goes

pub fed_record : (s new : ReaderState) (more : List ℕ) (es es' : List Event) (result : Result (Unit {0}) TraceError) → 14 ≤ s.line → AtRecord s new more es es' result → Reading s new more es es' result
fed_record s new more es es' result high fed = record {
  more = fed.more;
  appended = fed.appended;
  reads = λ bytes past is. goes_either new (bytes ++ more) (past_after past fed.more) result (fed.reads bytes past (at_record s bytes past high is));
}

-- ---- and what is refused from then on
any_refusal : (s : ReaderState) (o : Option TraceError) (bytes : List ℕ) (past : List Event) → IsReading s bytes past → IsReading (record s { refusal = o }) bytes past
any_refusal s o bytes past (inl at) = inl (record { line = at.line; read = at.read; none = at.none; order = at.order; names = at.names; finish = at.finish; held = at.held; place = at.place })
any_refusal s o bytes past (inr at) = inr (record { line = at.line; leads = record { told = at.leads.told; text = at.leads.text }; order = at.order; place = at.place; goes_on = at.goes_on })

pub reading_of : (s : ReaderState) (bytes : List ℕ) (past : List Event) → s.refusal ≡ None → HasRead s bytes past → IsReading s bytes past
reading_of s bytes past none is = subst (λ o. HasReadBy o s bytes past) none is

pub may_read : (s : ReaderState) → MayReadByte HasRead s → s.refusal ≡ None → MayReadByte IsReading s
may_read s may none = record { bytes = may.bytes; past = may.past; now = reading_of s may.bytes may.past none may.now; room = may.room }

keeps : (mid : ReaderState) (bytes : List ℕ) (past : List Event) (result : Result (Unit {0}) TraceError) → GoesOnOr IsReading mid bytes past result → HasRead (record mid { refusal = result_err result }) bytes past
keeps mid bytes past (Ok u) goes = any_refusal mid None bytes past goes
keeps mid bytes past (Err e) goes = goes

pub fed_refused : (s mid new : ReaderState) (more : List ℕ) (es es' : List Event) (result : Result (Unit {0}) TraceError) → s.refusal ≡ None → Reading s mid more es es' result → new ≡ record mid { refusal = result_err result } → HasFed s new more es es'
fed_refused s mid new more es es' result none fed same = record {
  more = fed.more;
  appended = fed.appended;
  read = λ bytes past is. subst (λ n. HasRead n (bytes ++ more) (past_after past fed.more)) (sym same) (keeps mid (bytes ++ more) (past_after past fed.more) result (fed.reads bytes past (reading_of s bytes past none is)));
}

-- ---- out of memory for a whole record that may come next
next_there : (s mid : ReaderState) (bytes : List ℕ) (past : List Event) (more : List ℕ) (r : Record) → IsAtRecord s bytes past → s.finish ≡ None → mid ≡ record s { held = mid.held } → Fits r → s.held ++ more ≡ record_bytes r →
    (IsOutOfOrder (told_by s past) r → ⊥) → HasNext mid (bytes ++ more) past
next_there s mid bytes past more r is ends same fits text in_order = subst (λ m. HasNext m (bytes ++ more) past) (sym same) (record {
  next = r;
  rest = [];
  leads = record { told = is.leads.told; text = text_push (told_text (told_by s past)) s.held bytes more is.leads.text ∙ ap (λ y. told_text (told_by s past) ++ y) (text ∙ sym (append-nil (record_bytes r))) };
  fits = fits;
  unfinished = ends;
  in_order = in_order;
})

pub wants_next : (s mid new : ReaderState) (more : List ℕ) (r : Record) (es es' : List Event) (result : Result (Unit {0}) TraceError) → s.finish ≡ None → mid ≡ record s { held = mid.held } → Fits r → Completes s more r →
    ((past : List Event) → IsOpen mid past → IfErr result (λ x. IsInOrder mid past r x)) → OnErr result (new ≡ mid) → OnErr result (es' ≡ es) →
    IfErr result (λ e. e ≡ errors.Memory → RunsOutOfMemory IsAtRecord s new more es es')
wants_next s mid new more r es es' (Ok u) ends same fits whole err stays kept = tt
wants_next s mid new more r es es' (Err e) ends same fits whole err stays kept = λ memory. record {
  more = [];
  appended = kept ∙ sym (append-nil es);
  next = λ bytes past is.
      let allowed : IsInOrder mid past r errors.Memory = subst (λ x. IsInOrder mid past r x) memory (err past (open_mid s mid past same (open_of s bytes past is ends))) in
      subst (λ n. HasNext n (bytes ++ more) past) (sym stays)
      (next_there s mid bytes past more r is ends same fits (whole bytes past is) (subst (λ (m : ReaderState). IsOutOfOrder (told_by m past) r → ⊥) same allowed));
}

pub wants_record : (s new : ReaderState) (more : List ℕ) (es es' : List Event) → 14 ≤ s.line → RunsOutOfMemory IsAtRecord s new more es es' → RunsOutOfMemory IsReading s new more es es'
wants_record s new more es es' high wants = record { more = wants.more; appended = wants.appended; next = λ bytes past is. wants.next bytes past (at_record s bytes past high is) }

pub wants_refused : (s mid new : ReaderState) (o : Option TraceError) (more : List ℕ) (es es' : List Event) → s.refusal ≡ None → RunsOutOfMemory IsReading s mid more es es' → new ≡ record mid { refusal = o } → RunsOutOfMemory HasRead s new more es es'
wants_refused s mid new o more es es' none wants same = record {
  more = wants.more;
  appended = wants.appended;
  next = λ bytes past is.
      let there = wants.next bytes past (reading_of s bytes past none is) in
      subst (λ n. HasNext n (bytes ++ more) (past_after past wants.more)) (sym same)
      (record { next = there.next; rest = there.rest; leads = record { told = there.leads.told; text = there.leads.text }; fits = there.fits; unfinished = there.unfinished; in_order = there.in_order });
}

-- ---- pieces
pub fed_more : (s mid new : ReaderState) (xs ys : List ℕ) (es es' es'' : List Event) → HasFed s mid xs es es' → HasFed mid new ys es' es'' → HasFed s new (xs ++ ys) es es''
fed_more s mid new xs ys es es' es'' first second = record {
  more = first.more ++ second.more;
  appended = second.appended ∙ ap (λ y. y ++ second.more) first.appended ∙ append_assoc es first.more second.more;
  read = λ bytes past is.
      subst (λ p. HasRead new (bytes ++ (xs ++ ys)) p) (sym (ap (λ y. y ++ past) (reverse-append first.more second.more) ∙ append_assoc (reverse second.more) (reverse first.more) past))
      (subst (λ y. HasRead new y (past_after (past_after past first.more) second.more)) (append_assoc bytes xs ys) (second.read (bytes ++ xs) (past_after past first.more) (first.read bytes past is)));
}

pub fed_sticky : (s : ReaderState) (piece : List ℕ) (es : List Event) (e : TraceError) → s.refusal ≡ Some e → HasFed s s piece es es
fed_sticky s piece es e refused = record {
  more = [];
  appended = sym (append-nil es);
  read = λ bytes past is.
      let was = subst (λ o. HasReadBy o s bytes past) refused is in
      subst (λ o. HasReadBy o s (bytes ++ piece) past) (sym refused) (stays bytes piece past e was.0 was.1, was.1);
}

pub fed_rest : (s new : ReaderState) (piece : List ℕ) (n : ℕ) (es es' : List Event) (e : TraceError) → new.refusal ≡ Some e → HasFed s new (take n piece) es es' → HasFed s new piece es es'
fed_rest s new piece n es es' e refused fed =
    subst (λ p. HasFed s new p es es') (take-append-drop n piece) (fed_more s new new (take n piece) (drop n piece) es es' es' fed (fed_sticky new (drop n piece) es' e refused))

-- what may come next may come where more bytes follow
more_behind : (s : ReaderState) (bytes more : List ℕ) (past : List Event) → HasNext s bytes past → HasNext s (bytes ++ more) past
more_behind s bytes more past there = record {
  next = there.next;
  rest = there.rest ++ more;
  leads = record {
    told = there.leads.told;
    text = ap (λ y. y ++ more) there.leads.text ∙ append_assoc (told_text (told_by s past)) (record_bytes there.next ++ there.rest) more
        ∙ ap (λ y. told_text (told_by s past) ++ y) (append_assoc (record_bytes there.next) there.rest more);
  };
  fits = there.fits;
  unfinished = there.unfinished;
  in_order = there.in_order;
}

-- ---- the first part of a piece
take_part : (i n : ℕ) (piece : List ℕ) → i ≤ length piece → take i piece ++ take n (drop i piece) ≡ take (i + n) piece
take_part i n piece low =
    let long : length (take i piece) ≡ i = length-take-le i piece low in
    sym (take-append-add (take i piece) (drop i piece) n) ∙ ap₂ (λ k y. take (k + n) y) long (take-append-drop i piece)

pub fed_part : (s mid new : ReaderState) (piece : List ℕ) (i n : ℕ) (es es' es'' : List Event) → i ≤ length piece → HasFed s mid (take i piece) es es' → HasFed mid new (take n (drop i piece)) es' es'' → HasFed s new (take (i + n) piece) es es''
fed_part s mid new piece i n es es' es'' low first second =
    subst (λ p. HasFed s new p es es'') (take_part i n piece low) (fed_more s mid new (take i piece) (take n (drop i piece)) es es' es'' first second)

pub wants_part : (s new : ReaderState) (piece : List ℕ) (n : ℕ) (es es' : List Event) → RunsOutOfMemory HasRead s new (take n piece) es es' → RunsOutOfMemory HasRead s new piece es es'
wants_part s new piece n es es' wants = record {
  more = wants.more;
  appended = wants.appended;
  next = λ bytes past is.
      subst (λ y. HasNext new y (past_after past wants.more)) (append_assoc bytes (take n piece) (drop n piece) ∙ ap (λ y. bytes ++ y) (take-append-drop n piece))
      (more_behind new (bytes ++ take n piece) (drop n piece) (past_after past wants.more) (wants.next bytes past is));
}

pub wants_behind_part : (s mid new : ReaderState) (piece : List ℕ) (i : ℕ) (es es' es'' : List Event) → HasFed s mid (take i piece) es es' → RunsOutOfMemory HasRead mid new (drop i piece) es' es'' → RunsOutOfMemory HasRead s new piece es es''
wants_behind_part s mid new piece i es es' es'' first wants = record {
  more = first.more ++ wants.more;
  appended = wants.appended ∙ ap (λ y. y ++ wants.more) first.appended ∙ append_assoc es first.more wants.more;
  next = λ bytes past is.
      subst (λ p. HasNext new (bytes ++ piece) p) (sym (ap (λ y. y ++ past) (reverse-append first.more wants.more) ∙ append_assoc (reverse wants.more) (reverse first.more) past))
      (subst (λ y. HasNext new y (past_after (past_after past first.more) wants.more)) (append_assoc bytes (take i piece) (drop i piece) ∙ ap (λ y. bytes ++ y) (take-append-drop i piece))
      (wants.next (bytes ++ take i piece) (past_after past first.more) (first.read bytes past is)));
}
