use Rattle.std.proofs.Common.{◌≤◌, ◌++◌, ◌∷◌, [], Err, length, length-append, refl, sym, ap, ◌∙◌, arith}
use Rattle.std.specs.Vec.{vec_capacity}
use Rattle.trace_file.specs.declared.records.Record.TheVariants.{OfName}
use Rattle.trace_file.specs.Reading.{ReaderState}
use Rattle.trace_file.proofs.Lengths.{begun_length}
use Rattle.trace_file.proofs.ReadBytes.{goes_begun}
use Rattle.trace_file.proofs.Feeding.{fed_begun, fed_no_form, fed_taken, held_view, only_held, stops_begun, stops_none, wants_next, with_byte}
use Rattle.trace_file.proofs.reader.TraceReader.read_byte.Goals as goal

pub returns-in-Err-Begun-clause-fed : goal.returns-in-Err-Begun-clause-fed
returns-in-Err-Begun-clause-fed c =
    let held = c.push_byte.ensures.items in
    let text = c.deref.ensures.value ∙ held ∙ ap (λ (s : ReaderState). s.held ++ c.args.byte ∷ []) c.self.view_is in
    fed_begun c.args.self.now _ c.args.byte c.args.events.now.list c.requires.unfinished (held_view _ c.args.self.now _ c.args.byte c.self.view_is held)
    (stops_begun _ _ _ c.in-Err-Begun.ensures.stops c.in-Err-Begun.field-0-is text)

pub returns-in-Err-NoForm-clause-fed : goal.returns-in-Err-NoForm-clause-fed
returns-in-Err-NoForm-clause-fed c =
    let held = c.push_byte.ensures.items in
    let text = c.deref.ensures.value ∙ held ∙ ap (λ (s : ReaderState). s.held ++ c.args.byte ∷ []) c.self.view_is in
    fed_no_form c.args.self.now _ c.args.byte _ c.args.events.now.list c.requires.unfinished (ap (λ (s : ReaderState). s.at) c.self.view_is)
    (stops_none _ _ _ c.in-Err-NoForm.ensures.stops c.in-Err-NoForm.field-0-is text)

pub returns-in-Ok-clause-fed : goal.returns-in-Ok-clause-fed
returns-in-Ok-clause-fed c =
    let held = c.push_byte.ensures.items in
    let text = c.deref.ensures.value ∙ held ∙ ap (λ (s : ReaderState). s.held ++ c.args.byte ∷ []) c.self.view_is in
    let found = c.in-Ok.ensures.found in
    let only = only_held c.args.self.now _ _ (held_view _ c.args.self.now _ c.args.byte c.self.view_is held) in
    fed_taken c.args.self.now _ _ (c.args.byte ∷ []) c.in-Ok.next _ _ _ _ c.requires.unfinished only found.0
    (with_byte c.args.self.now c.args.byte c.in-Ok.next _ c.requires.unfinished found.0 (sym text ∙ found.1.1))
    (omega (arith, c.len-known.ensures, ap (λ (s : ReaderState). length s.held) c.self.view_is, length-append c.args.self.now.held (c.args.byte ∷ [])))
    c.take_record.ensures.ok c.take_record.ensures.err c.take_record.ensures.appended c.take_record.ensures.kept

pub push_byte-requires : goal.push_byte-requires
push_byte-requires c =
    let held = ap (λ (s : ReaderState). length s.held) c.self.view_is in
    let short = begun_length c.args.self.now.held (goes_begun c.args.self.now.finish c.args.self.now.held c.requires.unfinished c.requires.reading.now.goes_on) in
    let room : 1033 ≤ vec_capacity c.self.inside.held = c.self.invariant in
    omega (arith, held, short, room)

pub returns-in-Ok-clause-memory : goal.returns-in-Ok-clause-memory
returns-in-Ok-clause-memory c =
    let held = c.push_byte.ensures.items in
    let text = c.deref.ensures.value ∙ held ∙ ap (λ (s : ReaderState). s.held ++ c.args.byte ∷ []) c.self.view_is in
    let found = c.in-Ok.ensures.found in
    let only = only_held c.args.self.now _ _ (held_view _ c.args.self.now _ c.args.byte c.self.view_is held) in
    wants_next c.args.self.now _ _ (c.args.byte ∷ []) c.in-Ok.next _ _ _ c.requires.unfinished only found.0
    (with_byte c.args.self.now c.args.byte c.in-Ok.next _ c.requires.unfinished found.0 (sym text ∙ found.1.1))
    c.take_record.ensures.memory c.take_record.ensures.same c.take_record.ensures.kept

pub returns-in-Err-Memory-clause-fed : goal.returns-in-Err-Memory-clause-fed
returns-in-Err-Memory-clause-fed c =
    let held = c.push_byte.ensures.items in
    let text = c.deref.ensures.value ∙ held ∙ ap (λ (s : ReaderState). s.held ++ c.args.byte ∷ []) c.self.view_is in
    let named = c.in-Err-Memory.ensures.memory c.in-Err-Memory.entry c.in-Err-Memory.field-0-is in
    let only = only_held c.args.self.now _ _ (held_view _ c.args.self.now _ c.args.byte c.self.view_is held) in
    fed_taken c.args.self.now _ _ (c.args.byte ∷ []) (OfName c.in-Err-Memory.entry named.0) (length (c.args.self.now.held ++ c.args.byte ∷ [])) c.args.events.now.list _ (Err c.refuse_name.result) c.requires.unfinished only named.1
    (with_byte c.args.self.now c.args.byte (OfName c.in-Err-Memory.entry named.0) _ c.requires.unfinished named.1 (sym text ∙ named.2.1)) refl
    (λ past is. tt) (λ past is. c.refuse_name.ensures.err past named.0 is) tt refl

pub returns-in-Err-Memory-clause-memory : goal.returns-in-Err-Memory-clause-memory
returns-in-Err-Memory-clause-memory c =
    let held = c.push_byte.ensures.items in
    let text = c.deref.ensures.value ∙ held ∙ ap (λ (s : ReaderState). s.held ++ c.args.byte ∷ []) c.self.view_is in
    let named = c.in-Err-Memory.ensures.memory c.in-Err-Memory.entry c.in-Err-Memory.field-0-is in
    let only = only_held c.args.self.now _ _ (held_view _ c.args.self.now _ c.args.byte c.self.view_is held) in
    wants_next c.args.self.now _ _ (c.args.byte ∷ []) (OfName c.in-Err-Memory.entry named.0) c.args.events.now.list _ (Err c.refuse_name.result) c.requires.unfinished only named.1
    (with_byte c.args.self.now c.args.byte (OfName c.in-Err-Memory.entry named.0) _ c.requires.unfinished named.1 (sym text ∙ named.2.1))
    (λ past is. c.refuse_name.ensures.memory past named.0 is) refl refl
