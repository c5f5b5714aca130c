use Rattle.std.proofs.Common.{◌≡◌, ◌-◌, ◌++◌, true, take, ap, ◌∙◌, sym, subst}
use Rattle.std.specs.List.{list_all}
use Rattle.guest_words.specs.Names.{is_visible}
use Rattle.trace_file.specs.declared.record_reader.Stop.TheVariants.{Memory}
use Rattle.trace_file.specs.declared.records.Form.{Form}
use Rattle.trace_file.specs.declared.records.Record.TheVariants.{OfName}
use Rattle.trace_file.specs.Records.{head}
use Rattle.trace_file.proofs.SeenNames.{seen_name}
use Rattle.std.specs.Result.{IfErr}
use Rattle.std.proofs.lemmas.Result.{IfErr-weaker, IfOk-weaker, err_from_is_err_and}
use Rattle.trace_file.specs.Pieces.{IsRecord}
use Rattle.trace_file.specs.Private.RecordParts.{HasName, Stops}
use Rattle.trace_file.proofs.Bodies.{body_stop, head_stop, whole_record}
use Rattle.trace_file.proofs.record_reader.read_record.Goals as goal

pub returns-in_err-form-clause-stops : goal.returns-in_err-form-clause-stops
returns-in_err-form-clause-stops c =
    let given = err_from_is_err_and c.from_residual.result c.from_residual.ensures.1 in
    let stops = head_stop c.args.bytes.now _ c.in_err-form.ensures.stops in
    subst (λ r. IfErr r (λ stop. Stops IsRecord c.args.bytes.now stop)) (sym given.1)
    (subst (λ stop. Stops IsRecord c.args.bytes.now stop) (sym given.2) stops)

pub returns-clause-stops : goal.returns-clause-stops
returns-clause-stops c = IfErr-weaker c.read_body.result _ (λ stop. Stops IsRecord c.args.bytes.now stop) (λ stop h. body_stop c.in_ok-form.form _ _ stop c.in_ok-form.ensures.found h) c.read_body.ensures.stops

pub returns-clause-found : goal.returns-clause-found
returns-clause-found c = IfOk-weaker c.read_body.result _ _ (λ r h. whole_record c.in_ok-form.form _ _ r h.0 h.1 h.2.0 c.in_ok-form.ensures.found h.2.1) c.read_body.ensures.found

pub returns-clause-memory : goal.returns-clause-memory
returns-clause-memory c entry = IfErr-weaker c.read_body.result _ (λ stop. stop ≡ Memory entry → HasName entry c.args.bytes.now)
    (λ stop h same. let n = h same in let whole = whole_record c.in_ok-form.form _ _ (OfName entry n.0) n.1 n.2 n.3.0 c.in_ok-form.ensures.found n.3.1 in (n.0, whole.0, whole.1)) (c.read_body.ensures.memory entry)

-- what is known to begin a record is seen of its name
pub read_body-requires : goal.read_body-requires
read_body-requires c = λ named a b rest within numbers.
    let seen = seen_name c.args.known c.args.bytes.now c.in_ok-form.body.now c.requires (c.in_ok-form.ensures.found ∙ ap (λ (f : Form). head f ++ c.in_ok-form.body.now) named) a b rest within numbers in
    let n : c.args.known - 9 ≡ c.saturating_sub.result = sym c.saturating_sub.ensures in
    subst (λ k. list_all is_visible (take k rest) ≡ true) n seen
