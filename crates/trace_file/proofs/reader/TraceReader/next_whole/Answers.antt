use Rattle.std.proofs.Common.{◌≡◌, ◌==◌, ℕ, List, [], ◌∷◌, Option, Some, None, true, false, arith, ap, refl, sym, ◌∙◌, length}
use Rattle.std.specs.Prelude.{is_some}
use Rattle.std.proofs.lemmas.Bool.Decides.{nat_tests}
use Rattle.guest_words.specs.declared.endings.Finish.{Finish}
use Rattle.trace_file.specs.Reading.{ReaderState}
use Rattle.trace_file.proofs.ReadBytes.{begun_nothing}
use Rattle.trace_file.proofs.reader.TraceReader.next_whole.Goals as goal

none_of : (o : Option Finish) → is_some o ≡ false → o ≡ None
none_of None none = refl
none_of (Some f) none = absurd (cc)

is_zero : (n : ℕ) → (n == 0) ≡ true → n ≡ 0
is_zero n h = grind (arith, nat_tests)

no_bytes : (xs : List ℕ) → length xs ≡ 0 → xs ≡ []
no_bytes [] none = refl
no_bytes (x ∷ xs) none = absurd (omega (arith, none))

pub read_record-requires : goal.read_record-requires
read_record-requires c = begun_nothing

pub returns-in-Ok-clause-between : goal.returns-in-Ok-clause-between
returns-in-Ok-clause-between c =
    let held = c.self.inside.held in
    record {
      line = let line = ap (λ (s : ReaderState). s.line) c.self.view_is in omega (arith, line, c.if-self-lt14.false);
      finish = sym (ap (λ (s : ReaderState). s.finish) c.self.view_is) ∙ none_of c.self.inside.finish (sym c.is_some.ensures ∙ c.if-is_some.false);
      held = sym (ap (λ (s : ReaderState). s.held) c.self.view_is) ∙ no_bytes held.items (sym held.ok.0 ∙ is_zero held.len (sym c.is_empty.ensures ∙ c.if-not-is_empty.false));
    }
