-- Pasts that were read, and where they are cut.
use Rattle.std.proofs.Common.{◌≡◌, ◌∙◌, ℕ, Bool, true, false, List, [], ◌∷◌, Option, None, Some, Result, Ok, Err, refl, sym, subst, inl, inr, arith, length}
use Rattle.trace_file.specs.Reading.{HasRead, HasReadBy, IsReading, ReaderState}
use Rattle.std.specs.Prelude.{◌==◌}
use Rattle.std.proofs.lemmas.Bool.Decides.{nat_tests}
use Rattle.trace_file.specs.declared.errors.TraceError.{TraceError}
use Rattle.trace_model.specs.declared.event_kinds.Event.{Event}
use Rattle.trace_model.specs.Cut.{IsPrefixClosed, cut, past_after}
use Rattle.trace_model.specs.WellFormed.{IsWellFormed}
use Rattle.trace_model.proofs.Cut.{cut-earlier, fits-earlier}

pub cut_formed : (fits : List Event → Bool) (past : List Event) → IsWellFormed past → IsWellFormed (cut fits past)
cut_formed fits [] formed = tt
cut_formed fits (e ∷ past) formed = by (fits (e ∷ past)) refl (cut_formed fits past formed.2)
  where
    by : (b : Bool) → fits (e ∷ past) ≡ b → IsWellFormed (cut fits past) → IsWellFormed (cut fits (e ∷ past))
    by true is rest = rw is formed
    by false is rest = rw is rest

formed_reading : (s : ReaderState) (bytes : List ℕ) (past : List Event) → IsReading s bytes past → IsWellFormed past
formed_reading s bytes past (inl at) = subst IsWellFormed (sym at.none) tt
formed_reading s bytes past (inr at) = at.leads.told.formed

-- what was read is well formed, where nothing was refused
pub formed_read : (s : ReaderState) (bytes : List ℕ) (past : List Event) → s.refusal ≡ None → HasRead s bytes past → IsWellFormed past
formed_read s bytes past none read = formed_reading s bytes past (subst (λ refusal. HasReadBy refusal s bytes past) none read)

-- what does not fit stays cut where it was
pub cut_stays : (fits : List Event → Bool) → IsPrefixClosed fits → (past more : List Event) → fits past ≡ false
    → (cut fits (past_after past more) ≡ cut fits past) × (fits (past_after past more) ≡ false)
cut_stays fits closed past more not_fits = (cut-earlier fits closed past _ not_fits, fits-earlier fits closed past _ not_fits)

pub empty_of : (bytes : List ℕ) → (length bytes == 0) ≡ true → bytes ≡ []
empty_of [] is = refl
empty_of (x ∷ xs) is = absurd (grind (arith, nat_tests, is))

-- what refused nothing has no refusal
pub not_refused : (refusal : Option TraceError) → refusal ≡ None → (e : TraceError) → refusal ≡ Some e → ⊥
not_refused refusal none e some =
    let both : None ≡ Some e = sym none ∙ some in
    absurd (cc)

-- what went well is no error
pub not_err : {A : Type 0} {a : A} (e : TraceError) → Ok a ≡ Err e → ⊥
not_err e is = absurd (cc)
