-- Lines worked out by hand.
use Rattle.std.proofs.Common.{◌≡◌, [], ◌++◌, ◌∷◌, refl}
use Rattle.std.specs.Prelude.{codes}
use Rattle.std.specs.Fmt.{digits}
use Rattle.profile_report.specs.LineForms.{hex_address}
use Rattle.profile_report.specs.ContextText.{context_line, contexts_text}

pub worked_context : context_line 0 0x10054 ≡ codes "context 0 00010054"
unfolding hex_address digits
worked_context = refl

pub worked_none : contexts_text [] [] ≡ codes "contexts 1" ++ 10 ∷ codes "done 0" ++ 10 ∷ []
unfolding digits
worked_none = refl
