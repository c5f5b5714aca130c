-- What a text is once a push is done or failed.
use Rattle.std.proofs.Common.{◌≡◌, ℕ, ◌++◌, List, sym, subst, ◌∙◌}
use Rattle.std.specs.Prelude.{Result, Ok, Err, OnOk, OnErr}
use Rattle.guest_words.specs.Texts.{KeepsOn}
use Rattle.guest_words.proofs.Texts.{keeps, keeps_same}

-- an answer is passed on
pub passed : {T E : Type 0} (r p : Result T E) (told text new : List ℕ) → r ≡ p → OnOk r (new ≡ text) → OnOk p (text ≡ told) → OnOk r (new ≡ told)
passed (Ok x) p told text new same kept is = kept ∙ subst (λ o. OnOk o (text ≡ told)) (sym same) is
passed (Err e) p told text new same kept is = tt

-- a push that keeps the text where it fails
pub keeps_either : {T E : Type 0} (r : Result T E) (old new more : List ℕ) → OnOk r (new ≡ old ++ more) → OnErr r (new ≡ old) → KeepsOn old new
keeps_either (Ok x) old new more ok err = keeps old new more ok
keeps_either (Err e) old new more ok err = keeps_same old new err
