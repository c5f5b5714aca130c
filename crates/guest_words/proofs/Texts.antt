-- Texts that go on.
use Rattle.std.proofs.Common.{◌≡◌, ℕ, ◌++◌, List, [], length, take, sym, ap, ◌∙◌, append_assoc, append-nil}
use Rattle.std.proofs.Math.Seq.{take-append_seam}
use Rattle.guest_words.specs.Texts.{KeepsOn}

pub keeps : (old new more : List ℕ) → new ≡ old ++ more → KeepsOn old new
keeps old new more is = record { more = more; whole = is }

pub keeps_same : (old new : List ℕ) → new ≡ old → KeepsOn old new
keeps_same old new is = record { more = []; whole = is ∙ sym (append-nil old) }

pub keeps_further : (a b c : List ℕ) → KeepsOn a b → KeepsOn b c → KeepsOn a c
keeps_further a b c first second = record {
  more = first.more ++ second.more;
  whole = second.whole ∙ ap (λ x. x ++ second.more) first.whole ∙ append_assoc a first.more second.more;
}

-- what is cut back
pub cut_back : (old new back : List ℕ) → KeepsOn old new → back ≡ take (length old) new → back ≡ old
cut_back old new back keeps is = is ∙ ap (take (length old)) keeps.whole ∙ take-append_seam old keeps.more
