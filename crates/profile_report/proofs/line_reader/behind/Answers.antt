use Rattle.std.proofs.Common.{◌≡◌, ◌≢◌, ℕ, ◌++◌, List, Option, Some, None, ◌∙◌, sym}
use Rattle.std.specs.Option.{MatchOption, IfSome, IsSomeAnd}
use Rattle.std.proofs.lemmas.Bool.Decides.{Decides-eqb}
use Rattle.std.proofs.lemmas.List.{append_cancel_left}
use Rattle.std.proofs.lemmas.Slice.Eq.{strip_prefix_is}
use denote.Ref.{Bor}
use Rattle.profile_report.proofs.line_reader.behind.Goals as goal

found : (r : Option (Bor (List ℕ))) (s p : List ℕ) → MatchOption r ((rest : List ℕ) → s ≢ p ++ rest) (λ x. s ≡ p ++ x.now) → IfSome r (λ x. s ≡ p ++ x.now)
found None s p h = tt
found (Some x) s p h = h

only : (r : Option (Bor (List ℕ))) (s p : List ℕ) → MatchOption r ((rest : List ℕ) → s ≢ p ++ rest) (λ x. s ≡ p ++ x.now) → (rest : List ℕ) → s ≡ p ++ rest → IsSomeAnd r (λ x. x.now ≡ rest)
only None s p h rest is = absurd (h rest is)
only (Some x) s p h rest is = append_cancel_left p x.now rest (sym h ∙ is)

pub returns-clause-found : goal.returns-clause-found
returns-clause-found c = found _ _ _ (strip_prefix_is Decides-eqb c.args.line.now c.args.label.now c.strip_prefix.result c.strip_prefix.ensures.cases)

pub returns-clause-only : goal.returns-clause-only
returns-clause-only c rest is = only _ _ _ (strip_prefix_is Decides-eqb c.args.line.now c.args.label.now c.strip_prefix.result c.strip_prefix.ensures.cases) rest is
