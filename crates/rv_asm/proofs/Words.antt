-- Lists of words that grow at their end.
use Rattle.std.proofs.Common.{◌≡◌, ℕ, ◌+◌, ◌<◌, List, [], ◌∷◌, ◌++◌, length, get_or, arith, subst, sym, below_more}
use Rattle.std.specs.Prelude.{Option}
use Rattle.std.proofs.lemmas.Grind.{common_steps}
use Rattle.rv_isa.specs.Encoding.{IsEncodable}
use Rattle.rv_asm.specs.declared.line.Line.{Line}
use Rattle.rv_asm.specs.Assembled.{instruction_at, IsWordOf}
use Rattle.rv_asm.specs.Refusals.{IsInReach}

-- the words before the end stay
before_end : (words : List ℕ) (w k : ℕ) → k < length words → get_or (words ++ w ∷ []) k 0 ≡ get_or words k 0
before_end words w k h = grind (arith, common_steps)

-- the word at the end
at_end : (words : List ℕ) (w : ℕ) → get_or (words ++ w ∷ []) (length words) 0 ≡ w
at_end words w = grind (arith, common_steps)

-- what holds of each word and of one more, at its place
pub words_more : (Q : ℕ → ℕ → Type 0) (words : List ℕ) (w n : ℕ) → length words ≡ n → ((k : ℕ) → k < n → Q k (get_or words k 0))
    → Q n w → (k : ℕ) → k < n + 1 → Q k (get_or (words ++ w ∷ []) k 0)
words_more Q words w n long each last =
    below_more (λ (k : ℕ). Q k (get_or (words ++ w ∷ []) k 0)) n
    (λ k h. let inside : k < length words = omega arith in subst (λ (v : ℕ). Q k v) (sym (before_end words w k inside)) (each k h))
    (let e : get_or (words ++ w ∷ []) n 0 ≡ w = subst (λ (m : ℕ). get_or (words ++ w ∷ []) m 0 ≡ w) long (at_end words w) in
    subst (λ (v : ℕ). Q n v) (sym e) last)

-- an element is the one at its place, whatever stands for a place outside
same_line : (lines : List Line) (at : ℕ) (x line : Line) → at < length lines → x ≡ get_or lines at x → get_or lines at line ≡ x
same_line lines at x line h e = grind (arith, common_steps)

-- one more line and its word
pub assembled_more : (bindings : List (Option ℕ)) (lines : List Line) (words : List ℕ) (w at : ℕ) (x : Line)
    → length words ≡ at → at < length lines → x ≡ get_or lines at x
    → ((k : ℕ) → k < at → (line : Line) → IsWordOf (instruction_at bindings k (get_or lines k line)) (get_or words k 0))
    → IsWordOf (instruction_at bindings at x) w
    → (k : ℕ) → k < at + 1 → (line : Line) → IsWordOf (instruction_at bindings k (get_or lines k line)) (get_or (words ++ w ∷ []) k 0)
assembled_more bindings lines words w at x long inside is each last =
    words_more (λ (k v : ℕ). (line : Line) → IsWordOf (instruction_at bindings k (get_or lines k line)) v) words w at long each
    (λ line. subst (λ (y : Line). IsWordOf (instruction_at bindings at y) w) (sym (same_line lines at x line inside is)) last)

-- one more line in reach
pub reach_more : (bindings : List (Option ℕ)) (lines : List Line) (at : ℕ) (x : Line)
    → at < length lines → x ≡ get_or lines at x
    → ((k : ℕ) → k < at → (line : Line) → IsInReach bindings k (get_or lines k line))
    → IsEncodable (instruction_at bindings at x)
    → (k : ℕ) → k < at + 1 → (line : Line) → IsInReach bindings k (get_or lines k line)
reach_more bindings lines at x inside is before last =
    below_more (λ (k : ℕ). (line : Line) → IsInReach bindings k (get_or lines k line)) at before
    (λ line. subst (λ (y : Line). IsInReach bindings at y) (sym (same_line lines at x line inside is)) (λ some. last))
