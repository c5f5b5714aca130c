use Rattle.std.proofs.Common.{◌≡◌, ◌<◌, ◌≤◌, ◌+◌, ◌/◌, ◌⊎◌, ℕ, None}
use Rattle.guest_memory.specs.Private.CodePages.{known_in}
use Rattle.guest_memory.proofs.code_cache.CodeCache.forget_pages.Given as goal

abbrev pub invariant-loop-k : goal.invariant-loop-k
invariant-loop-k l = record {
  gone : (word : ℕ) → l.first ≤ word / 1024 → word / 1024 < l.first + l.k → known_in l.self.places.items l.self.pages.items word ≡ None;
  rest : (word : ℕ) → (word / 1024 < l.first) ⊎ (l.first + l.k ≤ word / 1024) → known_in l.self.places.items l.self.pages.items word ≡ known_in l.initial.self.places.items l.initial.self.pages.items word;
}
