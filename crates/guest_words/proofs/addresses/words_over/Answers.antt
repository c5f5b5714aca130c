use Rattle.std.proofs.Common.{◌≡◌, ℕ, ◌*◌, ◌/◌, ◌≤◌, max, arith}
use Rattle.guest_words.specs.Words.{IsLeastRange, word_count}
use Rattle.guest_words.proofs.addresses.words_over.Goals as goal

-- the words from that of the first byte on, as many as the bytes overlap
least_range : (first bytes word count : ℕ) → 1 ≤ bytes → word ≡ first / 4 → count ≡ word_count first bytes → IsLeastRange first bytes word count
least_range first bytes word count some is counted = record {
  holds = λ byte low high. (omega arith, omega arith);
  held = λ w low high. (max first (4 * w), omega arith, omega arith, omega arith);
}

pub returns-then-bytes-first-clause-least : goal.returns-then-bytes-first-clause-least
returns-then-bytes-first-clause-least c = least_range c.args.first c.args.bytes c.of.result _ c.requires.some c.of.ensures (omega arith)

pub returns-clause-least : goal.returns-clause-least
returns-clause-least c = least_range c.args.first c.args.bytes c.of-2.result _ c.requires.some c.of-2.ensures (omega arith)
