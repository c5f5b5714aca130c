use Rattle.std.proofs.Common.{◌≡◌, length, map}
use Rattle.guest_memory.specs.Code.{known_of}
use Rattle.guest_memory.specs.Private.CodePages.{AreForgotten}
use Rattle.guest_memory.proofs.code_page.forget_words.Given as goal

abbrev pub invariant-loop-word : goal.invariant-loop-word
invariant-loop-word l = record {
  length : length l.words ≡ length l.initial.words;
  forgotten : AreForgotten l.first l.word (map known_of l.initial.words) (map known_of l.words);
}
