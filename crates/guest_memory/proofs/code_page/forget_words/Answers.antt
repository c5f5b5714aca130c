use Rattle.std.proofs.Common.{◌≡◌, ◌<◌, ◌∙◌, None, arith, get_or, inl, inr, length, map, set, ap}
use Rattle.std.proofs.lemmas.Bool.{cases_eq}
use Rattle.std.proofs.lemmas.List.{get_or-set_other, get_or-set_same, length-map, length-set, map-set}
use Rattle.guest_memory.specs.declared.decoded.Decoded.TheVariants.{Unknown}
use Rattle.guest_memory.specs.Code.{known_of}
use Rattle.guest_memory.proofs.code_page.forget_words.Goals as goal

pub loop-word-preserved : goal.loop-word-preserved
loop-word-preserved c =
    let old = c.loop-word.words in
    let words = map known_of old in
    let at = c.loop-word.word in
    let low : at < length words = omega (arith, length-map old known_of) in
    let is : map known_of (set old at Unknown) ≡ set words at None = map-set known_of old at Unknown in
    record {
      length = length-set old at Unknown ∙ c.loop-word.invariant.length;
      forgotten = record {
        gone = λ w from below. ap (λ ws. get_or ws w None) is ∙ elim (cases_eq w at) [
          | inl same ↦ ap (λ k. get_or (set words at None) k None) same ∙ get_or-set_same words at None None low
          | inr differs ↦ get_or-set_other words at w None None differs ∙ c.loop-word.invariant.forgotten.gone w from (omega (arith, below, differs))
        ];
        rest = λ w outside.
            ap (λ ws. get_or ws w None) is
            ∙ get_or-set_other words at w None None (λ same. absurd (elim outside [ inl before ↦ omega (arith, before, same) | inr past ↦ omega (arith, past, same) ]))
            ∙ c.loop-word.invariant.forgotten.rest w (elim outside [ inl before ↦ inl before | inr past ↦ inr (omega (arith, past)) ]);
      };
    }

pub returns : goal.returns
returns c = record {
  length = c.loop-word.invariant.length;
  words = record {
    gone = λ w from below. c.loop-word.invariant.forgotten.gone w from (omega (arith, from, below));
    rest = λ w outside. c.loop-word.invariant.forgotten.rest w (elim outside [ inl before ↦ inl before | inr past ↦ inr (omega (arith, past)) ]);
  };
}
