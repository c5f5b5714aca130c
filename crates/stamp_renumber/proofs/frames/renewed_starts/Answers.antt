use Rattle.std.proofs.Common.{◌≡◌, ◌∙◌, ◌+◌, ◌*◌, ◌++◌, ◌∷◌, [], ◌<◌, ◌≤◌, ℕ, List, length, map, vec_len, ap, ap₂, sym, arith}
use Rattle.std.specs.Prelude.{slice_index}
use Rattle.std.proofs.lemmas.List.{map_push, map_more, length-map}
use Rattle.shadow_stack.specs.Frames.{starts_of}
use Rattle.stamp_renumber.specs.Classes.{class, new_start}
use Rattle.stamp_renumber.proofs.frames.renewed_starts.Goals as goal

pub loop-i-preserved : goal.loop-i-preserved
loop-i-preserved g c =
    let f = g.S.Stamp.number_of in
    let starts = map f c.args.starts.now in
    let xs = starts_of c.args.frames.now.list in
    let i = c.loop-i.i in
    let inside : i < length xs = omega (arith, c.loop-i-test.true, c.depth-i-end.ensures, length-map c.args.frames.now.list (λ f. f.start)) in
    let pushed : c.push.new.self.items ≡ c.loop-i.renewed.items ++ c.from_number.result ∷ [] = rw c.unwrap.ensures at c.push.ensures.items in
    let longer : vec_len c.push.new.self ≡ vec_len c.loop-i.renewed + 1 = rw c.unwrap.ensures at c.push.ensures.len in
    let fits : 3 * c.class_of-class.result ≤ g.S.Stamp.MAX = omega (arith, c.class_of-class.ensures.within, c.requires.fit) in
    let value : f c.from_number.result ≡ 3 * class starts (slice_index xs i) =
    ap f c.from_number.ensures ∙ g.met.S.Stamp.number_back (3 * c.class_of-class.result) fits ∙ ap (λ k. 3 * k) (c.class_of-class.ensures.value ∙ ap (class starts) c.start_at.ensures.start)
    in
    record {
      long = omega (arith, longer, c.loop-i.invariant.long);
      capacity = omega (arith, c.push.ensures.capacity, c.loop-i.invariant.capacity);
      items =
          ap (map f) pushed ∙ map_push f c.loop-i.renewed.items c.from_number.result
          ∙ ap₂ (λ (a : List ℕ) (b : ℕ). a ++ b ∷ []) c.loop-i.invariant.items value
          ∙ sym (map_more (new_start starts) xs i 0 inside);
      cost = omega (arith, c.tick.ensures, c.loop-i.invariant.cost);
      rising = λ _. c.start_at.ensures.rising;
    }

pub returns-clause-rising : goal.returns-clause-rising
returns-clause-rising g c = λ i j lt within.
    c.loop-i.invariant.rising (omega (arith, within, c.loop-i-test.false, c.depth-i-end.ensures, length-map c.args.frames.now.list (λ f. f.start))) i j lt within
