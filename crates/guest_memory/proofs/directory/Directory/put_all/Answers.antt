use Rattle.std.proofs.Common.{◌≡◌, ◌∙◌, ◌-◌, ◌+◌, ◌++◌, ◌∷◌, [], ℕ, List, Option, Some, ap, ap₂, sym, arith, vec_len, length, get_or, Vec, Global}
use Rattle.std.proofs.lemmas.List.{get_or_append_left}
use Rattle.std.proofs.Math.Seq.{get_or-append_seam}
use Rattle.guest_words.specs.declared.rights.Rights.{Rights}
use Rattle.guest_memory.specs.Memory.{with_pages}
use Rattle.guest_memory.specs.Pages.{zeros}
use Rattle.guest_memory.specs.State.{memory_in, rights_of}
use Rattle.guest_memory.proofs.Accesses.{rights_some}
use Rattle.guest_memory.proofs.Directories.{length-zeros}
use Rattle.guest_memory.proofs.Counts.{one, count_of_change, pages_down, rights_below}
use Rattle.guest_memory.proofs.directory.Directory.put_all.Goals as goal

pub pages-preserved : goal.pages-preserved
pages-preserved c =
    let fewer : vec_len c.pop.new.self + 1 ≡ vec_len c.pages.fresh = c.in-Some.ensures.len in
    let items : c.pages.fresh.items ≡ c.pop.new.self.items ++ c.in-Some.bytes ∷ [] = c.in-Some.ensures.items in
    let length_new : vec_len c.pop.new.self ≡ length c.pop.new.self.items = c.pop.new.self.ok.0 in
    let length_old : vec_len c.pages.fresh ≡ length c.pages.fresh.items = c.pages.fresh.ok.0 in
    let last : get_or c.pages.fresh.items (length c.pop.new.self.items) c.in-Some.bytes ≡ c.in-Some.bytes =
    ap (λ (v : List (Vec ℕ Global)). get_or v (length c.pop.new.self.items) c.in-Some.bytes) items ∙ get_or-append_seam c.pop.new.self.items c.in-Some.bytes [] c.in-Some.bytes in
    let zero : c.in-Some.bytes.items ≡ zeros = sym (ap (λ (v : Vec ℕ Global). v.items) last) ∙ c.pages.invariant.zeros (length c.pop.new.self.items) c.in-Some.bytes (omega arith) in
    let long = length-zeros in
    let rights : rights_of (c.args.rights, c.in-Some.bytes.items) ≡ Some c.args.rights = ap (λ (b : List ℕ). rights_of (c.args.rights, b)) zero ∙ rights_some c.args.rights zeros (omega arith) in
    let left : ℕ = vec_len c.pages.fresh in
    let place : vec_len c.pop.new.self ≡ left - 1 = omega arith in
    let n : ℕ = c.args.first + (left - 1) in
    let m = memory_in c.args.self.now in
    let s = memory_in c.pages.self in
    let t = memory_in c.put.new.self in
    let put : t ≡ with_pages s n 1 (Some c.args.rights) = c.put.ensures.memory ∙ ap₂ (λ (k : ℕ) (o : Option Rights). with_pages s (c.args.first + k) 1 o) (c.len.ensures ∙ place) rights in
    let range = c.requires.range in
    let few = c.pages.invariant.few in
    let here : one (s.rights n) ≡ 0 = ap one (rights_below m s (c.args.first + left) (vec_len c.args.fresh - left) (Some c.args.rights) n c.pages.invariant.memory (omega arith) ∙ c.requires.free n (omega arith) (omega arith)) in
    let change = count_of_change s t n (Some c.args.rights) (omega arith) put in
    record {
      few = omega arith;
      placed = λ k low. c.put.ensures.others (c.args.first + k) (c.pages.invariant.placed k (omega arith));
      zeros = λ k d low.
          let same : get_or c.pages.fresh.items k d ≡ get_or c.pop.new.self.items k d = ap (λ (v : List (Vec ℕ Global)). get_or v k d) items ∙ get_or_append_left c.pop.new.self.items (c.in-Some.bytes ∷ []) d k low in
          sym (ap (λ (v : Vec ℕ Global). v.items) same) ∙ c.pages.invariant.zeros k d (omega arith);
      memory = pages_down m s t c.args.first left (vec_len c.args.fresh) (Some c.args.rights) (omega arith) few c.pages.invariant.memory put ∙ ap (λ (k : ℕ). with_pages m (c.args.first + k) (vec_len c.args.fresh - k) (Some c.args.rights)) (sym place);
      count = omega (arith, here, change, c.pages.invariant.count);
    }
