use Rattle.std.proofs.Common.{◌≡◌, ◌∙◌, ◌<◌, length, set, arith, refl, ap, sym, subst, None, Some, cond, Result, Ok, Err, IsOk}
use Rattle.std.specs.declared.alloc.Global.{Global}
use Rattle.std.specs.Prelude.{Vec, is_ok, vec_len}
use Rattle.std.specs.Vec.{vec_capacity}
use Rattle.std.proofs.lemmas.List.{get_or_default, length-set}
use Rattle.context_tree.specs.declared.order.Links.{Links}
use Rattle.context_tree.specs.Links.{links_at, no_links}
use Rattle.context_tree.proofs.Linking.{IsGrown, depth_le, grown_after, grown_first, last_within, linked_more, shape_is}
use Rattle.context_tree.proofs.order.add_link.Goals as goal
use Rattle.context_tree.proofs.order.add_link.Goals.{in-Some, in-None}

taken : {T E : Type 0} {X : Type 0} (r : Result T E) (a b : X) → IsOk r → cond (is_ok r) a b ≡ a
taken (Ok v) a b ok = refl
taken (Err e) a b ok = absurd (cc)

pub overflow_add-place : goal.overflow_add-place
overflow_add-place c =
    let l = c.requires.linked in
    let inside : c.args.above < length c.args.links.now.items = omega (arith, l.within, l.now.long) in
    let here : c.index-place.result.now ≡ links_at c.args.links.now.items c.args.above =
    c.index-place.ensures ∙ get_or_default c.args.links.now.items c.args.above c.index-place.result.now no_links inside
    in
    omega (arith, ap (λ (x : Links). x.depth) here, depth_le l.places c.args.links.now.items l.now c.args.above c.args.above (omega arith) l.within, l.within, l.now.long, c.requires.few)

pub unwrap-requires : goal.unwrap-requires
unwrap-requires c =
    let spare : vec_len c.match-place.links < vec_capacity c.match-place.links = elim c.match-place.branch [
      | in-Some w ↦ subst (λ (v : Vec Links Global). vec_len v < vec_capacity v) (sym w.links-is) c.requires.spare
      | in-None w ↦ subst (λ (v : Vec Links Global). vec_len v < vec_capacity v) (sym w.links-is) c.requires.spare
    ] in
    c.push.ensures.succeeds spare

pub returns : goal.returns
returns c = λ places entry linked within.
    let inside : c.args.above < length c.args.links.now.items = omega (arith, within, linked.long) in
    let here : c.index-place.result.now ≡ links_at c.args.links.now.items c.args.above =
    c.index-place.ensures ∙ get_or_default c.args.links.now.items c.args.above c.index-place.result.now no_links inside
    in
    let m_is : c.len-number.result ≡ length c.args.links.now.items = omega (arith, c.len-number.ensures) in
    elim c.match-place.branch [
      | in-Some w ↦
          let last : (links_at c.args.links.now.items c.args.above).last_child ≡ Some w.in-Some.last = ap (λ (x : Links). x.last_child) (sym here) ∙ w.in-Some.is in
          let l_in = last_within places c.args.links.now.items c.args.above w.in-Some.last linked within last in
          let old : w.index_mut.result.now ≡ links_at c.args.links.now.items w.in-Some.last =
          w.index_mut.ensures.value ∙ get_or_default c.args.links.now.items w.in-Some.last w.index_mut.result.now no_links l_in
          in
          let made : c.match-place.links.items ≡ set c.args.links.now.items w.in-Some.last (record w.index_mut.result.now { next_sibling = Some (length c.args.links.now.items) }) =
          ap (λ (v : Vec Links Global). v.items) w.links-is ∙ ap (λ m. set c.args.links.now.items w.in-Some.last (record w.index_mut.result.now { next_sibling = Some m })) m_is
          in
          let made_in : c.args.above < length c.match-place.links.items = omega (arith, inside, ap length made, length-set c.args.links.now.items w.in-Some.last (record w.index_mut.result.now { next_sibling = Some (length c.args.links.now.items) })) in
          let two = c.index_mut-2.ensures.value ∙ get_or_default c.match-place.links.items c.args.above c.index_mut-2.result.now no_links made_in ∙ ap (λ ls. links_at ls c.args.above) made in
          let spare = subst (λ (v : Vec Links Global). vec_len v < vec_capacity v) (sym w.links-is) c.requires.spare in
          linked_more places c.args.above entry within c.args.links.now.items c.push.new.self.items linked
          (subst (λ ls. IsGrown c.args.links.now.items ls c.args.above)
          (sym (shape_is c.args.links.now.items _ c.match-place.links.items c.push.new.self.items c.args.above c.len-number.result c.index_mut-2.result.now c.new.result c.index-place.result.now m_is made two c.new.ensures here
          (c.push.ensures.items ∙ taken c.push.result _ _ (c.push.ensures.succeeds spare))))
          (grown_after c.args.links.now.items c.args.above w.in-Some.last w.index_mut.result.now inside l_in last old))
      | in-None w ↦
          let none : (links_at c.args.links.now.items c.args.above).last_child ≡ None = ap (λ (x : Links). x.last_child) (sym here) ∙ w.in-None.is in
          let old : w.index_mut-in-None.result.now ≡ links_at c.args.links.now.items c.args.above =
          w.index_mut-in-None.ensures.value ∙ get_or_default c.args.links.now.items c.args.above w.index_mut-in-None.result.now no_links inside
          in
          let made : c.match-place.links.items ≡ set c.args.links.now.items c.args.above (record w.index_mut-in-None.result.now { first_child = Some (length c.args.links.now.items) }) =
          ap (λ (v : Vec Links Global). v.items) w.links-is ∙ ap (λ m. set c.args.links.now.items c.args.above (record w.index_mut-in-None.result.now { first_child = Some m })) m_is
          in
          let made_in : c.args.above < length c.match-place.links.items = omega (arith, inside, ap length made, length-set c.args.links.now.items c.args.above (record w.index_mut-in-None.result.now { first_child = Some (length c.args.links.now.items) })) in
          let two = c.index_mut-2.ensures.value ∙ get_or_default c.match-place.links.items c.args.above c.index_mut-2.result.now no_links made_in ∙ ap (λ ls. links_at ls c.args.above) made in
          let spare = subst (λ (v : Vec Links Global). vec_len v < vec_capacity v) (sym w.links-is) c.requires.spare in
          linked_more places c.args.above entry within c.args.links.now.items c.push.new.self.items linked
          (subst (λ ls. IsGrown c.args.links.now.items ls c.args.above)
          (sym (shape_is c.args.links.now.items _ c.match-place.links.items c.push.new.self.items c.args.above c.len-number.result c.index_mut-2.result.now c.new.result c.index-place.result.now m_is made two c.new.ensures here
          (c.push.ensures.items ∙ taken c.push.result _ _ (c.push.ensures.succeeds spare))))
          (grown_first c.args.links.now.items c.args.above w.index_mut-in-None.result.now inside none old))
    ]
