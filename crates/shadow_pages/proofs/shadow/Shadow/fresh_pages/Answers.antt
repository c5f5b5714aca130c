use Rattle.std.proofs.Common.{◌≡◌, ◌∙◌, ◌≤◌, ◌+◌, vec_len, [], ◌∷◌, Bool, true, ap, arith, map, refl, subst, sym, not}
use Rattle.std.specs.Option.{is_some}
use Rattle.std.proofs.lemmas.List.{map-append}
use Rattle.shadow_pages.specs.declared.shadow.Page.{Page as Kept}
use Rattle.shadow_pages.specs.Pages.{AreFresh, AreKept, Page, Pages}
use Rattle.shadow_pages.proofs.Fresh.{fresh_kept, fresh_more}
use Rattle.shadow_pages.proofs.Lookups.{nowhere, same_cover}
use Rattle.shadow_pages.proofs.Places.{seen}
use Rattle.shadow_pages.proofs.shadow.Shadow.fresh_pages.Goals as goal
use Rattle.shadow_pages.proofs.shadow.Shadow.fresh_pages.Goals.{then-is_none+in_ok-stamps+in_ok-push, else-is_none}

-- what is there is not absent
no_none : (b a : Bool) → b ≡ not a → a ≡ true → b ≡ true → ⊥
no_none b a is none has = cc

pub returns-in_err-stamps-clause-covered : goal.returns-in_err-stamps-clause-covered
returns-in_err-stamps-clause-covered g c = λ all.
    let kept = subst (λ ps. AreKept c.self.inside.directory ps) (ap (λ (s : Pages). s.pages) c.self.view_is) c.self.invariant in
    let n = c.loop-number.number in
    absurd (no_none (is_some c.place.result) c.is_none.result c.is_none.ensures c.if-is_none.true (ap is_some c.place.ensures ∙ same_cover c.self.inside.directory c.args.self.now.pages kept.indexed n ∙ all n (omega arith) (omega arith)))

pub returns-in_err-push-clause-covered : goal.returns-in_err-push-clause-covered
returns-in_err-push-clause-covered g c = λ all.
    let kept = subst (λ ps. AreKept c.self.inside.directory ps) (ap (λ (s : Pages). s.pages) c.self.view_is) c.self.invariant in
    let n = c.loop-number.number in
    absurd (no_none (is_some c.place.result) c.is_none.result c.is_none.ensures c.if-is_none.true (ap is_some c.place.ensures ∙ same_cover c.self.inside.directory c.args.self.now.pages kept.indexed n ∙ all n (omega arith) (omega arith)))

pub loop-number-preserved : goal.loop-number-preserved
loop-number-preserved g c =
    let look : Kept g.row.S.Denot → Page = seen (λ p. p.number) (λ p. map g.S.Stamp.number_of p.stamps.items) in
    let pages = c.args.self.now.pages in
    let kept = subst (λ ps. AreKept c.self.inside.directory ps) (ap (λ (s : Pages). s.pages) c.self.view_is) c.self.invariant in
    let n = c.loop-number.number in
    let low : c.args.low ≤ n = omega arith in
    record {
      fresh = elim c.if-is_none.branch [
        | then-is_none+in_ok-stamps+in_ok-push w ↦
            let none = nowhere c.self.inside.directory pages kept.indexed n (ap is_some (sym c.place.ensures) ∙ c.is_none.ensures ∙ ap not w.if-is_none.true) in
            let page : Kept g.row.S.Denot = record { number = n; stamps = w.in_ok-stamps.stamps } in
            let items = c.loop-number.fresh.items in
            let pushed = ap (λ f. map look f.items) w.fresh-is ∙ ap (λ xs. map look xs) w.in_ok-push.ensures.items ∙ map-append look items (page ∷ []) in
            subst (λ fresh. AreFresh pages fresh c.args.low (n + 1)) (sym pushed) (fresh_more pages (map look items) c.args.low n (look page) c.loop-number.invariant.fresh low none refl w.in_ok-stamps.ensures)
        | else-is_none w ↦
            let has = sym (same_cover c.self.inside.directory pages kept.indexed n) ∙ ap is_some (sym c.place.ensures) ∙ c.is_none.ensures ∙ ap not w.if-is_none.false in
            subst (λ fresh. AreFresh pages (map look fresh.items) c.args.low (n + 1)) (sym w.fresh-is) (fresh_kept pages (map look c.loop-number.fresh.items) c.args.low n c.loop-number.invariant.fresh has)
      ];
      few = elim c.if-is_none.branch [
        | then-is_none+in_ok-stamps+in_ok-push w ↦ let long = ap vec_len w.fresh-is in omega (arith, long, w.in_ok-push.ensures.len, c.loop-number.invariant.few)
        | else-is_none w ↦ let long = ap vec_len w.fresh-is in omega (arith, long, c.loop-number.invariant.few)
      ];
    }

pub returns-clause-ok : goal.returns-clause-ok
returns-clause-ok g c =
    let look : Kept g.row.S.Denot → Page = seen (λ p. p.number) (λ p. map g.S.Stamp.number_of p.stamps.items) in
    let done : c.loop-number.number ≡ c.args.end = omega arith in
    subst (λ n. AreFresh c.args.self.now.pages (map look c.loop-number.fresh.items) c.args.low n) done c.loop-number.invariant.fresh
