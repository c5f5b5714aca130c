use Rattle.std.proofs.Common.{◌≡◌, ◌∙◌, ◌==◌, ◌<◌, ◌/◌, ◌++◌, ℕ, Bool, false, ap, arith, get_or, length, map, subst, sym}
use Rattle.std.proofs.lemmas.Bool.Decides.{nat_tests}
use Rattle.std.proofs.lemmas.List.{get_or-map, length-append, length-map, map-append}
use Rattle.shadow_pages.specs.declared.shadow.Page.{Page as Kept}
use Rattle.shadow_pages.specs.Directory.{HasTable}
use Rattle.shadow_pages.specs.Pages.{AreFresh, AreKept, IsIndexed, Page, Pages, covers, stamp_at}
use Rattle.shadow_pages.proofs.Fresh.{all_tables, have_all, indexed_front, kept_more, kept_same, left_has, none_fresh, stamps_kept}
use Rattle.shadow_pages.proofs.Places.{seen}
use Rattle.shadow_pages.proofs.shadow.Shadow.reserve.Goals as goal

-- a list that is not empty, and has no element
not_empty : (n m : ℕ) (b : Bool) → b ≡ (n == 0) → b ≡ false → n ≡ m → m ≡ 0 → ⊥
not_empty n m b is some same none = grind (arith, nat_tests, is, some, same, none)

pub returns-in_err-fresh-clause-covered : goal.returns-in_err-fresh-clause-covered
returns-in_err-fresh-clause-covered g c = λ covered.
    let range = c.page_range-low.ensures in
    let ok = c.in_err-fresh.ensures.covered (have_all c.args.self.now.pages c.page_range-low.result.0 c.page_range-low.result.1 c.args.first c.args.count range.meets covered) in
    absurd (cc)

pub invariant_of-self : goal.invariant_of-self
invariant_of-self g c = kept_same c.self.inside.directory c.reserve_all.new.self _ c.self.invariant c.reserve_all.ensures.entries

pub returns-in_err-reserve_all-clause-covered : goal.returns-in_err-reserve_all-clause-covered
returns-in_err-reserve_all-clause-covered g c = λ covered.
    let look : Kept g.row.S.Denot → Page = seen (λ p. p.number) (λ p. map g.S.Stamp.number_of p.stamps.items) in
    let pages = c.args.self.now.pages in
    let range = c.page_range-low.ensures in
    let low = c.page_range-low.result.0 in
    let end = c.page_range-low.result.1 in
    let fresh = c.in_ok-fresh.fresh in
    let none = none_fresh pages (map look fresh.items) low end c.in_ok-fresh.ensures.ok (have_all pages low end c.args.first c.args.count range.meets covered) in
    absurd (not_empty fresh.len (length (map look fresh.items)) c.is_empty.result c.is_empty.ensures c.if-is_empty.false (fresh.ok.0 ∙ sym (length-map fresh.items look)) none)

pub invariant_of-self-in_err-append : goal.invariant_of-self-in_err-append
invariant_of-self-in_err-append g c =
    let look : Kept g.row.S.Denot → Page = seen (λ p. p.number) (λ p. map g.S.Stamp.number_of p.stamps.items) in
    subst (λ xs. AreKept c.reserve_all.new.self (map look xs)) (sym c.in_err-append.ensures.items)
    (kept_same c.self.inside.directory c.reserve_all.new.self (map look c.self.inside.pages.items) c.self.invariant c.reserve_all.ensures.entries)

pub returns-in_err-append-clause-covered : goal.returns-in_err-append-clause-covered
returns-in_err-append-clause-covered g c = λ covered.
    let look : Kept g.row.S.Denot → Page = seen (λ p. p.number) (λ p. map g.S.Stamp.number_of p.stamps.items) in
    let pages = c.args.self.now.pages in
    let range = c.page_range-low.ensures in
    let low = c.page_range-low.result.0 in
    let end = c.page_range-low.result.1 in
    let fresh = c.in_ok-fresh.fresh in
    let none = none_fresh pages (map look fresh.items) low end c.in_ok-fresh.ensures.ok (have_all pages low end c.args.first c.args.count range.meets covered) in
    absurd (not_empty fresh.len (length (map look fresh.items)) c.is_empty.result c.is_empty.ensures c.if-is_empty.false (fresh.ok.0 ∙ sym (length-map fresh.items look)) none)

pub enter-requires-clause-indexed : goal.enter-requires-clause-indexed
enter-requires-clause-indexed g c =
    let look : Kept g.row.S.Denot → Page = seen (λ p. p.number) (λ p. map g.S.Stamp.number_of p.stamps.items) in
    let items = c.self.inside.pages.items in
    let fresh = c.in_ok-fresh.fresh.items in
    let pages_are = ap (map look) c.deref.ensures.value ∙ ap (map look) c.in_ok-append.ensures.items ∙ map-append look items fresh in
    let long = length-map items look ∙ sym c.self.inside.pages.ok.0 ∙ sym c.len-from.ensures in
    subst (λ n. IsIndexed c.reserve_all.new.self (map look c.deref.result.now) n) long
    (subst (λ ps. IsIndexed c.reserve_all.new.self ps (length (map look items))) (sym pages_are)
    (indexed_front c.self.inside.directory c.reserve_all.new.self (map look items) (map look fresh) c.self.invariant.indexed c.reserve_all.ensures.entries))

pub enter-requires-clause-tables : goal.enter-requires-clause-tables
enter-requires-clause-tables g c = λ k d lt.
    let look : Kept g.row.S.Denot → Page = seen (λ p. p.number) (λ p. map g.S.Stamp.number_of p.stamps.items) in
    let items = c.self.inside.pages.items in
    let fresh = c.in_ok-fresh.fresh.items in
    let old_are : map look items ≡ c.args.self.now.pages = ap (λ (s : Pages). s.pages) c.self.view_is in
    let low = c.page_range-low.result.0 in
    let end = c.page_range-low.result.1 in
    let pages_are = ap (map look) c.deref.ensures.value ∙ ap (map look) c.in_ok-append.ensures.items ∙ map-append look items fresh in
    let new = subst (λ ps. AreFresh ps (map look fresh) low end) (sym old_are) c.in_ok-fresh.ensures.ok in
    let all = all_tables c.self.inside.directory c.reserve_all.new.self (map look items) (map look fresh) low end c.self.invariant.indexed c.reserve_all.ensures.entries new c.in_ok-reserve_all.ensures.placed in
    let seen_lt = subst (λ n. k < n) (sym (length-map c.deref.result.now look) ∙ ap length pages_are) lt in
    subst (λ (p : Page). HasTable c.reserve_all.new.self p.number) (ap (λ ps. get_or ps k (look d)) (sym pages_are) ∙ get_or-map look c.deref.result.now k d (look d) lt) (all k (look d) seen_lt)

pub invariant_of-self-2 : goal.invariant_of-self-2
invariant_of-self-2 g c =
    let look : Kept g.row.S.Denot → Page = seen (λ p. p.number) (λ p. map g.S.Stamp.number_of p.stamps.items) in
    let items = c.self.inside.pages.items in
    let fresh = c.in_ok-fresh.fresh.items in
    let old_are : map look items ≡ c.args.self.now.pages = ap (λ (s : Pages). s.pages) c.self.view_is in
    let low = c.page_range-low.result.0 in
    let end = c.page_range-low.result.1 in
    let added = ap (map look) c.in_ok-append.ensures.items ∙ map-append look items fresh in
    let pages_are = ap (map look) c.deref.ensures.value ∙ added in
    let new = subst (λ ps. AreFresh ps (map look fresh) low end) (sym old_are) c.in_ok-fresh.ensures.ok in
    let indexed = subst (λ ps. IsIndexed c.enter.new.directory ps (length ps)) pages_are (subst (λ n. IsIndexed c.enter.new.directory (map look c.deref.result.now) n) (sym (length-map c.deref.result.now look)) c.enter.ensures) in
    subst (λ ps. AreKept c.enter.new.directory ps) (sym added) (kept_more c.self.inside.directory c.enter.new.directory (map look items) (map look fresh) low end c.self.invariant new c.page_range-low.ensures.end indexed)

pub returns-clause-covered : goal.returns-clause-covered
returns-clause-covered g c = λ covered.
    let look : Kept g.row.S.Denot → Page = seen (λ p. p.number) (λ p. map g.S.Stamp.number_of p.stamps.items) in
    let pages = c.args.self.now.pages in
    let range = c.page_range-low.ensures in
    let low = c.page_range-low.result.0 in
    let end = c.page_range-low.result.1 in
    let fresh = c.in_ok-fresh.fresh in
    let none = none_fresh pages (map look fresh.items) low end c.in_ok-fresh.ensures.ok (have_all pages low end c.args.first c.args.count range.meets covered) in
    absurd (not_empty fresh.len (length (map look fresh.items)) c.is_empty.result c.is_empty.ensures c.if-is_empty.false (fresh.ok.0 ∙ sym (length-map fresh.items look)) none)

pub returns-clause-stamps : goal.returns-clause-stamps
returns-clause-stamps g c = λ w.
    let look : Kept g.row.S.Denot → Page = seen (λ p. p.number) (λ p. map g.S.Stamp.number_of p.stamps.items) in
    let items = c.self.inside.pages.items in
    let fresh = c.in_ok-fresh.fresh.items in
    let old_are : map look items ≡ c.args.self.now.pages = ap (λ (s : Pages). s.pages) c.self.view_is in
    let added = ap (map look) c.in_ok-append.ensures.items ∙ map-append look items fresh ∙ ap (λ ps. ps ++ map look fresh) old_are in
    ap (λ ps. stamp_at ps w) added ∙ stamps_kept c.args.self.now.pages (map look fresh) c.in_ok-fresh.ensures.ok.zero w

pub returns-clause-kept : goal.returns-clause-kept
returns-clause-kept g c = λ w has.
    let look : Kept g.row.S.Denot → Page = seen (λ p. p.number) (λ p. map g.S.Stamp.number_of p.stamps.items) in
    let items = c.self.inside.pages.items in
    let fresh = c.in_ok-fresh.fresh.items in
    let old_are : map look items ≡ c.args.self.now.pages = ap (λ (s : Pages). s.pages) c.self.view_is in
    let added = ap (map look) c.in_ok-append.ensures.items ∙ map-append look items fresh ∙ ap (λ ps. ps ++ map look fresh) old_are in
    ap (λ ps. covers ps w) added ∙ left_has c.args.self.now.pages (map look fresh) (w / 1024) has

pub returns-clause-few : goal.returns-clause-few
returns-clause-few g c =
    let look : Kept g.row.S.Denot → Page = seen (λ p. p.number) (λ p. map g.S.Stamp.number_of p.stamps.items) in
    let items = c.self.inside.pages.items in
    let fresh = c.in_ok-fresh.fresh.items in
    let old_are : map look items ≡ c.args.self.now.pages = ap (λ (s : Pages). s.pages) c.self.view_is in
    let added = ap (map look) c.in_ok-append.ensures.items ∙ map-append look items fresh ∙ ap (λ ps. ps ++ map look fresh) old_are in
    let long = ap length added ∙ length-append c.args.self.now.pages (map look fresh) in
    let size : length (map look fresh) ≡ length fresh = length-map fresh look in
    omega (arith, long, size, c.in_ok-fresh.fresh.ok.0, c.in_ok-fresh.ensures.few, c.page_range-low.ensures.few)
