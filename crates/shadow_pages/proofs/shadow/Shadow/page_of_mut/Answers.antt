use Rattle.std.proofs.Common.{◌/◌, ◌∙◌, Some, ap, ap₂, sym, map, refl}
use Rattle.shadow_pages.specs.Pages.{refilled}
use Rattle.shadow_pages.proofs.Changes.{changed_place}
use Rattle.shadow_pages.proofs.Lookups.{only_page}
use Rattle.shadow_pages.proofs.shadow.Shadow.page_of_mut.Goals as goal

pub returns : goal.returns
returns g c =
    let pages = c.args.self.now.pages in
    let place = c.place-place.ensures in (
      (refl, λ w. ap (λ ps. record { pages = ps }) (sym (changed_place pages (c.args.w / 1024) c.place-place.result (λ old. refilled old (map g.S.Stamp.number_of w)) place.within place.page place.only))),
      record {
        writes_back = tt;
        value =
            only_page pages (c.args.w / 1024) c.place-place.result place.within place.page place.only
            ∙ ap₂ (λ n stamps. Some (record { number = n; stamps = stamps })) place.page (sym c.page_mut.ensures.value);
        count = c.page_mut.ensures.count;
      },
    )
