-- The rights of pages, by the segments that touch them.
use Rattle.std.proofs.Common.{◌≡◌, ℕ, zero, suc, ◌+◌, ◌-◌, ◌<◌, ◌≤◌, ◌/◌, List, [], ◌∷◌, length, Bool, true, false, ◌&&◌, ◌||◌, ap, ap₂, sym, refl, ◌∙◌, subst, arith, Option, Some, None, cond, inl, inr, fold, get_or}
use Rattle.std.specs.Prelude.{◌*◌, max, nat_le, nat_lt, slice_index_or, is_some, if◌then◌else◌}
use Rattle.std.specs.List.{All, count_by, range_with_len}
use Rattle.std.proofs.lemmas.Bool.{cases_eq, cases_lt}
use Rattle.std.proofs.lemmas.Bool.Decides.{nat_tests}
use Rattle.guest_words.specs.declared.limits.TheConstants.{PAGES, STACK_PAGES}
use Rattle.guest_words.specs.declared.rights.Rights.{Rights}
use Rattle.guest_memory.specs.Memory.{Memory, count_mapped, is_among, mapped_pages, with_bytes, with_pages}
use Rattle.guest_memory.proofs.Counts.{count_of_change, one}
use Rattle.guest_memory.proofs.PageChanges.{among_other}
use Rattle.guest_memory.proofs.Accesses.{none_of}
use Rattle.std.proofs.lemmas.List.Sums.{sum_by-cons}
use Rattle.std.proofs.Math.Bool.{or-false, or-true, or_assoc}
use Rattle.elf_image.specs.Image.{Executable, IsPlaced, Segment, is_touched, page_count, touches}
use Rattle.guest_machine.specs.Private.Setup.{AreRights, mapped_below, pages_of}
use Rattle.guest_machine.specs.Start.{first_break, image_memory, joined, rights_or_none, segment_rights, stack_page, stack_rights, start_memory, with_segment}

-- a segment was added to the pages below one
abbrev pub filled : Segment → ℕ → Option Rights → ℕ → Option Rights
filled s page old q = cond (nat_le (s.place / 4096) q && nat_lt q page) (Some (joined (rights_or_none old) s.rights)) old

-- ---- which pages have rights
is_some-with : (page : ℕ) (r : Option Rights) (s : Segment) → is_some (with_segment page r s) ≡ (is_some r || touches s page)
is_some-with page r s = by_touch (touches s page) r
  where
    by_touch : (b : Bool) (o : Option Rights) → is_some (cond b (Some (joined (rights_or_none o) s.rights)) o) ≡ (is_some o || b)
    by_touch true None = refl
    by_touch true (Some p) = refl
    by_touch false None = refl
    by_touch false (Some p) = refl

some_folded : (page : ℕ) (segments : List Segment) (r : Option Rights) → is_some (fold (with_segment page) r segments) ≡ (is_some r || is_touched segments page)
some_folded page [] r = sym (or-false (is_some r))
some_folded page (s ∷ segments) r =
    some_folded page segments (with_segment page r s)
    ∙ ap (λ b. b || is_touched segments page) (is_some-with page r s)
    ∙ or_assoc (is_some r) (touches s page) (is_touched segments page)

pub rights-touched : (segments : List Segment) (page : ℕ) → is_some (segment_rights segments page) ≡ is_touched segments page
rights-touched segments page = some_folded page segments None

-- a page of a byte that is written
touched_at : (segments : List Segment) (i : ℕ) (d : Segment) (page : ℕ) → i < length segments → touches (get_or segments i d) page ≡ true → is_touched segments page ≡ true
touched_at [] i d page within is = absurd (omega (arith, within))
touched_at (s ∷ segments) zero d page within is = rw is refl
touched_at (s ∷ segments) (suc i) d page within is = ap (λ b. touches s page || b) (touched_at segments i d page (omega (arith, within)) is) ∙ or-true (touches s page)

byte_touches : (s : Segment) (q : ℕ) → IsPlaced s → s.place ≤ q → q < s.place + length s.bytes → touches s (q / 4096) ≡ true
byte_touches s q placed low high =
    let from : s.place / 4096 ≤ q / 4096 = omega (arith, low) in
    let within : length s.bytes ≤ s.size = placed.within in
    let to : q / 4096 ≤ (s.place + s.size - 1) / 4096 = omega (arith, high, within) in
    grind (arith, nat_tests, from, to)

pub segment_mapped : (segments : List Segment) (i : ℕ) (d s : Segment) (bytes : List ℕ) (q : ℕ) → All IsPlaced segments → i < length segments → s ≡ get_or segments i d → bytes ≡ s.bytes → s.place ≤ q → q < s.place + length bytes → is_some (segment_rights segments (q / 4096)) ≡ true
segment_mapped segments i d s bytes q placed within is same low high =
    let lies : IsPlaced s = subst IsPlaced (sym is) (placed i d within) in
    let whole : length bytes ≡ length s.bytes = ap length same in
    let touching : touches s (q / 4096) ≡ true = byte_touches s q lies low (omega (arith, high, whole)) in
    rights-touched segments (q / 4096) ∙ touched_at segments i d (q / 4096) within (sym (ap (λ (t : Segment). touches t (q / 4096)) is) ∙ touching)

-- no segment touches a page from 0x40000 on
far_by : (s : Segment) (page : ℕ) → IsPlaced s → 0x40000 ≤ page → touches s page ≡ false
far_by s page placed far =
    let high : s.place + s.size ≤ 0x40000000 = placed.high in
    let some : 1 ≤ s.size = placed.some in
    let beyond : (s.place + s.size - 1) / 4096 < page = omega (arith, high, far, some) in
    grind (arith, nat_tests, beyond)

pub far_untouched : (segments : List Segment) (page : ℕ) → All IsPlaced segments → 0x40000 ≤ page → is_touched segments page ≡ false
far_untouched [] page placed far = refl
far_untouched (s ∷ segments) page placed far =
    rw (far_by s page (placed 0 s (omega arith)) far) (far_untouched segments page (λ i d within. placed (suc i) d (omega (arith, within))) far)

pub far_rights : (segments : List Segment) (page : ℕ) → All IsPlaced segments → 0x40000 ≤ page → segment_rights segments page ≡ None
far_rights segments page placed far = none_of _ (rights-touched segments page ∙ far_untouched segments page placed far)

-- a whole table is the pages of the segments
pub table_whole : (segments : List Segment) (table : List (Option Rights)) → All IsPlaced segments → AreRights segments table → mapped_below table 0x40000 ≡ pages_of segments
table_whole segments table placed are = λ i. record { rights = λ page. each page i; byte = λ _. 0 }
  where
    each : (page : ℕ) → (if nat_lt page 0x40000 then slice_index_or table page None else None) ≡ segment_rights segments page
    each page = elim (cases_lt page 0x40000) [
      | inl low ↦ ap (λ b. cond b (slice_index_or table page None) None) (below low) ∙ are.each page low
      | inr high ↦ ap (λ b. cond b (slice_index_or table page None) None) (above high) ∙ sym (far_rights segments page placed high)
    ]
      where
        below : page < 0x40000 → nat_lt page 0x40000 ≡ true
        below low = grind (arith, nat_tests, low)

        above : 0x40000 ≤ page → nat_lt page 0x40000 ≡ false
        above high = grind (arith, nat_tests, high)

-- ---- how many pages are mapped
count_is : (rights : ℕ → Option Rights) (test : ℕ → Bool) (first n : ℕ) → ((page : ℕ) → is_some (rights page) ≡ test page) → count_mapped rights first n ≡ count_by test (range_with_len first n)
unfolding count_mapped
count_is rights test first zero same = refl
count_is rights test first (suc n) same = ap₂ (λ (b : Bool) k. cond b 1 0 + k) (same first) (count_is rights test (first + 1) n same) ∙ sym (sum_by-cons (λ (x : ℕ). cond (test x) 1 0) first (range_with_len (first + 1) n))

count_most : (rights more : ℕ → Option Rights) (first n : ℕ) → ((page : ℕ) → is_some (rights page) ≡ true → is_some (more page) ≡ true) → count_mapped rights first n ≤ count_mapped more first n
unfolding count_mapped
count_most rights more first zero within = omega arith
count_most rights more first (suc n) within =
    let rest = count_most rights more (first + 1) n within in
    by_here (is_some (rights first)) (is_some (more first)) (within first) rest
  where
    by_here : (a b : Bool) → (a ≡ true → b ≡ true) → count_mapped rights (first + 1) n ≤ count_mapped more (first + 1) n → cond a 1 0 + count_mapped rights (first + 1) n ≤ cond b 1 0 + count_mapped more (first + 1) n
    by_here true true both rest = omega (arith, rest)
    by_here true false both rest = let bad = both refl in absurd (cc)
    by_here false true both rest = omega (arith, rest)
    by_here false false both rest = omega (arith, rest)

pub pages-counted : (segments : List Segment) → mapped_pages (pages_of segments) ≡ page_count segments
unfolding page_count
pages-counted segments = count_is (segment_rights segments) (is_touched segments) 0 1048576 (rights-touched segments)

pub most_pages : (m : Memory) (segments : List Segment) → ((page : ℕ) → is_some (m.rights page) ≡ true → is_some (segment_rights segments page) ≡ true) → mapped_pages m ≤ page_count segments
most_pages m segments within =
    let most = count_most m.rights (segment_rights segments) 0 1048576 within in
    omega (arith, most, pages-counted segments)

-- there is room for each page of a table
within_by : (segments : List Segment) (table : List (Option Rights)) (page : ℕ) (rights : Rights) (q : ℕ) → AreRights segments table → page < 0x40000 → slice_index_or table page None ≡ Some rights → is_some ((with_pages (mapped_below table page) page 1 (Some rights)).rights q) ≡ true → is_some (segment_rights segments q) ≡ true
within_by segments table page rights q are low here some = elim (cases_eq q page) [
  | inl same ↦ ap (λ p. is_some (segment_rights segments p)) same ∙ ap (λ o. is_some o) (sym (are.each page low) ∙ here)
  | inr differs ↦
      let left : is_some (if nat_lt q page then slice_index_or table q None else None) ≡ true = sym (ap (λ b. is_some (cond b (Some rights) (if nat_lt q page then slice_index_or table q None else None))) (among_other page q differs)) ∙ some in
      by_below (nat_lt q page) refl left
]
  where
    by_below : (b : Bool) → nat_lt q page ≡ b → is_some (cond b (slice_index_or table q None) None) ≡ true → is_some (segment_rights segments q) ≡ true
    by_below true e left = let less : q < page = grind (arith, nat_tests, e) in ap (λ o. is_some o) (sym (are.each q (omega (arith, less, low)))) ∙ left
    by_below false e left = absurd (cc)

pub room_left : (segments : List Segment) (table : List (Option Rights)) (m : Memory) (page : ℕ) (rights : Rights) → AreRights segments table → m ≡ mapped_below table page → page < 0x40000 → slice_index_or table page None ≡ Some rights → page_count segments ≤ PAGES → 16384 < mapped_pages m + 1 → ⊥
room_left segments table m page rights are is low here few full =
    let below = mapped_below table page in
    let free : below.rights page ≡ None = ap (λ b. cond b (slice_index_or table page None) None) (not_below page) in
    let none : one (below.rights page) ≡ 0 = ap one free in
    let more = count_of_change below (with_pages below page 1 (Some rights)) page (Some rights) (omega (arith, low)) refl in
    let most = most_pages (with_pages below page 1 (Some rights)) segments (λ q some. within_by segments table page rights q are low here some) in
    let same : mapped_pages m ≡ mapped_pages below = ap mapped_pages is in
    omega (arith, few, full, none, more, most, same)
  where
    not_below : (n : ℕ) → nat_lt n n ≡ false
    not_below n = grind (arith, nat_tests)

-- the bytes of segments leave the rights
pub written_rights : (segments : List Segment) (m : Memory) → (fold (λ m s. with_bytes m s.place s.bytes) m segments).rights ≡ m.rights
written_rights [] m = refl
written_rights (s ∷ segments) m = written_rights segments (with_bytes m s.place s.bytes)

-- the memory of an image has the rights and the pages of its segments
pub image_rights : (segments : List Segment) → (image_memory segments).rights ≡ segment_rights segments
image_rights segments = written_rights segments (pages_of segments)

pub image-counted : (segments : List Segment) → mapped_pages (image_memory segments) ≡ page_count segments
unfolding page_count
image-counted segments = count_is (image_memory segments).rights (is_touched segments) 0 1048576 (λ page. ap (λ r. is_some (r page)) (image_rights segments) ∙ rights-touched segments page)

-- no segment touches a page behind the greatest end
behind_by : (s : Segment) (page : ℕ) → IsPlaced s → s.place + s.size ≤ page * 4096 → touches s page ≡ false
behind_by s page placed behind =
    let some : 1 ≤ s.size = placed.some in
    let beyond : (s.place + s.size - 1) / 4096 < page = omega (arith, behind, some) in
    grind (arith, nat_tests, beyond)

end_grows : (segments : List Segment) (end : ℕ) → end ≤ fold (λ end s. max end (s.place + s.size)) end segments
end_grows [] end = omega arith
end_grows (s ∷ segments) end =
    let rest = end_grows segments (max end (s.place + s.size)) in
    let here : end ≤ max end (s.place + s.size) = grind (arith, nat_tests) in
    omega (arith, rest, here)

behind_all : (segments : List Segment) (end page : ℕ) → All IsPlaced segments → fold (λ end s. max end (s.place + s.size)) end segments ≤ page * 4096 → is_touched segments page ≡ false
behind_all [] end page placed behind = refl
behind_all (s ∷ segments) end page placed behind =
    let rest = end_grows segments (max end (s.place + s.size)) in
    let here : s.place + s.size ≤ max end (s.place + s.size) = grind (arith, nat_tests) in
    rw (behind_by s page (placed 0 s (omega arith)) (omega (arith, rest, here, behind))) (behind_all segments (max end (s.place + s.size)) page (λ i d within. placed (suc i) d (omega (arith, within))) behind)

-- the pages from the first break up to the stack are free
pub start_free : (image : Executable) (arguments : List (List ℕ)) (page : ℕ) → All IsPlaced image.segments → first_break image.segments ≤ page * 4096 → page < 0x7F800 → (start_memory image arguments).rights page ≡ None
start_free image arguments page placed behind low =
    ap (λ b. cond b (Some stack_rights) ((image_memory image.segments).rights page)) among
    ∙ ap (λ r. r page) (image_rights image.segments)
    ∙ none_of _ (rights-touched image.segments page ∙ behind_all image.segments 0 page placed (omega (arith, behind)))
  where
    among : is_among stack_page STACK_PAGES page ≡ false
    among = grind (arith, nat_tests, low)
