-- Segments by rising place: overlaps and pages, of their headers.
use Rattle.std.proofs.Common.{◌≡◌, ℕ, ◌+◌, ◌-◌, ◌/◌, ◌%◌, ◌<◌, ◌≤◌, max, Bool, true, false, not, eqb, ltb, ◌&&◌, ◌||◌, List, [], ◌∷◌, ◌++◌, length, get_or, map, take, Some, None, refl, sym, ap, ap₂, ◌∙◌, arith}
use Rattle.std.specs.List.{count_by, find, range_with_len}
use Rattle.std.specs.List.Sorted.{IsPermutation}
use Rattle.std.proofs.lemmas.Bool.{and_from, and_right, le-ltb, lt-ltb}
use Rattle.std.proofs.Math.Bool.{and_comm}
use Rattle.std.proofs.lemmas.List.{map-append, take_more}
use Rattle.std.proofs.lemmas.List.Recursion.{found_at, found_nowhere}
use Rattle.std.proofs.lemmas.List.Sorted.{IsPermutation-map, list_any-IsPermutation}
use Rattle.elf_image.specs.declared.headers.ProgramHeader.{ProgramHeader}
use Rattle.elf_image.specs.Headers.{file_header}
use Rattle.elf_image.specs.Image.{Segment, is_code, is_touched, page_count, share_byte, touches}
use Rattle.elf_image.specs.Private.Layout.{AreCounted}
use Rattle.elf_image.specs.Segments.{holds_headers, occupied_headers, segment_of, segments_of}
use Rattle.elf_image.specs.Tests.{any_two, fails_entry}
use Rattle.elf_image.proofs.PageCounts.{counted_more, pages_counted}
use Rattle.elf_image.proofs.Pairs.{any_two-at, any_two-none, any_two-permutation, list_any-map}

-- related elements of what a map gives
pub any_two-map : {X Y : Type 0} (r : Y → Y → Bool) (f : X → Y) (xs : List X) → any_two r (map f xs) ≡ any_two (λ x y. r (f x) (f y)) xs
any_two-map r f [] = refl
any_two-map r f (x ∷ xs) = ap₂ (λ a b. a || b) (list_any-map (r (f x)) f xs) (any_two-map r f xs)

abbrev meet : ProgramHeader → ProgramHeader → Bool
meet g h = ltb g.p_vaddr (h.p_vaddr + h.p_memsz) && ltb h.p_vaddr (g.p_vaddr + g.p_memsz)

-- a segment that begins before one that lies lower has ended
pub overlap_at : (file : List ℕ) (hs : List ProgramHeader) (i j : ℕ) (d : ProgramHeader) → i < j → j < length hs
    → (get_or hs i d).p_vaddr ≤ (get_or hs j d).p_vaddr → 1 ≤ (get_or hs j d).p_memsz
    → (get_or hs j d).p_vaddr < (get_or hs i d).p_vaddr + (get_or hs i d).p_memsz
    → any_two share_byte (map (segment_of file) hs) ≡ true
overlap_at file hs i j d lt inside rises some early = any_two-map share_byte (segment_of file) hs
    ∙ any_two-at meet hs i j d lt inside (and_from _ _ (lt-ltb _ _ (omega arith)) (lt-ltb _ _ early))

-- each segment begins where those before it have ended
pub no_overlap : (file : List ℕ) (hs : List ProgramHeader)
    → ((i j : ℕ) (d : ProgramHeader) → i < j → j < length hs → (get_or hs i d).p_vaddr + (get_or hs i d).p_memsz ≤ (get_or hs j d).p_vaddr)
    → any_two share_byte (map (segment_of file) hs) ≡ false
no_overlap file hs apart = any_two-map share_byte (segment_of file) hs
    ∙ any_two-none meet hs (λ i j d lt inside. and_right _ _ (le-ltb _ _ (apart i j d lt inside)))

-- one more segment is counted
pub counted_one : (file : List ℕ) (hs : List ProgramHeader) (i low next pages : ℕ) (d : ProgramHeader) → i < length hs
    → AreCounted (map (segment_of file) (take i hs)) low next pages
    → 1 ≤ (get_or hs i d).p_memsz → (get_or hs i d).p_vaddr + (get_or hs i d).p_memsz ≤ 0x40000000 → low ≤ (get_or hs i d).p_vaddr / 4096
    → AreCounted (map (segment_of file) (take (i + 1) hs)) ((get_or hs i d).p_vaddr / 4096)
    (max next (((get_or hs i d).p_vaddr + (get_or hs i d).p_memsz - 1) / 4096 + 1))
    (pages + (((get_or hs i d).p_vaddr + (get_or hs i d).p_memsz - 1) / 4096 + 1 - max next ((get_or hs i d).p_vaddr / 4096)))
counted_one file hs i low next pages d inside before some high rises =
    let grown : map (segment_of file) (take (i + 1) hs) ≡ map (segment_of file) (take i hs) ++ segment_of file (get_or hs i d) ∷ [] =
    ap (map (segment_of file)) (take_more hs i d inside) ∙ map-append (segment_of file) (take i hs) (get_or hs i d ∷ []) in
    rw grown (counted_more (map (segment_of file) (take i hs)) (segment_of file (get_or hs i d)) low next pages before some high rises)

-- the least page that counts may rise
pub counted_above : (segments : List Segment) (low above next pages : ℕ) → low ≤ above → AreCounted segments low next pages → AreCounted segments above next pages
counted_above segments low above next pages le before = record { count = before.count; below = before.below; filled = λ page over. before.filled page (omega arith) }

-- the header that stands for none
abbrev pub no_header : ProgramHeader
no_header = record { p_type = 0; p_offset = 0; p_vaddr = 0; p_filesz = 0; p_memsz = 0; p_flags = 0 }

share-even : (s t : Segment) → share_byte s t ≡ share_byte t s
share-even s t = and_comm (ltb s.place (t.place + t.size)) (ltb t.place (s.place + s.size))

-- overlaps and pages are those of the same segments in another order
pub overlap-permutation : (file : List ℕ) (hs gs : List ProgramHeader) → IsPermutation hs gs
    → any_two share_byte (map (segment_of file) gs) ≡ any_two share_byte (map (segment_of file) hs)
overlap-permutation file hs gs moves = any_two-permutation share_byte share-even _ _ (IsPermutation-map (segment_of file) hs gs moves)

pub pages-permutation : (file : List ℕ) (hs gs : List ProgramHeader) → IsPermutation hs gs
    → page_count (map (segment_of file) gs) ≡ page_count (map (segment_of file) hs)
pages-permutation file hs gs moves = over 1048576 refl
  where
    touched : (page : ℕ) → is_touched (map (segment_of file) gs) page ≡ is_touched (map (segment_of file) hs) page
    touched page = sym (list_any-IsPermutation (λ s. touches s page) _ _ (IsPermutation-map (segment_of file) hs gs moves))

    over : (n : ℕ) → n ≡ 1048576 → page_count (map (segment_of file) gs) ≡ page_count (map (segment_of file) hs)
    over n whole = pages_counted (map (segment_of file) gs) n whole
        ∙ (ap (λ t. count_by t (range_with_len 0 n)) (λ i page. touched page i) ∙ sym (pages_counted (map (segment_of file) hs) n whole))

-- the first segment whose file part holds the program headers, and none
pub found_headers : (file : List ℕ) (hs : List ProgramHeader) (i : ℕ) → i < length hs → ((k : ℕ) → k < i → holds_headers file (get_or hs k no_header) ≡ false)
    → holds_headers file (get_or hs i no_header) ≡ true → find (holds_headers file) hs ≡ Some (get_or hs i no_header)
found_headers file hs i inside before here = found_at (find (holds_headers file)) (holds_headers file) Some None refl (λ h rest. refl) hs i no_header inside before here

pub no_found_headers : (file : List ℕ) (hs : List ProgramHeader) → ((k : ℕ) → k < length hs → holds_headers file (get_or hs k no_header) ≡ false)
    → find (holds_headers file) hs ≡ None
no_found_headers file hs none = found_nowhere (find (holds_headers file)) (holds_headers file) Some None refl (λ h rest. refl) hs no_header none

-- what the parts told of an ordered list, of the file
pub entry_is : (file : List ℕ) (hs : List ProgramHeader) (entry : ℕ) (r : Bool) → hs ≡ occupied_headers file → entry ≡ (file_header file).e_entry
    → r ≡ (eqb (entry % 4) 0 && is_code (map (segment_of file) hs) entry) → not r ≡ fails_entry file
entry_is file hs entry r whole header told =
    ap not told ∙ (ap (λ xs. not (eqb (entry % 4) 0 && is_code (map (segment_of file) xs) entry)) whole
    ∙ ap (λ e. not (eqb (e % 4) 0 && is_code (segments_of file) e)) header)
