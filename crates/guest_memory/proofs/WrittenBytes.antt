-- Bytes written into the pages of a directory.
use Rattle.std.proofs.Common.{◌≡◌, ◌≢◌, ℕ, ◌+◌, ◌-◌, ◌*◌, ◌<◌, ◌≤◌, ◌/◌, ◌%◌, Bool, true, false, cond, List, ◌++◌, length, get_or, take, drop, arith, refl, ap, ap₂, sym, ◌∙◌, inl, inr, length-append, length-drop, length-take}
use Rattle.std.specs.Option.{is_some}
use Rattle.std.proofs.lemmas.Bool.{cases_eq, cases_lt}
use Rattle.std.proofs.lemmas.Bool.Decides.{nat_tests}
use Rattle.std.proofs.lemmas.List.{get_or-drop, get_or-take, get_or_append_left, get_or-append_right}
use Rattle.guest_words.specs.declared.rights.Rights.{Rights}
use Rattle.guest_memory.specs.Pages.{IsDirectory, page_of, overwritten, with_page}
use Rattle.guest_memory.specs.State.{memory_in, rights_of}
use Rattle.guest_memory.specs.Memory.{Memory, is_among, with_bytes}
use Rattle.guest_memory.proofs.Accesses.{rights_some, some_bytes}
use Rattle.std.proofs.Common.{Vec, Global, take-add}
use Rattle.guest_memory.specs.declared.directory.Page.{Page}
use Rattle.guest_memory.specs.Pages.{IsPlaced}
use Rattle.guest_memory.proofs.Directories.{IsRead, page_read, IsPage, placed, page_here, page_there, is_page}

pub among_yes : (first count n : ℕ) → first ≤ n → n < first + count → is_among first count n ≡ true
among_yes first count n low high = grind (arith, nat_tests)

pub among_below : (first count n : ℕ) → n < first → is_among first count n ≡ false
among_below first count n low = grind (arith, nat_tests)

pub among_past : (first count n : ℕ) → first + count ≤ n → is_among first count n ≡ false
among_past first count n high = grind (arith, nat_tests)

among_moved : (first count n base : ℕ) → is_among (base + first) count (base + n) ≡ is_among first count n
among_moved first count n base = elim (cases_lt n first) [
  | inl low ↦ among_below (base + first) count (base + n) (omega arith) ∙ sym (among_below first count n low)
  | inr from ↦ elim (cases_lt n (first + count)) [
    | inl high ↦ among_yes (base + first) count (base + n) (omega arith) (omega arith) ∙ sym (among_yes first count n from high)
    | inr past ↦ among_past (base + first) count (base + n) (omega arith) ∙ sym (among_past first count n past)
  ]
]

pub length_overwritten : (old : List ℕ) (start : ℕ) (bytes : List ℕ) → start + length bytes ≤ length old → length (overwritten old start bytes) ≡ length old
length_overwritten old start bytes fits = simp (length-append, length-drop, length-take) (omega arith)

pub overwritten_at : (old : List ℕ) (start : ℕ) (bytes : List ℕ) (k : ℕ) → start + length bytes ≤ length old → get_or (overwritten old start bytes) k 0 ≡ cond (is_among start (length bytes) k) (get_or bytes (k - start) 0) (get_or old k 0)
overwritten_at old start bytes k fits =
    let front : length (take start old) ≡ start = simp length-take (omega arith) in
    elim (cases_lt k start) [
      | inl low ↦
          let lt : k < length (take start old) = omega arith in
          get_or_append_left (take start old) (bytes ++ drop (start + length bytes) old) 0 k lt ∙ get_or-take start old k 0 low
          ∙ ap (λ (b : Bool). cond b (get_or bytes (k - start) 0) (get_or old k 0)) (sym (among_below start (length bytes) k low))
      | inr from ↦
          let behind = get_or-append_right (take start old) (bytes ++ drop (start + length bytes) old) start k 0 front from in
          elim (cases_lt k (start + length bytes)) [
            | inl high ↦
                let lt : k - start < length bytes = omega arith in
                behind ∙ get_or_append_left bytes (drop (start + length bytes) old) 0 (k - start) lt
                ∙ ap (λ (b : Bool). cond b (get_or bytes (k - start) 0) (get_or old k 0)) (sym (among_yes start (length bytes) k from high))
            | inr past ↦
                let le : length bytes ≤ k - start = omega arith in
                let sum : (start + length bytes) + ((k - start) - length bytes) ≡ k = omega arith in
                behind ∙ get_or-append_right bytes (drop (start + length bytes) old) (length bytes) (k - start) 0 refl le
                ∙ get_or-drop (start + length bytes) old ((k - start) - length bytes) 0
                ∙ ap (λ (i : ℕ). get_or old i 0) sum
                ∙ ap (λ (b : Bool). cond b (get_or bytes (k - start) 0) (get_or old k 0)) (sym (among_past start (length bytes) k past))
          ]
    ]

-- the page at an address, with these bytes from the address on
abbrev pub written_page : List (List (Rights × List ℕ)) → ℕ → List ℕ → Rights × List ℕ
written_page d at bytes = ((page_of d (at / 4096)).0, overwritten (page_of d (at / 4096)).1 (at % 4096) bytes)

pub record IsWritable (d : List (List (Rights × List ℕ))) (at : ℕ) (bytes : List ℕ) : Type 0 where
  pub shape : IsDirectory d
  pub mapped : is_some (rights_of (page_of d (at / 4096))) ≡ true
  pub fits : at % 4096 + length bytes ≤ 4096

pub writable_placed : (d : List (List (Rights × List ℕ))) (at : ℕ) (bytes : List ℕ) → IsWritable d at bytes → IsPlaced d (at / 4096)
writable_placed d at bytes h = placed d (at / 4096) (some_bytes (page_of d (at / 4096)) h.mapped)

pub writable_full : (d : List (List (Rights × List ℕ))) (at : ℕ) (bytes : List ℕ) → IsWritable d at bytes → length (page_of d (at / 4096)).1 ≡ 4096
writable_full d at bytes h =
    let some = some_bytes (page_of d (at / 4096)) h.mapped in
    elim (is_page d (at / 4096) h.shape) [ inl none ↦ absurd (omega arith) | inr full ↦ full ]

pub written_is_page : (d : List (List (Rights × List ℕ))) (at : ℕ) (bytes : List ℕ) → IsWritable d at bytes → IsPage (written_page d at bytes)
written_is_page d at bytes h =
    let full = writable_full d at bytes h in
    let fits = h.fits in
    inr (length_overwritten (page_of d (at / 4096)).1 (at % 4096) bytes (omega arith) ∙ full)

written_rights : (d : List (List (Rights × List ℕ))) (at : ℕ) (bytes : List ℕ) (n : ℕ) → IsWritable d at bytes → rights_of (page_of (with_page d (at / 4096) (written_page d at bytes)) n) ≡ rights_of (page_of d n)
written_rights d at bytes n h = elim (cases_eq n (at / 4096)) [
  | inl same ↦
      let full = writable_full d at bytes h in
      let fits = h.fits in
      let long = length_overwritten (page_of d (at / 4096)).1 (at % 4096) bytes (omega arith) in
      rw same (ap rights_of (page_here d (at / 4096) (written_page d at bytes) (writable_placed d at bytes h))
      ∙ (rights_some (page_of d (at / 4096)).0 (overwritten (page_of d (at / 4096)).1 (at % 4096) bytes) (omega arith)
      ∙ sym (rights_some (page_of d (at / 4096)).0 (page_of d (at / 4096)).1 (omega arith))))
  | inr differs ↦ ap rights_of (page_there d (at / 4096) (written_page d at bytes) n (writable_placed d at bytes h) differs)
]

written_byte : (d : List (List (Rights × List ℕ))) (at : ℕ) (bytes : List ℕ) (q : ℕ) → IsWritable d at bytes → (memory_in (with_page d (at / 4096) (written_page d at bytes))).byte q ≡ (with_bytes (memory_in d) at bytes).byte q
written_byte d at bytes q h = elim (cases_eq (q / 4096) (at / 4096)) [
  | inl same ↦
      let full = writable_full d at bytes h in
      let fits = h.fits in
      let base : at / 4096 * 4096 + at % 4096 ≡ at = omega arith in
      let base2 : at / 4096 * 4096 + q % 4096 ≡ q = omega arith in
      let away : q % 4096 - at % 4096 ≡ q - at = omega arith in
      let moved : is_among (at % 4096) (length bytes) (q % 4096) ≡ is_among at (length bytes) q = sym (among_moved (at % 4096) (length bytes) (q % 4096) (at / 4096 * 4096)) ∙ ap₂ (λ (a b : ℕ). is_among a (length bytes) b) base base2 in
      ap (λ (n : ℕ). get_or (page_of (with_page d (at / 4096) (written_page d at bytes)) n).1 (q % 4096) 0) same
      ∙ ap (λ (p : Rights × List ℕ). get_or p.1 (q % 4096) 0) (page_here d (at / 4096) (written_page d at bytes) (writable_placed d at bytes h))
      ∙ overwritten_at (page_of d (at / 4096)).1 (at % 4096) bytes (q % 4096) (omega arith)
      ∙ ap₂ (λ (b : Bool) (k : ℕ). cond b (get_or bytes k 0) (get_or (page_of d (at / 4096)).1 (q % 4096) 0)) moved away
      ∙ ap (λ (n : ℕ). cond (is_among at (length bytes) q) (get_or bytes (q - at) 0) (get_or (page_of d n).1 (q % 4096) 0)) (sym same)
  | inr differs ↦
      let fits = h.fits in
      let out : is_among at (length bytes) q ≡ false = outside at (length bytes) q fits differs in
      ap (λ (p : Rights × List ℕ). get_or p.1 (q % 4096) 0) (page_there d (at / 4096) (written_page d at bytes) (q / 4096) (writable_placed d at bytes h) differs)
      ∙ ap (λ (b : Bool). cond b (get_or bytes (q - at) 0) ((memory_in d).byte q)) (sym out)
] where
  outside : (at n q : ℕ) → at % 4096 + n ≤ 4096 → q / 4096 ≢ at / 4096 → is_among at n q ≡ false
  outside at n q fits differs = elim (cases_lt q at) [
    | inl low ↦ among_below at n q low
    | inr from ↦ elim (cases_lt q (at + n)) [
      | inl high ↦ let same : q / 4096 ≡ at / 4096 = omega arith in absurd (differs same)
      | inr past ↦ among_past at n q past
    ]
  ]

-- the bytes of the page at an address are written: so are the memory's
pub written_memory : (d : List (List (Rights × List ℕ))) (at : ℕ) (bytes : List ℕ) → IsWritable d at bytes → memory_in (with_page d (at / 4096) (written_page d at bytes)) ≡ with_bytes (memory_in d) at bytes
written_memory d at bytes h = λ i. record { rights = λ n. written_rights d at bytes n h i; byte = λ q. written_byte d at bytes q h i }

-- bytes behind bytes
pub with_bytes-append : (m : Memory) (at : ℕ) (xs ys : List ℕ) → with_bytes (with_bytes m at xs) (at + length xs) ys ≡ with_bytes m at (xs ++ ys)
with_bytes-append m at xs ys = λ i. record { rights = m.rights; byte = λ q. each q i } where
  each : (q : ℕ) → (with_bytes (with_bytes m at xs) (at + length xs) ys).byte q ≡ (with_bytes m at (xs ++ ys)).byte q
  each q =
      let long : length (xs ++ ys) ≡ length xs + length ys = length-append xs ys in
      elim (cases_lt q at) [
        | inl low ↦
            rw (among_below (at + length xs) (length ys) q (omega arith), among_below at (length xs) q low, among_below at (length (xs ++ ys)) q low) refl
        | inr from ↦ elim (cases_lt q (at + length xs)) [
          | inl high ↦
              rw (among_below (at + length xs) (length ys) q high, among_yes at (length xs) q from high, among_yes at (length (xs ++ ys)) q from (omega arith))
              (sym (get_or_append_left xs ys 0 (q - at) (omega arith)))
          | inr past ↦
              let le : length xs ≤ q - at = omega arith in
              let away : (q - at) - length xs ≡ q - (at + length xs) = omega arith in
              let behind : get_or (xs ++ ys) (q - at) 0 ≡ get_or ys (q - (at + length xs)) 0 = get_or-append_right xs ys (length xs) (q - at) 0 refl le ∙ ap (λ (k : ℕ). get_or ys k 0) away in
              elim (cases_lt q (at + length (xs ++ ys))) [
                | inl within ↦
                    rw (among_yes (at + length xs) (length ys) q past (omega arith), among_yes at (length (xs ++ ys)) q from within) (sym behind)
                | inr beyond ↦
                    rw (among_past (at + length xs) (length ys) q (omega arith), among_past at (length xs) q past, among_past at (length (xs ++ ys)) q beyond) refl
              ]
        ]
      ]

-- the page that a write reads is full
pub read_full : (d : List (List (Rights × List ℕ))) (at : ℕ) (bytes : List ℕ) (tables : List (Vec Page Global)) (table : Vec Page Global) (page : Page) → IsWritable d at bytes → IsRead d tables (at / 4096) table page → length page.bytes.items ≡ 4096
read_full d at bytes tables table page h r = ap (λ (p : Rights × List ℕ). length p.1) (sym (page_read d tables (at / 4096) table page r (writable_placed d at bytes h))) ∙ writable_full d at bytes h

take_slice : (xs : List ℕ) (done here : ℕ) → take done xs ++ take ((done + here) - done) (drop done xs) ≡ take (done + here) xs
take_slice xs done here = let e : (done + here) - done ≡ here = omega arith in rw e (sym (take-add done here xs))

-- the next bytes of a list are written behind the first
pub written_more : (m : Memory) (at : ℕ) (xs : List ℕ) (done here : ℕ) → done ≤ length xs → with_bytes (with_bytes m at (take done xs)) (at + done) (take ((done + here) - done) (drop done xs)) ≡ with_bytes m at (take (done + here) xs)
written_more m at xs done here le =
    let long : done ≡ length (take done xs) = sym (simp length-take (omega arith)) in
    ap (λ (n : ℕ). with_bytes (with_bytes m at (take done xs)) (at + n) (take ((done + here) - done) (drop done xs))) long
    ∙ with_bytes-append m at (take done xs) (take ((done + here) - done) (drop done xs))
    ∙ ap (with_bytes m at) (take_slice xs done here)
