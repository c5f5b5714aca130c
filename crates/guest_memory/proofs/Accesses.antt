-- Refusals and numbers over several bytes.
use Rattle.std.proofs.Common.{◌≡◌, ℕ, zero, suc, ◌+◌, ◌-◌, ◌*◌, ◌<◌, ◌≤◌, ◌/◌, ◌%◌, Bool, true, false, cond, List, [], ◌∷◌, length, take, drop, get_or-take, Option, Some, None, Ok, arith, refl, ap, ap₂, sym, ◌∙◌, subst}
use Rattle.std.specs.Option.{option_or, is_some}
use Rattle.std.specs.Prelude.{nat_lt}
use Rattle.std.proofs.lemmas.Bool.Decides.{nat_tests}
use Rattle.guest_words.specs.declared.rights.Rights.{Rights}
use Rattle.guest_memory.specs.declared.refusal.MemError.{MemError}
use Rattle.guest_memory.specs.declared.refusal.Permission.{Permission}
use Rattle.guest_memory.specs.Pages.{page_of}
use Rattle.guest_memory.specs.State.{memory_in, rights_of}
use Rattle.guest_memory.specs.Memory.{Memory, allows, denial, page_refusal, page_rights, byte_refusal, first_refusal, number_at, unless_refused, loaded, AreMapped}
use Rattle.byteorder.specs.Endian.{little_from, little_number}
use Rattle.guest_memory.proofs.ReadBytes.{bytes_within}

-- the rights of a page that there is
pub page_rights_inside : (m : Memory) (page : ℕ) → page < 1048576 → page_rights m page ≡ m.rights page
page_rights_inside m page inside = let test : nat_lt page 1048576 ≡ true = grind (arith, nat_tests) in rw test refl

rights_where_some : {T : Type 0} (test : Bool) (o : Option T) → is_some (cond test o None) ≡ true → is_some o ≡ true
rights_where_some true o some = some
rights_where_some false o some = absurd (cc)

-- a page with rights is mapped
pub page_rights_some : (m : Memory) (page : ℕ) → is_some (page_rights m page) ≡ true → is_some (m.rights page) ≡ true
page_rights_some m page some = rights_where_some (nat_lt page 1048576) (m.rights page) some

-- bytes that are not refused are passed over
pub refusal_skip : (m : Memory) (permission : Permission) (at here n : ℕ) → ((k : ℕ) → k < here → byte_refusal m permission (at + k) ≡ None) → first_refusal m permission at (here + n) ≡ first_refusal m permission (at + here) n
refusal_skip m permission at zero n none =
    let e : 0 + n ≡ n = omega arith in
    let f : at + 0 ≡ at = omega arith in
    ap₂ (λ (a k : ℕ). first_refusal m permission a k) (sym f) e
refusal_skip m permission at (suc h) n none =
    let e : suc h + n ≡ suc (h + n) = omega arith in
    let f : at + 0 ≡ at = omega arith in
    let g : (at + 1) + h ≡ at + suc h = omega arith in
    let first : byte_refusal m permission at ≡ None = subst (λ (a : ℕ). byte_refusal m permission a ≡ None) f (none 0 (omega arith)) in
    ap (λ (k : ℕ). first_refusal m permission at k) e
    ∙ ap (λ (o : Option MemError). option_or o (first_refusal m permission (at + 1) (h + n))) first
    ∙ refusal_skip m permission (at + 1) h n (λ k lt. let s : at + suc k ≡ (at + 1) + k = omega arith in subst (λ (a : ℕ). byte_refusal m permission a ≡ None) s (none (suc k) (omega arith)))
    ∙ ap (λ (a : ℕ). first_refusal m permission a n) g

-- the bytes of one page are refused alike
pub refusal_alike : (m : Memory) (permission : Permission) (p q : ℕ) → p / 4096 ≡ q / 4096 → byte_refusal m permission p ≡ byte_refusal m permission q
refusal_alike m permission p q same = ap (λ (n : ℕ). page_refusal permission (page_rights m n)) same

-- the rest of a page that is not refused is passed over
pub refusal_page : (m : Memory) (permission : Permission) (at here left : ℕ) → byte_refusal m permission at ≡ None → here ≤ left → at % 4096 + here ≤ 4096 → first_refusal m permission (at + here) (left - here) ≡ first_refusal m permission at left
refusal_page m permission at here left none few fits =
    let e : here + (left - here) ≡ left = omega arith in
    sym (refusal_skip m permission at here (left - here) (λ k lt. let same : (at + k) / 4096 ≡ at / 4096 = omega arith in refusal_alike m permission (at + k) at same ∙ none))
    ∙ ap (λ (n : ℕ). first_refusal m permission at n) e

-- the first byte's refusal is that of all
pub refusal_head : (m : Memory) (permission : Permission) (at n : ℕ) (e : MemError) → byte_refusal m permission at ≡ Some e → 0 < n → first_refusal m permission at n ≡ Some e
refusal_head m permission at zero e is some = absurd (omega arith)
refusal_head m permission at (suc n) e is some = ap (λ (o : Option MemError). option_or o (first_refusal m permission (at + 1) n)) is

option_or-some : {T : Type 0} (o p : Option T) → is_some o ≡ true → option_or o p ≡ o
option_or-some None p some = absurd (cc)
option_or-some (Some x) p some = refl

-- where the first byte is refused, so are all
pub refusal_first : (m : Memory) (permission : Permission) (at n : ℕ) → is_some (byte_refusal m permission at) ≡ true → 0 < n → first_refusal m permission at n ≡ byte_refusal m permission at
refusal_first m permission at zero refused some = absurd (omega arith)
refusal_first m permission at (suc n) refused some = option_or-some (byte_refusal m permission at) (first_refusal m permission (at + 1) n) refused

-- bytes within one page that is not refused are not refused
pub refusal_within : (m : Memory) (permission : Permission) (at n : ℕ) → byte_refusal m permission at ≡ None → at % 4096 + n ≤ 4096 → first_refusal m permission at n ≡ None
refusal_within m permission at n none fits =
    let e : n - n ≡ 0 = omega arith in
    sym (refusal_page m permission at n n none (omega arith) fits) ∙ ap (λ (k : ℕ). first_refusal m permission (at + n) k) e

option_or-none : {T : Type 0} (o p : Option T) → option_or o p ≡ None → (o ≡ None) × (p ≡ None)
option_or-none None p h = (refl, h)
option_or-none (Some x) p h = absurd (cc)

-- where none is refused, each is not
pub refusal_each : (m : Memory) (permission : Permission) (at n : ℕ) → first_refusal m permission at n ≡ None → (k : ℕ) → k < n → byte_refusal m permission (at + k) ≡ None
refusal_each m permission at zero none k lt = absurd (omega arith)
refusal_each m permission at (suc n) none zero lt = let f : at ≡ at + 0 = omega arith in subst (λ (a : ℕ). byte_refusal m permission a ≡ None) f (option_or-none _ _ none).0
refusal_each m permission at (suc n) none (suc k) lt =
    let f : (at + 1) + k ≡ at + suc k = omega arith in
    subst (λ (a : ℕ). byte_refusal m permission a ≡ None) f (refusal_each m permission (at + 1) n (option_or-none (byte_refusal m permission at) (first_refusal m permission (at + 1) n) none).1 k (omega arith))

-- a page on which nothing is refused is mapped
pub mapped_where_allowed : (permission : Permission) (r : Option Rights) → page_refusal permission r ≡ None → is_some r ≡ true
mapped_where_allowed permission None h = absurd (cc)
mapped_where_allowed permission (Some r) h = refl

-- what stands behind its bytes changes no number
little_from-take : (xs : List ℕ) (i n : ℕ) → little_from i n (take (i + n) xs) ≡ little_from i n xs
little_from-take xs i zero = refl
little_from-take xs i (suc n) =
    let next : i + suc n ≡ suc i + n = omega arith in
    ap₂ (λ (x y : ℕ). x + 256 * y) (get_or-take (i + suc n) xs i 0 (omega arith)) (ap (λ (k : ℕ). little_from (suc i) n (take k xs)) next ∙ little_from-take xs (suc i) n)

-- within a page it is the number at the address
number_within : (d : List (List (Rights × List ℕ))) (at n : ℕ) → at % 4096 + n ≤ length (page_of d (at / 4096)).1 → length (page_of d (at / 4096)).1 ≤ 4096 → little_number n (drop (at % 4096) (page_of d (at / 4096)).1) ≡ number_at (memory_in d) at n
number_within d at n fits full =
    let bytes : List ℕ = drop (at % 4096) (page_of d (at / 4096)).1 in
    let all : n ≡ 0 + n = omega arith in
    sym (ap (λ (k : ℕ). little_number n (take k bytes)) all ∙ little_from-take bytes 0 n) ∙ ap (little_number n) (bytes_within d at n fits full)

-- the rights of a page with a byte
pub rights_some : (r : Rights) (bytes : List ℕ) → 0 < length bytes → rights_of (r, bytes) ≡ Some r
rights_some r [] some = absurd (omega arith)
rights_some r (b ∷ bytes) some = refl

-- a mapped page has a byte
pub some_bytes : (p : Rights × List ℕ) → is_some (rights_of p) ≡ true → 0 < length p.1
some_bytes (r, []) h = absurd (cc)
some_bytes (r, b ∷ bytes) h = omega arith

-- a byte of a page with bytes is refused by the page's rights
refusal_by_rights : (d : List (List (Rights × List ℕ))) (permission : Permission) (at : ℕ) → at / 4096 < 1048576 → 0 < length (page_of d (at / 4096)).1 → byte_refusal (memory_in d) permission at ≡ cond (allows permission (page_of d (at / 4096)).0) None (Some (denial permission))
refusal_by_rights d permission at range some = ap (page_refusal permission) (page_rights_inside (memory_in d) (at / 4096) range ∙ rights_some (page_of d (at / 4096)).0 (page_of d (at / 4096)).1 some)

-- a load of bytes that lie within one page
pub loads_within : (d : List (List (Rights × List ℕ))) (permission : Permission) (at n : ℕ) → at / 4096 < 1048576 → 0 < n → at % 4096 + n ≤ length (page_of d (at / 4096)).1 → length (page_of d (at / 4096)).1 ≤ 4096 → allows permission (page_of d (at / 4096)).0 ≡ true → loaded (memory_in d) permission at n ≡ Ok (little_number n (drop (at % 4096) (page_of d (at / 4096)).1))
loads_within d permission at n range some fits full allowed =
    let free : byte_refusal (memory_in d) permission at ≡ None = refusal_by_rights d permission at range (omega arith) ∙ ap (λ (b : Bool). cond b None (Some (denial permission))) allowed in
    ap₂ (λ (o : Option MemError) (x : ℕ). unless_refused o x) (refusal_within (memory_in d) permission at n free (omega arith)) (sym (number_within d at n fits full))

pub none_of : {T : Type 0} (o : Option T) → is_some o ≡ false → o ≡ None
none_of None h = refl
none_of (Some x) h = absurd (cc)

-- where nothing is refused, each byte is mapped
pub refusal_mapped : (m : Memory) (permission : Permission) (at n : ℕ) → first_refusal m permission at n ≡ None → AreMapped m at n
refusal_mapped m permission at n none q low high =
    let place : at + (q - at) ≡ q = omega arith in
    let free : byte_refusal m permission q ≡ None = subst (λ (a : ℕ). byte_refusal m permission a ≡ None) place (refusal_each m permission at n none (q - at) (omega arith)) in
    page_rights_some m (q / 4096) (mapped_where_allowed permission (page_rights m (q / 4096)) free)
