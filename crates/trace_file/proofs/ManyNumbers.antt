-- Numbers one behind the other.
use Rattle.std.proofs.Common.{suc, add-one, ◌≡◌, ℕ, ◌+◌, ◌<◌, ◌++◌, ◌∷◌, [], ◌^◌, ◌/◌, ◌%◌, List, length, take, drop, map, get_or, refl, sym, subst, ap, ◌∙◌, arith, append_assoc, append-nil, All}
use Rattle.std.specs.List.{flat_map, AllByRecursion}
use Rattle.std.proofs.Math.ListN.{set}
use Rattle.std.proofs.Math.Nat.{le_refl}
use Rattle.std.proofs.Math.Seq.{drop-cons, take-suc, take-suc-set}
use Rattle.std.proofs.lemmas.Grind.{flat_map-append}
use Rattle.std.proofs.lemmas.List.{get_or-drop, length-drop, take-append-drop}
use Rattle.std.proofs.lemmas.List.Elements.{All-get_or}
use Rattle.trace_file.specs.declared.records.Range.{Range}
use Rattle.trace_file.specs.declared.record_reader.Stop.{Stop}
use Rattle.trace_file.specs.declared.record_reader.Stop.TheVariants.{Begun, NoForm, Memory}
use Rattle.trace_file.specs.Records.{IsIn, AreInRanges, number_bytes}
use Rattle.trace_file.specs.Private.Made.{IsSoundRange}
use Rattle.trace_file.specs.Pieces.{IsBegun}
use Rattle.trace_file.specs.Private.RecordParts.{AreNumbers, Stops}
use Rattle.trace_file.proofs.OneNumber.{Four, as_four}

-- a number's bytes are followed by one rest
pub same_rest : (n m : ℕ) (xs ys : List ℕ) → number_bytes n ++ xs ≡ number_bytes m ++ ys → xs ≡ ys
same_rest n m xs ys same = ap (drop 4) (sym (as_four n xs) ∙ same ∙ as_four m ys)

pub nothing : (a b : List ℕ) → a ++ b ≡ [] → a ≡ []
nothing [] b none = refl
nothing (x ∷ a) b none = cc

-- and are those of no other
pub one_number : (n m : ℕ) (xs ys : List ℕ) → n < 2 ^ 32 → m < 2 ^ 32 → number_bytes n ++ xs ≡ number_bytes m ++ ys → n ≡ m
one_number n m xs ys low low' same =
    let four : Four n xs ≡ Four m ys = sym (as_four n xs) ∙ same ∙ as_four m ys in
    let a : n % 256 ≡ m % 256 = ap (λ y. get_or y 0 0) four in
    let b : n / 256 % 256 ≡ m / 256 % 256 = ap (λ y. get_or y 1 0) four in
    let c : n / 65536 % 256 ≡ m / 65536 % 256 = ap (λ y. get_or y 2 0) four in
    let d : n / 16777216 % 256 ≡ m / 16777216 % 256 = ap (λ y. get_or y 3 0) four in
    omega arith

-- the least number of each range
abbrev least_of : List Range → List ℕ
least_of rs = map (λ r. r.least) rs

least_fit : (rs : List Range) → AllByRecursion IsSoundRange rs → AreInRanges (least_of rs) rs
least_fit [] sound = tt
least_fit (r ∷ rs) sound = ((le_refl r.least, sound.0.some), least_fit rs sound.1)

-- the first number of numbers
parts : (r : Range) (rs : List Range) (x : List ℕ) → AreNumbers (r ∷ rs) x → (n : ℕ) × (y : List ℕ) × IsIn r n × AreNumbers rs y × (x ≡ number_bytes n ++ y)
parts r rs x ([], within, text) = absurd within
parts r rs x (n ∷ ns, within, text) = (n, flat_map number_bytes ns, within.0, (ns, within.1, refl), text)

one : (r : Range) (n : ℕ) → IsIn r n → AreNumbers (r ∷ []) (number_bytes n)
one r n within = (n ∷ [], (within, tt), sym (append-nil (number_bytes n)))

-- where the first number stops
first_stops : (r : Range) (rs : List Range) (bytes : List ℕ) (stop : Stop) → AllByRecursion IsSoundRange rs → Stops (AreNumbers (r ∷ [])) bytes stop → Stops (AreNumbers (r ∷ rs)) bytes stop
first_stops r rs bytes Begun sound stops = by stops.text
  where
    by : AreNumbers (r ∷ []) (bytes ++ stops.more) → IsBegun (AreNumbers (r ∷ rs)) bytes
    by ([], within, text) = absurd within
    by (n ∷ m ∷ ns, within, text) = absurd within.1
    by (n ∷ [], within, text) = record {
      more = stops.more ++ flat_map number_bytes (least_of rs);
      some = λ none. stops.some (nothing stops.more _ none);
      text = (n ∷ least_of rs, (within.0, least_fit rs sound), sym (append_assoc bytes stops.more _) ∙ ap (λ y. y ++ flat_map number_bytes (least_of rs)) (text ∙ append-nil (number_bytes n)));
      unfinished = λ x rest numbers same.
          let p = parts r rs x numbers in
          stops.unfinished (number_bytes p.0) (p.1 ++ rest) (one r p.0 p.2) (same ∙ ap (λ y. y ++ rest) p.4 ∙ append_assoc (number_bytes p.0) p.1 rest);
    }
first_stops r rs bytes NoForm sound stops = λ x more rest numbers same.
    let p = parts r rs x numbers in
    stops (number_bytes p.0) more (p.1 ++ rest) (one r p.0 p.2) (same ∙ ap (λ y. y ++ rest) p.4 ∙ append_assoc (number_bytes p.0) p.1 rest)
first_stops r rs bytes (Memory entry) sound stops = tt

-- behind one more number
cons_stops : (r : Range) (rs : List Range) (n : ℕ) (bytes : List ℕ) (stop : Stop) → IsIn r n → Stops (AreNumbers rs) bytes stop → Stops (AreNumbers (r ∷ rs)) (number_bytes n ++ bytes) stop
cons_stops r rs n bytes Begun within stops = record {
  more = stops.more;
  some = stops.some;
  text = (n ∷ stops.text.0, (within, stops.text.1), append_assoc (number_bytes n) bytes stops.more ∙ ap (λ y. number_bytes n ++ y) stops.text.2);
  unfinished = λ x rest numbers same.
      let p = parts r rs x numbers in
      stops.unfinished p.1 rest p.3 (same_rest n p.0 _ _ (same ∙ ap (λ y. y ++ rest) p.4 ∙ append_assoc (number_bytes p.0) p.1 rest));
}
cons_stops r rs n bytes NoForm within stops = λ x more rest numbers same.
    let p = parts r rs x numbers in
    stops p.1 more rest p.3 (same_rest n p.0 _ _ (sym (append_assoc (number_bytes n) bytes more) ∙ same ∙ ap (λ y. y ++ rest) p.4 ∙ append_assoc (number_bytes p.0) p.1 rest))
cons_stops r rs n bytes (Memory entry) within stops = tt

-- behind numbers
pub stops_later : (ns : List ℕ) (before : List Range) (r : Range) (rs : List Range) (bytes rest : List ℕ) (stop : Stop) → AreInRanges ns before → AllByRecursion IsSoundRange rs → bytes ≡ flat_map number_bytes ns ++ rest → Stops (AreNumbers (r ∷ [])) rest stop → Stops (AreNumbers (before ++ r ∷ rs)) bytes stop
stops_later [] [] r rs bytes rest stop within sound text stops = subst (λ b. Stops (AreNumbers (r ∷ rs)) b stop) (sym text) (first_stops r rs rest stop sound stops)
stops_later [] (q ∷ before) r rs bytes rest stop within sound text stops = absurd within
stops_later (n ∷ ns) [] r rs bytes rest stop within sound text stops = absurd within
stops_later (n ∷ ns) (q ∷ before) r rs bytes rest stop within sound text stops =
    let later = stops_later ns before r rs (flat_map number_bytes ns ++ rest) rest stop within.1 sound refl stops in
    subst (λ b. Stops (AreNumbers (q ∷ (before ++ r ∷ rs))) b stop) (sym (text ∙ append_assoc (number_bytes n) (flat_map number_bytes ns) rest)) (cons_stops q (before ++ r ∷ rs) n _ stop within.0 later)

-- one more number that is read
pub in_ranges_more : (ns : List ℕ) (rs : List Range) (n : ℕ) (r : Range) → AreInRanges ns rs → IsIn r n → AreInRanges (ns ++ n ∷ []) (rs ++ r ∷ [])
in_ranges_more [] [] n r within here = (here, tt)
in_ranges_more [] (q ∷ rs) n r within here = absurd within
in_ranges_more (m ∷ ns) [] n r within here = absurd within
in_ranges_more (m ∷ ns) (q ∷ rs) n r within here = (within.0, in_ranges_more ns rs n r within.1 here)

read_more : (ns ms : List ℕ) (rs qs : List Range) (n : ℕ) (r : Range) → ms ≡ ns ++ n ∷ [] → qs ≡ rs ++ r ∷ [] → AreInRanges ns rs → IsIn r n → AreInRanges ms qs
read_more ns ms rs qs n r is are within here = rw (is, are) (in_ranges_more ns rs n r within here)

pub read_within : (numbers : List ℕ) (ranges : List Range) (i n : ℕ) (d : Range) → i < length numbers → i < length ranges → AreInRanges (take i numbers) (take i ranges) → IsIn (get_or ranges i d) n →
    AreInRanges (take (i + 1) (set numbers i n)) (take (i + 1) ranges)
read_within numbers ranges i n d low within so_far here =
    read_more (take i numbers) _ (take i ranges) _ n (get_or ranges i d)
    (ap (λ k. take k (set numbers i n)) (add-one i) ∙ take-suc-set numbers i n low)
    (ap (λ k. take k ranges) (add-one i) ∙ take-suc ranges i d within)
    so_far here

pub read_text : (bytes rest rest' : List ℕ) (numbers : List ℕ) (i n : ℕ) → i < length numbers → bytes ≡ flat_map number_bytes (take i numbers) ++ rest → rest ≡ number_bytes n ++ rest' → bytes ≡ flat_map number_bytes (take (i + 1) (set numbers i n)) ++ rest'
read_text bytes rest rest' numbers i n low text here =
    let more : take (i + 1) (set numbers i n) ≡ take i numbers ++ n ∷ [] = ap (λ k. take k (set numbers i n)) (add-one i) ∙ take-suc-set numbers i n low in
    let flat : flat_map number_bytes (take i numbers ++ n ∷ []) ≡ flat_map number_bytes (take i numbers) ++ number_bytes n = flat_map-append number_bytes (take i numbers) (n ∷ []) ∙ ap (λ y. flat_map number_bytes (take i numbers) ++ y) (append-nil (number_bytes n)) in
    text ∙ ap (λ y. flat_map number_bytes (take i numbers) ++ y) here
    ∙ sym (append_assoc (flat_map number_bytes (take i numbers)) (number_bytes n) rest')
    ∙ ap (λ y. y ++ rest') (sym flat ∙ ap (λ ns. flat_map number_bytes ns) (sym more))

by_recursion : (P : Range → Type 0) (d : Range) (rs : List Range) → ((k : ℕ) → k < length rs → P (get_or rs k d)) → AllByRecursion P rs
by_recursion P d [] each = tt
by_recursion P d (r ∷ rs) each = (each 0 (omega arith), by_recursion P d rs (λ k low. each (suc k) (omega arith)))

sound_later : (rs : List Range) (d : Range) (n : ℕ) → All IsSoundRange rs → AllByRecursion IsSoundRange (drop n rs)
sound_later rs d n sound = by_recursion IsSoundRange d (drop n rs) (λ k low. subst IsSoundRange (sym (get_or-drop n rs k d)) (All-get_or IsSoundRange rs (n + k) d (omega (arith, length-drop n rs)) sound))

-- where a number stops that is not the first
pub stops_at : (numbers : List ℕ) (ranges : List Range) (i : ℕ) (d : Range) (bytes rest : List ℕ) (stop : Stop) → i < length ranges → All IsSoundRange ranges → AreInRanges (take i numbers) (take i ranges) →
    bytes ≡ flat_map number_bytes (take i numbers) ++ rest → Stops (AreNumbers (get_or ranges i d ∷ [])) rest stop → Stops (AreNumbers ranges) bytes stop
stops_at numbers ranges i d bytes rest stop low sound within text stops =
    let all : take i ranges ++ get_or ranges i d ∷ drop (suc i) ranges ≡ ranges = ap (λ y. take i ranges ++ y) (sym (drop-cons ranges i d low)) ∙ take-append-drop i ranges in
    subst (λ rs. Stops (AreNumbers rs) bytes stop) all (stops_later (take i numbers) (take i ranges) (get_or ranges i d) (drop (suc i) ranges) bytes rest stop within (sound_later ranges d (suc i) sound) text stops)
