-- Names that rise.
use Rattle.std.proofs.Common.{inl, inr, ◌≡◌, ℕ, ◌-◌, ◌<◌, ◌≤◌, ◌++◌, ◌∷◌, [], List, Bool, true, false, Some, length, get_or, refl, sym, subst, ap, ◌∙◌, arith, append_assoc, append-nil, length-append}
use Rattle.std.specs.Prelude.{IsTrue, nat_lt, ◌↔◌, ◌==◌}
use Rattle.std.proofs.lemmas.List.{get_or_default}
use Rattle.std.proofs.lemmas.Bool.{cases_lt}
use Rattle.std.proofs.lemmas.Bool.Decides.{nat_tests}
use Rattle.std.proofs.Math.ListN.{get_or-append}
use Rattle.std.proofs.Math.Seq.{get_or-append_seam}
use Rattle.std.proofs.lemmas.List.Quantifiers.{all_pairs_push}
use Rattle.std.specs.List.{AllByRecursion}
use Rattle.std.proofs.lemmas.List.{map-append}
use Rattle.guest_words.specs.declared.endings.Finish.{Finish}
use Rattle.trace_model.specs.declared.event_kinds.Event.{Event}
use Rattle.trace_file.specs.declared.records.Record.{Record}
use Rattle.trace_file.specs.declared.records.Record.TheVariants.{OfName, OfFinish}
use Rattle.trace_file.specs.Records.{Fits}
use Rattle.trace_file.specs.Reading.{ReaderState, told_by}
use Rattle.trace_file.specs.Private.Steps.{IsAdded, IsOpen}
use Rattle.trace_file.specs.TraceText.{IsRising, Names, event_records, finish_records, name_records, records}

abbrev Entry : Type 0
Entry = ℕ × List ℕ

abbrev Below : Entry → Entry → Type 0
Below x y = x.0 < y.0

pub rising_push : (names : Names) (x : Entry) (last : Entry) → IsRising names → 1 ≤ length names → last.0 < x.0 → ((d : Entry) → get_or names (length names - 1) d ≡ last) → IsRising (names ++ x ∷ [])
rising_push names x last rising some above is = all_pairs_push Below names x rising each
  where
    each : (k : ℕ) (d : Entry) → k < length names → (get_or names k d).0 < x.0
    each k d low =
        let at_last : (get_or names (length names - 1) d).0 ≡ last.0 = ap (λ (y : Entry). y.0) (is d) in
        elim (cases_lt k (length names - 1)) [
          | inl before ↦
              let less : (get_or names k d).0 < (get_or names (length names - 1) d).0 = rising k (length names - 1) d before (omega arith) in
              omega arith
          | inr after ↦
              let same : k ≡ length names - 1 = omega arith in
              let here : (get_or names k d).0 ≡ (get_or names (length names - 1) d).0 = ap (λ i. (get_or names i d).0) same in
              omega arith
        ]

pub last_below : (names : Names) (x : Entry) (d : Entry) → 1 ≤ length names → IsRising (names ++ x ∷ []) → (get_or names (length names - 1) d).0 < x.0
last_below names x d some rising =
    let long = length-append names (x ∷ []) in
    let less : (get_or (names ++ x ∷ []) (length names - 1) d).0 < (get_or (names ++ x ∷ []) (length names) d).0 = rising (length names - 1) (length names) d (omega arith) (omega (arith, long)) in
    let first : (get_or (names ++ x ∷ []) (length names - 1) d).0 ≡ (get_or names (length names - 1) d).0 = ap (λ (y : Entry). y.0) (get_or-append names (x ∷ []) d (length names - 1) (omega arith)) in
    let second : (get_or (names ++ x ∷ []) (length names) d).0 ≡ x.0 = ap (λ (y : Entry). y.0) (get_or-append_seam names x [] d) in
    omega arith

is_lt : (a b : ℕ) → IsTrue (nat_lt a b) → a < b
is_lt a b low = grind (arith, nat_tests)

to_lt : (a b : ℕ) → a < b → IsTrue (nat_lt a b)
to_lt a b low = grind (arith, nat_tests)

-- an entry above the last name rises, and no other
pub above : (names : Names) (entry : ℕ) (e : Entry) → IsRising names → 1 ≤ length names → (name : List ℕ) → IsTrue (nat_lt (get_or names (length names - 1) e).0 entry) ↔ IsRising (names ++ (entry, name) ∷ [])
above names entry e rising some name = (
  (λ low. rising_push names (entry, name) (get_or names (length names - 1) e) rising some (is_lt _ _ low) (λ d. get_or_default names (length names - 1) d e (omega arith))),
  (λ rises. to_lt _ _ (last_below names (entry, name) e some rises)),
)

pub some_of : (names : Names) → (length names == 0) ≡ false → 1 ≤ length names
some_of names none = grind (arith, nat_tests)

all_push : (rs : List Record) (r : Record) → AllByRecursion Fits rs → Fits r → AllByRecursion Fits (rs ++ r ∷ [])
all_push [] r all here = (here, tt)
all_push (q ∷ rs) r all here = (all.0, all_push rs r all.1 here)

with_name : (es : List Record) (names : Names) (entry : ℕ) (name : List ℕ) → es ++ (name_records (names ++ (entry, name) ∷ []) ++ []) ≡ (es ++ (name_records names ++ [])) ++ OfName entry name ∷ []
with_name es names entry name =
    ap (λ y. es ++ y) (append-nil _ ∙ map-append (λ (x : Entry). OfName x.0 x.1) names ((entry, name) ∷ []) ∙ ap (λ y. y ++ OfName entry name ∷ []) (sym (append-nil (name_records names))))
    ∙ sym (append_assoc es (name_records names ++ []) (OfName entry name ∷ []))

pub added_name : (old new : ReaderState) (past : List Event) (entry : ℕ) (name : List ℕ) → IsOpen old past → Fits (OfName entry name) → IsRising (old.names ++ (entry, name) ∷ []) →
    new ≡ record old { names = old.names ++ (entry, name) ∷ [] } → IsAdded old new past (OfName entry name)
added_name old new past entry name is fits rises same = subst (λ s. IsAdded old s past (OfName entry name)) (sym same) added
  where
    more : records (record { past = past; names = old.names ++ (entry, name) ∷ []; finish = old.finish }) ≡ records (told_by old past) ++ OfName entry name ∷ []
    more = subst (λ f. event_records past ++ (name_records (old.names ++ (entry, name) ∷ []) ++ finish_records f) ≡ (event_records past ++ (name_records old.names ++ finish_records f)) ++ OfName entry name ∷ []) (sym is.finish) (with_name (event_records past) old.names entry name)

    added : IsAdded old (record old { names = old.names ++ (entry, name) ∷ [] }) past (OfName entry name)
    added = record {
      told = record {
        formed = is.told.formed;
        rising = rises;
        fits = subst (λ rs. AllByRecursion Fits rs) (sym more) (all_push _ _ is.told.fits fits);
      };
      order = is.order;
      records = more;
      line = refl;
    }

with_finish : (es ns : List Record) (f : Finish) → es ++ (ns ++ OfFinish f ∷ []) ≡ (es ++ (ns ++ [])) ++ OfFinish f ∷ []
with_finish es ns f = ap (λ y. es ++ (y ++ OfFinish f ∷ [])) (sym (append-nil ns)) ∙ sym (append_assoc es (ns ++ []) (OfFinish f ∷ []))

pub added_finish : (old new : ReaderState) (past : List Event) (f : Finish) → IsOpen old past → Fits (OfFinish f) → new ≡ record old { finish = Some f } → IsAdded old new past (OfFinish f)
added_finish old new past f is fits same = subst (λ s. IsAdded old s past (OfFinish f)) (sym same) added
  where
    more : records (record { past = past; names = old.names; finish = Some f }) ≡ records (told_by old past) ++ OfFinish f ∷ []
    more = subst (λ o. event_records past ++ (name_records old.names ++ OfFinish f ∷ []) ≡ (event_records past ++ (name_records old.names ++ finish_records o)) ++ OfFinish f ∷ []) (sym is.finish) (with_finish (event_records past) (name_records old.names) f)

    added : IsAdded old (record old { finish = Some f }) past (OfFinish f)
    added = record {
      told = record {
        formed = is.told.formed;
        rising = is.told.rising;
        fits = subst (λ rs. AllByRecursion Fits rs) (sym more) (all_push _ _ is.told.fits fits);
      };
      order = is.order;
      records = more;
      line = refl;
    }

pub not_true : (b : Bool) → b ≡ false → IsTrue b → ⊥
not_true b is so = let apart : false ≡ true = sym is ∙ so in cc

pub is_true : (b : Bool) → b ≡ true → IsTrue b
is_true b is = is
