-- What was seen of a name, where the bytes before begin a record.
use Rattle.std.proofs.Common.{◌≡◌, ℕ, suc, ◌+◌, ◌-◌, ◌<◌, ◌≤◌, inl, inr, Bool, true, false, ◌&&◌, List, [], ◌∷◌, ◌++◌, length, take, drop, min, refl, sym, ap, ap₂, ◌∙◌, arith, length-append}
use Rattle.std.specs.Prelude.{◌⊎◌}
use Rattle.std.specs.List.{flat_map, list_all}
use Rattle.std.proofs.Math.Seq.{take-append-add}
use Rattle.std.proofs.lemmas.Bool.{cases_lt}
use Rattle.std.proofs.lemmas.List.{append-nil, take-append-drop, take_all}
use Rattle.std.proofs.lemmas.List.Folds.{list_all-append}
use Rattle.guest_words.specs.Names.{is_visible}
use Rattle.trace_file.specs.declared.records.Form.TheVariants.{Named}
use Rattle.trace_file.specs.Pieces.{IsBegun, IsRecord}
use Rattle.trace_file.specs.Private.RecordParts.{body}
use Rattle.trace_file.specs.Records.{head, number_bytes}
use Rattle.trace_file.specs.Private.Seen.{IsSeen}
use Rattle.trace_file.proofs.Bodies.{behind_head, name_parts}
use Rattle.trace_file.proofs.NameBytes.{is_visible_name}
use Rattle.trace_file.proofs.OneNumber.{long}

eight : (a b : ℕ) → length (flat_map number_bytes (a ∷ b ∷ [])) ≡ 8
eight a b = omega (arith, length-append (number_bytes a) (number_bytes b ++ []), length-append (number_bytes b) [], long a, long b)

-- a beginning of what all can stand in a name can
front_visible : (xs ys : List ℕ) → list_all is_visible (xs ++ ys) ≡ true → list_all is_visible xs ≡ true
front_visible xs ys all = by (list_all is_visible xs) (list_all is_visible ys) (sym (list_all-append is_visible xs ys) ∙ all)
  where
    by : (x y : Bool) → (x && y) ≡ true → x ≡ true
    by true y is = refl
    by false y is = is

none_seen : (n : ℕ) (rest : List ℕ) → n ≡ 0 → list_all is_visible (take n rest) ≡ true
none_seen n rest none = ap (λ k. list_all is_visible (take k rest)) none

pub seen_name : (known : ℕ) (bytes behind : List ℕ) → IsBegun IsRecord (take known bytes) → bytes ≡ head Named ++ behind → IsSeen (known - 9) behind
seen_name known bytes behind begun text a b rest within numbers = by (cases_lt 9 known)
  where
    by : (9 < known) ⊎ (known ≤ 9) → list_all is_visible (take (known - 9) rest) ≡ true
    by (inr few) = none_seen (known - 9) rest (omega (arith, few))
    by (inl more) =
        let fm = flat_map number_bytes (a ∷ b ∷ []) in
        let so_many : known ≡ suc (length (flat_map number_bytes (a ∷ b ∷ [])) + (known - 9)) = omega (arith, more, eight a b) in
        let whole : bytes ≡ 9 ∷ (flat_map number_bytes (a ∷ b ∷ []) ++ rest) = text ∙ ap (λ ys. 9 ∷ ys) numbers in
        let known_is : take known bytes ≡ 9 ∷ (flat_map number_bytes (a ∷ b ∷ []) ++ take (known - 9) rest) =
        ap₂ take so_many whole ∙ ap (λ ys. 9 ∷ ys) (take-append-add (flat_map number_bytes (a ∷ b ∷ [])) rest (known - 9))
        in
        let record_is = sym (ap (λ ys. ys ++ begun.more) known_is) ∙ begun.text.2 ∙ sym (append-nil _) in
        let parts = behind_head Named [] ((flat_map number_bytes (a ∷ b ∷ []) ++ take (known - 9) rest) ++ begun.more) [] begun.text.0 record_is in
        let name = name_parts (body begun.text.0) (flat_map number_bytes (a ∷ b ∷ []) ++ take (known - 9) rest) (take (known - 9) rest) a b begun.more [] (omega (arith, within.1.0.1)) refl
        (begun.text.0, begun.text.1, parts.0, refl) parts.1
        in
        front_visible (take (known - 9) rest) begun.more (ap (list_all is_visible) (name.2 ∙ append-nil name.0) ∙ is_visible_name name.0 name.1.0)

-- those behind what was seen tell of all
pub rest_tells : (seen : ℕ) (bytes tail : List ℕ) → list_all is_visible (take seen bytes) ≡ true → tail ≡ drop (min seen (length bytes)) bytes → list_all is_visible tail ≡ list_all is_visible bytes
rest_tells seen bytes tail all is =
    let n = min seen (length bytes) in
    let front : list_all is_visible (take (min seen (length bytes)) bytes) ≡ true = by (cases_lt seen (length bytes)) in
    ap (list_all is_visible) is
    ∙ sym (ap (λ x. x && list_all is_visible (drop (min seen (length bytes)) bytes)) front)
    ∙ sym (list_all-append is_visible (take (min seen (length bytes)) bytes) (drop (min seen (length bytes)) bytes))
    ∙ ap (list_all is_visible) (take-append-drop (min seen (length bytes)) bytes)
  where
    by : (seen < length bytes) ⊎ (length bytes ≤ seen) → list_all is_visible (take (min seen (length bytes)) bytes) ≡ true
    by (inl less) = let n : min seen (length bytes) ≡ seen = omega (arith, less) in ap (λ k. list_all is_visible (take k bytes)) n ∙ all
    by (inr most) =
        let n : min seen (length bytes) ≡ length bytes = omega (arith, most) in
        ap (λ k. list_all is_visible (take k bytes)) n ∙ ap (list_all is_visible) (take_all (length bytes) bytes (omega arith) ∙ sym (take_all seen bytes most)) ∙ all
