-- Tables of symbols, entry by entry.
use Rattle.std.proofs.Common.{◌≡◌, ℕ, ◌+◌, ◌<◌, List, ◌∷◌, ◌++◌, length, get_or, drop, arith, ap, subst, sym, ◌∙◌, add-one, append_assoc, length-append}
use Rattle.std.proofs.Math.Seq.{drop-cons}
use Rattle.std.specs.List.{flat_map}
use Rattle.rv_asm.specs.declared.executable.Symbol.{Symbol}
use Rattle.rv_asm.specs.Executable.{string_of, symbol_entries, symbol_entry}
use Rattle.rv_asm.specs.Fields.{bytes_of, symbol_fields}

-- the first of the symbols that are left
behind : (symbols : List Symbol) (i : ℕ) (x : Symbol) → i < length symbols → x ≡ get_or symbols i x → drop i symbols ≡ x ∷ drop (i + 1) symbols
behind symbols i x inside is =
    subst (λ (y : Symbol). drop i symbols ≡ y ∷ drop (i + 1) symbols) (sym is) (rw add-one (drop-cons symbols i x inside))

-- one more entry
pub entries_more : (file new all : List ℕ) (st_name size i : ℕ) (symbols : List Symbol) (x : Symbol)
    → i < length symbols → x ≡ get_or symbols i x → size ≡ length x.name
    → new ≡ file ++ bytes_of (symbol_fields (symbol_entry st_name x))
    → file ++ symbol_entries st_name (drop i symbols) ≡ all
    → new ++ symbol_entries (st_name + (size + 1)) (drop (i + 1) symbols) ≡ all
entries_more file new all st_name size i symbols x inside is long grown before =
    let here : List ℕ = bytes_of (symbol_fields (symbol_entry st_name x)) in
    let next : st_name + length (string_of x) ≡ st_name + (size + 1) = omega (arith, length-append {A = ℕ}) in
    let rest : symbol_entries st_name (drop i symbols) ≡ here ++ symbol_entries (st_name + (size + 1)) (drop (i + 1) symbols) =
    ap (symbol_entries st_name) (behind symbols i x inside is) ∙ ap (λ (n : ℕ). here ++ symbol_entries n (drop (i + 1) symbols)) next in
    ap (λ (f : List ℕ). f ++ symbol_entries (st_name + (size + 1)) (drop (i + 1) symbols)) grown
    ∙ append_assoc file here (symbol_entries (st_name + (size + 1)) (drop (i + 1) symbols))
    ∙ ap (λ (r : List ℕ). file ++ r) (sym rest) ∙ before

-- the names that are left, and one of them
pub names_more : (size i : ℕ) (symbols : List Symbol) (x : Symbol)
    → i < length symbols → x ≡ get_or symbols i x → size ≡ length x.name
    → length (flat_map string_of (drop i symbols)) ≡ (size + 1) + length (flat_map string_of (drop (i + 1) symbols))
names_more size i symbols x inside is long =
    let first : length (flat_map string_of (drop i symbols)) ≡ length (string_of x ++ flat_map string_of (drop (i + 1) symbols)) =
    ap (λ (left : List Symbol). length (flat_map string_of left)) (behind symbols i x inside is) in
    omega (arith, length-append {A = ℕ})
