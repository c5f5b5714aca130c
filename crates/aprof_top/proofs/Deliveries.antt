-- Stores, one after another.
use Rattle.std.proofs.Common.{◌≡◌, ℕ, ◌+◌, ◌<◌, List, [], ◌∷◌, ◌++◌, Some, Err, zero, suc, refl, sym, ap, ◌∙◌, subst, arith, length, map, take, get_or, slice_get}
use Rattle.std.proofs.lemmas.List.{map-append, take_more}
use Rattle.host_io.specs.Files.{FailsToStore, FilesState, StoreEnds, stored_in}
use Rattle.host_io.specs.declared.files.StoreError.{StoreError}
use Rattle.host_io.specs.declared.files.StoreError.TheVariants as failure
use Rattle.aprof_top.specs.declared.delivery.Store.{Store}
use Rattle.aprof_top.specs.Outside.{with_stores}
use Rattle.aprof_top.specs.Private.Jobs.{StoresEnd, store_of}
use Rattle.aprof_top.proofs.Sinks.{with_stores-more}

-- the first stores, with one more
first_more : (stores : List Store) (i : ℕ) (s : Store) → i < length stores → s ≡ get_or stores i s → map store_of (take (i + 1) stores) ≡ map store_of (take i stores) ++ store_of s ∷ []
first_more stores i s within is =
    ap (map store_of) (take_more stores i s within)
    ∙ map-append store_of (take i stores) (get_or stores i s ∷ [])
    ∙ ap (λ t. map store_of (take i stores) ++ store_of t ∷ []) (sym is)

first_of_map : (stores : List Store) (i : ℕ) → map store_of (take i stores) ≡ take i (map store_of stores)
first_of_map [] zero = refl
first_of_map [] (suc i) = refl
first_of_map (s ∷ stores) zero = refl
first_of_map (s ∷ stores) (suc i) = ap (λ rest. store_of s ∷ rest) (first_of_map stores i)

store_at : (stores : List Store) (i : ℕ) (s : Store) → i < length stores → s ≡ get_or stores i s → slice_get (map store_of stores) i ≡ Some (store_of s)
store_at [] i s within is = absurd (omega (arith, within))
store_at (first ∷ stores) zero s within is = ap (λ t. Some (store_of t)) (sym is)
store_at (first ∷ stores) (suc i) s within is = store_at stores i s (omega (arith, within)) is

module _ (stores : List Store) (i : ℕ) (s : Store) (bytes : List ℕ) (old mid new : FilesState) (within : i < length stores) (is : s ≡ get_or stores i s) (same : bytes ≡ s.bytes.items) (done : mid ≡ with_stores (map store_of (take i stores)) old) where
  done_first : mid ≡ with_stores (take i (map store_of stores)) old
  done_first = done ∙ ap (λ first. with_stores first old) (first_of_map stores i)

  -- one more was done
  pub stores_more : new ≡ stored_in mid s.path.now bytes → new ≡ with_stores (map store_of (take (i + 1) stores)) old
  stores_more put =
      put
      ∙ ap (stored_in mid s.path.now) same
      ∙ ap (λ files. stored_in files s.path.now s.bytes.items) done
      ∙ sym (with_stores-more (map store_of (take i stores)) (store_of s) old)
      ∙ ap (λ first. with_stores first old) (sym (first_more stores i s within is))

  -- it failed, or memory ran out
  pub stores_stop : (e : StoreError) → StoreEnds s.path.now bytes mid new (Err e) → StoresEnd (map store_of stores) old new (Err e)
  stores_stop failure.Failed ends = record {
    count = i;
    store = store_of s;
    next = store_at stores i s within is;
    failed = subst (λ files. FailsToStore s.path.now files new) done_first ends;
  }
  stores_stop failure.Memory ends = (i, ends ∙ done_first)
