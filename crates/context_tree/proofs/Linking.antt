-- One more context among the links.
use Rattle.std.proofs.Common.{◌≡◌, ◌≢◌, ℕ, zero, suc, ◌+◌, ◌-◌, ◌<◌, ◌≤◌, ◌⊎◌, inl, inr, List, [], ◌∷◌, ◌++◌, length, get_or, set, Option, Some, None, refl, sym, ap, ◌∙◌, subst, arith, length-append}
use Rattle.std.proofs.lemmas.Bool.{cases_eq, cases_lt}
use Rattle.std.proofs.lemmas.List.{get_or_append_left, get_or-set_other, get_or-set_same, length-set}
use Rattle.std.proofs.Math.Seq.{get_or-append_seam}
use Rattle.context_tree.specs.declared.order.Links.{Links}
use Rattle.context_tree.specs.Links.{IsLastUnder, IsLinked, IsNextUnder, links_at, no_links}
use Rattle.context_tree.specs.Numbers.{above_of}

-- ---- depths
pub depth_le : (places : List (ℕ × ℕ)) (links : List Links) → IsLinked places links → (k n : ℕ) → n ≤ k → n ≤ length places → (links_at links n).depth ≤ n
depth_le places links linked k zero le within = omega (arith, linked.none)
depth_le places links linked zero (suc n) le within = absurd (omega (arith, le))
depth_le places links linked (suc k) (suc n) le within =
    let falls = linked.falls (suc n) (omega arith) within in
    let up = depth_le places links linked k (above_of places (suc n)) (omega (arith, falls, le)) (omega (arith, falls, within)) in
    omega (arith, linked.depth (suc n) (omega arith) within, up, falls)

-- ---- what the links become
pub record IsGrown (links new : List Links) (p : ℕ) : Type 0 where
  pub long : length new ≡ suc (length links)
  pub lasts : (n : ℕ) → n < length links → n ≢ p → (links_at new n).last_child ≡ (links_at links n).last_child
  pub depths : (n : ℕ) → n < length links → (links_at new n).depth ≡ (links_at links n).depth
  pub firsts : (n : ℕ) → n < length links → n ≢ p → (links_at new n).first_child ≡ (links_at links n).first_child
  pub nexts : (n : ℕ) → n < length links → (links_at links p).last_child ≢ Some n → (links_at new n).next_sibling ≡ (links_at links n).next_sibling
  pub own_last : (links_at new p).last_child ≡ Some (length links)
  pub own_first : (links_at links p).last_child ≡ None → (links_at new p).first_child ≡ Some (length links)
  pub still_first : (l : ℕ) → (links_at links p).last_child ≡ Some l → (links_at new p).first_child ≡ (links_at links p).first_child
  pub own_next : (l : ℕ) → (links_at links p).last_child ≡ Some l → (links_at new l).next_sibling ≡ Some (length links)
  pub fresh : links_at new (length links) ≡ record { first_child = None; last_child = None; next_sibling = None; depth = (links_at links p).depth + 1 }

-- a change of one of them keeps a part that it keeps there
kept_at : {X : Type 0} (f : Links → X) (links : List Links) (i : ℕ) (x : Links) → i < length links → f x ≡ f (links_at links i) → (n : ℕ) → f (links_at (set links i x) n) ≡ f (links_at links n)
kept_at f links i x lt same n = elim (cases_eq n i) [
  | inl is ↦ subst (λ m. f (links_at (set links i x) m) ≡ f (links_at links m)) (sym is) (ap f (get_or-set_same links i x no_links lt) ∙ same)
  | inr other ↦ ap f (get_or-set_other links i n x no_links other)
]

-- the rest of the change, after that of the last one under p, or of p
module _ (links one : List Links) (p : ℕ) (lt : p < length links) (long : length one ≡ length links) where
  abbrev two : List Links
  two = set one p (record (links_at one p) { last_child = Some (length links) })

  abbrev new_links : Links
  new_links = record { first_child = None; last_child = None; next_sibling = None; depth = (links_at links p).depth + 1 }

  in_two : (n : ℕ) → n < length links → links_at (two ++ new_links ∷ []) n ≡ links_at two n
  in_two n inside = get_or_append_left two (new_links ∷ []) no_links n (omega (arith, inside, length-set one p (record (links_at one p) { last_child = Some (length links) }), long))

  in_one : {X : Type 0} (f : Links → X) → f (record (links_at one p) { last_child = Some (length links) }) ≡ f (links_at one p) → (n : ℕ) → n < length links → f (links_at (two ++ new_links ∷ []) n) ≡ f (links_at one n)
  in_one f same n inside = ap f (in_two n inside) ∙ kept_at f one p (record (links_at one p) { last_child = Some (length links) }) (omega (arith, lt, long)) same n

  pub grown : (lasts : (n : ℕ) → (links_at one n).last_child ≡ (links_at links n).last_child) → (depths : (n : ℕ) → (links_at one n).depth ≡ (links_at links n).depth) →
      (firsts : (n : ℕ) → n ≢ p → (links_at one n).first_child ≡ (links_at links n).first_child) →
      (nexts : (n : ℕ) → (links_at links p).last_child ≢ Some n → (links_at one n).next_sibling ≡ (links_at links n).next_sibling) →
      (own_first : (links_at links p).last_child ≡ None → (links_at one p).first_child ≡ Some (length links)) →
      (still_first : (l : ℕ) → (links_at links p).last_child ≡ Some l → (links_at one p).first_child ≡ (links_at links p).first_child) →
      (own_next : (l : ℕ) → (links_at links p).last_child ≡ Some l → (l < length links) × ((links_at one l).next_sibling ≡ Some (length links))) →
      IsGrown links (two ++ new_links ∷ []) p
  grown lasts depths firsts nexts own_first still_first own_next = record {
    long = omega (arith, length-append two (new_links ∷ []), length-set one p (record (links_at one p) { last_child = Some (length links) }), long);
    lasts = λ n inside other. ap (λ (x : Links). x.last_child) (in_two n inside ∙ get_or-set_other one p n (record (links_at one p) { last_child = Some (length links) }) no_links other) ∙ lasts n;
    depths = λ n inside. in_one (λ (x : Links). x.depth) refl n inside ∙ depths n;
    firsts = λ n inside other. in_one (λ (x : Links). x.first_child) refl n inside ∙ firsts n other;
    nexts = λ n inside other. in_one (λ (x : Links). x.next_sibling) refl n inside ∙ nexts n other;
    own_last = ap (λ (x : Links). x.last_child) (in_two p lt ∙ get_or-set_same one p (record (links_at one p) { last_child = Some (length links) }) no_links (omega (arith, lt, long)));
    own_first = λ is. in_one (λ (x : Links). x.first_child) refl p lt ∙ own_first is;
    still_first = λ l is. in_one (λ (x : Links). x.first_child) refl p lt ∙ still_first l is;
    own_next = λ l is. in_one (λ (x : Links). x.next_sibling) refl l (own_next l is).0 ∙ (own_next l is).1;
    fresh =
        let seam : length links ≡ length two = sym (length-set one p (record (links_at one p) { last_child = Some (length links) }) ∙ long) in
        ap (λ n. links_at (two ++ new_links ∷ []) n) seam ∙ get_or-append_seam two new_links [] no_links;
  }

-- there is a last one under p
pub grown_after : (links : List Links) (p l : ℕ) (old : Links) → p < length links → l < length links → (links_at links p).last_child ≡ Some l → old ≡ links_at links l →
    IsGrown links (set (set links l (record old { next_sibling = Some (length links) })) p
    (record (links_at (set links l (record old { next_sibling = Some (length links) })) p) { last_child = Some (length links) })
    ++ record { first_child = None; last_child = None; next_sibling = None; depth = (links_at links p).depth + 1 } ∷ []) p
grown_after links p l old p_in l_in is read =
    let x : Links = record old { next_sibling = Some (length links) } in
    grown links (set links l (record old { next_sibling = Some (length links) })) p p_in (length-set links l (record old { next_sibling = Some (length links) }))
    (kept_at (λ (x : Links). x.last_child) links l (record old { next_sibling = Some (length links) }) l_in (ap (λ (x : Links). x.last_child) read))
    (kept_at (λ (x : Links). x.depth) links l (record old { next_sibling = Some (length links) }) l_in (ap (λ (x : Links). x.depth) read))
    (λ n other. kept_at (λ (x : Links). x.first_child) links l (record old { next_sibling = Some (length links) }) l_in (ap (λ (x : Links). x.first_child) read) n)
    (λ n other. ap (λ (x : Links). x.next_sibling) (get_or-set_other links l n (record old { next_sibling = Some (length links) }) no_links (λ same. other (is ∙ ap (λ m. Some m) (sym same)))))
    (λ none. let both : Some l ≡ None = sym is ∙ none in absurd (cc))
    (λ k some. kept_at (λ (x : Links). x.first_child) links l (record old { next_sibling = Some (length links) }) l_in (ap (λ (x : Links). x.first_child) read) p)
    (λ k some.
    let both : Some l ≡ Some k = sym is ∙ some in
    let same : l ≡ k = cc in
    subst (λ m. (m < length links) × ((links_at (set links l (record old { next_sibling = Some (length links) })) m).next_sibling ≡ Some (length links))) same
    (l_in, ap (λ (x : Links). x.next_sibling) (get_or-set_same links l (record old { next_sibling = Some (length links) }) no_links l_in)))

-- there is none
pub grown_first : (links : List Links) (p : ℕ) (old : Links) → p < length links → (links_at links p).last_child ≡ None → old ≡ links_at links p →
    IsGrown links (set (set links p (record old { first_child = Some (length links) })) p
    (record (links_at (set links p (record old { first_child = Some (length links) })) p) { last_child = Some (length links) })
    ++ record { first_child = None; last_child = None; next_sibling = None; depth = (links_at links p).depth + 1 } ∷ []) p
grown_first links p old p_in is read =
    grown links (set links p (record old { first_child = Some (length links) })) p p_in (length-set links p (record old { first_child = Some (length links) }))
    (kept_at (λ (x : Links). x.last_child) links p (record old { first_child = Some (length links) }) p_in (ap (λ (x : Links). x.last_child) read))
    (kept_at (λ (x : Links). x.depth) links p (record old { first_child = Some (length links) }) p_in (ap (λ (x : Links). x.depth) read))
    (λ n other. ap (λ (x : Links). x.first_child) (get_or-set_other links p n (record old { first_child = Some (length links) }) no_links other))
    (λ n other. kept_at (λ (x : Links). x.next_sibling) links p (record old { first_child = Some (length links) }) p_in (ap (λ (x : Links). x.next_sibling) read) n)
    (λ none. ap (λ (x : Links). x.first_child) (get_or-set_same links p (record old { first_child = Some (length links) }) no_links p_in))
    (λ l some. let both : Some l ≡ None = sym some ∙ is in absurd (cc))
    (λ l some. let both : Some l ≡ None = sym some ∙ is in absurd (cc))

-- ---- the places with one more
module _ (places : List (ℕ × ℕ)) (p entry : ℕ) (p_in : p ≤ length places) (falls : (n : ℕ) → 1 ≤ n → n ≤ length places → above_of places n < n) where
  abbrev more : List (ℕ × ℕ)
  more = places ++ (p, entry) ∷ []

  long_more : length (places ++ (p, entry) ∷ []) ≡ suc (length places)
  long_more = omega (arith, length-append places ((p, entry) ∷ []))

  above_old : (t : ℕ) → 1 ≤ t → t ≤ length places → above_of (places ++ (p, entry) ∷ []) t ≡ above_of places t
  above_old t some within = ap (λ (x : ℕ × ℕ). x.0) (get_or_append_left places ((p, entry) ∷ []) (0, 0) (t - 1) (omega (arith, some, within)))

  above_new : above_of (places ++ (p, entry) ∷ []) (suc (length places)) ≡ p
  above_new =
      let at : suc (length places) - 1 ≡ length places = omega arith in
      ap (λ i. (get_or (places ++ (p, entry) ∷ []) i (0, 0)).0) at ∙ ap (λ (x : ℕ × ℕ). x.0) (get_or-append_seam places (p, entry) [] (0, 0))

  next_some : (n k s : ℕ) → IsNextUnder places n k (Some s) → IsNextUnder (places ++ (p, entry) ∷ []) n k (Some s)
  next_some n k s is = (
    is.0,
    omega (arith, is.1, long_more),
    above_old s (omega (arith, is.0)) is.1 ∙ is.2,
    λ t low high same. is.3 t low high (sym (above_old t (omega (arith, low)) (omega (arith, high, is.1))) ∙ same),
  )

  next_none : (n k : ℕ) → n ≢ p → IsNextUnder places n k None → IsNextUnder (places ++ (p, entry) ∷ []) n k None
  next_none n k other none t low within same = elim (cases_lt (length places) t) [
    | inl beyond ↦
        let last : t ≡ suc (length places) = omega (arith, beyond, within, long_more) in
        other (sym same ∙ ap (above_of (places ++ (p, entry) ∷ [])) last ∙ above_new)
    | inr old ↦ none t low old (sym (above_old t (omega (arith, low)) old) ∙ same)
  ]

  next_new : (k : ℕ) → k ≤ length places → IsNextUnder places p k None → IsNextUnder (places ++ (p, entry) ∷ []) p k (Some (suc (length places)))
  next_new k le none = (
    omega (arith, le),
    omega (arith, long_more),
    above_new,
    λ t low high same. none t low (omega (arith, high)) (sym (above_old t (omega (arith, low)) (omega (arith, high))) ∙ same),
  )

  next_past : (n : ℕ) → IsNextUnder (places ++ (p, entry) ∷ []) n (suc (length places)) None
  next_past n t low within same = absurd (omega (arith, low, within, long_more))

  next_fresh : IsNextUnder (places ++ (p, entry) ∷ []) (suc (length places)) 0 None
  next_fresh t low within same = elim (cases_lt (length places) t) [
    | inl beyond ↦
        let last : t ≡ suc (length places) = omega (arith, beyond, within, long_more) in
        let is : p ≡ suc (length places) = sym above_new ∙ ap (above_of (places ++ (p, entry) ∷ [])) (sym last) ∙ same in
        absurd (omega (arith, is, p_in))
    | inr old ↦
        let less = falls t (omega (arith, low)) old in
        let is = above_old t (omega (arith, low)) old in
        absurd (omega (arith, less, is, same, old))
  ]

  next_kept : (n k : ℕ) (o : Option ℕ) → (o ≡ None → n ≢ p) → IsNextUnder places n k o → IsNextUnder (places ++ (p, entry) ∷ []) n k o
  next_kept n k None other is = next_none n k (other refl) is
  next_kept n k (Some s) other is = next_some n k s is

  last_kept : (n : ℕ) (o : Option ℕ) → n ≢ p → IsLastUnder places n o → IsLastUnder (places ++ (p, entry) ∷ []) n o
  last_kept n None other is = next_none n 0 other is
  last_kept n (Some l) other is = (is.0, omega (arith, is.1, long_more), above_old l is.0 is.1 ∙ is.2, next_none n l other is.3)

-- ---- and their links
module _ (places : List (ℕ × ℕ)) (p entry : ℕ) (p_in : p ≤ length places) (links new : List Links) (linked : IsLinked places links) (grows : IsGrown links new p) where
  abbrev all : List (ℕ × ℕ)
  all = places ++ (p, entry) ∷ []

  abbrev number : ℕ
  number = suc (length places)

  in_links : (n : ℕ) → n ≤ length places → n < length links
  in_links n le = omega (arith, le, linked.long)

  first_more : (n : ℕ) → n ≤ length places → IsNextUnder all n 0 (links_at new n).first_child
  first_more n le = elim (cases_eq n p) [
    | inr other ↦
        subst (IsNextUnder all n 0) (sym (grows.firsts n (in_links n le) other))
        (next_kept places p entry p_in linked.falls n 0 (links_at links n).first_child (λ none. other) (linked.first n le))
    | inl is ↦ subst (λ m. IsNextUnder all m 0 (links_at new m).first_child) (sym is) (by (links_at links p).last_child refl (linked.last p p_in))
  ]
    where
      by : (o : Option ℕ) → (links_at links p).last_child ≡ o → IsLastUnder places p o → IsNextUnder all p 0 (links_at new p).first_child
      by None is none =
          subst (IsNextUnder all p 0) (sym (grows.own_first is ∙ ap (λ m. Some m) linked.long)) (next_new places p entry p_in linked.falls 0 (omega arith) none)
      by (Some l) is last =
          subst (IsNextUnder all p 0) (sym (grows.still_first l is))
          (next_kept places p entry p_in linked.falls p 0 (links_at links p).first_child
          (λ none same. (subst (IsNextUnder places p 0) none (linked.first p p_in)) l (omega (arith, last.0)) last.1 last.2) (linked.first p p_in))

  last_more : (n : ℕ) → n ≤ length places → IsLastUnder all n (links_at new n).last_child
  last_more n le = elim (cases_eq n p) [
    | inr other ↦
        subst (IsLastUnder all n) (sym (grows.lasts n (in_links n le) other)) (last_kept places p entry p_in linked.falls n (links_at links n).last_child other (linked.last n le))
    | inl is ↦
        subst (λ m. IsLastUnder all m (links_at new m).last_child) (sym is)
        (subst (IsLastUnder all p) (sym (grows.own_last ∙ ap (λ m. Some m) linked.long))
        (omega arith, omega (arith, long_more places p entry p_in linked.falls), above_new places p entry p_in linked.falls, next_past places p entry p_in linked.falls p))
  ]

  next_more : (n : ℕ) → 1 ≤ n → n ≤ length places → IsNextUnder all (above_of places n) n (links_at new n).next_sibling
  next_more n some le = by (links_at links p).last_child refl (linked.last p p_in)
    where
      old_next : (above_of places n ≢ p ⊎ ((links_at links n).next_sibling ≢ None)) → (links_at links p).last_child ≢ Some n → IsNextUnder all (above_of places n) n (links_at new n).next_sibling
      old_next reason other =
          subst (IsNextUnder all (above_of places n) n) (sym (grows.nexts n (in_links n le) other))
          (next_kept places p entry p_in linked.falls (above_of places n) n (links_at links n).next_sibling (λ none. elim reason [ inl apart ↦ apart | inr there ↦ absurd (there none) ]) (linked.next n some le))

      by : (o : Option ℕ) → (links_at links p).last_child ≡ o → IsLastUnder places p o → IsNextUnder all (above_of places n) n (links_at new n).next_sibling
      by None is none = old_next (inl (λ same. none n (omega (arith, some)) le same)) (λ yes. let both : None ≡ Some n = sym is ∙ yes in absurd (cc))
      by (Some l) is last = elim (cases_eq n l) [
        | inl same ↦
            subst (λ m. IsNextUnder all (above_of places m) m (links_at new m).next_sibling) (sym same)
            (subst (λ q. IsNextUnder all q l (links_at new l).next_sibling) (sym last.2)
            (subst (IsNextUnder all p l) (sym (grows.own_next l is ∙ ap (λ m. Some m) linked.long)) (next_new places p entry p_in linked.falls l last.1 last.3)))
        | inr other ↦
            let apart : (links_at links p).last_child ≢ Some n = λ yes. let both : Some l ≡ Some n = sym is ∙ yes in let one : n ≡ l = cc in absurd (other one) in
            elim (cases_lt n l) [
              | inl less ↦
                  elim (cases_eq (above_of places n) p) [
                    | inl under ↦
                        old_next (inr (λ none. (subst (IsNextUnder places (above_of places n) n) none (linked.next n some le)) l less last.1 (last.2 ∙ sym under))) apart
                    | inr free ↦ old_next (inl free) apart
                  ]
              | inr above ↦ old_next (inl (λ same. last.3 n (omega (arith, above, other)) le same)) apart
            ]
      ]

  up_to : {P : ℕ → Type 0} → ((n : ℕ) → n ≤ length places → P n) → P (suc (length places)) → (n : ℕ) → n ≤ length all → P n
  up_to {P} below last n le = elim (cases_lt (length places) n) [
    | inl beyond ↦
        let is : n ≡ suc (length places) = omega (arith, beyond, le, long_more places p entry p_in linked.falls) in
        subst P (sym is) last
    | inr within ↦ below n within
  ]

  fresh_at : links_at new (suc (length places)) ≡ record { first_child = None; last_child = None; next_sibling = None; depth = (links_at links p).depth + 1 }
  fresh_at = ap (links_at new) (sym linked.long) ∙ grows.fresh

  pub linked_more : IsLinked (places ++ (p, entry) ∷ []) new
  linked_more = record {
    long = omega (arith, grows.long, linked.long, long_more places p entry p_in linked.falls);
    falls = λ n some le.
        up_to {P = λ n. 1 ≤ n → above_of all n < n} (λ n le some. subst (λ q. q < n) (sym (above_old places p entry p_in linked.falls n some le)) (linked.falls n some le))
        (λ some. subst (λ q. q < suc (length places)) (sym (above_new places p entry p_in linked.falls)) (omega (arith, p_in))) n le some;
    first = up_to {P = λ n. IsNextUnder all n 0 (links_at new n).first_child} first_more
        (subst (λ (x : Links). IsNextUnder all (suc (length places)) 0 x.first_child) (sym fresh_at) (next_fresh places p entry p_in linked.falls));
    last = up_to {P = λ n. IsLastUnder all n (links_at new n).last_child} last_more
        (subst (λ (x : Links). IsLastUnder all (suc (length places)) x.last_child) (sym fresh_at) (next_fresh places p entry p_in linked.falls));
    next = λ n some le.
        up_to {P = λ n. 1 ≤ n → IsNextUnder all (above_of all n) n (links_at new n).next_sibling}
        (λ n le some. subst (λ q. IsNextUnder all q n (links_at new n).next_sibling) (sym (above_old places p entry p_in linked.falls n some le)) (next_more n some le))
        (λ some. subst (λ (x : Links). IsNextUnder all (above_of all (suc (length places))) (suc (length places)) x.next_sibling) (sym fresh_at) (next_past places p entry p_in linked.falls (above_of all (suc (length places))))) n le some;
    none = grows.depths 0 (in_links 0 (omega arith)) ∙ linked.none;
    depth = λ n some le.
        up_to {P = λ n. 1 ≤ n → (links_at new n).depth ≡ (links_at new (above_of all n)).depth + 1}
        (λ n le some.
        let falls = linked.falls n some le in
        grows.depths n (in_links n le) ∙ linked.depth n some le ∙ ap (λ m. m + 1) (sym (grows.depths (above_of places n) (in_links (above_of places n) (omega (arith, falls, le)))))
        ∙ ap (λ q. (links_at new q).depth + 1) (sym (above_old places p entry p_in linked.falls n some le)))
        (λ some.
        ap (λ (x : Links). x.depth) fresh_at ∙ ap (λ m. m + 1) (sym (grows.depths p (in_links p p_in))) ∙ ap (λ q. (links_at new q).depth + 1) (sym (above_new places p entry p_in linked.falls))) n le some;
  }

-- the change as the code makes it
abbrev bare : ℕ → Links
bare depth = record { first_child = None; last_child = None; next_sibling = None; depth = depth }

pub shape_is : (links one made items : List Links) (p m : ℕ) (two fresh place : Links) → m ≡ length links → made ≡ one → two ≡ links_at one p → fresh ≡ bare (place.depth + 1) → place ≡ links_at links p →
    items ≡ set made p (record two { last_child = Some m }) ++ fresh ∷ [] →
    items ≡ set one p (record (links_at one p) { last_child = Some (length links) }) ++ record { first_child = None; last_child = None; next_sibling = None; depth = (links_at links p).depth + 1 } ∷ []
shape_is links one made items p m two fresh place m_is made_is two_is fresh_is place_is items_are =
    items_are
    ∙ ap (λ o. set o p (record two { last_child = Some m }) ++ fresh ∷ []) made_is
    ∙ ap (λ (t : Links). set one p (record t { last_child = Some m }) ++ fresh ∷ []) two_is
    ∙ ap (λ k. set one p (record (links_at one p) { last_child = Some k }) ++ fresh ∷ []) m_is
    ∙ ap (λ f. set one p (record (links_at one p) { last_child = Some (length links) }) ++ f ∷ []) (fresh_is ∙ ap (λ (x : Links). bare (x.depth + 1)) place_is)

-- the last one under p is one of them
pub last_within : (places : List (ℕ × ℕ)) (links : List Links) (p l : ℕ) → IsLinked places links → p ≤ length places → (links_at links p).last_child ≡ Some l → l < length links
last_within places links p l linked p_in is =
    let last : IsLastUnder places p (Some l) = subst (IsLastUnder places p) is (linked.last p p_in) in
    omega (arith, last.1, linked.long)
