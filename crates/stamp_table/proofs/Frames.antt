-- What reads and pops make of the starts and the totals of frames.
use Rattle.std.proofs.Common.{◌≡◌, ℕ, zero, suc, ◌+◌, ◌≤◌, Bool, true, false, cond, leb, List, [], ◌∷◌, take, drop, map, get_or, refl, sym, ap, subst, ◌∙◌, arith}
use Rattle.std.specs.List.{AllZip}
use Rattle.std.proofs.Math.Seq.{drop-nil}
use Rattle.std.proofs.lemmas.Bool.{leb-true, le-leb}
use Rattle.std.proofs.lemmas.Int.{ints}
use Rattle.stamp_lanes.specs.Plain.{Place}
use Rattle.shadow_stack.specs.declared.sums.Sums.{Sums}
use Rattle.shadow_stack.specs.Frames.{Frame, plus, starts_of}
use Rattle.stamp_table.specs.Frames.{no_sums, negated, added_to_top, taken_at, gain, frames_after_read, frames_after_reads, frames_after_pops, popped}
use Rattle.stamp_table.specs.Stands.{totals, IsFalling}

-- ---- sums
pub same_sums : (s r : Sums) → s.plain ≡ r.plain → s.bare ≡ r.bare → s ≡ r
same_sums s r p b = λ i. record { plain = p i; bare = b i }

plus-none : (s : Sums) → plus no_sums s ≡ s
plus-none s = same_sums _ _ (omega (arith, ints)) (omega (arith, ints))

pub none-plus : (s : Sums) → plus s no_sums ≡ s
none-plus s = same_sums _ _ (omega (arith, ints)) (omega (arith, ints))

inner : (above s by : Sums) → plus above (plus s by) ≡ plus (plus above by) s
inner above s by = same_sums _ _ (omega (arith, ints)) (omega (arith, ints))

swapped : (above by s : Sums) → plus (plus above by) s ≡ plus (plus above s) by
swapped above by s = same_sums _ _ (omega (arith, ints)) (omega (arith, ints))

cancelled : (above s by : Sums) → plus (plus above by) (plus s (negated by)) ≡ plus above s
cancelled above s by = same_sums _ _ (omega (arith, ints)) (omega (arith, ints))

-- ---- starts
starts-added : (by : Sums) (frames : List Frame) → starts_of (added_to_top by frames) ≡ starts_of frames
starts-added by [] = refl
starts-added by (f ∷ frames) = refl

starts-taken : (by : Sums) (stamp : ℕ) (frames : List Frame) → starts_of (taken_at by stamp frames) ≡ starts_of frames
starts-taken by stamp [] = refl
starts-taken by stamp (f ∷ frames) = at (leb f.start stamp) (starts-taken by stamp frames)
  where
    at : (b : Bool) → starts_of (taken_at by stamp frames) ≡ starts_of frames →
        starts_of (cond b (record f { sums = plus f.sums (negated by) } ∷ frames) (f ∷ taken_at by stamp frames)) ≡ f.start ∷ starts_of frames
    at true rest = refl
    at false rest = ap (λ starts. f.start ∷ starts) rest

pub starts-read : (p : Place) (frames : List Frame) → starts_of (frames_after_read p frames) ≡ starts_of frames
starts-read p frames = starts-added (gain p) (taken_at (gain p) p.own frames) ∙ starts-taken (gain p) p.own frames

pub starts-reads : (places : List Place) (frames : List Frame) → starts_of (frames_after_reads places frames) ≡ starts_of frames
starts-reads [] frames = refl
starts-reads (p ∷ places) frames = starts-reads places (frames_after_read p frames) ∙ starts-read p frames

pub starts-pops : (n : ℕ) (frames : List Frame) → starts_of (frames_after_pops n frames) ≡ drop n (starts_of frames)
starts-pops zero frames = refl
starts-pops (suc n) [] = starts-pops n [] ∙ drop-nil n
starts-pops (suc n) (f ∷ frames) = starts-pops n (added_to_top f.sums frames) ∙ ap (drop n) (starts-added f.sums frames)

-- ---- totals, as frames are popped
totals-added : (by above : Sums) (frames : List Frame) → totals above (added_to_top by frames) ≡ totals (plus above by) frames
totals-added by above [] = refl
totals-added by above (f ∷ frames) = ap (λ s. s ∷ totals s frames) (inner above f.sums by)

pub totals-pops : (n : ℕ) (frames : List Frame) → totals no_sums (frames_after_pops n frames) ≡ drop n (totals no_sums frames)
totals-pops zero frames = refl
totals-pops (suc n) [] = totals-pops n [] ∙ drop-nil n
totals-pops (suc n) (f ∷ frames) = totals-pops n (added_to_top f.sums frames) ∙ ap (drop n) (totals-added f.sums no_sums frames)

pub popped-totals : (n : ℕ) (frames : List Frame) → popped n frames ≡ take n (totals no_sums frames)
popped-totals zero frames = refl
popped-totals (suc n) [] = refl
popped-totals (suc n) (f ∷ frames) =
    let rest = popped-totals n (added_to_top f.sums frames) ∙ ap (take n) (totals-added f.sums no_sums frames) in
    λ i. sym (plus-none f.sums) i ∷ rest i

-- ---- totals, as words are read
pub zip-map : {A B : Type 0} (P Q : A → B → Type 0) → ((x : A) (y : B) → P x y → Q x y) → (xs : List A) (ys : List B) → AllZip P xs ys → AllZip Q xs ys
zip-map P Q each [] [] h = h
zip-map P Q each [] (y ∷ ys) h = h
zip-map P Q each (x ∷ xs) [] h = h
zip-map P Q each (x ∷ xs) (y ∷ ys) h = (each x y h.0, zip-map P Q each xs ys h.1)

-- all that words add
abbrev pub with_gains : (ℕ → Sums) → List ℕ → Sums → Sums
with_gains gained [] s = s
with_gains gained (l ∷ words) s = with_gains gained words (plus s (gained l))

module _ {A : Type 0} where
  -- how a read with this gain, of a word with this access stamp, changes the total of the frame that starts so
  abbrev Rises : Sums → ℕ → (A → Sums) → (A → Sums) → ℕ → A → Type 0
  Rises by own z z' s a = z' a ≡ cond (leb s own) (z a) (plus (z a) by)

  none_rises : (by : Sums) (own limit : ℕ) (z z' : A → Sums) (starts : List ℕ) (calls : List A) → limit ≤ own + 1 → IsFalling limit starts →
      AllZip (Rises by own z z') starts calls → map z calls ≡ map z' calls
  none_rises by own limit z z' [] [] low falling all = refl
  none_rises by own limit z z' [] (a ∷ calls) low falling all = absurd all
  none_rises by own limit z z' (s ∷ starts) [] low falling all = absurd all
  none_rises by own limit z z' (s ∷ starts) (a ∷ calls) low falling all =
      let here : leb s own ≡ true = le-leb s own (omega (arith, falling.1)) in
      let same : z a ≡ z' a = sym (all.0 ∙ ap (λ b. cond b (z a) (plus (z a) by)) here) in
      let rest = none_rises by own s z z' starts calls (omega (arith, falling.1)) falling.2 all.1 in
      λ i. same i ∷ rest i

  -- the totals have risen, and those from the frame that is found on have not
  totals-taken : (by : Sums) (own limit : ℕ) (z z' : A → Sums) (above : Sums) (frames : List Frame) (calls : List A) →
      IsFalling limit (starts_of frames) → AllZip (Rises by own z z') (starts_of frames) calls →
      totals above frames ≡ map z calls → totals (plus above by) (taken_at by own frames) ≡ map z' calls
  totals-taken by own limit z z' above [] [] falling all is = refl
  totals-taken by own limit z z' above [] (a ∷ calls) falling all is = absurd all
  totals-taken by own limit z z' above (f ∷ frames) [] falling all is = absurd all
  totals-taken by own limit z z' above (f ∷ frames) (a ∷ calls) falling all is =
      let head : plus above f.sums ≡ z a = ap (λ xs. get_or xs 0 no_sums) is in
      let tail : totals (plus above f.sums) frames ≡ map z calls = ap (drop 1) is in
      at (leb f.start own) refl head tail (totals-taken by own f.start z z' (plus above f.sums) frames calls falling.2 all.1 tail)
    where
      at : (b : Bool) → leb f.start own ≡ b → plus above f.sums ≡ z a → totals (plus above f.sums) frames ≡ map z calls →
          totals (plus (plus above f.sums) by) (taken_at by own frames) ≡ map z' calls →
          totals (plus above by) (cond b (record f { sums = plus f.sums (negated by) } ∷ frames) (f ∷ taken_at by own frames)) ≡ z' a ∷ map z' calls
      at true found head tail rest =
          let same : z a ≡ z' a = sym (all.0 ∙ ap (λ b. cond b (z a) (plus (z a) by)) found) in
          let on = none_rises by own f.start z z' (starts_of frames) calls (omega (arith, leb-true f.start own found)) falling.2 all.1 in
          ap (λ s. s ∷ totals s frames) (cancelled above f.sums by) ∙ (λ i. (head ∙ same) i ∷ (tail ∙ on) i)
      at false above_it head tail rest =
          let more : plus (z a) by ≡ z' a = sym (all.0 ∙ ap (λ b. cond b (z a) (plus (z a) by)) above_it) in
          ap (λ s. s ∷ totals s (taken_at by own frames)) (swapped above by f.sums) ∙ (λ i. (ap (λ s. plus s by) head ∙ more) i ∷ rest i)

  -- a read of the word at the place adds so much in the activation whose frame starts so
  abbrev pub Tells : (ℕ → Place) → (A → ℕ → Sums) → ℕ → ℕ → A → Type 0
  Tells place gained l s a = gained a l ≡ cond (leb s (place l).own) no_sums (gain (place l))

  pub totals-reads : (place : ℕ → Place) (gained : A → ℕ → Sums) (words : List ℕ) (z : A → Sums) (limit : ℕ) (frames : List Frame) (calls : List A) →
      IsFalling limit (starts_of frames) → ((l : ℕ) → AllZip (Tells place gained l) (starts_of frames) calls) →
      totals no_sums frames ≡ map z calls → totals no_sums (frames_after_reads (map place words) frames) ≡ map (λ a. with_gains (gained a) words (z a)) calls
  totals-reads place gained [] z limit frames calls falling tells is = is
  totals-reads place gained (l ∷ words) z limit frames calls falling tells is =
      let p = place l in
      let z' : A → Sums = λ a. plus (z a) (gained a l) in
      let same = sym (starts-read p frames) in
      let rises = zip-map (Tells place gained l) (Rises (gain p) p.own z z') (λ s a told. ap (plus (z a)) told ∙ chosen (leb s p.own) (z a) (gain p)) (starts_of frames) calls (tells l) in
      let one : totals no_sums (frames_after_read p frames) ≡ map z' calls =
      totals-added (gain p) no_sums (taken_at (gain p) p.own frames) ∙ totals-taken (gain p) p.own limit z z' no_sums frames calls falling rises is in
      totals-reads place gained words z' limit (frames_after_read p frames) calls (subst (IsFalling limit) same falling)
      (λ k. subst (λ starts. AllZip (Tells place gained k) starts calls) same (tells k)) one
    where
      chosen : (b : Bool) (s by : Sums) → plus s (cond b no_sums by) ≡ cond b s (plus s by)
      chosen true s by = none-plus s
      chosen false s by = refl
