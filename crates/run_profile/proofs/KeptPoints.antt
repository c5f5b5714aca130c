-- What the keeper of points holds.
use Rattle.std.proofs.Common.{◌≡◌, ◌∙◌, ℕ, zero, suc, ◌+◌, ◌<◌, ◌≤◌, ◌^◌, Bool, true, false, List, [], ◌∷◌, ◌++◌, length, take, refl, sym, ap, subst, arith, length-append}
use Rattle.std.specs.List.{All}
use Rattle.std.proofs.lemmas.List.{append-nil, length-take, take_all}
use Rattle.std.proofs.lemmas.List.Elements.{All-tail}
use Rattle.trace_model.specs.declared.event_kinds.Event.{Event}
use Rattle.trace_model.specs.declared.event_kinds.Event.TheVariants.{Call, End, Fill, Read, Ret, Start, Step, Write}
use Rattle.trace_model.specs.declared.slow_profile.Done.{Done}
use Rattle.trace_model.specs.Profile.{HasParts, done, ended}
use Rattle.trace_model.specs.Observing.{with_steps}
use Rattle.trace_model.proofs.Causes.{done_has_parts}
use Rattle.cost_points.proofs.Small.{few_done}
use Rattle.cost_points.specs.Contents.{TableContents, contents_of}
use Rattle.run_profile.specs.Keeping.{MayKeep, Passes}
use Rattle.run_profile.specs.Points.{HoldsPoints, KeptPoints, may_end}

-- none of them is among the points
pub points_begin : (k : KeptPoints) (past : List Event) (ends : List Done) → HoldsPoints k past [] → HoldsPoints k past ends
points_begin k past ends holds = by k.added refl
  where
    by : (n : ℕ) → k.added ≡ n → HoldsPoints k past ends
    by zero is = record {
      inside = omega (arith, is);
      table =
          holds.table ∙ ap (λ n. contents_of (done past ++ take n [])) is ∙ ap (λ n. contents_of (done past ++ take n ends)) (sym is);
    }
    by (suc n) is = let inside = holds.inside in absurd (omega (arith, is, inside))

-- ---- They can be added.
pub few_added : (k : KeptPoints) (e : Event) (ends : List Done) → MayKeep HoldsPoints k ends e ends → k.table.members + length ends < 2 ^ 63
few_added k e ends may =
    omega (
      arith,
      ap (λ (t : TableContents). t.members) may.now.table,
      length-append (done may.past) (take k.added ends),
      length-take k.added ends,
      length-append (done may.past) (ended e may.past),
      ap (λ (ds : List Done). length ds) may.ends_are,
      few_done (e ∷ may.past) may.formed.1,
    )

all_right : {X : Type 0} (P : X → Type 0) (xs ys : List X) → All P (xs ++ ys) → All P ys
all_right P [] ys all = all
all_right P (x ∷ xs) ys all = all_right P xs ys (All-tail P x (xs ++ ys) all)

pub have_parts : (k : KeptPoints) (e : Event) (ends : List Done) → MayKeep HoldsPoints k ends e ends → All HasParts ends
have_parts k e ends may =
    subst (All HasParts) (sym may.ends_are) (all_right HasParts (done may.past) (ended e may.past) (done_has_parts (e ∷ may.past)))

-- ---- They are added.
module _ (k : KeptPoints) (n : ℕ) (table : TableContents) (past : List Event) (ends : List Done)
    (adds : (earlier : List Done) → k.table ≡ contents_of (earlier ++ take k.added ends) → table ≡ contents_of (earlier ++ take n ends))
    (holds : HoldsPoints k past ends) where
  -- some of them
  pub some_added : n ≤ length ends → HoldsPoints (record { table = table; added = n }) past ends
  some_added inside = record { inside = inside; table = adds (done past) holds.table }

  -- all of them
  pub all_added : (e : Event) → n ≡ length ends → ends ≡ ended e past → HoldsPoints (record { table = table; added = 0 }) (e ∷ past) []
  all_added e all are = record {
    inside = omega arith;
    table =
        adds (done past) holds.table
        ∙ ap (λ (ds : List Done). contents_of (done past ++ ds)) (take_all n ends (omega (arith, all)) ∙ are)
        ∙ ap contents_of (sym (append-nil (done past ++ ended e past)));
  }

-- ---- The event passes.
none_taken : {X : Type 0} (n : ℕ) → take {A = X} n [] ≡ []
none_taken zero = refl
none_taken (suc n) = refl

-- it may add what ended
pub may_pass : (k : KeptPoints) (e : Event) (ends : List Done) → MayKeep HoldsPoints k [] e ends → MayKeep HoldsPoints k ends e ends
may_pass k e ends may = record { past = may.past; now = points_begin k may.past ends may.now; formed = may.formed; ends_are = may.ends_are }

pub passed_ended : (k : KeptPoints) (table : TableContents) (e : Event) (past : List Event) (ends : List Done) → HoldsPoints k past [] → ends ≡ ended e past →
    ((earlier : List Done) → k.table ≡ contents_of earlier → table ≡ contents_of (earlier ++ ends)) → HoldsPoints (record k { table = table }) (e ∷ past) []
passed_ended k table e past ends holds are adds = record {
  inside = holds.inside;
  table =
      adds (done past) (holds.table ∙ ap contents_of (ap (λ (ds : List Done). done past ++ ds) (none_taken k.added) ∙ append-nil (done past)))
      ∙ ap contents_of (ap (λ (ds : List Done). done past ++ ds) are ∙ sym (ap (λ (ds : List Done). (done past ++ ended e past) ++ ds) (none_taken k.added) ∙ append-nil (done past ++ ended e past)));
}

pub passes_by : {K : Type 0} (Holds : K → List Event → List Done → Type 0) (k : K) (e : Event) (past : List Event) (ends : List Done) (passes : Bool) →
    (passes ≡ true → Holds k (e ∷ past) []) → (passes ≡ false → Holds k past ends) → Passes Holds k e past ends passes
passes_by Holds k e past ends true took left = took refl
passes_by Holds k e past ends false took left = left refl

-- an event that ends none
pub none_ends : (e : Event) (past : List Event) → may_end e ≡ false → ended e past ≡ []
none_ends (Ret t target) past is = absurd (cc)
none_ends (End t) past is = absurd (cc)
none_ends (Step t) past is = refl
none_ends (Read t first count) past is = refl
none_ends (Write t first count) past is = refl
none_ends (Fill first count) past is = refl
none_ends (Call t entry back) past is = refl
none_ends (Start t entry) past is = refl

pub none_ended : (k : KeptPoints) (e : Event) (past : List Event) → HoldsPoints k past [] → ended e past ≡ [] → HoldsPoints k (e ∷ past) []
none_ended k e past holds none = record {
  inside = holds.inside;
  table = holds.table ∙ ap (λ (ds : List Done). contents_of (ds ++ take k.added [])) (sym (ap (λ (ds : List Done). done past ++ ds) none ∙ append-nil (done past)));
}

-- ---- Steps in a row.
pub stepped : (k : KeptPoints) (tid n : ℕ) (past : List Event) → HoldsPoints k past [] → HoldsPoints k (with_steps tid n past) []
stepped k tid zero past holds = holds
stepped k tid (suc n) past holds = none_ended k (Step tid) (with_steps tid n past) (stepped k tid n past holds) refl
