-- A tree grows with the events.
use Rattle.std.proofs.Common.{◌≡◌, ℕ, ◌<◌, ◌≤◌, length, List, ◌∷◌, All, Option, Some, None, sym, subst, arith}
use Rattle.std.specs.Prelude.{IfSome}
use Rattle.std.proofs.Math.Logic.{∥∥₁_elim, ∥∥₁_map}
use Rattle.std.proofs.Props.{props}
use Rattle.std.proofs.lemmas.List.Elements.{All-weaker}
use Rattle.guest_words.specs.ByThread.{numbers}
use Rattle.trace_model.specs.declared.event_kinds.Event.{Event}
use Rattle.trace_model.specs.declared.event_kinds.Event.TheVariants.{Call, End, Fill, Read, Ret, Start, Step, Write}
use Rattle.trace_model.specs.declared.slow_profile.Done.{Done}
use Rattle.trace_model.specs.Activations.{backs, count_ending, open_calls}
use Rattle.trace_model.specs.Profile.{ended}
use Rattle.trace_model.specs.WellFormed.{IsWellFormed, greatest_start}
use Rattle.trace_model.proofs.Bounds.{light_formed}
use Rattle.trace_order.proofs.Progressing.{allowed_by}
use Rattle.context_tree.specs.Branches as grown
use Rattle.context_tree.specs.Private.Pasts as pasts
use Rattle.context_tree.specs.Contexts.{contexts}
use Rattle.context_tree.specs.Numbers.{numbered}
use Rattle.context_tree.specs.Order.{IsFollowedBy}
use Rattle.context_tree.specs.Private.Taking.{IsWhole, Takes}
use Rattle.context_tree.specs.Trees.{AreEnded, IsOfSome, KeptTree, MayCome, TreeStandsFor, lives}
use Rattle.context_tree.proofs.Following.{as_many, current_within, each_points, way_ended}
use Rattle.context_tree.proofs.Once.{if_some, whole_once}

pub formed_next : (kept : KeptTree) (past : List Event) (e : Event) → TreeStandsFor kept past → MayCome kept e → IsWellFormed (e ∷ past)
formed_next kept past e stands may = (allowed_by e (lives kept) kept.progress past stands.progress_is stands.branches_are.threads_live).0 may

-- ---- what its contexts have
pub whole : (kept : KeptTree) → ∥ IsOfSome kept ∥₁ → IsWhole kept.branches
whole kept some = ∥∥₁_elim some (whole_once kept.branches) (λ of. record {
  long = as_many kept.branches of.past of.now.branches_are;
  linked = of.now.branches_are.links_are;
  each = each_points kept.branches of.past of.now.branches_are (light_formed of.past of.now.progress_is.formed);
})

pub some_branches : (kept : KeptTree) → ∥ IsOfSome kept ∥₁ → ∥ pasts.IsOfSome kept.branches ∥₁
some_branches kept some = ∥∥₁_map some (λ of. record { past = of.past; now = of.now.branches_are })

pub light_branches : (kept : KeptTree) → ∥ IsOfSome kept ∥₁ → ∥ pasts.IsOfLight kept.branches ∥₁
light_branches kept some = ∥∥₁_map some (λ of. record { past = of.past; now = of.now.branches_are; light = light_formed of.past of.now.progress_is.formed })

-- the one that comes next has a number
follower_within : (known : List (List ℕ)) (c : List ℕ) (o : Option ℕ) → IsFollowedBy known c o → IfSome o (λ m. (1 ≤ m) × (m ≤ length known))
follower_within known c None next = tt
follower_within known c (Some m) next = (next.0, next.1)

pub next_within : (kept : KeptTree) (n : ℕ) (o : Option ℕ) → ∥ IsOfSome kept ∥₁ → ((past : List Event) → grown.BranchesStandFor kept.branches past → IsFollowedBy (contexts past) (numbered (contexts past) n) o) →
    IfSome o (λ m. (1 ≤ m) × (m ≤ length kept.branches.places))
next_within kept n o some next = ∥∥₁_elim some (if_some (λ m. (1 ≤ m) × (m ≤ length kept.branches.places)) (λ m. hlevel props) o) (λ of.
    subst (λ k. IfSome o (λ m. (1 ≤ m) × (m ≤ k))) (sym of.now.branches_are.contexts_are.long)
    (follower_within (contexts of.past) (numbered (contexts of.past) n) o (next of.past of.now.branches_are)))

-- ---- what an event asks of them
within : (kept : KeptTree) (tid : ℕ) → ∥ IsOfSome kept ∥₁ → grown.current_of kept.branches tid ≤ length kept.branches.places
within kept tid some = ∥∥₁_elim some (hlevel props) (λ of. current_within kept.branches of.past tid of.now.branches_are)

above : (kept : KeptTree) (tid entry : ℕ) → ∥ IsOfSome kept ∥₁ → MayCome kept (Start tid entry) → All (λ n. n < tid) (numbers kept.branches.threads)
above kept tid entry some may = ∥∥₁_elim some (hlevel props) (λ of.
    let next : greatest_start of.past < tid = (formed_next kept of.past (Start tid entry) of.now may).0 in
    All-weaker (λ n. n ≤ greatest_start of.past) (λ n. n < tid) (λ n le. omega (arith, le, next)) (numbers kept.branches.threads) of.now.branches_are.threads_began)

pub takes : (kept : KeptTree) (e : Event) (ends : List Done) → ∥ IsOfSome kept ∥₁ → MayCome kept e → AreEnded kept e ends → Takes kept.branches e ends
takes kept (Start tid entry) ends some may are = above kept tid entry some may
takes kept (Call tid entry back) ends some may are = (may.0.0, within kept tid some)
takes kept (Ret tid target) ends some may are = (
  may.0.0,
  ∥∥₁_elim are (hlevel props) (λ of.
      way_ended kept.branches of.past tid (count_ending (Ret tid target) tid (backs (open_calls of.past tid))) ends of.now.branches_are of.ends_are),
)
takes kept (End tid) ends some may are = ∥∥₁_elim are (hlevel props) (λ of.
    way_ended kept.branches of.past tid (count_ending (End tid) tid (backs (open_calls of.past tid))) ends of.now.branches_are of.ends_are)
takes kept (Step tid) ends some may are = tt
takes kept (Read tid first count) ends some may are = tt
takes kept (Write tid first count) ends some may are = tt
takes kept (Fill first count) ends some may are = tt

-- ---- and it goes on
module _ (old new : KeptTree) (ends : List Done) (some : ∥ IsOfSome old ∥₁) where
  pub goes_on : (e : Event) → AreEnded old e ends → ((past : List Event) → TreeStandsFor old past → ends ≡ ended e past → TreeStandsFor new (e ∷ past)) → ∥ IsOfSome new ∥₁
  goes_on (Ret tid target) are goes = ∥∥₁_map are (λ of. record { past = Ret tid target ∷ of.past; now = goes of.past of.now of.ends_are })
  goes_on (End tid) are goes = ∥∥₁_map are (λ of. record { past = End tid ∷ of.past; now = goes of.past of.now of.ends_are })
  goes_on (Start tid entry) are goes = ∥∥₁_map some (λ of. record { past = Start tid entry ∷ of.past; now = goes of.past of.now are })
  goes_on (Call tid entry back) are goes = ∥∥₁_map some (λ of. record { past = Call tid entry back ∷ of.past; now = goes of.past of.now are })
  goes_on (Step tid) are goes = ∥∥₁_map some (λ of. record { past = Step tid ∷ of.past; now = goes of.past of.now are })
  goes_on (Read tid first count) are goes = ∥∥₁_map some (λ of. record { past = Read tid first count ∷ of.past; now = goes of.past of.now are })
  goes_on (Write tid first count) are goes = ∥∥₁_map some (λ of. record { past = Write tid first count ∷ of.past; now = goes of.past of.now are })
  goes_on (Fill first count) are goes = ∥∥₁_map some (λ of. record { past = Fill first count ∷ of.past; now = goes of.past of.now are })

-- ---- who kept a past with a tree knows what ended
