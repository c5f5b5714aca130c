-- Parts by their causes.
use Rattle.std.proofs.Common.{◌≡◌, ℕ, ◌+◌, ◌<◌, ◌^◌, not, List, take, reverse, refl, ap, arith}
use Rattle.std.specs.List.{count_by, range_with_len}
use Rattle.trace_model.specs.declared.event_kinds.Event.{Event}
use Rattle.trace_model.specs.declared.sizes.SizeParts.{SizeParts}
use Rattle.trace_model.specs.Causes.{Cause, Plain, OtherThread, Kernel, counts_by, part}
use Rattle.trace_model.specs.Sizes.{known}
use Rattle.trace_model.specs.WellFormed.{IsLight}
use Rattle.trace_model.specs.Private.SizeParts.{part_by, parts_by}
use Rattle.trace_model.proofs.Bounds.{count_range-le, pairs-le-weight, weight-take}
use Rattle.trace_model.proofs.Causes.{parts-sum}

pub part_of : (f : Cause → ℕ) (cause : Cause) → part_by cause (parts_by f) ≡ f cause
part_of f Plain = refl
part_of f OtherThread = refl
part_of f Kernel = refl

pub parts_same : (f g : Cause → ℕ) → ((cause : Cause) → f cause ≡ g cause) → parts_by f ≡ parts_by g
parts_same f g h = λ i. record { plain = h Plain i; thread = h OtherThread i; kernel = h Kernel i }

-- the parts of a size are together at most the weight of the events
pub sum_fits : (inside past : List Event) (t : ℕ) (parts : SizeParts) → parts ≡ parts_by (λ cause. part cause inside past t) → IsLight inside → parts.plain + parts.thread + parts.kernel < 2 ^ 62
sum_fits inside past t parts are light =
    omega (
      arith,
      light,
      ap (λ (p : SizeParts). p.plain + p.thread + p.kernel) are,
      parts-sum inside past t,
      pairs-le-weight (λ earlier l. not (known earlier t l)) inside t,
    )

-- what a read adds to the parts before it fits a number of 64 bits
pub both_fit : (cause : Cause) (inside : List Event) (i : ℕ) (past : List Event) (t first count : ℕ) (parts more : SizeParts) →
    parts ≡ parts_by (λ cause. part cause (reverse (take i inside)) past t) →
    more ≡ parts_by (λ cause. count_by (counts_by cause (reverse (take i inside)) past t) (range_with_len first count)) →
    IsLight (reverse inside) → count < 2 ^ 32 → part_by cause parts + part_by cause more < 2 ^ 64
both_fit cause inside i past t first count parts more are adds light few =
    let seen = reverse (take i inside) in
    omega (
      arith,
      light,
      few,
      ap (part_by cause) are,
      ap (part_by cause) adds,
      part_of (λ cause. part cause seen past t) cause,
      part_of (λ cause. count_by (counts_by cause seen past t) (range_with_len first count)) cause,
      pairs-le-weight (λ earlier. counts_by cause earlier past t) seen t,
      weight-take inside i,
      count_range-le (counts_by cause seen past t) first count,
    )
