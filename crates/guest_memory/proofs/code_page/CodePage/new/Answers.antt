use Rattle.std.proofs.Common.{◌≡◌, ◌∙◌, ◌-◌, ◌++◌, ◌∷◌, ℕ, zero, suc, List, Option, None, ap, ap₂, map, refl, replicate, take}
use Rattle.rv_isa.specs.declared.instruction.Instr.{Instr}
use Rattle.guest_memory.specs.declared.decoded.Decoded.{Decoded}
use Rattle.guest_memory.specs.declared.decoded.Decoded.TheVariants.{Unknown}
use Rattle.guest_memory.specs.Code.{known_of}
use Rattle.guest_memory.proofs.code_page.CodePage.new.Goals as goal

none_known : (n : ℕ) → map known_of (replicate n Unknown) ≡ replicate n None
none_known zero = refl
none_known (suc n) = ap (λ (xs : List (Option Instr)). None ∷ xs) (none_known n)

pub returns : goal.returns
returns c =
    ap (λ (xs : List Decoded). (c.args.number, map known_of xs))
    (c.in_ok-resize.ensures.items ∙ ap₂ (λ (xs : List Decoded) (n : ℕ). take 1024 xs ++ replicate (1024 - n) Unknown) c.new-words.ensures.items c.new-words.ensures.len)
    ∙ ap (λ (xs : List (Option Instr)). (c.args.number, xs)) (none_known 1024)
