-- The demo's instructions have one word each.
use Rattle.std.proofs.Common.{◌≡◌, ◌≢◌, ℕ, ◌<◌, ◌^◌, List, [], ◌∷◌, ◌++◌, map, Some, refl, sym, ap, ap₂, ◌∙◌}
use Rattle.std.specs.List.{AllByRecursion, flat_map, range_with_len}
use Rattle.rv_isa.specs.declared.instruction.Instr.{Instr}
use Rattle.rv_isa.specs.declared.instruction.Instr.TheVariants.{Fence, FenceI}
use Rattle.rv_isa.specs.Table.{OneWordForAnInstruction, decoded}
use Rattle.rv_asm.specs.Executable.{executable}
use Rattle.demo_guest.specs.Guest.{call, ending, instructions, load, reads, routine_code, start}
use Rattle.demo_guest.specs.Image.{OneDemoFile, symbols}

IsNoFence : Instr → Type 0
IsNoFence i = (i ≢ Fence) × (i ≢ FenceI)

AreNoFences : List Instr → Type 0
AreNoFences is = AllByRecursion IsNoFence is

no_fences-append : (is js : List Instr) → AreNoFences is → AreNoFences js → AreNoFences (is ++ js)
unfolding AreNoFences
no_fences-append [] js a b = b
no_fences-append (i ∷ is) js (here, a) b = (here, no_fences-append is js a b)

no_fences-flat : (f : ℕ → List Instr) → ((n : ℕ) → AreNoFences (f n)) → (ns : List ℕ) → AreNoFences (flat_map f ns)
unfolding AreNoFences
no_fences-flat f all [] = tt
no_fences-flat f all (n ∷ ns) = no_fences-append (f n) (flat_map f ns) (all n) (no_fences-flat f all ns)

loads : (ns : List ℕ) → AreNoFences (map load ns)
unfolding AreNoFences IsNoFence
loads [] = tt
loads (n ∷ ns) = ((λ e. absurd (cc), λ e. absurd (cc)), loads ns)

routine : (n : ℕ) → AreNoFences (routine_code n)
unfolding AreNoFences IsNoFence
routine n = no_fences-append (map load (range_with_len 0 (reads n))) _ (loads (range_with_len 0 (reads n))) ((λ e. absurd (cc), λ e. absurd (cc)), tt)

a_call : (n k : ℕ) → AreNoFences (call n k)
unfolding AreNoFences IsNoFence
a_call n k = ((λ e. absurd (cc), λ e. absurd (cc)), ((λ e. absurd (cc), λ e. absurd (cc)), tt))

begin : AreNoFences start
unfolding AreNoFences IsNoFence
begin = ((λ e. absurd (cc), λ e. absurd (cc)), ((λ e. absurd (cc), λ e. absurd (cc)), ((λ e. absurd (cc), λ e. absurd (cc)), ((λ e. absurd (cc), λ e. absurd (cc)), ((λ e. absurd (cc), λ e. absurd (cc)), ((λ e. absurd (cc), λ e. absurd (cc)), ((λ e. absurd (cc), λ e. absurd (cc)), ((λ e. absurd (cc), λ e. absurd (cc)), ((λ e. absurd (cc), λ e. absurd (cc)), ((λ e. absurd (cc), λ e. absurd (cc)), tt))))))))))

end : AreNoFences ending
unfolding AreNoFences IsNoFence
end = ((λ e. absurd (cc), λ e. absurd (cc)), ((λ e. absurd (cc), λ e. absurd (cc)), ((λ e. absurd (cc), λ e. absurd (cc)), tt)))

no_fences : (n : ℕ) → AreNoFences (instructions n)
unfolding instructions
no_fences n =
    no_fences-append start _ begin
    (no_fences-append (flat_map (call n) (range_with_len 0 n)) _ (no_fences-flat (call n) (a_call n) (range_with_len 0 n))
    (no_fences-append ending _ end (no_fences-flat routine_code routine (range_with_len 0 n))))

-- words of the same instructions are the same
same_words : OneWordForAnInstruction → (is : List Instr) (ws vs : List ℕ) → AreNoFences is → AllByRecursion (λ w. w < 2 ^ 32) ws → AllByRecursion (λ w. w < 2 ^ 32) vs → map decoded ws ≡ map Some is → map decoded vs ≡ map Some is → ws ≡ vs
unfolding AreNoFences IsNoFence
same_words one_word [] [] [] none a b p q = refl
same_words one_word [] (w ∷ ws) vs none a b p q = absurd (cc)
same_words one_word [] [] (v ∷ vs) none a b p q = absurd (cc)
same_words one_word (i ∷ is) [] vs none a b p q = absurd (cc)
same_words one_word (i ∷ is) (w ∷ ws) [] none a b p q = absurd (cc)
same_words one_word (i ∷ is) (w ∷ ws) (v ∷ vs) (here, none) (x, a) (y, b) p q =
    ap₂ (λ m ms. m ∷ ms) (one_word w v i x y (cc) (cc) here.0 here.1) (same_words one_word is ws vs none a b (cc) (cc))

pub one_file : OneWordForAnInstruction → OneDemoFile
one_file one_word routines file other a b =
    a.written ∙ ap (λ words. executable words (symbols routines)) (same_words one_word (instructions routines) a.words b.words (no_fences routines) a.fit b.fit a.instructions b.instructions) ∙ sym b.written
