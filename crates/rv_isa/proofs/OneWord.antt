-- A word is determined by its instruction, but for the fences.
use Rattle.std.proofs.Common.{◌≡◌, ◌≢◌, ◌⊎◌, ℕ, ◌+◌, ◌*◌, ◌^◌, ◌<◌, Bool, true, false, if◌then◌else◌, List, [], ◌∷◌, nat_eq, cond, Some, None, refl, sym, ap, subst, ◌∙◌, inl, inr, arith}
use Rattle.std.specs.Prelude.{ℤ, pos, ◌-ℤ◌, nat_lt}
use Rattle.std.specs.List.{AllByRecursion}
use Rattle.std.proofs.lemmas.Bool.Decides.{eqb_tells}
use Rattle.rv_isa.specs.declared.instruction.Test.{Test}
use Rattle.rv_isa.specs.declared.instruction.Test.TheVariants.{Eq, Ne, Lt, Ge, Ltu, Geu}
use Rattle.rv_isa.specs.declared.instruction.LoadKind.{LoadKind}
use Rattle.rv_isa.specs.declared.instruction.LoadKind.TheVariants.{Lb, Lh, Lw, Lbu, Lhu}
use Rattle.rv_isa.specs.declared.instruction.StoreKind.{StoreKind}
use Rattle.rv_isa.specs.declared.instruction.StoreKind.TheVariants.{Sb, Sh, Sw}
use Rattle.rv_isa.specs.declared.instruction.ImmOp.{ImmOp}
use Rattle.rv_isa.specs.declared.instruction.ImmOp.TheVariants.{Addi, Slti, Sltiu, Xori, Ori, Andi, Slli, Srli, Srai}
use Rattle.rv_isa.specs.declared.instruction.RegOp.{RegOp}
use Rattle.rv_isa.specs.declared.instruction.RegOp.TheVariants as reg
use Rattle.rv_isa.specs.declared.instruction.AtomicOp.{AtomicOp}
use Rattle.rv_isa.specs.declared.instruction.AtomicOp.TheVariants as amo
use Rattle.rv_isa.specs.declared.instruction.Instr.{Instr}
use Rattle.rv_isa.specs.declared.instruction.Instr.TheVariants.{Lui, Auipc, Jal, Jalr, Branch, Load, Store, Immediate, Register, Atomic, Fence, FenceI, Ecall, Ebreak}
use Rattle.rv_isa.specs.Fields.{opcode, rd, funct3, rs1, rs2, funct7, order, funct5, bits, twos_complement, immediate_i, immediate_s, immediate_b, immediate_j}
use Rattle.rv_isa.specs.Table.{decoded, i_type, shift_type, s_type, b_type, u_type, j_type, r_type, atomic_type}
use Rattle.rv_isa.proofs.Rows.{by_field, upper_immediate, upper_immediate_to_pc, jump_and_link, jumps, branches, loads, stores, fences, environment, immediates, left_shifts, right_shifts, base_registers, alternate_registers, multiplications, no_registers, no_atomics, atomics, load_reservations, no_opcode}

-- ---- words by their fields
upper_word : (w v : ℕ) → w < 2 ^ 32 → v < 2 ^ 32 → opcode w ≡ opcode v → rd w ≡ rd v → bits w 31 12 ≡ bits v 31 12 → w ≡ v
upper_word w v a b o d u = omega (arith, a, b, o, d, u)

immediate_word : (w v : ℕ) → w < 2 ^ 32 → v < 2 ^ 32 → opcode w ≡ opcode v → rd w ≡ rd v → funct3 w ≡ funct3 v → rs1 w ≡ rs1 v → bits w 31 20 ≡ bits v 31 20 → w ≡ v
immediate_word w v a b o d f s t = omega (arith, a, b, o, d, f, s, t)

register_word : (w v : ℕ) → w < 2 ^ 32 → v < 2 ^ 32 → opcode w ≡ opcode v → rd w ≡ rd v → funct3 w ≡ funct3 v → rs1 w ≡ rs1 v → rs2 w ≡ rs2 v → funct7 w ≡ funct7 v → w ≡ v
register_word w v a b o d f s t u = immediate_word w v a b o d f s (omega (arith, t, u))

environment_word : (w v : ℕ) → w < 2 ^ 32 → v < 2 ^ 32 → opcode w ≡ opcode v → bits w 31 7 ≡ bits v 31 7 → w ≡ v
environment_word w v a b o u = omega (arith, a, b, o, u)

-- two numbers below twice the sign stand for two integers
twos_once : (sign m n : ℕ) → m < 2 * sign → n < 2 * sign → twos_complement sign m ≡ twos_complement sign n → m ≡ n
twos_once sign m n a b same = by (nat_lt m sign) (nat_lt n sign) same
  where
    by : (p q : Bool) → (if p then pos m else pos m -ℤ pos (2 * sign)) ≡ (if q then pos n else pos n -ℤ pos (2 * sign)) → m ≡ n
    by true true e = grind (arith, e)
    by true false e = grind (arith, e, a, b)
    by false true e = grind (arith, e, a, b)
    by false false e = grind (arith, e, a, b)

same_i : (w v : ℕ) → immediate_i w ≡ immediate_i v → bits w 31 20 ≡ bits v 31 20
same_i w v e = twos_once (2 ^ 11) (bits w 31 20) (bits v 31 20) (omega arith) (omega arith) e

same_s : (w v : ℕ) → immediate_s w ≡ immediate_s v → bits w 31 25 * 2 ^ 5 + bits w 11 7 ≡ bits v 31 25 * 2 ^ 5 + bits v 11 7
same_s w v e = twos_once (2 ^ 11) _ _ (omega arith) (omega arith) e

same_b : (w v : ℕ) → immediate_b w ≡ immediate_b v → bits w 31 31 * 2 ^ 12 + bits w 7 7 * 2 ^ 11 + bits w 30 25 * 2 ^ 5 + bits w 11 8 * 2 ^ 1 ≡ bits v 31 31 * 2 ^ 12 + bits v 7 7 * 2 ^ 11 + bits v 30 25 * 2 ^ 5 + bits v 11 8 * 2 ^ 1
same_b w v e = twos_once (2 ^ 12) _ _ (omega arith) (omega arith) e

same_j : (w v : ℕ) → immediate_j w ≡ immediate_j v → bits w 31 31 * 2 ^ 20 + bits w 19 12 * 2 ^ 12 + bits w 20 20 * 2 ^ 11 + bits w 30 21 * 2 ^ 1 ≡ bits v 31 31 * 2 ^ 20 + bits v 19 12 * 2 ^ 12 + bits v 20 20 * 2 ^ 11 + bits v 30 21 * 2 ^ 1
same_j w v e = twos_once (2 ^ 20) _ _ (omega arith) (omega arith) e

store_word : (w v : ℕ) → w < 2 ^ 32 → v < 2 ^ 32 → opcode w ≡ opcode v → funct3 w ≡ funct3 v → rs1 w ≡ rs1 v → rs2 w ≡ rs2 v → immediate_s w ≡ immediate_s v → w ≡ v
store_word w v a b o f s t e = let i = same_s w v e in register_word w v a b o (omega (arith, i)) f s t (omega (arith, i))

branch_word : (w v : ℕ) → w < 2 ^ 32 → v < 2 ^ 32 → opcode w ≡ opcode v → funct3 w ≡ funct3 v → rs1 w ≡ rs1 v → rs2 w ≡ rs2 v → immediate_b w ≡ immediate_b v → w ≡ v
branch_word w v a b o f s t e = let i = same_b w v e in register_word w v a b o (omega (arith, i)) f s t (omega (arith, i))

jump_word : (w v : ℕ) → w < 2 ^ 32 → v < 2 ^ 32 → opcode w ≡ opcode v → rd w ≡ rd v → immediate_j w ≡ immediate_j v → w ≡ v
jump_word w v a b o d e = let i = same_j w v e in upper_word w v a b o d (omega (arith, i))

-- ---- the fields that are the same in all words of an instruction
abbrev opcode_of : Instr → ℕ
opcode_of (Lui d imm) = 0x37
opcode_of (Auipc d imm) = 0x17
opcode_of (Jal d offset) = 0x6F
opcode_of (Jalr d base offset) = 0x67
opcode_of (Branch test left right offset) = 0x63
opcode_of (Load kind d base offset) = 0x03
opcode_of (Store kind value base offset) = 0x23
opcode_of (Immediate op d left imm) = 0x13
opcode_of (Register op d left right) = 0x33
opcode_of (Atomic op d base value o) = 0x2F
opcode_of Fence = 0x0F
opcode_of FenceI = 0x0F
opcode_of Ecall = 0x73
opcode_of Ebreak = 0x73

abbrev test_code : Test → ℕ
test_code Eq = 0
test_code Ne = 1
test_code Lt = 4
test_code Ge = 5
test_code Ltu = 6
test_code Geu = 7

abbrev load_code : LoadKind → ℕ
load_code Lb = 0
load_code Lh = 1
load_code Lw = 2
load_code Lbu = 4
load_code Lhu = 5

abbrev store_code : StoreKind → ℕ
store_code Sb = 0
store_code Sh = 1
store_code Sw = 2

abbrev immediate_code : ImmOp → ℕ
immediate_code Addi = 0
immediate_code Slti = 2
immediate_code Sltiu = 3
immediate_code Xori = 4
immediate_code Ori = 6
immediate_code Andi = 7
immediate_code Slli = 1
immediate_code Srli = 5
immediate_code Srai = 5

abbrev is_shift : ImmOp → Bool
is_shift Slli = true
is_shift Srli = true
is_shift Srai = true
is_shift _ = false

abbrev shift_code : ImmOp → ℕ
shift_code Srai = 0x20
shift_code op = 0

abbrev register_code : RegOp → ℕ
register_code reg.Add = 0
register_code reg.Sub = 0
register_code reg.Mul = 0
register_code reg.Sll = 1
register_code reg.Mulh = 1
register_code reg.Slt = 2
register_code reg.Mulhsu = 2
register_code reg.Sltu = 3
register_code reg.Mulhu = 3
register_code reg.Xor = 4
register_code reg.Div = 4
register_code reg.Srl = 5
register_code reg.Sra = 5
register_code reg.Divu = 5
register_code reg.Or = 6
register_code reg.Rem = 6
register_code reg.And = 7
register_code reg.Remu = 7

abbrev group_code : RegOp → ℕ
group_code reg.Sub = 0x20
group_code reg.Sra = 0x20
group_code reg.Mul = 1
group_code reg.Mulh = 1
group_code reg.Mulhsu = 1
group_code reg.Mulhu = 1
group_code reg.Div = 1
group_code reg.Divu = 1
group_code reg.Rem = 1
group_code reg.Remu = 1
group_code op = 0

abbrev atomic_code : AtomicOp → ℕ
atomic_code amo.Lr = 2
atomic_code amo.Sc = 3
atomic_code amo.Swap = 1
atomic_code amo.Add = 0
atomic_code amo.Xor = 4
atomic_code amo.And = 12
atomic_code amo.Or = 8
atomic_code amo.Min = 16
atomic_code amo.Max = 20
atomic_code amo.Minu = 24
atomic_code amo.Maxu = 28

abbrev environment_code : Instr → ℕ
environment_code Ebreak = 0x2000
environment_code i = 0

-- ---- the row that a field chooses
some_inj : {X : Type 0} (x y : X) → Some x ≡ Some y → x ≡ y
some_inj x y e = cc

-- the field chose a row of the instruction, of which this holds as of every row
in_field : {X : Type 0} (x : ℕ) (form : X → Instr) (P : ℕ → X → Type 0) (rs : List (ℕ × X)) (i : Instr) → AllByRecursion (λ r. P r.0 r.1) rs → by_field x form rs ≡ Some i → (k : X) × (form k ≡ i) × P x k
in_field x form P [] i all h = absurd (never h)
  where
    never : None ≡ Some i → ⊥
    never e = cc
in_field x form P (r ∷ rs) i (here, all) h = elim (eqb_tells x r.0) [
  | inl same ↦ (r.1, some_inj (form r.1) i (ap (λ b. cond b (Some (form r.1)) (by_field x form rs)) (sym same.0) ∙ h), subst (λ y. P y r.1) (sym same.1) here)
  | inr other ↦ in_field x form P rs i all (ap (λ b. cond b (Some (form r.1)) (by_field x form rs)) (sym other.0) ∙ h)
]

-- an opcode, or another
decide : (x y : ℕ) → (x ≡ y) ⊎ (x ≢ y)
decide x y = elim (eqb_tells x y) [ inl same ↦ inl same.1 | inr other ↦ inr other.1 ]

-- the rows of the opcodes, as decoding has them
abbrev branch_rows : List (ℕ × Test)
branch_rows = (0, Eq) ∷ (1, Ne) ∷ (4, Lt) ∷ (5, Ge) ∷ (6, Ltu) ∷ (7, Geu) ∷ []

abbrev load_rows : List (ℕ × LoadKind)
load_rows = (0, Lb) ∷ (1, Lh) ∷ (2, Lw) ∷ (4, Lbu) ∷ (5, Lhu) ∷ []

abbrev store_rows : List (ℕ × StoreKind)
store_rows = (0, Sb) ∷ (1, Sh) ∷ (2, Sw) ∷ []

abbrev immediate_rows : List (ℕ × ImmOp)
immediate_rows = (0, Addi) ∷ (2, Slti) ∷ (3, Sltiu) ∷ (4, Xori) ∷ (6, Ori) ∷ (7, Andi) ∷ []

abbrev left_rows : List (ℕ × ImmOp)
left_rows = (0, Slli) ∷ []

abbrev right_rows : List (ℕ × ImmOp)
right_rows = (0, Srli) ∷ (0x20, Srai) ∷ []

abbrev base_rows : List (ℕ × RegOp)
base_rows = (0, reg.Add) ∷ (1, reg.Sll) ∷ (2, reg.Slt) ∷ (3, reg.Sltu) ∷ (4, reg.Xor) ∷ (5, reg.Srl) ∷ (6, reg.Or) ∷ (7, reg.And) ∷ []

abbrev alternate_rows : List (ℕ × RegOp)
alternate_rows = (0, reg.Sub) ∷ (5, reg.Sra) ∷ []

abbrev multiply_rows : List (ℕ × RegOp)
multiply_rows = (0, reg.Mul) ∷ (1, reg.Mulh) ∷ (2, reg.Mulhsu) ∷ (3, reg.Mulhu) ∷ (4, reg.Div) ∷ (5, reg.Divu) ∷ (6, reg.Rem) ∷ (7, reg.Remu) ∷ []

abbrev atomic_rows : List (ℕ × AtomicOp)
atomic_rows = (3, amo.Sc) ∷ (1, amo.Swap) ∷ (0, amo.Add) ∷ (4, amo.Xor) ∷ (12, amo.And) ∷ (8, amo.Or) ∷ (16, amo.Min) ∷ (20, amo.Max) ∷ (24, amo.Minu) ∷ (28, amo.Maxu) ∷ []

-- what stands for an instruction has its opcode
module _ (w : ℕ) (i : Instr) (h : decoded w ≡ Some i) where
  by_one : (c : ℕ) (j : Instr) → opcode w ≡ c → decoded w ≡ Some j → c ≡ opcode_of j → opcode w ≡ opcode_of i
  by_one c j e d is = e ∙ is ∙ ap opcode_of (some_inj j i (sym d ∙ h))

  never : {A : Type 0} → None ≡ Some i → A
  never e = absurd (cc)

  by_form : {X : Type 0} (c : ℕ) (x : ℕ) (form : X → Instr) (rs : List (ℕ × X)) → opcode w ≡ c → decoded w ≡ by_field x form rs → ((k : X) → c ≡ opcode_of (form k)) → opcode w ≡ opcode_of i
  by_form c x form [] e d all = never (sym d ∙ h)
  by_form c x form (r ∷ rs) e d all = elim (eqb_tells x r.0) [
    | inl same ↦ by_one c (form r.1) e (d ∙ ap (λ b. cond b (Some (form r.1)) (by_field x form rs)) same.0) (all r.1)
    | inr other ↦ by_form c x form rs e (d ∙ ap (λ b. cond b (Some (form r.1)) (by_field x form rs)) other.0) all
  ]

  immediates_opcode : opcode w ≡ 0x13 → opcode w ≡ opcode_of i
  immediates_opcode e = elim (decide (funct3 w) 1) [
    | inl one ↦ by_form 0x13 (funct7 w) (λ op. shift_type (Immediate op) w) left_rows e (left_shifts w e one) (λ k. refl)
    | inr not_one ↦ elim (decide (funct3 w) 5) [
      | inl five ↦ by_form 0x13 (funct7 w) (λ op. shift_type (Immediate op) w) right_rows e (right_shifts w e five) (λ k. refl)
      | inr not_five ↦ by_form 0x13 (funct3 w) (λ op. i_type (Immediate op) w) immediate_rows e (immediates w e not_one not_five) (λ k. refl)
    ]
  ]

  registers_opcode : opcode w ≡ 0x33 → opcode w ≡ opcode_of i
  registers_opcode e = elim (decide (funct7 w) 0) [
    | inl base ↦ by_form 0x33 (funct3 w) (λ op. r_type (Register op) w) base_rows e (base_registers w e base) (λ k. refl)
    | inr n0 ↦ elim (decide (funct7 w) 0x20) [
      | inl alternate ↦ by_form 0x33 (funct3 w) (λ op. r_type (Register op) w) alternate_rows e (alternate_registers w e alternate) (λ k. refl)
      | inr n1 ↦ elim (decide (funct7 w) 0x01) [
        | inl multiply ↦ by_form 0x33 (funct3 w) (λ op. r_type (Register op) w) multiply_rows e (multiplications w e multiply) (λ k. refl)
        | inr n2 ↦ never (sym (no_registers w e n0 n1 n2) ∙ h)
      ]
    ]
  ]

  atomics_opcode : opcode w ≡ 0x2F → opcode w ≡ opcode_of i
  atomics_opcode e = elim (decide (funct3 w) 2) [
    | inl word ↦ elim (decide (funct5 w) 2) [
      | inl reserved ↦ by_form 0x2F (rs2 w) (λ op. atomic_type (Atomic op) w) ((0, amo.Lr) ∷ []) e (load_reservations w e word reserved) (λ k. refl)
      | inr other ↦ by_form 0x2F (funct5 w) (λ op. atomic_type (Atomic op) w) atomic_rows e (atomics w e word other) (λ k. refl)
    ]
    | inr not_word ↦ never (sym (no_atomics w e not_word) ∙ h)
  ]

  -- one or two rows that have no parameter
  by_two : (c x k l : ℕ) (j m : Instr) → opcode w ≡ c → decoded w ≡ (if nat_eq x k then Some j else if nat_eq x l then Some m else None) → c ≡ opcode_of j → c ≡ opcode_of m → opcode w ≡ opcode_of i
  by_two c x k l j m e d is js = elim (eqb_tells x k) [
    | inl same ↦ by_one c j e (d ∙ ap (λ b. if b then Some j else if nat_eq x l then Some m else None) same.0) is
    | inr other ↦ elim (eqb_tells x l) [
      | inl same ↦ by_one c m e (d ∙ ap (λ b. if b then Some j else if nat_eq x l then Some m else None) other.0 ∙ ap (λ b. if b then Some m else None) same.0) js
      | inr last ↦ never (sym (d ∙ ap (λ b. if b then Some j else if nat_eq x l then Some m else None) other.0 ∙ ap (λ b. if b then Some m else None) last.0) ∙ h)
    ]
  ]

  opcode_is : opcode w ≡ opcode_of i
  opcode_is =
      elim (decide (opcode w) 0x37) [
        | inl e ↦ by_one 0x37 (u_type Lui w) e (upper_immediate w e) refl
        | inr n0 ↦
            elim (decide (opcode w) 0x17) [
              | inl e ↦ by_one 0x17 (u_type Auipc w) e (upper_immediate_to_pc w e) refl
              | inr n1 ↦
                  elim (decide (opcode w) 0x6F) [
                    | inl e ↦ by_one 0x6F (j_type Jal w) e (jump_and_link w e) refl
                    | inr n2 ↦
                        elim (decide (opcode w) 0x67) [
                          | inl e ↦ by_form 0x67 (funct3 w) (λ (k : Unit {0}). i_type Jalr w) ((0, tt) ∷ []) e (jumps w e) (λ k. refl)
                          | inr n3 ↦
                              elim (decide (opcode w) 0x63) [
                                | inl e ↦ by_form 0x63 (funct3 w) (λ test. b_type (Branch test) w) branch_rows e (branches w e) (λ k. refl)
                                | inr n4 ↦
                                    elim (decide (opcode w) 0x03) [
                                      | inl e ↦ by_form 0x03 (funct3 w) (λ kind. i_type (Load kind) w) load_rows e (loads w e) (λ k. refl)
                                      | inr n5 ↦
                                          elim (decide (opcode w) 0x23) [
                                            | inl e ↦ by_form 0x23 (funct3 w) (λ kind. s_type (Store kind) w) store_rows e (stores w e) (λ k. refl)
                                            | inr n6 ↦
                                                elim (decide (opcode w) 0x13) [
                                                  | inl e ↦ immediates_opcode e
                                                  | inr n7 ↦
                                                      elim (decide (opcode w) 0x33) [
                                                        | inl e ↦ registers_opcode e
                                                        | inr n8 ↦
                                                            elim (decide (opcode w) 0x2F) [
                                                              | inl e ↦ atomics_opcode e
                                                              | inr n9 ↦
                                                                  elim (decide (opcode w) 0x0F) [
                                                                    | inl e ↦ by_two 0x0F (funct3 w) 0 1 Fence FenceI e (fences w e) refl refl
                                                                    | inr n10 ↦
                                                                        elim (decide (opcode w) 0x73) [
                                                                          | inl e ↦ by_two 0x73 (bits w 31 7) 0 0x2000 Ecall Ebreak e (environment w e) refl refl
                                                                          | inr n11 ↦
                                                                              never (sym (no_opcode w n0 n1 n2 n3 n4 n5 n6 n7 n8 n9 n10 n11) ∙ h)
                                                                        ]
                                                                  ]
                                                            ]
                                                      ]
                                                ]
                                          ]
                                    ]
                              ]
                        ]
                  ]
            ]
      ]

-- ---- what each form fixes of its word, besides the opcode
lui_fields : (w d imm : ℕ) → opcode w ≡ 0x37 → decoded w ≡ Some (Lui d imm) → (rd w ≡ d) × (bits w 31 12 ≡ imm)
lui_fields w d imm e h = by (sym (upper_immediate w e) ∙ h)
  where
    by : Some (u_type Lui w) ≡ Some (Lui d imm) → (rd w ≡ d) × (bits w 31 12 ≡ imm)
    by s = (cc, cc)

auipc_fields : (w d imm : ℕ) → opcode w ≡ 0x17 → decoded w ≡ Some (Auipc d imm) → (rd w ≡ d) × (bits w 31 12 ≡ imm)
auipc_fields w d imm e h = by (sym (upper_immediate_to_pc w e) ∙ h)
  where
    by : Some (u_type Auipc w) ≡ Some (Auipc d imm) → (rd w ≡ d) × (bits w 31 12 ≡ imm)
    by s = (cc, cc)

jal_fields : (w d : ℕ) (offset : ℤ) → opcode w ≡ 0x6F → decoded w ≡ Some (Jal d offset) → (rd w ≡ d) × (immediate_j w ≡ offset)
jal_fields w d offset e h = by (sym (jump_and_link w e) ∙ h)
  where
    by : Some (j_type Jal w) ≡ Some (Jal d offset) → (rd w ≡ d) × (immediate_j w ≡ offset)
    by s = (cc, cc)

jalr_fields : (w d base : ℕ) (offset : ℤ) → opcode w ≡ 0x67 → decoded w ≡ Some (Jalr d base offset) → (funct3 w ≡ 0) × (rd w ≡ d) × (rs1 w ≡ base) × (immediate_i w ≡ offset)
jalr_fields w d base offset e h =
    let r = in_field (funct3 w) (λ (k : Unit {0}). i_type Jalr w) (λ x k. x ≡ 0) ((0, tt) ∷ []) (Jalr d base offset) (refl, tt) (sym (jumps w e) ∙ h) in
    by r.1 r.2
  where
    by : i_type Jalr w ≡ Jalr d base offset → funct3 w ≡ 0 → (funct3 w ≡ 0) × (rd w ≡ d) × (rs1 w ≡ base) × (immediate_i w ≡ offset)
    by s f = (f, cc, cc, cc)

branch_fields : (w left right : ℕ) (test : Test) (offset : ℤ) → opcode w ≡ 0x63 → decoded w ≡ Some (Branch test left right offset) → (funct3 w ≡ test_code test) × (rs1 w ≡ left) × (rs2 w ≡ right) × (immediate_b w ≡ offset)
branch_fields w left right test offset e h =
    let r = in_field (funct3 w) (λ t. b_type (Branch t) w) (λ x t. x ≡ test_code t) branch_rows (Branch test left right offset) (refl, (refl, (refl, (refl, (refl, (refl, tt)))))) (sym (branches w e) ∙ h) in
    by r.0 r.1 r.2
  where
    by : (t : Test) → b_type (Branch t) w ≡ Branch test left right offset → funct3 w ≡ test_code t → (funct3 w ≡ test_code test) × (rs1 w ≡ left) × (rs2 w ≡ right) × (immediate_b w ≡ offset)
    by t s f = let same : t ≡ test = cc in (f ∙ ap test_code same, cc, cc, cc)

load_fields : (w d base : ℕ) (kind : LoadKind) (offset : ℤ) → opcode w ≡ 0x03 → decoded w ≡ Some (Load kind d base offset) → (funct3 w ≡ load_code kind) × (rd w ≡ d) × (rs1 w ≡ base) × (immediate_i w ≡ offset)
load_fields w d base kind offset e h =
    let r = in_field (funct3 w) (λ k. i_type (Load k) w) (λ x k. x ≡ load_code k) load_rows (Load kind d base offset) (refl, (refl, (refl, (refl, (refl, tt))))) (sym (loads w e) ∙ h) in
    by r.0 r.1 r.2
  where
    by : (k : LoadKind) → i_type (Load k) w ≡ Load kind d base offset → funct3 w ≡ load_code k → (funct3 w ≡ load_code kind) × (rd w ≡ d) × (rs1 w ≡ base) × (immediate_i w ≡ offset)
    by k s f = let same : k ≡ kind = cc in (f ∙ ap load_code same, cc, cc, cc)

store_fields : (w value base : ℕ) (kind : StoreKind) (offset : ℤ) → opcode w ≡ 0x23 → decoded w ≡ Some (Store kind value base offset) → (funct3 w ≡ store_code kind) × (rs2 w ≡ value) × (rs1 w ≡ base) × (immediate_s w ≡ offset)
store_fields w value base kind offset e h =
    let r = in_field (funct3 w) (λ k. s_type (Store k) w) (λ x k. x ≡ store_code k) store_rows (Store kind value base offset) (refl, (refl, (refl, tt))) (sym (stores w e) ∙ h) in
    by r.0 r.1 r.2
  where
    by : (k : StoreKind) → s_type (Store k) w ≡ Store kind value base offset → funct3 w ≡ store_code k → (funct3 w ≡ store_code kind) × (rs2 w ≡ value) × (rs1 w ≡ base) × (immediate_s w ≡ offset)
    by k s f = let same : k ≡ kind = cc in (f ∙ ap store_code same, cc, cc, cc)

-- a shift by a constant has a funct7 and an amount, each other operation an immediate
abbrev Operand : Bool → ℕ → ImmOp → ℤ → Type 0
Operand true w op imm = (funct7 w ≡ shift_code op) × (pos (rs2 w) ≡ imm)
Operand false w op imm = immediate_i w ≡ imm

module _ (w d left : ℕ) (op : ImmOp) (imm : ℤ) (e : opcode w ≡ 0x13) (h : decoded w ≡ Some (Immediate op d left imm)) where
  abbrev ImmediateFields : Type 0
  ImmediateFields = (funct3 w ≡ immediate_code op) × (rd w ≡ d) × (rs1 w ≡ left) × Operand (is_shift op) w op imm

  shift_by : (c : ℕ) (o : ImmOp) → funct3 w ≡ c → shift_type (Immediate o) w ≡ Immediate op d left imm → (funct7 w ≡ shift_code o) × (immediate_code o ≡ c) × (is_shift o ≡ true) → ImmediateFields
  shift_by c o f s (g, k, t) =
      let same : o ≡ op = cc in
      (f ∙ sym k ∙ ap immediate_code same, cc, cc, subst (λ b. Operand b w op imm) (sym t ∙ ap is_shift same) (g ∙ ap shift_code same, cc))

  plain_by : (o : ImmOp) → i_type (Immediate o) w ≡ Immediate op d left imm → (funct3 w ≡ immediate_code o) × (is_shift o ≡ false) → ImmediateFields
  plain_by o s (f, t) =
      let same : o ≡ op = cc in
      (f ∙ ap immediate_code same, cc, cc, subst (λ b. Operand b w op imm) (sym t ∙ ap is_shift same) (cc))

  immediate_fields : ImmediateFields
  immediate_fields = elim (decide (funct3 w) 1) [
    | inl one ↦
        let r = in_field (funct7 w) (λ o. shift_type (Immediate o) w) (λ x o. (x ≡ shift_code o) × (immediate_code o ≡ 1) × (is_shift o ≡ true)) left_rows (Immediate op d left imm) ((refl, refl, refl), tt) (sym (left_shifts w e one) ∙ h) in
        shift_by 1 r.0 one r.1 r.2
    | inr not_one ↦ elim (decide (funct3 w) 5) [
      | inl five ↦
          let r = in_field (funct7 w) (λ o. shift_type (Immediate o) w) (λ x o. (x ≡ shift_code o) × (immediate_code o ≡ 5) × (is_shift o ≡ true)) right_rows (Immediate op d left imm) ((refl, refl, refl), ((refl, refl, refl), tt)) (sym (right_shifts w e five) ∙ h) in
          shift_by 5 r.0 five r.1 r.2
      | inr not_five ↦
          let r = in_field (funct3 w) (λ o. i_type (Immediate o) w) (λ x o. (x ≡ immediate_code o) × (is_shift o ≡ false)) immediate_rows (Immediate op d left imm) ((refl, refl), ((refl, refl), ((refl, refl), ((refl, refl), ((refl, refl), ((refl, refl), tt)))))) (sym (immediates w e not_one not_five) ∙ h) in
          plain_by r.0 r.1 r.2
    ]
  ]

module _ (w d left right : ℕ) (op : RegOp) (e : opcode w ≡ 0x33) (h : decoded w ≡ Some (Register op d left right)) where
  abbrev RegisterFields : Type 0
  RegisterFields = (funct3 w ≡ register_code op) × (funct7 w ≡ group_code op) × (rd w ≡ d) × (rs1 w ≡ left) × (rs2 w ≡ right)

  register_by : (c : ℕ) (o : RegOp) → funct7 w ≡ c → r_type (Register o) w ≡ Register op d left right → (funct3 w ≡ register_code o) × (group_code o ≡ c) → RegisterFields
  register_by c o g s (f, k) =
      let same : o ≡ op = cc in (f ∙ ap register_code same, g ∙ sym k ∙ ap group_code same, cc, cc, cc)

  register_fields : RegisterFields
  register_fields = elim (decide (funct7 w) 0) [
    | inl base ↦
        let r = in_field (funct3 w) (λ o. r_type (Register o) w) (λ x o. (x ≡ register_code o) × (group_code o ≡ 0)) base_rows (Register op d left right) ((refl, refl), ((refl, refl), ((refl, refl), ((refl, refl), ((refl, refl), ((refl, refl), ((refl, refl), ((refl, refl), tt)))))))) (sym (base_registers w e base) ∙ h) in
        register_by 0 r.0 base r.1 r.2
    | inr n0 ↦ elim (decide (funct7 w) 0x20) [
      | inl alternate ↦
          let r = in_field (funct3 w) (λ o. r_type (Register o) w) (λ x o. (x ≡ register_code o) × (group_code o ≡ 0x20)) alternate_rows (Register op d left right) ((refl, refl), ((refl, refl), tt)) (sym (alternate_registers w e alternate) ∙ h) in
          register_by 0x20 r.0 alternate r.1 r.2
      | inr n1 ↦ elim (decide (funct7 w) 0x01) [
        | inl multiply ↦
            let r = in_field (funct3 w) (λ o. r_type (Register o) w) (λ x o. (x ≡ register_code o) × (group_code o ≡ 1)) multiply_rows (Register op d left right) ((refl, refl), ((refl, refl), ((refl, refl), ((refl, refl), ((refl, refl), ((refl, refl), ((refl, refl), ((refl, refl), tt)))))))) (sym (multiplications w e multiply) ∙ h) in
            register_by 1 r.0 multiply r.1 r.2
        | inr n2 ↦ never w (Register op d left right) h (sym (no_registers w e n0 n1 n2) ∙ h)
      ]
    ]
  ]

module _ (w d base value o : ℕ) (op : AtomicOp) (e : opcode w ≡ 0x2F) (h : decoded w ≡ Some (Atomic op d base value o)) where
  abbrev AtomicFields : Type 0
  AtomicFields = (funct3 w ≡ 2) × (funct5 w ≡ atomic_code op) × (rd w ≡ d) × (rs1 w ≡ base) × (rs2 w ≡ value) × (order w ≡ o)

  atomic_by : (k : AtomicOp) → funct3 w ≡ 2 → atomic_type (Atomic k) w ≡ Atomic op d base value o → funct5 w ≡ atomic_code k → AtomicFields
  atomic_by k t s f = let same : k ≡ op = cc in (t, f ∙ ap atomic_code same, cc, cc, cc, cc)

  atomic_fields : AtomicFields
  atomic_fields = elim (decide (funct3 w) 2) [
    | inl word ↦ elim (decide (funct5 w) 2) [
      | inl reserved ↦
          let r = in_field (rs2 w) (λ k. atomic_type (Atomic k) w) (λ x k. atomic_code k ≡ 2) ((0, amo.Lr) ∷ []) (Atomic op d base value o) (refl, tt) (sym (load_reservations w e word reserved) ∙ h) in
          atomic_by r.0 word r.1 (reserved ∙ sym r.2)
      | inr other ↦
          let r = in_field (funct5 w) (λ k. atomic_type (Atomic k) w) (λ x k. x ≡ atomic_code k) atomic_rows (Atomic op d base value o) (refl, (refl, (refl, (refl, (refl, (refl, (refl, (refl, (refl, (refl, tt)))))))))) (sym (atomics w e word other) ∙ h) in
          atomic_by r.0 word r.1 r.2
    ]
    | inr not_word ↦ never w (Atomic op d base value o) h (sym (no_atomics w e not_word) ∙ h)
  ]

environment_fields : (w : ℕ) (i : Instr) → opcode w ≡ 0x73 → decoded w ≡ Some i → bits w 31 7 ≡ environment_code i
environment_fields w i e h =
    let r = in_field (bits w 31 7) (λ k. k) (λ x k. x ≡ environment_code k) ((0, Ecall) ∷ (0x2000, Ebreak) ∷ []) i (refl, (refl, tt)) (sym (environment w e) ∙ h) in
    r.2 ∙ ap environment_code r.1

-- ---- two words of one instruction
module _ (w v : ℕ) (a : w < 2 ^ 32) (b : v < 2 ^ 32) where
  operands : (op : ImmOp) (imm : ℤ) (shift : Bool) → opcode w ≡ opcode v → rd w ≡ rd v → funct3 w ≡ funct3 v → rs1 w ≡ rs1 v → Operand shift w op imm → Operand shift v op imm → w ≡ v
  operands op imm true o d f s x y = register_word w v a b o d f s (amounts (rs2 w) (rs2 v) (x.1 ∙ sym y.1)) (x.0 ∙ sym y.0)
    where
      amounts : (m n : ℕ) → pos m ≡ pos n → m ≡ n
      amounts m n e = cc
  operands op imm false o d f s x y = immediate_word w v a b o d f s (same_i w v (x ∙ sym y))

  by_instruction : (i : Instr) → opcode w ≡ opcode_of i → opcode v ≡ opcode_of i → decoded w ≡ Some i → decoded v ≡ Some i → i ≢ Fence → i ≢ FenceI → w ≡ v
  by_instruction (Lui d imm) e o p q n m =
      let x = lui_fields w d imm e p in let y = lui_fields v d imm o q in
      upper_word w v a b (e ∙ sym o) (x.0 ∙ sym y.0) (x.1 ∙ sym y.1)
  by_instruction (Auipc d imm) e o p q n m =
      let x = auipc_fields w d imm e p in let y = auipc_fields v d imm o q in
      upper_word w v a b (e ∙ sym o) (x.0 ∙ sym y.0) (x.1 ∙ sym y.1)
  by_instruction (Jal d offset) e o p q n m =
      let x = jal_fields w d offset e p in let y = jal_fields v d offset o q in
      jump_word w v a b (e ∙ sym o) (x.0 ∙ sym y.0) (x.1 ∙ sym y.1)
  by_instruction (Jalr d base offset) e o p q n m =
      let x = jalr_fields w d base offset e p in let y = jalr_fields v d base offset o q in
      immediate_word w v a b (e ∙ sym o) (x.1 ∙ sym y.1) (x.0 ∙ sym y.0) (x.2 ∙ sym y.2) (same_i w v (x.3 ∙ sym y.3))
  by_instruction (Branch test left right offset) e o p q n m =
      let x = branch_fields w left right test offset e p in let y = branch_fields v left right test offset o q in
      branch_word w v a b (e ∙ sym o) (x.0 ∙ sym y.0) (x.1 ∙ sym y.1) (x.2 ∙ sym y.2) (x.3 ∙ sym y.3)
  by_instruction (Load kind d base offset) e o p q n m =
      let x = load_fields w d base kind offset e p in let y = load_fields v d base kind offset o q in
      immediate_word w v a b (e ∙ sym o) (x.1 ∙ sym y.1) (x.0 ∙ sym y.0) (x.2 ∙ sym y.2) (same_i w v (x.3 ∙ sym y.3))
  by_instruction (Store kind value base offset) e o p q n m =
      let x = store_fields w value base kind offset e p in let y = store_fields v value base kind offset o q in
      store_word w v a b (e ∙ sym o) (x.0 ∙ sym y.0) (x.2 ∙ sym y.2) (x.1 ∙ sym y.1) (x.3 ∙ sym y.3)
  by_instruction (Immediate op d left imm) e o p q n m =
      let x = immediate_fields w d left op imm e p in let y = immediate_fields v d left op imm o q in
      operands op imm (is_shift op) (e ∙ sym o) (x.1 ∙ sym y.1) (x.0 ∙ sym y.0) (x.2 ∙ sym y.2) x.3 y.3
  by_instruction (Register op d left right) e o p q n m =
      let x = register_fields w d left right op e p in let y = register_fields v d left right op o q in
      register_word w v a b (e ∙ sym o) (x.2 ∙ sym y.2) (x.0 ∙ sym y.0) (x.3 ∙ sym y.3) (x.4 ∙ sym y.4) (x.1 ∙ sym y.1)
  by_instruction (Atomic op d base value k) e o p q n m =
      let x = atomic_fields w d base value k op e p in let y = atomic_fields v d base value k op o q in
      let five = x.1 ∙ sym y.1 in let ordered = x.5 ∙ sym y.5 in
      register_word w v a b (e ∙ sym o) (x.2 ∙ sym y.2) (x.0 ∙ sym y.0) (x.3 ∙ sym y.3) (x.4 ∙ sym y.4) (omega (arith, five, ordered))
  by_instruction Fence e o p q n m = absurd (n refl)
  by_instruction FenceI e o p q n m = absurd (m refl)
  by_instruction Ecall e o p q n m = environment_word w v a b (e ∙ sym o) (environment_fields w Ecall e p ∙ sym (environment_fields v Ecall o q))
  by_instruction Ebreak e o p q n m = environment_word w v a b (e ∙ sym o) (environment_fields w Ebreak e p ∙ sym (environment_fields v Ebreak o q))

pub one_word : (w v : ℕ) (i : Instr) → w < 2 ^ 32 → v < 2 ^ 32 → decoded w ≡ Some i → decoded v ≡ Some i → i ≢ Fence → i ≢ FenceI → w ≡ v
one_word w v i a b p q not_fence not_fence_i = by_instruction w v a b i (opcode_is w i p) (opcode_is v i q) p q not_fence not_fence_i
