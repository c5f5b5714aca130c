-- What a word stands for, by its fields: each row's test becomes tests of opcode, funct3, funct7 and so on.
use Rattle.std.proofs.Common.{◌≡◌, ◌≢◌, ℕ, ◌/◌, ◌%◌, ◌^◌, ◌&&◌, Bool, true, false, if◌then◌else◌, List, [], ◌∷◌, nat_eq, Option, Some, None, refl, ap, ap₂, ◌∙◌, arith, ne_eqb}
use Rattle.std.proofs.Math.Bool.{and-true, and-false}
use Rattle.std.proofs.lemmas.Bool.{and_parts}
use Rattle.std.proofs.lemmas.Bool.Decides.{nat_tests}
use Rattle.rv_isa.specs.declared.instruction.Test.TheVariants.{Eq, Ne, Lt, Ge, Ltu, Geu}
use Rattle.rv_isa.specs.declared.instruction.LoadKind.TheVariants.{Lb, Lh, Lw, Lbu, Lhu}
use Rattle.rv_isa.specs.declared.instruction.StoreKind.TheVariants.{Sb, Sh, Sw}
use Rattle.rv_isa.specs.declared.instruction.ImmOp.TheVariants.{Addi, Slti, Sltiu, Xori, Ori, Andi, Slli, Srli, Srai}
use Rattle.rv_isa.specs.declared.instruction.RegOp.TheVariants as reg
use Rattle.rv_isa.specs.declared.instruction.AtomicOp.TheVariants as amo
use Rattle.rv_isa.specs.declared.instruction.Instr.{Instr}
use Rattle.rv_isa.specs.declared.instruction.Instr.TheVariants.{Lui, Auipc, Jal, Jalr, Branch, Load, Store, Immediate, Register, Atomic, Fence, FenceI, Ecall, Ebreak}
use Rattle.rv_isa.specs.Fields.{opcode, rd, funct3, rs1, rs2, funct7, order, funct5, bits}
use Rattle.rv_isa.specs.Table.{Row, fits, completed, decoded, table, r_type, i_type, shift_type, s_type, b_type, u_type, j_type, atomic_type}
use Rattle.rv_isa.proofs.Masks.{fields, fields_fit, is_whole, fields_fit-is}

-- the fields of a word; `upper` is all but the opcode
pub record Parts : Type 0 where
  pub opcode : ℕ
  pub rd : ℕ
  pub funct3 : ℕ
  pub rs1 : ℕ
  pub rs2 : ℕ
  pub funct7 : ℕ
  pub order : ℕ
  pub funct5 : ℕ
  pub upper : ℕ

abbrev pub parts : ℕ → Parts
parts w = record { opcode = opcode w; rd = rd w; funct3 = funct3 w; rs1 = rs1 w; rs2 = rs2 w; funct7 = funct7 w; order = order w; funct5 = funct5 w; upper = bits w 31 7 }

-- Where a word is cut: a mask of all its bits needs no cut but behind the opcode, and one that leaves out the bits
-- aq and rl needs funct7 in two.
abbrev pub widths : Bool → Bool → List ℕ
widths true split = 7 ∷ 25 ∷ []
widths false true = 7 ∷ 5 ∷ 3 ∷ 5 ∷ 5 ∷ 2 ∷ 5 ∷ []
widths false false = 7 ∷ 5 ∷ 3 ∷ 5 ∷ 5 ∷ 7 ∷ []

abbrev pub values : Bool → Bool → Parts → List ℕ
values true split p = p.opcode ∷ p.upper ∷ []
values false true p = p.opcode ∷ p.rd ∷ p.funct3 ∷ p.rs1 ∷ p.rs2 ∷ p.order ∷ p.funct5 ∷ []
values false false p = p.opcode ∷ p.rd ∷ p.funct3 ∷ p.rs1 ∷ p.rs2 ∷ p.funct7 ∷ []

abbrev is_all : ℕ → Bool
is_all mask = nat_eq mask 0xFFFF_FFFF

abbrev is_split : ℕ → Bool
is_split mask = nat_eq (mask / 2 ^ 25 % 2 ^ 2) 0

abbrev pub whole_row : Row → Bool
whole_row r = is_whole (widths (is_all r.mask) (is_split r.mask)) 0 r.mask

abbrev pub fits_by_parts : Parts → Row → Bool
fits_by_parts p r = fields_fit (widths (is_all r.mask) (is_split r.mask)) (values (is_all r.mask) (is_split r.mask) p) 0 r.mask r.«match»

fields-is : (a b : Bool) (w : ℕ) → fields (widths a b) 0 w ≡ values a b (parts w)
fields-is true b w = refl
fields-is false true w = refl
fields-is false false w = refl

whole_number : (n : ℕ) → n / 2 ^ 0 ≡ n
whole_number n = omega arith

fits-is : (w : ℕ) (r : Row) → whole_row r ≡ true → fits w r ≡ fits_by_parts (parts w) r
fits-is w r h =
    let cut = widths (is_all r.mask) (is_split r.mask) in
    let plain = rw (whole_number w, whole_number r.mask, whole_number r.«match») at (fields_fit-is cut 0 w r.mask r.«match» h) in
    plain ∙ ap (λ xs. fields_fit cut xs 0 r.mask r.«match») (fields-is (is_all r.mask) (is_split r.mask) w)

abbrev pub chosen : List Row → Parts → ℕ → Option Instr
chosen [] p w = None
chosen (r ∷ rs) p w = if fits_by_parts p r then Some (r.instruction w) else chosen rs p w

abbrev pub all_whole : List Row → Bool
all_whole [] = true
all_whole (r ∷ rs) = whole_row r && all_whole rs

completed-is : (w : ℕ) (rs : List Row) → all_whole rs ≡ true → completed w rs ≡ chosen rs (parts w) w
completed-is w [] h = refl
completed-is w (r ∷ rs) h =
    let both = and_parts _ _ h in
    ap (λ b. if b then Some (r.instruction w) else completed w rs) (fits-is w r both.0)
    ∙ ap (λ rest. if fits_by_parts (parts w) r then Some (r.instruction w) else rest) (completed-is w rs both.1)

-- every mask of the table has all or none of each field's bits
all_whole-table : all_whole table ≡ true
unfolding table
all_whole-table = refl

-- What a word stands for, where some of its fields are known.
decoded_at : (w : ℕ) {p : Parts} → parts w ≡ p → decoded w ≡ chosen table p w
unfolding decoded
decoded_at w e = completed-is w table all_whole-table ∙ ap (λ p. chosen table p w) e

-- ---- the rows of an opcode, by the field that tells them apart
abbrev pub by_field : {X : Type 0} → ℕ → (X → Instr) → List (ℕ × X) → Option Instr
by_field x form [] = None
by_field x form (r ∷ rs) = if nat_eq x r.0 then Some (form r.1) else by_field x form rs

differs : (a b : ℕ) → a ≢ b → nat_eq a b ≡ false
differs a b h = ne_eqb a b h

pub upper_immediate : (w : ℕ) → opcode w ≡ 0x37 → decoded w ≡ Some (u_type Lui w)
unfolding table
upper_immediate w e = decoded_at w (ap (λ x. record (parts w) { opcode = x }) e)

pub upper_immediate_to_pc : (w : ℕ) → opcode w ≡ 0x17 → decoded w ≡ Some (u_type Auipc w)
unfolding table
upper_immediate_to_pc w e = decoded_at w (ap (λ x. record (parts w) { opcode = x }) e)

pub jump_and_link : (w : ℕ) → opcode w ≡ 0x6F → decoded w ≡ Some (j_type Jal w)
unfolding table
jump_and_link w e = decoded_at w (ap (λ x. record (parts w) { opcode = x }) e)

pub jumps : (w : ℕ) → opcode w ≡ 0x67 →
    decoded w ≡ by_field (funct3 w) (λ form. i_type form w) ((0, Jalr) ∷ [])
unfolding table
jumps w e = decoded_at w (ap (λ x. record (parts w) { opcode = x }) e) ∙ simp and-true

pub branches : (w : ℕ) → opcode w ≡ 0x63 →
    decoded w ≡ by_field (funct3 w) (λ test. b_type (Branch test) w) ((0, Eq) ∷ (1, Ne) ∷ (4, Lt) ∷ (5, Ge) ∷ (6, Ltu) ∷ (7, Geu) ∷ [])
unfolding table
branches w e = decoded_at w (ap (λ x. record (parts w) { opcode = x }) e) ∙ simp and-true

pub loads : (w : ℕ) → opcode w ≡ 0x03 →
    decoded w ≡ by_field (funct3 w) (λ kind. i_type (Load kind) w) ((0, Lb) ∷ (1, Lh) ∷ (2, Lw) ∷ (4, Lbu) ∷ (5, Lhu) ∷ [])
unfolding table
loads w e = decoded_at w (ap (λ x. record (parts w) { opcode = x }) e) ∙ simp and-true

pub stores : (w : ℕ) → opcode w ≡ 0x23 →
    decoded w ≡ by_field (funct3 w) (λ kind. s_type (Store kind) w) ((0, Sb) ∷ (1, Sh) ∷ (2, Sw) ∷ [])
unfolding table
stores w e = decoded_at w (ap (λ x. record (parts w) { opcode = x }) e) ∙ simp and-true

pub fences : (w : ℕ) → opcode w ≡ 0x0F →
    decoded w ≡ by_field (funct3 w) (λ form. form) ((0, Fence) ∷ (1, FenceI) ∷ [])
unfolding table
fences w e = decoded_at w (ap (λ x. record (parts w) { opcode = x }) e) ∙ simp and-true

pub environment : (w : ℕ) → opcode w ≡ 0x73 →
    decoded w ≡ by_field (bits w 31 7) (λ form. form) ((0, Ecall) ∷ (0x2000, Ebreak) ∷ [])
unfolding table
environment w e = decoded_at w (ap (λ x. record (parts w) { opcode = x }) e) ∙ simp and-true

-- SLLI, SRLI and SRAI have a funct7 too
pub immediates : (w : ℕ) → opcode w ≡ 0x13 → funct3 w ≢ 1 → funct3 w ≢ 5 →
    decoded w ≡ by_field (funct3 w) (λ op. i_type (Immediate op) w) ((0, Addi) ∷ (2, Slti) ∷ (3, Sltiu) ∷ (4, Xori) ∷ (6, Ori) ∷ (7, Andi) ∷ [])
unfolding table
immediates w e not_left not_right = decoded_at w (ap (λ x. record (parts w) { opcode = x }) e) ∙ simp (differs _ _ not_left, differs _ _ not_right, and-true)

pub left_shifts : (w : ℕ) → opcode w ≡ 0x13 → funct3 w ≡ 1 →
    decoded w ≡ by_field (funct7 w) (λ op. shift_type (Immediate op) w) ((0, Slli) ∷ [])
unfolding table
left_shifts w e f = decoded_at w (ap₂ (λ x y. record (parts w) { opcode = x; funct3 = y }) e f) ∙ simp and-true

pub right_shifts : (w : ℕ) → opcode w ≡ 0x13 → funct3 w ≡ 5 →
    decoded w ≡ by_field (funct7 w) (λ op. shift_type (Immediate op) w) ((0, Srli) ∷ (0x20, Srai) ∷ [])
unfolding table
right_shifts w e f = decoded_at w (ap₂ (λ x y. record (parts w) { opcode = x; funct3 = y }) e f) ∙ simp and-true

pub base_registers : (w : ℕ) → opcode w ≡ 0x33 → funct7 w ≡ 0 →
    decoded w ≡ by_field (funct3 w) (λ op. r_type (Register op) w) ((0, reg.Add) ∷ (1, reg.Sll) ∷ (2, reg.Slt) ∷ (3, reg.Sltu) ∷ (4, reg.Xor) ∷ (5, reg.Srl) ∷ (6, reg.Or) ∷ (7, reg.And) ∷ [])
unfolding table
base_registers w e f = decoded_at w (ap₂ (λ x y. record (parts w) { opcode = x; funct7 = y }) e f) ∙ simp (and-true, and-false)

pub alternate_registers : (w : ℕ) → opcode w ≡ 0x33 → funct7 w ≡ 0x20 →
    decoded w ≡ by_field (funct3 w) (λ op. r_type (Register op) w) ((0, reg.Sub) ∷ (5, reg.Sra) ∷ [])
unfolding table
alternate_registers w e f = decoded_at w (ap₂ (λ x y. record (parts w) { opcode = x; funct7 = y }) e f) ∙ simp (and-true, and-false)

pub multiplications : (w : ℕ) → opcode w ≡ 0x33 → funct7 w ≡ 0x01 →
    decoded w ≡ by_field (funct3 w) (λ op. r_type (Register op) w) ((0, reg.Mul) ∷ (1, reg.Mulh) ∷ (2, reg.Mulhsu) ∷ (3, reg.Mulhu) ∷ (4, reg.Div) ∷ (5, reg.Divu) ∷ (6, reg.Rem) ∷ (7, reg.Remu) ∷ [])
unfolding table
multiplications w e f = decoded_at w (ap₂ (λ x y. record (parts w) { opcode = x; funct7 = y }) e f) ∙ simp (and-true, and-false)

pub no_registers : (w : ℕ) → opcode w ≡ 0x33 → funct7 w ≢ 0 → funct7 w ≢ 0x20 → funct7 w ≢ 0x01 → decoded w ≡ None
unfolding table
no_registers w e not_base not_alternate not_multiply =
    decoded_at w (ap (λ x. record (parts w) { opcode = x }) e) ∙ simp (differs _ _ not_base, differs _ _ not_alternate, differs _ _ not_multiply, and-true, and-false)

pub no_atomics : (w : ℕ) → opcode w ≡ 0x2F → funct3 w ≢ 2 → decoded w ≡ None
unfolding table
no_atomics w e not_word = decoded_at w (ap (λ x. record (parts w) { opcode = x }) e) ∙ simp (differs _ _ not_word, and-true)

-- LR has an rs2 of 0
pub atomics : (w : ℕ) → opcode w ≡ 0x2F → funct3 w ≡ 2 → funct5 w ≢ 2 →
    decoded w ≡ by_field (funct5 w) (λ op. atomic_type (Atomic op) w) ((3, amo.Sc) ∷ (1, amo.Swap) ∷ (0, amo.Add) ∷ (4, amo.Xor) ∷ (12, amo.And) ∷ (8, amo.Or) ∷ (16, amo.Min) ∷ (20, amo.Max) ∷ (24, amo.Minu) ∷ (28, amo.Maxu) ∷ [])
unfolding table
atomics w e f not_reserved = decoded_at w (ap₂ (λ x y. record (parts w) { opcode = x; funct3 = y }) e f) ∙ simp (differs _ _ not_reserved, and-true, and-false)

pub load_reservations : (w : ℕ) → opcode w ≡ 0x2F → funct3 w ≡ 2 → funct5 w ≡ 2 →
    decoded w ≡ by_field (rs2 w) (λ op. atomic_type (Atomic op) w) ((0, amo.Lr) ∷ [])
unfolding table
load_reservations w e f g = decoded_at w (ap₂ (λ x y. record (parts w) { opcode = x; funct3 = y }) e f ∙ ap (λ z. record (parts w) { opcode = 0x2F; funct3 = 2; funct5 = z }) g) ∙ simp and-true

-- the opcodes of the table are these twelve
pub no_opcode : (w : ℕ) → opcode w ≢ 0x37 → opcode w ≢ 0x17 → opcode w ≢ 0x6F → opcode w ≢ 0x67 → opcode w ≢ 0x63 → opcode w ≢ 0x03 → opcode w ≢ 0x23 → opcode w ≢ 0x13 → opcode w ≢ 0x33 → opcode w ≢ 0x2F → opcode w ≢ 0x0F → opcode w ≢ 0x73 → decoded w ≡ None
unfolding table
no_opcode w n0 n1 n2 n3 n4 n5 n6 n7 n8 n9 n10 n11 =
    decoded_at w {p = parts w} refl ∙ simp (differs _ _ n0, differs _ _ n1, differs _ _ n2, differs _ _ n3, differs _ _ n4, differs _ _ n5, differs _ _ n6, differs _ _ n7, differs _ _ n8, differs _ _ n9, differs _ _ n10, differs _ _ n11)

-- ---- the rows that one function tells apart, and what tests of numbers say
pub ruleset opcodes = (upper_immediate, upper_immediate_to_pc, jump_and_link, no_opcode, nat_tests)

pub ruleset registers = (base_registers, alternate_registers, multiplications, nat_tests)

pub ruleset all_immediates = (immediates, left_shifts, right_shifts, nat_tests)

pub ruleset all_atomics = (atomics, load_reservations, nat_tests)

-- the forms that encode writes with no function of their own
pub ruleset unparted = (upper_immediate, upper_immediate_to_pc, jump_and_link, jumps, fences, environment, nat_tests)
