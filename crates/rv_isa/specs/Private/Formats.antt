-- A word of each format, by the fields that it has: the RISC-V Instruction Set Manual, Volume I, section
-- "Base Instruction Formats".
use Rattle.std.specs.Prelude.{◌≡◌, ℕ, ℤ, pos}
use Rattle.rv_isa.specs.Fields.{opcode, rd, funct3, rs1, rs2, funct7, order, funct5, immediate_i, immediate_s, immediate_b, immediate_u, immediate_j}

pub record IsRWord (inst f7 r2 r1 f3 d op : ℕ) : Type 0 where
  pub opcode : opcode inst ≡ op
  pub rd : rd inst ≡ d
  pub funct3 : funct3 inst ≡ f3
  pub rs1 : rs1 inst ≡ r1
  pub rs2 : rs2 inst ≡ r2
  pub funct7 : funct7 inst ≡ f7

-- the format R, whose funct7 is a funct5 and the order
pub record IsAtomicWord (inst f5 o r2 r1 f3 d op : ℕ) : Type 0 where
  pub opcode : opcode inst ≡ op
  pub rd : rd inst ≡ d
  pub funct3 : funct3 inst ≡ f3
  pub rs1 : rs1 inst ≡ r1
  pub rs2 : rs2 inst ≡ r2
  pub order : order inst ≡ o
  pub funct5 : funct5 inst ≡ f5

pub record IsIWord (inst : ℕ) (imm : ℤ) (r1 f3 d op : ℕ) : Type 0 where
  pub opcode : opcode inst ≡ op
  pub rd : rd inst ≡ d
  pub funct3 : funct3 inst ≡ f3
  pub rs1 : rs1 inst ≡ r1
  pub immediate : immediate_i inst ≡ imm

-- a shift by a constant, which stands in the place of rs2
pub record IsShiftWord (inst f7 : ℕ) (imm : ℤ) (r1 f3 d op : ℕ) : Type 0 where
  pub opcode : opcode inst ≡ op
  pub rd : rd inst ≡ d
  pub funct3 : funct3 inst ≡ f3
  pub rs1 : rs1 inst ≡ r1
  pub funct7 : funct7 inst ≡ f7
  pub amount : pos (rs2 inst) ≡ imm

pub record IsSWord (inst : ℕ) (imm : ℤ) (r2 r1 f3 op : ℕ) : Type 0 where
  pub opcode : opcode inst ≡ op
  pub funct3 : funct3 inst ≡ f3
  pub rs1 : rs1 inst ≡ r1
  pub rs2 : rs2 inst ≡ r2
  pub immediate : immediate_s inst ≡ imm

pub record IsBWord (inst : ℕ) (imm : ℤ) (r2 r1 f3 op : ℕ) : Type 0 where
  pub opcode : opcode inst ≡ op
  pub funct3 : funct3 inst ≡ f3
  pub rs1 : rs1 inst ≡ r1
  pub rs2 : rs2 inst ≡ r2
  pub immediate : immediate_b inst ≡ imm

pub record IsUWord (inst imm d op : ℕ) : Type 0 where
  pub opcode : opcode inst ≡ op
  pub rd : rd inst ≡ d
  pub immediate : immediate_u inst ≡ imm

pub record IsJWord (inst : ℕ) (imm : ℤ) (d op : ℕ) : Type 0 where
  pub opcode : opcode inst ≡ op
  pub rd : rd inst ≡ d
  pub immediate : immediate_j inst ≡ imm
