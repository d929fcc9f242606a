-- To be believed. What the rules of death and damage go by: a logarithm, the chance of a probit, and the root of a volume. Assumes nothing.
use Rattle.std.specs.Prelude.{ℕ, ℤ}
use Rattle.log2.specs.Logarithm.{logarithm}
use Rattle.probit.specs.Chance.{chance_of}
use Rattle.volumes.specs.Root.{root_of}

-- L(n), the chance in millionths of a probit Y in millionths, and K of a volume in m³
pub record Scales : Type 0 where
  pub log : ℕ → ℕ
  pub chance : ℤ → ℕ
  pub root : ℕ → ℕ

-- those of 01, "The logarithm" and "From probit to chance", and of 02, request P1
abbrev pub standard : Scales
standard = record { log = logarithm; chance = chance_of; root = root_of }
