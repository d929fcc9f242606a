-- To be believed. The content of a study, free of bytes: 01, "Records". Assumes nothing.
use Rattle.std.specs.Prelude.{List, ℕ}
use Rattle.ignition.specs.Ignition.{ignition}
use Rattle.terms.specs.Terms.{seconds, clock_of}
use Rattle.terms.specs.declared.Clock.{Clock}
use Rattle.terms.specs.declared.Target.{Target as Facts}

-- a branching
pub data Branching : Type 0 where
  -- the chance of its first branch, in millionths
  given : ℕ → Branching
  -- 02, request P3: an ignition curve, and a release rate in tenths of a gram per second
  on_curve : ℕ → ℕ → Branching

-- the chance of its first branch
abbrev pub chance : Branching → ℕ
chance (given p) = p
chance (on_curve curve rate) = ignition curve rate

-- a target; its number is its place in the study, counted from 0
pub data Target : Type 0 where
  described : Facts → Target

-- class, setting and volume
abbrev pub facts : Target → Facts
facts (described f) = f

-- an effect: target number, intensity, duration
pub data Effect : Type 0 where
  in_seconds : ℕ → ℕ → ℕ → Effect
  -- 02, request P6: and the unit of the duration
  timed : ℕ → ℕ → ℕ → ℕ → Effect

abbrev pub target_of : Effect → ℕ
target_of (in_seconds t i d) = t
target_of (timed t i d u) = t

abbrev pub intensity : Effect → ℕ
intensity (in_seconds t i d) = i
intensity (timed t i d u) = i

abbrev pub duration : Effect → ℕ
duration (in_seconds t i d) = d
duration (timed t i d u) = d

-- how its duration is counted
abbrev pub clock : Effect → Clock
clock (in_seconds t i d) = seconds
clock (timed t i d u) = clock_of u

-- 01, "Order": a tree is an outcome with its effects, or a branching with the tree of its first branch and that of its second
pub data Tree : Type 0 where
  outcome : ℕ → List Effect → Tree
  branching : Branching → Tree → Tree → Tree

-- a scenario is a leak and then one tree
pub record Scenario : Type 0 where
  pub number : ℕ
  pub frequency : ℕ
  pub tree : Tree

pub record Content : Type 0 where
  pub number : ℕ
  pub targets : List Target
  pub scenarios : List Scenario
