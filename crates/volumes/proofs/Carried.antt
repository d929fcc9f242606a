-- What is found in the table is K. Assumes nothing.
use mathlib.Core.Path.{◌≡◌, refl, subst}
use mathlib.Core.Bool.{true, false}
use mathlib.Core.Logic.{◌⊎◌, inl, inr, ⊎_elim}
use Prim.Native.Nat.{ℕ, zero, suc, ◌+◌, ◌-◌, ◌/◌, ◌*◌, ◌^◌, ◌<◌, ◌≤◌}
use native.Mathlib.Nat.{pow-suc}
use native.Mathlib.Decide.{dec_le}
use native.Mathlib.Omega.{arith}
use lib.Dec.{leb}
use lib.ListN.{get_or}
use borrow.Author.Tests.{leb-true, leb-false}
use Rattle.std.specs.List.Sorted.{IsPartitionPoint, IsPartitionedBy}
use Rattle.std.proofs.lemmas.List.Sorted.{IsPartitionedBy-leb, IsNonDecreasingBy-from_default}
use Rattle.numeric.proofs.TableLaws.{rising}
use Rattle.numeric.proofs.ChoiceLaws.{lt_case, ge_case, le_case, gt_case}
use Rattle.volumes.specs.Root.{root_of}
use Rattle.volumes.specs.Tables.{least_volumes, RightVolumes, further_to, halved, RootByHalves}
use Rattle.volumes.proofs.Laws.{least_volumes_at, root_found, root_beyond}

module _ (volume : ℕ) where
  -- the step that is looked for is this one or less than so many further on
  record Within (step width : ℕ) : Type 0 where
    there : step < 343
    low : (step ≡ 0) ⊎ (get_or least_volumes step 0 ≤ volume)
    high : (343 ≤ step + width) ⊎ (volume < get_or least_volumes (step + width) 0)

  narrowed : (step half : ℕ) → Within step (half * 2) → Within (further_to volume step half) half
  unfolding further_to
  narrowed step half w = go (dec_le 343 (step + half)) (dec_le (get_or least_volumes (step + half) 0) volume)
    where
      go : Dec (343 ≤ step + half) → Dec (get_or least_volumes (step + half) 0 ≤ volume) → Within (further_to volume step half) half
      go (yes a) b =
          let e : step ≡ further_to volume step half = ge_case _ _ _ _ a refl in
          rw (← e) record { there = w.there; low = w.low; high = inl a }
      go (no a) (yes b) =
          let e : step + half ≡ further_to volume step half = lt_case _ _ _ _ (omega arith) (le_case _ _ _ _ b refl) in
          let d : step + half * 2 ≡ step + half + half = omega arith in
          rw (← e) record { there = omega arith; low = inr b; high = rw d at w.high }
      go (no a) (no b) =
          let e : step ≡ further_to volume step half = lt_case _ _ _ _ (omega arith) (gt_case _ _ _ _ (omega arith) refl) in
          rw (← e) record { there = w.there; low = w.low; high = inr (omega arith) }

  halved_within : (n step ahead : ℕ) → ahead ≡ 2 ^ n / 2 → Within step (2 ^ n) → Within (halved volume n step ahead) 1
  unfolding halved
  halved_within zero step ahead e w = w
  halved_within (suc n) step ahead e w =
      let p : ahead ≡ 2 ^ n = omega (arith, e, pow-suc 2 n) in
      let v : Within step (ahead * 2) = rw (p, ← pow-suc 2 n) w in
      let u : Within (further_to volume step ahead) (2 ^ n) = subst (Within (further_to volume step ahead)) p (narrowed step ahead v) in
      halved_within n (further_to volume step ahead) (ahead / 2) (omega (arith, p)) u

  found : Within (halved volume 9 0 256) 1
  found = halved_within 9 0 256 refl record { there = omega arith; low = inl refl; high = inl (omega arith) }

pub right_volumes : RightVolumes
right_volumes = least_volumes_at least_volumes refl tt

pub root_by_halves : RootByHalves
root_by_halves volume z = go (dec_le volume 10000)
  where
    w : Within volume (halved volume 9 0 256) 1
    w = found volume

    next : (halved volume 9 0 256 ≡ 342) ⊎ (volume < get_or least_volumes (halved volume 9 0 256 + 1) 0)
    next = ⊎_elim (λ a. inl (omega (arith, a, w.there))) (λ a. inr a) w.high

    go : Dec (volume ≤ 10000) → 1000 + halved volume 9 0 256 ≡ root_of volume
    go (yes h) = root_found least_volumes volume _ right_volumes z h w.there w.low next
    go (no h) = root_beyond least_volumes volume _ right_volumes (omega arith) w.there next

-- ---- the table as it is searched: the step of a volume by how many of the least volumes are at most the volume

pub volumes_parted : (volume : ℕ) → IsPartitionedBy (λ y. leb y volume) least_volumes
volumes_parted volume = IsPartitionedBy-leb (λ y. y) least_volumes volume (IsNonDecreasingBy-from_default (λ y. y) least_volumes 0 (rising least_volumes tt))

pub halved_by_count : (volume n : ℕ) → n ≤ 343 → IsPartitionPoint (λ y. leb y volume ≡ true) (λ y. leb y volume ≡ false) least_volumes n → n - 1 ≡ halved volume 9 0 256
halved_by_count volume n w p = go (dec_le n s) (dec_le n (s + 1)) (found volume).low (found volume).high
  where
    s : ℕ
    s = halved volume 9 0 256

    within : s < 343
    within = (found volume).there

    low : (k : ℕ) → k < n → get_or least_volumes k 0 ≤ volume
    low k h = leb-true _ _ (p.0 k 0 (omega arith) h)

    high : (k : ℕ) → n ≤ k → k < 343 → volume < get_or least_volumes k 0
    high k h l = leb-false _ _ (p.1 k 0 h l)

    go : Dec (n ≤ s) → Dec (n ≤ s + 1) → (s ≡ 0) ⊎ (get_or least_volumes s 0 ≤ volume) → (343 ≤ s + 1) ⊎ (volume < get_or least_volumes (s + 1) 0) → n - 1 ≡ s
    go (yes a) d (inl e) h = omega arith
    go (yes a) d (inr e) h = let x : ⊥ = omega (arith, high s a within) in absurd x
    go (no a) (yes b) l h = omega arith
    go (no a) (no b) l (inl e) = omega arith
    go (no a) (no b) l (inr e) = let x : ⊥ = omega (arith, low (s + 1) (omega arith)) in absurd x
