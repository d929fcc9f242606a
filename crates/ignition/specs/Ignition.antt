-- To be believed. 02, request P3: the chance of ignition by a curve and a release rate. The curves are tables E.3.2-1 to E.3.2-13 of source document 004. Assumes nothing.
use Rattle.std.specs.Prelude.{◌≡◌, List, [], ◌∷◌, ℕ, ◌+◌, ◌<◌, ◌≤◌, get_or, length}
use Rattle.numeric.specs.Choice.{if_le}
use Rattle.numeric.specs.Share.{certain}

-- the rates of every table, 0.1 to 1000 kg/s, in tenths of a gram per second
abbrev pub rates : List ℕ
rates = 1000 ∷ 2000 ∷ 5000 ∷ 10000 ∷ 20000 ∷ 50000 ∷ 100000 ∷ 200000 ∷ 500000 ∷ 1000000 ∷ 2000000 ∷ 5000000 ∷ 10000000 ∷ []

-- a row for each table, in their order: the chances at these rates, in millionths; 500 kg/s of the eighth is 0.1200 (printed 0.160)
abbrev pub curves : List (List ℕ)
curves =
    (1000 ∷ 1300 ∷ 1900 ∷ 2500 ∷ 7400 ∷ 20400 ∷ 33900 ∷ 56400 ∷ 110700 ∷ 184200 ∷ 306500 ∷ 600000 ∷ 600000 ∷ []) ∷
    (1000 ∷ 1300 ∷ 1800 ∷ 2400 ∷ 4200 ∷ 8800 ∷ 15500 ∷ 27200 ∷ 57000 ∷ 100000 ∷ 100000 ∷ 100000 ∷ 100000 ∷ []) ∷
    (1000 ∷ 1300 ∷ 1800 ∷ 2400 ∷ 4200 ∷ 8800 ∷ 13000 ∷ 13000 ∷ 13000 ∷ 13000 ∷ 13000 ∷ 13000 ∷ 13000 ∷ []) ∷
    (1000 ∷ 1300 ∷ 1900 ∷ 2500 ∷ 5000 ∷ 12500 ∷ 25000 ∷ 50000 ∷ 125000 ∷ 250000 ∷ 500000 ∷ 650000 ∷ 650000 ∷ []) ∷
    (1000 ∷ 1300 ∷ 1900 ∷ 2500 ∷ 4500 ∷ 9700 ∷ 17300 ∷ 31000 ∷ 67000 ∷ 120000 ∷ 130000 ∷ 130000 ∷ 130000 ∷ []) ∷
    (1000 ∷ 1300 ∷ 1800 ∷ 2400 ∷ 4200 ∷ 8800 ∷ 15500 ∷ 27200 ∷ 50000 ∷ 50000 ∷ 50000 ∷ 50000 ∷ 50000 ∷ []) ∷
    (1000 ∷ 1300 ∷ 1900 ∷ 2500 ∷ 5800 ∷ 17600 ∷ 40700 ∷ 94200 ∷ 286000 ∷ 481500 ∷ 600000 ∷ 700000 ∷ 700000 ∷ []) ∷
    (1000 ∷ 1100 ∷ 1200 ∷ 1200 ∷ 1600 ∷ 2400 ∷ 3700 ∷ 6800 ∷ 15300 ∷ 28100 ∷ 51700 ∷ 120000 ∷ 120000 ∷ []) ∷
    (1000 ∷ 1100 ∷ 1200 ∷ 1200 ∷ 1600 ∷ 2400 ∷ 3700 ∷ 6800 ∷ 15000 ∷ 15000 ∷ 15000 ∷ 15000 ∷ 15000 ∷ []) ∷
    (1000 ∷ 1000 ∷ 1000 ∷ 1000 ∷ 1100 ∷ 1100 ∷ 1400 ∷ 2100 ∷ 2400 ∷ 2400 ∷ 2400 ∷ 2400 ∷ 2400 ∷ []) ∷
    (1000 ∷ 1000 ∷ 1100 ∷ 1200 ∷ 3200 ∷ 12100 ∷ 33400 ∷ 91700 ∷ 349200 ∷ 960000 ∷ 1000000 ∷ 1000000 ∷ 1000000 ∷ []) ∷
    (1000 ∷ 1000 ∷ 1100 ∷ 1200 ∷ 2600 ∷ 7300 ∷ 16200 ∷ 35900 ∷ 102600 ∷ 227000 ∷ 355500 ∷ 643400 ∷ 1000000 ∷ []) ∷
    (1000 ∷ 1000 ∷ 1100 ∷ 1200 ∷ 2500 ∷ 7100 ∷ 15400 ∷ 20400 ∷ 29600 ∷ 39200 ∷ 52000 ∷ 75500 ∷ 100000 ∷ []) ∷
    []

-- the place of the first number of a list that is not below x; the last place where all are below it
unfoldable pub place_of : List ℕ → ℕ → ℕ
place_of [] x = 0
place_of (q ∷ []) x = 0
place_of (q ∷ r ∷ qs) x = if_le x q 0 (1 + place_of (r ∷ qs) x)

-- "the least tabulated rate not below the given one; above 1000 kg/s the last"
unfoldable pub column : ℕ → ℕ
column rate = place_of rates rate

-- the chances of a curve; they are numbered from 1 on, and there are none of any other
abbrev pub row : ℕ → List ℕ
row curve = get_or ([] ∷ curves) curve []

-- the chance of a curve at a rate; 0 of a curve that there is not
unfoldable pub ignition : ℕ → ℕ → ℕ
ignition curve rate = get_or (row curve) (column rate) 0

-- P3's words for a column, which a reader may hold against them
pub record LeastNotBelow (rate j : ℕ) : Type 0 where
  pub reaches : rate ≤ 10000000 → rate ≤ get_or rates j 0
  pub least : (i : ℕ) → i < length rates → rate ≤ get_or rates i 0 → get_or rates j 0 ≤ get_or rates i 0
  pub last : 10000000 < rate → j ≡ 12

-- The one statement over all curves.
pub record CurvesHold : Type 0 where
  -- "no row falls with the rate": of every curve, at every two rates
  pub rise : (curve a b : ℕ) → a ≤ b → ignition curve a ≤ ignition curve b
  -- no chance is above certainty
  pub bounded : (curve rate : ℕ) → ignition curve rate ≤ certain
  -- the column is the one that P3 describes
  pub at : (rate : ℕ) → LeastNotBelow rate (column rate)
  -- "each is a row of thirteen chances at the same thirteen rates"
  pub thirteen : (curve : ℕ) → 1 ≤ curve → curve ≤ length curves → length (row curve) ≡ length rates
