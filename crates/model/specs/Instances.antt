-- Proved. Five contents with their bytes and their figures, as numbers. Assumes nothing.
use Rattle.std.specs.Prelude.{◌≡◌, List, [], ◌∷◌, ◌++◌, ℕ, zero, suc, length}
use Rattle.model.specs.Content.{given, on_curve, Target, described, in_seconds, timed, Tree, outcome, branching, Content}
use Rattle.model.specs.Format.{leaks_of, count_of, bytes_of}
use Rattle.model.specs.Valid.{Valid}
use Rattle.model.specs.Report.{kind_total, unjudged_of, sum_at, margin_at, exact_at, grade_of, domino_of}

-- what a report shows of a content, with the exact sums
pub record Shown : Type 0 where
  pub records : ℕ
  pub leaks : ℕ
  pub kinds : List ℕ
  pub unjudged : ℕ
  pub sums : List ℕ
  pub margins : List ℕ
  pub grades : List ℕ
  pub domino : List ℕ
  pub exacts : List ℕ

-- a figure at 0, 1, .. below n
abbrev pub figures_below : ℕ → (ℕ → ℕ) → List ℕ
figures_below zero f = []
figures_below (suc n) f = figures_below n f ++ (f n ∷ [])

unfoldable pub shown_of : Content → Shown
shown_of c =
    record {
      records = count_of c;
      leaks = leaks_of c;
      kinds = figures_below 6 (kind_total c);
      unjudged = unjudged_of c;
      sums = figures_below (length c.targets) (sum_at c);
      margins = figures_below (length c.targets) (margin_at c);
      grades = figures_below (length c.targets) (λ t. grade_of (sum_at c t));
      domino = domino_of c;
      exacts = figures_below (length c.targets) (exact_at c);
    }

-- a content is valid, has these bytes, and a report shows these figures of it
pub record Instance (c : Content) (b : List ℕ) (s : Shown) : Type 0 where
  pub valid : Valid c
  pub bytes : bytes_of c ≡ b
  pub shown : shown_of c ≡ s

abbrev pub target : ℕ → ℕ → ℕ → Target
target class setting volume = described (record { class = class; setting = setting; volume = volume })

-- 01, "The specimen study"
unfoldable pub specimen : Content
specimen =
    record {
      number = 7;
      targets = target 0 0 0 ∷ target 1 0 500 ∷ [];
      scenarios =
          record {
            number = 1;
            frequency = 100000000;
            tree =
                branching (given 100000) (outcome 2 (in_seconds 0 12500 20 ∷ []))
                (branching (given 250000) (outcome 5 (in_seconds 0 20000 0 ∷ in_seconds 1 70000 0 ∷ [])) (outcome 0 []));
          }
          ∷ [];
    }

abbrev pub specimen_bytes : List ℕ
specimen_bytes =
    1 ∷ 0 ∷ 0 ∷ 0 ∷ 7 ∷
    2 ∷ 0 ∷ 0 ∷ 0 ∷ 0 ∷ 0 ∷ 0 ∷ 0 ∷ 0 ∷
    2 ∷ 0 ∷ 1 ∷ 1 ∷ 0 ∷ 0 ∷ 0 ∷ 1 ∷ 244 ∷
    3 ∷ 0 ∷ 0 ∷ 0 ∷ 1 ∷ 0 ∷ 0 ∷ 0 ∷ 0 ∷ 5 ∷ 245 ∷ 225 ∷ 0 ∷
    4 ∷ 0 ∷ 1 ∷ 134 ∷ 160 ∷
    5 ∷ 2 ∷ 0 ∷ 1 ∷
    6 ∷ 0 ∷ 0 ∷ 0 ∷ 0 ∷ 48 ∷ 212 ∷ 0 ∷ 20 ∷
    4 ∷ 0 ∷ 3 ∷ 208 ∷ 144 ∷
    5 ∷ 5 ∷ 0 ∷ 2 ∷
    6 ∷ 0 ∷ 0 ∷ 0 ∷ 0 ∷ 78 ∷ 32 ∷ 0 ∷ 0 ∷
    6 ∷ 0 ∷ 1 ∷ 0 ∷ 1 ∷ 17 ∷ 112 ∷ 0 ∷ 0 ∷
    5 ∷ 0 ∷ 0 ∷ 0 ∷
    7 ∷ 0 ∷ 0 ∷ 0 ∷ 13 ∷ 0 ∷ 0 ∷ 0 ∷ 0 ∷ 5 ∷ 245 ∷ 225 ∷ 0 ∷ []

abbrev pub specimen_shown : Shown
specimen_shown =
    record {
      records = 13;
      leaks = 100000000;
      kinds = 67500000 ∷ 0 ∷ 10000000 ∷ 0 ∷ 0 ∷ 22500000 ∷ [];
      unjudged = 0;
      sums = 600000 ∷ 16200000 ∷ [];
      margins = 5 ∷ 3 ∷ [];
      grades = 1 ∷ 3 ∷ [];
      domino = 1 ∷ [];
      exacts = 600000000000000000000000000000000000000000000000000000000000 ∷ 16200000000000000000000000000000000000000000000000000000000000 ∷ [];
    }

abbrev pub SpecimenHolds : Type 0
SpecimenHolds = Instance specimen specimen_bytes specimen_shown

-- A content with a remainder at each of eight branchings: the frequency falls from 10,000,003 to 9,999,922, below 10^7, and
-- target 2 is listed all the same; 67,000 Pa on target 1 is 70 % and lists it not; target 3 is named by no effect.
unfoldable pub stem : ℕ → Tree → Tree
stem zero t = t
stem (suc n) t = branching (given 999999) (stem n t) (outcome 0 [])

unfoldable pub deep : Content
deep =
    record {
      number = 8;
      targets = target 0 0 0 ∷ target 1 0 0 ∷ target 1 0 0 ∷ target 5 0 0 ∷ [];
      scenarios =
          record {
            number = 5;
            frequency = 10000003;
            tree = stem 8 (outcome 5 (in_seconds 0 30000 0 ∷ in_seconds 1 67000 0 ∷ in_seconds 2 70000 0 ∷ []));
          }
          ∷ [];
    }

abbrev pub deep_bytes : List ℕ
deep_bytes =
    1 ∷ 0 ∷ 0 ∷ 0 ∷ 8 ∷
    2 ∷ 0 ∷ 0 ∷ 0 ∷ 0 ∷ 0 ∷ 0 ∷ 0 ∷ 0 ∷
    2 ∷ 0 ∷ 1 ∷ 1 ∷ 0 ∷ 0 ∷ 0 ∷ 0 ∷ 0 ∷
    2 ∷ 0 ∷ 2 ∷ 1 ∷ 0 ∷ 0 ∷ 0 ∷ 0 ∷ 0 ∷
    2 ∷ 0 ∷ 3 ∷ 5 ∷ 0 ∷ 0 ∷ 0 ∷ 0 ∷ 0 ∷
    3 ∷ 0 ∷ 0 ∷ 0 ∷ 5 ∷ 0 ∷ 0 ∷ 0 ∷ 0 ∷ 0 ∷ 152 ∷ 150 ∷ 131 ∷
    4 ∷ 0 ∷ 15 ∷ 66 ∷ 63 ∷
    4 ∷ 0 ∷ 15 ∷ 66 ∷ 63 ∷
    4 ∷ 0 ∷ 15 ∷ 66 ∷ 63 ∷
    4 ∷ 0 ∷ 15 ∷ 66 ∷ 63 ∷
    4 ∷ 0 ∷ 15 ∷ 66 ∷ 63 ∷
    4 ∷ 0 ∷ 15 ∷ 66 ∷ 63 ∷
    4 ∷ 0 ∷ 15 ∷ 66 ∷ 63 ∷
    4 ∷ 0 ∷ 15 ∷ 66 ∷ 63 ∷
    5 ∷ 5 ∷ 0 ∷ 3 ∷
    6 ∷ 0 ∷ 0 ∷ 0 ∷ 0 ∷ 117 ∷ 48 ∷ 0 ∷ 0 ∷
    6 ∷ 0 ∷ 1 ∷ 0 ∷ 1 ∷ 5 ∷ 184 ∷ 0 ∷ 0 ∷
    6 ∷ 0 ∷ 2 ∷ 0 ∷ 1 ∷ 17 ∷ 112 ∷ 0 ∷ 0 ∷
    5 ∷ 0 ∷ 0 ∷ 0 ∷
    5 ∷ 0 ∷ 0 ∷ 0 ∷
    5 ∷ 0 ∷ 0 ∷ 0 ∷
    5 ∷ 0 ∷ 0 ∷ 0 ∷
    5 ∷ 0 ∷ 0 ∷ 0 ∷
    5 ∷ 0 ∷ 0 ∷ 0 ∷
    5 ∷ 0 ∷ 0 ∷ 0 ∷
    5 ∷ 0 ∷ 0 ∷ 0 ∷
    7 ∷ 0 ∷ 0 ∷ 0 ∷ 27 ∷ 0 ∷ 0 ∷ 0 ∷ 0 ∷ 0 ∷ 152 ∷ 150 ∷ 131 ∷ []

abbrev pub deep_shown : Shown
deep_shown =
    record {
      records = 27;
      leaks = 10000003;
      kinds = 81 ∷ 0 ∷ 0 ∷ 0 ∷ 0 ∷ 9999922 ∷ [];
      unjudged = 0;
      sums = 9999922 ∷ 6999945 ∷ 7199943 ∷ 0 ∷ [];
      margins = 9 ∷ 9 ∷ 9 ∷ 0 ∷ [];
      grades = 2 ∷ 2 ∷ 2 ∷ 0 ∷ [];
      domino = 2 ∷ [];
      exacts =
          9999923000255999524000531999650000112000003999986000003000000
          ∷ 6999946100179199666800372399755000078400002799990200002100000
          ∷ 7199944560184319657280383039748000080640002879989920002160000
          ∷ 0
          ∷ [];
    }

abbrev pub DeepHolds : Type 0
DeepHolds = Instance deep deep_bytes deep_shown

-- A tank farm under 02, request P1: one pool fire on pressurised vessels of 0, 1, 9,823, 9,824 and 10,001 m³. The first and the last are unjudged. At 1,000,000 W/m²
-- Y is 457,583 + 24,162,546 - 16,336,715 = 8,283,414 for 1 m³ (K 1000), 99.9 %, which lists it. At 2,000,000 W/m² the third has K 1341, Y 457,583 + 25,374,936
-- - 21,907,534 = 3,924,985, 14 %, and the fourth K 1342, Y 3,908,648, 13 %.
unfoldable pub tank_farm : Content
tank_farm =
    record {
      number = 9;
      targets = target 2 0 0 ∷ target 2 0 1 ∷ target 2 0 9823 ∷ target 2 0 9824 ∷ target 2 0 10001 ∷ [];
      scenarios =
          record {
            number = 1;
            frequency = 10000000;
            tree =
                outcome 1
                (in_seconds 0 2000000 601 ∷ in_seconds 1 1000000 601 ∷ in_seconds 2 2000000 601 ∷ in_seconds 3 2000000 601 ∷ in_seconds 4 2000000 601 ∷ []);
          }
          ∷ [];
    }

abbrev pub tank_farm_bytes : List ℕ
tank_farm_bytes =
    1 ∷ 0 ∷ 0 ∷ 0 ∷ 9 ∷
    2 ∷ 0 ∷ 0 ∷ 2 ∷ 0 ∷ 0 ∷ 0 ∷ 0 ∷ 0 ∷
    2 ∷ 0 ∷ 1 ∷ 2 ∷ 0 ∷ 0 ∷ 0 ∷ 0 ∷ 1 ∷
    2 ∷ 0 ∷ 2 ∷ 2 ∷ 0 ∷ 0 ∷ 0 ∷ 38 ∷ 95 ∷
    2 ∷ 0 ∷ 3 ∷ 2 ∷ 0 ∷ 0 ∷ 0 ∷ 38 ∷ 96 ∷
    2 ∷ 0 ∷ 4 ∷ 2 ∷ 0 ∷ 0 ∷ 0 ∷ 39 ∷ 17 ∷
    3 ∷ 0 ∷ 0 ∷ 0 ∷ 1 ∷ 0 ∷ 0 ∷ 0 ∷ 0 ∷ 0 ∷ 152 ∷ 150 ∷ 128 ∷
    5 ∷ 1 ∷ 0 ∷ 5 ∷
    6 ∷ 0 ∷ 0 ∷ 0 ∷ 30 ∷ 132 ∷ 128 ∷ 2 ∷ 89 ∷
    6 ∷ 0 ∷ 1 ∷ 0 ∷ 15 ∷ 66 ∷ 64 ∷ 2 ∷ 89 ∷
    6 ∷ 0 ∷ 2 ∷ 0 ∷ 30 ∷ 132 ∷ 128 ∷ 2 ∷ 89 ∷
    6 ∷ 0 ∷ 3 ∷ 0 ∷ 30 ∷ 132 ∷ 128 ∷ 2 ∷ 89 ∷
    6 ∷ 0 ∷ 4 ∷ 0 ∷ 30 ∷ 132 ∷ 128 ∷ 2 ∷ 89 ∷
    7 ∷ 0 ∷ 0 ∷ 0 ∷ 14 ∷ 0 ∷ 0 ∷ 0 ∷ 0 ∷ 0 ∷ 152 ∷ 150 ∷ 128 ∷ []

abbrev pub tank_farm_shown : Shown
tank_farm_shown =
    record {
      records = 14;
      leaks = 10000000;
      kinds = 0 ∷ 10000000 ∷ 0 ∷ 0 ∷ 0 ∷ 0 ∷ [];
      unjudged = 2;
      sums = 0 ∷ 9990000 ∷ 1400000 ∷ 1300000 ∷ 0 ∷ [];
      margins = 1 ∷ 1 ∷ 1 ∷ 1 ∷ 1 ∷ [];
      grades = 0 ∷ 2 ∷ 2 ∷ 2 ∷ 0 ∷ [];
      domino = 1 ∷ [];
      exacts =
          0
          ∷ 9990000000000000000000000000000000000000000000000000000000000
          ∷ 1400000000000000000000000000000000000000000000000000000000000
          ∷ 1300000000000000000000000000000000000000000000000000000000000
          ∷ 0
          ∷ [];
    }

abbrev pub TankFarmHolds : Type 0
TankFarmHolds = Instance tank_farm tank_farm_bytes tank_farm_shown

-- Fires timed in seconds and in tenths in one outcome (02, request P6), at 12,500 W/m²: 100 s, by kind 6 and by kind 8, count as 20, 39,865,194 - 36,380,000, Y 3,485,194,
-- 6 %; 100 tenths are 43,982,487 - 42,274,618, Y 1,707,869, 0; 200 tenths are 45,756,943 - 42,274,618, Y 3,482,325, 6 %. On a vessel of 100,000 m³
-- 15,001 W/m² for 6001 tenths are 44 %; on pressurised vessels of 1 m³ 60,000 W/m² for 6000 tenths do no damage, and for 6001 tenths 5 %.
unfoldable pub fireballs : Content
fireballs =
    record {
      number = 10;
      targets = target 0 0 0 ∷ target 0 0 0 ∷ target 0 0 0 ∷ target 0 0 0 ∷ target 1 0 100000 ∷ target 2 0 1 ∷ target 2 0 1 ∷ [];
      scenarios =
          record {
            number = 1;
            frequency = 100000000;
            tree =
                outcome 3
                (in_seconds 0 12500 100 ∷ timed 1 12500 100 0 ∷ timed 2 12500 100 1 ∷ timed 3 12500 200 1 ∷ timed 4 15001 6001 1 ∷ timed 5 60000 6000 1 ∷ timed 6 60000 6001 1 ∷ []);
          }
          ∷ [];
    }

abbrev pub fireballs_bytes : List ℕ
fireballs_bytes =
    1 ∷ 0 ∷ 0 ∷ 0 ∷ 10 ∷
    2 ∷ 0 ∷ 0 ∷ 0 ∷ 0 ∷ 0 ∷ 0 ∷ 0 ∷ 0 ∷
    2 ∷ 0 ∷ 1 ∷ 0 ∷ 0 ∷ 0 ∷ 0 ∷ 0 ∷ 0 ∷
    2 ∷ 0 ∷ 2 ∷ 0 ∷ 0 ∷ 0 ∷ 0 ∷ 0 ∷ 0 ∷
    2 ∷ 0 ∷ 3 ∷ 0 ∷ 0 ∷ 0 ∷ 0 ∷ 0 ∷ 0 ∷
    2 ∷ 0 ∷ 4 ∷ 1 ∷ 0 ∷ 0 ∷ 1 ∷ 134 ∷ 160 ∷
    2 ∷ 0 ∷ 5 ∷ 2 ∷ 0 ∷ 0 ∷ 0 ∷ 0 ∷ 1 ∷
    2 ∷ 0 ∷ 6 ∷ 2 ∷ 0 ∷ 0 ∷ 0 ∷ 0 ∷ 1 ∷
    3 ∷ 0 ∷ 0 ∷ 0 ∷ 1 ∷ 0 ∷ 0 ∷ 0 ∷ 0 ∷ 5 ∷ 245 ∷ 225 ∷ 0 ∷
    5 ∷ 3 ∷ 0 ∷ 7 ∷
    6 ∷ 0 ∷ 0 ∷ 0 ∷ 0 ∷ 48 ∷ 212 ∷ 0 ∷ 100 ∷
    8 ∷ 0 ∷ 1 ∷ 0 ∷ 0 ∷ 48 ∷ 212 ∷ 0 ∷ 100 ∷ 0 ∷
    8 ∷ 0 ∷ 2 ∷ 0 ∷ 0 ∷ 48 ∷ 212 ∷ 0 ∷ 100 ∷ 1 ∷
    8 ∷ 0 ∷ 3 ∷ 0 ∷ 0 ∷ 48 ∷ 212 ∷ 0 ∷ 200 ∷ 1 ∷
    8 ∷ 0 ∷ 4 ∷ 0 ∷ 0 ∷ 58 ∷ 153 ∷ 23 ∷ 113 ∷ 1 ∷
    8 ∷ 0 ∷ 5 ∷ 0 ∷ 0 ∷ 234 ∷ 96 ∷ 23 ∷ 112 ∷ 1 ∷
    8 ∷ 0 ∷ 6 ∷ 0 ∷ 0 ∷ 234 ∷ 96 ∷ 23 ∷ 113 ∷ 1 ∷
    7 ∷ 0 ∷ 0 ∷ 0 ∷ 18 ∷ 0 ∷ 0 ∷ 0 ∷ 0 ∷ 5 ∷ 245 ∷ 225 ∷ 0 ∷ []

abbrev pub fireballs_shown : Shown
fireballs_shown =
    record {
      records = 18;
      leaks = 100000000;
      kinds = 0 ∷ 0 ∷ 0 ∷ 100000000 ∷ 0 ∷ 0 ∷ [];
      unjudged = 0;
      sums = 6000000 ∷ 6000000 ∷ 0 ∷ 6000000 ∷ 44000000 ∷ 0 ∷ 5000000 ∷ [];
      margins = 1 ∷ 1 ∷ 1 ∷ 1 ∷ 1 ∷ 1 ∷ 1 ∷ [];
      grades = 2 ∷ 2 ∷ 0 ∷ 2 ∷ 3 ∷ 0 ∷ 2 ∷ [];
      domino = [];
      exacts =
          6000000000000000000000000000000000000000000000000000000000000
          ∷ 6000000000000000000000000000000000000000000000000000000000000
          ∷ 0
          ∷ 6000000000000000000000000000000000000000000000000000000000000
          ∷ 44000000000000000000000000000000000000000000000000000000000000
          ∷ 0
          ∷ 5000000000000000000000000000000000000000000000000000000000000
          ∷ [];
    }

abbrev pub FireballsHold : Type 0
FireballsHold = Instance fireballs fireballs_bytes fireballs_shown

-- Chances by curves and given ones in one tree (02, request P3). Curve 8 at 500 kg/s, a tabulated rate, is 12 %: 12,000,000 of 100,000,000 go to the pool fire, and 6 % of
-- them are 720,000. Of the rest 25 % explode: 22,000,000, and 72 % of them are 15,840,000. Curve 12 just above 0.2 kg/s is its 0.11 % at 0.5 kg/s: 72,600 of
-- 66,000,000 go to the flash fire.
unfoldable pub ignited : Content
ignited =
    record {
      number = 11;
      targets = target 0 0 0 ∷ target 1 0 500 ∷ [];
      scenarios =
          record {
            number = 1;
            frequency = 100000000;
            tree =
                branching (on_curve 8 5000000) (outcome 1 (in_seconds 0 12500 20 ∷ []))
                (branching (given 250000) (outcome 5 (in_seconds 0 20000 0 ∷ in_seconds 1 70000 0 ∷ []))
                (branching (on_curve 12 2001) (outcome 4 (in_seconds 0 1 0 ∷ [])) (outcome 0 [])));
          }
          ∷ [];
    }

abbrev pub ignited_bytes : List ℕ
ignited_bytes =
    1 ∷ 0 ∷ 0 ∷ 0 ∷ 11 ∷
    2 ∷ 0 ∷ 0 ∷ 0 ∷ 0 ∷ 0 ∷ 0 ∷ 0 ∷ 0 ∷
    2 ∷ 0 ∷ 1 ∷ 1 ∷ 0 ∷ 0 ∷ 0 ∷ 1 ∷ 244 ∷
    3 ∷ 0 ∷ 0 ∷ 0 ∷ 1 ∷ 0 ∷ 0 ∷ 0 ∷ 0 ∷ 5 ∷ 245 ∷ 225 ∷ 0 ∷
    10 ∷ 8 ∷ 0 ∷ 76 ∷ 75 ∷ 64 ∷
    5 ∷ 1 ∷ 0 ∷ 1 ∷
    6 ∷ 0 ∷ 0 ∷ 0 ∷ 0 ∷ 48 ∷ 212 ∷ 0 ∷ 20 ∷
    4 ∷ 0 ∷ 3 ∷ 208 ∷ 144 ∷
    5 ∷ 5 ∷ 0 ∷ 2 ∷
    6 ∷ 0 ∷ 0 ∷ 0 ∷ 0 ∷ 78 ∷ 32 ∷ 0 ∷ 0 ∷
    6 ∷ 0 ∷ 1 ∷ 0 ∷ 1 ∷ 17 ∷ 112 ∷ 0 ∷ 0 ∷
    10 ∷ 12 ∷ 0 ∷ 0 ∷ 7 ∷ 209 ∷
    5 ∷ 4 ∷ 0 ∷ 1 ∷
    6 ∷ 0 ∷ 0 ∷ 0 ∷ 0 ∷ 0 ∷ 1 ∷ 0 ∷ 0 ∷
    5 ∷ 0 ∷ 0 ∷ 0 ∷
    7 ∷ 0 ∷ 0 ∷ 0 ∷ 16 ∷ 0 ∷ 0 ∷ 0 ∷ 0 ∷ 5 ∷ 245 ∷ 225 ∷ 0 ∷ []

abbrev pub ignited_shown : Shown
ignited_shown =
    record {
      records = 16;
      leaks = 100000000;
      kinds = 65927400 ∷ 12000000 ∷ 0 ∷ 0 ∷ 72600 ∷ 22000000 ∷ [];
      unjudged = 0;
      sums = 792600 ∷ 15840000 ∷ [];
      margins = 9 ∷ 3 ∷ [];
      grades = 1 ∷ 3 ∷ [];
      domino = 1 ∷ [];
      exacts = 792600000000000000000000000000000000000000000000000000000000 ∷ 15840000000000000000000000000000000000000000000000000000000000 ∷ [];
    }

abbrev pub IgnitedHolds : Type 0
IgnitedHolds = Instance ignited ignited_bytes ignited_shown
